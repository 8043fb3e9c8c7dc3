mod BothViews
mod PlainPuts
mod OpenSteps
mod StateSteps
mod PlainCalls
