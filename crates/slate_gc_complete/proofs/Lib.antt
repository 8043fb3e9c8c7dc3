mod Leaving
mod PassSteps
mod Passes
mod LayoutWays
