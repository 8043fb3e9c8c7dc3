mod Goings
mod Endings
mod PutSteps
mod ReadsKeep
