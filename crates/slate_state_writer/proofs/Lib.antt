mod Measures
mod Owns
mod PutFaults
mod OpenFaults
mod StateFaults
mod StateLaws
mod Leaving
