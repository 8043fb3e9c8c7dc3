mod CheckedFaults
mod Wheres
