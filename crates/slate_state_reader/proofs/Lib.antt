mod BothFaults
mod Viewed
