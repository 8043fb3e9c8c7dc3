mod Events
mod Doing
mod ToldLines
mod Outcomes
mod Reached
