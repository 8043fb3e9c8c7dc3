mod Rows
mod TurnRows
mod PlainTwins
