mod Fences
mod Backs
mod Leading
mod Ending
