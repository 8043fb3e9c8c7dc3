mod Sets
mod Placing
mod Ends
mod Known
