mod OneMore
mod Sets
mod WalCovered
