mod FencedMay
mod NotBegun
mod CheckpointsStand
mod AnswersFence
mod FirstStand
