mod ExactPasses
mod PassRose
mod Ranks
mod ReportRose
mod Stages
mod Takes
