pub mod Ascents
mod Fronts
mod WriterTurns
mod CompactorTurns
mod ByPrefix
mod Trees
