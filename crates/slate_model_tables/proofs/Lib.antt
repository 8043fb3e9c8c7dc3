mod Projections
mod Slots
mod Covers
mod Spans
mod Counting
mod Overlaps
mod Ascents
mod Shown
