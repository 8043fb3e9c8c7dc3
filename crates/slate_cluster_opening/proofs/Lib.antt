mod Carrying
mod Openings
mod Seen
mod Absent
mod Differing
mod Stale
mod Named
