mod Same
mod Starting
