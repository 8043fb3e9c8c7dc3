mod Exact
mod ManifestPicks
mod LatestReads
mod TablePicks
mod RulePicks
pub mod ExactByRule
mod Left
mod DryRuns
mod Encodable
mod Alone
mod Sources
pub mod Undisturbed
