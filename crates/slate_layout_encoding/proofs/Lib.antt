mod SameHandles
mod GatheredLaws
mod GatheredTests
mod GatheredAgain
mod FittingCheckpoints
mod FittingTrees
pub mod NormalKept
pub mod RoundTrip
pub mod Written
pub mod UnequalHandles
