use Rattle.std.proofs.Common.{◌≡◌, take}
use Rattle.slate_store.proofs.object.copy_listing.Given as goal

abbrev pub invariant-loop-metadata : goal.invariant-loop-metadata
invariant-loop-metadata l = l.copied ≡ take l.metadata-index l.listing
