use Rattle.std.proofs.Common.{◌≡◌, ◌++◌, drop}
use Rattle.slate_gc_picks.specs.WalCovers as covers
use Rattle.slate_gc_picks.proofs.wal_cover.raised.Given as goal

-- the spans so far, and what follows
abbrev pub invariant-loop-span : goal.invariant-loop-span
invariant-loop-span l = l.tops.items ++ covers.raised l.last (drop l.span-index l.spans) ≡ covers.raised 0 l.spans
