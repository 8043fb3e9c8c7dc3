use Rattle.std.proofs.Common.{◌≡◌, ◌++◌, map, filter}
use Rattle.slate_store.specs.Folders.{is_in}
use Rattle.slate_store.specs.Store.{metadata}
use Rattle.slate_store.proofs.listing.listing.Given as goal

abbrev pub invariant-loop-path : goal.invariant-loop-path
invariant-loop-path l = l.found.items ++ map metadata (filter (λ o. is_in l.dir o.0) l.path-iterator) ≡ map metadata (filter (λ o. is_in l.dir o.0) l.objects.entries)
