use Rattle.std.proofs.Common.{◌≡◌, ◌++◌, map}
use Rattle.slate_store.proofs.memory_store.copy_paths.Given as goal

abbrev pub invariant-loop-path : goal.invariant-loop-path
invariant-loop-path l = l.paths.items ++ map (λ o. o.0) l.path-iterator ≡ map (λ o. o.0) l.objects.entries
