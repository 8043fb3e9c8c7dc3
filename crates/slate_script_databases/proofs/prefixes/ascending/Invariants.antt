use Rattle.std.proofs.Common.{◌≡◌, true, [], drop}
use Rattle.std.specs.List.{filter, fold}
use Rattle.slate_script_databases.specs.Databases.{with_prefix, is_some_prefix, segment_prefixes}
use Rattle.slate_script_databases.proofs.Ascending.{ascend}
use Rattle.slate_script_databases.proofs.prefixes.ascending.Given as goal

-- the prefixes that are left still come to those so far, and these ascend
abbrev pub invariant-loop-prefix : goal.invariant-loop-prefix
invariant-loop-prefix l = record {
  so_far : fold with_prefix l.prefixes.keys (filter is_some_prefix (drop l.prefix-index l.named)) ≡ segment_prefixes l.named;
  ascends : ascend [] l.prefixes.keys ≡ true;
}
