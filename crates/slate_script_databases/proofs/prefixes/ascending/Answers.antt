use Rattle.std.proofs.Common.{sym, ◌∙◌, ap}
use Rattle.std.proofs.lemmas.List.{drop_all}
use Rattle.std.specs.List.{filter, fold}
use Rattle.slate_script_databases.specs.Databases.{with_prefix, is_some_prefix}
use Rattle.slate_script_databases.proofs.Ascending.{next_prefix}
use Rattle.slate_script_databases.proofs.prefixes.ascending.Goals as goal

pub loop-prefix-preserved : goal.loop-prefix-preserved
loop-prefix-preserved c =
    let next = next_prefix c.loop-prefix.prefixes.keys c.add_prefix.new.prefixes.keys c.args.named.now _ c.loop-prefix.prefix-index c.prefix-item.result c.loop-prefix-test.true c.prefix-item.is c.loop-prefix.invariant.ascends c.loop-prefix.invariant.so_far c.in_ok-add_prefix.ensures in
    record { so_far = next.0; ascends = next.1 }

pub returns : goal.returns
returns c = sym (ap (λ l. fold with_prefix c.loop-prefix.prefixes.keys (filter is_some_prefix l)) (drop_all c.loop-prefix.prefix-index c.args.named.now c.loop-prefix-test.false)) ∙ c.loop-prefix.invariant.so_far
