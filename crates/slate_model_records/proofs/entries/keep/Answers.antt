use Rattle.std.proofs.Common.{◌∙◌, ap, sym, Result, Ok, Err, OnErr}
use Rattle.slate_model_records.specs.Entries.{compactions_of, UnderOwnIds}
use Rattle.slate_model_records.proofs.Ordered.{ascending, found, updated}
use Rattle.slate_model_records.proofs.Inserted.{inserted_is, still_own}
use Rattle.slate_model_records.proofs.entries.keep.Goals as goal

on_any_err : {T E P : Type 0} (r : Result T E) → P → OnErr r P
on_any_err (Ok x) p = tt
on_any_err (Err e) p = p

pub returns-in_err-insert-clause-absent : goal.returns-in_err-insert-clause-absent
returns-in_err-insert-clause-absent c = on_any_err c.from_residual.result (sym (found c.args.compaction.id c.args.entries.now.entries c.requires) ∙ c.in_err-insert.ensures.absent)

pub returns-clause-own : goal.returns-clause-own
returns-clause-own c = rw c.in_ok-insert.ensures.entries (still_own c.args.compaction c.args.entries.now.entries c.requires)

pub returns-clause-ok : goal.returns-clause-ok
returns-clause-ok c = ap compactions_of c.in_ok-insert.ensures.entries ∙ inserted_is c.args.compaction c.args.entries.now.entries c.requires (ascending c.args.entries.now.entries c.in_ok-insert.ensures.was_ordered c.requires)

pub returns-clause-found : goal.returns-clause-found
returns-clause-found c =
    let own : UnderOwnIds c.insert.new.self.entries = rw c.in_ok-insert.ensures.entries (still_own c.args.compaction c.args.entries.now.entries c.requires) in
    λ id. updated id c.args.compaction c.args.entries.now.entries c.insert.new.self.entries c.requires own (c.in_ok-insert.ensures.updates.0 id)
