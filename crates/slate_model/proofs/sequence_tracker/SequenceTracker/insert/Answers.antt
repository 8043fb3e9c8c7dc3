use Rattle.std.proofs.Common.{ℕ, ℤ, ◌≡◌, ◌-◌, None, true, false, Result, Ok, Err, OnErr, rules, FitsSigned, w64, length, slice_get}
use Rattle.std.specs.List.{last_or}
use Rattle.std.proofs.lemmas.Int.{to_z-of_z}
use Rattle.slate_model.specs.Sequences.{may_follow}
use Rattle.slate_model.proofs.Trackers.{IsTracker-append, inserted_is, refused_is, after_last}
use Rattle.slate_model.proofs.sequence_tracker.SequenceTracker.insert.Goals as goal

pub invariant_of-self : goal.invariant_of-self
invariant_of-self c =
    let old = c.self.inside.pairs.items in
    let pair : ℕ × ℤ = (c.args.seq, c.args.ts) in
    let fits : FitsSigned w64 c.args.ts = c.ranges.ts in
    let last : c.copied.result ≡ slice_get old (length old - 1) = search rules in
    let follows = rw (to_z-of_z w64 c.args.ts fits) at c.follows_last.ensures in
    let after : may_follow (last_or None old) pair ≡ true = after_last old c.copied.result pair true last (search rules) in
    let append = rw (to_z-of_z w64 c.args.ts fits) at c.append.ensures in
    IsTracker-append c.append.result old c.append.new.pairs.items pair append.ok append.err c.self.invariant follows.fits after

pub returns-then-follows_last-clause-ok : goal.returns-then-follows_last-clause-ok
returns-then-follows_last-clause-ok c =
    let old = c.self.inside.pairs.items in
    let pair : ℕ × ℤ = (c.args.seq, c.args.ts) in
    let fits : FitsSigned w64 c.args.ts = c.ranges.ts in
    let last : c.copied.result ≡ slice_get old (length old - 1) = search rules in
    let after : may_follow (last_or None old) pair ≡ true = after_last old c.copied.result pair true last (search rules) in
    let append = rw (to_z-of_z w64 c.args.ts fits) at c.append.ensures in
    rw (← c.self.view_is) (inserted_is c.append.result old c.append.new.pairs.items pair append.ok after)

pub returns-then-follows_last-clause-added : goal.returns-then-follows_last-clause-added
returns-then-follows_last-clause-added c =
    let old = c.self.inside.pairs.items in
    let pair : ℕ × ℤ = (c.args.seq, c.args.ts) in
    let last : c.copied.result ≡ slice_get old (length old - 1) = search rules in
    rw (← c.self.view_is) (on_any_err c.append.result (after_last old c.copied.result pair true last (search rules)))
  where
    on_any_err : {T E P : Type 0} (r : Result T E) → P → OnErr r P
    on_any_err (Ok x) p = tt
    on_any_err (Err e) p = p

pub returns-else-follows_last-clause-ok : goal.returns-else-follows_last-clause-ok
returns-else-follows_last-clause-ok c =
    let old = c.self.inside.pairs.items in
    let pair : ℕ × ℤ = (c.args.seq, c.args.ts) in
    let last : c.copied.result ≡ slice_get old (length old - 1) = search rules in
    rw (← c.self.view_is) (refused_is old pair (after_last old c.copied.result pair false last (search rules)))
