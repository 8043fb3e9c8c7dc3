-- A run that is inserted where the first lesser one stands comes to its place.
use Rattle.std.specs.Prelude.{ℕ, ◌+◌, nat_lt, not, Bool, true, false, List, [], ◌∷◌, insert, if◌then◌else◌}
use Rattle.std.proofs.Common.{◌≡◌, suc, refl, sym, ap, ◌∙◌, arith}
use Rattle.std.specs.List.{prefix_len}
use Rattle.slate_model_tables.specs.SortedRuns.{Run}
use Rattle.slate_state_compactor.specs.Finishing.{with_run}

one_more : (n : ℕ) → suc n ≡ 1 + n
one_more n = omega arith

pub run_inserted : (run : Run) (runs : List Run) → insert runs (prefix_len (λ r. not (nat_lt r.id run.id)) runs) run ≡ with_run run runs
run_inserted run [] = refl
run_inserted run (r ∷ runs) = by (run_inserted run runs) (nat_lt r.id run.id)
  where
    by : insert runs (prefix_len (λ x. not (nat_lt x.id run.id)) runs) run ≡ with_run run runs → (b : Bool) → insert (r ∷ runs) (if not b then 1 + prefix_len (λ x. not (nat_lt x.id run.id)) runs else 0) run ≡ (if b then run ∷ r ∷ runs else r ∷ with_run run runs)
    by more true = refl
    by more false = sym (ap (λ i. insert (r ∷ runs) i run) (one_more (prefix_len (λ x. not (nat_lt x.id run.id)) runs))) ∙ ap (λ (rs : List Run). r ∷ rs) more
