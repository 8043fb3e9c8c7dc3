-- The end of a compaction leaves the newer part of L0, and runs whose numbers descend.
use Rattle.std.specs.Prelude.{ℕ, ◌&&◌, ◌||◌, ◌==◌, nat_lt, not, Bool, true, false, List, [], ◌∷◌, Some, None, if◌then◌else◌}
use Rattle.std.specs.List.{list_all, list_any}
use Rattle.std.proofs.Common.{◌≡◌, refl, sym, ap, ◌∙◌, subst, arith}
use Rattle.std.proofs.lemmas.Bool.Decides.{nat_tests}
use Rattle.slate_state_compactor.specs.EndLaws.{descend, IsNewer, LeavesNewer}
use Rattle.slate_state_compactor.specs.Finishing.{collides, finished_tree, are_good, tree_without, output_run, views_left, runs_left, with_run, with_written}
use Rattle.slate_state_compactor.specs.Sources.{all_stand, has_number, is_suffix, source_runs, source_views, takes_on}
use Rattle.slate_model.specs.declared.lsm_tree_state.LsmTreeState.{LsmTreeState}
use Rattle.slate_model_records.specs.Compactions.{sources_of}
use Rattle.slate_model_records.specs.Retaining.{has_id}
use Rattle.slate_model_records.specs.declared.compaction_spec.CompactionSpec.{CompactionSpec}
use Rattle.slate_model_records.specs.declared.compaction_spec.CompactionSpec.TheVariants.{Tiered, DrainSegment}
use Rattle.slate_model_tables.specs.SortedRuns.{Run}
use Rattle.slate_model_tables.specs.Views.{View}
use Rattle.slate_model_tables.specs.declared.ss_table_handle.SsTableHandle.{SsTableHandle}

-- ---- tests

both_left : (a b : Bool) → (a && b) ≡ true → a ≡ true
both_left true b h = refl
both_left false b h = absurd cc

both_right : (a b : Bool) → (a && b) ≡ true → b ≡ true
both_right true b h = h
both_right false b h = absurd cc

both : (a b : Bool) → a ≡ true → b ≡ true → (a && b) ≡ true
both true b h k = k
both false b h k = absurd cc

neither : (b : Bool) → not b ≡ true → b ≡ false
neither true h = absurd cc
neither false h = refl

below : (a b c : ℕ) → nat_lt a b ≡ true → nat_lt b c ≡ true → nat_lt a c ≡ true
below a b c h k = grind (arith, nat_tests)

above : (a n : ℕ) → nat_lt a n ≡ false → (a == n) ≡ false → nat_lt n a ≡ true
above a n h k = grind (arith, nat_tests)

-- ---- views

-- from the first that is taken all are
all_taken : (takes : ℕ × ℕ → Bool) (views : List View) → takes_on true takes views ≡ true → (list_all (λ v. takes v.id) views ≡ true) × (views_left takes views ≡ [])
all_taken takes [] h = (refl, refl)
all_taken takes (v ∷ views) h = by (all_taken takes views) (takes v.id) h
  where
    by : (takes_on true takes views ≡ true → (list_all (λ w. takes w.id) views ≡ true) × (views_left takes views ≡ [])) → (b : Bool) → (if not b then false else takes_on true takes views) ≡ true
        → ((b && list_all (λ w. takes w.id) views) ≡ true) × ((if not b then v ∷ views_left takes views else views_left takes views) ≡ [])
    by more true h = more h
    by more false h = absurd cc

newer : (takes : ℕ × ℕ → Bool) (views : List View) → is_suffix takes views ≡ true → IsNewer takes views (views_left takes views)
newer takes [] h = record { dropped = []; whole = refl; taken = refl; stays = refl }
newer takes (v ∷ views) h = by (newer takes views) (all_taken takes views) (takes v.id) refl h
  where
    by : (is_suffix takes views ≡ true → IsNewer takes views (views_left takes views)) → (takes_on true takes views ≡ true → (list_all (λ w. takes w.id) views ≡ true) × (views_left takes views ≡ []))
        → (b : Bool) → takes v.id ≡ b → takes_on b takes views ≡ true → IsNewer takes (v ∷ views) (if not b then v ∷ views_left takes views else views_left takes views)
    by more all true is h =
        let rest = all h in
        subst (λ (left : List View). IsNewer takes (v ∷ views) left) (sym rest.1) (record {
          dropped = v ∷ views;
          whole = refl;
          taken = both (takes v.id) (list_all (λ w. takes w.id) views) is rest.0;
          stays = refl;
        })
    by more all false is h =
        let rest = more h in
        record {
          dropped = rest.dropped;
          whole = ap (λ (vs : List View). v ∷ vs) rest.whole;
          taken = rest.taken;
          stays = ap (λ (b : Bool). b || list_any (λ w. takes w.id) (views_left takes views)) is ∙ rest.stays;
        }

-- ---- runs

all_left : (takes : ℕ → Bool) (n : ℕ) (runs : List Run) → list_all (λ s. nat_lt s.id n) runs ≡ true → list_all (λ s. nat_lt s.id n) (runs_left takes runs) ≡ true
all_left takes n [] h = refl
all_left takes n (r ∷ runs) h = by (takes r.id) (both_left (nat_lt r.id n) _ h) (all_left takes n runs (both_right (nat_lt r.id n) _ h))
  where
    by : (b : Bool) → nat_lt r.id n ≡ true → list_all (λ s. nat_lt s.id n) (runs_left takes runs) ≡ true → list_all (λ s. nat_lt s.id n) (if not b then r ∷ runs_left takes runs else runs_left takes runs) ≡ true
    by true here rest = rest
    by false here rest = both (nat_lt r.id n) _ here rest

descend_left : (takes : ℕ → Bool) (runs : List Run) → descend runs ≡ true → descend (runs_left takes runs) ≡ true
descend_left takes [] h = refl
descend_left takes (r ∷ runs) h = by (takes r.id) (all_left takes r.id runs (both_left (list_all (λ s. nat_lt s.id r.id) runs) _ h)) (descend_left takes runs (both_right (list_all (λ s. nat_lt s.id r.id) runs) _ h))
  where
    by : (b : Bool) → list_all (λ s. nat_lt s.id r.id) (runs_left takes runs) ≡ true → descend (runs_left takes runs) ≡ true → descend (if not b then r ∷ runs_left takes runs else runs_left takes runs) ≡ true
    by true here rest = rest
    by false here rest = both (list_all (λ s. nat_lt s.id r.id) (runs_left takes runs)) _ here rest

all_below : (a b : ℕ) (runs : List Run) → nat_lt a b ≡ true → list_all (λ s. nat_lt s.id a) runs ≡ true → list_all (λ s. nat_lt s.id b) runs ≡ true
all_below a b [] lt h = refl
all_below a b (r ∷ runs) lt h = both (nat_lt r.id b) _ (below r.id a b (both_left (nat_lt r.id a) _ h) lt) (all_below a b runs lt (both_right (nat_lt r.id a) _ h))

all_with : (n : ℕ) (run : Run) (runs : List Run) → nat_lt run.id n ≡ true → list_all (λ s. nat_lt s.id n) runs ≡ true → list_all (λ s. nat_lt s.id n) (with_run run runs) ≡ true
all_with n run [] lt h = both (nat_lt run.id n) true lt refl
all_with n run (r ∷ runs) lt h = by (nat_lt r.id run.id) (all_with n run runs lt (both_right (nat_lt r.id n) _ h))
  where
    by : (b : Bool) → list_all (λ s. nat_lt s.id n) (with_run run runs) ≡ true → list_all (λ s. nat_lt s.id n) (if b then run ∷ r ∷ runs else r ∷ with_run run runs) ≡ true
    by true rest = both (nat_lt run.id n) _ lt h
    by false rest = both (nat_lt r.id n) _ (both_left (nat_lt r.id n) _ h) rest

-- no run of a list has a number
abbrev NoRun : ℕ → List Run → Type 0
NoRun n runs = list_any (λ r. r.id == n) runs ≡ false

first_not : (a b : Bool) → (a || b) ≡ false → a ≡ false
first_not true b h = absurd cc
first_not false b h = refl

rest_not : (a b : Bool) → (a || b) ≡ false → b ≡ false
rest_not true b h = absurd cc
rest_not false b h = h

descend_with : (run : Run) (runs : List Run) → NoRun run.id runs → descend runs ≡ true → descend (with_run run runs) ≡ true
descend_with run [] none h = refl
descend_with run (r ∷ runs) none h =
    by (nat_lt r.id run.id) refl (descend_with run runs (rest_not (r.id == run.id) _ none) (both_right (list_all (λ s. nat_lt s.id r.id) runs) _ h))
  where
    by : (b : Bool) → nat_lt r.id run.id ≡ b → descend (with_run run runs) ≡ true → descend (if b then run ∷ r ∷ runs else r ∷ with_run run runs) ≡ true
    by true is rest = both (nat_lt r.id run.id && list_all (λ s. nat_lt s.id run.id) runs) _ (both (nat_lt r.id run.id) _ is (all_below r.id run.id runs is (both_left (list_all (λ s. nat_lt s.id r.id) runs) _ h))) h
    by false is rest = both (list_all (λ s. nat_lt s.id r.id) (with_run run runs)) _ (all_with r.id run runs (above r.id run.id is (first_not (r.id == run.id) _ none)) (both_left (list_all (λ s. nat_lt s.id r.id) runs) _ h)) rest

written : (spec : CompactionSpec) (outputs : List SsTableHandle) (left : List Run) → collides spec left ≡ false → descend left ≡ true → descend (with_written spec outputs left) ≡ true
written (Tiered segment sources destination) outputs left none h = descend_with (output_run destination outputs) left none h
written (DrainSegment segment sources) outputs left none h = h

-- ---- the tree

-- where a tree is made its sources are good, and it is the tree without them
pub record IsMade (spec : CompactionSpec) (outputs : List SsTableHandle) (tree made : LsmTreeState) : Type 0 where
  pub good : are_good (has_id (source_views (sources_of spec))) (has_number (source_runs (sources_of spec))) spec tree ≡ true
  pub same : tree_without (has_id (source_views (sources_of spec))) (has_number (source_runs (sources_of spec))) spec outputs tree ≡ made

is_made : (spec : CompactionSpec) (outputs : List SsTableHandle) (tree made : LsmTreeState) → finished_tree spec outputs tree ≡ Some made → IsMade spec outputs tree made
is_made spec outputs tree made h = by (are_good view run spec tree) refl h
  where
    view : ℕ × ℕ → Bool
    view = has_id (source_views (sources_of spec))

    run : ℕ → Bool
    run = has_number (source_runs (sources_of spec))

    by : (b : Bool) → are_good view run spec tree ≡ b → (if b then Some (tree_without view run spec outputs tree) else None) ≡ Some made → IsMade spec outputs tree made
    by true is h = record { good = is; same = cc }
    by false is h = absurd cc

pub leaves_newer : (spec : CompactionSpec) (outputs : List SsTableHandle) (tree made : LsmTreeState) → finished_tree spec outputs tree ≡ Some made → LeavesNewer spec tree made
leaves_newer spec outputs tree made h =
    let view = has_id (source_views (sources_of spec)) in
    let m = is_made spec outputs tree made h in
    let suffix = both_left (is_suffix view tree.l0) _ (both_right (all_stand (sources_of spec) tree) _ m.good) in
    subst (λ (t : LsmTreeState). LeavesNewer spec tree t) m.same (newer view tree.l0 suffix)

pub runs_descend : (spec : CompactionSpec) (outputs : List SsTableHandle) (tree made : LsmTreeState) → finished_tree spec outputs tree ≡ Some made → descend tree.compacted ≡ true → descend made.compacted ≡ true
runs_descend spec outputs tree made h d =
    let view = has_id (source_views (sources_of spec)) in
    let run = has_number (source_runs (sources_of spec)) in
    let m = is_made spec outputs tree made h in
    let apart = neither (collides spec (runs_left run tree.compacted)) (both_right (is_suffix view tree.l0) _ (both_right (all_stand (sources_of spec) tree) _ m.good)) in
    subst (λ (t : LsmTreeState). descend t.compacted ≡ true) m.same (written spec outputs (runs_left run tree.compacted) apart (descend_left run tree.compacted d))
