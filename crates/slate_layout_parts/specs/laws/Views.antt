-- Views and runs give back what was written, and find only that.
use Rattle.std.specs.Prelude.{◌≡◌, ℕ, ◌<◌, ◌^◌, ◌==◌, Bool, true, false, List, [], ◌∷◌, Option, Some, None, if◌then◌else◌, refl}
use Rattle.std.proofs.Common.{ap, sym, ◌∙◌, arith}
use Rattle.std.proofs.lemmas.Bool.Decides.{nat_tests}
use Rattle.std.proofs.lemmas.Bool.{and_parts}
use Rattle.slate_model_tables.specs.declared.ss_table_handle.SsTableHandle.{SsTableHandle}
use Rattle.slate_model_tables.specs.Views.{View}
use Rattle.slate_model_tables.specs.SortedRuns.{Run}
use Rattle.slate_layout_parts.specs.TablesOfViews.{table_id, table_at}
use Rattle.slate_ids.specs.Ulids.{same_id}
use Rattle.slate_layout_parts.specs.Bytes.{u32_bytes}
use Rattle.slate_layout_parts.specs.Reading.{u32_in}
use Rattle.slate_layout_parts.specs.Reads.{Reads}
use Rattle.slate_layout_parts.specs.laws.Groups.{option_reads, list_reads, pair_reads, made_reads}
use Rattle.slate_layout_parts.specs.laws.Atoms.{u32_reads}
use Rattle.slate_layout_parts.specs.laws.Texts.{id_reads}
use Rattle.slate_layout_parts.specs.laws.Ranges.{range_reads}
use Rattle.slate_layout_parts.specs.ViewParts.{ViewParts, may_show, shown, view_of, view_parts, view_parts_in, view_parts_bytes, ViewPartsFit, view_bytes, view_in, ViewFits, run_of, run_parts, run_bytes, run_in, RunFits}

-- ---- views

view_parts_reads : Reads view_parts_in view_parts_bytes ViewPartsFit 8
view_parts_reads = pair_reads _ _ _ 8 id_reads _ _ _ 8 (pair_reads _ _ _ 8 id_reads _ _ _ 1 (option_reads _ _ _ 1 range_reads))

same_is : (a b : ℕ × ℕ) → same_id a b ≡ true → a ≡ b
same_is a b h =
    let both = and_parts (a.0 == b.0) (a.1 == b.1) h in
    let first : a.0 ≡ b.0 = grind (arith, nat_tests) in
    let second : a.1 ≡ b.1 = grind (arith, nat_tests) in
    rw (first, second) refl

-- the table that was found of an id is of it
pub found_id : (id : ℕ × ℕ) (tables : List SsTableHandle) (h : SsTableHandle) → table_at id tables ≡ Some h → table_id h.id ≡ id
found_id id [] h e = absurd cc
found_id id (k ∷ tables) h e = by (same_id (table_id k.id) id) refl (found_id id tables h) e
  where
    by : (b : Bool) → same_id (table_id k.id) id ≡ b → (table_at id tables ≡ Some h → table_id h.id ≡ id) → (if b then Some k else table_at id tables) ≡ Some h → table_id h.id ≡ id
    by true s more e = let same : k ≡ h = cc in sym (ap (λ (t : SsTableHandle). table_id t.id) same) ∙ same_is (table_id k.id) id s
    by false s more e = more e

made_view : (b : Bool) (p : ViewParts) (h : SsTableHandle) (v : View)
    → (if b then Some (let w : View = record { id = p.0; sst = h; visible = p.1.1 } in w) else None) ≡ Some v
    → (let w : View = record { id = p.0; sst = h; visible = p.1.1 } in w) ≡ v
made_view true p h v e = cc
made_view false p h v e = absurd cc

of_parts : (tables : List SsTableHandle) (p : ViewParts) (v : View) (o : Option SsTableHandle) → table_at p.1.0 tables ≡ o → shown p o ≡ Some v → view_parts v ≡ p
of_parts tables p v None t e = absurd cc
of_parts tables p v (Some h) t e =
    let same = made_view (may_show h p.1.1) p h v e in
    sym (ap view_parts same) ∙ ap (λ id. (p.0, (id, p.1.1))) (found_id p.1.0 tables h t)

pub view_reads : (tables : List SsTableHandle) → Reads (view_in tables) view_bytes (ViewFits tables) 8
view_reads tables = made_reads view_parts_in view_parts_bytes ViewPartsFit 8 view_parts_reads (view_of tables) view_parts (λ x y fits e. of_parts tables x y (table_at x.1.0 tables) refl e)

-- ---- runs

run_apart : (p : ℕ × List View) (r : Run) → run_of p ≡ Some r → run_parts r ≡ p
run_apart p r e = let same : (let s : Run = record { id = p.0; views = p.1 } in s) ≡ r = cc in sym (ap run_parts same)

pub run_reads : (tables : List SsTableHandle) → Reads (run_in tables) run_bytes (RunFits tables) 4
run_reads tables = made_reads _ _ _ 4 (pair_reads u32_in u32_bytes (λ n. n < 2 ^ 32) 4 u32_reads _ _ _ 4
    (list_reads (view_in tables) view_bytes (ViewFits tables) 8 (view_reads tables))) run_of run_parts (λ x y fits e. run_apart x y e)
