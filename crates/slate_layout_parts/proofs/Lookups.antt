-- Tables that ascend: those before an id stand first, and the one of the id right after them.
use Rattle.std.specs.Prelude.{ℕ, zero, suc, ◌+◌, ◌<◌, ◌≤◌, Bool, true, false, ◌&&◌, List, [], ◌∷◌, length, get_or, drop, slice_get, Some, None, if◌then◌else◌}
use Rattle.std.specs.List.Sorted.{IsPartitionedBy, IsPartitionPoint}
use Rattle.std.proofs.Common.{◌≡◌, refl, sym, ◌∙◌, ap, arith}
use Rattle.std.proofs.lemmas.Bool.{and_parts}
use Rattle.std.proofs.lemmas.List.{drop_more}
use Rattle.std.proofs.lemmas.List.Sums.{prefix_len_is}
use Rattle.slate_model_tables.specs.declared.ss_table_handle.SsTableHandle.{SsTableHandle}
use Rattle.slate_layout_parts.specs.TablesOfViews.{table_id, is_before, stands_before, ascend, table_at, of_id, place_of}
use Rattle.slate_ids.specs.Ulids.{same_id}
use Rattle.slate_ids.proofs.IdOrder.{chained, not_same, not_same_above, stays_above}

-- tables of which the first that is left stands after one, and which ascend
pub record After (h : SsTableHandle) (tables : List SsTableHandle) : Type 0 where
  pub first : stands_before h tables ≡ true
  pub rest : ascend tables ≡ true

pub after : (h : SsTableHandle) (tables : List SsTableHandle) → ascend (h ∷ tables) ≡ true → After h tables
after h tables a = let both = and_parts (stands_before h tables) (ascend tables) a in record { first = both.0; rest = both.1 }

above : (id : ℕ × ℕ) (h : SsTableHandle) (tables : List SsTableHandle) → After h tables → (j : ℕ) (d : SsTableHandle) → j < length tables → is_before id (get_or tables j d) ≡ true → is_before id h ≡ true
above id h [] a j d l e = absurd (omega arith)
above id h (k ∷ tables) a zero d l e = chained (table_id h.id) (table_id k.id) id a.first e
above id h (k ∷ tables) a (suc j) d l e = chained (table_id h.id) (table_id k.id) id a.first (above id k tables (after k tables a.rest) j d (omega arith) e)

pub parted : (id : ℕ × ℕ) (tables : List SsTableHandle) → ascend tables ≡ true → IsPartitionedBy (is_before id) tables
parted id [] a i j d o l e = absurd (omega arith)
parted id (h ∷ tables) a zero zero d o l e = e
parted id (h ∷ tables) a zero (suc j) d o l e = above id h tables (after h tables a) j d (omega arith) e
parted id (h ∷ tables) a (suc i) zero d o l e = absurd (omega arith)
parted id (h ∷ tables) a (suc i) (suc j) d o l e = parted id tables (after h tables a).rest i j d (omega arith) (omega arith) e

pub place_is : (id : ℕ × ℕ) (tables : List SsTableHandle) (d : SsTableHandle) (i : ℕ) → i ≤ length tables → IsPartitionPoint (λ h. is_before id h ≡ true) (λ h. is_before id h ≡ false) tables i → i ≡ place_of id tables
place_is id tables d i h point = sym (prefix_len_is (is_before id) tables i d h (λ k l. point.0 k d (omega arith) l) (λ l. point.1 i d (omega arith) l))

-- none of the tables above one that isn't before an id is of the id
pub none_above : (id : ℕ × ℕ) (h : SsTableHandle) (tables : List SsTableHandle) → After h tables → is_before id h ≡ false → table_at id tables ≡ None
none_above id h [] a n = refl
none_above id h (k ∷ tables) a n =
    ap (λ b. if b then Some k else table_at id tables) (not_same_above (table_id h.id) (table_id k.id) id a.first n) ∙ none_above id k tables (after k tables a.rest) (stays_above (table_id h.id) (table_id k.id) id a.first n)

one_more : (n : ℕ) → suc n ≡ 1 + n
one_more n = omega arith

pub found : (id : ℕ × ℕ) (tables : List SsTableHandle) → ascend tables ≡ true → table_at id tables ≡ of_id id (slice_get tables (place_of id tables))
found id [] a = refl
found id (h ∷ tables) a = by (is_before id h) refl (found id tables (after h tables a).rest)
  where
    by : (b : Bool) → is_before id h ≡ b → table_at id tables ≡ of_id id (slice_get tables (place_of id tables)) → table_at id (h ∷ tables) ≡ of_id id (slice_get (h ∷ tables) (if b then 1 + place_of id tables else 0))
    by true e later = ap (λ b. if b then Some h else table_at id tables) (not_same (table_id h.id) id e) ∙ later ∙ ap (λ i. of_id id (slice_get (h ∷ tables) i)) (one_more (place_of id tables))
    by false e later = ap (λ o. if same_id (table_id h.id) id then Some h else o) (none_above id h tables (after h tables a) e)

-- what the last table and those that are left say, one further
pub carried : (all : Bool) (h k : SsTableHandle) (i : ℕ) (others : List SsTableHandle) → i < length others → k ≡ get_or others i k → is_before (table_id k.id) h ≡ true → ascend (h ∷ drop i others) ≡ all → ascend (k ∷ drop (i + 1) others) ≡ all
carried all h k i others l e before a =
    let left : drop i others ≡ k ∷ drop (i + 1) others = drop_more others i k l ∙ ap (λ (u : SsTableHandle). u ∷ drop (i + 1) others) (sym e) in
    sym (ap (λ b. b && ascend (k ∷ drop (i + 1) others)) before) ∙ sym (ap (λ (ts : List SsTableHandle). ascend (h ∷ ts)) left) ∙ a

pub ended : (all : Bool) (h k : SsTableHandle) (i : ℕ) (others : List SsTableHandle) → i < length others → k ≡ get_or others i k → is_before (table_id k.id) h ≡ false → ascend (h ∷ drop i others) ≡ all → false ≡ all
ended all h k i others l e before a =
    let left : drop i others ≡ k ∷ drop (i + 1) others = drop_more others i k l ∙ ap (λ (u : SsTableHandle). u ∷ drop (i + 1) others) (sym e) in
    sym (ap (λ b. b && ascend (k ∷ drop (i + 1) others)) before) ∙ sym (ap (λ (ts : List SsTableHandle). ascend (h ∷ ts)) left) ∙ a
