-- One more id of an opening.
use Rattle.std.proofs.Common.{◌≡◌, ℕ, ◌+◌, ◌<◌, Bool, true, false, List, length, get_or, drop, Option, None, sym, ap, ◌∙◌}
use Rattle.std.specs.Prelude.{if◌then◌else◌, ◌&&◌}
use Rattle.std.specs.List.{list_all}
use Rattle.std.specs.BTreeSet.{insert_key}
use Rattle.slate_ids.specs.Ulids.{id_cmp, is_id}
use Rattle.slate_cluster_protocol.specs.Specs.{is_seen, seen_from}
use Rattle.slate_cluster_opening.proofs.Openings.{next_item}

abbrev Ids : Type 0
Ids = List (ℕ × ℕ)

module _ (seen ids : Ids) (i : ℕ) (id key : ℕ × ℕ) (all : Option Ids) (lt : i < length ids) (at : id ≡ get_or ids i id) (same : key ≡ id) (so_far : seen_from seen (drop i ids) ≡ all) where
  by_test : (b : Bool) → is_seen key seen ≡ b → (if b then None else seen_from (insert_key id_cmp seen id) (drop (i + 1) ids)) ≡ all
  by_test b is =
      ap (λ (t : Bool). if t then None else seen_from (insert_key id_cmp seen id) (drop (i + 1) ids)) (sym is ∙ ap (λ (k : ℕ × ℕ). is_seen k seen) same)
      ∙ (sym (ap (seen_from seen) (next_item ids i id lt at)) ∙ so_far)

  -- an id that came already
  pub seen_twice : is_seen key seen ≡ true → None ≡ all
  seen_twice is = by_test true is

  -- an id that is new
  pub seen_once : (new : Ids) → is_seen key seen ≡ false → new ≡ insert_key id_cmp seen key → seen_from new (drop (i + 1) ids) ≡ all
  seen_once new is made = ap (λ (s : Ids). seen_from s (drop (i + 1) ids)) (made ∙ ap (insert_key id_cmp seen) same) ∙ by_test false is

-- whether the ids that are left are ids
pub left_fit : (ids : Ids) (i : ℕ) (id : ℕ × ℕ) (all : Bool) → i < length ids → id ≡ get_or ids i id → is_id id ≡ true → list_all is_id (drop i ids) ≡ all → list_all is_id (drop (i + 1) ids) ≡ all
left_fit ids i id all lt at fits so_far =
    sym (ap (λ (b : Bool). b && list_all is_id (drop (i + 1) ids)) fits) ∙ (sym (ap (list_all is_id) (next_item ids i id lt at)) ∙ so_far)
