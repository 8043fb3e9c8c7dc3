-- One more database of an opening.
use Rattle.std.proofs.Common.{◌≡◌, ℕ, suc, add-one, ◌+◌, ◌<◌, Bool, true, false, List, ◌∷◌, length, get_or, drop, Option, Some, None, sym, ap, ◌∙◌, drop-cons}
use Rattle.std.specs.Prelude.{if◌then◌else◌}
use Rattle.slate_ids.specs.declared.object_path.ObjectPath.{ObjectPath}
use Rattle.slate_script_events.specs.declared.db_spec.DbSpec.{DbSpec}
use Rattle.slate_cluster_protocol.specs.Specs.{First, and_more, first_bytes, first_added, firsts_from}

abbrev Firsts : Type 0
Firsts = List (ObjectPath × First)

-- the item at a place, and those after it
pub next_item : {X : Type 0} (xs : List X) (i : ℕ) (x : X) → i < length xs → x ≡ get_or xs i x → drop i xs ≡ x ∷ drop (i + 1) xs
next_item {X} xs i x lt h = rw (add-one) (drop-cons xs i x lt ∙ ap (λ (y : X). y ∷ drop (suc i) xs) (sym h))

-- the first manifest of a database was added
pub one_more_first : (specs : List DbSpec) (i : ℕ) (spec : DbSpec) (old new : Firsts) (all : Option Firsts) (b : Bool) → i < length specs → spec ≡ get_or specs i spec → b ≡ true
    → (if b then Some new else None) ≡ first_added old spec (first_bytes spec.manifest) → firsts_from old (drop i specs) ≡ all → firsts_from new (drop (i + 1) specs) ≡ all
one_more_first specs i spec old new all true lt h e added so_far =
    ap (λ (o : Option Firsts). and_more o (λ (more : Firsts). firsts_from more (drop (i + 1) specs))) added
    ∙ (sym (ap (firsts_from old) (next_item specs i spec lt h)) ∙ so_far)
one_more_first specs i spec old new all false lt h e added so_far = absurd cc
