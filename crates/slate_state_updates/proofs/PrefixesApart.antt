-- Of prefixes that ascend none begins with another exactly where none begins with the one right before it.
use Rattle.std.specs.Prelude.{Bool, true, false, List, [], ◌∷◌, Some, None, if◌then◌else◌}
use Rattle.std.proofs.Common.{◌≡◌, ◌↔◌, refl, sym, ◌∙◌}
use Rattle.std.proofs.lemmas.Bool.{and_parts}
use Rattle.slate_ids.specs.Keys.{key_lt, begins_with}
use Rattle.slate_ids.specs.declared.error.SlateDBError.TheVariants.{InvalidSegmentPrefix}
use Rattle.slate_model.specs.Segments.{Prefixed, ascend_from, IsAscending}
use Rattle.slate_model.proofs.Apart.{none_later}
use Rattle.slate_model.specs.Selection.{none_begins, are_apart}
use Rattle.slate_state_updates.specs.Prefixes.{nested_after, prefix_refusal}

clash : (b : Bool) → b ≡ true → b ≡ false → ⊥
clash b t f = let e : true ≡ false = sym t ∙ f in cc

apart_after : (s : Prefixed) (ss : List Prefixed) → ascend_from s.prefix ss ≡ true → nested_after s ss ≡ None → are_apart (s ∷ ss) ≡ true
apart_after s [] a h = refl
apart_after s (t ∷ ss) a h = by_test (begins_with s.prefix t.prefix) refl h (λ rest. apart_after t ss parts.1 rest)
  where
    parts : (key_lt s.prefix t.prefix ≡ true) × (ascend_from t.prefix ss ≡ true)
    parts = and_parts (key_lt s.prefix t.prefix) (ascend_from t.prefix ss) a

    by_test : (b : Bool) → begins_with s.prefix t.prefix ≡ b → (if b then Some (InvalidSegmentPrefix t.prefix s.prefix) else nested_after t ss) ≡ None → (nested_after t ss ≡ None → are_apart (t ∷ ss) ≡ true) → are_apart (s ∷ t ∷ ss) ≡ true
    by_test true is e rest = absurd cc
    by_test false is e rest = rw (is, none_later s.prefix t.prefix ss parts.0 is parts.1) (rest e)

nested_none : (s : Prefixed) (ss : List Prefixed) → are_apart (s ∷ ss) ≡ true → nested_after s ss ≡ None
nested_none s [] h = refl
nested_none s (t ∷ ss) h = by_test (begins_with s.prefix t.prefix) refl (and_parts (none_begins s.prefix (t ∷ ss)) (are_apart (t ∷ ss)) h).0 (nested_none t ss (and_parts (none_begins s.prefix (t ∷ ss)) (are_apart (t ∷ ss)) h).1)
  where
    by_test : (b : Bool) → begins_with s.prefix t.prefix ≡ b → none_begins s.prefix (t ∷ ss) ≡ true → nested_after t ss ≡ None → (if b then Some (InvalidSegmentPrefix t.prefix s.prefix) else nested_after t ss) ≡ None
    by_test true is none rest = let begins : none_begins s.prefix (t ∷ ss) ≡ false = rw is refl in absurd (clash (none_begins s.prefix (t ∷ ss)) none begins)
    by_test false is none rest = rest

-- where no prefix begins with another none is refused
pub none_nested : (ss : List Prefixed) → are_apart ss ≡ true → prefix_refusal ss ≡ None
none_nested [] h = refl
none_nested (s ∷ ss) h = nested_none s ss h

pub apart : (ss : List Prefixed) → IsAscending ss → prefix_refusal ss ≡ None ↔ are_apart ss ≡ true
apart [] a = (λ h. refl, λ h. refl)
apart (s ∷ ss) a = (apart_after s ss (and_parts (key_lt [] s.prefix) (ascend_from s.prefix ss) a).1, nested_none s ss)
