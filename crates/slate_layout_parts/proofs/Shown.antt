-- What a view may show is proper.
use Rattle.std.specs.Prelude.{◌≡◌, true, Option, Some, None, refl}
use Rattle.std.proofs.Common.{subst, inl, inr}
use Rattle.std.proofs.lemmas.Bool.{and_from}
use Rattle.slate_ids.specs.KeyRange.{KeyRange, IsRange, is_proper, no_keys}
use Rattle.slate_model_tables.specs.declared.ss_table_handle.SsTableHandle.{SsTableHandle}
use Rattle.slate_model_tables.specs.Views.{MayShow, starts_with_key}
use Rattle.slate_layout_parts.specs.Typed.{is_shown}

-- where all is visible
pub all_shown : (h : SsTableHandle) (visible : Option KeyRange) → visible ≡ None → is_shown h visible ≡ true
all_shown h None e = refl
all_shown h (Some r) e = absurd cc

proper : (r : KeyRange) → starts_with_key r.start ≡ true → IsRange r → is_proper r ≡ true
proper r start (inl e) = e
proper r start (inr e) = let bad : starts_with_key no_keys.start ≡ true = subst (λ (q : KeyRange). starts_with_key q.start ≡ true) e start in absurd cc

-- where a range is
pub range_shown : (h : SsTableHandle) (visible : Option KeyRange) (r : KeyRange) → visible ≡ Some r → MayShow h visible → IsRange r → is_shown h visible ≡ true
range_shown h None r e may range = absurd cc
range_shown h (Some q) r e may range =
    let same : r ≡ q = cc in
    let of_q : IsRange q = subst IsRange same range in
    and_from _ _ (proper q may.start of_q) (and_from _ _ may.start may.meets)
