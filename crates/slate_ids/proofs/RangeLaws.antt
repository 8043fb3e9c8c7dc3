-- Ranges of keys are sets of keys: what two of them have in common, those that aren't proper, and those of a prefix.
use Rattle.std.specs.Prelude.{ℕ, Bool, true, false, ◌&&◌, List}
use Rattle.std.proofs.Common.{◌≡◌, refl, sym, ap, ◌∙◌}
use Rattle.std.specs.declared.ops.Bound.{Bound}
use Rattle.slate_ids.specs.Keys.{is_past, is_up_to, is_ordered, later, earlier}
use Rattle.slate_ids.specs.KeyRange.{KeyRange, has_key, is_proper, common, ranges_meet}
use Rattle.slate_ids.proofs.Places.{place_le, place_le-trans, place_of_key, place_of_start, place_of_end, is_past-place, is_up_to-place, is_ordered-place, later-le, earlier-le}

four : (a b c d : Bool) → ((a && b) && (c && d)) ≡ ((a && c) && (b && d))
four true true c d = refl
four true false true d = refl
four true false false d = refl
four false b c d = refl

later_past : (a b : Bound (List ℕ)) (k : List ℕ) → is_past (later a b) k ≡ (is_past a k && is_past b k)
later_past a b k = is_past-place (later a b) k ∙ later-le a b (place_of_key k) ∙ ap (λ t. t && place_le (place_of_start b) (place_of_key k)) (sym (is_past-place a k)) ∙ ap (λ t. is_past a k && t) (sym (is_past-place b k))

earlier_up_to : (a b : Bound (List ℕ)) (k : List ℕ) → is_up_to (earlier a b) k ≡ (is_up_to a k && is_up_to b k)
earlier_up_to a b k = is_up_to-place (earlier a b) k ∙ earlier-le a b (place_of_key k) ∙ ap (λ t. t && place_le (place_of_key k) (place_of_end b)) (sym (is_up_to-place a k)) ∙ ap (λ t. is_up_to a k && t) (sym (is_up_to-place b k))

-- what two ranges have in common has the keys that are in both
pub common_keys : (a b : KeyRange) (key : List ℕ) → has_key (common a b) key ≡ (has_key a key && has_key b key)
unfolding common
common_keys a b key = ap (λ t. t && is_up_to (earlier a.end b.end) key) (later_past a.start b.start key) ∙ ap (λ t. (is_past a.start key && is_past b.start key) && t) (earlier_up_to a.end b.end key) ∙ four (is_past a.start key) (is_past b.start key) (is_up_to a.end key) (is_up_to b.end key)

both_true : (a b c : Bool) → (a ≡ true → b ≡ true → c ≡ true) → c ≡ false → (a && b) ≡ false
both_true true true c f h = sym (f refl refl) ∙ h
both_true true false c f h = refl
both_true false b c f h = refl

-- a range that isn't proper has no keys
pub improper_no_keys : (r : KeyRange) (key : List ℕ) → is_proper r ≡ false → has_key r key ≡ false
improper_no_keys r key h = both_true (is_past r.start key) (is_up_to r.end key) (is_ordered r.start r.end) (λ p q. is_ordered-place r.start r.end ∙ place_le-trans (place_of_start r.start) (place_of_key key) (place_of_end r.end) (sym (is_past-place r.start key) ∙ p) (sym (is_up_to-place r.end key) ∙ q)) h

later_ordered : (a b e : Bound (List ℕ)) → is_ordered (later a b) e ≡ (is_ordered a e && is_ordered b e)
later_ordered a b e = is_ordered-place (later a b) e ∙ later-le a b (place_of_end e) ∙ ap (λ t. t && place_le (place_of_start b) (place_of_end e)) (sym (is_ordered-place a e)) ∙ ap (λ t. is_ordered a e && t) (sym (is_ordered-place b e))

earlier_ordered : (s a b : Bound (List ℕ)) → is_ordered s (earlier a b) ≡ (is_ordered s a && is_ordered s b)
earlier_ordered s a b = is_ordered-place s (earlier a b) ∙ earlier-le a b (place_of_start s) ∙ ap (λ t. t && place_le (place_of_start s) (place_of_end b)) (sym (is_ordered-place s a)) ∙ ap (λ t. is_ordered s a && t) (sym (is_ordered-place s b))

sides : (p q r s : Bool) → ((p && r) && (s && q)) ≡ (p && q && r && s)
sides true true true s = sides_last s
  where
    sides_last : (b : Bool) → (b && true) ≡ b
    sides_last true = refl
    sides_last false = refl
sides true true false s = refl
sides true false true true = refl
sides true false true false = refl
sides true false false s = refl
sides false q r s = refl

-- two ranges meet exactly where both are proper and each starts before the other ends
pub meet_sides : (a b : KeyRange) → ranges_meet a b ≡ (is_proper a && is_proper b && is_ordered a.start b.end && is_ordered b.start a.end)
unfolding common
meet_sides a b = later_ordered a.start b.start (earlier a.end b.end) ∙ ap (λ t. t && is_ordered b.start (earlier a.end b.end)) (earlier_ordered a.start a.end b.end) ∙ ap (λ t. (is_ordered a.start a.end && is_ordered a.start b.end) && t) (earlier_ordered b.start a.end b.end) ∙ sides (is_ordered a.start a.end) (is_ordered b.start b.end) (is_ordered a.start b.end) (is_ordered b.start a.end)
