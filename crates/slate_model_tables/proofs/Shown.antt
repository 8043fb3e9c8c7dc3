-- A view shows a key exactly where its effective range has one.
use Rattle.std.specs.Prelude.{ℕ, Bool, true, false, List, Option, Some, None, is_some, if◌then◌else◌}
use Rattle.std.proofs.Common.{◌≡◌, refl, sym, ap, ◌∙◌}
use Rattle.std.specs.declared.ops.Bound.{Bound}
use Rattle.std.specs.declared.ops.Bound.TheVariants.{Included, Excluded, Unbounded}
use Rattle.slate_ids.specs.Keys.{is_ordered, is_up_to, starts_before, later}
use Rattle.slate_ids.specs.KeyRange.{KeyRange, common, is_proper}
use Rattle.slate_model_tables.specs.declared.ss_table_handle.SsTableHandle.{SsTableHandle}
use Rattle.slate_model_tables.specs.Tables.{keys_between, physical_range}
use Rattle.slate_model_tables.specs.Views.{View, MayShow, seen_in, effective_range, starts_with_key, has_first_key, shows_key, HasKey}
use Rattle.slate_model_tables.proofs.Slots.{begins, own_start, included_ordered}

-- the key that a view starts at is in its effective range
pub some_key : (v : View) → shows_key v ≡ true → HasKey (effective_range v)
some_key v h = let b = begins v h in (b.key, own_start (effective_range v) b.key b refl)

-- a range that starts at a key that it doesn't have isn't proper
first_missing : (s e : Bound (List ℕ)) (k : List ℕ) → s ≡ Included k → has_first_key s e ≡ false → is_ordered s e ≡ false
first_missing s e k at h = ap (λ x. is_ordered x e) at ∙ included_ordered k e ∙ sym (ap (λ x. has_first_key x e) at) ∙ h

-- the range of a table without its first key has none
whole : (first last : Option (List ℕ)) → has_first_key (keys_between first last).start (keys_between first last).end ≡ false → is_proper (keys_between first last) ≡ false
unfolding is_ordered is_up_to
whole None last h = refl
whole (Some k) None h = absurd cc
whole (Some k) (Some l) h = h

chosen : (b : Bool) (k : List ℕ) (s : Bound (List ℕ)) (j : List ℕ) → s ≡ Included j → (i : List ℕ) × ((if b then s else Included k) ≡ Included i)
chosen true k s j at = (j, at)
chosen false k s j at = (k, refl)

-- of two starts of which one is at a key, and the other at a key or open, the later is at a key
later_key : (k : List ℕ) (s : Bound (List ℕ)) → starts_with_key s ≡ true → (i : List ℕ) × (later (Included k) s ≡ Included i)
unfolding starts_before
later_key k (Included j) h = chosen (starts_before (Included k) (Included j)) k (Included j) j refl
later_key k (Excluded j) h = absurd cc
later_key k Unbounded h = (k, refl)

-- what is visible of a table starts at a key
visible_key : (first last : Option (List ℕ)) (r : KeyRange) → is_some first ≡ true → starts_with_key r.start ≡ true → (i : List ℕ) × ((common (keys_between first last) r).start ≡ Included i)
unfolding common
visible_key None last r e s = absurd cc
visible_key (Some k) None r e s = later_key k r.start s
visible_key (Some k) (Some l) r e s = later_key k r.start s

seen : (first last : Option (List ℕ)) (range : KeyRange) (visible : Option KeyRange) → range ≡ keys_between first last → ((r : KeyRange) → visible ≡ Some r → (is_some first ≡ true) × (starts_with_key r.start ≡ true)) → has_first_key (seen_in range visible).start (seen_in range visible).end ≡ false → is_proper (seen_in range visible) ≡ false
seen first last range None e may h = ap is_proper e ∙ whole first last (sym (ap (λ r. has_first_key r.start r.end) e) ∙ h)
seen first last range (Some r) e may h =
    let parts = may r refl in
    let at = visible_key first last r parts.0 parts.1 in
    first_missing (common range r).start (common range r).end at.0 (ap (λ x. (common x r).start) e ∙ at.1) h

may_parts : (sst : SsTableHandle) (visible : Option KeyRange) → MayShow sst visible → (r : KeyRange) → visible ≡ Some r → (is_some sst.info.first_entry ≡ true) × (starts_with_key r.start ≡ true)
may_parts sst None may r e = absurd cc
may_parts sst (Some q) may r e = let same : q ≡ r = cc in (may.entries, ap (λ x. starts_with_key x.start) (sym same) ∙ may.start)

-- where a view doesn't show the key that it starts at, its effective range isn't proper
pub not_proper : (v : View) → MayShow v.sst v.visible → shows_key v ≡ false → is_proper (effective_range v) ≡ false
not_proper v may h = seen v.sst.info.first_entry v.sst.info.last_entry (physical_range v.sst) v.visible refl (may_parts v.sst v.visible may) h
