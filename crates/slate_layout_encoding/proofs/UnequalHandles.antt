-- Nothing is gathered of views exactly where two of one table have unequal handles.
use Rattle.std.specs.Prelude.{◌≡◌, ◌↔◌, ℕ, Bool, true, false, List, [], ◌∷◌, Option, Some, None, if◌then◌else◌, refl}
use Rattle.std.specs.Map.{lookup}
use Rattle.std.specs.BTreeMap.{insert_entry, is_at}
use Rattle.std.specs.Ordering.{is_eq}
use Rattle.std.proofs.Common.{ap, sym, ◌∙◌, subst, inl, inr}
use Rattle.slate_ids.specs.Ulids.{id_cmp}
use Rattle.slate_model_tables.specs.declared.ss_table_handle.SsTableHandle.{SsTableHandle}
use Rattle.slate_model_tables.specs.Views.{View}
use Rattle.slate_layout_parts.specs.TablesOfViews.{table_id}
use Rattle.slate_layout_parts.specs.Reading.{◌>>=◌}
use Rattle.slate_layout_manifests.specs.Gathered.{ById, with_table, with_view, gathered, same_handle}
use Rattle.slate_layout_manifests.specs.Unequal.{Among, HaveUnequal}
use Rattle.slate_layout_encoding.proofs.SameHandles.{handle_itself}
use Rattle.slate_layout_encoding.proofs.GatheredLaws.{Absent, At, EachHas, lookup_put, same_at, each_has}

-- ---- nothing is gathered: two are unequal

-- a view of the table at an id, among these
record IsFrom (views : List View) (q : ℕ × ℕ) (k : SsTableHandle) : Type 0 where
  view : View
  among : Among view views
  is_handle : view.sst ≡ k
  is_at_id : table_id k.id ≡ q

-- each table that was gathered is one of these views'
abbrev AreFrom : List View → ById → Type 0
AreFrom views had = (q : ℕ × ℕ) (k : SsTableHandle) → At q k had → IsFrom views q k

-- each of some views is among others
abbrev AreAmong : List View → List View → Type 0
AreAmong [] views = Unit {0}
AreAmong (v ∷ some) views = Among v views × AreAmong some views

among_more : (some : List View) (v : View) (views : List View) → AreAmong some views → AreAmong some (v ∷ views)
among_more [] v views h = tt
among_more (w ∷ some) v views h = (inr h.0, among_more some v views h.1)

all_among : (views : List View) → AreAmong views views
all_among [] = tt
all_among (v ∷ views) = (inl refl, among_more views v views (all_among views))

from_one : (b : Bool) (views : List View) (v : View) (q : ℕ × ℕ) (k : SsTableHandle) (o : Option SsTableHandle) → is_eq (id_cmp q (table_id v.sst.id)) ≡ b → Among v views → (o ≡ Some k → IsFrom views q k) → (if b then Some v.sst else o) ≡ Some k → IsFrom views q k
from_one true views v q k o is among more e =
    let same : v.sst ≡ k = cc in
    record { view = v; among = among; is_handle = same; is_at_id = ap (λ (h : SsTableHandle). table_id h.id) (sym same) ∙ sym (same_at q (table_id v.sst.id) is) }
from_one false views v q k o is among more e = more e

from_put : (views : List View) (v : View) (had : ById) → Absent (table_id v.sst.id) had → Among v views → AreFrom views had → AreFrom views (insert_entry id_cmp had (table_id v.sst.id) v.sst)
from_put views v had none among from q k at =
    from_one (is_eq (id_cmp q (table_id v.sst.id))) views v q k (lookup (is_at (id_cmp q)) had) refl among (from q k) (sym (lookup_put q (table_id v.sst.id) v.sst had none) ∙ at)

differ : (k h : SsTableHandle) → same_handle k h ≡ false → k ≡ h → ⊥
differ k h f e = let both : true ≡ false = sym (handle_itself h) ∙ ap (λ (g : SsTableHandle). same_handle g h) (sym e) ∙ f in absurd cc

unequal_at : (b : Bool) (views some : List View) (v : View) (had : ById) (k : SsTableHandle) → same_handle k v.sst ≡ b → Among v views → IsFrom views (table_id v.sst.id) k → (gathered some had ≡ None → HaveUnequal views) → ((if b then Some had else None) >>= gathered some) ≡ None → HaveUnequal views
unequal_at true views some v had k s among from more e = more e
unequal_at false views some v had k s among from more e =
    record {
      one = from.view;
      other = v;
      has_one = from.among;
      has_other = among;
      same_table = ap (λ (h : SsTableHandle). table_id h.id) from.is_handle ∙ from.is_at_id;
      unequal = λ same. differ k v.sst s (sym from.is_handle ∙ same);
    }

unequal_by : (views some : List View) (v : View) (had : ById) (o : Option SsTableHandle) → lookup (is_at (id_cmp (table_id v.sst.id))) had ≡ o → Among v views → AreFrom views had → ((next : ById) → AreFrom views next → gathered some next ≡ None → HaveUnequal views) → (with_table v.sst had o >>= gathered some) ≡ None → HaveUnequal views
unequal_by views some v had None at among from more e = more (insert_entry id_cmp had (table_id v.sst.id) v.sst) (from_put views v had at among from) e
unequal_by views some v had (Some k) at among from more e = unequal_at (same_handle k v.sst) views some v had k refl among (from (table_id v.sst.id) k at) (more had from) e

find_unequal : (views some : List View) (had : ById) → AreAmong some views → AreFrom views had → gathered some had ≡ None → HaveUnequal views
find_unequal views [] had among from e = absurd cc
find_unequal views (v ∷ some) had among from e = unequal_by views some v had (lookup (is_at (id_cmp (table_id v.sst.id))) had) refl among.0 from (λ next f. find_unequal views some next among.1 f) e

-- ---- two are unequal: nothing is gathered

among_has : (v : View) (views : List View) (all : ById) → Among v views → EachHas views all → At (table_id v.sst.id) v.sst all
among_has v [] all h has = absurd h
among_has v (w ∷ views) all (inl e) has = subst (λ (u : View). At (table_id u.sst.id) u.sst all) (sym e) has.0
among_has v (w ∷ views) all (inr h) has = among_has v views all h has.1

none_by : (views : List View) (o : Option ById) → gathered views [] ≡ o → HaveUnequal views → o ≡ None
none_by views None at h = refl
none_by views (Some all) at h =
    let has = each_has views [] all at in
    let both : Some h.one.sst ≡ Some h.other.sst = sym (among_has h.one views all h.has_one has) ∙ ap (λ q. lookup (is_at (id_cmp q)) all) h.same_table ∙ among_has h.other views all h.has_other has in
    absurd (h.unequal cc)

pub none_gathered : (views : List View) → (gathered views [] ≡ None) ↔ HaveUnequal views
none_gathered views = (λ e. find_unequal views views [] (all_among views) (λ q k at. absurd cc) e, λ h. none_by views (gathered views []) refl h)
