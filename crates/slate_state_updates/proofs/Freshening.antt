-- Tables that a set notes one by one.
use Rattle.std.specs.Prelude.{ℕ, suc, ◌+◌, ◌<◌, Bool, true, false, not, ◌||◌, cond, List, [], ◌∷◌, length, drop, if◌then◌else◌}
use Rattle.std.specs.BTreeSet.{BTreeSet}
use Rattle.std.specs.Ordering.{is_eq}
use Rattle.std.proofs.Common.{◌≡◌, refl, sym, ap, ◌∙◌, subst, add-one, get_or, drop-cons}
use Rattle.slate_model_tables.specs.declared.ss_table_id.SsTableId.{SsTableId}
use Rattle.slate_model.specs.Cores.{Core}
use Rattle.slate_model.specs.Externals.{same_table}
use Rattle.slate_state_updates.specs.TableSets.{is_among, has_table, table_cmp, IsTableSet, Notes}
use Rattle.slate_state_updates.specs.Flushes.{PutsNew, fresh_tables, with_flushed, with_all_flushed}
use Rattle.slate_state_updates.specs.declared.flush_batch.FlushedTable.{FlushedTable}
use Rattle.slate_state_updates.proofs.TableSets.{same}

either_way : (b r : Bool) → cond b true r ≡ (b || r)
either_way true r = refl
either_way false r = refl

pub noted : (old new : BTreeSet SsTableId) (id : SsTableId) (added : Bool) → added ≡ not (has_table old id) → ((q : SsTableId) → has_table new q ≡ cond (is_eq (table_cmp id q)) true (has_table old q)) → Notes old new id added
noted old new id added was now known is = (was ∙ ap not (is id), λ q. now q ∙ ap (λ b. cond b true (has_table old q)) (same id q) ∙ either_way (same_table q id) (has_table old q) ∙ ap (λ b. same_table q id || b) (is q))

-- the tables so far were put, and the set has what is known: what is left leads to the same
pub record Freshens (set : BTreeSet SsTableId) (core : Core) (left : List FlushedTable) (all : Core) : Type 0 where
  pub known : List SsTableId
  pub is : IsTableSet set known
  pub so_far : with_all_flushed core (fresh_tables known left) ≡ all

-- one more table was put, or is known
pub goes_on : (old new : BTreeSet SsTableId) (core next all : Core) (t : FlushedTable) (left : List FlushedTable) → PutsNew old new core next t → Freshens old core (t ∷ left) all → Freshens new next left all
goes_on old new core next all t left puts f =
    let n = puts f.known f.is in
    record { known = t.sst.id ∷ f.known; is = n.0; so_far = ap (λ (c : Core). with_all_flushed c (fresh_tables (t.sst.id ∷ f.known) left)) n.1 ∙ by (is_among f.known t.sst.id) f.so_far }
  where
    by : (b : Bool) → with_all_flushed core (if b then fresh_tables (t.sst.id ∷ f.known) left else t ∷ fresh_tables (t.sst.id ∷ f.known) left) ≡ all → with_all_flushed (if b then core else with_flushed core t) (fresh_tables (t.sst.id ∷ f.known) left) ≡ all
    by true so_far = so_far
    by false so_far = so_far

-- the same of the table at a place
pub goes_on_at : (old new : BTreeSet SsTableId) (core next all : Core) (tables : List FlushedTable) (i : ℕ) (t : FlushedTable) → i < length tables → t ≡ get_or tables i t → PutsNew old new core next t → Freshens old core (drop i tables) all → Freshens new next (drop (i + 1) tables) all
goes_on_at old new core next all tables i t less at puts f =
    let left : drop i tables ≡ t ∷ drop (i + 1) tables = rw (add-one) (drop-cons tables i t less ∙ ap (λ (y : FlushedTable). y ∷ drop (suc i) tables) (sym at)) in
    goes_on old new core next all t (drop (i + 1) tables) puts (subst (λ (ts : List FlushedTable). Freshens old core ts all) left f)

-- a table that was noted as new is put
pub put_new : (old new : BTreeSet SsTableId) (core next : Core) (t : FlushedTable) → Notes old new t.sst.id true → next ≡ with_flushed core t → PutsNew old new core next t
put_new old new core next t notes put known is = let n = notes known is in (n.1, put ∙ by (is_among known t.sst.id) n.0)
  where
    by : (b : Bool) → true ≡ not b → with_flushed core t ≡ (if b then core else with_flushed core t)
    by true h = absurd cc
    by false h = refl

-- one that was known isn't
pub put_known : (old new : BTreeSet SsTableId) (core : Core) (t : FlushedTable) → Notes old new t.sst.id false → PutsNew old new core core t
put_known old new core t notes known is = let n = notes known is in (n.1, by (is_among known t.sst.id) n.0)
  where
    by : (b : Bool) → false ≡ not b → core ≡ (if b then core else with_flushed core t)
    by true h = refl
    by false h = absurd cc
