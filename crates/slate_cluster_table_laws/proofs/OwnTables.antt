-- The own tables of a new manifest: each was own in the one before, is of the author's batch, or was made by a compactor.
use Rattle.std.proofs.Common.{◌≡◌, ◌⊎◌, inl, ⊎_elim, ℕ, Bool, true, false, List, [], ◌∷◌, ◌++◌, None, sym, subst, arith}
use Rattle.std.proofs.lemmas.Bool.Decides.{nat_tests}
use Rattle.std.specs.Prelude.{◌||◌}
use Rattle.std.specs.List.{flat_map, list_all}
use Rattle.slate_model.specs.Cores.{Core}
use Rattle.slate_model.specs.Externals.{is_owned, same_table}
use Rattle.slate_model.specs.Segments.{Prefixed}
use Rattle.slate_model.specs.Trees.{segment_trees, tables_of, tables_of_views, trees_of}
use Rattle.slate_model.specs.declared.manifest.Manifest.{Manifest}
use Rattle.slate_model_tables.specs.Views.{View}
use Rattle.slate_model_tables.specs.declared.ss_table_id.SsTableId.{SsTableId}
use Rattle.slate_model_tables.specs.declared.ss_table_id.SsTableId.TheVariants.{Wal, Compacted}
use Rattle.slate_state_updates.proofs.Lawful.{keeps}
use Rattle.slate_state_updates.specs.FlushedTables.{flushed_tables}
use Rattle.slate_state_updates.specs.Rules.{manifest_refusal}
use Rattle.slate_state_updates.specs.RunTables.{attaches, outputs_of, run_tables}
use Rattle.slate_state_updates.specs.TableSets.{is_among}
use Rattle.slate_txn_log.specs.declared.right.Right.{Right}
use Rattle.slate_cluster_protocol.specs.Reach.{HasOwn}
use Rattle.slate_cluster_chain_laws.proofs.TableSteps.{all_of, among_back, among_either, among_front, either, either_way, first_of, flushed_there, kept_of, same_tables, second_of, was_own}
use Rattle.slate_cluster_table_laws.specs.Presence.{IfTable}
use Rattle.slate_cluster_table_laws.proofs.NewViews.{EachNew, EachSegment, EachView}

number_itself : (n : ℕ) → same_table (Wal n) (Wal n) ≡ true
number_itself n = grind (arith, nat_tests)

id_itself : (id : ℕ × ℕ) → same_table (Compacted id) (Compacted id) ≡ true
id_itself id = grind (arith, nat_tests)

itself : (id : SsTableId) → same_table id id ≡ true
itself (Wal n) = number_itself n
itself (Compacted id) = id_itself id

abbrev segments_new : List Prefixed → List SsTableId
segments_new segments = flat_map (λ tree. tables_of_views tree.l0) (segment_trees segments)

module _ (Q : SsTableId → Type 0) where
  -- what holds of each that is among them holds of each view's, and the other way round
  views_of : (views : List View) → ((t : SsTableId) → is_among (tables_of_views views) t ≡ true → Q t) → EachView Q views
  views_of [] f = tt
  views_of (v ∷ views) f = (f v.sst.id (first_of (same_table v.sst.id v.sst.id) (is_among (tables_of_views views) v.sst.id) (itself v.sst.id)), views_of views (λ t h. f t (second_of (same_table t v.sst.id) (is_among (tables_of_views views) t) h)))

  segments_of : (segments : List Prefixed) → ((t : SsTableId) → is_among (segments_new segments) t ≡ true → Q t) → EachSegment Q segments
  segments_of [] f = tt
  segments_of (s ∷ segments) f =
      (views_of s.tree.l0 (λ t h. f t (among_front (tables_of_views s.tree.l0) (segments_new segments) t h)), segments_of segments (λ t h. f t (among_back (tables_of_views s.tree.l0) (segments_new segments) t h)))

  pub new_of : (c : Core) → ((t : SsTableId) → is_among (flushed_tables c) t ≡ true → Q t) → EachNew Q c
  new_of c f = (views_of c.tree.l0 (λ t h. f t (among_front (tables_of_views c.tree.l0) (segments_new c.segments) t h)), segments_of c.segments (λ t h. f t (among_back (tables_of_views c.tree.l0) (segments_new c.segments) t h)))

  view_at : (views : List View) → EachView Q views → (t : SsTableId) → is_among (tables_of_views views) t ≡ true → Q t
  view_at [] h t among = absurd cc
  view_at (v ∷ views) h t among =
      ⊎_elim
      (λ (e : same_table t v.sst.id ≡ true). subst Q (sym (same_tables t v.sst.id e)) h.0)
      (λ (e : is_among (tables_of_views views) t ≡ true). view_at views h.1 t e)
      (either (same_table t v.sst.id) (is_among (tables_of_views views) t) among)

  segment_at : (segments : List Prefixed) → EachSegment Q segments → (t : SsTableId) → is_among (segments_new segments) t ≡ true → Q t
  segment_at [] h t among = absurd cc
  segment_at (s ∷ segments) h t among =
      ⊎_elim
      (λ (e : is_among (tables_of_views s.tree.l0) t ≡ true). view_at s.tree.l0 h.0 t e)
      (λ (e : is_among (segments_new segments) t ≡ true). segment_at segments h.1 t e)
      (among_either (tables_of_views s.tree.l0) (segments_new segments) t among)

  new_at : (c : Core) → EachNew Q c → (t : SsTableId) → is_among (flushed_tables c) t ≡ true → Q t
  new_at c h t among =
      ⊎_elim
      (λ (e : is_among (tables_of_views c.tree.l0) t ≡ true). view_at c.tree.l0 h.0 t e)
      (λ (e : is_among (segments_new c.segments) t ≡ true). segment_at c.segments h.1 t e)
      (among_either (tables_of_views c.tree.l0) (segments_new c.segments) t among)

-- a table that flushes wrote in the old manifest, or one that was put
abbrev pub OldOr : (ℕ × ℕ → Type 0) → Core → SsTableId → Type 0
OldOr P old t = (is_among (flushed_tables old) t ≡ true) ⊎ IfTable P t

pub old_new : (P : ℕ × ℕ → Type 0) (old : Core) → EachNew (OldOr P old) old
old_new P old = new_of (OldOr P old) old (λ t h. inl h)

module _ (P : ℕ × ℕ → Type 0) (n : ℕ) (old new : Manifest) (right : Right) (lawful : manifest_refusal n old new right ≡ None) (plain : attaches right ≡ false) (news : EachNew (OldOr P old.core) new.core)
    (before : (id : ℕ × ℕ) → HasOwn old id → P id) (made : (id : ℕ × ℕ) → is_among (outputs_of right) (Compacted id) ≡ true → P id) where
  known : (a b : Bool) → a ≡ false → (a || b) ≡ true → b ≡ true
  known true b e h = absurd cc
  known false b e h = h

  pub own_put : (id : ℕ × ℕ) → HasOwn new id → P id
  own_put id h =
      let table : SsTableId = Compacted id in
      let parts = kept_of (is_owned new.external_dbs) (tables_of new.core) table h in
      ⊎_elim
      (λ (e : is_among (flushed_tables new.core) table ≡ true). ⊎_elim
      (λ (f : is_among (flushed_tables old.core) table ≡ true). before id (was_own n old new right lawful plain id parts.0 parts.1 (flushed_there table (trees_of old.core) f)))
      (λ (f : P id). f)
      (new_at (OldOr P old.core) new.core news table e))
      (λ (e : is_among (run_tables new.core) table ≡ true). ⊎_elim
      (λ (f : is_among (tables_of old.core) table ≡ true). before id (was_own n old new right lawful plain id parts.0 parts.1 f))
      (λ (f : is_among (outputs_of right) table ≡ true). made id f)
      (among_either (tables_of old.core) (outputs_of right) table (all_of (is_among (tables_of old.core ++ outputs_of right)) (run_tables new.core) table
      (known (attaches right) (list_all (is_among (tables_of old.core ++ outputs_of right)) (run_tables new.core)) plain (keeps n old new right lawful).runs) e)))
      (either_way table (trees_of new.core) parts.0)
