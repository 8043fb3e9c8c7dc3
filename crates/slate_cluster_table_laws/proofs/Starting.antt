-- What a call's start asks of the tables that it names: each was uploaded.
use Rattle.std.proofs.Common.{◌≡◌, ℕ, true, false, List, [], ◌∷◌, Bool, Option, Some, None, refl}
use Rattle.std.specs.Prelude.{if◌then◌else◌, map}
use Rattle.std.specs.List.{find}
use Rattle.slate_ids.specs.declared.error.SlateDBError.{SlateDBError}
use Rattle.slate_model_tables.specs.declared.ss_table_info.SsTableInfo.{SsTableInfo}
use Rattle.slate_script_events.specs.declared.call.Call.{Call}
use Rattle.slate_script_events.specs.declared.call.Call.TheVariants.{Flush, Finish as FinishCall, Fail, Report}
use Rattle.slate_script_events.specs.declared.flush_table.FlushTable.{FlushTable}
use Rattle.slate_cluster_protocol.specs.Calls.{end_of, facts_at_start, flushed_table, is_missing, is_unknown, or_missing, refusal_at_start, refusal_of_missing, refusal_of_unknown, unless_open, uploaded_table, with_held, Next, Go, Finish}
use Rattle.slate_cluster_protocol.specs.Rows.{begin_unless, first_next}
use Rattle.slate_cluster_protocol.specs.World.{state_after}
use Rattle.slate_cluster_protocol.specs.declared.party.Facts.{Facts}
use Rattle.slate_cluster_protocol.specs.declared.party.State.{State}
use Rattle.slate_cluster_protocol.specs.declared.party.State.TheVariants.{Resting, Busy, Halted}
use Rattle.slate_model_tables.specs.declared.ss_table_id.SsTableId.{SsTableId}
use Rattle.slate_model_tables.specs.declared.ss_table_id.SsTableId.TheVariants.{Compacted}
use Rattle.slate_cluster_table_laws.specs.Presence.{EachTable}
use Rattle.slate_cluster_table_laws.proofs.NewViews.{EachFlushed}
use Rattle.slate_state_compactor.specs.Local.{failed, finished}
use Rattle.slate_state_compactor.specs.declared.local_state.LocalState.{LocalState}

abbrev pub Uploads : Type 0
Uploads = List ((ℕ × ℕ) × SsTableInfo)

-- each table that a call names as uploaded was
abbrev pub Named : Uploads → Call → Type 0
Named uploads (Flush tables replay_after next_wal seq tick) = find (is_missing uploads) tables ≡ None
Named uploads (Report id tables) = find (is_unknown uploads) tables ≡ None
Named uploads _ = Unit {0}

abbrev pub NamedIn : Uploads → State → Type 0
NamedIn uploads Resting = Unit {0}
NamedIn uploads (Busy task) = Named uploads task.call
NamedIn uploads Halted = Unit {0}

-- as the call goes on
pub named_after : (uploads : Uploads) (call : Call) (next : Next) → Named uploads call → NamedIn uploads (state_after call next)
named_after uploads call (Go work) h = h
named_after uploads call (Finish reply) h = tt

-- ---- at its start

no_unknown : (o : Option (ℕ × ℕ)) → refusal_of_unknown o ≡ None → o ≡ None
no_unknown None h = refl
no_unknown (Some id) h = absurd (cc h)

no_missing : (a : Option SlateDBError) (o : Option FlushTable) → or_missing a (refusal_of_missing o) ≡ None → o ≡ None
no_missing None None h = refl
no_missing None (Some t) h = absurd (cc h)
no_missing (Some e) o h = absurd (cc h)

module _ (facts : Facts) where
  -- the end of a compaction leaves uploads and database
  held_same : (o : Option LocalState) → ((with_held o facts).uploads ≡ facts.uploads) × ((with_held o facts).db ≡ facts.db)
  held_same None = (refl, refl)
  held_same (Some local) = (refl, refl)

  pub start_same : (call : Call) → ((facts_at_start facts call).uploads ≡ facts.uploads) × ((facts_at_start facts call).db ≡ facts.db)
  start_same (FinishCall id) = held_same (end_of (finished id) facts.compactor)
  start_same (Fail id) = held_same (end_of (failed id) facts.compactor)
  start_same _ = (refl, refl)

  goes_named : (call : Call) → refusal_at_start facts call ≡ None → NamedIn (facts_at_start facts call).uploads (state_after call (first_next facts call))
  goes_named (Flush tables replay_after next_wal seq tick) h = no_missing (unless_open facts.epoch) (find (is_missing facts.uploads) tables) h
  goes_named (Report id tables) h = no_unknown (find (is_unknown facts.uploads) tables) h
  goes_named (FinishCall id) h = tt
  goes_named (Fail id) h = tt
  goes_named _ h = tt

  pub start_named : (call : Call) → NamedIn (facts_at_start facts call).uploads (state_after call (begin_unless (refusal_at_start facts call) facts call))
  start_named call = by (refusal_at_start facts call) refl
    where
      by : (o : Option SlateDBError) → refusal_at_start facts call ≡ o → NamedIn (facts_at_start facts call).uploads (state_after call (begin_unless o facts call))
      by (Some e) is = tt
      by None is = goes_named call is

-- ---- what a report brings

module _ (P : ℕ × ℕ → Type 0) (uploads : Uploads) (put : (id : ℕ × ℕ) → is_unknown uploads id ≡ false → P id) where
  pub report_put : (tables : List (ℕ × ℕ)) → find (is_unknown uploads) tables ≡ None → EachTable P (map (uploaded_table uploads) tables)
  report_put [] h = tt
  report_put (id ∷ tables) h = by (is_unknown uploads id) refl h (report_put tables)
    where
      by : (b : Bool) → is_unknown uploads id ≡ b → (if b then Some id else find (is_unknown uploads) tables) ≡ None
          → (find (is_unknown uploads) tables ≡ None → EachTable P (map (uploaded_table uploads) tables)) → EachTable P (map (uploaded_table uploads) (id ∷ tables))
      by true is k rest = absurd (cc k)
      by false is k rest = (put id is, rest k)

-- ---- what a flush brings

module _ (Q : SsTableId → Type 0) (uploads : Uploads) (put : (id : ℕ × ℕ) → is_unknown uploads id ≡ false → Q (Compacted id)) where
  pub flush_put : (tables : List FlushTable) → find (is_missing uploads) tables ≡ None → EachFlushed Q (map (flushed_table uploads) tables)
  flush_put [] h = tt
  flush_put (t ∷ tables) h = by (is_missing uploads t) refl h (flush_put tables)
    where
      by : (b : Bool) → is_missing uploads t ≡ b → (if b then Some t else find (is_missing uploads) tables) ≡ None
          → (find (is_missing uploads) tables ≡ None → EachFlushed Q (map (flushed_table uploads) tables)) → EachFlushed Q (map (flushed_table uploads) (t ∷ tables))
      by true is k rest = absurd (cc k)
      by false is k rest = (put t.table is, rest k)
