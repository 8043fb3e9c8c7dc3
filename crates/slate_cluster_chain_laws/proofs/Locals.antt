-- What a compactor holds beside a record is still in it after each of its calls.
use Rattle.std.proofs.Common.{◌≡◌, ℕ, ◌++◌, ◌⊎◌, inl, inr, Bool, true, false, List, [], ◌∷◌, map, Option, Some, None, ⊎_elim, refl, sym, ap, ◌∙◌, subst}
use Rattle.std.proofs.lemmas.List.Folds.{list_any-append}
use Rattle.std.specs.Prelude.{◌||◌, is_some, Ok, Err, if◌then◌else◌}
use Rattle.std.specs.List.{filter}
use Rattle.slate_ids.specs.Ulids.{same_id, id_lt}
use Rattle.slate_ids.specs.declared.error.SlateDBError.TheVariants.{InvalidDBState}
use Rattle.slate_ids.specs.declared.error.StateCause.TheVariants.{CompactionState}
use Rattle.slate_model.specs.Cores.{Core}
use Rattle.slate_model.specs.declared.lsm_tree_state.LsmTreeState.{LsmTreeState}
use Rattle.slate_model_records.specs.Compactions.{is_terminal}
use Rattle.slate_model_records.specs.Records.{Record, entry_of, inserted}
use Rattle.slate_model_records.specs.Retaining.{has_id}
use Rattle.slate_model_records.specs.declared.compaction.Compaction.{Compaction}
use Rattle.slate_model_records.specs.declared.compaction_status.CompactionStatus.{CompactionStatus}
use Rattle.slate_model_records.specs.declared.compaction_status.CompactionStatus.TheVariants.{Submitted, Scheduled, Running, Compacted, Completed, Failed}
use Rattle.slate_layout_records.specs.RecordNormal.{normal_record}
use Rattle.slate_state_record_updates.specs.EntrySteps.{with_status, with_local_status, with_local_statuses, with_statuses}
use Rattle.slate_state_record_updates.specs.RecordRules.{first_refusal, outputs_refusal}
use Rattle.slate_state_compactor.specs.Local.{opened, with_trees, refreshed, scheduled, manifest_committed, record_committed, is_compacted, one_more_pending, with_entry_status, placed_finished, finish_found, finish_of, finished, fail_found, fail_of, failed}
use Rattle.slate_state_compactor.specs.declared.local_state.LocalState.{LocalState}
use Rattle.slate_cluster_chain_laws.specs.Locals.{IsCompactedIn, CompactedStay, IsHeldIn, ObeyOutputs}
use Rattle.slate_cluster_chain_laws.proofs.FoundEntries.{found_id, one_id, inserted_own, inserted_other, Stands, AllStand, normal_stands, normal_from, local_from, was_compacted, not_ended, statuses_stand, pending_stays}
use Rattle.slate_cluster_chain_laws.proofs.NormalRecordRules.{neither, both_none}

-- ---- what is Compacted stays

pub stay_same : (r : Record) → CompactedStay r r
stay_same r id is = is

pub stay_on : (a b c : Record) → CompactedStay a b → CompactedStay b c → CompactedStay a c
stay_on a b c h k id is = k id (h id is)

-- what has an entry in one record has one in another
abbrev pub EntriesStay : Record → Record → Type 0
EntriesStay old new = (id : ℕ × ℕ) → is_some (entry_of id old.entries) ≡ true → is_some (entry_of id new.entries) ≡ true

pub entries_same : (r : Record) → EntriesStay r r
entries_same r id h = h

pub entries_on : (a b c : Record) → EntriesStay a b → EntriesStay b c → EntriesStay a c
entries_on a b c h k id is = k id (h id is)

-- an entry that stands is Compacted still
pub still_compacted : (id : ℕ × ℕ) (old new : Record) (is : IsCompactedIn old id) → Stands id is.entry new.entries → IsCompactedIn new id
still_compacted id old new is s = record { entry = s.entry; at = s.at; status = s.stays.status is.status }

pub all_stay : (old new : Record) → AllStand old.entries new.entries → CompactedStay old new
all_stay old new h id is = still_compacted id old new is (h id is.entry is.at)

pub some_entry : {P : Type 0} (o : Option Compaction) → is_some o ≡ true → ((c : Compaction) → o ≡ Some c → P) → P
some_entry None h use_it = absurd cc
some_entry (Some c) h use_it = use_it c refl

pub all_entries : (old new : Record) → AllStand old.entries new.entries → EntriesStay old new
all_entries old new h id is = some_entry (entry_of id old.entries) is (λ c at. ap is_some (h id c at).at)

-- the normal form of a record
pub normal_compacted : (r : Record) → CompactedStay r (normal_record r)
normal_compacted r = all_stay r (normal_record r) (normal_stands r)

pub normal_entries : (r : Record) → EntriesStay r (normal_record r)
normal_entries r = all_entries r (normal_record r) (normal_stands r)

pub normal_compacted_back : (r : Record) → CompactedStay (normal_record r) r
normal_compacted_back r id is =
    let made = normal_from id r is.entry is.at in
    record { entry = made.old; at = made.at; status = ap (λ (c : Compaction). c.status) made.is ∙ is.status }

pub normal_entries_back : (r : Record) → EntriesStay (normal_record r) r
normal_entries_back r id is = some_entry (entry_of id (normal_record r).entries) is (λ c at. ap is_some (normal_from id r c at).at)

-- ---- what is held, along records

-- what is pending has an entry in another record too
abbrev pub PendingStay : LocalState → Record → Record → Type 0
PendingStay local old new = (id : ℕ × ℕ) → has_id local.pending id ≡ true → is_some (entry_of id old.entries) ≡ true → is_some (entry_of id new.entries) ≡ true

pub held_on : (local : LocalState) (old new : Record) → CompactedStay old new → PendingStay local old new → IsHeldIn old local → IsHeldIn new local
held_on local old new stay places h = record { pending = λ id waits. places id waits (h.pending id waits); compacted = stay_on local.compactions old new h.compacted stay }

pub held_where_all_stand : (local : LocalState) (old new : Record) → AllStand old.entries new.entries → IsHeldIn old local → IsHeldIn new local
held_where_all_stand local old new all h = held_on local old new (all_stay old new all) (λ id waits is. all_entries old new all id is) h

-- ---- the statuses that a compactor puts, over any record that it holds

-- local statuses make no compaction Compacted
pub local_stay : (local read : Record) → CompactedStay (with_local_statuses local read) read
local_stay local read id is =
    let made = local_from local.entries id read.entries is.entry is.at in
    record { entry = made.old; at = made.at; status = was_compacted local.entries made.old (ap (λ (c : Compaction). c.status) made.is ∙ is.status) }

-- what is Compacted locally isn't over
compacted_open : (local : Record) (id : ℕ × ℕ) (is : IsCompactedIn local id) → is_terminal is.entry.status ≡ false
compacted_open local id is = ap is_terminal is.status

-- what is Compacted locally and in a record is so with the local statuses
pub own_compacted : (local r : Record) (pending : List (ℕ × ℕ)) (id : ℕ × ℕ) → IsCompactedIn local id → IsCompactedIn r id → IsCompactedIn (with_statuses local pending r) id
own_compacted local r pending id here is =
    still_compacted id r (with_statuses local pending r) is
    (statuses_stand local pending id r is.entry is.at
    (not_ended local.entries id here.entry is.entry.status here.at (compacted_open local id here))
    (inl (ap is_terminal is.status)))

-- what is pending has its entry with them
pub own_pending : (local r : Record) (pending : List (ℕ × ℕ)) (id : ℕ × ℕ) → has_id pending id ≡ true → is_some (entry_of id r.entries) ≡ true → is_some (entry_of id (with_statuses local pending r).entries) ≡ true
own_pending local r pending id waits h = some_entry (entry_of id r.entries) h (λ c at. ap is_some (pending_stays local pending id r c at waits))

pub own_statuses_held : (local : LocalState) (r : Record) → IsHeldIn r local → IsHeldIn (with_statuses local.compactions local.pending r) local
own_statuses_held local r h = record {
  pending = λ id waits. own_pending local.compactions r local.pending id waits (h.pending id waits);
  compacted = λ id here. own_compacted local.compactions r local.pending id here (h.compacted id here);
}

-- so is it in the normal form of that
pub own_normal_held : (local : LocalState) (r : Record) → IsHeldIn r local → IsHeldIn (normal_record (with_statuses local.compactions local.pending r)) local
own_normal_held local r h =
    held_where_all_stand local (with_statuses local.compactions local.pending r) (normal_record (with_statuses local.compactions local.pending r))
    (normal_stands (with_statuses local.compactions local.pending r)) (own_statuses_held local r h)

-- ---- an open

none_pending : (core : Core) (r : Record) (id : ℕ × ℕ) → has_id (opened core r).pending id ≡ true → is_some (entry_of id r.entries) ≡ true
none_pending core r id h = absurd cc

pub opened_held : (core : Core) (r top : Record) → CompactedStay r top → IsHeldIn top (opened core r)
opened_held core r top stay = record { pending = λ id waits. absurd cc; compacted = stay }

-- ---- a refresh

-- a refresh that comes through has the record read with the local statuses, and what was pending
pub record Refreshed (read : Record) (local new : LocalState) : Type 0 where
  pub compactions : new.compactions ≡ with_local_statuses local.compactions read
  pub pending : new.pending ≡ local.pending

pub is_refreshed : (read : Record) (core : Core) (local new : LocalState) → refreshed read core local ≡ Ok new → Refreshed read local new
is_refreshed read core local new h = by _ h
  where
    by : (t : _) → with_trees read local t ≡ Ok new → Refreshed read local new
    by (Ok trees) k = let same : record local { trees = trees; compactions = with_local_statuses local.compactions read } ≡ new = cc in
        record { compactions = ap (λ (l : LocalState). l.compactions) (sym same); pending = ap (λ (l : LocalState). l.pending) (sym same) }
    by (Err e) k = absurd cc

-- with the statuses over a record read, it is held where what was read stays Compacted
with_statuses_held : (read top : Record) (local new : LocalState) → Refreshed read local new → CompactedStay read top → IsHeldIn top local → IsHeldIn top new
with_statuses_held read top local new is stay h = record {
  pending = λ id waits. h.pending id (ap (λ (p : List (ℕ × ℕ)). has_id p id) (sym is.pending) ∙ waits);
  compacted = subst (λ (r : Record). CompactedStay r top) (sym is.compactions) (stay_on (with_local_statuses local.compactions read) read top (local_stay local.compactions read) stay);
}

pub refreshed_held : (read top : Record) (core : Core) (local new : LocalState) → refreshed read core local ≡ Ok new → CompactedStay read top → IsHeldIn top local → IsHeldIn top new
refreshed_held read top core local new made stay h = with_statuses_held read top local new (is_refreshed read core local new made) stay h

-- ---- a schedule, and the commits of a compactor

pub scheduled_held : (committed top : Record) (local : LocalState) → CompactedStay committed top → IsHeldIn top local → IsHeldIn top (scheduled committed local)
scheduled_held committed top local stay h = with_statuses_held committed top local (scheduled committed local) (record { compactions = refl; pending = refl }) stay h

pub manifest_committed_held : (core : Core) (top : Record) (local : LocalState) → IsHeldIn top local → IsHeldIn top (manifest_committed core local)
manifest_committed_held core top local h = record { pending = λ id waits. absurd cc; compacted = h.compacted }

pub record_committed_held : (committed top : Record) (local : LocalState) → CompactedStay committed top → IsHeldIn top local → IsHeldIn top (record_committed committed local)
record_committed_held committed top local stay h = record { pending = h.pending; compacted = stay }

-- ---- the end of a compaction

-- the local entry of an id, with another status
pub record GivenStatus (id : ℕ × ℕ) (status : CompactionStatus) (old new : Record) : Type 0 where
  pub entry : Compaction
  pub at : entry_of id old.entries ≡ Some entry
  pub is : new ≡ with_entry_status status entry old

pub record HasFinished (id : ℕ × ℕ) (local new : LocalState) : Type 0 where
  pub ends : GivenStatus id Completed local.compactions new.compactions
  pub compacted : ends.entry.status ≡ Compacted
  pub pending : new.pending ≡ one_more_pending local.pending id

is_it : (status : CompactionStatus) → is_compacted status ≡ true → status ≡ Compacted
is_it Submitted h = absurd cc
is_it Scheduled h = absurd cc
is_it Running h = absurd cc
is_it Compacted h = refl
is_it Completed h = absurd cc
is_it Failed h = absurd cc

pub has_finished : (id : ℕ × ℕ) (local new : LocalState) → finished id local ≡ Ok new → HasFinished id local new
has_finished id local new h = by (entry_of id local.compactions.entries) refl h
  where
    placed : (c : Compaction) → entry_of id local.compactions.entries ≡ Some c → c.status ≡ Compacted → (t : Option LsmTreeState) → placed_finished c local t ≡ Ok new → HasFinished id local new
    placed c at is None k = absurd cc
    placed c at is (Some tree) k = record {
      ends = record { entry = c; at = at; is = let same : new.compactions ≡ with_entry_status Completed c local.compactions = cc in same };
      compacted = is;
      pending = (let same : new.pending ≡ one_more_pending local.pending c.id = cc in same) ∙ ap (one_more_pending local.pending) (found_id id local.compactions.entries c at);
    }

    found : (c : Compaction) → entry_of id local.compactions.entries ≡ Some c → (b : Bool) → is_compacted c.status ≡ b
        → (if b then finish_found local c else Err (InvalidDBState (CompactionState id))) ≡ Ok new → HasFinished id local new
    found c at true is k = placed c at (is_it c.status is) _ k
    found c at false is k = absurd cc

    by : (o : Option Compaction) → entry_of id local.compactions.entries ≡ o → finish_of local id o ≡ Ok new → HasFinished id local new
    by None at k = absurd cc
    by (Some c) at k = found c at (is_compacted c.status) refl k

pub record HasFailed (id : ℕ × ℕ) (local new : LocalState) : Type 0 where
  pub ends : GivenStatus id Failed local.compactions new.compactions
  pub not_over : is_terminal ends.entry.status ≡ false
  pub pending : new.pending ≡ local.pending

pub has_failed : (id : ℕ × ℕ) (local new : LocalState) → failed id local ≡ Ok new → HasFailed id local new
has_failed id local new h = by (entry_of id local.compactions.entries) refl h
  where
    found : (c : Compaction) → entry_of id local.compactions.entries ≡ Some c → (b : Bool) → is_terminal c.status ≡ b
        → (if b then Err (InvalidDBState (CompactionState id)) else Ok (fail_found local c)) ≡ Ok new → HasFailed id local new
    found c at true is k = absurd cc
    found c at false is k =
        let same : fail_found local c ≡ new = cc in
        record {
          ends = record { entry = c; at = at; is = ap (λ (l : LocalState). l.compactions) (sym same) };
          not_over = is;
          pending = ap (λ (l : LocalState). l.pending) (sym same);
        }

    by : (o : Option Compaction) → entry_of id local.compactions.entries ≡ o → fail_of local id o ≡ Ok new → HasFailed id local new
    by None at k = absurd cc
    by (Some c) at k = found c at (is_terminal c.status) refl k

-- where the local entry gets a status that isn't Compacted, what is Compacted after it was so before
ended_stay : (id : ℕ × ℕ) (status : CompactionStatus) (old new : Record) → is_terminal status ≡ true → GivenStatus id status old new → CompactedStay new old
ended_stay id status old new over g k is = by (same_id g.entry.id k) refl
  where
    at : entry_of k (inserted (with_status status g.entry) old.entries) ≡ Some is.entry
    at = ap (λ (r : Record). entry_of k r.entries) (sym g.is) ∙ is.at

    by : (b : Bool) → same_id g.entry.id k ≡ b → IsCompactedIn old k
    by true own =
        let same : with_status status g.entry ≡ is.entry = cc (at, inserted_own (with_status status g.entry) old.entries k own) in
        let state : status ≡ Compacted = ap (λ (c : Compaction). c.status) same ∙ is.status in
        let both : true ≡ false = sym over ∙ ap is_terminal state in absurd cc
    by false other = record { entry = is.entry; at = sym (inserted_other (with_status status g.entry) old.entries k other) ∙ at; status = is.status }

-- one more that is pending
more_pending : (pending : List (ℕ × ℕ)) (id k : ℕ × ℕ) → has_id (one_more_pending pending id) k ≡ true → (has_id pending k ≡ true) ⊎ (id ≡ k)
more_pending pending id k h = by (has_id pending k) refl (same_id id k) refl (sym (list_any-append (λ d. same_id d k) pending (id ∷ [])) ∙ h)
  where
    by : (p : Bool) → has_id pending k ≡ p → (s : Bool) → same_id id k ≡ s → (p || (s || false)) ≡ true → (has_id pending k ≡ true) ⊎ (id ≡ k)
    by true waits s is t = inl waits
    by false waits true is t = inr (one_id id k is)
    by false waits false is t = absurd cc

pub finished_held : (id : ℕ × ℕ) (top : Record) (local new : LocalState) → finished id local ≡ Ok new → IsHeldIn top local → IsHeldIn top new
finished_held id top local new made h =
    let f = has_finished id local new made in
    record {
      pending = λ k waits. ⊎_elim
          (λ (before : has_id local.pending k ≡ true). h.pending k before)
          (λ (own : id ≡ k). ap is_some (ap (λ (i : ℕ × ℕ). entry_of i top.entries) (sym own) ∙ (h.compacted id (record { entry = f.ends.entry; at = f.ends.at; status = f.compacted })).at))
          (more_pending local.pending id k (ap (λ (p : List (ℕ × ℕ)). has_id p k) (sym f.pending) ∙ waits));
      compacted = stay_on new.compactions local.compactions top (ended_stay id Completed local.compactions new.compactions refl f.ends) h.compacted;
    }

pub failed_held : (id : ℕ × ℕ) (top : Record) (local new : LocalState) → failed id local ≡ Ok new → IsHeldIn top local → IsHeldIn top new
failed_held id top local new made h =
    let f = has_failed id local new made in
    record {
      pending = λ k waits. h.pending k (ap (λ (p : List (ℕ × ℕ)). has_id p k) (sym f.pending) ∙ waits);
      compacted = stay_on new.compactions local.compactions top (ended_stay id Failed local.compactions new.compactions refl f.ends) h.compacted;
    }

-- ---- outputs obey their rule

joined_obey : (a b : List Compaction) → ObeyOutputs a → ObeyOutputs b → ObeyOutputs (a ++ b)
joined_obey [] b h k = k
joined_obey (c ∷ a) b h k = let p = neither (outputs_refusal c) (first_refusal outputs_refusal a) h in both_none _ _ p.0 (joined_obey a b p.1 k)

pub filtered_obey : (p : Compaction → Bool) (entries : List Compaction) → ObeyOutputs entries → ObeyOutputs (filter p entries)
filtered_obey p [] h = refl
filtered_obey p (c ∷ entries) h = let q = neither (outputs_refusal c) (first_refusal outputs_refusal entries) h in by (p c) q.0 (filtered_obey p entries q.1)
  where
    by : (b : Bool) → outputs_refusal c ≡ None → ObeyOutputs (filter p entries) → ObeyOutputs (if b then c ∷ filter p entries else filter p entries)
    by true own rest = both_none _ _ own rest
    by false own rest = rest

pub found_obeys : (id : ℕ × ℕ) (entries : List Compaction) (c : Compaction) → ObeyOutputs entries → entry_of id entries ≡ Some c → outputs_refusal c ≡ None
found_obeys id [] c h at = absurd cc
found_obeys id (d ∷ entries) c h at = let p = neither (outputs_refusal d) (first_refusal outputs_refusal entries) h in by (same_id d.id id) p.0 at (found_obeys id entries c p.1)
  where
    by : (b : Bool) → outputs_refusal d ≡ None → (if b then Some d else entry_of id entries) ≡ Some c → (entry_of id entries ≡ Some c → outputs_refusal c ≡ None) → outputs_refusal c ≡ None
    by true own k rest = let same : d ≡ c = cc in ap outputs_refusal (sym same) ∙ own
    by false own k rest = rest k

pub inserted_obey : (c : Compaction) (entries : List Compaction) → outputs_refusal c ≡ None → ObeyOutputs entries → ObeyOutputs (inserted c entries)
inserted_obey c entries own h = joined_obey (filter (λ d. id_lt d.id c.id) entries) (c ∷ filter (λ d. id_lt c.id d.id) entries)
    (filtered_obey (λ d. id_lt d.id c.id) entries h)
    (both_none _ _ own (filtered_obey (λ d. id_lt c.id d.id) entries h))

-- a map that keeps what the rule looks at
pub mapped_obey : (f : Compaction → Compaction) → ((c : Compaction) → outputs_refusal c ≡ None → outputs_refusal (f c) ≡ None) → (entries : List Compaction) → ObeyOutputs entries → ObeyOutputs (map f entries)
mapped_obey f keeps [] h = refl
mapped_obey f keeps (c ∷ entries) h = let p = neither (outputs_refusal c) (first_refusal outputs_refusal entries) h in both_none _ _ (keeps c p.0) (mapped_obey f keeps entries p.1)

pub local_obey : (local read : Record) → ObeyOutputs read.entries → ObeyOutputs (with_local_statuses local read).entries
local_obey local read h = mapped_obey (with_local_status local.entries) (λ c k. k) read.entries h

pub given_obey : (id : ℕ × ℕ) (status : CompactionStatus) (old new : Record) → GivenStatus id status old new → ObeyOutputs old.entries → ObeyOutputs new.entries
given_obey id status old new g h = subst (λ (r : Record). ObeyOutputs r.entries) (sym g.is) (inserted_obey (with_status status g.entry) old.entries (found_obeys id old.entries g.entry h g.at) h)

pub opened_obey : (core : Core) (r : Record) → ObeyOutputs r.entries → ObeyOutputs (opened core r).compactions.entries
opened_obey core r h = h

pub refreshed_obey : (read : Record) (core : Core) (local new : LocalState) → refreshed read core local ≡ Ok new → ObeyOutputs read.entries → ObeyOutputs new.compactions.entries
refreshed_obey read core local new made h = subst (λ (r : Record). ObeyOutputs r.entries) (sym (is_refreshed read core local new made).compactions) (local_obey local.compactions read h)

pub scheduled_obey : (committed : Record) (local : LocalState) → ObeyOutputs committed.entries → ObeyOutputs (scheduled committed local).compactions.entries
scheduled_obey committed local h = local_obey local.compactions committed h

pub manifest_committed_obey : (core : Core) (local : LocalState) → ObeyOutputs local.compactions.entries → ObeyOutputs (manifest_committed core local).compactions.entries
manifest_committed_obey core local h = h

pub record_committed_obey : (committed : Record) (local : LocalState) → ObeyOutputs committed.entries → ObeyOutputs (record_committed committed local).compactions.entries
record_committed_obey committed local h = h

pub finished_obey : (id : ℕ × ℕ) (local new : LocalState) → finished id local ≡ Ok new → ObeyOutputs local.compactions.entries → ObeyOutputs new.compactions.entries
finished_obey id local new made h = given_obey id Completed local.compactions new.compactions (has_finished id local new made).ends h

pub failed_obey : (id : ℕ × ℕ) (local new : LocalState) → failed id local ≡ Ok new → ObeyOutputs local.compactions.entries → ObeyOutputs new.compactions.entries
failed_obey id local new made h = given_obey id Failed local.compactions new.compactions (has_failed id local new made).ends h
