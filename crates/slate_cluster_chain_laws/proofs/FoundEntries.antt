-- What a look-up finds in the compactions of a record after each change.
use Rattle.std.proofs.Common.{◌≡◌, ℕ, ◌⊎◌, inl, inr, Bool, true, false, List, [], ◌∷◌, map, Option, Some, None, ⊎_elim, refl, sym, ap, ◌∙◌, subst, arith}
use Rattle.std.proofs.lemmas.Bool.{and_parts}
use Rattle.std.proofs.lemmas.Bool.Decides.{nat_tests}
use Rattle.std.proofs.lemmas.List.Folds.{find-append}
use Rattle.std.specs.Prelude.{ℤ, ◌&&◌, is_some, Ok, if◌then◌else◌}
use Rattle.std.specs.List.{filter}
use Rattle.std.specs.Option.{option_map, option_or}
use Rattle.std.specs.declared.cmp.Ordering.{Ordering}
use Rattle.std.specs.declared.cmp.Ordering.TheVariants.{Less, Equal, Greater}
use Rattle.slate_ids.specs.Ulids.{same_id, id_lt, id_cmp}
use Rattle.slate_ids.proofs.IdOrder.{less, greater, equal, is_itself, one_way, not_before_itself, apart}
use Rattle.slate_model_tables.specs.declared.ss_table_handle.SsTableHandle.{SsTableHandle}
use Rattle.slate_model_records.specs.Compactions.{is_terminal}
use Rattle.slate_model_records.specs.Records.{Record, entry_of, found_after, inserted}
use Rattle.slate_model_records.specs.Retaining.{has_id, is_passed, is_kept, retained}
use Rattle.slate_model_records.specs.declared.compaction.Compaction.{Compaction}
use Rattle.slate_model_records.specs.declared.compaction_spec.CompactionSpec.{CompactionSpec}
use Rattle.slate_model_records.specs.declared.compaction_status.CompactionStatus.{CompactionStatus}
use Rattle.slate_model_records.specs.declared.compaction_status.CompactionStatus.TheVariants.{Submitted, Scheduled, Running, Compacted}
use Rattle.slate_layout_records.specs.RecordBytes.{kept_outputs}
use Rattle.slate_layout_records.specs.RecordNormal.{normal_compaction, normal_record}
use Rattle.slate_state_record_updates.specs.EntrySteps.{is_submitted, is_scheduled, is_running, is_held_by, with_status, worker_at, to_scheduled, to_running, to_compacted, with_entry, put_in, found_stepped, stepped, unscheduled, reset, terminal_or, with_local_status, with_statuses, asked_for, one_more}
use Rattle.slate_state_record_updates.specs.RecordEpochs.{with_record_epoch}
use Rattle.slate_cluster_chain_laws.specs.RecordSteps.{IsOverIn}

-- ---- ids

first_parts : (a b : ℕ × ℕ) → same_id a b ≡ true → a.0 ≡ b.0
first_parts a b h = grind (arith, nat_tests, h)

second_parts : (a b : ℕ × ℕ) → same_id a b ≡ true → a.1 ≡ b.1
second_parts a b h = grind (arith, nat_tests, h)

pub one_id : (a b : ℕ × ℕ) → same_id a b ≡ true → a ≡ b
one_id a b h = ap (λ x. (x, a.1)) (first_parts a b h) ∙ ap (λ y. (b.0, y)) (second_parts a b h)

-- ---- look-ups in any list of compactions

-- what was found by an id has it
pub found_id : (id : ℕ × ℕ) (entries : List Compaction) (c : Compaction) → entry_of id entries ≡ Some c → c.id ≡ id
found_id id [] c h = absurd cc
found_id id (d ∷ entries) c h = by (same_id d.id id) refl h (λ k. found_id id entries c k)
  where
    by : (b : Bool) → same_id d.id id ≡ b → (if b then Some d else entry_of id entries) ≡ Some c → (entry_of id entries ≡ Some c → c.id ≡ id) → c.id ≡ id
    by true is k rest = let same : d ≡ c = cc in ap (λ (e : Compaction). e.id) (sym same) ∙ one_id d.id id is
    by false is k rest = rest k

-- a map that keeps ids
abbrev pub KeepsIds : (Compaction → Compaction) → Type 0
KeepsIds f = (c : Compaction) → (f c).id ≡ c.id

-- a mapped list has what the map makes of what was found
pub found_mapped : (f : Compaction → Compaction) → KeepsIds f → (id : ℕ × ℕ) (entries : List Compaction) → entry_of id (map f entries) ≡ option_map f (entry_of id entries)
found_mapped f keeps id [] = refl
found_mapped f keeps id (c ∷ entries) =
    ap (λ (k : ℕ × ℕ). let o : Option Compaction = if same_id k id then Some (f c) else entry_of id (map f entries) in o) (keeps c)
    ∙ by (same_id c.id id) (found_mapped f keeps id entries)
  where
    by : (b : Bool) → entry_of id (map f entries) ≡ option_map f (entry_of id entries) → (if b then Some (f c) else entry_of id (map f entries)) ≡ option_map f (if b then Some c else entry_of id entries)
    by true rest = refl
    by false rest = rest

pub mapped_at : (f : Compaction → Compaction) → KeepsIds f → (id : ℕ × ℕ) (entries : List Compaction) (c : Compaction) → entry_of id entries ≡ Some c → entry_of id (map f entries) ≡ Some (f c)
mapped_at f keeps id entries c h = found_mapped f keeps id entries ∙ ap (option_map f) h

-- what stands in a mapped list is made of an entry of that id
pub record MadeOf (f : Compaction → Compaction) (id : ℕ × ℕ) (entries : List Compaction) (c : Compaction) : Type 0 where
  pub old : Compaction
  pub at : entry_of id entries ≡ Some old
  pub is : f old ≡ c

pub mapped_from : (f : Compaction → Compaction) → KeepsIds f → (id : ℕ × ℕ) (entries : List Compaction) (c : Compaction) → entry_of id (map f entries) ≡ Some c → MadeOf f id entries c
mapped_from f keeps id entries c h = by (entry_of id entries) refl (sym (found_mapped f keeps id entries) ∙ h)
  where
    by : (o : Option Compaction) → entry_of id entries ≡ o → option_map f o ≡ Some c → MadeOf f id entries c
    by None at k = absurd cc
    by (Some old) at k = let same : f old ≡ c = cc in record { old = old; at = at; is = same }

-- what passes a test stays where those go that don't
pub filtered_at : (p : Compaction → Bool) (id : ℕ × ℕ) (entries : List Compaction) (c : Compaction) → entry_of id entries ≡ Some c → p c ≡ true → entry_of id (filter p entries) ≡ Some c
filtered_at p id [] c h k = absurd cc
filtered_at p id (d ∷ entries) c h k = by (same_id d.id id) (p d) refl refl h (λ g. filtered_at p id entries c g k)
  where
    by : (b q : Bool) → same_id d.id id ≡ b → p d ≡ q → (if b then Some d else entry_of id entries) ≡ Some c → (entry_of id entries ≡ Some c → entry_of id (filter p entries) ≡ Some c)
        → entry_of id (if q then d ∷ filter p entries else filter p entries) ≡ Some c
    by true true is kept g rest = ap (λ (b : Bool). if b then Some d else entry_of id (filter p entries)) is ∙ g
    by true false is kept g rest = let same : d ≡ c = cc in let no_more : true ≡ false = sym k ∙ ap p (sym same) ∙ kept in absurd cc
    by false true is kept g rest = ap (λ (b : Bool). if b then Some d else entry_of id (filter p entries)) is ∙ rest g
    by false false is kept g rest = rest g

-- where all of an id pass, a look-up finds the same
pub filtered_all : (p : Compaction → Bool) (id : ℕ × ℕ) → ((d : Compaction) → same_id d.id id ≡ true → p d ≡ true) → (entries : List Compaction) → entry_of id (filter p entries) ≡ entry_of id entries
filtered_all p id pass [] = refl
filtered_all p id pass (d ∷ entries) = by (same_id d.id id) (p d) refl refl (filtered_all p id pass entries)
  where
    by : (b q : Bool) → same_id d.id id ≡ b → p d ≡ q → entry_of id (filter p entries) ≡ entry_of id entries → entry_of id (if q then d ∷ filter p entries else filter p entries) ≡ (if b then Some d else entry_of id entries)
    by true true is kept rest = ap (λ (b : Bool). if b then Some d else entry_of id (filter p entries)) is
    by true false is kept rest = let both : true ≡ false = sym (pass d is) ∙ kept in absurd cc
    by false true is kept rest = ap (λ (b : Bool). if b then Some d else entry_of id (filter p entries)) is ∙ rest
    by false false is kept rest = rest

-- where none of an id passes, it finds nothing
pub filtered_none : (p : Compaction → Bool) (id : ℕ × ℕ) → ((d : Compaction) → same_id d.id id ≡ true → p d ≡ false) → (entries : List Compaction) → entry_of id (filter p entries) ≡ None
filtered_none p id fail [] = refl
filtered_none p id fail (d ∷ entries) = by (same_id d.id id) (p d) refl refl (filtered_none p id fail entries)
  where
    by : (b q : Bool) → same_id d.id id ≡ b → p d ≡ q → entry_of id (filter p entries) ≡ None → entry_of id (if q then d ∷ filter p entries else filter p entries) ≡ None
    by true true is kept rest = let both : true ≡ false = sym kept ∙ fail d is in absurd cc
    by true false is kept rest = rest
    by false true is kept rest = ap (λ (b : Bool). if b then Some d else entry_of id (filter p entries)) is ∙ rest
    by false false is kept rest = rest

or_none : (o : Option Compaction) → option_or o None ≡ o
or_none None = refl
or_none (Some c) = refl

both_or : (a b c d : Option Compaction) → a ≡ c → b ≡ d → option_or a b ≡ option_or c d
both_or a b c d h k = ap (λ o. option_or o b) h ∙ ap (λ o. option_or c o) k

-- once a compaction is put, its id has it, and any other what it had
pub found_inserted : (c : Compaction) (entries : List Compaction) (id : ℕ × ℕ) → entry_of id (inserted c entries) ≡ found_after c entries id
found_inserted c entries id =
    find-append (λ d. same_id d.id id) (filter (λ d. id_lt d.id c.id) entries) (c ∷ filter (λ d. id_lt c.id d.id) entries)
    ∙ by (id_cmp c.id id) refl
  where
    before : Option Compaction
    before = entry_of id (filter (λ d. id_lt d.id c.id) entries)

    after : Option Compaction
    after = entry_of id (filter (λ d. id_lt c.id d.id) entries)

    by : (o : Ordering) → id_cmp c.id id ≡ o → option_or before (if same_id c.id id then Some c else after) ≡ (if same_id c.id id then Some c else entry_of id entries)
    by Less h =
        let up = less c.id id h in
        let none : before ≡ None = filtered_none (λ d. id_lt d.id c.id) id (λ d is. ap (λ (k : ℕ × ℕ). id_lt k c.id) (one_id d.id id is) ∙ one_way c.id id up) entries in
        let all : after ≡ entry_of id entries = filtered_all (λ d. id_lt c.id d.id) id (λ d is. ap (λ (k : ℕ × ℕ). id_lt c.id k) (one_id d.id id is) ∙ up) entries in
        both_or _ _ None _ none (ap (λ (o : Option Compaction). if same_id c.id id then Some c else o) all)
    by Equal h =
        let same = equal c.id id h in
        let itself : same_id c.id id ≡ true = ap (λ (k : ℕ × ℕ). same_id c.id k) (sym same) ∙ is_itself c.id in
        let none : before ≡ None = filtered_none (λ d. id_lt d.id c.id) id (λ d is. ap (λ (k : ℕ × ℕ). id_lt k c.id) (one_id d.id id is ∙ sym same) ∙ not_before_itself c.id) entries in
        both_or _ _ None (Some c) none (ap (λ (b : Bool). if b then Some c else after) itself) ∙ sym (ap (λ (b : Bool). if b then Some c else entry_of id entries) itself)
    by Greater h =
        let down = greater c.id id h in
        let other : same_id c.id id ≡ false = apart id c.id down in
        let all : before ≡ entry_of id entries = filtered_all (λ d. id_lt d.id c.id) id (λ d is. ap (λ (k : ℕ × ℕ). id_lt k c.id) (one_id d.id id is) ∙ down) entries in
        let none : after ≡ None = filtered_none (λ d. id_lt c.id d.id) id (λ d is. ap (λ (k : ℕ × ℕ). id_lt c.id k) (one_id d.id id is) ∙ one_way id c.id down) entries in
        both_or _ _ (entry_of id entries) None all (ap (λ (b : Bool). if b then Some c else after) other ∙ none)
        ∙ or_none (entry_of id entries)
        ∙ sym (ap (λ (b : Bool). if b then Some c else entry_of id entries) other)

pub inserted_own : (c : Compaction) (entries : List Compaction) (id : ℕ × ℕ) → same_id c.id id ≡ true → entry_of id (inserted c entries) ≡ Some c
inserted_own c entries id is = found_inserted c entries id ∙ ap (λ (b : Bool). if b then Some c else entry_of id entries) is

pub inserted_other : (c : Compaction) (entries : List Compaction) (id : ℕ × ℕ) → same_id c.id id ≡ false → entry_of id (inserted c entries) ≡ entry_of id entries
inserted_other c entries id is = found_inserted c entries id ∙ ap (λ (b : Bool). if b then Some c else entry_of id entries) is

-- ---- what a change makes of an entry that stands

-- what is Compacted stays so, with its outputs
pub record StaysCompacted (old new : Compaction) : Type 0 where
  pub status : old.status ≡ Compacted → new.status ≡ Compacted
  pub outputs : old.status ≡ Compacted → new.output_ssts ≡ old.output_ssts

-- an entry still has a place, and stays Compacted where it was
pub record Stands (id : ℕ × ℕ) (old : Compaction) (entries : List Compaction) : Type 0 where
  pub entry : Compaction
  pub at : entry_of id entries ≡ Some entry
  pub stays : StaysCompacted old entry

pub stays_same : (c : Compaction) → StaysCompacted c c
stays_same c = record { status = λ h. h; outputs = λ h. refl }

pub stays_on : (a b c : Compaction) → StaysCompacted a b → StaysCompacted b c → StaysCompacted a c
stays_on a b c h k = record { status = λ is. k.status (h.status is); outputs = λ is. k.outputs (h.status is) ∙ h.outputs is }

-- each entry of a list stands in another
abbrev pub AllStand : List Compaction → List Compaction → Type 0
AllStand old new = (id : ℕ × ℕ) (c : Compaction) → entry_of id old ≡ Some c → Stands id c new

pub all_stand_same : (entries : List Compaction) → AllStand entries entries
all_stand_same entries id c h = record { entry = c; at = h; stays = stays_same c }

pub all_stand_on : (a b d : List Compaction) → AllStand a b → AllStand b d → AllStand a d
all_stand_on a b d h k id c at =
    let first = h id c at in
    let second = k id first.entry first.at in
    record { entry = second.entry; at = second.at; stays = stays_on c first.entry second.entry first.stays second.stays }

-- ---- the normal form

pub normal_at : (id : ℕ × ℕ) (r : Record) (c : Compaction) → entry_of id r.entries ≡ Some c → entry_of id (normal_record r).entries ≡ Some (normal_compaction c)
normal_at id r c h = mapped_at normal_compaction (λ d. refl) id r.entries c h

pub normal_from : (id : ℕ × ℕ) (r : Record) (c : Compaction) → entry_of id (normal_record r).entries ≡ Some c → MadeOf normal_compaction id r.entries c
normal_from id r c h = mapped_from normal_compaction (λ d. refl) id r.entries c h

pub normal_stays : (c : Compaction) → StaysCompacted c (normal_compaction c)
normal_stays c = record { status = λ h. h; outputs = λ h. ap (λ (s : CompactionStatus). kept_outputs s c.output_ssts) h }

pub normal_stands : (r : Record) → AllStand r.entries (normal_record r).entries
normal_stands r id c h = record { entry = normal_compaction c; at = normal_at id r c h; stays = normal_stays c }

-- an entry that stands does so in the normal form
pub stands_normal : (id : ℕ × ℕ) (c : Compaction) (r : Record) → Stands id c r.entries → Stands id c (normal_record r).entries
stands_normal id c r s = record { entry = normal_compaction s.entry; at = normal_at id r s.entry s.at; stays = stays_on c s.entry (normal_compaction s.entry) s.stays (normal_stays s.entry) }

-- ---- another epoch

pub epoch_stands : (r : Record) (epoch : ℕ) → AllStand r.entries (with_record_epoch r epoch).entries
epoch_stands r epoch = all_stand_same r.entries

-- ---- one entry more, or another in its place

-- a compaction that is put in the place of one that isn't Compacted
pub put_stands : (d : Compaction) (r : Record) → ((c : Compaction) → entry_of d.id r.entries ≡ Some c → StaysCompacted c d) → AllStand r.entries (with_entry d r).entries
put_stands d r stays id c at = by (same_id d.id id) refl
  where
    by : (b : Bool) → same_id d.id id ≡ b → Stands id c (with_entry d r).entries
    by true is = record {
      entry = d;
      at = inserted_own d r.entries id is;
      stays = stays c (ap (λ (k : ℕ × ℕ). entry_of k r.entries) (one_id d.id id is) ∙ at);
    }
    by false is = record { entry = c; at = inserted_other d r.entries id is ∙ at; stays = stays_same c }

-- a step that made a record: of the entry that was found, put in its place
pub record HasStepped (id : ℕ × ℕ) (step : Compaction → Option Compaction) (r new : Record) : Type 0 where
  pub old : Compaction
  pub at : entry_of id r.entries ≡ Some old
  pub entry : Compaction
  pub makes : step old ≡ Some entry
  pub is : new ≡ with_entry entry r

pub has_stepped : (id : ℕ × ℕ) (step : Compaction → Option Compaction) (r new : Record) → stepped id step r ≡ Ok (Some new) → HasStepped id step r new
has_stepped id step r new h = by (entry_of id r.entries) refl h
  where
    made : (old : Compaction) → entry_of id r.entries ≡ Some old → (o : Option Compaction) → step old ≡ o → put_in id r o ≡ Ok (Some new) → HasStepped id step r new
    made old at None is k = absurd cc
    made old at (Some entry) is k = let same : with_entry entry r ≡ new = cc in record { old = old; at = at; entry = entry; makes = is; is = sym same }

    by : (o : Option Compaction) → entry_of id r.entries ≡ o → found_stepped id step r o ≡ Ok (Some new) → HasStepped id step r new
    by None at k = absurd cc
    by (Some old) at k = made old at (step old) refl k

-- what a step makes has the id of what it was made of, which wasn't Compacted
pub record StepsOn (step : Compaction → Option Compaction) : Type 0 where
  pub id : (c d : Compaction) → step c ≡ Some d → d.id ≡ c.id
  pub stays : (c d : Compaction) → step c ≡ Some d → StaysCompacted c d

-- nothing is said of what isn't Compacted
not_compacted : (c d : Compaction) (test : CompactionStatus → Bool) → test c.status ≡ true → test Compacted ≡ false → StaysCompacted c d
not_compacted c d test is other = record {
  status = λ h. let both : true ≡ false = sym is ∙ ap test h ∙ other in absurd cc;
  outputs = λ h. let both : true ≡ false = sym is ∙ ap test h ∙ other in absurd cc;
}

-- a step under a test
record Under (b : Bool) (c d made : Compaction) : Type 0 where
  pub passes : b ≡ true
  pub is : made ≡ d

under : (b : Bool) (c d made : Compaction) → (if b then Some made else None) ≡ Some d → Under b c d made
under true c d made h = let same : made ≡ d = cc in record { passes = refl; is = same }
under false c d made h = absurd cc

pub schedules : StepsOn to_scheduled
schedules = record {
  id = λ c d h. let u = under (is_submitted c.status) c d (with_status Scheduled c) h in ap (λ (e : Compaction). e.id) (sym u.is);
  stays = λ c d h. let u = under (is_submitted c.status) c d (with_status Scheduled c) h in not_compacted c d is_submitted u.passes refl;
}

pub claims : (worker : ℕ) (now : ℤ) → StepsOn (to_running worker now)
claims worker now = record {
  id = λ c d h. let u = under (is_scheduled c.status) c d (record c { status = Running; worker = Some (worker_at worker now) }) h in ap (λ (e : Compaction). e.id) (sym u.is);
  stays = λ c d h. let u = under (is_scheduled c.status) c d (record c { status = Running; worker = Some (worker_at worker now) }) h in not_compacted c d is_scheduled u.passes refl;
}

pub reports : (worker : ℕ) (outputs : List SsTableHandle) → StepsOn (to_compacted worker outputs)
reports worker outputs = record {
  id = λ c d h. let u = under (is_running c.status && is_held_by worker c.worker) c d (record c { status = Compacted; output_ssts = outputs }) h in ap (λ (e : Compaction). e.id) (sym u.is);
  stays = λ c d h. let u = under (is_running c.status && is_held_by worker c.worker) c d (record c { status = Compacted; output_ssts = outputs }) h in
      not_compacted c d is_running (and_parts (is_running c.status) (is_held_by worker c.worker) u.passes).0 refl;
}

-- a step lets every entry stand
pub step_stands : (id : ℕ × ℕ) (step : Compaction → Option Compaction) → StepsOn step → (r new : Record) → stepped id step r ≡ Ok (Some new) → AllStand r.entries new.entries
step_stands id step on r new h =
    let s = has_stepped id step r new h in
    let own : s.entry.id ≡ id = on.id s.old s.entry s.makes ∙ found_id id r.entries s.old s.at in
    subst (λ (n : Record). AllStand r.entries n.entries) (sym s.is)
    (put_stands s.entry r (λ c at.
    let one : s.old ≡ c = cc (at, s.at, ap (λ (k : ℕ × ℕ). entry_of k r.entries) own) in
    subst (λ (e : Compaction). StaysCompacted e s.entry) one (on.stays s.old s.entry s.makes)))

-- so does one compaction more
pub one_more_stands : (id : ℕ × ℕ) (spec : CompactionSpec) (r new : Record) → one_more id spec r ≡ Some new → AllStand r.entries new.entries
one_more_stands id spec r new h = by (entry_of id r.entries) refl h
  where
    by : (o : Option Compaction) → entry_of id r.entries ≡ o → (if is_some o then None else Some (with_entry (asked_for id spec) r)) ≡ Some new → AllStand r.entries new.entries
    by (Some c) at k = absurd cc
    by None at k =
        let same : with_entry (asked_for id spec) r ≡ new = cc in
        subst (λ (n : Record). AllStand r.entries n.entries) same (put_stands (asked_for id spec) r (λ c found. absurd (cc (at, found))))

-- ---- what a trim keeps

-- what isn't over stays, and so does what is pending
pub kept_open : (pending : List (ℕ × ℕ)) (entries : List Compaction) (c : Compaction) → is_terminal c.status ≡ false → is_kept pending entries c ≡ true
kept_open pending entries c h = ap (λ (b : Bool). if b then (if is_passed entries c.id then has_id pending c.id else true) else true) h

pub kept_pending : (pending : List (ℕ × ℕ)) (entries : List Compaction) (c : Compaction) → has_id pending c.id ≡ true → is_kept pending entries c ≡ true
kept_pending pending entries c h = ap (λ (p : Bool). if is_terminal c.status then (if is_passed entries c.id then p else true) else true) h ∙ by (is_terminal c.status) (is_passed entries c.id)
  where
    by : (t p : Bool) → (if t then (if p then true else true) else true) ≡ true
    by true true = refl
    by true false = refl
    by false p = refl

pub retained_open : (pending : List (ℕ × ℕ)) (id : ℕ × ℕ) (entries : List Compaction) (c : Compaction) → entry_of id entries ≡ Some c → is_terminal c.status ≡ false → entry_of id (retained pending entries) ≡ Some c
retained_open pending id entries c at open_still = filtered_at (is_kept pending entries) id entries c at (kept_open pending entries c open_still)

pub retained_pending : (pending : List (ℕ × ℕ)) (id : ℕ × ℕ) (entries : List Compaction) (c : Compaction) → entry_of id entries ≡ Some c → has_id pending id ≡ true → entry_of id (retained pending entries) ≡ Some c
retained_pending pending id entries c at waits = filtered_at (is_kept pending entries) id entries c at (kept_pending pending entries c (ap (has_id pending) (found_id id entries c at) ∙ waits))

-- ---- a reset

unscheduled_id : KeepsIds unscheduled
unscheduled_id c = by (is_scheduled c.status)
  where
    by : (b : Bool) → (if b then record c { status = Submitted; worker = None } else c).id ≡ c.id
    by true = refl
    by false = refl

-- what isn't over isn't over after it, and stays Compacted
unscheduled_open : (c : Compaction) → is_terminal c.status ≡ false → is_terminal (unscheduled c).status ≡ false
unscheduled_open c h = by (is_scheduled c.status)
  where
    by : (b : Bool) → is_terminal (if b then record c { status = Submitted; worker = None } else c).status ≡ false
    by true = refl
    by false = h

unscheduled_stays : (c : Compaction) → StaysCompacted c (unscheduled c)
unscheduled_stays c = by (is_scheduled c.status) refl
  where
    by : (b : Bool) → is_scheduled c.status ≡ b → StaysCompacted c (if b then record c { status = Submitted; worker = None } else c)
    by true is = not_compacted c (record c { status = Submitted; worker = None }) is_scheduled is refl
    by false is = stays_same c

-- a reset lets all stand that isn't over
pub reset_stands : (id : ℕ × ℕ) (r : Record) (c : Compaction) → entry_of id r.entries ≡ Some c → is_terminal c.status ≡ false → Stands id c (reset r).entries
reset_stands id r c at not_over = record {
  entry = unscheduled c;
  at = retained_open [] id (map unscheduled r.entries) (unscheduled c) (mapped_at unscheduled unscheduled_id id r.entries c at) (unscheduled_open c not_over);
  stays = unscheduled_stays c;
}

-- what a reset doesn't let stand is over
pub reset_or_over : (id : ℕ × ℕ) (r : Record) (c : Compaction) → entry_of id r.entries ≡ Some c → Stands id c (reset r).entries ⊎ (is_terminal c.status ≡ true)
reset_or_over id r c at = by (is_terminal c.status) refl
  where
    by : (b : Bool) → is_terminal c.status ≡ b → Stands id c (reset r).entries ⊎ (is_terminal c.status ≡ true)
    by true is = inr is
    by false is = inl (reset_stands id r c at is)

-- ---- the statuses of a compactor

-- an entry with the local statuses
pub local_at : (local : List Compaction) (id : ℕ × ℕ) (entries : List Compaction) (c : Compaction) → entry_of id entries ≡ Some c → entry_of id (map (with_local_status local) entries) ≡ Some (with_local_status local c)
local_at local id entries c h = mapped_at (with_local_status local) (λ d. refl) id entries c h

pub local_from : (local : List Compaction) (id : ℕ × ℕ) (entries : List Compaction) (c : Compaction) → entry_of id (map (with_local_status local) entries) ≡ Some c → MadeOf (with_local_status local) id entries c
local_from local id entries c h = mapped_from (with_local_status local) (λ d. refl) id entries c h

-- the status stays, or the local one is over
pub own_or_over : (local : Record) (id : ℕ × ℕ) (status : CompactionStatus) → (terminal_or status (entry_of id local.entries) ≡ status) ⊎ IsOverIn local id
own_or_over local id status = by (entry_of id local.entries) refl
  where
    over : (d : Compaction) → entry_of id local.entries ≡ Some d → (b : Bool) → is_terminal d.status ≡ b → ((if b then d.status else status) ≡ status) ⊎ IsOverIn local id
    over d at true is = inr (record { entry = d; at = at; over = is })
    over d at false is = inl refl

    by : (o : Option Compaction) → entry_of id local.entries ≡ o → (terminal_or status o ≡ status) ⊎ IsOverIn local id
    by None at = inl refl
    by (Some d) at = over d at (is_terminal d.status) refl

-- a local compaction that isn't over ends nothing
pub not_ended : (local : List Compaction) (id : ℕ × ℕ) (d : Compaction) (status : CompactionStatus) → entry_of id local ≡ Some d → is_terminal d.status ≡ false → terminal_or status (entry_of id local) ≡ status
not_ended local id d status at not_over = ap (terminal_or status) at ∙ ap (λ (b : Bool). if b then d.status else status) not_over

-- what is Compacted with local statuses was Compacted before
pub was_compacted : (local : List Compaction) (c : Compaction) → (with_local_status local c).status ≡ Compacted → c.status ≡ Compacted
was_compacted local c h = by (entry_of c.id local) h
  where
    over : (d : Compaction) (b : Bool) → is_terminal d.status ≡ b → (if b then d.status else c.status) ≡ Compacted → c.status ≡ Compacted
    over d true is k = let both : true ≡ false = sym is ∙ ap is_terminal k in absurd cc
    over d false is k = k

    by : (o : Option Compaction) → terminal_or c.status o ≡ Compacted → c.status ≡ Compacted
    by None k = k
    by (Some d) k = over d (is_terminal d.status) refl k

-- a compaction with its own status stays as it was
with_own : (local : List Compaction) (c : Compaction) → terminal_or c.status (entry_of c.id local) ≡ c.status → StaysCompacted c (with_local_status local c)
with_own local c h = record { status = λ is. h ∙ is; outputs = λ is. refl }

-- with a compactor's statuses all stands whose local compaction isn't over, where it isn't over itself or is pending
pub statuses_stand : (local : Record) (pending : List (ℕ × ℕ)) (id : ℕ × ℕ) (r : Record) (c : Compaction) → entry_of id r.entries ≡ Some c
    → terminal_or c.status (entry_of id local.entries) ≡ c.status → (is_terminal c.status ≡ false) ⊎ (has_id pending id ≡ true) → Stands id c (with_statuses local pending r).entries
statuses_stand local pending id r c at own why = record {
  entry = with_local_status local.entries c;
  at = ⊎_elim
      (λ (h : is_terminal c.status ≡ false). retained_open pending id _ (with_local_status local.entries c) (local_at local.entries id r.entries c at) (ap is_terminal stays ∙ h))
      (λ (h : has_id pending id ≡ true). retained_pending pending id _ (with_local_status local.entries c) (local_at local.entries id r.entries c at) h)
      why;
  stays = with_own local.entries c stays;
}
  where
    stays : terminal_or c.status (entry_of c.id local.entries) ≡ c.status
    stays = ap (λ (k : ℕ × ℕ). terminal_or c.status (entry_of k local.entries)) (found_id id r.entries c at) ∙ own

-- what is pending has its place after them, whatever its status
pub pending_stays : (local : Record) (pending : List (ℕ × ℕ)) (id : ℕ × ℕ) (r : Record) (c : Compaction) → entry_of id r.entries ≡ Some c → has_id pending id ≡ true
    → entry_of id (with_statuses local pending r).entries ≡ Some (with_local_status local.entries c)
pending_stays local pending id r c at waits = retained_pending pending id (map (with_local_status local.entries) r.entries) (with_local_status local.entries c) (local_at local.entries id r.entries c at) waits

-- an entry goes only where it isn't pending, and it is over or the local one of its id is
pub record MayGo (local : Record) (pending : List (ℕ × ℕ)) (id : ℕ × ℕ) (c : Compaction) : Type 0 where
  pub not_pending : has_id pending id ≡ false
  pub over : (is_terminal c.status ≡ true) ⊎ IsOverIn local id

-- what a compactor's statuses make of an entry: it stands; or the local one of its id is over, and its place stays; or it may go
pub after_statuses : (local : Record) (pending : List (ℕ × ℕ)) (id : ℕ × ℕ) (r : Record) (c : Compaction) → entry_of id r.entries ≡ Some c
    → Stands id c (with_statuses local pending r).entries ⊎ ((IsOverIn local id × (is_some (entry_of id (with_statuses local pending r).entries) ≡ true)) ⊎ MayGo local pending id c)
after_statuses local pending id r c at = ⊎_elim
    (λ (own : terminal_or c.status (entry_of id local.entries) ≡ c.status). kept own (is_terminal c.status) refl (has_id pending id) refl)
    (λ (over : IsOverIn local id). ended over (has_id pending id) refl)
    (own_or_over local id c.status)
  where
    kept : terminal_or c.status (entry_of id local.entries) ≡ c.status → (t : Bool) → is_terminal c.status ≡ t → (p : Bool) → has_id pending id ≡ p
        → Stands id c (with_statuses local pending r).entries ⊎ ((IsOverIn local id × (is_some (entry_of id (with_statuses local pending r).entries) ≡ true)) ⊎ MayGo local pending id c)
    kept own false t p waits = inl (statuses_stand local pending id r c at own (inl t))
    kept own true t true waits = inl (statuses_stand local pending id r c at own (inr waits))
    kept own true t false waits = inr (inr (record { not_pending = waits; over = inl t }))

    ended : IsOverIn local id → (p : Bool) → has_id pending id ≡ p
        → Stands id c (with_statuses local pending r).entries ⊎ ((IsOverIn local id × (is_some (entry_of id (with_statuses local pending r).entries) ≡ true)) ⊎ MayGo local pending id c)
    ended over true waits = inr (inl (over, ap is_some (pending_stays local pending id r c at waits)))
    ended over false waits = inr (inr (record { not_pending = waits; over = inr over }))
