-- Of the greatest versions of a database's chains: which epoch is at most theirs, and what stays there as they grow.
use Rattle.std.proofs.Common.{◌≡◌, ◌≢◌, ℕ, ◌<◌, ◌≤◌, Bool, true, false, List, [], ◌∷◌, Some, is_some, ⊎_elim, refl, sym, ap, ◌∙◌, subst, arith}
use Rattle.slate_txn_log.specs.declared.log_kind.LogKind.TheVariants as logs
use Rattle.slate_model.specs.declared.manifest.Manifest.{Manifest}
use Rattle.slate_model_records.specs.Compactions.{is_terminal}
use Rattle.slate_model_records.specs.Records.{Record, entry_of}
use Rattle.slate_model_records.specs.Retaining.{has_id}
use Rattle.slate_model_records.specs.declared.compaction.Compaction.{Compaction}
use Rattle.slate_state_calls.specs.Commits.{statuses_of}
use Rattle.slate_state_compactor.specs.declared.local_state.LocalState.{LocalState}
use Rattle.slate_state_record_updates.specs.RecordEpochs.{record_epoch}
use Rattle.slate_state_record_updates.specs.declared.record_change.RecordChange.TheVariants.{Reset, PutStatuses}
use Rattle.slate_state_updates.specs.Writers.{epoch_of}
use Rattle.slate_state_updates.specs.declared.epochs.ManifestEpochs.TheVariants as epochs
use Rattle.slate_cluster_protocol.specs.Chains.{Link, link_at, top, IsChain, Changed}
use Rattle.slate_cluster_protocol.specs.Chains.Changed.{Stays, Gets}
use Rattle.slate_cluster_protocol.specs.Fenced.{record_epoch_in}
use Rattle.slate_cluster_protocol.specs.Holding.{AtMostTop}
use Rattle.slate_cluster_protocol.specs.Logs.{Author, Chain, Puts, OfRecord, manifests, record_change_by, records}
use Rattle.slate_cluster_chain_laws.specs.Locals.{CompactedStay, IsCompactedIn, IsHeldIn}
use Rattle.slate_cluster_chain_laws.specs.Raises.{HasRaised}
use Rattle.slate_cluster_chain_laws.specs.RecordSteps.{EndsIt, HasOutputs, IsOverIn, KeepsEntries, TakesAway}
use Rattle.slate_cluster_chain_laws.specs.RecordSteps.TakesAway.{ByReset, ByTrim}
use Rattle.slate_cluster_chain_laws.proofs.Epochs.{compactor_rises, record_rises}
use Rattle.slate_cluster_chain_laws.proofs.Links.{first_number, link_here, link_there, same_or_not}
use Rattle.slate_cluster_chain_laws.proofs.Locals.{EntriesStay, stay_on, stay_same}
use Rattle.slate_cluster_chain_laws.proofs.Raises.{raised_once}
use Rattle.slate_cluster_chain_laws.proofs.RecordSteps.{record_step}
use Rattle.slate_cluster_laws.proofs.Opens.{HasEpoch}
use Rattle.slate_cluster_compactor_laws.specs.Pending.{IsTopEpoch}

-- ---- epochs

-- what was raised is at most the epoch of the greatest manifest
pub raised_most : (c : Chain logs.Manifest) → IsChain manifests c → (n e : ℕ) → HasRaised c n e → AtMostTop (epoch_of epochs.Compactor) e c
raised_most [] h n e r = absurd (cc (r.at))
raised_most (l ∷ c) h n e r = subst (λ (x : ℕ). x ≤ l.value.compactor_epoch) r.epoch (compactor_rises r.number r.link l c h r.at)

-- what a record was given is at most the epoch of the greatest one
pub given_most : (c : Chain logs.Compactions) → IsChain records c → (e : ℕ) → HasEpoch record_epoch e c → AtMostTop record_epoch e c
given_most [] h e g = absurd (cc (g.committed.at))
given_most (l ∷ c) h e g = subst (λ (x : ℕ). x ≤ record_epoch l.value) g.same (subst (λ (v : Record). record_epoch v ≤ record_epoch l.value) g.committed.value (record_rises g.number g.committed.link l c h g.committed.at))

pub raised_kept : (c c' : Chain logs.Manifest) → ((k : ℕ) (l : Link Manifest Author) → link_at k c ≡ Some l → link_at k c' ≡ Some l) → (n e : ℕ) → HasRaised c n e → HasRaised c' n e
raised_kept c c' kept n e r = record { number = r.number; link = r.link; at = kept r.number r.link r.at; author = r.author; by = r.by; party = r.party; puts = r.puts; epoch = r.epoch }

-- an epoch that is the greatest manifest's was so before, where it was not above
pub epoch_back : (c c' : Chain logs.Manifest) → IsChain manifests c' → ((k : ℕ) (l : Link Manifest Author) → link_at k c ≡ Some l → link_at k c' ≡ Some l) → (e : ℕ) → AtMostTop (epoch_of epochs.Compactor) e c → IsTopEpoch e c' → IsTopEpoch e c
epoch_back [] c' h kept e most top = absurd most
epoch_back (l ∷ c) [] h kept e most top = absurd top
epoch_back (l ∷ c) (m ∷ d) h kept e most top =
    let up = compactor_rises l.number l m d h (kept l.number l (link_here l.number l c refl)) in
    omega (arith, most, up, top)

pub below_top : (c : Chain logs.Manifest) (x e : ℕ) → AtMostTop (epoch_of epochs.Compactor) x c → IsTopEpoch e c → x ≤ e
below_top [] x e most top = absurd most
below_top (l ∷ c) x e most top = omega (arith, most, top)

-- ---- what is put takes nothing

pub record IsQuiet (puts : Puts) (old : Record) : Type 0 where
  pub takes : (id : ℕ × ℕ) → TakesAway puts old id → ⊥
  pub ends : (id : ℕ × ℕ) → EndsIt puts old id → ⊥

-- whether what is put is an open's reset, or a compactor's statuses
abbrev pub trims : Puts → Bool
trims (OfRecord (Reset epoch)) = true
trims (OfRecord (PutStatuses compactor local pending)) = true
trims _ = false

pub harmless : (puts : Puts) (old : Record) → trims puts ≡ false → IsQuiet puts old
harmless puts old h = record { takes = λ id t. takes id t; ends = λ id e. cc (ap trims e.is, h) }
  where
    takes : (id : ℕ × ℕ) → TakesAway puts old id → ⊥
    takes id (ByReset epoch is fenced over) = cc (ap trims is, h)
    takes id (ByTrim epoch local pending is fenced free over) = cc (ap trims is, h)

-- while a party's epoch is that of the greatest manifest, no other party trims: its epoch would be the same
pub else_quiet : (c : Chain logs.Manifest) → IsChain manifests c → (n e : ℕ) → HasRaised c n e → IsTopEpoch e c → (author : Author) → author.party ≢ n
    → ((x : ℕ) → record_epoch_in (record_change_by author.puts) ≡ Some x → HasRaised c author.party x) → (old : Record) → e ≤ old.compactor_epoch → IsQuiet author.puts old
else_quiet c h n e mine top author other raised old given = record { takes = λ id t. takes id t; ends = λ id i. fenced i.epoch (ap (λ (p : Puts). record_epoch_in (record_change_by p)) i.is) i.fenced }
  where
    fenced : (x : ℕ) → record_epoch_in (record_change_by author.puts) ≡ Some x → old.compactor_epoch ≤ x → ⊥
    fenced x is le =
        let its = raised x is in
        let most = below_top c x e (raised_most c h author.party x its) top in
        let same : x ≡ e = omega arith in
        other (raised_once c h author.party n e (subst (HasRaised c author.party) same its) mine).1

    takes : (id : ℕ × ℕ) → TakesAway author.puts old id → ⊥
    takes id (ByReset epoch is le over) = fenced epoch (ap (λ (p : Puts). record_epoch_in (record_change_by p)) is) le
    takes id (ByTrim epoch local pending is le free over) = fenced epoch (ap (λ (p : Puts). record_epoch_in (record_change_by p)) is) le

pub compacted_next : (puts : Puts) (old new : Record) → KeepsEntries puts old new → ((id : ℕ × ℕ) → EndsIt puts old id → ⊥) → CompactedStay old new
compacted_next puts old new keeps ends id is =
    ⊎_elim
    (λ (h : HasOutputs new id is.entry.output_ssts). record { entry = h.entry; at = h.at; status = h.status })
    (λ (e : EndsIt puts old id). absurd (ends id e))
    (keeps.compacted id is.entry.output_ssts (record { entry = is.entry; at = is.at; status = is.status; same = refl }))

pub entries_next : (puts : Puts) (old new : Record) → KeepsEntries puts old new → ((id : ℕ × ℕ) → TakesAway puts old id → ⊥) → EntriesStay old new
entries_next puts old new keeps takes id some =
    ⊎_elim (λ (s : is_some (entry_of id new.entries) ≡ true). s) (λ (t : TakesAway puts old id). absurd (takes id t)) (keeps.stays id some)

-- ---- what is put leaves what a compactor holds

pub record IsGentle (local : LocalState) (puts : Puts) (old : Record) : Type 0 where
  pub takes : (id : ℕ × ℕ) → has_id local.pending id ≡ true → TakesAway puts old id → ⊥
  pub ends : (id : ℕ × ℕ) → IsCompactedIn local.compactions id → EndsIt puts old id → ⊥

pub quiet_gentle : (local : LocalState) (puts : Puts) (old : Record) → IsQuiet puts old → IsGentle local puts old
quiet_gentle local puts old q = record { takes = λ id waits t. q.takes id t; ends = λ id is e. q.ends id e }

-- its own statuses do
pub own_gentle : (local : LocalState) (epoch : ℕ) (puts : Puts) (old : Record) → puts ≡ OfRecord (statuses_of epoch local) → IsGentle local puts old
own_gentle local epoch puts old own = record {
  takes = λ id waits t. takes id waits t;
  ends = λ id is e.
      let same : e.local ≡ local.compactions = local_is e.epoch e.local e.pending (sym e.is ∙ own) in
      let over : IsOverIn local.compactions id = subst (λ (r : Record). IsOverIn r id) same e.over in
      let one : over.entry ≡ is.entry = cc (over.at, is.at) in
      cc (over.over, ap (λ (c : Compaction). is_terminal c.status) one, ap is_terminal is.status);
}
  where
    local_is : (e : ℕ) (r : Record) (pending : List (ℕ × ℕ)) → OfRecord (PutStatuses (Some e) r pending) ≡ OfRecord (statuses_of epoch local) → r ≡ local.compactions
    local_is e r pending is = cc is

    pending_is : (e : ℕ) (r : Record) (pending : List (ℕ × ℕ)) → OfRecord (PutStatuses (Some e) r pending) ≡ OfRecord (statuses_of epoch local) → pending ≡ local.pending
    pending_is e r pending is = cc is

    takes : (id : ℕ × ℕ) → has_id local.pending id ≡ true → TakesAway puts old id → ⊥
    takes id waits (ByReset e is fenced over) = let clash : OfRecord (Reset e) ≡ OfRecord (statuses_of epoch local) = sym is ∙ own in cc clash
    takes id waits (ByTrim e r pending is fenced free over) = cc (waits, free, ap (λ (p : List (ℕ × ℕ)). has_id p id) (pending_is e r pending (sym is ∙ own)))

pub held_next : (local : LocalState) (puts : Puts) (old new : Record) → KeepsEntries puts old new → IsGentle local puts old → IsHeldIn old local → IsHeldIn new local
held_next local puts old new keeps gentle h = record {
  pending = λ id waits. ⊎_elim (λ (s : is_some (entry_of id new.entries) ≡ true). s) (λ (t : TakesAway puts old id). absurd (gentle.takes id waits t)) (keeps.stays id (h.pending id waits));
  compacted = λ id is.
      let was = h.compacted id is in
      ⊎_elim
      (λ (s : HasOutputs new id was.entry.output_ssts). record { entry = s.entry; at = s.at; status = s.status })
      (λ (e : EndsIt puts old id). absurd (gentle.ends id is e))
      (keeps.compacted id was.entry.output_ssts (record { entry = was.entry; at = was.at; status = was.status; same = refl }));
}

-- ---- the greatest record

-- of the greatest version, where there is one
abbrev pub OnTop : (Record → Type 0) → Chain logs.Compactions → Type 0
OnTop P [] = Unit {0}
OnTop P (l ∷ c) = P l.value

-- what follows on a chain of records by an author keeps what it leaves
pub top_next : (P : Record → Type 0) (A : Author → Type 0) (c c' : Chain logs.Compactions) → IsChain records c' → Changed A c c'
    → ((old new : Link Record Author) (rest : Chain logs.Compactions) (author : Author) → c ≡ old ∷ rest → c' ≡ new ∷ c → new.by ≡ Some author → A author → KeepsEntries author.puts old.value new.value → P old.value → P new.value)
    → (e : ℕ) → AtMostTop record_epoch e c → OnTop P c → OnTop P c'
top_next P A [] c' h changed step e most has = absurd most
top_next P A (old ∷ rest) c' h (Stays same) step e most has = subst (OnTop P) (sym same) has
top_next P A (old ∷ rest) c' h (Gets new author by is same) step e most has =
    let chain = subst (IsChain records) same h in
    let author_is : chain.0.author ≡ author = cc (chain.0.by, by) in
    subst (OnTop P) (sym same) (step old new rest author refl same by is (subst (λ (a : Author). KeepsEntries a.puts old.value new.value) author_is (record_step old new chain.0)) has)

-- what has been read or put at a number is Compacted in the greatest record
abbrev pub IsRecent : Chain logs.Compactions → ℕ → Type 0
IsRecent c j = (l : Link Record Author) → link_at j c ≡ Some l → OnTop (CompactedStay l.value) c

-- so is what is on top
pub top_recent : (l : Link Record Author) (c : Chain logs.Compactions) (j : ℕ) → l.number ≡ j → IsRecent (l ∷ c) j
top_recent l c j e k at = let same : l ≡ k = cc (link_here j l c e, at) in subst (λ (x : Link Record Author). CompactedStay x.value l.value) same (stay_same l.value)

above_zero : (l : Link Record Author) (c : Chain logs.Compactions) → IsChain records (l ∷ c) → 0 < l.number
above_zero l [] h = let one = first_number records l h in omega arith
above_zero l (m ∷ c) h = let up = h.0.number in omega arith

pub listed_recent : (c : Chain logs.Compactions) → IsChain records c → (j : ℕ) → (0 < top c → j ≡ top c) → IsRecent c j
listed_recent [] h j is = λ l at. absurd (cc at)
listed_recent (l ∷ c) h j is = top_recent l c j (sym (is (above_zero l c h)))

pub recent_next : (A : Author → Type 0) (c c' : Chain logs.Compactions) → IsChain records c' → Changed A c c'
    → ((old new : Link Record Author) (rest : Chain logs.Compactions) (author : Author) → c ≡ old ∷ rest → c' ≡ new ∷ c → new.by ≡ Some author → A author → IsQuiet author.puts old.value) → (e : ℕ) → AtMostTop record_epoch e c → (j : ℕ)
    → IsRecent c j → IsRecent c' j
recent_next A c c' h (Stays same) quiet e most j recent = subst (λ (d : Chain logs.Compactions). IsRecent d j) (sym same) recent
recent_next A c c' h (Gets new author by is same) quiet e most j recent =
    subst (λ (d : Chain logs.Compactions). IsRecent d j) (sym same)
    (λ l at. ⊎_elim
    (λ (here : new.number ≡ j). top_recent new c j here l at)
    (λ (ne : new.number ≢ j).
    top_next (CompactedStay l.value) A c (new ∷ c) (subst (IsChain records) same h) (Gets new author by is refl)
    (λ old next rest who first grown put_by has keeps stay. stay_on l.value old.value next.value stay (compacted_next who.puts old.value next.value keeps (quiet old next rest who first (same ∙ grown) put_by has).ends))
    e most (recent l (sym (link_there j new c ne) ∙ at)))
    (same_or_not new.number j))
