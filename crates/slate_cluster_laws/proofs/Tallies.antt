-- The greatest committed numbers that are kept beside the store, and where a step leaves the store.
use Rattle.std.proofs.Common.{◌≡◌, ◌≢◌, ℕ, ℤ, ◌+◌, ◌<◌, ◌≤◌, ◌^◌, max, Bool, true, false, List, [], ◌∷◌, Option, Some, None, is_some, ◌⊎◌, inl, inr, ⊎_elim, refl, sym, ap, ◌∙◌, subst, arith}
use Rattle.std.specs.Prelude.{decimal}
use Rattle.slate_ids.specs.Ids.{is_db_path}
use Rattle.slate_ids.specs.declared.object_path.ObjectPath.{ObjectPath}
use Rattle.slate_ids.specs.declared.object_path.ObjectPath.TheVariants as paths
use Rattle.slate_store.specs.Store.{Store, object_at, stored, removed, has_tag, put_new, replace, whole, under, taken, effect}
use Rattle.slate_store.specs.declared.mark.Mark.{Mark}
use Rattle.slate_store.specs.declared.mark.Mark.TheVariants.{Good, Fail, Lost}
use Rattle.slate_store.specs.declared.object.StoredObject.{StoredObject}
use Rattle.slate_store.specs.declared.store_answer.StoreAnswer.{StoreAnswer}
use Rattle.slate_store.specs.declared.store_answer.StoreAnswer.TheVariants.{Deleted}
use Rattle.slate_store.specs.declared.store_call.StoreCall.{StoreCall}
use Rattle.slate_store.specs.declared.store_call.StoreCall.TheVariants.{PutNew, Replace, Put}
use Rattle.slate_txn_log.specs.AdvancePhase.{advance_asks}
use Rattle.slate_txn_log.specs.LogPaths.{version_path, boundary_path}
use Rattle.slate_txn_log.specs.declared.advance_phase.AdvancePhase.{AdvancePhase}
use Rattle.slate_txn_log.specs.declared.advance_phase.AdvancePhase.TheVariants as advancing
use Rattle.slate_txn_log.specs.declared.commit_phase.CommitPhase.{CommitPhase}
use Rattle.slate_txn_log.specs.declared.commit_phase.CommitPhase.TheVariants as committing
use Rattle.slate_txn_log.specs.declared.log_kind.LogKind.{LogKind}
use Rattle.slate_txn_log.specs.declared.log_kind.LogKind.TheVariants as logs
use Rattle.slate_txn_log.specs.declared.read_phase.ReadPhase.{ReadPhase}
use Rattle.slate_txn_log.specs.declared.read_phase.ReadPhase.TheVariants as reading
use Rattle.slate_txn_log.specs.ReadPhase.{read_asks}
use Rattle.slate_state_referenced.specs.Referenced.{referenced_asks}
use Rattle.slate_state_referenced.specs.declared.referenced_phase.ReferencedPhase.{ReferencedPhase}
use Rattle.slate_state_referenced.specs.declared.referenced_phase.ReferencedPhase.TheVariants as fetching
use Rattle.slate_ids.specs.declared.gc_message.GcMessage.{GcMessage}
use Rattle.slate_ids.specs.declared.gc_message.GcMessage.TheVariants as of
use Rattle.slate_gc_passes.specs.Pass.{pass_asks}
use Rattle.slate_gc_passes.specs.Rows.{log_of_pass, log_or_manifests}
use Rattle.slate_gc_passes.specs.declared.pass_phase.PassPhase.{PassPhase}
use Rattle.slate_gc_passes.specs.declared.pass_phase.PassPhase.TheVariants as passing
use Rattle.slate_cluster_protocol.specs.Chains.{Link, link_at, top, if_new}
use Rattle.slate_cluster_protocol.specs.Holding.{pass_log}
use Rattle.slate_cluster_protocol.specs.Logs.{Author, Held, log_of, Chain, Chains, Phrase, Reads, Commits, Uploads, Fetches, Collects, put_by, chains_put}
use Rattle.slate_cluster_protocol.specs.World.{tally_of, number_in, tallied, committed, raise_tally, to_manifest, to_record}
use Rattle.slate_cluster_protocol.specs.declared.tally.Tally.{Tally}
use Rattle.slate_store.proofs.LookUps.{put_object}
use Rattle.slate_cluster_laws.proofs.Stores.{IsTidy, tidy_put, tidy_left, same_name}
use Rattle.slate_cluster_chain_laws.proofs.Links.{at_most, next_number}
use Rattle.slate_cluster_laws.proofs.Maps.{name_order, set_here, set_else}
use Rattle.slate_cluster_laws.proofs.Facts.{IsSound, IsNext}
use Rattle.slate_cluster_laws.proofs.Paths.{IsOwn, IsNobodys, own_fine, table_nobodys}
use Rattle.slate_cluster_laws.proofs.Paths.IsOwn.{OwnVersion, OwnBoundary}
use Rattle.slate_cluster_laws.proofs.Passes.{PassKnows}
use Rattle.slate_cluster_laws.proofs.Referenced.{FetchKnows}
use Rattle.slate_cluster_laws.proofs.Sweeps.{SweepKnows}
use Rattle.slate_cluster_laws.proofs.Steps.{log_in, db_in, phrase_asks, author_of, CollectKnows, PhraseKnows, put_of, own_put, other_put, none_put}

abbrev Tallies : Type 0
Tallies = List (List ℕ × Tally)

-- ---- the store after a step

-- a step leaves the store, or writes or deletes at a path of a database's log, or at one that no log has
pub data StoreAfter (k : LogKind) (db : List ℕ) (s s' : Store) : Type 0 where
  Same : s' ≡ s → StoreAfter k db s s'
  Wrote : (p : ObjectPath) → (bytes : List ℕ) → (moment : ℤ) → IsOwn k db p → s' ≡ stored p bytes moment s → StoreAfter k db s s'
  Gone : (p : ObjectPath) → IsOwn k db p → s' ≡ removed p s → StoreAfter k db s s'
  WroteElse : (p : ObjectPath) → (bytes : List ℕ) → (moment : ℤ) → IsNobodys p → s' ≡ stored p bytes moment s → StoreAfter k db s s'
  GoneElse : (p : ObjectPath) → IsNobodys p → s' ≡ removed p s → StoreAfter k db s s'

put_after : (k : LogKind) (db : List ℕ) (p : ObjectPath) (bytes : List ℕ) (moment : ℤ) (s : Store) → IsOwn k db p → (o : Option StoredObject) (mark : Mark) → StoreAfter k db s (under mark (put_new o p bytes moment s) s).store
put_after k db p bytes moment s own (Some object) Good = Same refl
put_after k db p bytes moment s own (Some object) Fail = Same refl
put_after k db p bytes moment s own (Some object) Lost = Same refl
put_after k db p bytes moment s own None Good = Wrote p bytes moment own refl
put_after k db p bytes moment s own None Fail = Same refl
put_after k db p bytes moment s own None Lost = Wrote p bytes moment own refl

replace_after : (k : LogKind) (db : List ℕ) (p : ObjectPath) (bytes : List ℕ) (moment : ℤ) (s : Store) → IsOwn k db p → (b : Bool) (mark : Mark) → StoreAfter k db s (under mark (replace b p bytes moment s) s).store
replace_after k db p bytes moment s own false Good = Same refl
replace_after k db p bytes moment s own false Fail = Same refl
replace_after k db p bytes moment s own false Lost = Same refl
replace_after k db p bytes moment s own true Good = Wrote p bytes moment own refl
replace_after k db p bytes moment s own true Fail = Same refl
replace_after k db p bytes moment s own true Lost = Wrote p bytes moment own refl

-- a call that reads
got_after : (k : LogKind) (db : List ℕ) (s : Store) (mark : Mark) (answer : StoreAnswer) → StoreAfter k db s (under mark (record { store = s; answer = answer }) s).store
got_after k db s Good answer = Same refl
got_after k db s Fail answer = Same refl
got_after k db s Lost answer = Same refl

advance_after : (k : LogKind) (db : List ℕ) (s : Store) (mark : Mark) (moment : ℤ) (phase : AdvancePhase) → StoreAfter k db s (effect mark (advance_asks db k phase) moment s).store
advance_after k db s mark moment (advancing.Bounding n) = got_after k db s mark _
advance_after k db s mark moment (advancing.Creating n) = put_after k db (boundary_path k db) (decimal n) moment s (OwnBoundary refl) (object_at (boundary_path k db) s) (taken mark (PutNew (boundary_path k db) (decimal n)) s)
advance_after k db s mark moment (advancing.Replacing n tag) = replace_after k db (boundary_path k db) (decimal n) moment s (OwnBoundary refl) (has_tag tag (object_at (boundary_path k db) s)) (taken mark (Replace (boundary_path k db) tag (decimal n)) s)
advance_after k db s mark moment advancing.Over = got_after k db s mark _

delete_after : (k : LogKind) (db : List ℕ) (s : Store) (p : ObjectPath) → IsOwn k db p → (mark : Mark) → StoreAfter k db s (under mark (record { store = removed p s; answer = Deleted }) s).store
delete_after k db s p own Good = Gone p own refl
delete_after k db s p own Fail = Same refl
delete_after k db s p own Lost = Gone p own refl

-- the delete of an object that no log has
delete_else : (k : LogKind) (db : List ℕ) (s : Store) (p : ObjectPath) → IsNobodys p → (mark : Mark) → StoreAfter k db s (under mark (record { store = removed p s; answer = Deleted }) s).store
delete_else k db s p other Good = GoneElse p other refl
delete_else k db s p other Fail = Same refl
delete_else k db s p other Lost = GoneElse p other refl

-- where a log lies
pub its_kind : (k : LogKind) → (log_of k).kind ≡ k
its_kind logs.Manifest = refl
its_kind logs.Compactions = refl

-- a pass over a log
log_after : (k : LogKind) (pass : GcMessage) → pass_log pass ≡ k → (s : Store) (c : Chain k) (db : List ℕ) (mark : Mark) (moment : ℤ) → top c < 2 ^ 64 → (phase : PassPhase) → PassKnows (log_of k) db s c phase
    → StoreAfter k db s (effect mark (pass_asks db pass phase) moment s).store
log_after k pass own s c db mark moment small (passing.Listing heads versions) h = got_after k db s mark _
log_after k pass own s c db mark moment small (passing.Getting n listed found) h = got_after k db s mark _
log_after k pass own s c db mark moment small (passing.Bounding n listed candidates) h = got_after k db s mark _
log_after k pass own s c db mark moment small (passing.Advancing phase left counts) h =
    subst (λ j. StoreAfter k db s (effect mark (advance_asks db j phase) moment s).store) (sym own) (advance_after k db s mark moment phase)
log_after k pass own s c db mark moment small (passing.Deleting [] counts) h = got_after k db s mark _
log_after k pass own s c db mark moment small (passing.Deleting (m ∷ left) counts) h =
    let lt = h.0.has.1.below in
    delete_after k db s m.location (OwnVersion h.0.number (omega arith) (h.0.is ∙ ap (λ j. version_path j db h.0.number) (its_kind k))) mark
log_after k pass own s c db mark moment small _ h = absurd h

-- a pass over no log
sweep_after : (pass : GcMessage) (s : Store) (c : Chain logs.Manifest) (db : List ℕ) (mark : Mark) (moment : ℤ) (phase : PassPhase) → SweepKnows c phase → StoreAfter logs.Manifest db s (effect mark (pass_asks db pass phase) moment s).store
sweep_after pass s c db mark moment (passing.Listing heads versions) h = got_after logs.Manifest db s mark _
sweep_after pass s c db mark moment (passing.Deleting [] counts) h = got_after logs.Manifest db s mark _
sweep_after pass s c db mark moment (passing.Deleting (m ∷ left) counts) h = delete_else logs.Manifest db s m.location h.0 mark
sweep_after pass s c db mark moment _ h = absurd h

pass_after : (pass : GcMessage) (s : Store) (chains : Chains) (db : List ℕ) (mark : Mark) (moment : ℤ) → top (chains (pass_log pass) db) < 2 ^ 64 → (phase : PassPhase) → CollectKnows s chains db pass phase
    → StoreAfter (pass_log pass) db s (effect mark (pass_asks db pass phase) moment s).store
pass_after of.Manifest s chains db mark moment small phase h = log_after logs.Manifest of.Manifest refl s (chains logs.Manifest db) db mark moment small phase h
pass_after of.Compactions s chains db mark moment small phase h = log_after logs.Compactions of.Compactions refl s (chains logs.Compactions db) db mark moment small phase h
pass_after of.Compacted s chains db mark moment small phase h = sweep_after of.Compacted s (chains logs.Manifest db) db mark moment phase h
pass_after of.Wal s chains db mark moment small phase h = sweep_after of.Wal s (chains logs.Manifest db) db mark moment phase h
pass_after of.WalFence s chains db mark moment small phase h = sweep_after of.WalFence s (chains logs.Manifest db) db mark moment phase h
pass_after of.Detach s chains db mark moment small phase h = absurd h

-- the reading of the versions that a manifest names
fetch_after : (c : Chain logs.Manifest) (db : List ℕ) (s : Store) (n : ℕ) (mark : Mark) (moment : ℤ) (phase : ReferencedPhase) → FetchKnows c n phase → StoreAfter logs.Manifest db s (effect mark (referenced_asks db phase) moment s).store
fetch_after c db s n mark moment (fetching.Getting [] found) h = got_after logs.Manifest db s mark _
fetch_after c db s n mark moment (fetching.Getting (k ∷ left) found) h = got_after logs.Manifest db s mark _
fetch_after c db s n mark moment fetching.Over h = absurd h

read_after : (k : LogKind) (db : List ℕ) (s : Store) (chains : Chains) (n : ℕ) (mark : Mark) (moment : ℤ) (phase : ReadPhase (Held k)) → PhraseKnows s chains n (Reads k db phase)
    → StoreAfter k db s (effect mark (phrase_asks (Reads k db phase)) moment s).store
read_after k db s chains n mark moment reading.Over h = absurd h
read_after k db s chains n mark moment _ h = got_after k db s mark _

commit_after : (k : LogKind) (db : List ℕ) (s : Store) (chains : Chains) (n : ℕ) (mark : Mark) (moment : ℤ) (puts : _) (now : ℤ) (phase : CommitPhase (Held k)) → PhraseKnows s chains n (Commits k db puts now phase)
    → StoreAfter k db s (effect mark (phrase_asks (Commits k db puts now phase)) moment s).store
commit_after k db s chains n mark moment puts now (committing.Putting m bytes v) h =
    let p = version_path (log_of k).kind db m in
    put_after k db p bytes moment s (OwnVersion m h.small (ap (λ j. version_path j db m) (its_kind k))) (object_at p s) (taken mark (PutNew p bytes) s)
commit_after k db s chains n mark moment puts now (committing.Bounding m v) h = got_after k db s mark _
commit_after k db s chains n mark moment puts now committing.Over h = absurd h

-- the put of an object that no log has
else_after : (k : LogKind) (db : List ℕ) (p : ObjectPath) (bytes : List ℕ) (moment : ℤ) (s : Store) → IsNobodys p → (mark : Mark) → StoreAfter k db s (under mark (whole (Put p bytes) moment s) s).store
else_after k db p bytes moment s other Good = WroteElse p bytes moment other refl
else_after k db p bytes moment s other Fail = Same refl
else_after k db p bytes moment s other Lost = WroteElse p bytes moment other refl

pub store_after : (s : Store) (chains : Chains) (n : ℕ) (mark : Mark) (moment : ℤ) (phrase : Phrase) → is_db_path (db_in phrase) ≡ true → IsSound (log_of (log_in phrase)) (db_in phrase) s (chains (log_in phrase) (db_in phrase)) → PhraseKnows s chains n phrase
    → StoreAfter (log_in phrase) (db_in phrase) s (effect mark (phrase_asks phrase) moment s).store
store_after s chains n mark moment (Reads k db phase) named i h = read_after k db s chains n mark moment phase h
store_after s chains n mark moment (Commits k db puts now phase) named i h = commit_after k db s chains n mark moment puts now phase h
store_after s chains n mark moment (Uploads db table bytes) named i h =
    else_after logs.Manifest db (paths.Table db table) bytes moment s (table_nobodys db table named h) (taken mark (Put (paths.Table db table) bytes) s)
store_after s chains n mark moment (Fetches db m phase) named i h = fetch_after (chains logs.Manifest db) db s m mark moment phase h
store_after s chains n mark moment (Collects db pass phase) named i h = pass_after pass s chains db mark moment i.small phase h

pub tidy_after : (k : LogKind) (db : List ℕ) (s s' : Store) → is_db_path db ≡ true → StoreAfter k db s s' → IsTidy s.objects → IsTidy s'.objects
tidy_after k db s s' named (Same e) h = subst (λ (t : Store). IsTidy t.objects) (sym e) h
tidy_after k db s s' named (Wrote p bytes moment own e) h = subst (λ (t : Store). IsTidy t.objects) (sym e) (tidy_put p (put_object s bytes moment) (own_fine k db p named own) s.objects h)
tidy_after k db s s' named (WroteElse p bytes moment other e) h = subst (λ (t : Store). IsTidy t.objects) (sym e) (tidy_put p (put_object s bytes moment) other.fine s.objects h)
tidy_after k db s s' named (Gone p own e) h = subst (λ (t : Store). IsTidy t.objects) (sym e) (tidy_left p s.objects h)
tidy_after k db s s' named (GoneElse p other e) h = subst (λ (t : Store). IsTidy t.objects) (sym e) (tidy_left p s.objects h)

-- ---- ---- the tallies after a step

-- a tally with a version of this number
abbrev raise_of : LogKind → ℕ → Tally → Tally
raise_of logs.Manifest n t = to_manifest n t
raise_of logs.Compactions n t = to_record n t

committed_is : (k : LogKind) (db : List ℕ) (n : ℕ) (tallies : Tallies) → committed (version_path (log_of k).kind db n) tallies ≡ raise_tally (tally_of db tallies) db (raise_of k n) tallies
committed_is logs.Manifest db n tallies = refl
committed_is logs.Compactions db n tallies = refl

raised_number : (k : LogKind) (n : ℕ) (t : Tally) → number_in k (raise_of k n t) ≡ max (number_in k t) n
raised_number logs.Manifest n t = refl
raised_number logs.Compactions n t = refl

kept_number : (j k : LogKind) (n : ℕ) (t : Tally) → j ≢ k → number_in j (raise_of k n t) ≡ number_in j t
kept_number logs.Manifest logs.Manifest n t ne = absurd (ne refl)
kept_number logs.Compactions logs.Compactions n t ne = absurd (ne refl)
kept_number logs.Manifest logs.Compactions n t ne = refl
kept_number logs.Compactions logs.Manifest n t ne = refl

pub same_kind : (j k : LogKind) → (j ≡ k) ⊎ (j ≢ k)
same_kind logs.Manifest logs.Manifest = inl refl
same_kind logs.Compactions logs.Compactions = inl refl
same_kind logs.Manifest logs.Compactions = inr (λ e. cc)
same_kind logs.Compactions logs.Manifest = inr (λ e. cc)

-- the tally of a database stands for its chains
abbrev pub Told : Tallies → Chains → LogKind → List ℕ → Type 0
Told tallies chains k d = (t : Tally) → tally_of d tallies ≡ Some t → number_in k t ≡ top (chains k d)

-- the same databases, each with the tops of its chains
pub record TalliesAfter (tallies tallies' : Tallies) (chains' : Chains) : Type 0 where
  pub same : (d : List ℕ) → is_some (tally_of d tallies') ≡ is_some (tally_of d tallies)
  pub told : (k : LogKind) (d : List ℕ) → Told tallies' chains' k d

tallies_same : (tallies : Tallies) (chains chains' : Chains) → ((k : LogKind) (d : List ℕ) → Told tallies chains k d) → ((k : LogKind) (d : List ℕ) → chains' k d ≡ chains k d) → TalliesAfter tallies tallies chains'
tallies_same tallies chains chains' told e = record { same = λ d. refl; told = λ k d t h. told k d t h ∙ sym (ap top (e k d)) }

new_top : (n a b : ℕ) → n ≡ a + 1 → b ≡ a → max b n ≡ n
new_top n a b e f = grind arith

old_top : (n a b : ℕ) → n ≤ a → b ≡ a → max b n ≡ a
old_top n a b e f = grind arith

module _ (s : Store) (chains : Chains) (tallies : Tallies) (told : (k : LogKind) (d : List ℕ) → Told tallies chains k d) where
  -- a put that wrote: the greater of the tally and its number is the top again
  module _ (k : LogKind) (db : List ℕ) (i : IsSound (log_of k) db s (chains k db)) (author : Author) (n : ℕ) (bytes : List ℕ) (v : Held k) (h : IsNext (log_of k) (chains k db) author n bytes v) where
    abbrev put : Link (Held k) Author
    put = record { number = n; bytes = bytes; value = (log_of k).normal v; by = Some author }

    put_top : (b : ℕ) (o : Option (Link (Held k) Author)) → link_at n (chains k db) ≡ o → b ≡ top (chains k db) → max b n ≡ top (if_new o put (chains k db))
    put_top b None e same = new_top n (top (chains k db)) b (next_number (log_of k) (chains k db) i.chain author n v h.made e) same
    put_top b (Some l) e same = old_top n (top (chains k db)) b (at_most (log_of k) n l (chains k db) i.chain e) same

    abbrev chains' : Chains
    chains' = chains_put true (Some (put_of k db put)) chains

    abbrev tallies' : Option Tally → Tallies
    tallies' o = raise_tally o db (raise_of k n) tallies

    here_at : (t : Tally) → tally_of db tallies ≡ Some t → tally_of db (tallies' (tally_of db tallies)) ≡ Some (raise_of k n t)
    here_at t at = ap (λ (o : Option Tally). tally_of db (tallies' o)) at ∙ set_here _ name_order db (raise_of k n t) t tallies at

    away_at : (d : List ℕ) (o : Option Tally) → d ≢ db → tally_of d (tallies' o) ≡ tally_of d tallies
    away_at d None ne = refl
    away_at d (Some t) ne = set_else _ name_order db d (raise_of k n t) tallies ne

    none_at : tally_of db tallies ≡ None → tally_of db (tallies' (tally_of db tallies)) ≡ None
    none_at at = ap (λ (o : Option Tally). tally_of db (tallies' o)) at ∙ at

    same_is : (d : List ℕ) (o : Option Tally) → tally_of db tallies ≡ o → (d ≡ db) ⊎ (d ≢ db) → is_some (tally_of d (tallies' (tally_of db tallies))) ≡ is_some (tally_of d tallies)
    same_is d (Some t) at (inl e) = subst (λ x. is_some (tally_of x (tallies' (tally_of db tallies))) ≡ is_some (tally_of x tallies)) (sym e) (ap is_some (here_at t at) ∙ sym (ap is_some at))
    same_is d None at (inl e) = subst (λ x. is_some (tally_of x (tallies' (tally_of db tallies))) ≡ is_some (tally_of x tallies)) (sym e) (ap is_some (none_at at) ∙ sym (ap is_some at))
    same_is d o at (inr ne) = ap is_some (away_at d (tally_of db tallies) ne)

    -- of this log, and of another of this database
    own_told : (t : Tally) → tally_of db tallies ≡ Some t → number_in k (raise_of k n t) ≡ top (chains' k db)
    own_told t at = raised_number k n t ∙ (put_top (number_in k t) (link_at n (chains k db)) refl (told k db t at) ∙ sym (ap top (own_put true k db put chains)))

    else_told : (j : LogKind) → j ≢ k → (t : Tally) → tally_of db tallies ≡ Some t → number_in j (raise_of k n t) ≡ top (chains' j db)
    else_told j ne t at = kept_number j k n t ne ∙ (told j db t at ∙ sym (ap top (other_put true k db put chains j db (λ e same. ne e))))

    here_told : (j : LogKind) (t : Tally) → tally_of db tallies ≡ Some t → number_in j (raise_of k n t) ≡ top (chains' j db)
    here_told j t at = ⊎_elim (λ (e : j ≡ k). subst (λ x. number_in x (raise_of k n t) ≡ top (chains' x db)) (sym e) (own_told t at)) (λ (ne : j ≢ k). else_told j ne t at) (same_kind j k)

    told_here : (j : LogKind) (o : Option Tally) → tally_of db tallies ≡ o → Told (tallies' (tally_of db tallies)) chains' j db
    told_here j None at = λ t h. absurd (cc (none_at at, h))
    told_here j (Some t) at = λ t' h. let same : raise_of k n t ≡ t' = cc (here_at t at, h) in sym (ap (λ (x : Tally). number_in j x) same) ∙ here_told j t at

    told_there : (j : LogKind) (d : List ℕ) → d ≢ db → Told (tallies' (tally_of db tallies)) chains' j d
    told_there j d ne = λ t h. told j d t (sym (away_at d (tally_of db tallies) ne) ∙ h) ∙ sym (ap top (other_put true k db put chains j d (λ e same. ne same)))

    told_is : (j : LogKind) (d : List ℕ) → (d ≡ db) ⊎ (d ≢ db) → Told (tallies' (tally_of db tallies)) chains' j d
    told_is j d (inl e) = subst (λ x. Told (tallies' (tally_of db tallies)) chains' j x) (sym e) (told_here j (tally_of db tallies) refl)
    told_is j d (inr ne) = told_there j d ne

    put_tallies : TalliesAfter tallies (tallies' (tally_of db tallies)) chains'
    put_tallies = record { same = λ d. same_is d (tally_of db tallies) refl (same_name d db); told = λ j d. told_is j d (same_name d db) }

    pub puts_tallies : (b : Bool) → TalliesAfter tallies (tallied (PutNew (version_path (log_of k).kind db n) bytes) b tallies) (chains_put b (Some (put_of k db put)) chains)
    puts_tallies true = subst (λ (ts : Tallies). TalliesAfter tallies ts chains') (sym (committed_is k db n tallies)) put_tallies
    puts_tallies false = tallies_same tallies chains chains told (λ j d. refl)

  advance_tallies : (k : LogKind) (db : List ℕ) (phase : AdvancePhase) (b : Bool) → tallied (advance_asks db k phase) b tallies ≡ tallies
  advance_tallies k db (advancing.Bounding n) b = refl
  advance_tallies logs.Manifest db (advancing.Creating n) true = refl
  advance_tallies logs.Compactions db (advancing.Creating n) true = refl
  advance_tallies k db (advancing.Creating n) false = refl
  advance_tallies k db (advancing.Replacing n tag) b = refl
  advance_tallies k db advancing.Over b = refl

  read_tallies : {V : Type 0} (db : List ℕ) (k : LogKind) (phase : ReadPhase V) (b : Bool) → tallied (read_asks db k phase) b tallies ≡ tallies
  read_tallies db k reading.Listing b = refl
  read_tallies db k (reading.Getting n) b = refl
  read_tallies db k (reading.Bounding n v) b = refl
  read_tallies db k reading.Over b = refl

  fetch_tallies : (db : List ℕ) (phase : ReferencedPhase) (b : Bool) → tallied (referenced_asks db phase) b tallies ≡ tallies
  fetch_tallies db (fetching.Getting [] found) b = refl
  fetch_tallies db (fetching.Getting (n ∷ left) found) b = refl
  fetch_tallies db fetching.Over b = refl

  pass_tallies : (db : List ℕ) (pass : GcMessage) (phase : PassPhase) (b : Bool) → tallied (pass_asks db pass phase) b tallies ≡ tallies
  pass_tallies db pass (passing.ReadingRecord phase) b = read_tallies db logs.Compactions phase b
  pass_tallies db pass (passing.ReadingManifest least phase) b = read_tallies db logs.Manifest phase b
  pass_tallies db pass (passing.Fetching heads phase) b = fetch_tallies db phase b
  pass_tallies db pass (passing.Listing heads versions) b = refl
  pass_tallies db pass (passing.Getting n listed found) b = refl
  pass_tallies db pass (passing.Bounding n listed candidates) b = refl
  pass_tallies db pass (passing.Advancing phase left counts) b = advance_tallies (log_or_manifests (log_of_pass pass)) db phase b
  pass_tallies db pass (passing.Deleting [] counts) b = refl
  pass_tallies db pass (passing.Deleting (m ∷ left) counts) b = refl
  pass_tallies db pass passing.Over b = refl

  -- a call that changes no tally
  quiet_tallies : (asked : StoreCall) (b : Bool) → tallied asked b tallies ≡ tallies → TalliesAfter tallies (tallied asked b tallies) (chains_put b None chains)
  quiet_tallies asked b same = subst (λ (ts : Tallies). TalliesAfter tallies ts (chains_put b None chains)) (sym same) (tallies_same tallies chains (chains_put b None chains) told (none_put b chains))

  pub tallies_after : (n : ℕ) (phrase : Phrase) (b : Bool) → IsSound (log_of (log_in phrase)) (db_in phrase) s (chains (log_in phrase) (db_in phrase)) → PhraseKnows s chains n phrase
      → TalliesAfter tallies (tallied (phrase_asks phrase) b tallies) (chains_put b (put_by n phrase) chains)
  tallies_after n (Reads k db phase) b i h = quiet_tallies (read_asks db (log_of k).kind phase) b (read_tallies db (log_of k).kind phase b)
  tallies_after n (Commits k db puts now (committing.Putting m bytes v)) b i h = puts_tallies k db i (author_of n puts now) m bytes v h b
  tallies_after n (Commits k db puts now (committing.Bounding m v)) b i h = tallies_same tallies chains _ told (none_put b chains)
  tallies_after n (Commits k db puts now committing.Over) b i h = absurd h
  tallies_after n (Uploads db table bytes) b i h = tallies_same tallies chains _ told (none_put b chains)
  tallies_after n (Fetches db m phase) b i h = quiet_tallies (referenced_asks db phase) b (fetch_tallies db phase b)
  tallies_after n (Collects db pass phase) b i h = quiet_tallies (pass_asks db pass phase) b (pass_tallies db pass phase b)
