-- The compactors' epoch of a manifest changes by raises alone, so it was raised once to each epoch.
use Rattle.std.proofs.Common.{◌≡◌, ◌≢◌, ℕ, ℤ, ◌+◌, ◌<◌, ◌==◌, Bool, true, false, List, [], ◌∷◌, Option, Some, None, Result, Ok, Err, ⊎_elim, refl, sym, ap, ◌∙◌, subst, arith}
use Rattle.std.specs.Prelude.{if◌then◌else◌}
use Rattle.std.specs.List.{list_any}
use Rattle.slate_ids.specs.Limits.{last_number}
use Rattle.slate_ids.specs.declared.error.SlateDBError.{SlateDBError}
use Rattle.slate_ids.specs.declared.error.SlateDBError.TheVariants.{Exhausted, CheckpointMissing}
use Rattle.slate_model.specs.declared.checkpoint.Checkpoint.{Checkpoint}
use Rattle.slate_model.specs.declared.checkpoint.CheckpointOptions.{CheckpointOptions}
use Rattle.slate_model.specs.declared.manifest.Manifest.{Manifest}
use Rattle.slate_layout_encodable.specs.Normal.{normal_manifest}
use Rattle.slate_state_merges.specs.LocalTrees.{Trees, trees_merged, with_merged}
use Rattle.slate_state_updates.specs.Checkpoints.{has_checkpoint, is_expired, pushed, version_to_name, without_checkpoint, written, replaced, refreshed, deleted, unexpired}
use Rattle.slate_state_updates.specs.ManifestChanges.{floored, keeping, made as manifest_made, some_merged}
use Rattle.slate_state_updates.specs.Writers.{raised, with_epoch}
use Rattle.slate_state_updates.specs.declared.epochs.ManifestEpochs.TheVariants as epochs
use Rattle.slate_state_updates.specs.declared.manifest_change.ManifestChange.{ManifestChange}
use Rattle.slate_state_updates.specs.declared.manifest_change.ManifestChange.TheVariants.{RaiseWriter, RaiseCompactor, Flush, WriteCheckpoint, ReplaceCheckpoint, RefreshCheckpoint, DeleteCheckpoint, DropExpired, KeepTrees, MergeTrees}
use Rattle.slate_txn_changes.specs.Changes.{made_by}
use Rattle.slate_txn_log.specs.declared.log_kind.LogKind.TheVariants as logs
use Rattle.slate_cluster_protocol.specs.Chains.{Link, link_at, IsChain, IsFirst, Follows}
use Rattle.slate_cluster_protocol.specs.Chains.IsFirst.{Opens, Begins}
use Rattle.slate_cluster_protocol.specs.Logs.{Author, Chain, Puts, OfManifest, OfRecord, First, change_by, manifests}
use Rattle.slate_cluster_chain_laws.specs.Raises.{HasRaised, RaisesOrKeeps}
use Rattle.slate_cluster_chain_laws.specs.Raises.RaisesOrKeeps.{Raises, Keeps}
use Rattle.slate_cluster_chain_laws.proofs.Epochs.{compactor_rises}
use Rattle.slate_cluster_chain_laws.proofs.Links.{link_here, link_there, same_or_not}

-- ---- what a change makes of a manifest has its compactors' epoch, but for a raise

-- what was made, where something was, has this epoch
abbrev HasIt : ℕ → Result (Option Manifest) SlateDBError → Type 0
HasIt e (Ok (Some m)) = m.compactor_epoch ≡ e
HasIt e _ = Unit {0}

has_it : (e : ℕ) (r : Result (Option Manifest) SlateDBError) (m : Manifest) → HasIt e r → r ≡ Ok (Some m) → m.compactor_epoch ≡ e
has_it e (Ok (Some k)) m h is = let same : k ≡ m = cc is in subst (λ (x : Manifest). x.compactor_epoch ≡ e) same h
has_it e (Ok None) m h is = absurd (cc is)
has_it e (Err error) m h is = absurd (cc is)

floored_has : (e floor : ℕ) (r : Result (Option Manifest) SlateDBError) → HasIt e r → HasIt e (floored floor r)
floored_has e floor (Ok (Some m)) h = h
floored_has e floor (Ok None) h = tt
floored_has e floor (Err error) h = tt

pushed_has : (cs : List Checkpoint) (id : List ℕ) (options : CheckpointOptions) (now : ℤ) (m : Manifest) (r : Result ℕ SlateDBError) → HasIt m.compactor_epoch (pushed cs id options now m r)
pushed_has cs id options now m (Ok version) = refl
pushed_has cs id options now m (Err error) = tt

-- by a test
if_has : (e : ℕ) (b : Bool) (x y : Result (Option Manifest) SlateDBError) → HasIt e x → HasIt e y → HasIt e (if b then x else y)
if_has e true x y h k = h
if_has e false x y h k = k

written_has : (id : List ℕ) (options : CheckpointOptions) (now : ℤ) (n : ℕ) (m : Manifest) → HasIt m.compactor_epoch (written id options now n m)
written_has id options now n m =
    if_has m.compactor_epoch (has_checkpoint id m) (Ok None) (pushed m.core.checkpoints id options now m (version_to_name n options.source m)) tt (pushed_has m.core.checkpoints id options now m (version_to_name n options.source m))

replaced_has : (old id : List ℕ) (options : CheckpointOptions) (now : ℤ) (n : ℕ) (m : Manifest) → HasIt m.compactor_epoch (replaced old id options now n m)
replaced_has old id options now n m =
    if_has m.compactor_epoch (has_checkpoint id m) (Ok None) (pushed (without_checkpoint old m.core.checkpoints) id options now m (version_to_name n options.source m)) tt
    (pushed_has (without_checkpoint old m.core.checkpoints) id options now m (version_to_name n options.source m))

merged_has : (m : Manifest) (r : Result Trees SlateDBError) → HasIt m.compactor_epoch (some_merged (with_merged m r))
merged_has m (Ok trees) = refl
merged_has m (Err error) = tt

raised_writer : (m : Manifest) (b : Bool) (e : SlateDBError) → HasIt m.compactor_epoch (if b then Err e else Ok (Some (with_epoch epochs.Writer m (m.writer_epoch + 1))))
raised_writer m true e = tt
raised_writer m false e = refl

keeps_it : (change : ManifestChange) (now : ℤ) (n : ℕ) (m : Manifest) → change ≢ RaiseCompactor → HasIt m.compactor_epoch (manifest_made change now n m)
keeps_it RaiseCompactor now n m other = absurd (other refl)
keeps_it RaiseWriter now n m other = raised_writer m (m.writer_epoch == last_number) (Exhausted m.writer_epoch)
keeps_it (Flush writer batch) now n m other = refl
keeps_it (WriteCheckpoint id options) now n m other = floored_has m.compactor_epoch m.core.floor (written id options now n m) (written_has id options now n m)
keeps_it (ReplaceCheckpoint old id options) now n m other = floored_has m.compactor_epoch m.core.floor (replaced old id options now n m) (replaced_has old id options now n m)
keeps_it (RefreshCheckpoint id lifetime) now n m other =
    floored_has m.compactor_epoch m.core.floor (refreshed id lifetime now m) (if_has m.compactor_epoch (has_checkpoint id m) (Ok (Some _)) (Err (CheckpointMissing id)) refl tt)
keeps_it (DeleteCheckpoint id) now n m other = floored_has m.compactor_epoch m.core.floor (deleted id m) (if_has m.compactor_epoch (has_checkpoint id m) (Ok (Some _)) (Ok None) refl tt)
keeps_it DropExpired now n m other = floored_has m.compactor_epoch m.core.floor (unexpired now m) (if_has m.compactor_epoch (list_any (is_expired now) m.core.checkpoints) (Ok (Some _)) (Ok None) refl tt)
keeps_it (KeepTrees compactor checkpoint) now n m other = floored_has m.compactor_epoch m.core.floor (written checkpoint keeping now n m) (written_has checkpoint keeping now n m)
keeps_it (MergeTrees compactor trees outputs) now n m other = merged_has m (trees_merged m.core trees)

-- a raise adds one
raises_it : (m new : Manifest) (b : Bool) (e : SlateDBError) → (let r : Result (Option Manifest) SlateDBError = if b then Err e else Ok (Some (with_epoch epochs.Compactor m (m.compactor_epoch + 1))) in r) ≡ Ok (Some new)
    → new.compactor_epoch ≡ m.compactor_epoch + 1
raises_it m new true e h = absurd (cc h)
raises_it m new false e h = let same : with_epoch epochs.Compactor m (m.compactor_epoch + 1) ≡ new = cc h in ap (λ (x : Manifest). x.compactor_epoch) (sym same)

-- ---- from a version to the next

puts_step : (puts : Puts) (now : ℤ) (n : ℕ) (old made : Manifest) → made_by manifest_made (change_by puts) now n old ≡ Ok (Some made) → RaisesOrKeeps puts old (normal_manifest made)
puts_step First now n old made h = absurd (cc h)
puts_step (OfRecord change) now n old made h = absurd (cc h)
puts_step (OfManifest RaiseCompactor) now n old made h = Raises refl (raises_it old made (old.compactor_epoch == last_number) (Exhausted old.compactor_epoch) h)
puts_step (OfManifest RaiseWriter) now n old made h = Keeps (λ e. cc e) (has_it old.compactor_epoch _ made (keeps_it RaiseWriter now n old (λ e. cc e)) h)
puts_step (OfManifest (Flush writer batch)) now n old made h = Keeps (λ e. cc e) (has_it old.compactor_epoch _ made (keeps_it (Flush writer batch) now n old (λ e. cc e)) h)
puts_step (OfManifest (WriteCheckpoint id options)) now n old made h = Keeps (λ e. cc e) (has_it old.compactor_epoch _ made (keeps_it (WriteCheckpoint id options) now n old (λ e. cc e)) h)
puts_step (OfManifest (ReplaceCheckpoint from id options)) now n old made h = Keeps (λ e. cc e) (has_it old.compactor_epoch _ made (keeps_it (ReplaceCheckpoint from id options) now n old (λ e. cc e)) h)
puts_step (OfManifest (RefreshCheckpoint id lifetime)) now n old made h = Keeps (λ e. cc e) (has_it old.compactor_epoch _ made (keeps_it (RefreshCheckpoint id lifetime) now n old (λ e. cc e)) h)
puts_step (OfManifest (DeleteCheckpoint id)) now n old made h = Keeps (λ e. cc e) (has_it old.compactor_epoch _ made (keeps_it (DeleteCheckpoint id) now n old (λ e. cc e)) h)
puts_step (OfManifest DropExpired) now n old made h = Keeps (λ e. cc e) (has_it old.compactor_epoch _ made (keeps_it DropExpired now n old (λ e. cc e)) h)
puts_step (OfManifest (KeepTrees compactor checkpoint)) now n old made h = Keeps (λ e. cc e) (has_it old.compactor_epoch _ made (keeps_it (KeepTrees compactor checkpoint) now n old (λ e. cc e)) h)
puts_step (OfManifest (MergeTrees compactor trees outputs)) now n old made h = Keeps (λ e. cc e) (has_it old.compactor_epoch _ made (keeps_it (MergeTrees compactor trees outputs) now n old (λ e. cc e)) h)

pub raise_step : (old new : Link Manifest Author) (f : Follows manifests old new) → RaisesOrKeeps f.author.puts old.value new.value
raise_step old new f = subst (λ (m : Manifest). RaisesOrKeeps f.author.puts old.value m) (sym f.value) (puts_step f.author.puts f.author.now old.number old.value f.made f.makes)

-- what raises it has one more than the version before
pub raise_adds : (old new : Link Manifest Author) (f : Follows manifests old new) → f.author.puts ≡ OfManifest RaiseCompactor → new.value.compactor_epoch ≡ old.value.compactor_epoch + 1
raise_adds old new f is = by (raise_step old new f)
  where
    by : RaisesOrKeeps f.author.puts old.value new.value → new.value.compactor_epoch ≡ old.value.compactor_epoch + 1
    by (Raises raises adds) = adds
    by (Keeps other keeps) = absurd (other is)

-- ---- along a chain

-- a version by which someone raised the epoch
record IsRaise (l : Link Manifest Author) : Type 0 where
  author : Author
  by : l.by ≡ Some author
  puts : author.puts ≡ OfManifest RaiseCompactor

-- it follows another
raise_above : (new old : Link Manifest Author) (c : Chain logs.Manifest) → IsChain manifests (new ∷ old ∷ c) → IsRaise new → (k : ℕ) (u : Link Manifest Author) → link_at k (old ∷ c) ≡ Some u
    → u.value.compactor_epoch < new.value.compactor_epoch
raise_above new old c h raise k u at =
    let same : h.0.author ≡ raise.author = cc (h.0.by, raise.by) in
    let adds = raise_adds old new h.0 (ap (λ (a : Author). a.puts) same ∙ raise.puts) in
    let below = compactor_rises k u old c h.1 at in
    omega arith

-- the first version is none
first_none : (l : Link Manifest Author) → IsFirst manifests l → IsRaise l → ⊥
first_none l (Opens number by value alone) raise = cc (by, raise.by)
first_none l (Begins author made number by makes bytes value) raise = cc makes

raised_apart : (i j : ℕ) (u v : Link Manifest Author) (c : Chain logs.Manifest) → IsChain manifests c → link_at i c ≡ Some u → link_at j c ≡ Some v → IsRaise u → IsRaise v
    → u.value.compactor_epoch ≡ v.value.compactor_epoch → i ≡ j
raised_apart i j u v [] h at_i at_j raise_u raise_v same = absurd (cc at_i)
raised_apart i j u v (l ∷ []) h at_i at_j raise_u raise_v same =
    ⊎_elim
    (λ (e : l.number ≡ i). let is : l ≡ u = cc (link_here i l [] e, at_i) in absurd (first_none l h (subst IsRaise (sym is) raise_u)))
    (λ (ne : l.number ≢ i). absurd (cc (link_there i l [] ne, at_i)))
    (same_or_not l.number i)
raised_apart i j u v (l ∷ m ∷ c) h at_i at_j raise_u raise_v same =
    ⊎_elim
    (λ (e : l.number ≡ i).
    let is : l ≡ u = cc (link_here i l (m ∷ c) e, at_i) in
    ⊎_elim
    (λ (f : l.number ≡ j). sym e ∙ f)
    (λ (ne : l.number ≢ j).
    let lt = raise_above l m c h (subst IsRaise (sym is) raise_u) j v (sym (link_there j l (m ∷ c) ne) ∙ at_j) in
    let equal : l.value.compactor_epoch ≡ v.value.compactor_epoch = ap (λ (x : Link Manifest Author). x.value.compactor_epoch) is ∙ same in
    absurd (omega arith))
    (same_or_not l.number j))
    (λ (ne : l.number ≢ i).
    let below = sym (link_there i l (m ∷ c) ne) ∙ at_i in
    ⊎_elim
    (λ (f : l.number ≡ j).
    let is : l ≡ v = cc (link_here j l (m ∷ c) f, at_j) in
    let lt = raise_above l m c h (subst IsRaise (sym is) raise_v) i u below in
    let equal : u.value.compactor_epoch ≡ l.value.compactor_epoch = same ∙ ap (λ (x : Link Manifest Author). x.value.compactor_epoch) (sym is) in
    absurd (omega arith))
    (λ (other : l.number ≢ j). raised_apart i j u v (m ∷ c) h.1 below (sym (link_there j l (m ∷ c) other) ∙ at_j) raise_u raise_v same)
    (same_or_not l.number j))
    (same_or_not l.number i)

-- one epoch is raised once, so by one party
pub raised_once : (c : Chain logs.Manifest) → IsChain manifests c → (n m e : ℕ) (one : HasRaised c n e) (other : HasRaised c m e) → (one.number ≡ other.number) × (n ≡ m)
raised_once c h n m e one other =
    let number = raised_apart one.number other.number one.link other.link c h one.at other.at (record { author = one.author; by = one.by; puts = one.puts }) (record { author = other.author; by = other.by; puts = other.puts }) (one.epoch ∙ sym other.epoch) in
    let link : one.link ≡ other.link = cc (number, one.at, other.at) in
    let author : one.author ≡ other.author = cc (link, one.by, other.by) in
    (number, sym one.party ∙ (ap (λ (a : Author). a.party) author ∙ other.party))
