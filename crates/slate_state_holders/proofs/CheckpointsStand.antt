-- What a change made holds the checkpoint that the change is about.
use Rattle.std.specs.Prelude.{◌≡◌, ◌≢◌, ℕ, ℤ, Bool, true, false, List, [], ◌∷◌, ◌++◌, map, is_some, Option, Some, None, Result, Ok, Err, bytes_eq, if◌then◌else◌, refl}
use Rattle.std.proofs.Common.{ap, subst}
use Rattle.std.proofs.lemmas.Slice.Eq.{bytes_eq-Decides}
use Rattle.slate_ids.specs.declared.error.SlateDBError.{SlateDBError}
use Rattle.slate_ids.specs.declared.error.SlateDBError.TheVariants.{CheckpointMissing}
use Rattle.slate_model.specs.declared.checkpoint.Checkpoint.{Checkpoint}
use Rattle.slate_model.specs.declared.checkpoint.CheckpointOptions.{CheckpointOptions}
use Rattle.slate_model.specs.declared.manifest.Manifest.{Manifest}
use Rattle.slate_state_updates.specs.ManifestChanges.{made, floored, with_floor}
use Rattle.slate_state_updates.specs.Checkpoints.{written, replaced, refreshed, pushed, version_to_name, checkpoint_at, has_checkpoint, with_checkpoints, without_checkpoint, new_checkpoint, expiring, expiry}
use Rattle.slate_state_updates.specs.declared.manifest_change.ManifestChange.{ManifestChange}
use Rattle.slate_state_updates.specs.declared.manifest_change.ManifestChange.TheVariants.{WriteCheckpoint, ReplaceCheckpoint, RefreshCheckpoint}
use Rattle.slate_state_holders.specs.AboutCheckpoints.{checkpoint_of}

-- ---- lists of checkpoints

or_later : (b : Bool) (c : Checkpoint) (later : Option Checkpoint) → is_some later ≡ true → is_some (if b then Some c else later) ≡ true
or_later true c later h = refl
or_later false c later h = h

last_stands : (id : List ℕ) (c : Checkpoint) (cs : List Checkpoint) → bytes_eq c.id id ≡ true → is_some (checkpoint_at id (cs ++ c ∷ [])) ≡ true
last_stands id c [] same = ap (λ b. is_some (if b then Some c else None)) same
last_stands id c (d ∷ cs) same = or_later (bytes_eq d.id id) d _ (last_stands id c cs same)

same_id : (b : Bool) (c : Checkpoint) (time : Option ℤ) (id : List ℕ) → bytes_eq (if b then record c { expire_time = time } else c).id id ≡ bytes_eq c.id id
same_id true c time id = refl
same_id false c time id = refl

as_before : (p q : Bool) (c d : Checkpoint) (later then_later : Option Checkpoint) → q ≡ p → (is_some later ≡ true → is_some then_later ≡ true) → is_some (if p then Some c else later) ≡ true → is_some (if q then Some d else then_later) ≡ true
as_before true true c d later then_later same more h = refl
as_before false false c d later then_later same more h = more h
as_before true false c d later then_later same more h = absurd cc
as_before false true c d later then_later same more h = refl

still_stands : (id : List ℕ) (time : Option ℤ) (cs : List Checkpoint) → is_some (checkpoint_at id cs) ≡ true → is_some (checkpoint_at id (map (expiring id time) cs)) ≡ true
still_stands id time [] h = h
still_stands id time (c ∷ cs) h = as_before (bytes_eq c.id id) _ c (expiring id time c) _ _ (same_id (bytes_eq c.id id) c time id) (still_stands id time cs) h

-- ---- what is made

pushed_stands : (cs : List Checkpoint) (id : List ℕ) (options : CheckpointOptions) (now : ℤ) (m : Manifest) (version : Result ℕ SlateDBError) (new : Manifest) → pushed cs id options now m version ≡ Ok (Some new) → has_checkpoint id new ≡ true
pushed_stands cs id options now m (Ok version) new h =
    let same : with_checkpoints (cs ++ new_checkpoint id options now version ∷ []) m ≡ new = cc in
    subst (λ (k : Manifest). has_checkpoint id k ≡ true) same (last_stands id (new_checkpoint id options now version) cs ((bytes_eq-Decides id id).1 refl))
pushed_stands cs id options now m (Err e) new h = absurd cc

pushed_some : (cs : List Checkpoint) (id : List ℕ) (options : CheckpointOptions) (now : ℤ) (m : Manifest) (version : Result ℕ SlateDBError) → pushed cs id options now m version ≢ Ok None
pushed_some cs id options now m (Ok version) = λ same. absurd cc
pushed_some cs id options now m (Err e) = λ same. absurd cc

was_absent : (b : Bool) (r : Result (Option Manifest) SlateDBError) (new : Manifest) → (if b then Ok None else r) ≡ Ok (Some new) → r ≡ Ok (Some new)
was_absent true r new h = absurd cc
was_absent false r new h = h

was_there : (b : Bool) (r : Result (Option Manifest) SlateDBError) → r ≢ Ok None → (if b then Ok None else r) ≡ Ok None → b ≡ true
was_there true r some h = refl
was_there false r some h = absurd (some h)

was_refreshed : (b : Bool) (id : List ℕ) (time : Option ℤ) (m : Manifest) (e : SlateDBError) (new : Manifest) → has_checkpoint id m ≡ b → (if b then Ok (Some (with_checkpoints (map (expiring id time) m.core.checkpoints) m)) else Err e) ≡ Ok (Some new) → has_checkpoint id new ≡ true
was_refreshed true id time m e new there h =
    let same : with_checkpoints (map (expiring id time) m.core.checkpoints) m ≡ new = cc in
    subst (λ (k : Manifest). has_checkpoint id k ≡ true) same (still_stands id time m.core.checkpoints there)
was_refreshed false id time m e new there h = absurd cc

is_refreshed : (b : Bool) (m : Manifest) (e : SlateDBError) → (if b then Ok (Some m) else Err e) ≢ Ok None
is_refreshed true m e = λ same. absurd cc
is_refreshed false m e = λ same. absurd cc

-- the floor changes no checkpoint
floor_stands : (id : List ℕ) (floor : ℕ) (r : Result (Option Manifest) SlateDBError) (new : Manifest) → ((m : Manifest) → r ≡ Ok (Some m) → has_checkpoint id m ≡ true) → floored floor r ≡ Ok (Some new) → has_checkpoint id new ≡ true
floor_stands id floor (Ok (Some m)) new stands h =
    let same : with_floor floor m ≡ new = cc in
    subst (λ (k : Manifest). has_checkpoint id k ≡ true) same (stands m refl)
floor_stands id floor (Ok None) new stands h = absurd cc
floor_stands id floor (Err e) new stands h = absurd cc

floor_none : (floor : ℕ) (r : Result (Option Manifest) SlateDBError) → floored floor r ≡ Ok None → r ≡ Ok None
floor_none floor (Ok (Some m)) h = absurd cc
floor_none floor (Ok None) h = refl
floor_none floor (Err e) h = absurd cc

own_stands : (change : ManifestChange) (own id : List ℕ) (m : Manifest) → Some own ≡ Some id → has_checkpoint own m ≡ true → has_checkpoint id m ≡ true
own_stands change own id m which h = let same : own ≡ id = cc in subst (λ (k : List ℕ). has_checkpoint k m ≡ true) same h

-- in what was made
pub stands_in_new : (change : ManifestChange) (now : ℤ) (n : ℕ) (m new : Manifest) (id : List ℕ) → checkpoint_of change ≡ Some id → made change now n m ≡ Ok (Some new) → has_checkpoint id new ≡ true
stands_in_new (WriteCheckpoint own options) now n m new id which h =
    own_stands (WriteCheckpoint own options) own id new which (floor_stands own m.core.floor (written own options now n m) new (λ k from. pushed_stands m.core.checkpoints own options now m (version_to_name n options.source m) k (was_absent (has_checkpoint own m) _ k from)) h)
stands_in_new (ReplaceCheckpoint old own options) now n m new id which h =
    own_stands (ReplaceCheckpoint old own options) own id new which (floor_stands own m.core.floor (replaced old own options now n m) new (λ k from. pushed_stands (without_checkpoint old m.core.checkpoints) own options now m (version_to_name n options.source m) k (was_absent (has_checkpoint own m) _ k from)) h)
stands_in_new (RefreshCheckpoint own lifetime) now n m new id which h =
    own_stands (RefreshCheckpoint own lifetime) own id new which (floor_stands own m.core.floor (refreshed own lifetime now m) new (λ k from. was_refreshed (has_checkpoint own m) own (expiry now lifetime) m (CheckpointMissing own) k refl from) h)
stands_in_new change now n m new id which h = absurd cc

-- in what was read, where nothing was made
pub stands_in_old : (change : ManifestChange) (now : ℤ) (n : ℕ) (m : Manifest) (id : List ℕ) → checkpoint_of change ≡ Some id → made change now n m ≡ Ok None → has_checkpoint id m ≡ true
stands_in_old (WriteCheckpoint own options) now n m id which h =
    own_stands (WriteCheckpoint own options) own id m which (was_there (has_checkpoint own m) _ (pushed_some m.core.checkpoints own options now m (version_to_name n options.source m)) (floor_none m.core.floor (written own options now n m) h))
stands_in_old (ReplaceCheckpoint old own options) now n m id which h =
    own_stands (ReplaceCheckpoint old own options) own id m which (was_there (has_checkpoint own m) _ (pushed_some (without_checkpoint old m.core.checkpoints) own options now m (version_to_name n options.source m)) (floor_none m.core.floor (replaced old own options now n m) h))
stands_in_old (RefreshCheckpoint own lifetime) now n m id which h = absurd (is_refreshed (has_checkpoint own m) (with_checkpoints (map (expiring own (expiry now lifetime)) m.core.checkpoints) m) (CheckpointMissing own) (floor_none m.core.floor (refreshed own lifetime now m) h))
stands_in_old change now n m id which h = absurd cc
