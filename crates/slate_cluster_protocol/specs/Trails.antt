-- What the trail alone tells: the store, and what was committed.
use Rattle.std.specs.Prelude.{ℕ, ◌==◌, ◌&&◌, Bool, true, false, List, [], ◌∷◌, map, bytes_eq, if◌then◌else◌}
use Rattle.slate_txn_log.specs.declared.log_kind.LogKind.{LogKind}
use Rattle.slate_txn_log.specs.declared.log_kind.LogKind.TheVariants as logs
use Rattle.slate_store.specs.Store.{Store, effect}
use Rattle.slate_store.specs.declared.store_call.StoreCall.{StoreCall}
use Rattle.slate_store.specs.declared.store_call.StoreCall.TheVariants.{PutNew}
use Rattle.slate_script_events.specs.declared.entry.Entry.{Entry}
use Rattle.slate_script_events.specs.declared.entry.Entry.TheVariants.{Called}
use Rattle.slate_cluster_protocol.specs.ByRows.{entry_store}
use Rattle.slate_cluster_protocol.specs.Chains.{Link}
use Rattle.slate_cluster_protocol.specs.Logs.{Chains}
use Rattle.slate_cluster_protocol.specs.Owners.{Owner, Version, owner_of}
use Rattle.slate_cluster_protocol.specs.World.{wrote}

-- the store after the entries
abbrev pub store_of : List Entry → Store → Store
store_of [] s = s
store_of (x ∷ xs) s = store_of xs (entry_store x s)

-- the bytes of each committed number of a log of a database, newest first
abbrev pub Firsts : Type 0
Firsts = LogKind → List ℕ → List (ℕ × List ℕ)

-- whether a number was put already
abbrev pub has_number : ℕ → List (ℕ × List ℕ) → Bool
has_number n [] = false
has_number n (v ∷ vs) = if v.0 == n then true else has_number n vs

-- the first put of a number decides it
abbrev pub first_put : ℕ → List ℕ → List (ℕ × List ℕ) → List (ℕ × List ℕ)
first_put n bytes vs = if has_number n vs then vs else (n, bytes) ∷ vs

-- whether two logs are one
abbrev pub same_log : LogKind → LogKind → Bool
same_log logs.Manifest logs.Manifest = true
same_log logs.Compactions logs.Compactions = true
same_log _ _ = false

-- a new object at a path of this owner commits its number, where it is a version of a log
abbrev pub owner_told : Owner → List ℕ → Firsts → Firsts
owner_told (Version log db n) bytes firsts = λ k d. if same_log k log && bytes_eq d db then first_put n bytes (firsts k d) else firsts k d
owner_told _ bytes firsts = firsts

-- a call that wrote: a put of a version commits its number
abbrev pub call_told : Bool → StoreCall → Firsts → Firsts
call_told true (PutNew path bytes) firsts = owner_told (owner_of path) bytes firsts
call_told _ _ firsts = firsts

-- what an entry commits
abbrev pub entry_told : Entry → Store → Firsts → Firsts
entry_told (Called n call moment mark answer reply) s firsts = call_told (wrote s (effect mark call moment s).store) call firsts
entry_told _ s firsts = firsts

-- what the entries commit
abbrev pub told : List Entry → Store → Firsts → Firsts
told [] s firsts = firsts
told (x ∷ xs) s firsts = told xs (entry_store x s) (entry_told x s firsts)

-- a committed version's number and bytes
abbrev pub number_and_bytes : {V A : Type 0} → Link V A → ℕ × List ℕ
number_and_bytes l = (l.number, l.bytes)

-- the numbers and bytes of chains
abbrev pub numbers_of : Chains → Firsts
numbers_of chains = λ k d. map number_and_bytes (chains k d)
