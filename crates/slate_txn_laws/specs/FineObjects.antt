-- Calls that write at paths that there are alone.
use Rattle.std.specs.Prelude.{List, [], ◌∷◌, IfSome}
use Rattle.slate_ids.specs.FinePath.{IsFine}
use Rattle.slate_store.specs.StoreCalls.{Told}
use Rattle.slate_store.specs.declared.made.Made.{Made}
use Rattle.slate_store.specs.declared.store_call.StoreCall.{StoreCall}
use Rattle.slate_store.specs.declared.store_call.StoreCall.TheVariants.{List as ListCall, Get, PutNew, Replace, Put, Delete}
use Rattle.slate_txn_laws.specs.Ready.{AreFine}

-- a call that writes does so at a path that there is
abbrev pub WritesFine : StoreCall → Type 0
WritesFine (ListCall dir) = Unit {0}
WritesFine (Get path) = Unit {0}
WritesFine (PutNew path bytes) = IsFine path
WritesFine (Replace path tag bytes) = IsFine path
WritesFine (Put path bytes) = IsFine path
WritesFine (Delete path) = Unit {0}

-- so does each of these calls
abbrev pub AllWriteFine : List Made → Type 0
AllWriteFine [] = Unit {0}
AllWriteFine (m ∷ ms) = WritesFine m.call × AllWriteFine ms

-- where contents are told, each object stands at a path that there is
abbrev pub TellsFine : Told → Type 0
TellsFine told = IfSome told.contents (λ s. AreFine s.objects)
