-- What a change of a version is committed as, or why it is refused, before any call.
use Rattle.std.specs.Prelude.{◌≡◌, ℕ, List, Some, None, Ok, Err}
use Rattle.slate_ids.specs.Limits.{last_number}
use Rattle.slate_ids.specs.declared.error.SlateDBError.{SlateDBError}
use Rattle.slate_ids.specs.declared.error.SlateDBError.TheVariants.{Exhausted}
use Rattle.slate_txn.specs.Apply.{Ways}
use Rattle.slate_txn.specs.ApplyMoves.{ways_by, MayWays}
use Rattle.slate_txn.specs.Holder.{Holder}

-- a change that is computed may answer what it makes
abbrev pub may_of : {T C R : Type 0} → Ways T C R → MayWays T C R
may_of ways = ways_by ways.decoded ways.encoded ways.refusal (λ id value reply. ways.changed id value ≡ reply) ways.right

-- the change may make this value of the version, the rules allow it, and these are its bytes
pub record IsChange {T C R : Type 0} (ways : MayWays T C R) (holder : Holder T C R) (id : ℕ) (value wanted : T) (bytes : List ℕ) : Type 0 where
  pub changed : ways.may id value (Ok (Some wanted))
  pub allowed : ways.refusal holder.rules id value wanted ways.right ≡ None
  pub encoded : ways.encoded holder.sequenced.codec wanted ≡ Ok bytes

-- the change may refuse the version so, or it has the last number, or the rules or the codec refuse what the change may make of it
pub data IsRefusal {T C R : Type 0} (ways : MayWays T C R) (holder : Holder T C R) (id : ℕ) (value : T) (e : SlateDBError) : Type 0 where
  ByChange : ways.may id value (Err e) → IsRefusal ways holder id value e
  ByNumber : id ≡ last_number → e ≡ Exhausted id → IsRefusal ways holder id value e
  ByRules : (wanted : T) → ways.may id value (Ok (Some wanted)) → ways.refusal holder.rules id value wanted ways.right ≡ Some e → IsRefusal ways holder id value e
  ByCodec : (wanted : T) → ways.may id value (Ok (Some wanted)) → ways.encoded holder.sequenced.codec wanted ≡ Err e → IsRefusal ways holder id value e
