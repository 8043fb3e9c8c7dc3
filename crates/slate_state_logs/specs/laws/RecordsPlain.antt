-- The codec of records and the rules on them refuse a record for what it is.
use Rattle.std.specs.Prelude.{◌≡◌, ◌==◌, nat_lt, ℕ, pos, Bool, true, false, List, [], ◌∷◌, Option, Some, None, is_some, Result, Ok, Err, if◌then◌else◌, refl}
use Rattle.std.specs.List.{list_any}
use Rattle.std.specs.Option.{option_or}
use Rattle.slate_state_logs.specs.RecordLog.{record_of_bytes, bytes_of_record, record_missing, record_rules}
use Rattle.slate_ids.specs.declared.error.SlateDBError.{SlateDBError}
use Rattle.slate_ids.specs.declared.error.FieldName.{FieldName}
use Rattle.slate_ids.specs.declared.error.FormatName.TheVariants as format
use Rattle.slate_ids.specs.declared.error.UpdateRule.{UpdateRule}
use Rattle.slate_ids.specs.declared.error.UpdateRule.TheVariants.{U1, U8, U9}
use Rattle.slate_layout.specs.Codec.{if_typed}
use Rattle.slate_layout.specs.RecordCodec.{record_encoded}
use Rattle.slate_txn_log.specs.declared.right.Right.{Right}
use Rattle.slate_layout_parts.specs.InfoCodec.{unless_field}
use Rattle.slate_layout_records.specs.RecordFields.{encoded_record, is_record, record_field, record_bytes}
use Rattle.slate_state_record_updates.specs.RecordRules.{clock_refusal, clocks_refusal, entry_refusal, epoch_falls, first_refusal, is_emptied, is_lost, least_ms, outputs_refusal, removal_refusal, rule_refusal, table_refusal}
use Rattle.slate_model_records.specs.Records.{Record, entry_of}
use Rattle.slate_model_records.specs.declared.compaction.Compaction.{Compaction}
use Rattle.slate_model_tables.specs.declared.ss_table_id.SsTableId.{SsTableId}
use Rattle.slate_model_tables.specs.declared.ss_table_id.SsTableId.TheVariants.{Wal, Compacted}
use Rattle.slate_ids.specs.declared.error.SlateDBError.TheVariants.{Corrupt, InvalidClockTick, StoreFault}
use Rattle.slate_txn_log.specs.Due.{NoFault}
use Rattle.slate_layout_parts.specs.Reading.{u16_in}
use Rattle.slate_layout_records.specs.RecordBytes.{first_record, second_record, record_or_corrupt, record_by_version, record_after_version, decoded_record}
use Rattle.slate_txn_laws.proofs.PlainCommits.{apart, either}
use Rattle.slate_txn_laws.specs.Plain.{refuses_plainly, Plainly, PlainLog}
use Rattle.slate_txn_laws.specs.Replies.{MissingIsPlain}

-- ---- the bytes

corrupt_so : (r : Option Record) → Plainly (record_or_corrupt r)
corrupt_so (Some r) = refl
corrupt_so None = refl

version_so : (version : ℕ) (bytes : List ℕ) → Plainly (record_by_version version bytes)
version_so version bytes = either (version == 1) _ _ (corrupt_so (first_record bytes)) (either (version == 2) _ _ (corrupt_so (second_record bytes)) refl)

after_so : (p : Option (ℕ × List ℕ)) → Plainly (record_after_version p)
after_so None = refl
after_so (Some p) = version_so p.0 p.1

decoded_so : (bytes : List ℕ) → Plainly (decoded_record bytes)
decoded_so bytes = after_so (u16_in bytes)

field_so : (field : Option FieldName) (bytes : List ℕ) → Plainly (unless_field field bytes)
field_so None bytes = refl
field_so (Some field) bytes = refl

typed_so : (typed : Bool) (bytes : Result (List ℕ) SlateDBError) → Plainly bytes → Plainly (if_typed format.Compactions typed bytes)
typed_so typed (Ok bytes) h = either typed (Ok bytes) (Err (Corrupt format.Compactions)) refl refl
typed_so typed (Err e) h = h

encoded_so : (r : Record) → Plainly (record_encoded r)
encoded_so r = typed_so (is_record r) (encoded_record r) (field_so (record_field r) (record_bytes r))

-- ---- the rules

or_so : (x y : Option SlateDBError) → refuses_plainly x ≡ true → refuses_plainly y ≡ true → refuses_plainly (option_or x y) ≡ true
or_so None y one other = other
or_so (Some e) y one other = one

rule_so : (broken : Bool) (rule : UpdateRule) → refuses_plainly (rule_refusal broken rule) ≡ true
rule_so true rule = refl
rule_so false rule = refl

test_so : (b : Bool) (x y : Option SlateDBError) → refuses_plainly x ≡ true → refuses_plainly y ≡ true → refuses_plainly (if b then x else y) ≡ true
test_so true x y one other = one
test_so false x y one other = other

clock_so : (last next : ℕ) → refuses_plainly (clock_refusal last next) ≡ true
clock_so last next = test_so (nat_lt next last) (Some (InvalidClockTick (pos last) (pos next))) None refl refl

first_so : {X : Type 0} (refusal : X → Option SlateDBError) → ((x : X) → refuses_plainly (refusal x) ≡ true) → (xs : List X) → refuses_plainly (first_refusal refusal xs) ≡ true
first_so refusal each [] = refl
first_so refusal each (x ∷ xs) = or_so (refusal x) (first_refusal refusal xs) (each x) (first_so refusal each xs)

entry_so : (old : List Compaction) (c : Compaction) → refuses_plainly (entry_refusal old c) ≡ true
entry_so old c = test_so (is_some (entry_of c.id old)) None (clock_refusal (least_ms old) c.id.0) refl (clock_so (least_ms old) c.id.0)

table_so : (ms : ℕ) (id : SsTableId) → refuses_plainly (table_refusal ms id) ≡ true
table_so ms (Wal number) = refl
table_so ms (Compacted id) = clock_so ms id.0

outputs_so : (c : Compaction) → refuses_plainly (outputs_refusal c) ≡ true
outputs_so c = first_so (λ sst. table_refusal c.id.0 sst.id) (λ sst. table_so c.id.0 sst.id) c.output_ssts

clocks_so : (old new : List Compaction) → refuses_plainly (clocks_refusal old new) ≡ true
clocks_so old new = or_so (first_refusal (entry_refusal old) new) (first_refusal outputs_refusal new) (first_so (entry_refusal old) (entry_so old) new) (first_so outputs_refusal outputs_so new)

removal_so : (right : Right) (old new : List Compaction) → refuses_plainly (removal_refusal right old new) ≡ true
removal_so right old new = or_so (rule_refusal (is_emptied old new) U8) _ (rule_so (is_emptied old new) U8) (rule_so (list_any (is_lost right new) old) U9)

-- ---- both

pub records_plain : PlainLog record_of_bytes bytes_of_record record_rules
records_plain = record {
  decodes = λ codec bytes. decoded_so bytes;
  encodes = λ codec r. encoded_so r;
  refuses = λ rules id old new right. or_so (rule_refusal (epoch_falls old new) U1) _ (rule_so (epoch_falls old new) U1)
      (or_so _ _ (clocks_so old.entries new.entries) (removal_so right old.entries new.entries));
}

-- one that isn't there is refused neither for want of memory nor as a fault
pub record_missing_plain : MissingIsPlain record_missing
record_missing_plain = record { memory = λ n. refl; fault = λ n same. absurd cc }

-- the bytes of a record are read without a fault of the store
pub decoding_fine : NoFault decoded_record
decoding_fine bytes = apart StoreFault _ refl (decoded_so bytes)
