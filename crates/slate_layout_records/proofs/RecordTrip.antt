-- What was encoded of a record is read back as its normal form, which has the same bytes.
use Rattle.std.specs.Prelude.{◌≡◌, ℕ, ◌<◌, ◌≤◌, ◌^◌, ◌&&◌, ◌++◌, nat_le, not, Bool, true, false, List, [], ◌∷◌, map, length, Option, Some, None, Ok, if◌then◌else◌, refl}
use Rattle.std.specs.List.{list_all, flat_map}
use Rattle.std.proofs.Common.{ap, sym, ◌∙◌, subst, arith}
use Rattle.std.proofs.lemmas.Bool.{and_parts, and_from}
use Rattle.std.proofs.lemmas.Bool.Decides.{nat_tests}
use Rattle.std.proofs.lemmas.List.{length-map}
use Rattle.slate_ids.specs.declared.error.FieldName.{FieldName}
use Rattle.slate_ids.specs.declared.error.FieldName.TheVariants.{WalId, NoKeys, Length}
use Rattle.slate_model_tables.specs.Tables.{is_compacted}
use Rattle.slate_model_records.specs.declared.compaction.Compaction.{Compaction}
use Rattle.slate_model_records.specs.Records.{Record, are_ascending}
use Rattle.slate_ids.specs.Ulids.{id_lt}
use Rattle.slate_layout_parts.specs.Bytes.{is_u64, u32_bytes, u64_bytes}
use Rattle.slate_layout_parts.specs.Reading.{◌>>=◌, u16_in, whole}
use Rattle.slate_layout_parts.specs.laws.Parts.{bind_at}
use Rattle.slate_layout_parts.specs.Reads.{Reads, EachFits, ListFits, PairFits}
use Rattle.slate_layout_parts.specs.laws.Groups.{list_reads, pair_reads}
use Rattle.slate_layout_parts.specs.laws.Atoms.{u64_reads}
use Rattle.slate_layout_parts.specs.InfoCodec.{unless_field}
use Rattle.slate_layout_parts.proofs.InfoTrip.{whole_back}
use Rattle.slate_layout_parts.proofs.Fitting.{few_is}
use Rattle.slate_layout_parts.specs.Lengths.{few}
use Rattle.slate_layout_records.specs.RecordBytes.{Raw, raw_in, raw_bytes, raw_of, compaction_of, leads, raws_ascend, record_of, entries_in, entries_bytes, second_record, record_or_corrupt, record_after_version, decoded_record}
use Rattle.slate_layout_records.specs.RecordNormal.{normal_compaction, normal_record}
use Rattle.slate_layout_records.specs.RecordFields.{of_outputs, has_keys_of, short_compaction, record_field, record_bytes, encoded_record, is_compaction, is_record}
use Rattle.slate_layout_records.proofs.RecordFitting.{RawFits, raw_reads, normal_raw, normal_is, bytes_kept, compaction_fits}

-- ---- what was encoded

-- no field of a record is without bytes
pub record IsWhole (r : Record) : Type 0 where
  pub compacted : list_all (of_outputs (λ h. is_compacted h.id)) r.entries ≡ true
  pub keys : list_all has_keys_of r.entries ≡ true
  pub short : list_all short_compaction r.entries ≡ true
  pub few_entries : few (length r.entries) ≡ true

field_pass : (a b c : Bool) → (if not a then Some WalId else if not b then Some NoKeys else if not c then Some Length else None) ≡ None → (a ≡ true) × ((b ≡ true) × (c ≡ true))
field_pass true true true h = (refl, (refl, refl))
field_pass true true false h = absurd cc
field_pass true false c h = absurd cc
field_pass false b c h = absurd cc

pub is_whole : (r : Record) → record_field r ≡ None → IsWhole r
is_whole r h =
    let p = field_pass (list_all (of_outputs (λ h. is_compacted h.id)) r.entries) (list_all has_keys_of r.entries) (few (length r.entries) && list_all short_compaction r.entries) h in
    let l = and_parts (few (length r.entries)) (list_all short_compaction r.entries) p.1.1 in
    record { compacted = p.0; keys = p.1.0; short = l.1; few_entries = l.0 }

pub bytes_of : (f : Option FieldName) (l bytes : List ℕ) → unless_field f l ≡ Ok bytes → (f ≡ None) × (l ≡ bytes)
bytes_of None l bytes h = (refl, cc)
bytes_of (Some f) l bytes h = absurd cc

-- ---- the compactions

all_fit : (cs : List Compaction) → list_all is_compaction cs ≡ true → list_all (of_outputs (λ h. is_compacted h.id)) cs ≡ true → list_all has_keys_of cs ≡ true → list_all short_compaction cs ≡ true → EachFits RawFits (map normal_raw cs)
all_fit [] typed compacted keys short = tt
all_fit (c ∷ cs) typed compacted keys short =
    let t = and_parts (is_compaction c) (list_all is_compaction cs) typed in
    let w = and_parts (of_outputs (λ h. is_compacted h.id) c) (list_all (of_outputs (λ h. is_compacted h.id)) cs) compacted in
    let k = and_parts (has_keys_of c) (list_all has_keys_of cs) keys in
    let s = and_parts (short_compaction c) (list_all short_compaction cs) short in
    (compaction_fits c t.0 w.0 k.0 s.0, all_fit cs t.1 w.1 k.1 s.1)

raws_kept : (cs : List Compaction) → flat_map raw_bytes (map normal_raw cs) ≡ flat_map raw_bytes (map raw_of cs)
raws_kept [] = refl
raws_kept (c ∷ cs) = ap (λ (l : List ℕ). l ++ flat_map raw_bytes (map normal_raw cs)) (bytes_kept c) ∙ ap (λ (l : List ℕ). raw_bytes (raw_of c) ++ l) (raws_kept cs)

same_count : (cs : List Compaction) → length (map normal_raw cs) ≡ length (map raw_of cs)
same_count cs = length-map cs normal_raw ∙ sym (length-map cs raw_of)

entries_kept : (epoch : ℕ) (cs : List Compaction) → entries_bytes (epoch, map normal_raw cs) ≡ entries_bytes (epoch, map raw_of cs)
entries_kept epoch cs =
    ap (λ n. u64_bytes epoch ++ (u32_bytes n ++ flat_map raw_bytes (map normal_raw cs))) (same_count cs)
    ∙ ap (λ (l : List ℕ). u64_bytes epoch ++ (u32_bytes (length (map raw_of cs)) ++ l)) (raws_kept cs)

leads_all : (id : ℕ × ℕ) (cs : List Compaction) → list_all (λ d. id_lt id d.id) cs ≡ true → leads id (map normal_raw cs) ≡ true
leads_all id [] h = refl
leads_all id (c ∷ cs) h = (and_parts (id_lt id c.id) (list_all (λ d. id_lt id d.id) cs) h).0

raws_in_order : (cs : List Compaction) → are_ascending cs ≡ true → raws_ascend (map normal_raw cs) ≡ true
raws_in_order [] h = refl
raws_in_order (c ∷ cs) h =
    let p = and_parts (list_all (λ d. id_lt c.id d.id) cs) (are_ascending cs) h in
    and_from _ _ (leads_all c.id cs p.0) (raws_in_order cs p.1)

compactions_back : (cs : List Compaction) → map compaction_of (map normal_raw cs) ≡ map normal_compaction cs
compactions_back [] = refl
compactions_back (c ∷ cs) = ap (λ (d : Compaction). d ∷ map compaction_of (map normal_raw cs)) (normal_is c) ∙ ap (λ (ds : List Compaction). normal_compaction c ∷ ds) (compactions_back cs)

-- ---- the record

unfoldable pub EntriesFit : ℕ × List Raw → Type 0
EntriesFit = PairFits (λ n. is_u64 n ≡ true) (ListFits RawFits)

pub entries_reads : Reads entries_in entries_bytes EntriesFit 8
unfolding EntriesFit
entries_reads = pair_reads _ _ _ 8 u64_reads _ _ _ 4 (list_reads raw_in raw_bytes RawFits 8 raw_reads)

record_back : (r : Record) → are_ascending r.entries ≡ true → record_of (r.compactor_epoch, map normal_raw r.entries) ≡ Some (normal_record r)
record_back r h =
    ap (λ b. if b then Some (let s : Record = record { compactor_epoch = r.compactor_epoch; entries = map compaction_of (map normal_raw r.entries) } in s) else None) (raws_in_order r.entries h)
    ∙ ap (λ (cs : List Compaction). Some (let s : Record = record { compactor_epoch = r.compactor_epoch; entries = cs } in s)) (compactions_back r.entries)

second_back : (r : Record) → is_record r ≡ true → IsWhole r → second_record (entries_bytes (r.compactor_epoch, map raw_of r.entries)) ≡ Some (normal_record r)
unfolding EntriesFit
second_back r typed w =
    let t = and_parts (is_u64 r.compactor_epoch) (list_all is_compaction r.entries && are_ascending r.entries) typed in
    let u = and_parts (list_all is_compaction r.entries) (are_ascending r.entries) t.1 in
    let p : ℕ × List Raw = (r.compactor_epoch, map normal_raw r.entries) in
    let fits : EntriesFit p = (t.0, record { each = all_fit r.entries u.0 w.compacted w.keys w.short; few = subst (λ (n : ℕ). n < 2 ^ 32) (sym (length-map r.entries normal_raw)) (few_is (length r.entries) w.few_entries) }) in
    let read : whole (entries_in (entries_bytes p)) ≡ Some p = whole_back entries_in (entries_bytes p) p (entries_reads.back p [] fits) in
    ap second_record (sym (entries_kept r.compactor_epoch r.entries))
    ∙ bind_at record_of read
    ∙ record_back r u.1

long : (m n : ℕ) → m ≤ n → nat_le m n ≡ true
long m n h = grind (arith, nat_tests)

pub version_of : (rest : List ℕ) → u16_in (0 ∷ 2 ∷ rest) ≡ Some (2, rest)
unfolding u16_in
version_of rest = ap (λ (t : Bool). if t then Some (2, rest) else None) (long 2 (length (0 ∷ 2 ∷ rest)) (omega arith))

-- decoding what was encoded gives the normal form
pub record_trip : (r : Record) (bytes : List ℕ) → is_record r ≡ true → encoded_record r ≡ Ok bytes → decoded_record bytes ≡ Ok (normal_record r)
record_trip r bytes typed h =
    let e = bytes_of (record_field r) (record_bytes r) bytes h in
    subst (λ (l : List ℕ). decoded_record l ≡ Ok (normal_record r)) e.1 (
    ap record_after_version (version_of (entries_bytes (r.compactor_epoch, map raw_of r.entries)))
    ∙ ap record_or_corrupt (second_back r typed (is_whole r e.0))
    )
