-- Uploads that are taken back.
use Rattle.std.proofs.Common.{◌≡◌, ℕ, true, List, Option, Some, None, sym, subst, ap, ◌∙◌, arith}
use Rattle.std.proofs.lemmas.Bool.Decides.{nat_tests}
use Rattle.std.specs.List.Sorted.{IsStrictlySortedBy}
use Rattle.std.specs.Map.{keys_of, remove_entry, set_value}
use Rattle.std.specs.BTreeMap.{is_at}
use Rattle.std.specs.Ordering.{is_eq}
use Rattle.slate_ids.specs.Ulids.{id_cmp as ulid_cmp}
use Rattle.slate_model_tables.specs.declared.ss_table_info.SsTableInfo.{SsTableInfo as Info}
use Rattle.slate_cluster_protocol.specs.Uploaded.{info_of, with_upload}
use Rattle.slate_cluster_protocol.proofs.TakenBack.{taken_back, put_back}

-- tables by their ids
abbrev pub Infos : Type 0
Infos = List ((ℕ × ℕ) × Info)

itself : (id : ℕ × ℕ) → is_eq (ulid_cmp id id) ≡ true
itself (a, b) = grind (arith, nat_tests)

-- a table that was new
pub new_one_gone : (table : ℕ × ℕ) (uploads left : Infos) (before : Option Info) → before ≡ None → left ≡ remove_entry (is_at (ulid_cmp table)) uploads
    → (earlier : Infos) (info : Info) → uploads ≡ with_upload (record { table = table; info = info }) earlier → before ≡ info_of table earlier → left ≡ earlier
new_one_gone table uploads left before none made earlier info noted known =
    made ∙ (ap (remove_entry (is_at (ulid_cmp table))) noted ∙ taken_back ulid_cmp table info (itself table) earlier (sym known ∙ none))

-- a table that was there
pub old_one_known : (table : ℕ × ℕ) (uploads left : Infos) (before : Option Info) (old : Info) → before ≡ Some old → IsStrictlySortedBy ulid_cmp (keys_of uploads) → left ≡ set_value (is_at (ulid_cmp table)) uploads old
    → (earlier : Infos) (info : Info) → uploads ≡ with_upload (record { table = table; info = info }) earlier → before ≡ info_of table earlier → left ≡ earlier
old_one_known table uploads left before old some sorted made earlier info noted known =
    made ∙ (ap (λ (es : Infos). set_value (is_at (ulid_cmp table)) es old) noted
    ∙ put_back ulid_cmp table old info earlier (subst (λ (es : Infos). IsStrictlySortedBy ulid_cmp (keys_of es)) noted sorted) (sym known ∙ some))
