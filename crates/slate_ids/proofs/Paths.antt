-- Names of databases in their block.
use Rattle.std.proofs.Common.{◌≡◌, ℕ, ◌≤◌, List, nat_lt, nat_le, ◌&&◌, arith, ◌++◌, length, drop, replicate, true, Bool, sym, ◌∙◌, ap, subst}
use Rattle.std.proofs.lemmas.List.{drop-replicate}
use Rattle.std.proofs.Math.Seq.{take-append_seam}
use Rattle.std.proofs.lemmas.Bool.Decides.{nat_tests}
use Rattle.std.specs.List.{list_all}
use Rattle.slate_ids.specs.Ids.{is_db_path, is_path_char}
use Rattle.slate_ids.specs.Padded.{IsPadded, padded}

-- letters at the front of a block of zeros are a name
pub name_in_block : (front letters : List ℕ) → front ≡ letters → length letters ≤ 64 → is_db_path letters ≡ true → IsPadded record { block = front ++ drop (length letters) (replicate 64 0); used = length letters }
name_in_block front letters e room name =
    subst (λ (f : List ℕ). IsPadded record { block = f ++ drop (length letters) (replicate 64 0); used = length letters }) (sym e) (
    let t = take-append_seam letters (drop (length letters) (replicate 64 0)) in record {
      room = room;
      count = ap length t;
      rest = ap padded t ∙ ap (λ (r : List ℕ). letters ++ r) (sym (drop-replicate (length letters) 64 0));
      name = ap is_db_path t ∙ name;
    })

short_by : (n : ℕ) (b : Bool) → nat_lt 0 n && nat_le n 64 && b ≡ true → n ≤ 64
short_by n b h = grind (arith, nat_tests)

-- a name has at most 64 letters
pub short_name : (s : List ℕ) → is_db_path s ≡ true → length s ≤ 64
short_name s h = short_by (length s) (list_all is_path_char s) h
