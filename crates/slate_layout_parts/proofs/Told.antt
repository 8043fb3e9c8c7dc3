-- Values that fit pass the tests of what has bytes.
use Rattle.std.specs.Prelude.{◌≡◌, ℕ, ◌<◌, ◌^◌, ◌&&◌, Bool, true, false, List, [], ◌∷◌, length, Option, Some, None, if◌then◌else◌, refl}
use Rattle.std.specs.List.{list_all}
use Rattle.std.specs.declared.ops.Bound.{Bound}
use Rattle.std.specs.declared.ops.Bound.TheVariants.{Included, Excluded, Unbounded}
use Rattle.std.proofs.Common.{ap, sym, arith}
use Rattle.std.proofs.lemmas.Bool.{and_from}
use Rattle.std.proofs.lemmas.Bool.Decides.{nat_tests}
use Rattle.slate_ids.specs.KeyRange.{KeyRange, is_proper}
use Rattle.slate_model_tables.specs.declared.ss_table_id.SsTableId.{SsTableId}
use Rattle.slate_model_tables.specs.declared.ss_table_id.SsTableId.TheVariants.{Compacted}
use Rattle.slate_model_tables.specs.declared.ss_table_handle.SsTableHandle.{SsTableHandle}
use Rattle.slate_model_tables.specs.Tables.{is_compacted}
use Rattle.slate_layout_parts.specs.Reads.{OptionFits, EachFits}
use Rattle.slate_layout_parts.specs.TablesOfViews.{table_id}
use Rattle.slate_layout_parts.specs.Texts.{TextFits}
use Rattle.slate_layout_parts.specs.RangeParts.{BoundFits, RangeFits}
use Rattle.slate_layout_parts.specs.InfoParts.{are_entries, HandleFits, TableFits}
use Rattle.slate_layout_parts.specs.InfoCodec.{is_short}
use Rattle.slate_layout_parts.specs.Lengths.{few, short_bound, short_range}
use Rattle.slate_layout_parts.specs.Typed.{none_or}
use Rattle.slate_layout_parts.proofs.InfoTrip.{has_entries_of, has_short_of}

-- ---- groups

-- what each fits by passes of all
pub all_told : {X : Type 0} (Fits : X → Type 0) (test : X → Bool) → ((x : X) → Fits x → test x ≡ true) → (xs : List X) → EachFits Fits xs → list_all test xs ≡ true
all_told Fits test tell [] fits = refl
all_told Fits test tell (x ∷ xs) fits = and_from _ _ (tell x fits.0) (all_told Fits test tell xs fits.1)

pub option_told : {X : Type 0} (Fits : X → Type 0) (test : X → Bool) → ((x : X) → Fits x → test x ≡ true) → (o : Option X) → OptionFits Fits o → none_or test o ≡ true
option_told Fits test tell None fits = refl
option_told Fits test tell (Some x) fits = tell x fits

-- ---- lengths

pub is_few : (n : ℕ) → n < 2 ^ 32 → few n ≡ true
is_few n h = grind (arith, nat_tests)

pub name_short : (name : Option (List ℕ)) → OptionFits TextFits name → is_short name ≡ true
name_short None fits = refl
name_short (Some text) fits = is_few (length text) fits.fits

bound_told : (b : Bound (List ℕ)) → BoundFits b → short_bound b ≡ true
bound_told Unbounded fits = refl
bound_told (Included key) fits = is_few (length key) fits
bound_told (Excluded key) fits = is_few (length key) fits

pub range_short : (r : KeyRange) → RangeFits r → short_range (Some r) ≡ true
range_short r fits = and_from _ _ (bound_told r.start fits.fits.0) (bound_told r.end fits.fits.1)

pub visible_short : (visible : Option KeyRange) → OptionFits RangeFits visible → short_range visible ≡ true
visible_short None fits = refl
visible_short (Some r) fits = range_short r fits

proper_by : (b : Bool) (r s : KeyRange) → (if b then Some s else None) ≡ Some r → b ≡ true
proper_by true r s e = refl
proper_by false r s e = absurd cc

pub range_proper : (r : KeyRange) → RangeFits r → is_proper r ≡ true
range_proper r fits = proper_by (is_proper r) r r fits.is_made

-- ---- tables

-- a table is compacted, its entries are in order and short
pub record IsTable (h : SsTableHandle) : Type 0 where
  pub compacted : is_compacted h.id ≡ true
  pub entries : are_entries h.info.first_entry h.info.last_entry ≡ true
  pub short : (is_short h.info.first_entry && is_short h.info.last_entry) ≡ true

pub is_table : (h : SsTableHandle) → HandleFits h → IsTable h
is_table h fits =
    let same : (let k : SsTableHandle = record { id = Compacted (table_id h.id); format_version = h.format_version; info = h.info } in k) ≡ h = let made = fits.is_made in cc in
    record {
      compacted = sym (ap (λ (k : SsTableHandle). is_compacted k.id) same);
      entries = has_entries_of h.info fits.fits.1.1;
      short = has_short_of h.info fits.fits.1.1;
    }

pub table_compacted : (t : SsTableId) → TableFits t → is_compacted t ≡ true
table_compacted t fits = let same : Compacted (table_id t) ≡ t = let made = fits.is_made in cc in sym (ap is_compacted same)
