-- What a JSON value stands for, part by part: `None` where it stands for nothing.
use Rattle.std.specs.Prelude.{◌≡◌, ℕ, ◌^◌, ◌&&◌, ℤ, nat_lt, Bool, true, List, [], ◌∷◌, Option, Some, None, Result, Ok, Err, option_map, if◌then◌else◌, bytes_eq, ⊤}
use Rattle.std.specs.List.{list_any}
use Rattle.serde_json.specs.Data.{Data, Items, no_items, item, Members, no_members, member}
use Rattle.serde_json.specs.Find.{get, as_bool, as_number, as_str, as_array, as_object, as_u64, as_i64}
use Rattle.slate_ids.specs.Ids.{is_db_path, checkpoint_of}
use Rattle.slate_script_json.specs.declared.json_error.JsonError.{JsonError}
use Rattle.slate_script_json.specs.declared.json_error.JsonError.TheVariants.{Malformed, OutOfMemory}

infixl 10 ◌>>=◌
abbrev pub ◌>>=◌ : {A B : Type 0} → Option A → (A → Option B) → Option B
(Some x) >>= f = f x
None >>= f = None

-- A reader answers what the value stands for, unless memory runs out.
abbrev pub Fails : {X : Type 0} → JsonError → Option X → Type 0
Fails Malformed read = read ≡ None
Fails OutOfMemory read = Unit {0}

-- a value is what was read, and an error says why
abbrev pub Gives : {X : Type 0} → Result X JsonError → Option X → Type 0
Gives (Ok x) read = read ≡ Some x
Gives (Err e) read = Fails e read

-- ---- the fields of an object

-- one of the names
abbrev pub is_among : List (List ℕ) → List ℕ → Bool
is_among names k = list_any (λ n. bytes_eq k n) names

-- each field has one of the names
abbrev pub only_among : List (List ℕ) → Members → Bool
only_among names no_members = true
only_among names (member k d ms) = is_among names k && only_among names ms

-- an object with no field beside these
abbrev pub only : List (List ℕ) → Data → Option ⊤
only names d = as_object d >>= λ ms. if only_among names ms then Some tt else None

-- a field that has to be there
abbrev pub required : {X : Type 0} → (Data → Option X) → List ℕ → Data → Option X
required reads name d = get name d >>= reads

-- the default where there is no value
abbrev pub default_to : {X : Type 0} → X → (Data → Option X) → Option Data → Option X
default_to default reads None = Some default
default_to default reads (Some d) = reads d

-- a field that may be missing, which then means the default
abbrev pub defaulted : {X : Type 0} → X → (Data → Option X) → List ℕ → Data → Option X
defaulted default reads name d = default_to default reads (get name d)

-- a field that may be missing, which then stands for nothing
abbrev pub optional : {X : Type 0} → (Data → Option X) → List ℕ → Data → Option (Option X)
optional reads name d = default_to None (λ e. option_map Some (reads e)) (get name d)

-- the items of an array that has to be there
abbrev pub array_in : List ℕ → Data → Option Items
array_in name d = required as_array name d

-- ---- values

-- a number below the limit
abbrev pub below : ℕ → ℕ → Option ℕ
below limit n = if nat_lt n limit then Some n else None

-- a whole number below 2 ^ 64
abbrev pub u64_in : Data → Option ℕ
u64_in d = as_number d >>= as_u64

-- a whole number below 2 ^ 32
abbrev pub u32_in : Data → Option ℕ
u32_in d = u64_in d >>= below (2 ^ 32)

-- a signed whole number of 64 bits
abbrev pub i64_in : Data → Option ℤ
i64_in d = as_number d >>= as_i64

-- true or false
abbrev pub bool_in : Data → Option Bool
bool_in d = as_bool d

-- a text that is the path of a database
abbrev pub db_path_in : Data → Option (List ℕ)
db_path_in d = as_str d >>= λ s. if is_db_path s then Some s else None

-- a checkpoint's id is written as its number, below 2 ^ 64
abbrev pub checkpoint_id_in : Data → Option (List ℕ)
checkpoint_id_in d = u64_in d >>= λ n. Some (checkpoint_of n)

-- each of the items
abbrev pub items_in : {X : Type 0} → (Data → Option X) → Items → Option (List X)
items_in reads no_items = Some []
items_in reads (item d ds) = reads d >>= λ x. items_in reads ds >>= λ xs. Some (x ∷ xs)

-- an array, item by item
abbrev pub list_in : {X : Type 0} → (Data → Option X) → Data → Option (List X)
list_in reads d = as_array d >>= items_in reads
