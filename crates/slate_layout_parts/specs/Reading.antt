-- Reading bytes from the front: what was read and the rest, or `None`.
use Rattle.std.specs.Prelude.{ℕ, zero, suc, ℤ, ◌==◌, ◌*◌, nat_le, Bool, true, false, List, [], ◌∷◌, length, take, drop, Option, Some, None, if◌then◌else◌}
use Rattle.std.specs.Int.{w16, w32, w64, from_be_bytes, cast_signed}

infixl 10 ◌>>=◌
-- the second reading, of what the first found
abbrev pub ◌>>=◌ : {A B : Type 0} → Option A → (A → Option B) → Option B
(Some x) >>= f = f x
None >>= f = None

-- one byte
abbrev pub byte_in : List ℕ → Option (ℕ × List ℕ)
byte_in [] = None
byte_in (b ∷ bytes) = Some (b, bytes)

-- 0 is no, 1 is yes
abbrev pub flag_of : ℕ → Option Bool
flag_of n = if n == 0 then Some false else if n == 1 then Some true else None

-- one byte that is a flag
abbrev pub flag_in : List ℕ → Option (Bool × List ℕ)
flag_in bytes = byte_in bytes >>= λ b. flag_of b.0 >>= λ flag. Some (flag, b.1)

-- two bytes, the highest first
unfoldable pub u16_in : List ℕ → Option (ℕ × List ℕ)
u16_in bytes = if nat_le 2 (length bytes) then Some (from_be_bytes w16 (take 2 bytes), drop 2 bytes) else None

-- four bytes, the highest first
unfoldable pub u32_in : List ℕ → Option (ℕ × List ℕ)
u32_in bytes = if nat_le 4 (length bytes) then Some (from_be_bytes w32 (take 4 bytes), drop 4 bytes) else None

-- eight bytes, the highest first
unfoldable pub u64_in : List ℕ → Option (ℕ × List ℕ)
u64_in bytes = if nat_le 8 (length bytes) then Some (from_be_bytes w64 (take 8 bytes), drop 8 bytes) else None

-- the same of a signed number, in two's complement
abbrev pub i64_in : List ℕ → Option (ℤ × List ℕ)
i64_in bytes = u64_in bytes >>= λ n. Some (cast_signed w64 n.0, n.1)

-- so many bytes
abbrev pub bytes_in : ℕ → List ℕ → Option (List ℕ × List ℕ)
bytes_in n bytes = if nat_le n (length bytes) then Some (take n bytes, drop n bytes) else None

-- a length, and as many bytes
abbrev pub counted_in : List ℕ → Option (List ℕ × List ℕ)
counted_in bytes = u32_in bytes >>= λ count. bytes_in count.0 count.1

-- a value where the flag is yes, nothing where it is no
abbrev pub value_in : {X : Type 0} → (List ℕ → Option (X × List ℕ)) → Bool → List ℕ → Option (Option X × List ℕ)
value_in read false bytes = Some (None, bytes)
value_in read true bytes = read bytes >>= λ value. Some (Some value.0, value.1)

-- a flag, and a value where it is yes
abbrev pub option_in : {X : Type 0} → (List ℕ → Option (X × List ℕ)) → List ℕ → Option (Option X × List ℕ)
option_in read bytes = flag_in bytes >>= λ flag. value_in read flag.0 flag.1

-- so many values, one after the other
abbrev pub items_in : {X : Type 0} → (List ℕ → Option (X × List ℕ)) → ℕ → List ℕ → Option (List X × List ℕ)
items_in read zero bytes = Some ([], bytes)
items_in read (suc n) bytes = read bytes >>= λ item. items_in read n item.1 >>= λ items. Some (item.0 ∷ items.0, items.1)

-- the same, where there are as many bytes as so many values have at least
abbrev pub room_in : {X : Type 0} → (List ℕ → Option (X × List ℕ)) → ℕ → ℕ → List ℕ → Option (List X × List ℕ)
room_in read least n bytes = if nat_le (n * least) (length bytes) then items_in read n bytes else None

-- a count, and as many values, each of at least so many bytes
abbrev pub list_in : {X : Type 0} → (List ℕ → Option (X × List ℕ)) → ℕ → List ℕ → Option (List X × List ℕ)
list_in read least bytes = u32_in bytes >>= λ n. room_in read least n.0 n.1

-- one value after the other
abbrev pub pair_in : {X Y : Type 0} → (List ℕ → Option (X × List ℕ)) → (List ℕ → Option (Y × List ℕ)) → List ℕ → Option ((X × Y) × List ℕ)
pair_in read next bytes = read bytes >>= λ x. next x.1 >>= λ y. Some ((x.0, y.0), y.1)

-- a value made of what was read, where it stands for one
abbrev pub made_in : {X Y : Type 0} → (X → Option Y) → (List ℕ → Option (X × List ℕ)) → List ℕ → Option (Y × List ℕ)
made_in make read bytes = read bytes >>= λ x. make x.0 >>= λ y. Some (y, x.1)

-- the value of all the bytes
abbrev pub whole : {X : Type 0} → Option (X × List ℕ) → Option X
whole None = None
whole (Some (x, [])) = Some x
whole (Some (x, (b ∷ rest))) = None
