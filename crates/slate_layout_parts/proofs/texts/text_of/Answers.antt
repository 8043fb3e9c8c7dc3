use Rattle.std.proofs.Common.{◌≡◌, ℕ, List, Bool, true, false, Option, Some, None, if◌then◌else◌, refl}
use Rattle.std.specs.Str.{IsUtf8, is_utf8}
use Rattle.std.proofs.lemmas.Str.{is_utf8-from_IsUtf8, IsUtf8-from_is_utf8}
use Rattle.slate_layout_parts.proofs.texts.text_of.Goals as goal

passed : (text bytes : List ℕ) (b : Bool) → text ≡ bytes → b ≡ true → Some text ≡ (if b then Some bytes else None)
passed text bytes b same is = rw (same, is) refl

refused : (bytes : List ℕ) (b : Bool) → is_utf8 bytes ≡ b → (IsUtf8 bytes → ⊥) → (let o : Option (List ℕ) = None in o) ≡ (if b then Some bytes else None)
refused bytes true e differs = absurd (differs (IsUtf8-from_is_utf8 bytes e))
refused bytes false e differs = refl

pub returns-in-Ok : goal.returns-in-Ok
returns-in-Ok c =
    let cases = c.in-Ok.ensures.cases in
    passed c.in-Ok.text.now c.args.bytes.now (is_utf8 c.args.bytes.now) cases.0 (is_utf8-from_IsUtf8 c.args.bytes.now cases.1)

pub returns-in-Err : goal.returns-in-Err
returns-in-Err c = refused c.args.bytes.now (is_utf8 c.args.bytes.now) refl c.in-Err.ensures.cases.0
