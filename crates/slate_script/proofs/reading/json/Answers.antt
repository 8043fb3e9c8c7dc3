use Rattle.std.proofs.Common.{◌≡◌, ℕ, List, Bool, true, false, None, refl, ap, sym, ◌∙◌}
use Rattle.std.specs.Str.{IsUtf8, is_utf8}
use Rattle.std.proofs.lemmas.Str.{is_utf8-from_IsUtf8, IsUtf8-from_is_utf8}
use Rattle.serde_json.specs.Read.{read}
use Rattle.slate_script.specs.Scripts.{json_of}
use Rattle.slate_script.proofs.reading.json.Goals as goal

json_of-text : (bs : List ℕ) → IsUtf8 bs → json_of bs ≡ read bs
unfolding json_of
json_of-text bs u = rw (is_utf8-from_IsUtf8 bs u)

refused : (bs : List ℕ) (b : Bool) → is_utf8 bs ≡ b → (IsUtf8 bs → ⊥) → json_of bs ≡ None
unfolding json_of
refused bs true e differs = absurd (differs (IsUtf8-from_is_utf8 bs e))
refused bs false e differs = rw e

-- the text has the bytes, so its value is theirs
json_of-same : (text bs : List ℕ) → (text ≡ bs) × IsUtf8 bs → json_of bs ≡ read text
json_of-same text bs h = json_of-text bs h.1 ∙ ap read (sym h.0)

pub returns-in-Ok-clause-ok : goal.returns-in-Ok-clause-ok
returns-in-Ok-clause-ok c = rw (json_of-same c.in-Ok.text.now c.args.bytes.now c.in-Ok.ensures.cases) c.json_text.ensures.ok

pub returns-in-Ok-clause-malformed : goal.returns-in-Ok-clause-malformed
returns-in-Ok-clause-malformed c = λ h. json_of-same c.in-Ok.text.now c.args.bytes.now c.in-Ok.ensures.cases ∙ c.json_text.ensures.malformed h

pub returns-in-Err-clause-malformed : goal.returns-in-Err-clause-malformed
returns-in-Err-clause-malformed c = λ _. refused c.args.bytes.now _ refl c.in-Err.ensures.cases.0
