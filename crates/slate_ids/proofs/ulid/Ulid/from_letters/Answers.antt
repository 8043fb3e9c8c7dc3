use Rattle.std.proofs.Common.{◌≡◌, sym, ap, ◌∙◌, take, drop, Some, None}
use Rattle.slate_ids.specs.Numerals.{number_of}
use Rattle.slate_ids.specs.UlidText.{id_letters}
use Rattle.slate_ids.proofs.UlidTexts.{ulid_long, ulid_no_ms, ulid_no_tail, ulid_early, ulid_late, tail_fits, ulid_shown}
use Rattle.slate_ids.proofs.ulid.Ulid.from_letters.Goals as goal

pub returns-then-letters-ne26-clause-id : goal.returns-then-letters-ne26-clause-id
returns-then-letters-ne26-clause-id c = sym (ulid_long _ c.if-letters-ne26.true)

pub returns-in_err-ms-clause-id : goal.returns-in_err-ms-clause-id
returns-in_err-ms-clause-id c =
    let ms : number_of id_letters (take 10 c.args.letters.now) ≡ None = sym (c.read_numeral.ensures ∙ ap (number_of id_letters) c.split_at.ensures.front) ∙ c.in_err-ms.was in
    c.from_residual.ensures ∙ sym (ulid_no_ms _ c.if-letters-ne26.false ms)

pub returns-in_err-tail-clause-id : goal.returns-in_err-tail-clause-id
returns-in_err-tail-clause-id c =
    let ms : number_of id_letters (take 10 c.args.letters.now) ≡ Some c.in_ok-ms.ms = sym (c.read_numeral.ensures ∙ ap (number_of id_letters) c.split_at.ensures.front) ∙ c.in_ok-ms.was in
    let tail : number_of id_letters (drop 10 c.args.letters.now) ≡ None = sym (c.read_numeral-2.ensures ∙ ap (number_of id_letters) c.split_at.ensures.back) ∙ c.in_err-tail.was in
    c.from_residual-in_err-tail.ensures ∙ sym (ulid_no_tail _ _ c.if-letters-ne26.false ms tail)

pub invariant_of-result : goal.invariant_of-result
invariant_of-result c =
    let tail : number_of id_letters (drop 10 c.args.letters.now) ≡ Some c.in_ok-tail.tail = sym (c.read_numeral-2.ensures ∙ ap (number_of id_letters) c.split_at.ensures.back) ∙ c.in_ok-tail.was in
    (c.if-ms.true, tail_fits _ _ c.if-letters-ne26.false tail)

pub returns-then-ms-clause-id : goal.returns-then-ms-clause-id
returns-then-ms-clause-id c =
    let ms : number_of id_letters (take 10 c.args.letters.now) ≡ Some c.in_ok-ms.ms = sym (c.read_numeral.ensures ∙ ap (number_of id_letters) c.split_at.ensures.front) ∙ c.in_ok-ms.was in
    let tail : number_of id_letters (drop 10 c.args.letters.now) ≡ Some c.in_ok-tail.tail = sym (c.read_numeral-2.ensures ∙ ap (number_of id_letters) c.split_at.ensures.back) ∙ c.in_ok-tail.was in
    sym (ulid_early _ _ _ c.if-letters-ne26.false ms tail c.if-ms.true)

pub returns-then-ms-clause-shown : goal.returns-then-ms-clause-shown
returns-then-ms-clause-shown c =
    let ms : number_of id_letters (take 10 c.args.letters.now) ≡ Some c.in_ok-ms.ms = sym (c.read_numeral.ensures ∙ ap (number_of id_letters) c.split_at.ensures.front) ∙ c.in_ok-ms.was in
    let tail : number_of id_letters (drop 10 c.args.letters.now) ≡ Some c.in_ok-tail.tail = sym (c.read_numeral-2.ensures ∙ ap (number_of id_letters) c.split_at.ensures.back) ∙ c.in_ok-tail.was in
    ulid_shown _ _ (ulid_early _ _ _ c.if-letters-ne26.false ms tail c.if-ms.true)

pub returns-else-ms-clause-id : goal.returns-else-ms-clause-id
returns-else-ms-clause-id c =
    let ms : number_of id_letters (take 10 c.args.letters.now) ≡ Some c.in_ok-ms.ms = sym (c.read_numeral.ensures ∙ ap (number_of id_letters) c.split_at.ensures.front) ∙ c.in_ok-ms.was in
    let tail : number_of id_letters (drop 10 c.args.letters.now) ≡ Some c.in_ok-tail.tail = sym (c.read_numeral-2.ensures ∙ ap (number_of id_letters) c.split_at.ensures.back) ∙ c.in_ok-tail.was in
    sym (ulid_late _ _ _ c.if-letters-ne26.false ms tail c.if-ms.false)
