use Rattle.std.proofs.Common.{◌≡◌, drop, List, Option, Some, None, refl, sym, ap, ◌∙◌}
use Rattle.std.proofs.lemmas.List.{drop-drop}
use Rattle.slate_store.specs.InMemory.{marks_of}
use Rattle.slate_store.specs.declared.mark.Mark.{Mark}
use Rattle.slate_store.proofs.marks.Marks.take.Goals as goal

-- the mark that was set goes with the first of the others
drop-marks_of : (set : Option Mark) (marks : List Mark) → drop 1 marks ≡ drop 1 (marks_of set marks)
drop-marks_of None marks = refl
drop-marks_of (Some mark) marks = refl

pub returns-then-self-len-clause-rest : goal.returns-then-self-len-clause-rest
returns-then-self-len-clause-rest c = sym (drop-drop 1 c.self.inside.next c.self.inside.marks.items) ∙ drop-marks_of c.self.inside.set (drop c.self.inside.next c.self.inside.marks.items) ∙ ap (drop 1) c.self.view_is
