use Rattle.std.proofs.Common.{rules, ◌+◌, ◌∙◌, ap, Some, None}
use Rattle.std.specs.List.{slice_get}
use Rattle.std.proofs.lemmas.List.{take_rest}
use Rattle.slate_model_tables.proofs.Covers.{slot_end_by}
use Rattle.slate_model_tables.proofs.covering.slot_end.Goals as goal

pub returns-in-Some : goal.returns-in-Some
returns-in-Some c =
    let views = c.args.views.now in
    let next = c.in-Some.ensures.value ∙ ap (λ rest. slice_get rest 0) (take_rest views (c.args.place + 1)) in
    let e = slot_end_by views c.args.place c.index-views-place.result (Some c.in-Some.next.now) c.requires.place c.index-views-place.is next in
    search (rules, e)

pub returns-in-None : goal.returns-in-None
returns-in-None c =
    let views = c.args.views.now in
    let next = c.in-None.ensures.value ∙ ap (λ rest. slice_get rest 0) (take_rest views (c.args.place + 1)) in
    let e = slot_end_by views c.args.place c.index-views-place.result None c.requires.place c.index-views-place.is next in
    search (rules, e)
