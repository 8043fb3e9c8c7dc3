use Rattle.std.proofs.Common.{sym, rules}
use Rattle.slate_model.proofs.Chosen.{Laws, chosen, chosen_none, improper_none}
use Rattle.slate_model.proofs.segment_selection.meeting.Goals as goal

pub returns-then-not-is_proper : goal.returns-then-not-is_proper
returns-then-not-is_proper c =
    let e = c.ranges_are_sets.ensures in
    let laws : Laws = record { meet = e.meet; prefix = e.prefix; proper = e.prefix_proper } in
    sym (improper_none laws c.args.range.now (search rules) c.args.segments.now)

pub returns-then-from-to : goal.returns-then-from-to
returns-then-from-to c =
    let e = c.ranges_are_sets.ensures in
    let laws : Laws = record { meet = e.meet; prefix = e.prefix; proper = e.prefix_proper } in
    rw (c.passed-from.ensures.place, c.started-to.ensures.place, c.start_bound-start.ensures, c.end_bound-end.ensures) (sym (chosen laws c.args.range.now (search rules) (search rules) c.args.segments.now c.requires.ascending c.requires.apart))

pub returns-else-from-to : goal.returns-else-from-to
returns-else-from-to c =
    let e = c.ranges_are_sets.ensures in
    let laws : Laws = record { meet = e.meet; prefix = e.prefix; proper = e.prefix_proper } in
    sym (chosen_none laws c.args.range.now (search rules) (search rules) c.args.segments.now c.requires.ascending c.requires.apart (search rules))
