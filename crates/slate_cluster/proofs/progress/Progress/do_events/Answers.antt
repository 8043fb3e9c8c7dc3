use Rattle.std.proofs.Common.{List, ◌++◌, ◌∷◌, [], ap, ◌∙◌}
use Rattle.slate_script_events.specs.declared.entry.Entry.{Entry}
use Rattle.slate_cluster.proofs.Doing.{doing_further}
use Rattle.slate_cluster.proofs.progress.Progress.do_events.Goals as goal

pub loop-i-preserved : goal.loop-i-preserved
loop-i-preserved c =
    doing_further c.args.events.now c.loop-i.i c.index-events-i.result c.args.self.now
    (record { specs = c.loop-i.self-inside.specs.items; events = c.loop-i.self-inside.done.events; trail = c.loop-i.self-inside.trail.items; world = c.loop-i.self-inside.state })
    c.in-Ok-Some.entry c.event.new.self c.note.new.self.events c.keep.new.trail.items c.loop-i-test.true c.loop-i.invariant
    (rw (c.in-Ok-Some.field-0-is, c.index-events-i.is) at c.in-Ok-Some.ensures.ok)
    (rw (c.index-events-i.is) at c.note.ensures)
    (c.keep.ensures ∙ ap (λ (xs : List Entry). xs ++ c.in-Ok-Some.entry ∷ []) c.reserve.ensures.items)
