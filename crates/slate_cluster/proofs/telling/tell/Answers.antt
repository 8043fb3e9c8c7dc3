use Rattle.std.proofs.Common.{string_bytes, arith}
use Rattle.slate_cluster.proofs.ToldLines.{tells_further, tells_whole, tells_bad}
use Rattle.slate_cluster.proofs.telling.tell.Goals as goal

pub returns-in-None : goal.returns-in-None
returns-in-None c = λ specs.
    tells_bad c.args.events.now c.loop-i.i c.index-events-i.result specs c.args.state.now c.loop-i.state c.event.new.self (string_bytes c.args.text.now) (string_bytes c.loop-i.text)
    c.loop-i-test.true (c.loop-i.invariant specs) (rw (c.in-None.is, c.index-events-i.is) at c.in_ok-event.ensures.ok)

pub loop-i-preserved : goal.loop-i-preserved
loop-i-preserved c = λ specs.
    tells_further c.args.events.now c.loop-i.i c.index-events-i.result specs c.args.state.now c.loop-i.state c.event.new.self (string_bytes c.args.text.now) (string_bytes c.loop-i.text) (string_bytes c.push_line.new.text) c.in-Some.entry
    c.loop-i-test.true (c.loop-i.invariant specs) (rw (c.in-Some.is, c.index-events-i.is) at c.in_ok-event.ensures.ok) c.in_ok-push_line-in-Some.ensures

pub returns : goal.returns
returns c = λ specs.
    tells_whole c.args.events.now c.loop-i.i specs c.args.state.now c.loop-i.state (string_bytes c.args.text.now) (string_bytes c.loop-i.text)
    (omega (arith, c.loop-i.auto.i-end, c.loop-i-test.false)) (c.loop-i.invariant specs)
