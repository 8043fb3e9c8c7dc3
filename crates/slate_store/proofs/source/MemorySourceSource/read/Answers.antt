use Rattle.std.proofs.Common.{length, ap, sym, ◌∙◌}
use Rattle.slate_store.specs.FaultCounts.{MemoryEnd}
use Rattle.slate_store.proofs.Slices.{front_and_rest, nothing_left}
use Rattle.slate_store.proofs.source.MemorySourceSource.read.Goals as goal

pub returns-clause-bytes : goal.returns-clause-bytes
returns-clause-bytes c =
    let front = c.copy_front-count.ensures in
    let value = c.deref-2.ensures.value in (
      sym (ap (λ (e : MemoryEnd). e.bytes) c.self.view_is) ∙ front_and_rest c.deref-2.result.now c.self.inside.bytes.items c.copy_front-count.new.to c.self.inside.place c.copy_front-count.result value front.copied,
      λ none room. nothing_left c.deref-2.result.now c.self.inside.bytes.items c.self.inside.place c.copy_front-count.result (length c.args.buf.now) value front.count none (rw (← c.copy_front-count.auto.to) room),
    )
