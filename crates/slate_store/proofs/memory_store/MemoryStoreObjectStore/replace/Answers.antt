use Rattle.std.proofs.Common.{◌≡◌, false, None, sym, ap, ◌∙◌}
use Rattle.slate_store.specs.Store.{Outcome, object_at, has_tag, replace}
use Rattle.slate_store.specs.InMemory.{Memory}
use Rattle.slate_store.specs.declared.store_call.StoreCall.TheVariants as calls
use Rattle.slate_store.specs.declared.store_answer.StoreAnswer.TheVariants as answers
use Rattle.slate_store.proofs.InMemory.{reads_so}
use Rattle.slate_store.proofs.memory_store.MemoryStoreObjectStore.replace.Goals as goal

pub returns-else-has_tag : goal.returns-else-has_tag
returns-else-has_tag c =
    let other : has_tag c.args.tag (object_at c.args.path.now c.args.self.now.store) ≡ false
    = sym (ap (λ (m : Memory). has_tag c.args.tag (object_at c.args.path.now m.store)) c.self.view_is) ∙ sym c.if-has_tag.ensures in
    let whole = ap (λ b. replace b c.args.path.now c.args.bytes.now c.args.moment c.args.self.now.store) other in
    reads_so answers.Replaced (calls.Replace c.args.path.now c.args.tag c.args.bytes.now) c.args.moment None c.args.self.now c.answer.new.self c.answer.result
    other (ap (λ (o : Outcome). o.store) whole)
    record { gives = ap (λ (o : Outcome). o.answer) whole; kind = tt; good = λ n. tt }
    c.answer.ensures.result c.answer.ensures.after c.answer.ensures.later
