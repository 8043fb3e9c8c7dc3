use Rattle.std.proofs.Common.{◌≡◌, pos, refl, sym, ap, ◌∙◌}
use Rattle.slate_store.specs.Store.{object_at}
use Rattle.slate_store.specs.InMemory.{Memory}
use Rattle.slate_store.specs.declared.store_call.StoreCall.TheVariants as calls
use Rattle.slate_store.specs.declared.store_answer.StoreAnswer.TheVariants as answers
use Rattle.slate_store.proofs.InMemory.{reads_so}
use Rattle.slate_store.proofs.memory_store.MemoryStoreObjectStore.get.Goals as goal

pub returns : goal.returns
returns c =
    let same : object_at c.args.path.now c.args.self.now.store ≡ c.in_ok-found.found
    = sym (ap (λ (m : Memory). object_at c.args.path.now m.store) c.self.view_is) ∙ sym c.in_ok-found.ensures in
    reads_so answers.Got (calls.Get c.args.path.now) (pos 0) c.in_ok-found.found c.args.self.now c.answer.new.self c.answer.result refl refl
    record { gives = ap answers.Got same; kind = tt; good = λ n. tt }
    c.answer.ensures.result c.answer.ensures.after c.answer.ensures.later
