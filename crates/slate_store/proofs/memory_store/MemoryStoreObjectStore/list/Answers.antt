use Rattle.std.proofs.Common.{◌≡◌, pos, refl, sym, ap, ◌∙◌}
use Rattle.slate_store.specs.Store.{listed}
use Rattle.slate_store.specs.InMemory.{Memory}
use Rattle.slate_store.specs.declared.store_call.StoreCall.TheVariants as calls
use Rattle.slate_store.specs.declared.store_answer.StoreAnswer.TheVariants as answers
use Rattle.slate_store.proofs.InMemory.{reads_so}
use Rattle.slate_store.proofs.memory_store.MemoryStoreObjectStore.list.Goals as goal

pub returns : goal.returns
returns c =
    let same : listed c.args.dir.now c.args.self.now.store ≡ c.in_ok-found.found.items
    = sym (ap (λ (m : Memory). listed c.args.dir.now m.store) c.self.view_is) ∙ sym c.in_ok-found.ensures in
    reads_so (λ v. answers.Found v.items) (calls.List c.args.dir.now) (pos 0) c.in_ok-found.found c.args.self.now c.answer.new.self c.answer.result refl refl
    record { gives = ap answers.Found same; kind = tt; good = λ n. tt }
    c.answer.ensures.result c.answer.ensures.after c.answer.ensures.later
