use Rattle.std.proofs.Common.{◌≡◌, pos, List, ap, ◌∙◌, subst}
use Rattle.slate_ids.specs.declared.object_path.ObjectPath.{ObjectPath}
use Rattle.slate_store.specs.Store.{removed}
use Rattle.slate_store.specs.StoreCalls.{Calls, next_mark}
use Rattle.slate_store.specs.InMemory.{Memory, told_of, left_under}
use Rattle.slate_store.specs.declared.mark.Mark.{Mark}
use Rattle.slate_store.specs.declared.object.StoredObject.{StoredObject}
use Rattle.slate_store.specs.declared.store_call.StoreCall.TheVariants as calls
use Rattle.slate_store.specs.declared.store_answer.StoreAnswer.TheVariants as answers
use Rattle.slate_store.proofs.InMemory.{removes_so}
use Rattle.slate_store.proofs.memory_store.MemoryStoreObjectStore.delete.Goals as goal

abbrev with_objects : Memory → List (ObjectPath × StoredObject) → Memory
with_objects m objects = record { store = record { objects = objects; last_tag = m.store.last_tag }; marks = m.marks; faults = m.faults }

pub returns-clause-calls : goal.returns-clause-calls
returns-clause-calls c =
    let old : Memory = record { store = record { objects = c.self.inside.objects.entries; last_tag = c.self.inside.last_tag }; marks = c.self.inside.marks; faults = c.self.inside.faults } in
    let left : c.remove_under.new.objects.entries ≡ left_under (next_mark old.marks) old.store.objects (removed c.args.path.now old.store).objects
    = c.remove_under.ensures ∙ ap (λ (mark : Mark). left_under mark old.store.objects (removed c.args.path.now old.store).objects) c.first.ensures in
    subst (λ (m : Memory). Calls (λ (u : Unit {0}). answers.Deleted) (told_of m) (told_of c.answer.new.self) (calls.Delete c.args.path.now) (pos 0) c.answer.result) c.self.view_is
    (removes_so c.args.path.now old (with_objects old c.remove_under.new.objects.entries) c.answer.new.self c.answer.result
    (ap (with_objects old) left) c.answer.ensures.result c.answer.ensures.after c.answer.ensures.later)
