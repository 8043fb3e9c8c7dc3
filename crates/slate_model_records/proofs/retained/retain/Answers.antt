use Rattle.std.proofs.Common.{◌≡◌, rules, of_calls, ◌∙◌, ap}
use Rattle.std.specs.List.{filter}
use Rattle.std.proofs.lemmas.Map.Made.{filter_same_pairs}
use Rattle.slate_model_records.specs.Entries.{compactions_of}
use Rattle.slate_model_records.specs.LastFinished.{is_kept_by}
use Rattle.slate_model_records.proofs.Ordered.{Entry, ascending}
use Rattle.slate_model_records.proofs.TrimKept.{trimmed, filtered, filtered_own}
use Rattle.slate_model_records.proofs.retained.retain.Goals as goal

pub returns : goal.returns
returns c =
    let keeps = is_kept_by c.args.pending.now c.last_finished-last.result in
    let entries = c.args.entries.now.entries in
    let cs = compactions_of entries in
    let left : c.retain.new.self.entries ≡ filter (λ (e : Entry). keeps e.1) entries
    = filter_same_pairs _ (λ (e : Entry). keeps e.1) _ (λ k v b w f' t. search (rules, of_calls)) entries c.retain.new.self.entries c.retain.ensures.filtered in
    record {
      own = rw left (filtered_own (λ (e : Entry). keeps e.1) entries c.requires);
      retained = ap compactions_of left ∙ filtered keeps entries
          ∙ ap (λ last. filter (is_kept_by c.args.pending.now last) cs) c.last_finished-last.ensures
          ∙ trimmed c.args.pending.now cs (ascending entries c.retain.ensures.was_ordered c.requires);
    }
