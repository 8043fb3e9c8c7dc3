use Rattle.std.proofs.Common.{rules, ◌≡◌, ℕ, ◌+◌, ◌<◌, Option, List, ◌∷◌, length, get_or, drop, subst, sym, ap, ◌∙◌}
use Rattle.std.proofs.lemmas.List.{at_drop_more}
use Rattle.slate_ids.specs.declared.number_range.NumberRange.{NumberRange}
use Rattle.slate_store.specs.declared.object.ObjectMetadata.{ObjectMetadata}
use Rattle.slate_txn_log.proofs.Ascend.{Listing, with_one}
use Rattle.slate_txn_log.specs.LogPaths.{number_of}
use Rattle.slate_txn_log.specs.Versions.{Version, kept_with, versions_from}
use Rattle.slate_txn_log.specs.declared.log_kind.LogKind.{LogKind}
use Rattle.slate_txn_log.proofs.versions.versions_in.Goals as goal

rest_of : (log : LogKind) (r : NumberRange) (kept new all : List Version) (found : List ObjectMetadata) (i : ℕ) (m : ObjectMetadata) → i < length found → m ≡ get_or found i m
    → new ≡ kept_with r kept m (number_of log m.location) → versions_from log r kept (drop i found) ≡ all → versions_from log r new (drop (i + 1) found) ≡ all
rest_of log r kept new all found i m lt is made left =
    ap (λ (ws : List Version). versions_from log r ws (drop (i + 1) found)) made
    ∙ ap (λ (x : ObjectMetadata). versions_from log r kept (x ∷ drop (i + 1) found)) is
    ∙ sym (at_drop_more (λ (ms : List ObjectMetadata). versions_from log r kept ms) found i m lt) ∙ left

pub loop-metadata-preserved : goal.loop-metadata-preserved
loop-metadata-preserved c = record {
  rest = rest_of c.args.log c.args.range.now c.loop-metadata.kept.items c.keep.new.kept.items _ c.args.found.now c.loop-metadata.metadata-index c.metadata-item.result c.loop-metadata-test.true c.metadata-item.is c.in-Ok.ensures c.loop-metadata.invariant.rest;
  listing = subst (λ (ws : List Version). Listing c.args.range.now ws) (sym c.in-Ok.ensures) (with_one c.args.range.now c.loop-metadata.kept.items c.metadata-item.result (number_of c.args.log c.metadata-item.result.location) c.loop-metadata.invariant.listing);
}
