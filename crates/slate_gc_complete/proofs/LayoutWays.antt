-- The codecs of the layout, and the rules on manifests, refuse for no reason from outside.
use Rattle.std.proofs.Common.{ℕ, ℤ, List}
use Rattle.slate_gc.specs.GcPass.{layout_ways}
use Rattle.slate_gc_complete.specs.PassEnds.{PlainWays}
use Rattle.slate_ids.specs.declared.number_range.NumberRange.{NumberRange}
use Rattle.slate_layout.specs.Codec.{encoded}
use Rattle.slate_layout_manifests.specs.Decoding.{decoded_manifest}
use Rattle.slate_state_logs.proofs.ChangesPlain.{change_so}
use Rattle.slate_state_logs.specs.laws.ManifestsPlain.{manifests_plain}
use Rattle.slate_state_logs.specs.laws.RecordsPlain.{records_plain}
use Rattle.slate_state_updates.specs.ManifestChanges.{fence_of, made, right_of}
use Rattle.slate_state_updates.specs.Rules.{manifest_refusal}
use Rattle.slate_state_updates.specs.declared.manifest_change.ManifestChange.TheVariants.{DropExpired}
use Rattle.slate_store.specs.declared.object.ObjectMetadata.{ObjectMetadata}
use Rattle.slate_txn_changes_laws.proofs.PlainChanges.{plain_calm, plain_work}

pub layout_plain : (allows : List ObjectMetadata → List ObjectMetadata) (files : List NumberRange → List ObjectMetadata → ℕ → ℤ → List ObjectMetadata) → PlainWays (layout_ways allows files)
layout_plain allows files = record {
  manifests = plain_work decoded_manifest (made DropExpired) (right_of DropExpired) (fence_of DropExpired) manifest_refusal encoded
      (λ n old new. manifests_plain.refuses (record {}) n old new (right_of DropExpired)) (λ m. manifests_plain.encodes (record {}) m)
      (λ bytes. plain_calm _ (manifests_plain.decodes (record {}) bytes))
      (λ now n m. plain_calm _ (change_so DropExpired now n m))
      (λ m. tt);
  records = λ bytes. plain_calm _ (records_plain.decodes (record {}) bytes);
}
