use Rattle.std.proofs.Common.{rules, ◌≡◌, Ok}
use Rattle.slate_layout_manifests.specs.Decoding.{decoded_manifest}
use Rattle.slate_layout.proofs.OnlyWritten.{only_written}
use Rattle.slate_layout.proofs.manifests.decode_manifest.Goals as goal

pub returns-clause-only : goal.returns-clause-only
returns-clause-only c =
    let read : decoded_manifest c.args.bytes.now ≡ Ok c.in_ok-read.read = search rules in
    only_written c.args.bytes.now c.in_ok-read.read (record { small = λ i. search rules }) read
