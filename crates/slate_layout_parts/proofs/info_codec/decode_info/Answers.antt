use Rattle.std.proofs.Common.{◌≡◌, Ok, rules}
use Rattle.slate_layout_parts.specs.InfoCodec.{decoded_info}
use Rattle.slate_layout_parts.proofs.InfoTrip.{info_only}
use Rattle.slate_layout_parts.proofs.info_codec.decode_info.Goals as goal

pub returns-in-Some-clause-only : goal.returns-in-Some-clause-only
returns-in-Some-clause-only c =
    let read : decoded_info c.args.bytes.now ≡ Ok c.in-Some.info = search rules in
    info_only c.args.bytes.now c.in-Some.info (record { small = λ i. search rules }) read
