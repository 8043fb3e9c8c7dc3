use Rattle.std.proofs.Common.{rules, ◌≡◌, Ok}
use Rattle.slate_layout_records.specs.RecordBytes.{decoded_record}
use Rattle.slate_layout_records.proofs.RecordOnly.{only_written}
use Rattle.slate_layout_records.proofs.record_reading.decode_compactions.Goals as goal

pub returns-clause-only : goal.returns-clause-only
returns-clause-only c =
    let read : decoded_record c.args.bytes.now ≡ Ok c.in_ok-read.read = search rules in
    only_written c.args.bytes.now c.in_ok-read.read (record { small = λ i. search rules }) read
