use Rattle.slate_txn_laws.proofs.PlainInside.{decodes_inside, encodes_inside, fences_inside, raises_inside, rules_inside, ways_inside}
use Rattle.slate_txn_laws.proofs.plain_logs.plain_logs_are_inside.Goals as goal

pub returns : goal.returns
returns g c = record {
  decodes = decodes_inside;
  encodes = encodes_inside;
  allows = rules_inside;
  ways = ways_inside;
  fences = fences_inside;
  raises = raises_inside;
}
