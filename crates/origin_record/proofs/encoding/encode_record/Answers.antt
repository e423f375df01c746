use Rattle.origin_record.proofs.ReadingLemmas.{only_of_spelling}
use Rattle.origin_record.proofs.encoding.encode_record.Goals as goal

pub returns-clause-only : goal.returns-clause-only
returns-clause-only c is = only_of_spelling c.in_ok-bytes.bytes c.args.value.now c.in_ok-bytes.ensures is
