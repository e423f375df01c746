use Rattle.java_tokens.proofs.CharactersLemmas.{ascii_begins}
use Rattle.java_tokens.proofs.reading.first_char.Goals as goal

pub returns-then-bytes-lt128 : goal.returns-then-bytes-lt128
returns-then-bytes-lt128 c = ascii_begins c.args.bytes.now c.if-not-is_empty.ensures c.if-bytes-lt128.true
