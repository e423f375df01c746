use Rattle.std.proofs.Common.{◌≡◌, length, min, rules}
use Rattle.java_tokens.proofs.CharactersLemmas.{first_found}
use Rattle.java_tokens.proofs.reading.decoded_char.Goals as goal

pub returns : goal.returns
returns c =
    let front = c.longest_text-text.ensures.front in
    let least : c.min.result ≡ min (length c.args.bytes.now) 4 = search rules in
    first_found c.args.bytes.now c.longest_text-text.result.now front.0 c.next.new.self.rest.now c.min.result c.next.result least front.1 c.longest_text-text.ensures.text c.longest_text-text.ensures.longest (search rules)
