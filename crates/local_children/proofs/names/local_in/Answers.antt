use Rattle.std.proofs.Common.{rules, ◌≡◌, true, false, codes, string_bytes, sym, ◌∙◌}
use Rattle.std.specs.Str.{bytes_eq}
use Rattle.local_children.specs.Streams.{local_named}
use Rattle.local_children.proofs.LastWords.{by_last}
use Rattle.local_children.proofs.names.local_in.Goals as goal

pub returns-then-eq : goal.returns-then-eq
returns-then-eq c =
    let is_serve : bytes_eq (string_bytes c.word-item.result) (codes "serve") ≡ true = search rules in
    let named : c.local_named.result ≡ local_named (string_bytes c.name-item.result) = search rules in
    named ∙ sym (by_last c.args.command.now c.word-item.result c.name-item.result c.saturating_sub.result c.saturating_sub.ensures c.in-len2.len_at_least c.in-len2.len_below c.word-item.is c.name-item.is true is_serve)

pub returns-else-eq : goal.returns-else-eq
returns-else-eq c =
    let is_serve : bytes_eq (string_bytes c.word-item.result) (codes "serve") ≡ false = search rules in
    sym (by_last c.args.command.now c.word-item.result c.name-item.result c.saturating_sub.result c.saturating_sub.ensures c.in-len2.len_at_least c.in-len2.len_below c.word-item.is c.name-item.is false is_serve)
