use Rattle.std.proofs.Common.{◌≡◌, length, rules, sym, ap, ◌∙◌}
use Rattle.type_numbers.proofs.HeldLaws.{length-types_of}
use Rattle.type_numbers.proofs.types.Types.len.Goals as goal

pub returns : goal.returns
returns c =
    let count : c.len.result ≡ length c.self.inside.entries.items = search rules in
    count ∙ sym (length-types_of c.self.inside.entries.items) ∙ ap length c.self.view_is
