use Rattle.std.proofs.Common.{map, string_bytes, ap, ◌∙◌}
use Rattle.processor_claims.specs.Kinds.{with_kind}
use Rattle.processor_claims.proofs.KindLaws.{insert_entry-shown}
use Rattle.processor_claims.proofs.kinds_file.KindsByName.put.Goals as goal

pub returns : goal.returns
returns c =
    ap (map (λ entry. (string_bytes entry.0, entry.1))) c.in_ok-insert.ensures.entries
    ∙ insert_entry-shown c.self.inside.held.entries c.in_ok-key.key c.args.kind
    ∙ ap (λ name. with_kind (map (λ entry. (string_bytes entry.0, entry.1)) c.self.inside.held.entries) name c.args.kind) c.in_ok-key.ensures.ok
    ∙ ap (λ held. with_kind held c.args.name.now c.args.kind) c.self.view_is
