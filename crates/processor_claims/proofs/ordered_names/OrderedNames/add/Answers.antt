use Rattle.std.proofs.Common.{map, not, ap, ◌∙◌, string_bytes}
use Rattle.std.specs.List.{list_any}
use Rattle.std.specs.Str.{bytes_eq}
use Rattle.processor_claims.specs.Services.{with_name}
use Rattle.processor_claims.proofs.NameLaws.{any-shown, insert_key-shown}
use Rattle.processor_claims.proofs.ordered_names.OrderedNames.add.Goals as goal

pub returns-clause-new : goal.returns-clause-new
returns-clause-new c =
    c.in_ok-insert.ensures.added
    ∙ ap not (any-shown c.self.inside.held.keys c.in_ok-name.name)
    ∙ ap (λ name. not (list_any (bytes_eq name) (map string_bytes c.self.inside.held.keys))) c.in_ok-name.ensures.ok
    ∙ ap (λ held. not (list_any (bytes_eq c.args.name.now) held)) c.self.view_is

pub returns-clause-added : goal.returns-clause-added
returns-clause-added c =
    ap (map string_bytes) c.in_ok-insert.ensures.keys
    ∙ insert_key-shown c.self.inside.held.keys c.in_ok-name.name
    ∙ ap (with_name (map string_bytes c.self.inside.held.keys)) c.in_ok-name.ensures.ok
    ∙ ap (λ held. with_name held c.args.name.now) c.self.view_is
