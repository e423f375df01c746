use Rattle.std.proofs.Common.{ap, sym, ◌∙◌, string_bytes}
use Rattle.std.specs.FinMap as fin
use Rattle.apt_base.proofs.NameSets.{contains-names_of}
use Rattle.apt_base.proofs.names.Names.first.Goals as goal

pub returns-in-Some-clause-member : goal.returns-in-Some-clause-member
returns-in-Some-clause-member c =
    ap (λ name. fin.contains_key c.args.self.now name) c.as_str.ensures.value
    ∙ sym (ap (λ names. fin.contains_key names (string_bytes c.in-Some.name.now)) c.self.view_is)
    ∙ contains-names_of c.self.inside.held (string_bytes c.in-Some.name.now)
    ∙ c.in-Some.ensures.member
