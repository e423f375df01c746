use Rattle.std.proofs.Common.{[], ◌∷◌, sym, ap, ◌∙◌}
use Rattle.decl_parser.proofs.NameParts.{same-front, other-front}
use Rattle.decl_parser.proofs.lines.is_dotted.Goals as goal

pub returns-in-Some : goal.returns-in-Some
returns-in-Some c =
    let cut = c.in-Some.ensures.cases in
    c.eq.ensures ∙ same-front (46 ∷ []) c.in-Some.last.now c.args.name.now c.args.text.now (cut.1.1 ∙ ap (λ d. 46 ∷ d) (sym cut.2))

pub returns-in-None : goal.returns-in-None
returns-in-None c = other-front (46 ∷ []) c.args.name.now c.args.text.now c.in-None.ensures.cases
