use Rattle.std.proofs.Common.{◌++◌, sym, ap, ◌∙◌}
use Rattle.decl_parser.proofs.NameParts.{in-parts, in-other}
use Rattle.decl_parser.proofs.lines.is_in_package.Goals as goal

pub returns-in-Some : goal.returns-in-Some
returns-in-Some c =
    let cut = c.in-Some.ensures.cases in
    in-parts c.args.«package».now c.args.simple.now c.args.text.now c.in-Some.rest.now c.is_dotted.result (cc) (cut.1.1 ∙ ap (λ d. c.args.«package».now ++ d) (sym cut.2)) c.is_dotted.ensures

pub returns-in-None : goal.returns-in-None
returns-in-None c = in-other c.args.«package».now c.args.simple.now c.args.text.now (cc) c.in-None.ensures.cases
