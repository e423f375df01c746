use Rattle.std.proofs.Common.{ap, ◌∙◌}
use Rattle.name_resolve.specs.Meaning.{tops_of, imported}
use Rattle.name_resolve.proofs.LookSteps.{if_true, if_false}
use Rattle.name_resolve.proofs.NameParts.{ends-split, front-split}
use Rattle.expression_names.specs.Fields.{fields_of}
use Rattle.expression_names.proofs.fields.Fields.by_single.Goals as goal

pub returns-then-eq-clause-value : goal.returns-then-eq-clause-value
returns-then-eq-clause-value c =
    c.in_ok-finds.ensures.value
    ∙ ap (λ names. fields_of c.args.self.now (imported (tops_of c.args.self.now) c.args.part names) c.args.name.now) (front-split c.args.names.now c.in-Some.front.now c.in-Some.last.now c.in-Some.ensures.cases.0)
    ∙ if_true _ _ _ (c.if-eq.ensures ∙ ends-split c.args.names.now c.in-Some.front.now c.in-Some.last.now c.in-Some.ensures.cases.0 c.args.name.now)

pub returns-clause-value : goal.returns-clause-value
returns-clause-value c =
    if_false _ _ _ (c.if-eq.ensures ∙ ends-split c.args.names.now c.in-Some.front.now c.in-Some.last.now c.in-Some.ensures.cases.0 c.args.name.now)
