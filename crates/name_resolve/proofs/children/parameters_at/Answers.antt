use Rattle.std.proofs.Common.{sym, ◌∙◌, arith}
use Rattle.decl_elements.specs.Nodes.{children}
use Rattle.decl_elements.specs.Shown.{node_of}
use Rattle.name_resolve.proofs.ChildrenLeft.{from_first_parameter, from_past, next}
use Rattle.name_resolve.proofs.ParametersFirst.{no_more, none_past}
use Rattle.name_resolve.proofs.children.parameters_at.Goals as goal

pub loop-number-init : goal.loop-number-init
loop-number-init c = from_first_parameter _ _ _ _

pub returns-in-None : goal.returns-in-None
returns-in-None c = sym (from_past _ _ _ _ _ _ (sym c.in-None.ensures)) ∙ c.loop-number.invariant

pub returns-then-not-is_parameter : goal.returns-then-not-is_parameter
returns-then-not-is_parameter c =
    sym (no_more _ _ _ _ _ _ (node_of c.in-Some.child) (sym c.in-Some.ensures) (sym c.is_parameter.ensures ∙ c.if-not-is_parameter.true)) ∙ c.loop-number.invariant

pub loop-number-preserved : goal.loop-number-preserved
loop-number-preserved c =
    rw (c.both-finds.ensures, c.in_ok-more-in-Some.ensures, c.is_parameter_named.ensures) (sym (next _ _ _ _ _ _ (node_of c.in-Some.child) (sym c.in-Some.ensures)) ∙ c.loop-number.invariant)

pub returns : goal.returns
returns c = sym (from_past _ _ _ _ _ _ (none_past (children (node_of c.args.place)) c.loop-number.number (omega (arith, c.requires)))) ∙ c.loop-number.invariant
