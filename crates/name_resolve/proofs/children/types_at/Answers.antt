use Rattle.std.proofs.Common.{sym, ◌∙◌, arith}
use Rattle.decl_elements.specs.Shown.{node_of}
use Rattle.name_resolve.proofs.ChildrenLeft.{from_first, from_past, from_end, next}
use Rattle.name_resolve.proofs.children.types_at.Goals as goal

pub loop-at-init : goal.loop-at-init
loop-at-init c = from_first _ _ _ _

pub returns-in-None : goal.returns-in-None
returns-in-None c = sym (from_past _ _ _ _ _ _ (sym c.in-None.ensures)) ∙ c.loop-at.invariant

pub loop-at-preserved : goal.loop-at-preserved
loop-at-preserved c =
    rw (c.both-finds.ensures, c.in_ok-more-in-Some.ensures, c.is_type_named.ensures) (sym (next _ _ _ _ _ _ (node_of c.in-Some.child) (sym c.in-Some.ensures)) ∙ c.loop-at.invariant)

pub returns : goal.returns
returns c = sym (from_end _ _ _ _ _ _ (omega (arith, c.children-at-end.ensures))) ∙ c.loop-at.invariant
