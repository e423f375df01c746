use Rattle.std.proofs.Common.{◌≡◌, Some, subst}
use Rattle.decl_elements.specs.Nodes.{down}
use Rattle.decl_elements.proofs.FewChildren.{few_at}
use Rattle.decl_elements.proofs.WalkLaws.{are_places}
use Rattle.decl_elements.proofs.walking.walk.Goals as goal

pub visit_all-requires : goal.visit_all-requires
visit_all-requires g c = record { few = λ path below is. few_at c.args.unit.now path below c.root.ensures.legal (subst (λ node. down path node ≡ Some below) c.root.ensures.value is) }

pub returns-clause-law : goal.returns-clause-law
returns-clause-law g c = are_places c.args.unit.now
