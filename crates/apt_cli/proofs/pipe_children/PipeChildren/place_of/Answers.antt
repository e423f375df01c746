use Rattle.std.proofs.Common.{rules, tests, ◌==◌, ◌∙◌, refl, sym, subst}
use Rattle.std.specs.Option.{IsSome}
use Rattle.std.proofs.lemmas.Iterator.{YieldsList-from_slice}
use Rattle.std.proofs.lemmas.Iterator.Search.{position_from_yields_List}
use Rattle.apt_cli.proofs.Numbers.{position_from_Contains}
use Rattle.apt_cli.proofs.pipe_children.PipeChildren.place_of.Goals as goal

pub unwrap-requires : goal.unwrap-requires
unwrap-requires g c =
    let found = position_from_yields_List (λ r. r.number == c.args.child) _ _ c.position.result c.position.ensures.ran (YieldsList-from_slice c.args.self.now.running.items cc) (λ x b q k. search (rules, tests)) in
    subst IsSome (sym (found ∙ position_from_Contains (λ r. r.number) c.args.child c.args.self.now.running.items c.requires)) refl

pub returns : goal.returns
returns g c =
    let found = position_from_yields_List (λ r. r.number == c.args.child) _ _ c.position.result c.position.ensures.ran (YieldsList-from_slice c.args.self.now.running.items cc) (λ x b q k. search (rules, tests)) in
    sym found ∙ c.unwrap.ensures
