use Rattle.std.proofs.Common.{◌≡◌, ◌++◌, sym, ap, ◌∙◌}
use Rattle.std.specs.List.{flat_map}
use Rattle.decl_tree.specs.declared.declaration.Member.{out-Member, out-roll-Member}
use Rattle.decl_tree.specs.declared.declaration.Member.TheVariants as member
use Rattle.decl_tree.specs.declared.declaration.Member.TheOpen.{Member-F}
use Rattle.decl_elements.specs.Written.{member_types}
use Rattle.reach_map.specs.Chains.{Chains, type_chains}
use Rattle.reach_map.proofs.CandidateSetsLemmas.{with_both}
use Rattle.reach_map.proofs.places.add_member_types.Goals as goal

pub returns-in_ok-add_type-in-Method : goal.returns-in_ok-add_type-in-Method
returns-in_ok-add_type-in-Method c =
    let method = c.in-Method.method in
    let whole : Chains = flat_map type_chains (member_types (out-Member c.args.member.now)) in
    let parts : whole ≡ type_chains method.result ++ flat_map type_chains c.as_slice.result.now =
    ap (λ m. flat_map type_chains (member_types (out-Member m))) c.in-Method.is
    ∙ ap (λ m. flat_map type_chains (member_types m)) (ap out-Member (sym (member.rolls-Method method)) ∙ out-roll-Member (Member-F.Method method))
    ∙ ap (λ thrown. type_chains method.result ++ flat_map type_chains thrown) (sym c.as_slice.ensures) in
    with_both c.add_all.result c.args.unit.now c.args.names.now c.add_type-in-Method.new.names c.add_all.new.names (type_chains method.result)
    (flat_map type_chains c.as_slice.result.now) whole c.in_ok-add_type-in-Method.ensures parts c.add_all.ensures
