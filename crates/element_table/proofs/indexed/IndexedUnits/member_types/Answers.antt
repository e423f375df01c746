use Rattle.std.proofs.Common.{sym, ap, subst, ◌∙◌}
use Rattle.std.specs.FinMap as fin
use Rattle.element_table.specs.MemberTypes.{AreWithin, ranges_of, member_key}
use Rattle.element_table.proofs.MemberLaws.{found_within}
use Rattle.element_table.proofs.indexed.IndexedUnits.member_types.Goals as goal

pub returns : goal.returns
returns c =
    let ranges = ranges_of c.self.inside.members in
    let unit = c.args.unit.now in
    let path = c.args.path.now in
    let name = c.args.name.now in
    subst (λ range. AreWithin range (fin.get c.args.self.now unit) path name) (sym (c.get.ensures ∙ ap (fin.get ranges) (c.as_str.ensures.value ∙ c.in_ok-key.ensures)))
    (subst (λ units. AreWithin (fin.get ranges (member_key unit path name)) (fin.get units unit) path name) c.self.view_is (found_within ranges c.self.inside.units c.self.invariant unit path name))
