use Rattle.std.proofs.Common.{◌≡◌, Some, None, sym, ◌∙◌}
use Rattle.name_resolve.specs.Shown.{find_of}
use Rattle.name_resolve.proofs.ChildRanges.{within-is, declared-none}
use Rattle.name_resolve.proofs.member_types.MemberTypes.indexed.Goals as goal

pub among-requires : goal.among-requires
among-requires c =
    within-is _ (Some c.in-Some.range) _ (Some c.args.of.now.unit.now) _ c.args.of.now.path.items c.args.name.now
    c.in-Some.is c.requires c.as_slice-path.ensures.value c.in_ok-member_types.ensures

pub returns-in-None : goal.returns-in-None
returns-in-None c =
    declared-none (find_of c.args.of.now) c.args.name.now
    (within-is _ None _ (Some c.args.of.now.unit.now) _ c.args.of.now.path.items c.args.name.now
    c.in-None.is c.requires c.as_slice-path.ensures.value c.in_ok-member_types.ensures)
