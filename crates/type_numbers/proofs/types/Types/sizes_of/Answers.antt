use Rattle.std.proofs.Common.{subst, sym}
use Rattle.type_numbers.specs.Numbers.{IsKnown, AreKnown}
use Rattle.type_numbers.proofs.AddedTypes.{executable-split}
use Rattle.type_numbers.proofs.types.Types.sizes_of.Goals as goal

pub with_sizes-second-requires : goal.with_sizes-second-requires
with_sizes-second-requires c =
    let all = executable-split (IsKnown c.args.self.now) c.args.node.now c.in-Executable.field-0 c.in-Executable.parameters c.in-Executable.outcome c.in-Executable.thrown
    c.in-Executable.is c.requires in
    (all.1.0, tt)

pub with_sizes-parts-requires-in-Executable : goal.with_sizes-parts-requires-in-Executable
with_sizes-parts-requires-in-Executable c =
    let all = executable-split (IsKnown c.args.self.now) c.args.node.now c.in-Executable.field-0 c.in-Executable.parameters c.in-Executable.outcome c.in-Executable.thrown
    c.in-Executable.is c.requires in
    subst (AreKnown c.args.self.now) (sym c.as_slice-in-Executable-2.ensures) all.1.1
