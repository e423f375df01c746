use Rattle.std.proofs.Common.{◌≡◌, ◌++◌, take}
use Rattle.std.specs.List.{flat_map}
use Rattle.decl_syntax.proofs.in_unit.write_list.Given as goal

-- the items so far are written
abbrev pub invariant-loop-each : goal.invariant-loop-each
invariant-loop-each g l = l.writer ≡ l.initial.writer ++ flat_map g.T.InUnit.form (take l.each-index l.items)
