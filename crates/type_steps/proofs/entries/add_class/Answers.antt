use Rattle.std.proofs.Common.{◌∙◌}
use Rattle.type_steps.proofs.NumberedEntries.{own-known, left-declared, left-other}
use Rattle.type_steps.proofs.entries.add_class.Goals as goal

pub returns-in_ok-add_own-in-Declared-clause-known : goal.returns-in_ok-add_own-in-Declared-clause-known
returns-in_ok-add_own-in-Declared-clause-known c =
    own-known c.args.types.now c.args.number c.node.result.now c.in-Declared.element c.in-Declared.enclosing c.in-Declared.arguments c.args.by.now c.add_own.new.by
    c.as_slice.result.now c.as_slice-in-Declared.result.now c.requires.known c.node.ensures.below c.in-Declared.is c.as_slice-in-Declared.ensures c.requires.by
    c.in_ok-add_own-in-Declared.ensures

pub returns-in_ok-add_own-in-Declared-clause-left : goal.returns-in_ok-add_own-in-Declared-clause-left
returns-in_ok-add_own-in-Declared-clause-left c =
    left-declared c.args.table.now c.args.types.now c.args.number c.node.result.now c.in-Declared.element c.in-Declared.enclosing c.in-Declared.arguments c.args.by.now
    c.add_own.new.by c.as_slice.result.now c.as_slice-in-Declared.result.now c.node.ensures.exact c.in-Declared.is (c.as_slice.ensures ∙ c.in_ok-parameters-in-Declared.ensures)
    c.as_slice-in-Declared.ensures c.in_ok-add_own-in-Declared.ensures

pub returns-in_default : goal.returns-in_default
returns-in_default c = record {
  known = c.requires.by;
  falls = tt;
  left = left-other c.args.table.now c.args.types.now c.args.number c.node.result.now c.args.by.now c.node.ensures.exact c.in_default.not-Declared;
}
