use Rattle.element_table.specs.MemberTypes.{Ranges, ranges_of, Keeps, HasRows}
use Rattle.element_table.proofs.member_index.MemberIndex.add_rows.Given as goal

-- nothing goes, and an index that keeps what is there needs the other rows alone
abbrev pub invariant-loop-row : goal.invariant-loop-row
invariant-loop-row l = record {
  keeps : Keeps (ranges_of l.fn.self) (ranges_of l.self);
  left : (later : Ranges) → Keeps (ranges_of l.self) later → HasRows later l.row-iterator.rest.items → HasRows later l.fn.rows.items;
}
