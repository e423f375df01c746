use Rattle.name_index.proofs.IndexLaws.{on_ok}
use Rattle.element_table.specs.MemberTypes.{ranges_of}
use Rattle.element_table.proofs.MemberLaws.{covers-rows}
use Rattle.element_table.proofs.member_index.MemberIndex.add_unit.Goals as goal

pub returns-clause-unit : goal.returns-clause-unit
returns-clause-unit c =
    on_ok c.add_rows.result
    (λ has. covers-rows (ranges_of c.add_rows.new.self) c.in_ok-rows.rows.items c.args.name.now c.args.unit.now c.in_ok-rows.ensures has)
    c.add_rows.ensures.rows
