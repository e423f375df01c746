use Rattle.decl_elements.specs.Walk.{places}
use Rattle.element_table.specs.declared.member_rows.Rows.{Rows}
use Rattle.element_table.proofs.MemberLaws.{noted_all, rows_of_places}
use Rattle.element_table.proofs.member_rows.member_rows.Goals as goal

pub returns : goal.returns
returns c =
    rows_of_places c.walk.new.visitor.rows.items c.args.name.now c.args.unit.now c.in_ok-walk.ensures.law
    (noted_all (λ (rows : Rows). rows.unit.now) (λ (rows : Rows). rows.rows.items) _ c.walk.new.visitor (places c.args.unit.now) c.in_ok-walk.ensures.value)
