use Rattle.std.proofs.Common.{◌≡◌, ◌∷◌, [], string_bytes, sym, subst, arith, rules}
use Rattle.std.proofs.lemmas.List.{nil_from_length}
use Rattle.element_table.specs.MemberTypes.{Ranges, ranges_of, HasRows}
use Rattle.element_table.proofs.MemberLaws.{keeps-row, has-row, keeps-same, keeps-on}
use Rattle.element_table.proofs.member_index.MemberIndex.add_rows.Goals as goal

pub loop-row-init : goal.loop-row-init
loop-row-init c =
    let all : c.into_iter-row-iterator.result.rest.items ≡ c.args.rows.items = search rules in
    record { keeps = λ key number within. within; left = λ later keeps has. subst (HasRows later) all has }

pub loop-row-preserved : goal.loop-row-preserved
loop-row-preserved c =
    let old = ranges_of c.loop-row.self in
    let new = ranges_of c.add_row.new.self in
    let key = string_bytes c.in-Some.row.key in
    let step = keeps-row old new key c.in-Some.row.number c.in_ok-add_row.ensures.ok in
    let own = has-row old new key c.in-Some.row.number c.in_ok-add_row.ensures.ok in
    let rest : c.loop-row.row-iterator.rest.items ≡ c.in-Some.row ∷ c.next.new.self.rest.items = search rules in
    record {
      keeps = keeps-on (ranges_of c.args.self.now) old new c.loop-row.invariant.keeps step;
      left = λ later keeps has. c.loop-row.invariant.left later (keeps-on old new later step keeps) (subst (HasRows later) (sym rest) (keeps key c.in-Some.row.number own, has));
    }

pub returns-in_err-add_row-clause-keeps : goal.returns-in_err-add_row-clause-keeps
returns-in_err-add_row-clause-keeps c =
    let old = ranges_of c.loop-row.self in
    let new = ranges_of c.add_row.new.self in
    keeps-on (ranges_of c.args.self.now) old new c.loop-row.invariant.keeps (keeps-same old new c.in_err-add_row.ensures.err)

pub returns-clause-rows : goal.returns-clause-rows
returns-clause-rows c =
    let now = ranges_of c.loop-row.self in
    let none : c.loop-row.row-iterator.rest.items ≡ [] = nil_from_length _ (omega (arith, c.in-None.ensures.steps.0, c.loop-row.row-iterator.rest.ok)) in
    c.loop-row.invariant.left now (λ key number within. within) (subst (HasRows now) (sym none) tt)
