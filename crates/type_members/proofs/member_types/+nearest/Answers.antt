use Rattle.std.proofs.Common.{List, Option, ℕ, IfOk, ap, ◌∙◌, subst, ◌-◌, arith}
use Rattle.type_mirror.specs.declared.mirror.Mirror.{Mirror}
use Rattle.element_table.specs.TypeTable.{TypeTable}
use Rattle.type_numbers.specs.Numbers.{OptionStands}
use Rattle.type_members.specs.MemberNumbers.{nearest_at}
use Rattle.type_members.specs.NearestLevels.{MayBeLevel, next_level}
use Rattle.type_members.proofs.NearestTypes.{found_stands, none_at_last, open_level, next_nearest}
use Rattle.type_members.proofs.member_types.+nearest.Goals as goal

pub returns-in-Some-clause-stands : goal.returns-in-Some-clause-stands
returns-in-Some-clause-stands t c =
    found_stands c.args.resolver.now c.args.at.now c.args.types.now c.args.level.now c.args.steps c.in-Some.found c.in-Some.ensures

pub returns-then-steps-eq0-clause-stands : goal.returns-then-steps-eq0-clause-stands
returns-then-steps-eq0-clause-stands t c =
    none_at_last c.args.resolver.now c.args.at.now c.args.types.now c.args.level.now c.args.steps (omega (arith, c.if-steps-eq0.true)) c.in_default.ensures

pub returns-in-None-clause-stands : goal.returns-in-None-clause-stands
returns-in-None-clause-stands t c =
    let table = c.args.resolver.now in
    let now = c.further.new.types in
    let may = subst (λ (o : Option (List ℕ)). MayBeLevel now o (next_level table c.args.types.now c.args.level.now)) c.in-None.is c.in_ok-further.ensures.level in
    open_level table c.args.at.now c.args.types.now now c.args.level.now c.args.steps (omega (arith, c.if-steps-eq0.false)) c.in_default.ensures may

pub returns-in-Some-2-clause-stands : goal.returns-in-Some-2-clause-stands
returns-in-Some-2-clause-stands t c =
    let table = c.args.resolver.now in
    let now = c.further.new.types in
    let may = subst (λ (o : Option (List ℕ)). MayBeLevel now o (next_level table c.args.types.now c.args.level.now)) c.in-Some-2.is c.in_ok-further.ensures.level in
    let same = ap (λ (t : TypeTable). nearest_at t now c.args.at.now (c.args.steps - 1) c.as_slice.result.now) c.further.ensures.kept
    ∙ ap (λ (ns : List ℕ). nearest_at table now c.args.at.now (c.args.steps - 1) ns) c.as_slice.ensures
    ∙ next_nearest table c.args.at.now c.args.types.now now c.args.level.now c.in-Some-2.next c.args.steps (omega (arith, c.if-steps-eq0.false)) c.in_default.ensures may in
    subst (λ (m : Option Mirror). IfOk c.nearest.result (λ n. OptionStands c.nearest.new.types n m)) same c.nearest.ensures.stands
