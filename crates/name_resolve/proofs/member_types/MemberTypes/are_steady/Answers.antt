use Rattle.std.proofs.Common.{◌<◌, ◌≤◌, length, refl, arith}
use Rattle.std.proofs.lemmas.Option.{slice_get_read}
use Rattle.name_resolve.proofs.SteadyQuestions.{one-more, all-steady}
use Rattle.name_resolve.proofs.member_types.MemberTypes.are_steady.Goals as goal

pub loop-place-init : goal.loop-place-init
loop-place-init c = λ at q behind below stands. absurd (omega (arith, behind, below))

pub loop-place-preserved : goal.loop-place-preserved
loop-place-preserved c =
    let memory = c.args.self.now in
    let within : c.loop-place.place < length memory.questions.items = omega (arith, c.len-place-end.ensures, c.loop-place-test.true) in
    let stands = slice_get_read memory.questions.items (length memory.questions.items) c.loop-place.place c.index-question.result.now refl within c.index-question.ensures in
    one-more memory c.args.fewer c.args.levels c.loop-place.place c.index-question.result.now stands (c.if-not-is_steady.ensures refl) c.loop-place.invariant

pub returns : goal.returns
returns c = λ _.
    let memory = c.args.self.now in
    let all : length memory.questions.items ≤ c.loop-place.place = omega (arith, c.len-place-end.ensures, c.loop-place-test.false) in
    let reached : memory.settled.levels ≤ c.args.fewer = omega arith in
    all-steady memory c.args.fewer c.args.levels c.loop-place.place all reached c.loop-place.invariant
