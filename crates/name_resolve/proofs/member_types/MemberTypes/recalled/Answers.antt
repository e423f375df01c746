use Rattle.std.proofs.Common.{length, slice_get, refl, sym, ap, ◌∙◌}
use Rattle.std.proofs.lemmas.Option.{slice_get_read}
use Rattle.name_resolve.specs.Shown.{find_of}
use Rattle.name_resolve.proofs.RememberedLemmas.{recalled-is}
use Rattle.name_resolve.proofs.member_types.MemberTypes.recalled.Goals as goal

pub returns : goal.returns
returns c = λ members agrees.
    let place = c.in-Some.place.now in
    let question = c.in-Some-get.question.now in
    let found = c.in-Some-get.ensures.lookup in
    let stands = ap (λ xs. slice_get xs place) (sym c.as_slice.ensures.value) ∙ slice_get_read c.as_slice.result.now (length c.as_slice.result.now) place question refl found.3.0 found.1 in
    c.in_ok-copy-in-Some-answer.ensures
    ∙ recalled-is c.args.self.now c.requires.right c.args.levels place question c.in-Some-answer.finds.now (find_of c.args.of.now) c.args.name.now stands c.requires.placed (sym c.if-not-asks.ensures)
    (sym c.in-Some-answer.ensures) members agrees
