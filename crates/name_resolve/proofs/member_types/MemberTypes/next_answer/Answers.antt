use Rattle.std.proofs.Common.{length, refl, ap, ◌∙◌, arith}
use Rattle.std.proofs.lemmas.Option.{slice_get_read}
use Rattle.name_resolve.specs.Meaning.{inherited}
use Rattle.name_resolve.specs.Remembered.{tops_in}
use Rattle.name_resolve.specs.Shown.{find_of, finds_of}
use Rattle.name_resolve.proofs.KeptQuestions.{follows-there}
use Rattle.name_resolve.proofs.member_types.MemberTypes.next_answer.Goals as goal

pub inherited-requires-clause-placed : goal.inherited-requires-clause-placed
inherited-requires-clause-placed c =
    let questions = c.args.self.now.questions.items in
    let stands = slice_get_read questions (length questions) c.args.place c.index-question.result.now refl c.requires.known c.index-question.ensures in
    (c.requires.right.each c.args.place c.index-question.result.now stands).placed

pub returns-clause-value : goal.returns-clause-value
returns-clause-value c =
    let memory = c.args.self.now in
    let question = c.index-question.result.now in
    let stands = slice_get_read memory.questions.items (length memory.questions.items) c.args.place question refl c.requires.known c.index-question.ensures in
    follows-there memory c.args.place c.in-Some.levels question (finds_of c.in_ok-finds.finds) stands (omega (arith, c.in-Some.ensures, c.len.ensures))
    (λ members agrees. c.in_ok-finds.ensures.value members agrees ∙ ap (inherited (tops_in memory) members (find_of question.of)) c.as_str.ensures.value)
