-- What a question comes to, by what stands against it.
use Rattle.std.proofs.Common.{◌≡◌, ℕ, Bool, true, false, List, Option, None, Some, Result, Ok, Err, refl, sym, ap, subst, ◌∙◌}
use Rattle.std.proofs.lemmas.Bool.{false≢true}
use Rattle.element_table.specs.TypeTable.{TypeTable}
use Rattle.child_questions.specs.Verdicts.{Verdict, NoSuch, WrongKind, Gives, judged}
use Rattle.child_questions.specs.QueryFault.{QueryFault}
use Rattle.wire_frames.specs.declared.question.Question.{Question}
use Rattle.wire_frames.specs.declared.reply.Reply.{Reply}
use Rattle.child_questions.specs.declared.stops.Stop.{Stop}
use Rattle.child_questions.specs.declared.stops.Stop.TheVariants as stop
use Rattle.child_questions.specs.NamedElements.{question_elements, are_all_there}
use Rattle.child_questions.specs.Stops.{stop_by, stop_of}
use Rattle.child_questions.specs.WantedKinds.{is_admitted}
use Rattle.child_answers.specs.Replies.{Answer, answer_to, fault_of, judged_answer}

-- ---- by whether all is there, and of the kind that is wanted

abbrev is_lost : Option Stop → Bool
is_lost (Some stop.NoSuch) = true
is_lost _ = false

abbrev is_other : Option Stop → Bool
is_other (Some stop.WrongKind) = true
is_other _ = false

abbrev is_stopped : Option Stop → Bool
is_stopped None = false
is_stopped (Some s) = true

by_lost : (there kinds : Bool) (answer : Answer) → stop_by there kinds ≡ Some stop.NoSuch → judged there kinds answer ≡ NoSuch
by_lost false kinds answer e = refl
by_lost true false answer e = absurd (false≢true (ap is_lost e))
by_lost true true answer e = absurd (false≢true (ap is_lost e))

by_other : (there kinds : Bool) (answer : Answer) → stop_by there kinds ≡ Some stop.WrongKind → judged there kinds answer ≡ WrongKind
by_other false kinds answer e = absurd (false≢true (ap is_other e))
by_other true false answer e = refl
by_other true true answer e = absurd (false≢true (ap is_other e))

by_none : (there kinds : Bool) (answer : Answer) → stop_by there kinds ≡ None → judged there kinds answer ≡ answer
by_none false kinds answer e = absurd (false≢true (sym (ap is_stopped e)))
by_none true false answer e = absurd (false≢true (sym (ap is_stopped e)))
by_none true true answer e = refl

by_kinds : (there kinds : Bool) → stop_by there kinds ≡ None → kinds ≡ true
by_kinds false kinds e = absurd (false≢true (sym (ap is_stopped e)))
by_kinds true false e = absurd (false≢true (sym (ap is_stopped e)))
by_kinds true true e = refl

-- ---- by what stands against the question

module _ (table : TypeTable) (roots : List (List ℕ)) (q : Question) where
  abbrev there : Bool
  there = are_all_there table (question_elements q)

  pub judged-stopped : (s : Stop) → stop_of table q ≡ Some s → Gives {A = Reply} (Err (fault_of s)) (judged_answer table roots q)
  unfolding stop_of judged_answer
  judged-stopped stop.NoSuch e = by_lost there (is_admitted table q) (answer_to table roots q) e
  judged-stopped stop.WrongKind e = by_other there (is_admitted table q) (answer_to table roots q) e

  answered : stop_of table q ≡ None → judged_answer table roots q ≡ answer_to table roots q
  unfolding stop_of judged_answer
  answered e = by_none there (is_admitted table q) (answer_to table roots q) e

  pub judged-given : (r : Result Reply QueryFault) → stop_of table q ≡ None → Gives r (answer_to table roots q) → Gives r (judged_answer table roots q)
  judged-given r e given = subst (λ (answer : Answer). Gives r answer) (sym (answered e)) given

pub unstopped-admitted : (table : TypeTable) (q : Question) → stop_of table q ≡ None → is_admitted table q ≡ true
unfolding stop_of
unstopped-admitted table q e = by_kinds (are_all_there table (question_elements q)) (is_admitted table q) e

pub ruleset judging = (judged-stopped, judged-given, unstopped-admitted)
