-- What the question on the members of a type comes to, by what the element is.
use Rattle.std.proofs.Common.{◌≡◌, Bool, true, false, List, Option, None, Some, ap, ap₂, ◌∙◌}
use Rattle.apt_base.specs.declared.element.ElementRef.{ElementRef}
use Rattle.apt_base.specs.Limits.{max_type_steps}
use Rattle.element_table.specs.TypeTable.{TypeTable}
use Rattle.type_resolve.specs.Scopes.{is_type}
use Rattle.type_relations.specs.Elements.{is_there}
use Rattle.type_listing.specs.Members.{members}
use Rattle.type_queries.specs.MemberLists.{members_question}
use Rattle.type_queries.specs.Verdicts.{Verdict, NoSuch, WrongKind, TooDeep, Given, value, judged}

module _ (table : TypeTable) (at : ElementRef) where
  abbrev by_members : Bool → Bool → Verdict (List ElementRef)
  by_members there kinds = judged there kinds (value (members table max_type_steps at))

  pub members-lost : is_there table at ≡ false → members_question table at ≡ NoSuch
  unfolding members_question
  members-lost e = ap (λ (b : Bool). by_members b (is_type table at)) e

  pub members-other : is_there table at ≡ true → is_type table at ≡ false → members_question table at ≡ WrongKind
  unfolding members_question
  members-other e h = ap₂ by_members e h

  members-answer : is_there table at ≡ true → is_type table at ≡ true → members_question table at ≡ value (members table max_type_steps at)
  unfolding members_question
  members-answer e h = ap₂ by_members e h

  pub members-deep : is_there table at ≡ true → is_type table at ≡ true → members table max_type_steps at ≡ None → members_question table at ≡ TooDeep
  members-deep e h a = members-answer e h ∙ ap value a

  pub members-given : (list : List ElementRef) → is_there table at ≡ true → is_type table at ≡ true → members table max_type_steps at ≡ Some list
      → members_question table at ≡ Given list
  members-given list e h a = members-answer e h ∙ ap value a

pub ruleset listings = (members-lost, members-other, members-deep, members-given)
