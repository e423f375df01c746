-- What is noted of questions is beyond reach exactly where one of them is.
use Rattle.std.proofs.Common.{◌≡◌, ◌↔◌, ◌⊎◌, inl, inr, ℕ, Bool, true, false, ◌||◌, T, List, [], ◌∷◌, refl, sym, subst}
use Rattle.std.specs.List.{list_any, flat_map}
use Rattle.std.specs.Str.{bytes_eq}
use Rattle.std.specs.FinMap as fin
use Rattle.std.proofs.lemmas.List.Folds.{list_any-append}
use Rattle.apt_base.specs.Names.{with_names, names_in}
use Rattle.apt_base.specs.declared.kinds.Kind.{Kind}
use Rattle.apt_base.specs.declared.kinds.Kind.TheVariants.{Isolating, Aggregating, Dynamic, Undeclared}
use Rattle.element_table.specs.TypeTable.{TypeTable}
use Rattle.wire_frames.specs.declared.question.Question.{Question}
use Rattle.named_units.specs.Named.{names_of, is_wide, gathers}
use Rattle.reach_map.specs.ClosedCuts.{among}
use Rattle.reach_map.proofs.NamesLemmas.{or_cases, or_left, or_right, among-keys, has_new}
use Rattle.beyond_reach.specs.Beyond.{SomeOutside, Noted, AskedBeyond, noted_by, OneIs, SomeBeyond}
use Rattle.beyond_reach.specs.Decided.{NotedIsBeyond}
use Rattle.beyond_reach.proofs.ReachedLemmas.{true_of, of_true, no_more}

-- ---- one of some questions

one_is_none : (questions : List Question) → OneIs (λ question. ⊥) questions → ⊥
one_is_none [] one = one
one_is_none (question ∷ questions) (inl none) = none
one_is_none (question ∷ questions) (inr later) = one_is_none questions later

-- of two things
one_is_either : (P Q : Question → Type 0) (questions : List Question) → OneIs P questions ⊎ OneIs Q questions → OneIs (λ question. P question ⊎ Q question) questions
one_is_either P Q [] (inl none) = none
one_is_either P Q [] (inr none) = none
one_is_either P Q (question ∷ questions) (inl (inl p)) = inl (inl p)
one_is_either P Q (question ∷ questions) (inl (inr later)) = inr (one_is_either P Q questions (inl later))
one_is_either P Q (question ∷ questions) (inr (inl q)) = inl (inr q)
one_is_either P Q (question ∷ questions) (inr (inr later)) = inr (one_is_either P Q questions (inr later))

first_or : {A B C D : Type 0} → (A → C) → (B → D) → A ⊎ B → C ⊎ D
first_or f g (inl a) = inl (f a)
first_or f g (inr b) = inr (g b)

either_is_one : (P Q : Question → Type 0) (questions : List Question) → OneIs (λ question. P question ⊎ Q question) questions → OneIs P questions ⊎ OneIs Q questions
either_is_one P Q [] none = inl none
either_is_one P Q (question ∷ questions) (inl (inl p)) = inl (inl p)
either_is_one P Q (question ∷ questions) (inl (inr q)) = inr (inl q)
either_is_one P Q (question ∷ questions) (inr later) = first_or inr inr (either_is_one P Q questions later)

-- ---- a test

test_of_one : (test : Question → Bool) (questions : List Question) → T (list_any test questions) → OneIs (λ question. test question ≡ true) questions
test_of_one test [] t = absurd t
test_of_one test (question ∷ questions) t =
    or_cases (test question) (list_any test questions) t (λ h. inl (true_of (test question) h)) (λ r. inr (test_of_one test questions r))

one_of_test : (test : Question → Bool) (questions : List Question) → OneIs (λ question. test question ≡ true) questions → T (list_any test questions)
one_of_test test [] none = absurd none
one_of_test test (question ∷ questions) (inl is) = or_left (test question) (list_any test questions) (of_true (test question) is)
one_of_test test (question ∷ questions) (inr later) = or_right (test question) (list_any test questions) (one_of_test test questions later)

-- ---- names

module _ (table : TypeTable) (units : List (List ℕ)) where
  abbrev NamesOutside : Question → Type 0
  NamesOutside question = SomeOutside table units (names_of table question)

  abbrev all_names : List Question → List (List ℕ)
  all_names questions = flat_map (names_of table) questions

  outside_of_one : (questions : List Question) → SomeOutside table units (all_names questions) → OneIs NamesOutside questions
  outside_of_one [] (name, (there, outside)) = absurd there
  outside_of_one (question ∷ questions) (name, (there, outside)) =
      or_cases (among (names_of table question) name) (among (all_names questions) name) (subst T (list_any-append (bytes_eq name) (names_of table question) (all_names questions)) there)
      (λ h. inl (name, (h, outside))) (λ r. inr (outside_of_one questions (name, (r, outside))))

  one_outside : (questions : List Question) → OneIs NamesOutside questions → SomeOutside table units (all_names questions)
  one_outside [] none = absurd none
  one_outside (question ∷ questions) (inl (name, (there, outside))) =
      (name, (subst T (sym (list_any-append (bytes_eq name) (names_of table question) (all_names questions))) (or_left (among (names_of table question) name) (among (all_names questions) name) there), outside))
  one_outside (question ∷ questions) (inr later) =
      let (name, (there, outside)) = one_outside questions later in
      (name, (subst T (sym (list_any-append (bytes_eq name) (names_of table question) (all_names questions))) (or_right (among (names_of table question) name) (among (all_names questions) name) there), outside))

  -- the names that are noted are those that were named
  noted_outside : (names : List (List ℕ)) → SomeOutside table units names → SomeOutside table units (names_in (with_names fin.empty names))
  noted_outside names (name, (there, outside)) = (name, (subst T (among-keys (with_names fin.empty names) name) (has_new fin.empty names name there), outside))

  outside_noted : (names : List (List ℕ)) → SomeOutside table units (names_in (with_names fin.empty names)) → SomeOutside table units names
  outside_noted names (name, (there, outside)) = (name, (no_more name names (subst T (sym (among-keys (with_names fin.empty names) name)) there), outside))

  -- ---- the whole

  module _ (offered : List (List ℕ)) (questions : List Question) where
    abbrev Gathers : Question → Type 0
    Gathers question = gathers offered question ≡ true

    abbrev IsWide : Question → Type 0
    IsWide question = is_wide question ≡ true

    names_to : SomeOutside table units (noted_by table offered questions).asked → OneIs NamesOutside questions
    names_to some = outside_of_one questions (outside_noted (all_names questions) some)

    names_from : OneIs NamesOutside questions → SomeOutside table units (noted_by table offered questions).asked
    names_from one = noted_outside (all_names questions) (one_outside questions one)

    test_to : (test : Question → Bool) → list_any test questions ≡ true → OneIs (λ question. test question ≡ true) questions
    test_to test is = test_of_one test questions (of_true (list_any test questions) is)

    test_from : (test : Question → Bool) → OneIs (λ question. test question ≡ true) questions → list_any test questions ≡ true
    test_from test one = true_of (list_any test questions) (one_of_test test questions one)

    to_one : (kind : Kind) → AskedBeyond kind table units (noted_by table offered questions) → SomeBeyond kind table units offered questions
    to_one Isolating beyond = one_is_either NamesOutside IsWide questions (first_or names_to (test_to is_wide) beyond)
    to_one Aggregating beyond =
        one_is_either NamesOutside (λ question. IsWide question ⊎ Gathers question) questions
        (first_or names_to (λ either. one_is_either IsWide Gathers questions (first_or (test_to is_wide) (test_to (gathers offered)) either)) beyond)
    to_one Dynamic beyond = absurd beyond
    to_one Undeclared beyond = absurd beyond

    from_one : (kind : Kind) → SomeBeyond kind table units offered questions → AskedBeyond kind table units (noted_by table offered questions)
    from_one Isolating some = first_or names_from (test_from is_wide) (either_is_one NamesOutside IsWide questions some)
    from_one Aggregating some =
        first_or names_from (λ one. first_or (test_from is_wide) (test_from (gathers offered)) (either_is_one IsWide Gathers questions one))
        (either_is_one NamesOutside (λ question. IsWide question ⊎ Gathers question) questions some)
    from_one Dynamic some = one_is_none questions some
    from_one Undeclared some = one_is_none questions some

pub noted_is_beyond : NotedIsBeyond
noted_is_beyond kind table units offered questions = (to_one table units offered questions kind, from_one table units offered questions kind)
