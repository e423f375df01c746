-- A list with one member more, and with each of several.
use Rattle.std.proofs.Common.{◌≡◌, ℕ, zero, suc, ◌+◌, ◌<◌, ◌||◌, not, Bool, true, false, List, [], ◌∷◌, ◌++◌, length, get_or, drop, Option, None, Some, refl, sym, ap, ap₂, ◌∙◌, arith, if◌then◌else◌}
use Rattle.std.proofs.lemmas.List.{drop_more}
use Rattle.std.specs.Option.{option_and_then}
use Rattle.apt_base.specs.declared.element.ElementRef.{ElementRef}
use Rattle.element_table.specs.TypeTable.{TypeTable}
use Rattle.type_levels.specs.declared.answer.Answer.{Answer}
use Rattle.type_levels.specs.declared.answer.Answer.TheVariants.{Yes, Open, No}
use Rattle.type_listing.specs.Members.{Elements, is_inherited, is_among, is_displaced, unless_displaced, with_member, with_members}
use Rattle.type_listing.specs.Listings.{ComesTo}

module _ (table : TypeTable) (t : ElementRef) (list : Elements) (c : ElementRef) where
  abbrev by_tests : Bool → Bool → Option Elements
  by_tests there inherited = if there || not inherited then Some list else unless_displaced (is_displaced table t list c) list c

  -- what is not inherited is not added
  pub member_barred : is_inherited table t c ≡ false → with_member table t list c ≡ Some list
  unfolding with_member
  member_barred e = ap (by_tests (is_among list c)) e ∙ at_end (is_among list c)
    where
      at_end : (b : Bool) → by_tests b false ≡ Some list
      at_end true = refl
      at_end false = refl

  -- nor is what is there
  pub member_there : is_among list c ≡ true → with_member table t list c ≡ Some list
  unfolding with_member
  member_there e = ap (λ b. by_tests b (is_inherited table t c)) e

  answered : (answer : Answer) → is_inherited table t c ≡ true → is_among list c ≡ false → answer ≡ is_displaced table t list c
      → with_member table t list c ≡ unless_displaced answer list c
  unfolding with_member
  answered answer inherited there e = ap₂ by_tests there inherited ∙ ap (λ a. unless_displaced a list c) (sym e)

  pub member_displaced : (answer : Answer) → is_inherited table t c ≡ true → is_among list c ≡ false → answer ≡ is_displaced table t list c → answer ≡ Yes
      → with_member table t list c ≡ Some list
  member_displaced answer inherited there e is = answered answer inherited there e ∙ ap (λ a. unless_displaced a list c) is

  pub member_open : (answer : Answer) → is_inherited table t c ≡ true → is_among list c ≡ false → answer ≡ is_displaced table t list c → answer ≡ Open
      → with_member table t list c ≡ None
  member_open answer inherited there e is = answered answer inherited there e ∙ ap (λ a. unless_displaced a list c) is

  pub member_added : (answer : Answer) (more : Elements) (copy : ElementRef) → is_inherited table t c ≡ true → is_among list c ≡ false
      → answer ≡ is_displaced table t list c → answer ≡ No → more ≡ list ++ copy ∷ [] → copy ≡ c → with_member table t list c ≡ Some more
  member_added answer more copy inherited there e is added same =
      answered answer inherited there e ∙ ap (λ a. unless_displaced a list c) is
      ∙ ap (λ (x : ElementRef). Some (list ++ x ∷ [])) (sym same) ∙ ap (λ (xs : Elements). Some xs) (sym added)

-- ---- several of them, from a number on

comes_open : (closed : Bool) (due : Option Elements) (list : Elements) → closed ≡ false → ComesTo closed due list → due ≡ None
comes_open true due list e h = absurd cc
comes_open false due list e h = h

comes_closed : (closed : Bool) (due : Option Elements) (list : Elements) → closed ≡ true → ComesTo closed due list → due ≡ Some list
comes_closed true due list e h = h
comes_closed false due list e h = absurd cc

past : {A : Type 0} (xs : List A) (i : ℕ) → i ≡ length xs → drop i xs ≡ []
past [] zero e = refl
past [] (suc i) e = absurd (omega arith)
past (x ∷ xs) zero e = absurd (omega arith)
past (x ∷ xs) (suc i) e = past xs i (omega arith)

module _ (table : TypeTable) (t : ElementRef) (others : List ElementRef) (i : ℕ) (list : Elements) (all : Option Elements)
    (inv : with_members table t list (drop i others) ≡ all) where
  next : (c : ElementRef) (o : Option Elements) → i < length others → get_or others i c ≡ c → with_member table t list c ≡ o
      → option_and_then (λ more. with_members table t more (drop (i + 1) others)) o ≡ all
  next c o h is e =
      ap (option_and_then (λ more. with_members table t more (drop (i + 1) others))) (sym e)
      ∙ ap (with_members table t list) (sym (drop_more others i c h ∙ ap (λ (x : ElementRef). x ∷ drop (i + 1) others) is))
      ∙ inv

  -- one of them is open
  pub adding_open : (here : TypeTable) (c : ElementRef) (closed : Bool) (list' : Elements) → here ≡ table → i < length others → get_or others i c ≡ c
      → closed ≡ false → ComesTo closed (with_member here t list c) list' → all ≡ None
  adding_open here c closed list' same h is e due =
      sym (next c None h is (ap (λ (x : TypeTable). with_member x t list c) (sym same) ∙ comes_open closed (with_member here t list c) list' e due))

  pub adding_next : (here : TypeTable) (c : ElementRef) (closed : Bool) (list' : Elements) → here ≡ table → i < length others → get_or others i c ≡ c
      → closed ≡ true → ComesTo closed (with_member here t list c) list' → with_members table t list' (drop (i + 1) others) ≡ all
  adding_next here c closed list' same h is e due =
      next c (Some list') h is (ap (λ (x : TypeTable). with_member x t list c) (sym same) ∙ comes_closed closed (with_member here t list c) list' e due)

  pub adding_all : i ≡ length others → all ≡ Some list
  adding_all e = sym inv ∙ ap (with_members table t list) (past others i e)
