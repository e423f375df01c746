-- 'Or' of the answers about the members of one name, from the first one on, is that about all members of a list.
use Rattle.std.proofs.Common.{◌≡◌, ℕ, zero, suc, ◌+◌, ◌<◌, ◌||◌, Bool, true, false, List, [], ◌∷◌, length, map, get_or, drop, refl, sym, ap, ◌∙◌, arith}
use Rattle.std.proofs.lemmas.List.{drop_more}
use Rattle.std.specs.List.{AllByRecursion, list_any}
use Rattle.apt_base.specs.Elements.{same_element}
use Rattle.apt_base.specs.declared.element.ElementRef.{ElementRef}
use Rattle.type_levels.specs.Answers.{either, any}
use Rattle.type_levels.specs.declared.answer.Answer.{Answer}
use Rattle.type_levels.specs.declared.answer.Answer.TheVariants.{Yes, Open, No}
use Rattle.type_listing.specs.Members.{displaces, is_among, is_displaced}
use Rattle.type_listing.specs.Listings.{Listed, of_its_name, member_at, AreWithin}
use Rattle.type_listing.proofs.OneName.{namesakes_are_enough, among_its_namesakes}

either-none : (a : Answer) → either a No ≡ a
either-none Yes = refl
either-none Open = refl
either-none No = refl

either-yes : (a : Answer) → either a Yes ≡ Yes
either-yes Yes = refl
either-yes Open = refl
either-yes No = refl

either-joined : (a b c : Answer) → either a (either b c) ≡ either (either a b) c
either-joined Yes b c = refl
either-joined No b c = refl
either-joined Open Yes c = refl
either-joined Open No c = refl
either-joined Open Open Yes = refl
either-joined Open Open Open = refl
either-joined Open Open No = refl

any_of_map : {A B : Type 0} (f : B → Answer) (g : A → B) (xs : List A) → any f (map g xs) ≡ any (λ x. f (g x)) xs
any_of_map f g [] = refl
any_of_map f g (x ∷ xs) = ap (either (f (g x))) (any_of_map f g xs)

list_any_of_map : {A B : Type 0} (f : B → Bool) (g : A → B) (xs : List A) → list_any f (map g xs) ≡ list_any (λ x. f (g x)) xs
list_any_of_map f g [] = refl
list_any_of_map f g (x ∷ xs) = ap (λ b. f (g x) || b) (list_any_of_map f g xs)

-- the same with another value past the end
other_default : {A : Type 0} (xs : List A) (i : ℕ) (d e : A) → i < length xs → get_or xs i d ≡ get_or xs i e
other_default [] i d e h = absurd (omega arith)
other_default (x ∷ xs) zero d e h = refl
other_default (x ∷ xs) (suc i) d e h = other_default xs i d e (omega arith)

at_index : {A : Type 0} (P : A → Type 0) (xs : List A) (i : ℕ) (d : A) → AllByRecursion P xs → i < length xs → P (get_or xs i d)
at_index P [] i d all h = absurd (omega arith)
at_index P (x ∷ xs) zero d all h = all.0
at_index P (x ∷ xs) (suc i) d all h = at_index P xs i d all.1 (omega arith)

past : {A : Type 0} (xs : List A) (i : ℕ) → i ≡ length xs → drop i xs ≡ []
past [] zero e = refl
past [] (suc i) e = absurd (omega arith)
past (x ∷ xs) zero e = absurd (omega arith)
past (x ∷ xs) (suc i) e = past xs i (omega arith)

-- ---- the members at the places of a name

module _ (listed : Listed) (c : ElementRef) (places : List ℕ) where
  abbrev is_at : ℕ → Bool
  is_at place = same_element c (member_at listed c place)

  abbrev answer_at : ElementRef → ℕ → Answer
  answer_at t place = displaces listed.table t (member_at listed c place) c

  -- each place is within the list
  pub place_within : (i : ℕ) → AreWithin listed places → i < length places → get_or places i 0 < length listed.list
  place_within i within h = at_index (λ p. p < length listed.list) places i 0 within h

  -- what stands there
  stands : (i : ℕ) (x : ElementRef) → AreWithin listed places → i < length places → x ≡ get_or listed.list (get_or places i 0) x
      → member_at listed c (get_or places i 0) ≡ x
  stands i x within h e = other_default listed.list (get_or places i 0) c x (place_within i within h) ∙ sym e

  -- ---- whether a member is among them

  among : map (member_at listed c) places ≡ of_its_name listed c → list_any is_at places ≡ is_among listed.list c
  among named =
      sym (list_any_of_map (same_element c) (member_at listed c) places)
      ∙ ap (list_any (same_element c)) named
      ∙ sym (among_its_namesakes listed.table c listed.list)

  among_step : (i : ℕ) (x : ElementRef) (b : Bool) → AreWithin listed places → i < length places → x ≡ get_or listed.list (get_or places i 0) x
      → same_element c x ≡ b → list_any is_at (drop i places) ≡ (b || list_any is_at (drop (i + 1) places))
  among_step i x b within h e same =
      ap (list_any is_at) (drop_more places i 0 h)
      ∙ ap (λ (t : Bool). t || list_any is_at (drop (i + 1) places)) (ap (same_element c) (stands i x within h e) ∙ same)

  pub among_found : (i : ℕ) (x : ElementRef) → map (member_at listed c) places ≡ of_its_name listed c → AreWithin listed places → i < length places
      → x ≡ get_or listed.list (get_or places i 0) x → same_element c x ≡ true → list_any is_at (drop i places) ≡ list_any is_at places
      → true ≡ is_among listed.list c
  among_found i x named within h e same inv = sym (among_step i x true within h e same) ∙ inv ∙ among named

  pub among_next : (i : ℕ) (x : ElementRef) → AreWithin listed places → i < length places → x ≡ get_or listed.list (get_or places i 0) x
      → same_element c x ≡ false → list_any is_at (drop i places) ≡ list_any is_at places
      → list_any is_at (drop (i + 1) places) ≡ list_any is_at places
  among_next i x within h e same inv = sym (among_step i x false within h e same) ∙ inv

  pub among_none : (i : ℕ) → map (member_at listed c) places ≡ of_its_name listed c → i ≡ length places
      → list_any is_at (drop i places) ≡ list_any is_at places → false ≡ is_among listed.list c
  among_none i named e inv = sym (ap (list_any is_at) (past places i e)) ∙ inv ∙ among named

  -- ---- whether one of them displaces a member

  module _ (t : ElementRef) where
    displaced : map (member_at listed c) places ≡ of_its_name listed c → any (answer_at t) places ≡ is_displaced listed.table t listed.list c
    displaced named =
        sym (any_of_map (λ m. displaces listed.table t m c) (member_at listed c) places)
        ∙ ap (any (λ m. displaces listed.table t m c)) named
        ∙ sym (namesakes_are_enough listed.table t c listed.list)

    pub displaced_next : (i : ℕ) (x : ElementRef) (answer one more : Answer) → AreWithin listed places → i < length places
        → x ≡ get_or listed.list (get_or places i 0) x → one ≡ displaces listed.table t x c → more ≡ either answer one
        → either answer (any (answer_at t) (drop i places)) ≡ any (answer_at t) places
        → either more (any (answer_at t) (drop (i + 1) places)) ≡ any (answer_at t) places
    displaced_next i x answer one more within h e found joined inv =
        let here : answer_at t (get_or places i 0) ≡ one = ap (λ (m : ElementRef). displaces listed.table t m c) (stands i x within h e) ∙ sym found in
        ap (λ (a : Answer). either a (any (answer_at t) (drop (i + 1) places))) joined
        ∙ sym (either-joined answer one (any (answer_at t) (drop (i + 1) places)))
        ∙ ap (λ (a : Answer). either answer (either a (any (answer_at t) (drop (i + 1) places)))) (sym here)
        ∙ ap (λ (ps : List ℕ). either answer (any (answer_at t) ps)) (sym (drop_more places i 0 h))
        ∙ inv

    -- one that does is enough
    pub displaced_yes : (i : ℕ) (x : ElementRef) (answer one : Answer) → map (member_at listed c) places ≡ of_its_name listed c → AreWithin listed places → i < length places
        → x ≡ get_or listed.list (get_or places i 0) x → one ≡ displaces listed.table t x c → one ≡ Yes
        → either answer (any (answer_at t) (drop i places)) ≡ any (answer_at t) places → Yes ≡ is_displaced listed.table t listed.list c
    displaced_yes i x answer one named within h e found told inv =
        let here : answer_at t (get_or places i 0) ≡ Yes = ap (λ (m : ElementRef). displaces listed.table t m c) (stands i x within h e) ∙ sym found ∙ told in
        sym (either-yes answer)
        ∙ ap (λ (a : Answer). either answer (either a (any (answer_at t) (drop (i + 1) places)))) (sym here)
        ∙ ap (λ (ps : List ℕ). either answer (any (answer_at t) ps)) (sym (drop_more places i 0 h))
        ∙ inv
        ∙ displaced named

    pub displaced_all : (i : ℕ) (answer : Answer) → map (member_at listed c) places ≡ of_its_name listed c → i ≡ length places
        → either answer (any (answer_at t) (drop i places)) ≡ any (answer_at t) places → answer ≡ is_displaced listed.table t listed.list c
    displaced_all i answer named e inv =
        sym (either-none answer) ∙ ap (λ (ps : List ℕ). either answer (any (answer_at t) ps)) (sym (past places i e)) ∙ inv ∙ displaced named
