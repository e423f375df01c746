-- Type arguments by their numbers: what they are, what is asked of two of them, and of several.
use Rattle.std.proofs.Common.{◌≡◌, ℕ, zero, suc, ◌+◌, ◌<◌, ◌≤◌, length, get_or, drop, Bool, List, [], ◌∷◌, ◌++◌, map, refl, sym, ap, ap₂, subst, ◌∙◌, arith, true, false, eqb, if◌then◌else◌}
use Rattle.std.proofs.lemmas.Bool.{eqb-true, eq-eqb}
use Rattle.std.proofs.lemmas.List.{append_assoc, append-nil, map-append, length-map, drop_all}
use Rattle.std.specs.List.{AllByRecursion}
use Rattle.std.specs.Prelude.{Vec}
use Rattle.std.specs.declared.alloc.Global.{Global}
use Rattle.type_mirror.specs.declared.mirror.Mirror.{Mirror}
use Rattle.type_layers.specs.Layers.{Layer, Primitive, Declared, Error, Variable, Array, Unbounded, Extends, Super, Executable, Nothing, Void, Null, Package, layer, map_layer, parts_of}
use Rattle.type_layers.specs.Same.{same}
use Rattle.type_levels.specs.Containment as argument
use Rattle.type_levels.specs.Containment.{Argument, contains, contains_by, each_contained}
use Rattle.type_levels.specs.Laws.{map_argument}
use Rattle.type_levels.specs.Numbered.{IsKnownQuestion, Stands, question_at}
use Rattle.type_levels.specs.Shown.{question_of}
use Rattle.type_levels.specs.Steps as steps
use Rattle.type_levels.specs.Steps.{Next}
use Rattle.type_levels.specs.declared.answer.Answer.TheVariants.{Yes, No}
use Rattle.type_levels.specs.declared.question.Question.{Question}
use Rattle.type_levels.specs.declared.question.Question.TheVariants.{Settled, Asks}
use Rattle.type_levels.specs.declared.question.Next as declared_next
use Rattle.type_levels.specs.declared.question.Next.TheVariants as next_by
use Rattle.type_levels.proofs.ContainmentLaws.{by_numbers}
use Rattle.type_numbers.specs.Numbers.{at, IsKnown, AreKnown, with_types}
use Rattle.type_numbers.proofs.LayerMaps.{all_given, all_joined}
use Rattle.type_subtypes.specs.Numbers.{numbered, all_contained, by_arguments}
use Rattle.type_subtypes.specs.Subtypes.{argument_in, type_arguments}

argument_mapped : {A B : Type 0} (f : A → B) (l : Layer A) → map_argument f (argument_in l) ≡ argument_in (map_layer f l)
argument_mapped f (Primitive kind) = refl
argument_mapped f (Declared at enclosing arguments) = refl
argument_mapped f (Error text) = refl
argument_mapped f (Variable at) = refl
argument_mapped f (Array item) = refl
argument_mapped f Unbounded = refl
argument_mapped f (Extends bound) = refl
argument_mapped f (Super bound) = refl
argument_mapped f (Executable variables parameters outcome thrown) = refl
argument_mapped f Nothing = refl
argument_mapped f Void = refl
argument_mapped f Null = refl
argument_mapped f (Package name) = refl

pub within-both : (as' bs : List ℕ) (n : ℕ) → n < length as' → length as' ≡ length bs → n < length bs
within-both as' bs n p as_many = omega (arith, p, as_many)

module _ (asks : Mirror → Mirror → Next Mirror) (types : List Mirror) where
  -- ---- what is asked of two arguments

  at_argument : (i : ℕ) (l : Layer ℕ) (a : Argument ℕ) → with_types types l ≡ layer (at types i) → a ≡ argument_in l
      → map_argument (at types) a ≡ argument_in (layer (at types i))
  at_argument i l a e is = ap (map_argument (at types)) is ∙ argument_mapped (at types) l ∙ ap (λ (k : Layer Mirror). argument_in k) e

  pub contains-exact : (i j : ℕ) (l k : Layer ℕ) (a b : Argument ℕ) (s : Bool) (q : Question)
      → with_types types l ≡ layer (at types i) → with_types types k ≡ layer (at types j) → a ≡ argument_in l → b ≡ argument_in k → s ≡ same (at types i) (at types j)
      → question_of q ≡ contains_by s a j b → question_at (numbered asks types) q ≡ contains type_arguments (at types i) (at types j)
  unfolding contains
  contains-exact i j l k a b s q e h is is' same_is asked =
      by_numbers (numbered asks types) q s a j b asked
      ∙ ap (λ (x : Bool). contains_by x (map_argument (at types) a) (at types j) (map_argument (at types) b)) same_is
      ∙ ap₂ (λ (x y : Argument Mirror). contains_by (same (at types i) (at types j)) x (at types j) y) (at_argument i l a e is) (at_argument j k b h is')

  -- ---- the numbers that are asked for are known

  abbrev IsKnownArgument : Argument ℕ → Type 0
  IsKnownArgument argument.Unbounded = Unit {0}
  IsKnownArgument (argument.Extends bound) = IsKnown types bound
  IsKnownArgument (argument.Super bound) = IsKnown types bound
  IsKnownArgument argument.Exact = Unit {0}

  in_layer : (l : Layer ℕ) → AreKnown types (parts_of l) → IsKnownArgument (argument_in l)
  in_layer (Primitive kind) all = tt
  in_layer (Declared at enclosing arguments) all = tt
  in_layer (Error text) all = tt
  in_layer (Variable at) all = tt
  in_layer (Array item) all = tt
  in_layer Unbounded all = tt
  in_layer (Extends bound) all = all.0
  in_layer (Super bound) all = all.0
  in_layer (Executable variables parameters outcome thrown) all = tt
  in_layer Nothing all = tt
  in_layer Void all = tt
  in_layer Null all = tt
  in_layer (Package name) all = tt

  pub parts-known : (i : ℕ) (parts : List ℕ) → IsKnown types i → AllByRecursion (λ part. part < i) parts → AreKnown types parts
  parts-known i parts h below = all_given (λ (part : ℕ). part < i) (IsKnown types) parts (λ part p. omega arith) below

  known_argument : (i : ℕ) (l : Layer ℕ) (a : Argument ℕ) → IsKnown types i → AllByRecursion (λ part. part < i) (parts_of l) → a ≡ argument_in l → IsKnownArgument a
  known_argument i l a h below is = subst IsKnownArgument (sym is) (in_layer l (parts-known i (parts_of l) h below))

  abbrev KnownAsked : steps.Question ℕ → Type 0
  KnownAsked (steps.Settled answer) = Unit {0}
  KnownAsked (steps.Asks x y) = IsKnown types x × IsKnown types y

  known_asked : (s : Bool) (a : Argument ℕ) (j : ℕ) (b : Argument ℕ) → IsKnownArgument a → IsKnown types j → IsKnownArgument b → KnownAsked (contains_by s a j b)
  known_asked s argument.Unbounded j b p h q = tt
  known_asked s (argument.Extends x) j argument.Unbounded p h q = tt
  known_asked s (argument.Extends x) j (argument.Extends y) p h q = (q, p)
  known_asked s (argument.Extends x) j (argument.Super y) p h q = tt
  known_asked s (argument.Extends x) j argument.Exact p h q = (h, p)
  known_asked s (argument.Super x) j argument.Unbounded p h q = tt
  known_asked s (argument.Super x) j (argument.Extends y) p h q = tt
  known_asked s (argument.Super x) j (argument.Super y) p h q = (p, q)
  known_asked s (argument.Super x) j argument.Exact p h q = (p, h)
  known_asked s argument.Exact j b p h q = tt

  known_question : (q : Question) → KnownAsked (question_of q) → IsKnownQuestion (numbered asks types) q
  known_question (Settled answer) h = tt
  known_question (Asks pair) h = h

  pub contains-known : (i j : ℕ) (l k : Layer ℕ) (a b : Argument ℕ) (s : Bool) (q : Question)
      → IsKnown types i → IsKnown types j → AllByRecursion (λ part. part < i) (parts_of l) → AllByRecursion (λ part. part < j) (parts_of k)
      → a ≡ argument_in l → b ≡ argument_in k → question_of q ≡ contains_by s a j b → IsKnownQuestion (numbered asks types) q
  contains-known i j l k a b s q h h' below below' is is' asked =
      known_question q (subst KnownAsked (sym asked) (known_asked s a j b (known_argument i l a h below is) h' (known_argument j k b h' below' is')))

  -- ---- several arguments

  abbrev from : List ℕ → List ℕ → ℕ → List (steps.Question Mirror)
  from as' bs n = each_contained type_arguments (map (at types) (drop n as')) (map (at types) (drop n bs))

  -- the questions so far, and the rest
  pub record AreAsked (as' bs : List ℕ) (n : ℕ) (questions : List Question) : Type 0 where
    pub known : AllByRecursion (IsKnownQuestion (numbered asks types)) questions
    pub asked : map (question_at (numbered asks types)) questions ++ from as' bs n ≡ each_contained type_arguments (map (at types) as') (map (at types) bs)

  left : (as' bs : List ℕ) (n i j : ℕ) → n < length as' → n < length bs → i ≡ get_or as' n 0 → j ≡ get_or bs n 0
      → from as' bs n ≡ contains type_arguments (at types j) (at types i) ∷ from as' bs (suc n)
  left [] bs n i j p q e h = absurd (omega (arith, p))
  left (a ∷ as') [] n i j p q e h = absurd (omega (arith, q))
  left (a ∷ as') (b ∷ bs) zero i j p q e h =
      ap₂ (λ (x y : ℕ). contains type_arguments (at types y) (at types x) ∷ each_contained type_arguments (map (at types) as') (map (at types) bs)) (sym e) (sym h)
  left (a ∷ as') (b ∷ bs) (suc n) i j p q e h = left as' bs n i j (omega (arith, p)) (omega (arith, q)) e h

  left_next : (as' bs : List ℕ) (n i j : ℕ) → n < length as' → n < length bs → i ≡ get_or as' n 0 → j ≡ get_or bs n 0
      → from as' bs n ≡ contains type_arguments (at types j) (at types i) ∷ from as' bs (n + 1)
  left_next as' bs n i j p q e h =
      let one : suc n ≡ n + 1 = omega arith in
      left as' bs n i j p q e h ∙ ap (λ (k : ℕ). contains type_arguments (at types j) (at types i) ∷ from as' bs k) one

  pub asked-next : (as' bs : List ℕ) (n i j : ℕ) (q : Question) (questions questions' : List Question) → n < length as' → length as' ≡ length bs
      → i ≡ get_or as' n 0 → j ≡ get_or bs n 0 → question_at (numbered asks types) q ≡ contains type_arguments (at types j) (at types i)
      → IsKnownQuestion (numbered asks types) q → AreAsked as' bs n questions → questions' ≡ questions ++ q ∷ [] → AreAsked as' bs (n + 1) questions'
  asked-next as' bs n i j q questions questions' p as_many e h is known so_far pushed =
      let within : n < length bs = omega (arith, p, as_many) in
      record {
        known = subst (AllByRecursion (IsKnownQuestion (numbered asks types))) (sym pushed) (all_joined (IsKnownQuestion (numbered asks types)) questions (q ∷ []) so_far.known (known, tt));
        asked =
            ap (λ (qs : List Question). map (question_at (numbered asks types)) qs ++ from as' bs (n + 1)) pushed
            ∙ ap (λ (xs : List (steps.Question Mirror)). xs ++ from as' bs (n + 1)) (map-append (question_at (numbered asks types)) questions (q ∷ []))
            ∙ append_assoc (map (question_at (numbered asks types)) questions) (question_at (numbered asks types) q ∷ []) (from as' bs (n + 1))
            ∙ ap (λ (x : steps.Question Mirror). map (question_at (numbered asks types)) questions ++ x ∷ from as' bs (n + 1)) is
            ∙ ap (λ (xs : List (steps.Question Mirror)). map (question_at (numbered asks types)) questions ++ xs) (sym (left_next as' bs n i j p within e h))
            ∙ so_far.asked;
      }

  pub asked-all : (as' bs : List ℕ) (n : ℕ) (questions : Vec Question Global) → length as' ≤ n → AreAsked as' bs n questions.items
      → Stands (numbered asks types) (next_by.Arguments questions) (all_contained types as' bs)
  asked-all as' bs n questions p all = record {
    known = all.known;
    next =
        ap steps.Arguments
        (sym (append-nil (map (question_at (numbered asks types)) questions.items))
        ∙ ap (λ (xs : List (steps.Question Mirror)). map (question_at (numbered asks types)) questions.items ++ xs)
        (sym (ap (λ (xs : List ℕ). each_contained type_arguments (map (at types) xs) (map (at types) (drop n bs))) (drop_all n as' p)))
        ∙ all.asked);
  }

  -- ---- two lists of arguments

  apart : (m n : ℕ) (r : Bool) → eqb m n ≡ r → (m ≡ n → ⊥) → eqb m n ≡ false
  apart m n true e h = absurd (h (eqb-true m n e))
  apart m n false e h = e

  counted : (a : ℕ) (as' : List ℕ) → length (at types a ∷ map (at types) as') ≡ length (a ∷ as')
  counted a as' = length-map (a ∷ as') (at types)

  by_count : (a : ℕ) (as' : List ℕ) (b : ℕ) (bs : List ℕ) → Bool → Next Mirror
  by_count a as' b bs same_count = if same_count then all_contained types (a ∷ as') (b ∷ bs) else steps.Decided No

  -- below one without arguments
  pub arguments-none : (as' bs : List ℕ) → length bs ≡ 0 → Stands (numbered asks types) (next_by.Decided Yes) (by_arguments types as' bs)
  arguments-none [] [] e = record { known = tt; next = refl }
  arguments-none (a ∷ as') [] e = record { known = tt; next = refl }
  arguments-none as' (b ∷ bs) e = absurd (omega (arith, e))

  -- lists of different lengths
  pub arguments-apart : (as' bs : List ℕ) → (length bs ≡ 0 → ⊥) → (length as' ≡ length bs → ⊥) → Stands (numbered asks types) (next_by.Decided No) (by_arguments types as' bs)
  unfolding by_count
  arguments-apart as' [] some h = absurd (some refl)
  arguments-apart [] (b ∷ bs) some h = record { known = tt; next = refl }
  arguments-apart (a ∷ as') (b ∷ bs) some h =
      let m = length (at types a ∷ map (at types) as') in
      let n = length (at types b ∷ map (at types) bs) in
      let differ : eqb m n ≡ false = apart m n (eqb m n) refl (λ e. h (sym (counted a as') ∙ e ∙ counted b bs)) in
      record { known = tt; next = sym (ap (by_count a as' b bs) differ) }

  -- lists of one length
  pub arguments-paired : (as' bs : List ℕ) → (length bs ≡ 0 → ⊥) → length as' ≡ length bs → all_contained types as' bs ≡ by_arguments types as' bs
  unfolding by_count
  arguments-paired as' [] some e = absurd (some refl)
  arguments-paired [] (b ∷ bs) some e = absurd (omega (arith, e))
  arguments-paired (a ∷ as') (b ∷ bs) some e =
      let m = length (at types a ∷ map (at types) as') in
      let n = length (at types b ∷ map (at types) bs) in
      let agree : eqb m n ≡ true = eq-eqb m n (counted a as' ∙ e ∙ sym (counted b bs)) in
      sym (ap (by_count a as' b bs) agree)

  pub paired-stands : (as' bs : List ℕ) (asked : declared_next.Next) → (length bs ≡ 0 → ⊥) → length as' ≡ length bs → Stands (numbered asks types) asked (all_contained types as' bs)
      → Stands (numbered asks types) asked (by_arguments types as' bs)
  paired-stands as' bs asked some e s = record { known = s.known; next = s.next ∙ arguments-paired as' bs some e }

pub ruleset compared = (arguments-none, arguments-apart, paired-stands)
