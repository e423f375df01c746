-- The questions on types over closed cuts.
use Rattle.std.proofs.Common.{T, ◌≡◌, ℕ, zero, suc, Bool, true, false, cond, ◌&&◌, ◌||◌, not, IsTrue, List, [], ◌∷◌, Option, None, Some, is_some, unwrap_or, refl, sym, ap, ap₂, subst, ◌∙◌}
use Rattle.std.specs.Str.{bytes_eq}
use Rattle.reach_map.proofs.NamesLemmas.{same_as}
use Rattle.std.specs.List.{AllByRecursion, list_all, list_any}
use Rattle.apt_base.specs.declared.element.ElementRef.{ElementRef}
use Rattle.decl_elements.specs.Nodes.{Node, OfPackage, down}
use Rattle.std.specs.Option.{option_and_then}
use Rattle.decl_tree.specs.declared.compilation.UnitText.{UnitText}
use Rattle.element_table.specs.TypeTable.{TypeTable, unit_of}
use Rattle.element_table.specs.TableElements.{info_package, typed_package, node_from, node_at}
use Rattle.type_mirror.specs.declared.mirror.Mirror.{Mirror}
use Rattle.apt_base.specs.Elements.{same_element}
use Rattle.type_layers.specs.Layers.{layer}
use Rattle.type_layers.specs.Same.{same}
use Rattle.type_resolve.specs.Scopes.{is_type_in, is_type}
use Rattle.type_levels.specs.declared.answer.Answer.{Answer}
use Rattle.apt_base.specs.Limits.{max_type_steps}
use Rattle.type_relations.specs.Direct.{direct}
use Rattle.type_relations.specs.Elements.{is_there, around_of}
use Rattle.type_elements.specs.MemberElements.{class_element, class_elements, is_method_name, is_method}
use Rattle.type_elements.specs.TypeOf.{type_of}
use Rattle.type_members.specs.Reached.{IsReachedFrom, types_from, steps_from, reached_within}
use Rattle.type_queries.specs.Verdicts.{Verdict, Given, value, truth, judged, elements_of, are_there}
use Rattle.type_queries.specs.Questions as questions
use Rattle.type_queries.specs.Questions.{same_question, print_question, boxed_question, unboxed_question, type_question, direct_question, erasure_question, are_types, are_executables, subtype_question, contains_question, assignable_question, subsignature_question}
use Rattle.type_queries.specs.MemberQuestion.{is_type_parameter, is_in_type, both_there, IsMember}
use Rattle.type_queries.specs.MemberLists.{members_question}
use Rattle.type_queries.specs.OverridingQuestions.{are_elements_there, overrides_question}
use Rattle.reach_map.specs.ClosedCuts.{cut}
use Rattle.closed_cuts.specs.Kept.{IfAny}
use Rattle.closed_cuts.specs.CutElements.{HasUnit}
use Rattle.closed_cuts.specs.QuestionLaws.{MayName, InUnit, Nowhere, MayNameAll, TypeQuestionsStay, PairQuestionsStay, ElementQuestionsStay, QuestionsStay, AllQuestionsStay, AllQuestionsAgree}
use Rattle.closed_cuts.proofs.Keeping.{Kept, kept, chosen, through, list_any-same}
use Rattle.closed_cuts.proofs.AgreeingReads.{Lies, Good, AllGood, SameMirrors, SameReads, node-same, is_type-same}
use Rattle.closed_cuts.proofs.SameErasures.{erasure-kept}
use Rattle.closed_cuts.proofs.SameDirects.{direct-kept}
use Rattle.closed_cuts.proofs.SameSubtypes.{subtype-same, contained-same, boxed-kept, unboxed-kept, assignable-same, subsignature-same}
use Rattle.closed_cuts.proofs.SameTypesOf.{around-same, type_of-kept, text_of-same}
use Rattle.closed_cuts.proofs.SameOverriding.{member_name-same, overrides-same}
use Rattle.closed_cuts.proofs.SameMemberLists.{members-kept, elements_lie, class_lies}
use Rattle.closed_cuts.proofs.CutReads.{cut_reads}
use Rattle.closed_cuts.proofs.AgreeingCuts.{agree_reads}

judged-same : {A : Type 0} (t t' k k' : Bool) (v v' : Verdict A) → t ≡ t' → k ≡ k' → v ≡ v' → judged t k v ≡ judged t' k' v'
judged-same t t' k k' v v' e f g = rw (e, f, g) refl

left : (a b : Bool) → (a && b) ≡ true → a ≡ true
left true b e = refl
left false b e = e

holds : (b : Bool) → b ≡ true → T b
holds b e = subst T (sym e) tt

either_case : (a b : Bool) (P : Type 0) → (a || b) ≡ true → (a ≡ true → P) → (b ≡ true → P) → P
either_case true b P e f g = f refl
either_case false b P e f g = g e

module _ (one other : TypeTable) (Has : List ℕ → Type 0) (r : SameReads one other Has) where
  abbrev G : Mirror → Type 0
  G = Good one other Has

  abbrev L : ElementRef → Type 0
  L = Lies one other Has

  there_same : (at : ElementRef) → L at → is_there one at ≡ is_there other at
  there_same at l = ap (λ (o : Option Node). is_some o) (node-same one other Has r at l)

  all_there : (elements : List ElementRef) → AllByRecursion L elements → list_all (is_there one) elements ≡ list_all (is_there other) elements
  all_there [] g = refl
  all_there (at ∷ elements) g = ap₂ (λ (a : Bool) (b : Bool). a && b) (there_same at g.0) (all_there elements g.1)

  are_same : (m : Mirror) → G m → are_there one m ≡ are_there other m
  are_same m g = all_there (elements_of m) g

  both_same : (a b : Mirror) → G a → G b → (are_there one a && are_there one b) ≡ (are_there other a && are_there other b)
  both_same a b g h = ap₂ (λ (x : Bool) (y : Bool). x && y) (are_same a g) (are_same b h)

  -- ---- one type

  pub print-asked : (m : Mirror) → G m → print_question one m ≡ print_question other m
  unfolding print_question
  print-asked m g = judged-same _ _ true true _ _ (are_same m g) refl (ap (λ (t : List ℕ). Given t) (text_of-same one other Has r m g))

  pub boxed-asked : (m : Mirror) → G m → boxed_question one m ≡ boxed_question other m
  unfolding boxed_question
  boxed-asked m g =
      let e = (boxed-kept one other Has r m).equal in
      judged-same _ _ _ _ _ _ (are_same m g) (ap (λ (o : Option Mirror). is_some o) e) (ap (λ (o : Option Mirror). value o) e)

  pub unboxed-asked : (m : Mirror) → G m → unboxed_question one m ≡ unboxed_question other m
  unfolding unboxed_question
  unboxed-asked m g =
      let e = (unboxed-kept one other Has r m).equal in
      judged-same _ _ _ _ _ _ (are_same m g) (ap (λ (o : Option Mirror). is_some o) e) (ap (λ (o : Option Mirror). value o) e)

  pub direct-asked : (m : Mirror) → G m → direct_question one m ≡ direct_question other m
  unfolding direct_question
  direct-asked m g =
      judged-same _ _ (questions.is_type m) (questions.is_type m) _ _ (are_same m g) refl (ap (λ (o : Option (List Mirror)). value o) (direct-kept one other Has r m g).equal)

  pub erasure-asked : (m : Mirror) → G m → erasure_question one m ≡ erasure_question other m
  unfolding erasure_question
  erasure-asked m g =
      judged-same _ _ (not (questions.is_package (layer m))) (not (questions.is_package (layer m))) _ _ (are_same m g) refl
      (ap (λ (o : Option Mirror). value o) (erasure-kept one other Has r max_type_steps m g).equal)

  -- ---- two types

  pub same-asked : (a b : Mirror) → G a → G b → same_question one a b ≡ same_question other a b
  unfolding same_question
  same-asked a b g h = judged-same _ _ true true (Given (same a b)) (Given (same a b)) (both_same a b g h) refl refl

  pub subtype-asked : (a b : Mirror) → G a → G b → subtype_question one a b ≡ subtype_question other a b
  unfolding subtype_question
  subtype-asked a b g h =
      judged-same _ _ (are_types a b) (are_types a b) _ _ (both_same a b g h) refl (ap (λ (x : Answer). truth x) (subtype-same one other Has r max_type_steps a b g h))

  pub contains-asked : (a b : Mirror) → G a → G b → contains_question one a b ≡ contains_question other a b
  unfolding contains_question
  contains-asked a b g h =
      judged-same _ _ (are_types a b) (are_types a b) _ _ (both_same a b g h) refl (ap (λ (x : Answer). truth x) (contained-same one other Has r max_type_steps a b g h))

  pub assignable-asked : (a b : Mirror) → G a → G b → assignable_question one a b ≡ assignable_question other a b
  unfolding assignable_question
  assignable-asked a b g h =
      judged-same _ _ (are_types a b) (are_types a b) _ _ (both_same a b g h) refl (ap (λ (x : Answer). truth x) (assignable-same one other Has r max_type_steps a b g h))

  pub subsignature-asked : (a b : Mirror) → G a → G b → subsignature_question one a b ≡ subsignature_question other a b
  unfolding subsignature_question
  subsignature-asked a b g h =
      judged-same _ _ (are_executables a b) (are_executables a b) _ _ (both_same a b g h) refl (ap (λ (x : Answer). truth x) (subsignature-same one other Has r max_type_steps a b h))

  -- ---- elements

  pub type-asked : (at : ElementRef) → L at → type_question one at ≡ type_question other at
  unfolding type_question
  type-asked at l = judged-same _ _ true true _ _ (there_same at l) refl (ap (λ (m : Mirror). Given m) (type_of-kept one other Has r at l).equal)

  pub members-asked : (at : ElementRef) → L at → members_question one at ≡ members_question other at
  unfolding members_question
  members-asked at l =
      judged-same _ _ _ _ _ _ (there_same at l) (is_type-same one other Has r at l) (ap (λ (o : Option (List ElementRef)). value o) (members-kept one other Has r max_type_steps at l).equal)

  method_same : (at : ElementRef) → L at → is_method one at ≡ is_method other at
  method_same at l = ap is_method_name (member_name-same one other Has r at l)

  three_same : (a b c a' b' c' : Bool) → a ≡ a' → b ≡ b' → c ≡ c' → (a && b && c) ≡ (a' && b' && c')
  three_same a b c a' b' c' e f g = rw (e, f, g) refl

  pub overrides-asked : (m o t : ElementRef) → L m → L o → L t → overrides_question one m o t ≡ overrides_question other m o t
  unfolding overrides_question
  overrides-asked m o t k j l =
      judged-same _ _ _ _ _ _ (three_same _ _ _ _ _ _ (there_same m k) (there_same o j) (there_same t l))
      (three_same _ _ _ _ _ _ (method_same m k) (method_same o j) (is_type-same one other Has r t l))
      (ap (λ (x : Answer). truth x) (overrides-same one other Has r max_type_steps m o t k j l))

  -- ---- what is reached

  unwrap_kept : (o : Option (List Mirror)) → IfAny (AllGood one other Has) o → SameMirrors one other Has (unwrap_or o []) (unwrap_or o [])
  unwrap_kept None g = kept (AllGood one other Has) [] tt
  unwrap_kept (Some ms) g = kept (AllGood one other Has) ms g

  types_kept : (at : ElementRef) → L at → SameMirrors one other Has (types_from one at) (types_from other at)
  types_kept at l =
      let t = type_of-kept one other Has r at l in
      chosen (AllGood one other Has) (is_type one at) (is_type other at) _ _ _ _ (is_type-same one other Has r at l)
      (through (IfAny (AllGood one other Has)) (AllGood one other Has) (λ o. unwrap_or o []) (λ o. unwrap_or o []) _ _
      (through G (IfAny (AllGood one other Has)) (direct one) (direct other) _ _ t (direct-kept one other Has r)) unwrap_kept)
      (kept (AllGood one other Has) [] tt)

  pub steps-kept : (at : ElementRef) → L at → Kept (AllByRecursion L) (steps_from one at) (steps_from other at)
  unfolding steps_from
  steps-kept at l =
      let k = types_kept at l in
      record { equal = ap class_elements k.equal; good = elements_lie one other Has r (types_from one at) k.good }

  pub reached-same : (n : ℕ) (from to : ElementRef) → L from → reached_within one n from to ≡ reached_within other n from to
  unfolding reached_within
  reached-same zero from to l = refl
  reached-same (suc n) from to l =
      let k = steps-kept from l in
      ap (λ (b : Bool). same_element from to || b)
      (list_any-same L (λ next. reached_within one n next to) (λ next. reached_within other n next to) (λ next k. reached-same n next to k) (steps_from one from) k.good
      ∙ ap (λ (xs : List ElementRef). list_any (λ next. reached_within other n next to) xs) k.equal)

  -- what is reached lies there

  lies_as : (from to : ElementRef) → L from → same_element from to ≡ true → L to
  lies_as from to l e = subst Has (same_as from.unit to.unit (holds (bytes_eq from.unit to.unit) (left (bytes_eq from.unit to.unit) (bytes_eq from.path to.path) e))) l

  any_lies : (test : ElementRef → Bool) (to : ElementRef) → ((next : ElementRef) → L next → test next ≡ true → L to) → (list : List ElementRef) → AllByRecursion L list → list_any test list ≡ true → L to
  any_lies test to step [] g e = absurd (cc)
  any_lies test to step (x ∷ list) g e = either_case (test x) (list_any test list) (L to) e (step x g.0) (any_lies test to step list g.1)

  reached_lies : (n : ℕ) (from to : ElementRef) → L from → reached_within one n from to ≡ true → L to
  unfolding reached_within
  reached_lies zero from to l e = lies_as from to l e
  reached_lies (suc n) from to l e =
      either_case (same_element from to) (list_any (λ next. reached_within one n next to) (steps_from one from)) (L to) e (lies_as from to l)
      (any_lies (λ next. reached_within one n next to) to (λ next k. reached_lies n next to k) (steps_from one from) (steps-kept from l).good)

  -- ---- members in a type

  in_type_same : (at : ElementRef) → L at → L (around_of one at) → is_in_type one at ≡ is_in_type other at
  in_type_same at l a =
      ap₂ (λ (x : Bool) (y : Bool). not x && y) (ap is_type_parameter (node-same one other Has r at l))
      (is_type-same one other Has r (around_of one at) a ∙ ap (is_type other) (around-same one other Has r at l))

  element_lies : (o : Option ElementRef) → IfAny L o → (to : ElementRef) → IsReachedFrom one o to → IsReachedFrom other o to
  element_lies None g to h = h
  element_lies (Some from) g to h = (h.0, subst IsTrue (reached-same h.0 from to g) h.1)

  element_lies_back : (o : Option ElementRef) → IfAny L o → (to : ElementRef) → IsReachedFrom other o to → IsReachedFrom one o to
  element_lies_back None g to h = h
  element_lies_back (Some from) g to h = (h.0, subst IsTrue (sym (reached-same h.0 from to g)) h.1)

  there_both : (container : Mirror) (at : ElementRef) → G container → L at → both_there one container at ≡ both_there other container at
  there_both container at w l = ap₂ (λ (x : Bool) (y : Bool). x && y) (are_same container w) (there_same at l)

  pub member-asked : (container : Mirror) (at : ElementRef) → G container → L at → L (around_of one at) → IsMember one container at → IsMember other container at
  member-asked container at w l a m = record {
    there = sym (there_both container at w l) ∙ m.there;
    kinds = (
      sym (in_type_same at l a) ∙ m.kinds.0,
      subst (IsReachedFrom other (class_element container)) (around-same one other Has r at l)
          (element_lies (class_element container) (class_lies one other Has r container w) (around_of one at) m.kinds.1),
    );
  }

  pub member-asked-back : (container : Mirror) (at : ElementRef) → G container → L at → L (around_of one at) → IsMember other container at → IsMember one container at
  member-asked-back container at w l a m = record {
    there = there_both container at w l ∙ m.there;
    kinds = (
      in_type_same at l a ∙ m.kinds.0,
      element_lies_back (class_element container) (class_lies one other Has r container w) (around_of one at)
          (subst (IsReachedFrom other (class_element container)) (sym (around-same one other Has r at l)) m.kinds.1),
    );
  }

-- ---- also of names that are nowhere

nowhere : (table : TypeTable) (at : ElementRef) → unit_of table at.unit ≡ None → info_package at.unit ≡ None → node_at table at ≡ None
unfolding node_at
nowhere table at e p =
    ap (λ (o : Option UnitText). node_from table o at.unit at.path) e ∙ ap (λ (o : Option (List ℕ)). option_and_then (λ «package». down at.path (OfPackage None)) (typed_package table o)) p

first : (a b : Bool) → (a && b) ≡ true → a ≡ true
first true b e = refl
first false b e = e

second : (a b : Bool) → (a && b) ≡ true → b ≡ true
second true b e = e
second false b e = absurd (cc)

-- a question whose elements are not all there comes to that
asked : {A : Type 0} (b t t' k k' : Bool) (v v' : Verdict A) → t ≡ b → t ≡ t' → (b ≡ true → judged t k v ≡ judged t' k' v') → judged t k v ≡ judged t' k' v'
asked true t t' k k' v v' e f to = to refl
asked false t t' k k' v v' e f to = rw (sym f ∙ e, e) refl

module _ (one other : TypeTable) (Has : List ℕ → Type 0) (r : SameReads one other Has) where
  abbrev Gm : Mirror → Type 0
  Gm = Good one other Has

  abbrev Le : ElementRef → Type 0
  Le = Lies one other Has

  abbrev M : ElementRef → Type 0
  M = MayName one other Has

  abbrev Ms : Mirror → Type 0
  Ms = MayNameAll one other Has

  there_ask : (at : ElementRef) → M at → is_there one at ≡ is_there other at
  there_ask at (InUnit l) = ap (λ (o : Option Node). is_some o) (node-same one other Has r at l)
  there_ask at (Nowhere e f p) = ap (λ (o : Option Node). is_some o) (nowhere one at e p ∙ sym (nowhere other at f p))

  lies_ask : (at : ElementRef) → M at → is_there one at ≡ true → Le at
  lies_ask at (InUnit l) t = l
  lies_ask at (Nowhere e f p) t = absurd (true_not (ap (λ (o : Option Node). is_some o) (sym (nowhere one at e p)) ∙ t))
    where
      true_not : false ≡ true → ⊥
      true_not e = absurd (cc)

  all_ask : (elements : List ElementRef) → AllByRecursion M elements → list_all (is_there one) elements ≡ list_all (is_there other) elements
  all_ask [] g = refl
  all_ask (at ∷ elements) g = ap₂ (λ (a : Bool) (b : Bool). a && b) (there_ask at g.0) (all_ask elements g.1)

  all_lie : (elements : List ElementRef) → AllByRecursion M elements → list_all (is_there one) elements ≡ true → AllByRecursion Le elements
  all_lie [] g t = tt
  all_lie (at ∷ elements) g t = (
    lies_ask at g.0 (first (is_there one at) (list_all (is_there one) elements) t),
    all_lie elements g.1 (second (is_there one at) (list_all (is_there one) elements) t),
  )

  are_ask : (m : Mirror) → Ms m → are_there one m ≡ are_there other m
  are_ask m g = all_ask (elements_of m) g

  within : (m : Mirror) → Ms m → are_there one m ≡ true → Gm m
  within m g t = all_lie (elements_of m) g t

  both_ask : (a b : Mirror) → Ms a → Ms b → (are_there one a && are_there one b) ≡ (are_there other a && are_there other b)
  both_ask a b g h = ap₂ (λ (x : Bool) (y : Bool). x && y) (are_ask a g) (are_ask b h)

  -- a question on one type, and on two
  of_type : {A : Type 0} (m : Mirror) → Ms m → (k k' : Bool) (v v' : Verdict A) → (Gm m → judged (are_there one m) k v ≡ judged (are_there other m) k' v')
      → judged (are_there one m) k v ≡ judged (are_there other m) k' v'
  of_type m g k k' v v' to = asked (are_there one m) (are_there one m) (are_there other m) k k' v v' refl (are_ask m g) (λ e. to (within m g e))

  of_pair : {A : Type 0} (a b : Mirror) → Ms a → Ms b → (k k' : Bool) (v v' : Verdict A)
      → (Gm a → Gm b → judged (are_there one a && are_there one b) k v ≡ judged (are_there other a && are_there other b) k' v')
      → judged (are_there one a && are_there one b) k v ≡ judged (are_there other a && are_there other b) k' v'
  of_pair a b g h k k' v v' to =
      asked (are_there one a && are_there one b) (are_there one a && are_there one b) (are_there other a && are_there other b) k k' v v' refl (both_ask a b g h) (λ e.
      to (within a g (first (are_there one a) (are_there one b) e)) (within b h (second (are_there one a) (are_there one b) e)))

  types_by : (m : Mirror) → Ms m → TypeQuestionsStay one other Has m
  unfolding print_question boxed_question unboxed_question direct_question erasure_question
  types_by m g = record {
    print = of_type m g _ _ _ _ (print-asked one other Has r m);
    boxed = of_type m g _ _ _ _ (boxed-asked one other Has r m);
    unboxed = of_type m g _ _ _ _ (unboxed-asked one other Has r m);
    direct = of_type m g _ _ _ _ (direct-asked one other Has r m);
    erasure = of_type m g _ _ _ _ (erasure-asked one other Has r m);
  }

  pairs_by : (a b : Mirror) → Ms a → Ms b → PairQuestionsStay one other Has a b
  unfolding same_question subtype_question contains_question assignable_question subsignature_question
  pairs_by a b g h = record {
    same = of_pair a b g h _ _ _ _ (same-asked one other Has r a b);
    subtype = of_pair a b g h _ _ _ _ (subtype-asked one other Has r a b);
    contains = of_pair a b g h _ _ _ _ (contains-asked one other Has r a b);
    assignable = of_pair a b g h _ _ _ _ (assignable-asked one other Has r a b);
    subsignature = of_pair a b g h _ _ _ _ (subsignature-asked one other Has r a b);
  }

  of_element : {A : Type 0} (at : ElementRef) → M at → (k k' : Bool) (v v' : Verdict A) → (Le at → judged (is_there one at) k v ≡ judged (is_there other at) k' v')
      → judged (is_there one at) k v ≡ judged (is_there other at) k' v'
  of_element at g k k' v v' to = asked (is_there one at) (is_there one at) (is_there other at) k k' v v' refl (there_ask at g) (λ e. to (lies_ask at g e))

  elements_by : (at : ElementRef) → M at → ElementQuestionsStay one other Has at
  unfolding type_question members_question
  elements_by at g = record {
    type_of = of_element at g _ _ _ _ (type-asked one other Has r at);
    members = of_element at g _ _ _ _ (members-asked one other Has r at);
  }

  overrides_by : (m o t : ElementRef) → M m → M o → M t → overrides_question one m o t ≡ overrides_question other m o t
  unfolding overrides_question
  overrides_by m o t g h i =
      asked (are_elements_there one m o t) (are_elements_there one m o t) (are_elements_there other m o t) _ _ _ _ refl
      (three_are _ _ _ _ _ _ (there_ask m g) (there_ask o h) (there_ask t i)) (λ e.
      overrides-asked one other Has r m o t
      (lies_ask m g (first (is_there one m) (is_there one o) (first (is_there one m && is_there one o) (is_there one t) e)))
      (lies_ask o h (second (is_there one m) (is_there one o) (first (is_there one m && is_there one o) (is_there one t) e)))
      (lies_ask t i (second (is_there one m && is_there one o) (is_there one t) e)))
    where
      three_are : (a b c a' b' c' : Bool) → a ≡ a' → b ≡ b' → c ≡ c' → (a && b && c) ≡ (a' && b' && c')
      three_are a b c a' b' c' e f g = rw (e, f, g) refl

  -- what is around a member is reached, so that it lies there
  from_lies : (o : Option ElementRef) → IfAny Le o → (to : ElementRef) → IsReachedFrom one o to → Le to
  from_lies None g to h = absurd h
  from_lies (Some from) g to h = reached_lies one other Has r h.0 from to g h.1

  from_lies_back : (o : Option ElementRef) → IfAny Le o → (to : ElementRef) → IsReachedFrom other o to → Le to
  from_lies_back None g to h = absurd h
  from_lies_back (Some from) g to h = reached_lies one other Has r h.0 from to g (reached-same one other Has r h.0 from to g ∙ h.1)

  member_by : (container : Mirror) (at : ElementRef) → Ms container → M at → IsMember one container at → IsMember other container at
  member_by container at w g m =
      let k = within container w (first (are_there one container) (is_there one at) m.there) in
      let l = lies_ask at g (second (are_there one container) (is_there one at) m.there) in
      member-asked one other Has r container at k l (from_lies (class_element container) (class_lies one other Has r container k) (around_of one at) m.kinds.1) m

  member_back : (container : Mirror) (at : ElementRef) → Ms container → M at → IsMember other container at → IsMember one container at
  member_back container at w g m =
      let k = within container w (are_ask container w ∙ first (are_there other container) (is_there other at) m.there) in
      let l = lies_ask at g (there_ask at g ∙ second (are_there other container) (is_there other at) m.there) in
      let around = from_lies_back (class_element container) (class_lies one other Has r container k) (around_of other at) m.kinds.1 in
      member-asked-back one other Has r container at k l (subst Le (sym (around-same one other Has r at l)) around) m

  -- from what is nowhere nothing but itself is reached
  none_types : (table : TypeTable) (at : ElementRef) → unit_of table at.unit ≡ None → types_from table at ≡ []
  none_types table at e = ap (λ (o : Option UnitText). cond (is_type_in o at.path) (unwrap_or (direct table (type_of table at)) []) []) e

  none_steps : (table : TypeTable) (at : ElementRef) → unit_of table at.unit ≡ None → steps_from table at ≡ []
  unfolding steps_from
  none_steps table at e = ap class_elements (none_types table at e)

  none_reached : (n : ℕ) (from to : ElementRef) → unit_of one from.unit ≡ None → unit_of other from.unit ≡ None → reached_within one n from to ≡ reached_within other n from to
  unfolding reached_within
  none_reached zero from to e f = refl
  none_reached (suc n) from to e f =
      ap (λ (xs : List ElementRef). same_element from to || list_any (λ next. reached_within one n next to) xs) (none_steps one from e)
      ∙ ap (λ (xs : List ElementRef). same_element from to || list_any (λ next. reached_within other n next to) xs) (sym (none_steps other from f))

  reached_ask : (n : ℕ) (from to : ElementRef) → M from → reached_within one n from to ≡ reached_within other n from to
  reached_ask n from to (InUnit l) = reached-same one other Has r n from to l
  reached_ask n from to (Nowhere e f p) = none_reached n from to e f

  questions-by : QuestionsStay one other Has
  questions-by = record {
    types = types_by;
    pairs = pairs_by;
    elements = elements_by;
    overrides = overrides_by;
    reached_lie = λ from to l h. reached_lies one other Has r h.0 from to l h.1;
    reached = λ from to g h. (h.0, subst IsTrue (reached_ask h.0 from to g) h.1);
    reached_back = λ from to g h. (h.0, subst IsTrue (sym (reached_ask h.0 from to g)) h.1);
    is_member = member_by;
    is_member_back = member_back;
  }

pub questions-stay : AllQuestionsStay
questions-stay table names rooted = questions-by table (cut table names) (HasUnit (cut table names)) (cut_reads table names rooted)

pub questions-agree : AllQuestionsAgree
questions-agree one other names same = questions-by one other (HasUnit (cut one names)) (agree_reads one other names same)
