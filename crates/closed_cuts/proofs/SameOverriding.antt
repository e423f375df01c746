-- Whether a method overrides another one in a type is the same over two tables that agree on what it reads.
use Rattle.std.proofs.Common.{◌≡◌, ℕ, Bool, true, false, not, ◌&&◌, ◌||◌, List, Option, None, Some, refl, ap, ap₂, ◌∙◌}
use Rattle.apt_base.specs.declared.element.ElementRef.{ElementRef}
use Rattle.decl_elements.specs.Modifiers as modifier
use Rattle.decl_elements.specs.Nodes.{Node, OfPackage, Top, Inside, OfTypeParam, OfParam, DefaultConstructor, Values, ValueOf, ValueOfName}
use Rattle.element_table.specs.TypeTable.{TypeTable}
use Rattle.element_table.specs.TableElements.{node_at}
use Rattle.type_mirror.specs.declared.mirror.Mirror.{Mirror}
use Rattle.apt_base.specs.Elements.{same_element}
use Rattle.type_levels.specs.declared.answer.Answer.{Answer}
use Rattle.type_levels.specs.declared.answer.Answer.TheVariants.{Yes}
use Rattle.type_levels.specs.Answers.{of_test, both}
use Rattle.type_levels.specs.Steps.{Decided, sub_within}
use Rattle.type_relations.specs.Closed.{both_closed}
use Rattle.type_relations.specs.Elements.{around_of}
use Rattle.type_elements.specs.MemberElements.{MemberName, FieldName, TypeName, MethodName, OfConstructor, NoName, node_name, name_in, member_name, same_method_name, are_namesakes, is_static, is_private, package_in, package_name, package_allows, class_element, same_class}
use Rattle.type_elements.specs.TypeOf.{type_of}
use Rattle.type_members.specs.MemberOf.{member_of}
use Rattle.type_overriding.specs.ByElements.{next_by_elements, is_below}
use Rattle.type_overriding.specs.Overrides.{is_inside_interface, is_of_interface, may_override, signatures, has_subsignature, is_below_both, overrides}
use Rattle.closed_cuts.specs.Kept.{IfAny}
use Rattle.closed_cuts.proofs.Keeping.{Kept, kept, chosen}
use Rattle.closed_cuts.proofs.AgreeingReads.{Lies, Good, SameReads, node-same, unit-same}
use Rattle.closed_cuts.proofs.SameErasures.{SameOption}
use Rattle.closed_cuts.proofs.SameSteps.{GoodNext, within-same}
use Rattle.closed_cuts.proofs.SameSubtypes.{next-kept, subsignature-same}
use Rattle.closed_cuts.proofs.SameTypesOf.{IsInner, around-same, inner-lies, type_of-kept}
use Rattle.closed_cuts.proofs.SameMembersOf.{modifier-same, member_of-kept}

-- ---- what has the name of a method stands within a type

abbrev IsMethodName : MemberName → Type 0
IsMethodName (MethodName name) = Unit {0}
IsMethodName (FieldName name) = ⊥
IsMethodName (TypeName name) = ⊥
IsMethodName OfConstructor = ⊥
IsMethodName NoName = ⊥

inner_node : (node : Node) → IsMethodName (node_name node) → IsInner node
inner_node (OfPackage info) m = m
inner_node (Top d) m = m
inner_node (Inside kind member) m = tt
inner_node (OfTypeParam parameter) m = m
inner_node (OfParam parameter) m = m
inner_node (DefaultConstructor around d) m = m
inner_node Values m = tt
inner_node ValueOf m = tt
inner_node ValueOfName m = absurd m

names_of_methods : (x y : MemberName) → same_method_name x y ≡ true → IsMethodName x × IsMethodName y
names_of_methods (MethodName x) (MethodName y) e = (tt, tt)
names_of_methods (MethodName x) (FieldName y) e = absurd (cc)
names_of_methods (MethodName x) (TypeName y) e = absurd (cc)
names_of_methods (MethodName x) OfConstructor e = absurd (cc)
names_of_methods (MethodName x) NoName e = absurd (cc)
names_of_methods (FieldName x) y e = absurd (cc)
names_of_methods (TypeName x) y e = absurd (cc)
names_of_methods OfConstructor y e = absurd (cc)
names_of_methods NoName y e = absurd (cc)

first_of_six : (a b c d e f : Bool) → (a && b && c && d && e && f) ≡ true → a ≡ true
first_of_six true b c d e f h = refl
first_of_six false b c d e f h = h

right : (a b : Bool) → (a && b) ≡ true → b ≡ true
right true b e = e
right false b e = absurd (cc)

module _ (one other : TypeTable) (Has : List ℕ → Type 0) (r : SameReads one other Has) where
  abbrev G : Mirror → Type 0
  G = Good one other Has

  abbrev L : ElementRef → Type 0
  L = Lies one other Has

  abbrev Options : Option Mirror → Option Mirror → Type 0
  Options = SameOption one other Has r

  pub member_name-same : (at : ElementRef) → L at → member_name one at ≡ member_name other at
  unfolding member_name
  member_name-same at l = ap name_in (node-same one other Has r at l)

  pub namesakes-same : (m o : ElementRef) → L m → L o → are_namesakes one m o ≡ are_namesakes other m o
  namesakes-same m o l k = rw (member_name-same m l, member_name-same o k) refl

  package_same : (at : ElementRef) → L at → package_name one at ≡ package_name other at
  package_same at l = ap package_in (unit-same one other Has r at l)

  pub allows-same : (m o : ElementRef) → L m → L o → package_allows one m o ≡ package_allows other m o
  allows-same m o l k = rw (modifier-same one other Has r modifier.is_access o k, package_same m l, package_same o k) refl

  of_interface_same : (at : ElementRef) → L at → is_of_interface one at ≡ is_of_interface other at
  of_interface_same at l = ap is_inside_interface (node-same one other Has r at l)

  pub static-same : (at : ElementRef) → L at → is_static one at ≡ is_static other at
  static-same = modifier-same one other Has r modifier.is_static

  pub private-same : (at : ElementRef) → L at → is_private one at ≡ is_private other at
  private-same = modifier-same one other Has r modifier.is_private

  may_same : (m o : ElementRef) → L m → L o → may_override one m o ≡ may_override other m o
  may_same m o l k =
      rw (namesakes-same m o l k, static-same m l, static-same o k, private-same o k, allows-same m o l k, of_interface_same m l, of_interface_same o k) refl

  -- ---- below by elements

  element_same : (a b : Mirror) → G a → G b → Kept (GoodNext G) (next_by_elements one a b) (next_by_elements other a b)
  unfolding next_by_elements
  element_same a b g h =
      chosen (GoodNext G) (same_class (class_element a) (class_element b)) (same_class (class_element a) (class_element b)) _ _ _ _ refl
      (kept (GoodNext G) (Decided Yes) tt) (next-kept one other Has r a b g h)

  below_types : (n : ℕ) (a a' b b' : Mirror) → a ≡ a' → b ≡ b' → G a → G b → sub_within (next_by_elements one) n a b ≡ sub_within (next_by_elements other) n a' b'
  below_types n a a' b b' e f g h =
      within-same G (next_by_elements one) (next_by_elements other) element_same n a b g h
      ∙ ap₂ (λ (x : Mirror) (y : Mirror). sub_within (next_by_elements other) n x y) e f

  below_same : (n : ℕ) (t around around' : ElementRef) → L t → around ≡ around' → L around → is_below one n t around ≡ is_below other n t around'
  below_same n t around around' l e a =
      let k = type_of-kept one other Has r t l in
      let m = type_of-kept one other Has r around a in
      below_types n _ _ _ _ k.equal m.equal k.good m.good ∙ ap (is_below other n t) e

  -- ---- signatures

  signatures_same : (n : ℕ) (a a' b b' : Option Mirror) → Options a a' → Options b b' → signatures one n (both_closed a b) ≡ signatures other n (both_closed a' b')
  signatures_same n a a' b b' k l =
      at a b k.good l.good ∙ ap₂ (λ (x : Option Mirror) (y : Option Mirror). signatures other n (both_closed x y)) k.equal l.equal
    where
      at : (a b : Option Mirror) → IfAny G a → IfAny G b → signatures one n (both_closed a b) ≡ signatures other n (both_closed a b)
      at None b g h = refl
      at (Some a) None g h = refl
      at (Some a) (Some b) g h = subsignature-same one other Has r n a b h

  member_kept : (n : ℕ) (t m : ElementRef) → L t → L m → Options (member_of one n (type_of one t) m) (member_of other n (type_of other t) m)
  member_kept n t m l k =
      let u = type_of-kept one other Has r t l in
      let w = member_of-kept one other Has r n (type_of one t) u.good m k in
      record { equal = w.equal ∙ ap (λ (x : Mirror). member_of other n x m) u.equal; good = w.good }

  pub has_subsignature-same : (n : ℕ) (t m o : ElementRef) → L t → L m → L o → has_subsignature one n t m o ≡ has_subsignature other n t m o
  has_subsignature-same n t m o l k j = signatures_same n _ _ _ _ (member_kept n t m l k) (member_kept n t o l j)

  -- ---- overriding

  -- a method stands within a type, so that what is around it lies there too
  method_lies : (at : ElementRef) → L at → (o : Option Node) → node_at one at ≡ o → IsMethodName (name_in o) → L (around_of one at)
  method_lies at l None e i = absurd i
  method_lies at l (Some node) e i = inner-lies one other Has r at l node e (inner_node node i)

  methods_lie : (m o : ElementRef) → L m → L o → may_override one m o ≡ true → L (around_of one m) × L (around_of one o)
  unfolding member_name
  methods_lie m o l k e =
      let namesakes =
      first_of_six (are_namesakes one m o) (not (is_static one m)) (not (is_static one o)) (not (is_private one o)) (package_allows one m o)
      (not (is_of_interface one m) || is_of_interface one o) e
      in
      let methods = names_of_methods (member_name one m) (member_name one o) (right (not (same_element m o)) (same_method_name (member_name one m) (member_name one o)) namesakes) in
      (method_lies m l (node_at one m) refl methods.0, method_lies o k (node_at one o) refl methods.1)

  below_both_same : (n : ℕ) (t m o : ElementRef) → L t → L m → L o → L (around_of one m) × L (around_of one o) → is_below_both one n t m o ≡ is_below_both other n t m o
  below_both_same n t m o l k j a =
      ap₂ (λ (x : Answer) (y : Answer). both x y) (below_same n t _ _ l (around-same one other Has r m k) a.0) (below_same n t _ _ l (around-same one other Has r o j) a.1)

  overrides_by : (b : Bool) (x x' : Answer) → (b ≡ true → x ≡ x') → both (of_test b) x ≡ both (of_test b) x'
  overrides_by true x x' e = e refl
  overrides_by false x x' e = refl

  pub overrides-same : (n : ℕ) (m o t : ElementRef) → L m → L o → L t → overrides one n m o t ≡ overrides other n m o t
  unfolding overrides
  overrides-same n m o t k j l =
      overrides_by (may_override one m o) _ _ (λ e.
      ap₂ (λ (x : Answer) (y : Answer). both x y) (below_both_same n t m o l k j (methods_lie m o k j e)) (has_subsignature-same n t m o l k j))
      ∙ ap (λ (b : Bool). both (of_test b) (both (is_below_both other n t m o) (has_subsignature other n t m o))) (may_same m o k j)
