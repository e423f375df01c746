-- The members of a type are the same over two tables that agree on what they read.
use Rattle.std.proofs.Common.{◌≡◌, ℕ, zero, suc, ◌-◌, Bool, not, ◌&&◌, ◌||◌, List, [], ◌∷◌, ◌++◌, map, fold, length, unwrap_or, Option, None, Some, refl, ap, ap₂}
use Rattle.std.specs.List.{AllByRecursion, range_with_len}
use Rattle.std.specs.Option.{option_map, option_and_then}
use Rattle.apt_base.specs.declared.element.ElementRef.{ElementRef}
use Rattle.decl_elements.specs.Nodes.{Node, children}
use Rattle.element_table.specs.TypeTable.{TypeTable}
use Rattle.element_table.specs.TableElements.{node_at, children_at}
use Rattle.type_mirror.specs.declared.mirror.Mirror.{Mirror}
use Rattle.type_layers.specs.Layers.{Layer, Primitive, Declared, Error, Variable, Array, Unbounded, Extends, Super, Executable, Nothing, Void, Null, Package, layer}
use Rattle.type_levels.specs.declared.answer.Answer.{Answer}
use Rattle.type_levels.specs.declared.answer.Answer.TheVariants.{Yes, Open, No}
use Rattle.type_levels.specs.Answers.{of_test, either, both}
use Rattle.apt_base.specs.Limits.{max_type_steps}
use Rattle.type_relations.specs.Elements.{parameters_of}
use Rattle.type_relations.specs.Named.{header_types}
use Rattle.type_elements.specs.MemberElements.{MemberName, is_constructor_name, is_constructor, children_from, enclosed, element_in, class_element, class_elements}
use Rattle.type_listing.specs.Members.{is_inherited, hides_by_name, hides_method, displaces, is_among, is_displaced, unless_displaced, with_member, with_members, with_supertype, super_elements, members_over, members}
use Rattle.decl_elements.proofs.Everywhere.{each_append}
use Rattle.closed_cuts.specs.Kept.{IfAny}
use Rattle.closed_cuts.proofs.Keeping.{Kept, kept, by_equal, chosen, through, map-kept, and_then-kept, cons_option-good}
use Rattle.closed_cuts.proofs.PartsWithin.{LayerWithin, opened}
use Rattle.closed_cuts.proofs.AgreeingReads.{Lies, Good, AllGood, SameReads, node-same, children-lie, header-kept}
use Rattle.closed_cuts.proofs.SameOverriding.{member_name-same, namesakes-same, allows-same, static-same, private-same, has_subsignature-same, overrides-same}

module _ (one other : TypeTable) (Has : List ℕ → Type 0) (r : SameReads one other Has) where
  abbrev G : Mirror → Type 0
  G = Good one other Has

  abbrev L : ElementRef → Type 0
  L = Lies one other Has

  abbrev Ls : List ElementRef → Type 0
  Ls = AllByRecursion L

  -- two lists of elements that may be open
  abbrev pub SameElements : Option (List ElementRef) → Option (List ElementRef) → Type 0
  SameElements = Kept (IfAny Ls)

  -- ---- which are inherited, hidden and overridden

  constructor_same : (at : ElementRef) → L at → is_constructor one at ≡ is_constructor other at
  constructor_same at l = ap is_constructor_name (member_name-same one other Has r at l)

  inherited_same : (t c : ElementRef) → L t → L c → is_inherited one t c ≡ is_inherited other t c
  inherited_same t c l k = rw (constructor_same c k, private-same one other Has r c k, allows-same one other Has r t c l k) refl

  hides_same : (t m c : ElementRef) → L t → L m → L c → hides_method one t m c ≡ hides_method other t m c
  hides_same t m c l k j =
      ap₂ (λ (b : Bool) (a : Answer). both (of_test b) a)
      (ap₂ (λ (a : Bool) (b : Bool). a && b) (static-same one other Has r m k) (namesakes-same one other Has r m c k j)) (has_subsignature-same one other Has r max_type_steps t m c l k j)

  displaces_same : (t m c : ElementRef) → L t → L m → L c → displaces one t m c ≡ displaces other t m c
  unfolding displaces
  displaces_same t m c l k j =
      ap₂ (λ (x : Answer) (y : Answer). either x y)
      (ap₂ (λ (x : MemberName) (y : MemberName). of_test (hides_by_name x y)) (member_name-same one other Has r m k) (member_name-same one other Has r c j))
      (ap₂ (λ (x : Answer) (y : Answer). either x y) (hides_same t m c l k j) (overrides-same one other Has r max_type_steps m c t k j l))

  displaced_same : (t : ElementRef) → L t → (c : ElementRef) → L c → (list : List ElementRef) → Ls list → is_displaced one t list c ≡ is_displaced other t list c
  displaced_same t l c k [] g = refl
  displaced_same t l c k (m ∷ list) g = ap₂ (λ (x : Answer) (y : Answer). either x y) (displaces_same t m c l g.0 k) (displaced_same t l c k list g.1)

  -- ---- lists

  unless_kept : (a : Answer) (list : List ElementRef) (c : ElementRef) → Ls list → L c → SameElements (unless_displaced a list c) (unless_displaced a list c)
  unless_kept Yes list c g l = kept (IfAny Ls) (Some list) g
  unless_kept Open list c g l = kept (IfAny Ls) None tt
  unless_kept No list c g l = kept (IfAny Ls) (Some (list ++ c ∷ [])) (each_append L list (c ∷ []) g (l, tt))

  member_kept : (t : ElementRef) → L t → (list : List ElementRef) → Ls list → (c : ElementRef) → L c → SameElements (with_member one t list c) (with_member other t list c)
  unfolding with_member
  member_kept t l list g c k =
      chosen (IfAny Ls) (is_among list c || not (is_inherited one t c)) (is_among list c || not (is_inherited other t c)) _ _ _ _
      (ap (λ (b : Bool). is_among list c || not b) (inherited_same t c l k))
      (kept (IfAny Ls) (Some list) g)
      (by_equal (IfAny Ls) (λ (a : Answer). unless_displaced a list c) (λ (a : Answer). unless_displaced a list c) (is_displaced one t list c) (is_displaced other t list c)
      (displaced_same t l c k list g) (unless_kept (is_displaced one t list c) list c g k))

  members_kept : (t : ElementRef) → L t → (others : List ElementRef) → Ls others → (list : List ElementRef) → Ls list → SameElements (with_members one t list others) (with_members other t list others)
  members_kept t l [] h list g = kept (IfAny Ls) (Some list) g
  members_kept t l (c ∷ others) h list g =
      through (IfAny Ls) (IfAny Ls) (option_and_then (λ more. with_members one t more others)) (option_and_then (λ more. with_members other t more others))
      (with_member one t list c) (with_member other t list c) (member_kept t l list g c h.0)
      (and_then-kept Ls Ls (λ more. with_members one t more others) (λ more. with_members other t more others) (members_kept t l others h.1))

  supertype_kept : (t : ElementRef) → L t → (o : Option (List ElementRef)) → IfAny Ls o → (others : Option (List ElementRef)) → IfAny Ls others
      → SameElements (with_supertype one t o others) (with_supertype other t o others)
  supertype_kept t l o g others h =
      and_then-kept Ls Ls (λ so_far. option_and_then (with_members one t so_far) others) (λ so_far. option_and_then (with_members other t so_far) others) (λ list i.
      and_then-kept Ls Ls (with_members one t list) (with_members other t list) (λ more j. members_kept t l more j list i) others h) o g

  fold_kept : (t : ElementRef) → L t → (xs : List (Option (List ElementRef))) → AllByRecursion (IfAny Ls) xs → (o o' : Option (List ElementRef)) → SameElements o o'
      → SameElements (fold (with_supertype one t) o xs) (fold (with_supertype other t) o' xs)
  fold_kept t l [] g o o' k = k
  fold_kept t l (x ∷ xs) g o o' k =
      fold_kept t l xs g.1 _ _
      (through (IfAny Ls) (IfAny Ls) (λ o. with_supertype one t o x) (λ o. with_supertype other t o x) o o' k (λ o h. supertype_kept t l o h x g.0))

  -- ---- members

  enclosed_kept : (at : ElementRef) → L at → Kept Ls (enclosed one at) (enclosed other at)
  unfolding enclosed
  enclosed_kept at l = record {
    equal = ap (λ (o : Option Node). children_from at (length (parameters_of o)) (unwrap_or (option_map (λ node. length (children node)) o) 0)) (node-same one other Has r at l);
    good = children-lie one other Has r at l (range_with_len (length (parameters_of (node_at one at))) (unwrap_or (children_at one at) 0 - length (parameters_of (node_at one at))));
  }

  element_lies : (l : Layer Mirror) → LayerWithin L l → IfAny L (element_in l)
  element_lies (Declared at enclosing arguments) w = w.0
  element_lies (Primitive kind) w = tt
  element_lies (Error text) w = tt
  element_lies (Variable at) w = tt
  element_lies (Array item) w = tt
  element_lies Unbounded w = tt
  element_lies (Extends bound) w = tt
  element_lies (Super bound) w = tt
  element_lies (Executable variables parameters outcome thrown) w = tt
  element_lies Nothing w = tt
  element_lies Void w = tt
  element_lies Null w = tt
  element_lies (Package name) w = tt

  pub class_lies : (m : Mirror) → G m → IfAny L (class_element m)
  class_lies m g = element_lies (layer m) (opened L m g)

  pub elements_lie : (ms : List Mirror) → AllGood one other Has ms → Ls (class_elements ms)
  elements_lie [] g = tt
  elements_lie (m ∷ ms) g = cons_option-good L (class_element m) (element_lies (layer m) (opened L m g.0)) (class_elements ms) (elements_lie ms g.1)

  supers_kept : (at : ElementRef) → L at → Kept Ls (super_elements one at) (super_elements other at)
  supers_kept at l =
      let k = header-kept one other Has r at l in
      record { equal = ap class_elements k.equal; good = elements_lie (header_types one at) k.good }

  over_kept : (h h' : ElementRef → Option (List ElementRef)) → ((at : ElementRef) → L at → SameElements (h at) (h' at)) → (at : ElementRef) → L at
      → SameElements (members_over one h at) (members_over other h' at)
  over_kept h h' hs at l =
      let e = enclosed_kept at l in
      let supers = through Ls (AllByRecursion (IfAny Ls)) (map h) (map h') _ _ (supers_kept at l) (map-kept L (IfAny Ls) h h' hs) in
      let own : SameElements (Some (enclosed one at)) (Some (enclosed other at)) = record { equal = ap (λ (xs : List ElementRef). Some xs) e.equal; good = e.good } in
      through (AllByRecursion (IfAny Ls)) (IfAny Ls) (fold (with_supertype one at) (Some (enclosed one at))) (fold (with_supertype other at) (Some (enclosed other at)))
      (map h (super_elements one at)) (map h' (super_elements other at)) supers (λ xs g.
      fold_kept at l xs g _ _ own)

  pub members-kept : (n : ℕ) (at : ElementRef) → L at → SameElements (members one n at) (members other n at)
  unfolding members
  members-kept zero at l = over_kept (λ super. None) (λ super. None) (λ super k. kept (IfAny Ls) None tt) at l
  members-kept (suc n) at l = over_kept (members one n) (members other n) (members-kept n) at l
