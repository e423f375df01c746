-- What a processor finds among the annotations of a root is present on it.
use Rattle.std.proofs.Common.{◌≡◌, ℕ, zero, suc, Bool, true, false, ◌&&◌, ◌||◌, List, [], ◌∷◌, ◌++◌, map, filter, Option, None, Some, IfSome, refl, sym, ap, ◌∙◌, subst, append-nil, arith}
use Rattle.std.specs.Prelude.{option_and_then, length, ◌==◌, filter_map}
use Rattle.std.specs.List.{flat_map, list_any, AllByRecursion}
use Rattle.std.specs.Option.{option_map_or}
use Rattle.std.specs.Str.{bytes_eq}
use Rattle.std.specs.FinMap as fin
use Rattle.std.specs.FinMap.{contains_key-keys}
use Rattle.std.specs.Ordering.{nat_cmp, eq_by_cmp}
use Rattle.std.specs.Cmp.Lexicographic.{slice_cmp}
use Rattle.std.proofs.lemmas.Bool.Decides.{nat_tests}
use Rattle.std.proofs.lemmas.List.{map-append, nil_from_length}
use Rattle.std.proofs.lemmas.Map.Text.{is_eq-slice_cmp}
use Rattle.std.proofs.lemmas.Slice.Eq.{bytes_eq-Decides}
use Rattle.apt_base.specs.Identifiers.{parts}
use Rattle.apt_base.specs.Limits.{max_type_steps}
use Rattle.apt_base.specs.Names.{NameSet, with_names, names_in}
use Rattle.apt_base.specs.declared.element.ElementRef.{ElementRef}
use Rattle.apt_base.proofs.NameSets.{contains-with_names}
use Rattle.decl_tree.specs.declared.annotation.AnnotationText.{AnnotationText, out-AnnotationText}
use Rattle.decl_tree.specs.declared.compilation.Body.{Body}
use Rattle.decl_tree.specs.declared.compilation.Body.TheVariants.{Declared, Info}
use Rattle.decl_tree.specs.declared.compilation.UnitText.{UnitText}
use Rattle.decl_tree.specs.declared.declaration.TypeDecl.{TypeDecl}
use Rattle.decl_tree.specs.declared.declaration.TypeKind.{TypeKind}
use Rattle.decl_tree.specs.declared.declaration.TypeKind.TheVariants as kind
use Rattle.decl_elements.specs.Nodes.{root, body_root}
use Rattle.decl_elements.specs.Walk.{Place, place_of, steps_below, within_steps, all_below, places}
use Rattle.decl_elements.specs.Written.{declaration_of}
use Rattle.element_table.specs.TypeTable.{TypeTable, IsTable, unit_of}
use Rattle.element_table.specs.TableElements.{root_name, canonical_from, canonical_at, reference}
use Rattle.element_table.specs.UnitNames.{unit_name}
use Rattle.name_resolve.specs.Ways.{node_at, type_at}
use Rattle.name_resolve.specs.Finds.{Find, Finds, Nothing, One, Several}
use Rattle.name_resolve.specs.Meaning.{Within, found, members, meaning, qualifier_meaning}
use Rattle.name_resolve.specs.Mirrors.{ref_of}
use Rattle.name_resolve.specs.Annotations.{if_annotation, annotation_of, found_annotation, annotation_meaning}
use Rattle.name_resolve.specs.Placed.{or_bare, bare_unit, IsPlaced, ArePlaced}
use Rattle.name_resolve.proofs.PlacedLemmas.{simple-placed, qualifier-placed}
use Rattle.name_resolve.proofs.DeclaredPlaced.{placed-unit}
use Rattle.expression_names.proofs.FieldsPlaced.{find-placed}
use Rattle.type_resolve.specs.Scopes.{find_in}
use Rattle.annotation_presence.specs.Carried.{Carried, carried, texts_at, directly_present, is_passed_on, superclass_element, present_within, present, max_superclasses, types_of}
use Rattle.annotation_presence.proofs.PresenceLemmas.{directly-free, superclass-free, within-none}
use Rattle.annotation_values.specs.Values.{annotation_mirror, meanings}
use Rattle.annotation_values.specs.ElementValues.{mirror_of, mirrors, all_mirrors}
use Rattle.annotation_values.proofs.ValueParts.{annotation-is}
use Rattle.type_mirror.specs.declared.mirror.Mirror.{Mirror, out-roll-Mirror}
use Rattle.type_mirror.specs.declared.mirror.BaseMirror.{BaseMirror, roll-BaseMirror, out-BaseMirror, out-roll-BaseMirror}
use Rattle.type_mirror.specs.declared.mirror.BaseMirror.TheOpen.{BaseMirror-F}
use Rattle.type_mirror.specs.declared.mirror.BaseMirror.TheVariants as base
use Rattle.type_mirror.specs.declared.mirror.DeclaredMirror.{DeclaredMirror, roll-DeclaredMirror, out-DeclaredMirror, out-roll-DeclaredMirror}
use Rattle.type_mirror.specs.declared.value.Annotation.{Annotation, roll-Annotation, out-roll-Annotation}
use Rattle.type_mirror.specs.declared.value.NamedValue.{NamedValue}
use Rattle.type_mirror.specs.declared.value.Value.{Value}
use Rattle.type_mirror.specs.declared.value.Value.TheOpen.{Annotation-F}
use Rattle.type_mirror.specs.Parts.{plain}
use Rattle.type_layers.proofs.LayerLaws.{BaseLayer, DeclaredLayer, MirrorLayer}
use Rattle.round_env.specs.Presence.{names_on, element_at, elements_in, names_in_unit, names_present_on}
use Rattle.local_procs.specs.Contents.{is_empty, is_declared_of, is_type_of, is_annotation_of}

-- ---- the unit of an annotation interface

-- an element at the top of a unit has the name of the unit
abbrev pub IsNamed : TypeTable → ElementRef → Type 0
IsNamed table at = at.path ≡ [] → canonical_at table at ≡ Some at.unit

bare_type : («package» : List ℕ) → type_at (bare_unit «package») [] ≡ None
unfolding node_at root
bare_type «package» = refl

info_type : (u : UnitText) (body : Body) → u.body ≡ body → (d : TypeDecl) → type_at u [] ≡ Some d → (declared : TypeDecl) × (u.body ≡ Declared declared)
unfolding node_at root
info_type u (Declared declared) is d there = (declared, is)
info_type u (Info annotations doc) is d there = absurd (let none : None ≡ Some d = sym (ap (λ b. option_and_then declaration_of (Some (body_root u b))) is) ∙ there in cc)

module _ (table : TypeTable) where
  from_unit : (name : List ℕ) (u : UnitText) (declared : TypeDecl) → u.body ≡ Declared declared → canonical_from table (Some u) name [] ≡ Some name
  from_unit name u declared is = ap (λ body. Some (root_name name u body)) is

  named_type : (g : Find) → IsPlaced table g → (d : TypeDecl) → type_at g.unit g.path ≡ Some d → IsNamed table (ref_of g)
  unfolding canonical_at
  named_type g placed d there top =
      by (unit_of table (unit_name g.unit)) refl
    where
      there_top : type_at g.unit [] ≡ Some d
      there_top = ap (type_at g.unit) (sym top) ∙ there

      by : (o : Option UnitText) → unit_of table (unit_name g.unit) ≡ o → canonical_from table (unit_of table (unit_name g.unit)) (unit_name g.unit) g.path ≡ Some (unit_name g.unit)
      by None is =
          let bare : bare_unit g.unit.«package» ≡ g.unit = sym (ap (λ o. or_bare o g.unit.«package») is) ∙ placed.unit in
          absurd (let none : None ≡ Some d = sym (bare_type g.unit.«package») ∙ ap (λ u. type_at u []) bare ∙ there_top in cc)
      by (Some u) is =
          let body = info_type g.unit g.unit.body refl d there_top in
          ap (λ o. canonical_from table o (unit_name g.unit) g.path) (placed-unit table g u placed is)
          ∙ ap (canonical_from table (Some g.unit) (unit_name g.unit)) top ∙ from_unit (unit_name g.unit) g.unit body.0 body.1

  by_kind : (k : TypeKind) (at : ElementRef) → IsNamed table at → IfSome (if_annotation k at) (IsNamed table)
  by_kind kind.AnnotationType at is = is
  by_kind kind.Class at is = tt
  by_kind kind.Enum at is = tt
  by_kind kind.Interface at is = tt

  by_type : (g : Find) → IsPlaced table g → (o : Option TypeDecl) → type_at g.unit g.path ≡ o → IfSome (annotation_of o (ref_of g)) (IsNamed table)
  by_type g placed None there = tt
  by_type g placed (Some d) there = by_kind d.kind (ref_of g) (named_type g placed d there)

  found_named : (finds : Finds) → ArePlaced table finds → IfSome (found_annotation finds) (IsNamed table)
  found_named Nothing placed = tt
  found_named Several placed = tt
  found_named (One g) placed = by_type g placed (type_at g.unit g.path) refl

  meaning_placed : (f : Find) → IsPlaced table f → (names : List (List ℕ)) → ArePlaced table (meaning table (Within f) names)
  unfolding meaning found qualifier_meaning members
  meaning_placed f placed [] = tt
  meaning_placed f placed (name ∷ []) = simple-placed table max_type_steps false f placed name
  meaning_placed f placed (name ∷ next ∷ more) = qualifier-placed table f placed (name ∷ next ∷ more)

  -- ---- annotations

  -- the interface is what the name means where it is written
  pub record IsRight (c : Carried) : Type 0 where
    pub means : c.annotation_type ≡ annotation_meaning table (Within c.at) (out-AnnotationText c.text).name
    pub named : IfSome c.annotation_type (IsNamed table)

  abbrev pub AreRight : List Carried → Type 0
  AreRight list = AllByRecursion IsRight list

  abbrev names_of : AnnotationText → List (List ℕ)
  names_of text = parts (out-AnnotationText text).name

  written_right : (f : Find) → IsPlaced table f → (texts : List AnnotationText) → AreRight (map (carried table f) texts)
  unfolding annotation_meaning
  written_right f placed [] = tt
  written_right f placed (text ∷ texts) =
      (record { means = refl; named = found_named (meaning table (Within f) (names_of text)) (meaning_placed f placed (names_of text)) }, written_right f placed texts)

  directly_right : (f : Find) → IsPlaced table f → AreRight (directly_present table f)
  unfolding directly_present
  directly_right f placed = written_right f placed (texts_at f)

  both_right : (xs ys : List Carried) → AreRight xs → AreRight ys → AreRight (xs ++ ys)
  both_right [] ys are too = too
  both_right (x ∷ xs) ys are too = (are.0, both_right xs ys are.1 too)

  kept_right : (test : Carried → Bool) (xs : List Carried) → AreRight xs → AreRight (filter test xs)
  kept_right test [] are = tt
  kept_right test (x ∷ xs) are = by (test x) refl (kept_right test xs are.1)
    where
      by : (b : Bool) → test x ≡ b → AreRight (filter test xs) → AreRight (filter test (x ∷ xs))
      by true is rest = rw is (are.0, rest)
      by false is rest = rw is rest

  above_right : (levels : ℕ) → ((at : ElementRef) → AreRight (present_within table levels (find_in table at)))
      → (o : Option ElementRef) → AreRight (option_map_or (λ at. present_within table levels (find_in table at)) o [])
  above_right levels right None = tt
  above_right levels right (Some at) = right at

  module _ (is_table : IsTable table) where
    free_right : (levels : ℕ) (at : ElementRef) → unit_of table at.unit ≡ None → AreRight (present_within table levels (find_in table at))
    free_right levels at free =
        subst AreRight (sym (within-none table levels (find_in table at) (superclass-free table at free) ∙ directly-free table at free)) tt

    by_unit : (levels : ℕ) (at : ElementRef) → ((u : UnitText) → unit_of table at.unit ≡ Some u → AreRight (present_within table levels (find_in table at)))
        → (o : Option UnitText) → unit_of table at.unit ≡ o → AreRight (present_within table levels (find_in table at))
    by_unit levels at held None is = free_right levels at is
    by_unit levels at held (Some u) is = held u is

    within_right : (levels : ℕ) (at : ElementRef) → AreRight (present_within table levels (find_in table at))
    unfolding present_within
    within_right zero at = by_unit zero at (λ u is. directly_right (find_in table at) (find-placed table is_table at u is)) (unit_of table at.unit) refl
    within_right (suc levels) at =
        by_unit (suc levels) at
        (λ u is. both_right (directly_present table (find_in table at)) _ (directly_right (find_in table at) (find-placed table is_table at u is))
        (kept_right (is_passed_on table (directly_present table (find_in table at))) _ (above_right levels (within_right levels) (superclass_element table (find_in table at)))))
        (unit_of table at.unit) refl

    present_right : (at : ElementRef) → AreRight (present table (find_in table at))
    unfolding present
    present_right at = within_right max_superclasses at

-- ---- the mirrors of annotations

abbrev AnnotationLayer : Type 0
AnnotationLayer = Annotation-F Value Annotation NamedValue

abbrev is_reference : List ℕ → ElementRef → Bool
is_reference name at = bytes_eq at.unit name && (length at.path == 0)

module _ (table : TypeTable) (name : List ℕ) where
  -- by the interface of an annotation
  abbrev is_interface : Option ElementRef → Bool
  is_interface None = false
  is_interface (Some at) = is_reference name at

  base_is : (x : BaseLayer) (b : BaseMirror) → roll-BaseMirror x ≡ b → is_type_of name (plain b) ≡ is_declared_of name x
  base_is x b rolls =
      ap (λ (o : MirrorLayer). is_empty o.around && is_declared_of name (out-BaseMirror o.base)) (out-roll-Mirror (record { around = []; base = b }))
      ∙ ap (λ (c : BaseMirror). is_declared_of name (out-BaseMirror c)) (sym rolls) ∙ ap (is_declared_of name) (out-roll-BaseMirror x)

  class_is : (at : ElementRef) (d : DeclaredMirror) → (out-DeclaredMirror d).element ≡ at → is_type_of name (plain (base.Declared d)) ≡ is_reference name at
  class_is at d element = base_is (BaseMirror-F.Declared d) (base.Declared d) (base.rolls-Declared d) ∙ ap (is_reference name) element

  type_is : (text : List ℕ) (o : Option ElementRef) → is_type_of name (annotation_mirror text o) ≡ is_interface o
  type_is text None = base_is (BaseMirror-F.Error text) (base.Error text) (base.rolls-Error text)
  type_is text (Some at) = class_is at (roll-DeclaredMirror made) (ap (λ (o : DeclaredLayer). o.element) (out-roll-DeclaredMirror made))
    where
      made : DeclaredLayer
      made = record { element = at; enclosing = None; arguments = [] }

  -- the interface of an annotation, as its name means it
  meant_by : (c : Carried) → (meanings table c.at).annotation_type (out-AnnotationText c.text).name ≡ annotation_meaning table (Within c.at) (out-AnnotationText c.text).name
  unfolding meanings
  meant_by c = refl

  written_type : (a : Annotation) (m : Mirror) (o : AnnotationLayer) → a ≡ roll-Annotation o → o.annotation_type ≡ m → is_annotation_of name a ≡ is_type_of name m
  written_type a m o is same =
      ap (is_annotation_of name) is ∙ ap (λ (l : AnnotationLayer). is_type_of name l.annotation_type) (out-roll-Annotation o) ∙ ap (is_type_of name) same

  annotation_type_is : (c : Carried) → IsRight table c → is_annotation_of name (mirror_of table c) ≡ is_interface c.annotation_type
  annotation_type_is c right =
      written_type (mirror_of table c) _ _ (annotation-is (meanings table c.at) c.text) refl
      ∙ type_is (out-AnnotationText c.text).name ((meanings table c.at).annotation_type (out-AnnotationText c.text).name)
      ∙ ap is_interface (meant_by c ∙ sym right.means)

  zero_only : (n : ℕ) → (n == 0) ≡ true → n ≡ 0
  zero_only n is = grind (arith, is, nat_tests)

  empty_path : (path : List ℕ) → (length path == 0) ≡ true → path ≡ []
  empty_path path is = nil_from_length path (zero_only (length path) is)

  and_left : (a b : Bool) → (a && b) ≡ true → a ≡ true
  and_left true b e = refl
  and_left false b e = e

  and_right : (a b : Bool) → (a && b) ≡ true → b ≡ true
  and_right true b e = e
  and_right false b e = absurd cc

  or_true : (a b : Bool) → b ≡ true → (a || b) ≡ true
  or_true true b is = refl
  or_true false b is = is

  -- such an interface has this canonical name
  canonical_is : (at : ElementRef) → is_reference name at ≡ true → IsNamed table at → canonical_at table at ≡ Some name
  canonical_is at is named =
      named (empty_path at.path (and_right (bytes_eq at.unit name) (length at.path == 0) is))
      ∙ ap (λ u. Some u) ((bytes_eq-Decides at.unit name).0 (and_left (bytes_eq at.unit name) (length at.path == 0) is))

  abbrev canonical_names : List Carried → List (List ℕ)
  canonical_names list = filter_map (canonical_at table) (types_of list)

  -- with one interface in front
  abbrev with_type : Option ElementRef → List Carried → List (List ℕ)
  with_type None rest = canonical_names rest
  with_type (Some at) rest = filter_map (canonical_at table) (at ∷ types_of rest)

  one_front : (c : Carried) (rest : List Carried) → canonical_names (c ∷ rest) ≡ with_type c.annotation_type rest
  one_front c rest = by c.annotation_type refl
    where
      by : (o : Option ElementRef) → c.annotation_type ≡ o → canonical_names (c ∷ rest) ≡ with_type o rest
      by None is = rw is refl
      by (Some at) is = rw is refl

  is_itself : bytes_eq name name ≡ true
  is_itself = (bytes_eq-Decides name name).1 refl

  here : (o : Option ElementRef) (rest : List Carried) → IfSome o (IsNamed table) → is_interface o ≡ true → list_any (bytes_eq name) (with_type o rest) ≡ true
  here None rest named is = absurd cc
  here (Some at) rest named is = rw (canonical_is at is named, is_itself) refl

  behind : (o : Option ElementRef) (rest : List Carried) → list_any (bytes_eq name) (canonical_names rest) ≡ true → list_any (bytes_eq name) (with_type o rest) ≡ true
  behind None rest there = there
  behind (Some at) rest there = by (canonical_at table at) refl
    where
      by : (o : Option (List ℕ)) → canonical_at table at ≡ o → list_any (bytes_eq name) (filter_map (canonical_at table) (at ∷ types_of rest)) ≡ true
      by None is = rw is there
      by (Some other) is = rw is (or_true (bytes_eq name other) _ there)

  named_among : (list : List Carried) → AllByRecursion (IsRight table) list → list_any (is_annotation_of name) (map (mirror_of table) list) ≡ true → list_any (bytes_eq name) (canonical_names list) ≡ true
  named_among [] right there = there
  named_among (c ∷ rest) right there = ap (list_any (bytes_eq name)) (one_front c rest) ∙ by (is_annotation_of name (mirror_of table c)) refl (named_among rest right.1)
    where
      by : (b : Bool) → is_annotation_of name (mirror_of table c) ≡ b → (list_any (is_annotation_of name) (map (mirror_of table) rest) ≡ true → list_any (bytes_eq name) (canonical_names rest) ≡ true)
          → list_any (bytes_eq name) (with_type c.annotation_type rest) ≡ true
      by true is later = here c.annotation_type rest right.0.named (sym (annotation_type_is c right.0) ∙ is)
      by false is later = behind c.annotation_type rest (later (ap (λ b. b || list_any (is_annotation_of name) (map (mirror_of table) rest)) (sym is) ∙ there))

-- ---- lists

any_more : {A : Type 0} (test : A → Bool) (xs ys : List A) → list_any test xs ≡ true → list_any test (xs ++ ys) ≡ true
any_more test [] ys is = absurd cc
any_more test (x ∷ xs) ys is = by (test x) refl (any_more test xs ys)
  where
    by : (b : Bool) → test x ≡ b → (list_any test xs ≡ true → list_any test (xs ++ ys) ≡ true) → list_any test ((x ∷ xs) ++ ys) ≡ true
    by true e later = rw e refl
    by false e later = rw e (later (ap (λ b. b || list_any test xs) (sym e) ∙ is))

any_mapped : {A B : Type 0} (test : B → Bool) (f : A → B) (xs ys : List A) → list_any test (map f xs) ≡ true → list_any test (map f (xs ++ ys)) ≡ true
any_mapped test f xs ys is = ap (list_any test) (map-append f xs ys) ∙ any_more test (map f xs) (map f ys) is

-- ---- on an element

module _ (table : TypeTable) (is_table : IsTable table) (name : List ℕ) (at : ElementRef) where
  pub all_named : list_any (is_annotation_of name) (all_mirrors table at) ≡ true → list_any (bytes_eq name) (names_on table at) ≡ true
  unfolding all_mirrors names_on
  all_named there = named_among table name (present table (find_in table at)) (present_right table is_table at) there

  -- what is written is present
  written_first : (levels : ℕ) (f : Find) → (rest : List Carried) × (present_within table levels f ≡ directly_present table f ++ rest)
  unfolding present_within
  written_first zero f = ([], sym (append-nil (directly_present table f)))
  written_first (suc levels) f = (_, refl)

  written_present : (f : Find) → list_any (is_annotation_of name) (map (mirror_of table) (directly_present table f)) ≡ true → list_any (is_annotation_of name) (map (mirror_of table) (present table f)) ≡ true
  unfolding present
  written_present f there =
      let first = written_first max_superclasses f in
      ap (λ list. list_any (is_annotation_of name) (map (mirror_of table) list)) first.1 ∙ any_mapped (is_annotation_of name) (mirror_of table) (directly_present table f) first.0 there

  pub written_named : list_any (is_annotation_of name) (mirrors table at) ≡ true → list_any (bytes_eq name) (names_on table at) ≡ true
  unfolding mirrors all_mirrors
  written_named there = all_named (written_present (find_in table at) there)

-- ---- on a unit

module _ (table : TypeTable) (name unit : List ℕ) where
  first_place : (steps : ℕ) (at : Place) → (rest : List Place) × (within_steps steps at ≡ at ∷ rest)
  first_place zero at = ([], refl)
  first_place (suc steps) at = (_, refl)

  first_element : (u : UnitText) → unit_of table unit ≡ Some u → (rest : List ElementRef) × (elements_in table unit ≡ reference unit [] ∷ rest)
  unfolding elements_in places all_below
  first_element u is =
      let first = first_place (steps_below (root u)) (place_of [] (root u)) in
      (map (element_at unit) first.0, ap (λ o. option_map_or (λ u. map (element_at unit) (places u)) o []) is ∙ ap (map (element_at unit)) first.1)

  same_tests : (names : List (List ℕ)) → list_any (bytes_eq name) names ≡ list_any (eq_by_cmp (slice_cmp nat_cmp) name) names
  same_tests [] = refl
  same_tests (other ∷ names) = λ i. sym (is_eq-slice_cmp name other) i || same_tests names i

  in_set : (names : List (List ℕ)) → list_any (bytes_eq name) names ≡ true → list_any (bytes_eq name) (names_in (with_names fin.empty names)) ≡ true
  in_set names there =
      let set : NameSet = with_names fin.empty names in
      same_tests (names_in set) ∙ sym (contains_key-keys set name) ∙ contains-with_names fin.empty names name
      ∙ ap (λ b. b || fin.contains_key (let none : NameSet = fin.empty in none) name) (sym (same_tests names) ∙ there)

  pub present_there : (u : UnitText) → unit_of table unit ≡ Some u → list_any (bytes_eq name) (names_on table (reference unit [])) ≡ true
      → list_any (bytes_eq name) (names_present_on table unit) ≡ true
  unfolding names_present_on
  present_there u is there =
      let first = first_element u is in
      in_set (names_in_unit table unit)
      (ap (λ elements. list_any (bytes_eq name) (flat_map (names_on table) elements)) first.1
      ∙ any_more (bytes_eq name) (names_on table (reference unit [])) (flat_map (names_on table) first.0) there)
