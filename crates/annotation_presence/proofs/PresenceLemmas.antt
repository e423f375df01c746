-- What stands at an element, what names mean there, and which annotations are there.
use Rattle.std.proofs.Common.{◌≡◌, ◌<◌, ◌-◌, ℕ, zero, suc, Bool, true, false, List, [], ◌∷◌, ◌++◌, map, filter, length, Option, None, Some, is_some, refl, sym, ap, ◌∙◌, subst, append-nil, arith}
use Rattle.std.specs.Prelude.{if◌then◌else◌}
use Rattle.std.specs.Option.{option_map_or}
use Rattle.apt_base.specs.Identifiers.{parts}
use Rattle.apt_base.specs.declared.element.ElementRef.{ElementRef}
use Rattle.decl_tree.specs.declared.compilation.UnitText.{UnitText}
use Rattle.decl_tree.specs.declared.declaration.TypeDecl.{TypeDecl}
use Rattle.decl_elements.specs.Nodes.{children, root}
use Rattle.decl_elements.specs.Written.{annotations}
use Rattle.element_table.specs.declared.part.Part.{Part}
use Rattle.element_table.specs.TypeTable.{TypeTable, unit_of}
use Rattle.element_table.specs.TableElements.{reference}
use Rattle.name_resolve.specs.Ways.{node_at, type_at}
use Rattle.name_resolve.specs.Finds.{Find}
use Rattle.name_resolve.specs.Meaning.{Within, meaning, found}
use Rattle.name_resolve.specs.Mirrors.{superclass}
use Rattle.name_resolve.specs.Annotations.{found_annotation, annotation_meaning}
use Rattle.name_resolve.specs.Placed.{IsPlaced, IsPlacedUnit, bare_unit}
use Rattle.name_resolve.specs.Parts.{at_path, lent}
use Rattle.type_elements.specs.MemberElements.{class_element}
use Rattle.type_resolve.specs.Scopes.{find_bare, find_from, find_in, scope_in, package_at, IsType, is_type_in}
use Rattle.annotation_presence.specs.Carried.{Carried, carried, texts_at, directly_present, is_passed_on, is_class, superclass_of, superclass_element, present_within}
use Rattle.annotation_presence.specs.declared.meanings.Meaning.{Meaning}
use Rattle.annotation_presence.specs.declared.superclasses.Superclass.{Superclass}
use Rattle.annotation_presence.specs.Remembered.{IsScope, StandsAt, IsMeaning, IsSuperclass}
use denote.Ref.{Bor}

pub lent-none : (names : List (Bor (List ℕ))) → length names ≡ 0 → lent names ≡ []
lent-none [] e = refl
lent-none (name ∷ names) e = absurd (omega arith)

module _ (table : TypeTable) where
  -- ---- by the unit of its name

  find-held : (at : ElementRef) (u : UnitText) → unit_of table at.unit ≡ Some u → find_in table at ≡ find_from table (Some u) at
  unfolding find_in
  find-held at u e = ap (λ o. find_from table o at) e

  find-free : (at : ElementRef) → unit_of table at.unit ≡ None → find_in table at ≡ find_bare table (package_at table at) at.path
  unfolding find_in
  find-free at e = ap (λ o. find_from table o at) e

  pub stands : (at : ElementRef) (u : UnitText) (f : Find) → unit_of table at.unit ≡ Some u → f ≡ find_in table at → IsPlaced table f → StandsAt table at f
  stands at u f held is placed =
      let unit : f.unit ≡ u = ap (λ (g : Find). g.unit) (is ∙ find-held at u held) in
      record { placed = placed; held = held ∙ ap Some (sym unit); is = is }

  -- the same of another path in the unit
  pub stands-scope : (at : ElementRef) (f g : Find) (first path : List ℕ) → StandsAt table at f → IsScope f first g → g.path ≡ path
      → StandsAt table (reference at.unit path) g
  stands-scope at f g first path is scope same =
      let found : f ≡ find_from table (Some f.unit) at = is.is ∙ find-held at f.unit is.held in
      let there : at_path f path ≡ find_from table (Some f.unit) (reference at.unit path) =
      ap (λ (p : Part). (let h : Find = record { part = p; unit = f.unit; path = path } in h)) (ap (λ (h : Find). h.part) found) in
      record {
        placed = record { is_table = is.placed.is_table; unit = subst (IsPlacedUnit table) (sym scope.unit) is.placed.unit };
        held = is.held ∙ ap Some (sym scope.unit);
        is =
            (λ i. record { part = scope.part i; unit = scope.unit i; path = same i }) ∙ there
            ∙ sym (find-held (reference at.unit path) f.unit is.held);
      }

  -- ---- names

  pub meaning-names : (f : Find) (names : List (List ℕ)) (name : List ℕ) → names ≡ parts name
      → found_annotation (meaning table (Within f) names) ≡ annotation_meaning table (Within f) name
  unfolding annotation_meaning
  meaning-names f names name e = ap (λ ns. found_annotation (meaning table (Within f) ns)) e

  pub meaning-stands : (at : ElementRef) (f : Find) (name : List ℕ) → StandsAt table at f → annotation_meaning table (scope_in table at) name ≡ annotation_meaning table (Within f) name
  meaning-stands at f name is = ap (λ g. annotation_meaning table (Within g) name) (sym is.is)

  pub meaning-known : (m : Meaning) (at : ElementRef) (f : Find) (name : List ℕ) → IsMeaning table m → m.at ≡ at → m.name ≡ name → StandsAt table at f
      → m.annotation_type ≡ annotation_meaning table (Within f) name
  meaning-known m at f name right same named is = right ∙ (λ i. annotation_meaning table (scope_in table (same i)) (named i)) ∙ meaning-stands at f name is

  pub meaning-new : (at : ElementRef) (f : Find) (names : List (List ℕ)) (name : List ℕ) (a : Option ElementRef) → StandsAt table at f → names ≡ parts name
      → a ≡ found_annotation (meaning table (Within f) names) → a ≡ annotation_meaning table (scope_in table at) name
  meaning-new at f names name a is e found = found ∙ meaning-names f names name e ∙ sym (meaning-stands at f name is)

  pub meaning-scope : (f g : Find) (first : List ℕ) (more : List (List ℕ)) (name : List ℕ) → IsScope f first g → first ∷ more ≡ parts name
      → annotation_meaning table (Within g) name ≡ annotation_meaning table (Within f) name
  meaning-scope f g first more name scope e =
      sym (meaning-names g (first ∷ more) name e) ∙ ap found_annotation (scope.same table more) ∙ meaning-names f (first ∷ more) name e

  found-none : (f : Find) → found_annotation (meaning table (Within f) []) ≡ None
  unfolding meaning found
  found-none f = refl

  pub meaning-none : (f : Find) (name : List ℕ) → [] ≡ parts name → annotation_meaning table (Within f) name ≡ None
  meaning-none f name e = sym (meaning-names f [] name e) ∙ found-none f

  -- ---- written

  pub directly_found : (at : ElementRef) (f : Find) → StandsAt table at f → map (carried table f) (texts_at f) ≡ directly_present table (find_in table at)
  unfolding directly_present
  directly_found at f is = ap (λ g. map (carried table g) (texts_at g)) is.is

  -- where no unit of the name is

  texts-bare : (part : Part) («package» path : List ℕ) → texts_at (record { part = part; unit = bare_unit «package»; path = path }) ≡ []
  unfolding texts_at node_at root children annotations
  texts-bare part «package» [] = refl
  texts-bare part «package» (step ∷ path) = refl

  directly-bare : (part : Part) («package» path : List ℕ) → directly_present table (record { part = part; unit = bare_unit «package»; path = path }) ≡ []
  unfolding directly_present
  directly-bare part «package» path =
      ap (map (carried table (record { part = part; unit = bare_unit «package»; path = path }))) (texts-bare part «package» path)

  pub directly-free : (at : ElementRef) → unit_of table at.unit ≡ None → directly_present table (find_in table at) ≡ []
  directly-free at e = ap (directly_present table) (find-free at e) ∙ directly-bare _ _ at.path

  superclass-bare : (part : Part) («package» path : List ℕ) → superclass_element table (record { part = part; unit = bare_unit «package»; path = path }) ≡ None
  unfolding superclass_element node_at root children
  superclass-bare part «package» [] = refl
  superclass-bare part «package» (step ∷ path) = refl

  pub superclass-free : (at : ElementRef) → unit_of table at.unit ≡ None → superclass_element table (find_in table at) ≡ None
  superclass-free at e = ap (superclass_element table) (find-free at e) ∙ superclass-bare _ _ at.path

  -- ---- superclasses

  none-at : (f : Find) → type_at f.unit f.path ≡ None → superclass_element table f ≡ None
  unfolding superclass_element
  none-at f e = ap (superclass_of table f) e

  other-at : (f : Find) (d : TypeDecl) → type_at f.unit f.path ≡ Some d → is_class d.kind ≡ false → superclass_element table f ≡ None
  unfolding superclass_element
  other-at f d e kind = ap (superclass_of table f) e ∙ ap (λ b. if b then class_element (superclass table f) else None) kind

  class-at : (f : Find) (d : TypeDecl) → type_at f.unit f.path ≡ Some d → is_class d.kind ≡ true → superclass_element table f ≡ class_element (superclass table f)
  unfolding superclass_element
  class-at f d e kind = ap (superclass_of table f) e ∙ ap (λ b. if b then class_element (superclass table f) else None) kind

  module _ (at : ElementRef) (f : Find) (is : StandsAt table at f) where
    pub superclass-none : type_at f.unit f.path ≡ None → superclass_element table (find_in table at) ≡ None
    superclass-none e = ap (superclass_element table) (sym is.is) ∙ none-at f e

    pub superclass-other : (d : TypeDecl) → type_at f.unit f.path ≡ Some d → is_class d.kind ≡ false → superclass_element table (find_in table at) ≡ None
    superclass-other d e kind = ap (superclass_element table) (sym is.is) ∙ other-at f d e kind

    pub superclass-class : (d : TypeDecl) → type_at f.unit f.path ≡ Some d → is_class d.kind ≡ true
        → superclass_element table (find_in table at) ≡ class_element (superclass table (find_in table at))
    superclass-class d e kind =
        ap (superclass_element table) (sym is.is) ∙ class-at f d e kind ∙ ap (λ g. class_element (superclass table g)) is.is

    pub is-type : (d : TypeDecl) → type_at f.unit f.path ≡ Some d → IsType table at
    is-type d e =
        let path : f.path ≡ at.path = ap (λ (g : Find). g.path) (is.is ∙ find-held at f.unit is.held) in
        ap (λ o. is_type_in o at.path) is.held ∙ ap (λ p. is_some (type_at f.unit p)) (sym path) ∙ ap is_some e

  -- as it was found
  pub superclass-known : (s : Superclass) (at : ElementRef) → IsSuperclass table s → s.of ≡ at → s.superclass ≡ class_element (superclass table (find_in table at))
  superclass-known s at right same = right ∙ ap (λ x. class_element (superclass table (find_in table x))) same

  -- ---- inherited

  pub within-zero : (n : ℕ) (f : Find) → n ≡ 0 → present_within table n f ≡ directly_present table f
  unfolding present_within
  within-zero zero f e = refl
  within-zero (suc n) f e = absurd (omega arith)

  pub within-none : (n : ℕ) (f : Find) → superclass_element table f ≡ None → present_within table n f ≡ directly_present table f
  unfolding present_within
  within-none zero f e = refl
  within-none (suc n) f e =
      ap
      (λ o. directly_present table f ++ filter (is_passed_on table (directly_present table f)) (option_map_or (λ at. present_within table n (find_in table at)) o []))
      e
      ∙ append-nil (directly_present table f)

  more-by : (n : ℕ) (f : Find) (above : ElementRef) → superclass_element table f ≡ Some above
      → present_within table (suc n) f ≡ directly_present table f ++ filter (is_passed_on table (directly_present table f)) (present_within table n (find_in table above))
  unfolding present_within
  more-by n f above e =
      ap
      (λ o. directly_present table f ++ filter (is_passed_on table (directly_present table f)) (option_map_or (λ at. present_within table n (find_in table at)) o []))
      e

  pub within-more : (n : ℕ) (f : Find) (above : ElementRef) (own all : List Carried) → 0 < n → superclass_element table f ≡ Some above
      → own ≡ directly_present table f → all ≡ present_within table (n - 1) (find_in table above)
      → own ++ filter (is_passed_on table own) all ≡ present_within table n f
  within-more n f above own all some e o a =
      let same : suc (n - 1) ≡ n = omega arith in
      (λ i. o i ++ filter (is_passed_on table (o i)) (a i)) ∙ sym (more-by (n - 1) f above e) ∙ ap (λ k. present_within table k f) same

-- ---- by what each call needs

pub ruleset located = (stands, directly-free)

pub ruleset superclasses_in = (stands, superclass-free)

pub ruleset superclasses_known = (superclass-known)

pub ruleset meanings_on = (meaning-known, meaning-names, meaning-new)

pub ruleset meanings_in = (stands-scope, meaning-scope, meaning-none)

pub ruleset levels = (within-zero, within-none, within-more)
