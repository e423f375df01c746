-- Two tables on which names mean the same at the elements of some units, and which agree on what a question on types reads there, have the same annotations there, written and inherited.
use Rattle.std.proofs.Common.{◌≡◌, ℕ, zero, suc, Bool, false, not, ◌&&◌, List, [], ◌∷◌, map, filter, filter_map, Contains, Option, None, Some, refl, sym, ap, ap₂, subst, ◌∙◌}
use Rattle.std.specs.List.{AllByRecursion, flat_map, list_any}
use Rattle.std.specs.Option.{option_map_or}
use Rattle.std.specs.Str.{bytes_eq}
use Rattle.std.specs.FinMap as fin
use Rattle.apt_base.specs.Identifiers.{parts}
use Rattle.apt_base.specs.Names as names
use Rattle.apt_base.specs.Names.{with_names, names_in}
use Rattle.apt_base.specs.declared.element.ElementRef.{ElementRef}
use Rattle.decl_tree.specs.declared.annotation.AnnotationText.{AnnotationText, out-AnnotationText}
use Rattle.decl_tree.specs.declared.compilation.UnitText.{UnitText}
use Rattle.decl_tree.specs.declared.declaration.TypeDecl.{TypeDecl}
use Rattle.decl_elements.specs.Nodes.{Node}
use Rattle.decl_elements.specs.Walk.{Place, places}
use Rattle.decl_elements.specs.Written.{annotations}
use Rattle.decl_elements.proofs.Everywhere.{each, each_to}
use Rattle.element_table.specs.TypeTable.{TypeTable, unit_of}
use Rattle.element_table.specs.TableElements.{reference, canonical_at}
use Rattle.name_resolve.specs.Finds.{Find}
use Rattle.name_resolve.specs.Ways.{node_at, type_at}
use Rattle.type_resolve.specs.Scopes.{find_in}
use Rattle.type_elements.specs.MemberElements.{class_element}
use Rattle.annotation_presence.specs.Carried.{Carried, carried, texts_at, directly_present, has_type, inherited, is_inherited, is_passed_on, is_class, superclass_of, superclass_element, present_within, max_superclasses, present, present_on, types_of}
use Rattle.round_env.specs.Presence.{names_on, carries, element_at, elements_in, names_in_unit, annotated_in_unit, with_names_at, present_names, names_present_on, annotated}
use Rattle.reach_map.specs.Chains.{annotation_chains, unit_chains}
use Rattle.reach_map.proofs.ChainsLemmas.{annotation_chains-is}
use Rattle.closed_cuts.specs.Kept.{IfAny}
use Rattle.closed_cuts.specs.NameLaws.{NamesStay}
use Rattle.closed_cuts.specs.NodeTexts.{IsWrittenIn}
use Rattle.closed_cuts.specs.PresenceLaws.{CarriedLies, SameCarried, RoundStays, PresenceStays}
use Rattle.closed_cuts.proofs.Keeping.{Kept, Any, kept, through, by_equal, moved, chosen, map-facts, append-kept, filter-kept, filter_map-good, filter_map-same, flat_map-kept}
use Rattle.closed_cuts.proofs.AgreeingReads.{Lies, SameReads, unit-same, canonical-same}
use Rattle.closed_cuts.proofs.SameMemberLists.{class_lies}
use Rattle.closed_cuts.proofs.WrittenTexts.{all-written}

module _ (one other : TypeTable) (Has : List ℕ → Type 0) (r : SameReads one other Has) (n : (at : ElementRef) → Has at.unit → NamesStay one other Has at) where
  abbrev L : ElementRef → Type 0
  L = Lies one other Has

  abbrev Ls : List ElementRef → Type 0
  Ls = AllByRecursion L

  abbrev C : Carried → Type 0
  C = CarriedLies one other Has

  abbrev Cs : List Carried → Type 0
  Cs = AllByRecursion C

  abbrev Same : List Carried → List Carried → Type 0
  Same = SameCarried one other Has

  -- what stands at an element of the first table
  abbrev here : ElementRef → Find
  here at = find_in one at

  -- ---- written

  -- each name chain of what is written there is one of the unit
  abbrev IsWritten : ElementRef → AnnotationText → Type 0
  IsWritten at text = AllByRecursion (Contains (unit_chains (here at).unit)) (annotation_chains text)

  written_in : (u : UnitText) (o : Option Node) → IfAny (IsWrittenIn u) o → AllByRecursion (λ a. AllByRecursion (Contains (unit_chains u)) (annotation_chains a)) (option_map_or annotations o [])
  written_in u None w = tt
  written_in u (Some node) w = w.annotations

  written : (at : ElementRef) → AllByRecursion (IsWritten at) (texts_at (here at))
  unfolding texts_at
  written at = written_in (here at).unit (node_at (here at).unit (here at).path) (all-written (here at).unit (here at).path)

  -- its name is the first of them
  name_of : (at : ElementRef) (text : AnnotationText) → IsWritten at text → Contains (unit_chains (here at).unit) (parts (out-AnnotationText text).name)
  name_of at text all = (subst (AllByRecursion (Contains (unit_chains (here at).unit))) (annotation_chains-is text) all).0

  carried_kept : (at : ElementRef) → L at → (text : AnnotationText) → IsWritten at text → Kept C (carried one (here at) text) (carried other (here at) text)
  carried_kept at l text w =
      let k = (((n at l).there).scopes false).annotations (out-AnnotationText text).name (name_of at text w) in
      record {
        equal = ap (λ (of : Option ElementRef). (let c : Carried = record { at = here at; text = text; annotation_type = of } in c)) k.equal;
        good = record { on = at; lies = l; is_there = refl; chains = w; annotation_type = k.good };
      }

  pub directly-kept : (at : ElementRef) → L at → Same (directly_present one (find_in one at)) (directly_present other (find_in other at))
  unfolding directly_present
  directly-kept at l =
      moved Cs _ _ _ _ (map-facts C (carried one (here at)) (carried other (here at)) (texts_at (here at))
      (each_to (IsWritten at) (λ text. Kept C (carried one (here at) text) (carried other (here at) text)) (carried_kept at l) (texts_at (here at)) (written at))) refl
      (ap (λ (f : Find). map (carried other f) (texts_at f)) (sym (n at l).place))

  pub is_inherited-same : (at : ElementRef) → L at → is_inherited one at ≡ is_inherited other at
  unfolding is_inherited
  is_inherited-same at l = ap (has_type inherited) (directly-kept at l).equal

  -- ---- inherited

  superclass_by : (at : ElementRef) → L at → (d : Option TypeDecl) → Kept (IfAny L) (superclass_of one (find_in one at) d) (superclass_of other (find_in other at) d)
  superclass_by at l None = kept (IfAny L) None tt
  superclass_by at l (Some d) =
      let k = r.superclasses at l in
      chosen (IfAny L) (is_class d.kind) (is_class d.kind) _ _ _ _ refl
      (record { equal = ap class_element k.equal; good = class_lies one other Has r _ k.good }) (kept (IfAny L) None tt)

  superclass_kept : (at : ElementRef) → L at → Kept (IfAny L) (superclass_element one (find_in one at)) (superclass_element other (find_in other at))
  unfolding superclass_element
  superclass_kept at l =
      by_equal (IfAny L) (superclass_of one (find_in one at)) (superclass_of other (find_in other at)) (type_at (here at).unit (here at).path) _
      (ap (λ (f : Find). type_at f.unit f.path) (n at l).place) (superclass_by at l (type_at (here at).unit (here at).path))

  abbrev passes : TypeTable → List Carried → ElementRef → Bool
  passes table own at = not (has_type at own) && is_inherited table at

  passed_on_same : (own own' : List Carried) → own ≡ own' → (c : Carried) → C c → is_passed_on one own c ≡ is_passed_on other own' c
  passed_on_same own own' e c g = by c.annotation_type g.annotation_type
    where
      by : (o : Option ElementRef) → IfAny L o → option_map_or (passes one own) o false ≡ option_map_or (passes other own') o false
      by None l = refl
      by (Some at) l = ap₂ (λ (list : List Carried) (b : Bool). not (has_type at list) && b) e (is_inherited-same at l)

  above_kept : (h h' : ElementRef → List Carried) → ((at : ElementRef) → L at → Same (h at) (h' at)) → (at : ElementRef) → L at
      → Same (option_map_or h (superclass_element one (find_in one at)) []) (option_map_or h' (superclass_element other (find_in other at)) [])
  above_kept h h' hs at l = through (IfAny L) Cs (λ (o : Option ElementRef). option_map_or h o []) (λ (o : Option ElementRef). option_map_or h' o []) _ _ (superclass_kept at l) by
    where
      by : (o : Option ElementRef) → IfAny L o → Same (option_map_or h o []) (option_map_or h' o [])
      by None g = kept Cs [] tt
      by (Some above) g = hs above g

  within_kept : (levels : ℕ) (at : ElementRef) → L at → Same (present_within one levels (find_in one at)) (present_within other levels (find_in other at))
  unfolding present_within
  within_kept zero at l = directly-kept at l
  within_kept (suc levels) at l =
      let own = directly-kept at l in
      append-kept C _ _ _ _ own
      (through Cs Cs (filter (is_passed_on one (directly_present one (find_in one at)))) (filter (is_passed_on other (directly_present other (find_in other at)))) _ _
      (above_kept (λ above. present_within one levels (find_in one above)) (λ above. present_within other levels (find_in other above)) (within_kept levels) at l)
      (filter-kept C _ _ (passed_on_same _ _ own.equal)))

  pub present-kept : (at : ElementRef) → L at → Same (present_on one at) (present_on other at)
  unfolding present
  present-kept at l = within_kept max_superclasses at l

  -- ---- in a unit

  types_lie : (list : List Carried) → Cs list → Ls (types_of list)
  types_lie list g = filter_map-good C L (λ (c : Carried). c.annotation_type) (λ c h. h.annotation_type) list g

  names_on_same : (at : ElementRef) → L at → names_on one at ≡ names_on other at
  unfolding names_on
  names_on_same at l =
      let k = present-kept at l in
      filter_map-same L (canonical_at one) (canonical_at other) (canonical-same one other Has r) (types_of (present_on one at)) (types_lie (present_on one at) k.good)
      ∙ ap (λ (list : List Carried). filter_map (canonical_at other) (types_of list)) k.equal

  places_lie : (root : List ℕ) → Has root → (list : List Place) → Ls (map (element_at root) list)
  places_lie root l [] = tt
  places_lie root l (at ∷ list) = (l, places_lie root l list)

  elements_kept : (root : List ℕ) → Has root → Kept Ls (elements_in one root) (elements_in other root)
  unfolding elements_in
  elements_kept root l =
      let elements : Option UnitText → List ElementRef = λ o. option_map_or (λ u. map (element_at root) (places u)) o [] in
      by_equal Ls elements elements _ _ (unit-same one other Has r (reference root []) l) (kept Ls (elements (unit_of one root)) (by (unit_of one root)))
    where
      by : (o : Option UnitText) → Ls (option_map_or (λ u. map (element_at root) (places u)) o [])
      by None = tt
      by (Some u) = places_lie root l (places u)

  names_kept : (at : ElementRef) → L at → Kept (AllByRecursion Any) (names_on one at) (names_on other at)
  names_kept at l = record { equal = names_on_same at l; good = each Any (λ name. tt) (names_on one at) }

  unit_names_same : (root : List ℕ) → Has root → names_in_unit one root ≡ names_in_unit other root
  unit_names_same root l = (through Ls (AllByRecursion Any) (flat_map (names_on one)) (flat_map (names_on other)) _ _ (elements_kept root l) (flat_map-kept L Any (names_on one) (names_on other) names_kept)).equal

  annotated_kept : (name root : List ℕ) → Has root → Kept Ls (annotated_in_unit one name root) (annotated_in_unit other name root)
  annotated_kept name root l =
      through Ls Ls (filter (carries one name)) (filter (carries other name)) _ _ (elements_kept root l)
      (filter-kept L (carries one name) (carries other name) (λ at k. ap (list_any (bytes_eq name)) (names_on_same at k)))

  -- ---- in a round

  pub root-same : (root : List ℕ) → Has root → names_present_on one root ≡ names_present_on other root
  unfolding names_present_on
  root-same root l = ap (λ (list : List (List ℕ)). names_in (with_names fin.empty list)) (unit_names_same root l)

  with_names_same : (so_far : names.NameSet) (roots : List (List ℕ)) → AllByRecursion Has roots → with_names_at one so_far roots ≡ with_names_at other so_far roots
  with_names_same so_far [] all = refl
  with_names_same so_far (root ∷ roots) all =
      with_names_same (with_names so_far (names_in_unit one root)) roots all.1
      ∙ ap (λ (list : List (List ℕ)). with_names_at other (with_names so_far list) roots) (unit_names_same root all.0)

  pub round-same : (roots : List (List ℕ)) → AllByRecursion Has roots → RoundStays one other Has roots
  unfolding present_names annotated
  round-same roots all = record {
    names = ap names_in (with_names_same fin.empty roots all);
    elements = λ name. flat_map-kept Has L (annotated_in_unit one name) (annotated_in_unit other name) (annotated_kept name) roots all;
  }

  pub presence-by : PresenceStays one other Has
  presence-by = record {
    elements = λ at l. record { written = directly-kept at l; present = present-kept at l; inherited = is_inherited-same at l };
    roots = root-same;
    rounds = round-same;
  }
