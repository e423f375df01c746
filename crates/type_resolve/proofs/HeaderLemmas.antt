-- The superclass and the interfaces of a type as mirrors, by the supertypes that its header names or implies.
use Rattle.std.proofs.Common.{◌≡◌, ℕ, List, [], ◌∷◌, map, Option, None, Some, Result, Ok, Err, IfOk, refl, sym, ap, ◌∙◌}
use Rattle.decl_tree.specs.declared.declaration.TypeDecl.{TypeDecl}
use Rattle.element_table.specs.TypeTable.{TypeTable}
use Rattle.name_resolve.specs.Ways.{type_at}
use Rattle.name_resolve.specs.Finds.{Find}
use Rattle.name_resolve.specs.Meaning.{tops_of}
use Rattle.name_resolve.specs.Shown.{super_of}
use Rattle.name_resolve.specs.declared.headers.Supertype.{Supertype as Shown}
use Rattle.name_resolve.specs.Supertypes.{Implied, is_object, superclass_if, superclass_at, interfaces_if, interfaces_at}
use Rattle.type_mirror.specs.declared.mirror.Mirror.{Mirror}
use Rattle.type_resolve.specs.MirrorParts.{supertype_mirrors}
use Rattle.name_resolve.specs.Mirrors.{found_mirror, implied_arguments, supertype_mirror, first_or_nothing, superclass_of, interfaces_of, superclass, interfaces}

module _ (table : TypeTable) (f : Find) where
  superclass_by : (d : Option TypeDecl) → superclass_of table f d ≡ first_or_nothing (map (supertype_mirror table f) (superclass_if (is_object f) d))
  superclass_by None = refl
  superclass_by (Some d) = refl

  interfaces_by : (d : Option TypeDecl) → interfaces_of table f d ≡ map (supertype_mirror table f) (interfaces_if d)
  interfaces_by None = refl
  interfaces_by (Some d) = refl

  pub superclass-is : superclass table f ≡ first_or_nothing (map (supertype_mirror table f) (superclass_at f))
  unfolding superclass superclass_at
  superclass-is = superclass_by (type_at f.unit f.path)

  pub interfaces-is : interfaces table f ≡ map (supertype_mirror table f) (interfaces_at f)
  unfolding interfaces interfaces_at
  interfaces-is = interfaces_by (type_at f.unit f.path)

  mirrors_mapped : (list : List Shown) → supertype_mirrors table f list ≡ map (supertype_mirror table f) (map super_of list)
  mirrors_mapped [] = refl
  mirrors_mapped (s ∷ list) = ap (λ (ms : List Mirror). supertype_mirror table f (super_of s) ∷ ms) (mirrors_mapped list)

  pub interfaces-from : (list : List Shown) → map super_of list ≡ interfaces_at f → supertype_mirrors table f list ≡ interfaces table f
  interfaces-from list e = mirrors_mapped list ∙ ap (map (supertype_mirror table f)) e ∙ sym interfaces-is

  -- what an implied name gives
  pub implied-gives : {E : Type 0} (r : Result Mirror E) (name : List ℕ) (arguments : List Mirror) → arguments ≡ implied_arguments f name
      → IfOk r (λ m. m ≡ found_mirror (tops_of table f.part name) name None arguments) → IfOk r (λ m. m ≡ supertype_mirror table f (Implied name))
  implied-gives (Ok m) name arguments e h = h ∙ ap (found_mirror (tops_of table f.part name) name None) e
  implied-gives (Err e) name arguments same h = tt

pub ruleset headers = (superclass-is, interfaces-from)
