-- The supertypes of a type are the same mirrors where the names in its header mean the same.
use Rattle.std.proofs.Common.{◌≡◌, ℕ, Bool, true, false, List, [], ◌∷◌, map, codes, Option, None, Some, refl, ap}
use Rattle.std.specs.List.{AllByRecursion}
use Rattle.decl_tree.specs.declared.type_text.TypeText.{TypeText}
use Rattle.decl_tree.specs.declared.declaration.TypeKind.{TypeKind}
use Rattle.decl_tree.specs.declared.declaration.TypeKind.TheVariants as kind
use Rattle.decl_tree.specs.declared.declaration.TypeDecl.{TypeDecl}
use Rattle.element_table.specs.TypeTable.{TypeTable}
use Rattle.name_resolve.specs.Ways.{type_at}
use Rattle.name_resolve.specs.Finds.{Find, Finds}
use Rattle.name_resolve.specs.Supertypes.{Supertype, Written, Implied, is_object, written_or_object, superclass_in, interfaces_in}
use Rattle.name_resolve.specs.Meaning.{Header, tops_of}
use Rattle.name_resolve.specs.Mirrors.{Meant, look_at, found_mirror, type_meaning, implied_arguments, supertype_mirror, first_or_nothing, superclass_of, superclass, interfaces_of, interfaces}
use Rattle.reach_map.specs.Chains.{of_option, type_chains}
use Rattle.decl_elements.proofs.Everywhere.{OfSome, each_map, each_to}
use Rattle.reach_map.proofs.SameMirrors.{SameAt, same_mirror}
use Rattle.reach_map.proofs.WrittenChains.{OfHeader, of_superclass, of_interface_chains}

map_same : {A B : Type 0} (h k : A → B) (xs : List A) → AllByRecursion (λ x. h x ≡ k x) xs → map h xs ≡ map k xs
map_same h k [] a = refl
map_same h k (x ∷ xs) a = rw (a.0, map_same h k xs a.1) refl

module _ (one other : TypeTable) (f : Find) where
  abbrev Same : List (List ℕ) → Type 0
  Same = SameAt (look_at one (Header f)) (look_at other (Header f))

  abbrev SameTop : List ℕ → Type 0
  SameTop name = tops_of one f.part name ≡ tops_of other f.part name

  abbrev SameSupertype : Supertype → Type 0
  SameSupertype s = supertype_mirror one f s ≡ supertype_mirror other f s

  same_written : (text : TypeText) → AllByRecursion Same (type_chains text) → SameSupertype (Written text)
  unfolding type_meaning
  same_written text a = ap (λ (m : Meant). m.mirror) (same_mirror (look_at one (Header f)) (look_at other (Header f)) text a)

  same_implied : (name : List ℕ) → SameTop name → SameSupertype (Implied name)
  same_implied name e = ap (λ (fs : Finds). found_mirror fs name None (implied_arguments f name)) e

  module _ (nothing : Same []) (object : SameTop (codes "java.lang.Object")) (enum : SameTop (codes "java.lang.Enum")) (annotation : SameTop (codes "java.lang.annotation.Annotation")) where
    of_written : (t : Option TypeText) → AllByRecursion Same (of_option type_chains t) → AllByRecursion SameSupertype (written_or_object t)
    of_written None a = (same_implied (codes "java.lang.Object") object, tt)
    of_written (Some text) a = (same_written text a, tt)

    of_class : (of_object : Bool) (k : TypeKind) (d : TypeDecl) → OfHeader Same d → AllByRecursion SameSupertype (superclass_in of_object k d)
    of_class true kind.Class d a = tt
    of_class false kind.Class d a = of_written d.superclass (of_superclass Same nothing d a)
    of_class b kind.Enum d a = (same_implied (codes "java.lang.Enum") enum, tt)
    of_class b kind.AnnotationType d a = tt
    of_class b kind.Interface d a = tt

    of_texts : (d : TypeDecl) → OfHeader Same d → AllByRecursion SameSupertype (map Written d.interfaces)
    of_texts d a = each_map SameSupertype Written d.interfaces (each_to _ _ same_written d.interfaces (of_interface_chains Same nothing d a))

    of_interfaces : (k : TypeKind) (d : TypeDecl) → OfHeader Same d → AllByRecursion SameSupertype (interfaces_in k d)
    of_interfaces kind.Class d a = of_texts d a
    of_interfaces kind.Enum d a = of_texts d a
    of_interfaces kind.AnnotationType d a = (same_implied (codes "java.lang.annotation.Annotation") annotation, tt)
    of_interfaces kind.Interface d a = of_texts d a

    superclass_same : (d : Option TypeDecl) → OfSome (λ d. OfHeader Same d) d → superclass_of one f d ≡ superclass_of other f d
    superclass_same None a = refl
    superclass_same (Some d) a = ap first_or_nothing (map_same (supertype_mirror one f) (supertype_mirror other f) (superclass_in (is_object f) d.kind d) (of_class (is_object f) d.kind d a))

    interfaces_same : (d : Option TypeDecl) → OfSome (λ d. OfHeader Same d) d → interfaces_of one f d ≡ interfaces_of other f d
    interfaces_same None a = refl
    interfaces_same (Some d) a = map_same (supertype_mirror one f) (supertype_mirror other f) (interfaces_in d.kind d) (of_interfaces d.kind d a)

    -- of a type whose chains mean the same in its header
    pub superclass-same : OfSome (λ d. OfHeader Same d) (type_at f.unit f.path) → superclass one f ≡ superclass other f
    unfolding superclass
    superclass-same a = superclass_same (type_at f.unit f.path) a

    pub interfaces-same : OfSome (λ d. OfHeader Same d) (type_at f.unit f.path) → interfaces one f ≡ interfaces other f
    unfolding interfaces
    interfaces-same a = interfaces_same (type_at f.unit f.path) a
