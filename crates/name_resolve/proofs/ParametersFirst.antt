-- The type parameters of an element stand in front of all its other children.
use Rattle.std.proofs.Common.{◌≡◌, ℕ, zero, suc, ◌+◌, ◌-◌, ◌≤◌, Bool, true, false, List, [], ◌∷◌, ◌++◌, length, map, drop, Option, Some, None, slice_get, refl, sym, ap, subst, ◌∙◌, arith}
use Rattle.std.specs.List.{AllByRecursion, fold, enumerate_from}
use Rattle.std.specs.Prelude.{if◌then◌else◌}
use Rattle.apt_base.specs.Limits.{max_children}
use Rattle.decl_tree.specs.declared.member.TypeParam.{TypeParam}
use Rattle.decl_tree.specs.declared.member.Param.{Param}
use Rattle.decl_tree.specs.declared.declaration.Member.{Member, out-Member}
use Rattle.decl_tree.specs.declared.declaration.Member.TheOpen.{Member-F}
use Rattle.decl_tree.specs.declared.declaration.TypeDecl.{TypeDecl}
use Rattle.decl_tree.specs.declared.declaration.TypeKind.{TypeKind}
use Rattle.decl_tree.specs.declared.declaration.TypeKind.TheVariants.{Enum, Class, AnnotationType, Interface}
use Rattle.decl_tree.specs.declared.compilation.UnitText.{UnitText}
use Rattle.decl_elements.specs.Nodes.{Node, OfPackage, Top, Inside, OfTypeParam, OfParam, DefaultConstructor, Values, ValueOf, ValueOfName, has_default_constructor, added_methods, added_constructor, added, type_children, executable_children, member_children, children}
use Rattle.decl_elements.specs.Walk.{Place}
use Rattle.decl_elements.proofs.Everywhere.{OfSome, each_append, each_map, each, each_at}
use Rattle.element_table.specs.declared.part.Part.{Part}
use Rattle.name_resolve.specs.ChildTypes.{is_parameter}
use Rattle.name_resolve.specs.Finds.{Finds, Nothing, is_parameter_named, find_at, one_if}
use Rattle.name_resolve.proofs.ChildRanges.{none_from}
use Rattle.name_resolve.proofs.ChildrenLeft.{from_child}

abbrev NoParameter : Node → Type 0
NoParameter node = is_parameter node ≡ false

-- from the first child that is none on, none is one
abbrev AreFirst : List Node → Type 0
AreFirst xs = (n i : ℕ) (x y : Node) → slice_get xs n ≡ Some x → NoParameter x → n ≤ i → slice_get xs i ≡ Some y → NoParameter y

of_none : (xs : List Node) → AllByRecursion NoParameter xs → AreFirst xs
of_none xs none n i x y at is behind at' = subst (OfSome NoParameter) at' (each_at NoParameter xs i none)

behind_parameters : (ps : List TypeParam) (rest : List Node) → AllByRecursion NoParameter rest → AreFirst (map OfTypeParam ps ++ rest)
behind_parameters [] rest none n i x y at is behind at' = of_none rest none n i x y at is behind at'
behind_parameters (p ∷ ps) rest none zero i x y at is behind at' =
    let first : OfTypeParam p ≡ x = cc in
    let no : is_parameter (OfTypeParam p) ≡ false = ap is_parameter first ∙ is in
    absurd (cc)
behind_parameters (p ∷ ps) rest none (suc n) zero x y at is behind at' = absurd (omega (arith, behind))
behind_parameters (p ∷ ps) rest none (suc n) (suc i) x y at is behind at' = behind_parameters ps rest none n i x y at is (omega (arith, behind)) at'

none_in_constructor : (b : Bool) (around : Option TypeKind) (d : TypeDecl) → AllByRecursion NoParameter (if b then DefaultConstructor around d ∷ [] else [])
none_in_constructor true around d = (refl, tt)
none_in_constructor false around d = tt

none_in_methods : (kind : TypeKind) → AllByRecursion NoParameter (added_methods kind)
none_in_methods Enum = (refl, (refl, tt))
none_in_methods Class = tt
none_in_methods AnnotationType = tt
none_in_methods Interface = tt

of_type : (around : Option TypeKind) (d : TypeDecl) → AreFirst (type_children around d)
of_type around d =
    behind_parameters d.parameters (map (Inside d.kind) d.members ++ added around d)
    (each_append NoParameter (map (Inside d.kind) d.members) (added around d) (each_map NoParameter (Inside d.kind) d.members (each (λ m. NoParameter (Inside d.kind m)) (λ m. refl) d.members))
    (each_append NoParameter (added_constructor around d) (added_methods d.kind) (none_in_constructor (has_default_constructor d.kind d.members) around d) (none_in_methods d.kind)))

of_executable : (ps : List TypeParam) (args : List Param) → AreFirst (executable_children ps args)
of_executable ps args = behind_parameters ps (map OfParam args) (each_map NoParameter OfParam args (each (λ p. NoParameter (OfParam p)) (λ p. refl) args))

of_member : (kind : TypeKind) (m : Member-F Member TypeDecl) → AreFirst (member_children kind m)
of_member kind (Member-F.Field field) = of_none [] tt
of_member kind (Member-F.Method method) = of_executable method.parameters method.arguments
of_member kind (Member-F.Constructor constructor) = of_executable constructor.parameters constructor.arguments
of_member kind (Member-F.Constant constant) = of_none [] tt
of_member kind (Member-F.Nested d) = of_type (Some kind) d

parameters-first : (node : Node) → AreFirst (children node)
unfolding children
parameters-first (OfPackage info) = of_none [] tt
parameters-first (Top d) = of_type None d
parameters-first (Inside kind member) = of_member kind (out-Member member)
parameters-first (OfTypeParam parameter) = of_none [] tt
parameters-first (OfParam parameter) = of_none [] tt
parameters-first (DefaultConstructor around d) = of_none [] tt
parameters-first Values = of_none [] tt
parameters-first ValueOf = of_none (ValueOfName ∷ []) (refl, tt)
parameters-first ValueOfName = of_none [] tt

-- ---- lists

at_drop : (n : ℕ) (xs : List Node) (i : ℕ) → slice_get (drop n xs) i ≡ slice_get xs (n + i)
at_drop n [] i = none n
  where
    none : (n : ℕ) → slice_get (drop n (let nothing : List Node = [] in nothing)) i ≡ None
    none zero = refl
    none (suc n) = refl
at_drop zero (x ∷ xs) i = let same : i ≡ 0 + i = omega arith in ap (slice_get (x ∷ xs)) same
at_drop (suc n) (x ∷ xs) i = let next : suc (n + i) ≡ suc n + i = omega arith in at_drop n xs i ∙ ap (slice_get (x ∷ xs)) next

pub none_past : (xs : List Node) (n : ℕ) → length xs ≤ n → slice_get xs n ≡ None
none_past [] n past = refl
none_past (x ∷ xs) zero past = absurd (omega (arith, past))
none_past (x ∷ xs) (suc n) past = none_past xs n (omega (arith, past))

named-parameter : (name : List ℕ) (node : Node) → NoParameter node → is_parameter_named name node ≡ true → ⊥
named-parameter name (OfTypeParam p) none named = absurd (cc)
named-parameter name (OfPackage info) none named = absurd (cc)
named-parameter name (Top d) none named = absurd (cc)
named-parameter name (Inside kind member) none named = absurd (cc)
named-parameter name (OfParam p) none named = absurd (cc)
named-parameter name (DefaultConstructor around d) none named = absurd (cc)
named-parameter name Values none named = absurd (cc)
named-parameter name ValueOf none named = absurd (cc)
named-parameter name ValueOfName none named = absurd (cc)

-- from a child on that is no type parameter there are no more
pub no_more : (name : List ℕ) (part : Part) (u : UnitText) (at : Place) (finds : Finds) (n : ℕ) (child : Node) → slice_get (children at.node) n ≡ Some child → NoParameter child
    → from_child (is_parameter_named name) part u at finds n ≡ finds
unfolding from_child
no_more name part u at finds n child there none =
    none_from (is_parameter_named name) part u at.path n (drop n (children at.node)) finds
    (λ i x here named. named-parameter name x (parameters-first at.node n (n + i) child x there none (omega arith) (sym (at_drop n (children at.node) i) ∙ here)) named)
