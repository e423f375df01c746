-- Each child list of a legal unit has at most 65,535 items.
use Rattle.std.proofs.Common.{◌≡◌, ℕ, zero, suc, ◌+◌, ◌≤◌, Bool, true, false, ◌&&◌, List, [], ◌∷◌, ◌++◌, map, length, lit≤, Option, Some, None, refl, sym, ap, subst, ◌∙◌, arith}
use Rattle.std.specs.Prelude.{slice_get, nat_le, ◌==◌, not, if◌then◌else◌}
use Rattle.std.specs.List.{list_all, list_any}
use Rattle.std.specs.Option.{option_and_then}
use Rattle.std.proofs.lemmas.Bool.{leb-true}
use Rattle.std.proofs.lemmas.List.{length-map, length-append}
use Rattle.std.proofs.lemmas.Option.{same_Some, none-some}
use Rattle.apt_base.specs.Forms.{is_short}
use Rattle.apt_base.specs.Limits.{max_children, max_depth}
use Rattle.decl_tree.specs.Legal.{is_legal, is_legal_body, is_legal_declaration, inside_declaration, declaration_fits, member_fits, is_legal_method, is_legal_constructor, are_few, constructs, default_constructors, enum_methods, package_start}
use Rattle.decl_tree.specs.Legal as legal
use Rattle.decl_tree.specs.declared.member.TypeParam.{TypeParam}
use Rattle.decl_tree.specs.declared.member.Param.{Param}
use Rattle.decl_tree.specs.declared.declaration.TypeKind.{TypeKind}
use Rattle.decl_tree.specs.declared.declaration.TypeKind.TheVariants.{Enum, Class, AnnotationType, Interface}
use Rattle.decl_tree.specs.declared.declaration.Member.{Member, out-Member}
use Rattle.decl_tree.specs.declared.declaration.Member.TheOpen.{Member-F}
use Rattle.decl_tree.specs.declared.declaration.TypeDecl.{TypeDecl}
use Rattle.decl_tree.specs.declared.compilation.Body.{Body}
use Rattle.decl_tree.specs.declared.compilation.Body.TheVariants.{Declared, Info}
use Rattle.decl_tree.specs.declared.compilation.UnitText.{UnitText}
use Rattle.decl_elements.specs.Nodes.{Node, OfPackage, Top, Inside, OfTypeParam, OfParam, DefaultConstructor, Values, ValueOf, ValueOfName, has_default_constructor, added_constructor, added_methods, added, type_children, executable_children, member_children, children, down, body_root, root}

left : (a b : Bool) → (a && b) ≡ true → a ≡ true
left true b e = refl
left false b e = e

right : (a b : Bool) → (a && b) ≡ true → b ≡ true
right true b e = e
right false b e = absurd (cc)

-- ---- how many children there are

default_count : (kind : TypeKind) (members : List Member) (around : Option TypeKind) (d : TypeDecl) → length (if has_default_constructor kind members then DefaultConstructor around d ∷ [] else []) ≡ default_constructors kind members
default_count Enum members around d = elim (list_any (λ m. constructs (out-Member m)) members) as (λ b. length (if not ((if b then 0 else 1) == 0) then DefaultConstructor around d ∷ [] else []) ≡ (if b then 0 else 1)) [ true ↦ refl | false ↦ refl ]
default_count Class members around d = elim (list_any (λ m. constructs (out-Member m)) members) as (λ b. length (if not ((if b then 0 else 1) == 0) then DefaultConstructor around d ∷ [] else []) ≡ (if b then 0 else 1)) [ true ↦ refl | false ↦ refl ]
default_count AnnotationType members around d = refl
default_count Interface members around d = refl

method_count : (kind : TypeKind) → length (added_methods kind) ≡ enum_methods kind
method_count Enum = refl
method_count Class = refl
method_count AnnotationType = refl
method_count Interface = refl

pub length-type_children : (around : Option TypeKind) (d : TypeDecl) → length (type_children around d) ≡ legal.children d
length-type_children around d =
    let params : length (map OfTypeParam d.parameters) ≡ length d.parameters = length-map d.parameters OfTypeParam in
    let members : length (map (Inside d.kind) d.members) ≡ length d.members = length-map d.members (Inside d.kind) in
    let all : length (type_children around d) ≡ length (map OfTypeParam d.parameters) + length (map (Inside d.kind) d.members ++ added around d) = length-append (map OfTypeParam d.parameters) (map (Inside d.kind) d.members ++ added around d) in
    let rest : length (map (Inside d.kind) d.members ++ added around d) ≡ length (map (Inside d.kind) d.members) + length (added around d) = length-append (map (Inside d.kind) d.members) (added around d) in
    let more : length (added around d) ≡ length (added_constructor around d) + length (added_methods d.kind) = length-append (added_constructor around d) (added_methods d.kind) in
    let constructors : length (added_constructor around d) ≡ default_constructors d.kind d.members = default_count d.kind d.members around d in
    let methods : length (added_methods d.kind) ≡ enum_methods d.kind = method_count d.kind in
    omega arith

pub length-executable_children : (ps : List TypeParam) (ns : List Param) → length (executable_children ps ns) ≡ length ps + length ns
length-executable_children ps ns =
    let params : length (map OfTypeParam ps) ≡ length ps = length-map ps OfTypeParam in
    let arguments : length (map OfParam ns) ≡ length ns = length-map ns OfParam in
    let all : length (executable_children ps ns) ≡ length (map OfTypeParam ps) + length (map OfParam ns) = length-append (map OfTypeParam ps) (map OfParam ns) in
    omega arith

-- ---- what is legal

-- a part of a legal unit
abbrev IsFit : Node → Type 0
IsFit (OfPackage info) = Unit {0}
IsFit (Top d) = (room : ℕ) × (start : ℕ) × (declaration_fits (inside_declaration room) room start d ≡ true)
IsFit (Inside kind member) = (room : ℕ) × (start : ℕ) × (member_fits room (inside_declaration room start) (out-Member member) ≡ true)
IsFit (OfTypeParam parameter) = Unit {0}
IsFit (OfParam parameter) = Unit {0}
IsFit (DefaultConstructor around d) = Unit {0}
IsFit Values = Unit {0}
IsFit ValueOf = Unit {0}
IsFit ValueOfName = Unit {0}

abbrev AllFit : List Node → Type 0
AllFit [] = Unit {0}
AllFit (n ∷ ns) = IsFit n × AllFit ns

joined : (xs ys : List Node) → AllFit xs → AllFit ys → AllFit (xs ++ ys)
joined [] ys f g = g
joined (x ∷ xs) ys f g = (f.0, joined xs ys f.1 g)

fit_at : (ns : List Node) (k : ℕ) (n : Node) → AllFit ns → slice_get ns k ≡ Some n → IsFit n
fit_at [] k n f e = absurd (none-some _ e)
fit_at (m ∷ ns) zero n f e = subst IsFit (same_Some _ _ e) f.0
fit_at (m ∷ ns) (suc k) n f e = fit_at ns k n f.1 e

params_fit : (ps : List TypeParam) → AllFit (map OfTypeParam ps)
params_fit [] = tt
params_fit (p ∷ ps) = (tt, params_fit ps)

arguments_fit : (ns : List Param) → AllFit (map OfParam ns)
arguments_fit [] = tt
arguments_fit (n ∷ ns) = (tt, arguments_fit ns)

members_fit : (kind : TypeKind) (room start : ℕ) (ms : List Member) → list_all (λ m. member_fits room (inside_declaration room start) (out-Member m)) ms ≡ true → AllFit (map (Inside kind) ms)
members_fit kind room start [] e = tt
members_fit kind room start (m ∷ ms) e = ((room, start, left _ _ e), members_fit kind room start ms (right _ _ e))

constructor_fits : (b : Bool) (around : Option TypeKind) (d : TypeDecl) → AllFit (if b then DefaultConstructor around d ∷ [] else [])
constructor_fits true around d = (tt, tt)
constructor_fits false around d = tt

methods_fit : (kind : TypeKind) → AllFit (added_methods kind)
methods_fit Enum = (tt, (tt, tt))
methods_fit Class = tt
methods_fit AnnotationType = tt
methods_fit Interface = tt

type_children_fit : (around : Option TypeKind) (room start : ℕ) (d : TypeDecl) → declaration_fits (inside_declaration room) room start d ≡ true → AllFit (type_children around d)
type_children_fit around room start d e =
    joined (map OfTypeParam d.parameters) (map (Inside d.kind) d.members ++ added around d) (params_fit d.parameters)
    (joined (map (Inside d.kind) d.members) (added around d) (members_fit d.kind room (start + length d.name + 1) d.members (right _ _ (right _ _ (left _ _ e))))
    (joined (added_constructor around d) (added_methods d.kind) (constructor_fits (has_default_constructor d.kind d.members) around d) (methods_fit d.kind)))

-- a nested type has room for one level less
nested_fit : (around : Option TypeKind) (room start : ℕ) (d : TypeDecl) → inside_declaration room start d ≡ true → AllFit (type_children around d)
unfolding inside_declaration
nested_fit around zero start d e = absurd (cc)
nested_fit around (suc room) start d e = type_children_fit around room start d e

executable_fit : (ps : List TypeParam) (ns : List Param) → AllFit (executable_children ps ns)
executable_fit ps ns = joined (map OfTypeParam ps) (map OfParam ns) (params_fit ps) (arguments_fit ns)

member_children_fit : (kind : TypeKind) (room start : ℕ) (m : Member-F Member TypeDecl) → member_fits room (inside_declaration room start) m ≡ true → AllFit (member_children kind m)
member_children_fit kind room start (Member-F.Field field) e = tt
member_children_fit kind room start (Member-F.Method method) e = executable_fit method.parameters method.arguments
member_children_fit kind room start (Member-F.Constructor constructor) e = executable_fit constructor.parameters constructor.arguments
member_children_fit kind room start (Member-F.Constant constant) e = tt
member_children_fit kind room start (Member-F.Nested d) e = nested_fit (Some kind) room start d e

children_fit : (n : Node) → IsFit n → AllFit (children n)
unfolding children
children_fit (OfPackage info) f = tt
children_fit (Top d) f = type_children_fit None f.0 f.1 d f.2
children_fit (Inside kind member) f = member_children_fit kind f.0 f.1 (out-Member member) f.2
children_fit (OfTypeParam parameter) f = tt
children_fit (OfParam parameter) f = tt
children_fit (DefaultConstructor around d) f = tt
children_fit Values f = tt
children_fit ValueOf f = (tt, tt)
children_fit ValueOfName f = tt

-- ---- few children

last_fits : (room start : ℕ) (d : TypeDecl) → declaration_fits (inside_declaration room) room start d ≡ true → are_few (legal.children d) ≡ true
last_fits room start d e = right _ (are_few (legal.children d)) e

few_of_type : (around : Option TypeKind) (room start : ℕ) (d : TypeDecl) → declaration_fits (inside_declaration room) room start d ≡ true → length (type_children around d) ≤ max_children
few_of_type around room start d e =
    let few : legal.children d ≤ max_children = leb-true (legal.children d) max_children (last_fits room start d e) in
    let same : length (type_children around d) ≡ legal.children d = length-type_children around d in
    omega arith

few_of_nested : (around : Option TypeKind) (room start : ℕ) (d : TypeDecl) → inside_declaration room start d ≡ true → length (type_children around d) ≤ max_children
unfolding inside_declaration
few_of_nested around zero start d e = absurd (cc)
few_of_nested around (suc room) start d e = few_of_type around room start d e

few_of_executable : (ps : List TypeParam) (ns : List Param) → are_few (length ps + length ns) ≡ true → length (executable_children ps ns) ≤ max_children
few_of_executable ps ns e =
    let few : length ps + length ns ≤ max_children = leb-true (length ps + length ns) max_children e in
    let same : length (executable_children ps ns) ≡ length ps + length ns = length-executable_children ps ns in
    omega arith

few_of_member : (kind : TypeKind) (room start : ℕ) (m : Member-F Member TypeDecl) → member_fits room (inside_declaration room start) m ≡ true → length (member_children kind m) ≤ max_children
unfolding is_legal_method is_legal_constructor
few_of_member kind room start (Member-F.Field field) e = lit≤ tt
few_of_member kind room start (Member-F.Method method) e = few_of_executable method.parameters method.arguments (right _ _ e)
few_of_member kind room start (Member-F.Constructor constructor) e = few_of_executable constructor.parameters constructor.arguments (right _ _ e)
few_of_member kind room start (Member-F.Constant constant) e = lit≤ tt
few_of_member kind room start (Member-F.Nested d) e = few_of_nested (Some kind) room start d e

few_children : (n : Node) → IsFit n → length (children n) ≤ max_children
unfolding children
few_children (OfPackage info) f = lit≤ tt
few_children (Top d) f = few_of_type None f.0 f.1 d f.2
few_children (Inside kind member) f = few_of_member kind f.0 f.1 (out-Member member) f.2
few_children (OfTypeParam parameter) f = lit≤ tt
few_children (OfParam parameter) f = lit≤ tt
few_children (DefaultConstructor around d) f = lit≤ tt
few_children Values f = lit≤ tt
few_children ValueOf f = lit≤ tt
few_children ValueOfName f = lit≤ tt

-- ---- places of a unit

body_fits : (u : UnitText) (body : Body) (room start : ℕ) → is_legal_body room start body ≡ true → IsFit (body_root u body)
unfolding is_legal_body is_legal_declaration
body_fits u (Declared d) room start e = (room, start, e)
body_fits u (Info annotations doc) room start e = tt

root_fits : (u : UnitText) → is_legal u ≡ true → IsFit (root u)
unfolding is_legal root
root_fits u e = body_fits u u.body max_depth (package_start u.package) (right _ _ e)

fit_down : (path : List ℕ) (n m : Node) → IsFit n → down path n ≡ Some m → IsFit m
fit_down [] n m f e = subst IsFit (same_Some _ _ e) f
fit_down (at ∷ path) n m f e =
    elim (slice_get (children n) at) as (λ o. slice_get (children n) at ≡ o → option_and_then (λ child. down path child) o ≡ Some m → IsFit m) [
      | None ↦ λ is e. absurd (none-some _ e)
      | Some c ↦ λ is e. fit_down path c m (fit_at (children n) at c (children_fit n f) is) e
    ] refl e

pub few_at : (u : UnitText) (path : List ℕ) (m : Node) → is_legal u ≡ true → down path (root u) ≡ Some m → length (children m) ≤ max_children
few_at u path m legal e = few_children m (fit_down path (root u) m (root_fits u legal) e)
