-- The walk over a unit: one step down at a time, without a number of steps, and that it is all that stands in the unit.
use Rattle.std.proofs.Common.{◌≡◌, ℕ, zero, suc, ◌+◌, ◌<◌, ◌≤◌, max, Bool, true, false, List, [], ◌∷◌, ◌++◌, map, Contains, Option, None, Some, slice_get, if◌then◌else◌, refl, sym, ap, subst, ◌∙◌, append_assoc, append-nil, arith}
use Rattle.std.specs.List.{AllByRecursion, enumerate_from, flat_map, fold}
use Rattle.std.specs.List.Sorted.{IsStrictlySortedBy}
use Rattle.std.specs.Ordering.{nat_cmp, ordering_then, MatchOrdering}
use Rattle.std.specs.declared.cmp.Ordering.TheVariants.{Less, Equal, Greater}
use Rattle.std.specs.Cmp.Lexicographic.{slice_cmp}
use Rattle.std.specs.Option.{option_and_then}
use Rattle.std.proofs.lemmas.Cmp.{ranked}
use Rattle.std.proofs.lemmas.List.Elements.{Contains-append_left, Contains-append_right}
use Rattle.std.proofs.lemmas.Option.{same_Some, none-some}
use Rattle.decl_tree.specs.declared.member.TypeParam.{TypeParam}
use Rattle.decl_tree.specs.declared.member.Param.{Param}
use Rattle.decl_tree.specs.declared.declaration.TypeKind.{TypeKind}
use Rattle.decl_tree.specs.declared.declaration.TypeKind.TheVariants.{Enum, Class, AnnotationType, Interface}
use Rattle.decl_tree.specs.declared.declaration.Member.{Member, out-Member, roll-Member, roll-out-Member}
use Rattle.decl_tree.specs.declared.declaration.Member.TheOpen.{Member-F}
use Rattle.decl_tree.specs.declared.declaration.Member.TheFolds.{fold-Member, fold-roll-Member, fold_out-TypeDecl}
use Rattle.decl_tree.specs.declared.declaration.TypeDecl.{TypeDecl}
use Rattle.decl_tree.specs.declared.compilation.UnitText.{UnitText}
use Rattle.decl_elements.proofs.Everywhere.{each_append, each_of_map, each_map, each_to, each}
use Rattle.decl_elements.specs.Nodes.{Node, OfPackage, Top, Inside, OfTypeParam, OfParam, DefaultConstructor, Values, ValueOf, ValueOfName, has_default_constructor, added_constructor, added_methods, added, type_children, executable_children, member_children, children, down, root}
use Rattle.decl_elements.specs.Walk.{Place, place_of, child_of, children_of, member_steps, declaration_steps, type_steps, inside_steps, steps_below, within_steps, all_below, places, ArePlaces}

-- ---- lists

flat_map-same : {A B : Type 0} (f g : A → List B) (xs : List A) → AllByRecursion (λ x. f x ≡ g x) xs → flat_map f xs ≡ flat_map g xs
flat_map-same f g [] a = refl
flat_map-same f g (x ∷ xs) a = ap (λ l. l ++ flat_map f xs) a.0 ∙ ap (λ l. g x ++ l) (flat_map-same f g xs a.1)

fold_max-start : (a : ℕ) (xs : List ℕ) → a ≤ fold max a xs
fold_max-start a [] = omega arith
fold_max-start a (x ∷ xs) = let more : max a x ≤ fold max (max a x) xs = fold_max-start (max a x) xs in omega arith

fold_max-each : (a : ℕ) (xs : List ℕ) → AllByRecursion (λ x. x ≤ fold max a xs) xs
fold_max-each a [] = tt
fold_max-each a (x ∷ xs) =
    let more : max a x ≤ fold max (max a x) xs = fold_max-start (max a x) xs in
    let here : x ≤ fold max (max a x) xs = omega arith in
    (here, fold_max-each (max a x) xs)

-- ---- how many steps lead down from a node at most

abbrev number : Member → ℕ
number = fold-Member ℕ ℕ member_steps declaration_steps

number-rolled : (x : Member-F Member TypeDecl) → number (roll-Member x) ≡ suc (inside_steps x)
unfolding type_steps
number-rolled (Member-F.Field field) = fold-roll-Member ℕ ℕ member_steps declaration_steps (Member-F.Field field)
number-rolled (Member-F.Method method) = fold-roll-Member ℕ ℕ member_steps declaration_steps (Member-F.Method method)
number-rolled (Member-F.Constructor constructor) = fold-roll-Member ℕ ℕ member_steps declaration_steps (Member-F.Constructor constructor)
number-rolled (Member-F.Constant constant) = fold-roll-Member ℕ ℕ member_steps declaration_steps (Member-F.Constant constant)
number-rolled (Member-F.Nested d) = fold-roll-Member ℕ ℕ member_steps declaration_steps (Member-F.Nested d)

number-is : (m : Member) → number m ≡ suc (inside_steps (out-Member m))
number-is m = ap number (sym (roll-out-Member m)) ∙ number-rolled (out-Member m)

type_steps-is : (d : TypeDecl) → type_steps d ≡ fold max 2 (map number d.members)
unfolding type_steps
type_steps-is d = fold_out-TypeDecl ℕ ℕ member_steps declaration_steps d

two_steps : (d : TypeDecl) → 2 ≤ type_steps d
two_steps d = let is : type_steps d ≡ fold max 2 (map number d.members) = type_steps-is d in let start : 2 ≤ fold max 2 (map number d.members) = fold_max-start 2 (map number d.members) in omega arith

-- a node from which fewer than these steps lead down
abbrev Fewer : ℕ → Node → Type 0
Fewer n node = suc (steps_below node) ≤ n

one_member : (d : TypeDecl) (m : Member) → number m ≤ fold max 2 (map number d.members) → Fewer (type_steps d) (Inside d.kind m)
one_member d m within =
    let is : type_steps d ≡ fold max 2 (map number d.members) = type_steps-is d in
    let this : number m ≡ suc (inside_steps (out-Member m)) = number-is m in
    omega arith

members_fewer : (d : TypeDecl) → AllByRecursion (Fewer (type_steps d)) (map (Inside d.kind) d.members)
members_fewer d =
    each_map (Fewer (type_steps d)) (Inside d.kind) d.members
    (each_to (λ m. number m ≤ fold max 2 (map number d.members)) (λ m. Fewer (type_steps d) (Inside d.kind m)) (one_member d) d.members
    (each_of_map (λ n. n ≤ fold max 2 (map number d.members)) number d.members (fold_max-each 2 (map number d.members))))

type_params_fewer : (n : ℕ) → 1 ≤ n → (ps : List TypeParam) → AllByRecursion (Fewer n) (map OfTypeParam ps)
type_params_fewer n some [] = tt
type_params_fewer n some (p ∷ ps) = (some, type_params_fewer n some ps)

params_fewer : (n : ℕ) → 1 ≤ n → (ps : List Param) → AllByRecursion (Fewer n) (map OfParam ps)
params_fewer n some [] = tt
params_fewer n some (p ∷ ps) = (some, params_fewer n some ps)

constructor_fewer : (n : ℕ) → 1 ≤ n → (b : Bool) (around : Option TypeKind) (d : TypeDecl) → AllByRecursion (Fewer n) (if b then DefaultConstructor around d ∷ [] else [])
constructor_fewer n some true around d = (some, tt)
constructor_fewer n some false around d = tt

methods_fewer : (n : ℕ) → 2 ≤ n → (kind : TypeKind) → AllByRecursion (Fewer n) (added_methods kind)
methods_fewer n two Enum = let one : 1 ≤ n = omega arith in (one, (two, tt))
methods_fewer n two Class = tt
methods_fewer n two AnnotationType = tt
methods_fewer n two Interface = tt

type_children_fewer : (around : Option TypeKind) (d : TypeDecl) → AllByRecursion (Fewer (type_steps d)) (type_children around d)
type_children_fewer around d =
    let two : 2 ≤ type_steps d = two_steps d in
    let one : 1 ≤ type_steps d = omega arith in
    each_append (Fewer (type_steps d)) (map OfTypeParam d.parameters) (map (Inside d.kind) d.members ++ added around d) (type_params_fewer (type_steps d) one d.parameters)
    (each_append (Fewer (type_steps d)) (map (Inside d.kind) d.members) (added around d) (members_fewer d)
    (each_append (Fewer (type_steps d)) (added_constructor around d) (added_methods d.kind)
    (constructor_fewer (type_steps d) one (has_default_constructor d.kind d.members) around d) (methods_fewer (type_steps d) two d.kind)))

executable_fewer : (ps : List TypeParam) (ns : List Param) → AllByRecursion (Fewer 1) (executable_children ps ns)
executable_fewer ps ns =
    let one : 1 ≤ 1 = omega arith in
    each_append (Fewer 1) (map OfTypeParam ps) (map OfParam ns) (type_params_fewer 1 one ps) (params_fewer 1 one ns)

member_children_fewer : (kind : TypeKind) (m : Member-F Member TypeDecl) → AllByRecursion (Fewer (inside_steps m)) (member_children kind m)
member_children_fewer kind (Member-F.Field field) = tt
member_children_fewer kind (Member-F.Method method) = executable_fewer method.parameters method.arguments
member_children_fewer kind (Member-F.Constructor constructor) = executable_fewer constructor.parameters constructor.arguments
member_children_fewer kind (Member-F.Constant constant) = tt
member_children_fewer kind (Member-F.Nested d) = type_children_fewer (Some kind) d

pub children_fewer : (node : Node) → AllByRecursion (Fewer (steps_below node)) (children node)
unfolding children
children_fewer (OfPackage info) = tt
children_fewer (Top d) = type_children_fewer None d
children_fewer (Inside kind member) = member_children_fewer kind (out-Member member)
children_fewer (OfTypeParam parameter) = tt
children_fewer (OfParam parameter) = tt
children_fewer (DefaultConstructor around d) = tt
children_fewer Values = tt
children_fewer ValueOf = let one : 1 ≤ 1 = omega arith in (one, tt)
children_fewer ValueOfName = tt

-- ---- no number of steps that suffices is seen

on_children : (P : Node → Type 0) (at : Place) (n : ℕ) (nodes : List Node) → AllByRecursion P nodes → AllByRecursion (λ (c : Place). P c.node) (map (child_of at) (enumerate_from n nodes))
on_children P at n [] a = tt
on_children P at n (node ∷ nodes) a = (a.0, on_children P at (n + 1) nodes a.1)

below_fewer : (at : Place) → AllByRecursion (λ (c : Place). Fewer (steps_below at.node) c.node) (children_of at)
below_fewer at = on_children (Fewer (steps_below at.node)) at 0 (children at.node) (children_fewer at.node)

no_children : (n : ℕ) (at : Place) (cs : List Place) → n ≤ 0 → AllByRecursion (λ (c : Place). Fewer n c.node) cs → cs ≡ []
no_children n at [] none a = refl
no_children n at (c ∷ cs) none a = absurd (omega (arith, none, a.0))

pub enough : (n m : ℕ) (at : Place) → steps_below at.node ≤ n → steps_below at.node ≤ m → within_steps n at ≡ within_steps m at
enough zero zero at p q = refl
enough zero (suc m) at p q = ap (λ (cs : List Place). at ∷ flat_map (within_steps m) cs) (sym (no_children (steps_below at.node) at (children_of at) p (below_fewer at)))
enough (suc n) zero at p q = ap (λ (cs : List Place). at ∷ flat_map (within_steps n) cs) (no_children (steps_below at.node) at (children_of at) q (below_fewer at))
enough (suc n) (suc m) at p q =
    ap (λ (l : List Place). at ∷ l)
    (flat_map-same (within_steps n) (within_steps m) (children_of at)
    (each_to (λ (c : Place). Fewer (steps_below at.node) c.node) (λ (c : Place). within_steps n c ≡ within_steps m c)
    (λ c f. enough n m c (omega (arith, f, p)) (omega (arith, f, q))) (children_of at) (below_fewer at)))

pub all_below-is : (at : Place) → all_below at ≡ at ∷ flat_map all_below (children_of at)
unfolding all_below
all_below-is at =
    enough (steps_below at.node) (suc (steps_below at.node)) at (omega arith) (omega arith)
    ∙ ap (λ (l : List Place). at ∷ l)
    (flat_map-same (within_steps (steps_below at.node)) all_below (children_of at)
    (each_to (λ (c : Place). Fewer (steps_below at.node) c.node) (λ (c : Place). within_steps (steps_below at.node) c ≡ all_below c)
    (λ c f. enough (steps_below at.node) (steps_below c.node) c (omega (arith, f)) (omega arith)) (children_of at) (below_fewer at)))

-- ---- something stands at each of them

-- a place that stands below another one, or is that one
pub record IsBelow (at place : Place) : Type 0 where
  pub rest : List ℕ
  pub path : place.path ≡ at.path ++ rest
  pub stands : down rest at.node ≡ Some place.node

-- a child of this number stands there
pub record IsChild (at child : Place) : Type 0 where
  pub number : ℕ
  pub path : child.path ≡ at.path ++ number ∷ []
  pub stands : slice_get (children at.node) number ≡ Some child.node

next_children : (at : Place) (nodes : List Node) (n : ℕ) → ((k : ℕ) (node : Node) → slice_get nodes k ≡ Some node → slice_get (children at.node) (n + k) ≡ Some node)
    → AllByRecursion (IsChild at) (map (child_of at) (enumerate_from n nodes))
next_children at [] n stands = tt
next_children at (node ∷ nodes) n stands = (
  record { number = n; path = refl; stands = let here : slice_get (children at.node) (n + 0) ≡ Some node = stands 0 node refl in let same : n + 0 ≡ n = omega arith in subst (λ k. slice_get (children at.node) k ≡ Some node) same here },
  next_children at nodes (n + 1) (λ k m is. let there : slice_get (children at.node) (n + suc k) ≡ Some m = stands (suc k) m is in let same : n + suc k ≡ n + 1 + k = omega arith in subst (λ j. slice_get (children at.node) j ≡ Some m) same there),
)

are_children : (at : Place) → AllByRecursion (IsChild at) (children_of at)
are_children at = next_children at (children at.node) 0 (λ k node is. let same : k ≡ 0 + k = omega arith in subst (λ j. slice_get (children at.node) j ≡ Some node) same is)

through : (at child place : Place) → IsChild at child → IsBelow child place → IsBelow at place
through at child place c b = record {
  rest = c.number ∷ b.rest;
  path = b.path ∙ ap (λ (p : List ℕ). p ++ b.rest) c.path ∙ append_assoc at.path (c.number ∷ []) b.rest;
  stands = ap (option_and_then (λ node. down b.rest node)) c.stands ∙ b.stands;
}

each_below : (at : Place) (f : Place → List Place) (cs : List Place) → AllByRecursion (IsChild at) cs → AllByRecursion (λ c. AllByRecursion (IsBelow c) (f c)) cs → AllByRecursion (IsBelow at) (flat_map f cs)
each_below at f [] a b = tt
each_below at f (c ∷ cs) a b =
    each_append (IsBelow at) (f c) (flat_map f cs) (each_to (IsBelow c) (IsBelow at) (λ place. through at c place a.0) (f c) b.0) (each_below at f cs a.1 b.1)

itself : (at : Place) → IsBelow at at
itself at = record { rest = []; path = sym (append-nil at.path); stands = refl }

pub within_below : (n : ℕ) (at : Place) → AllByRecursion (IsBelow at) (within_steps n at)
within_below zero at = (itself at, tt)
within_below (suc n) at = (itself at, each_below at (within_steps n) (children_of at) (are_children at) (each (λ c. AllByRecursion (IsBelow c) (within_steps n c)) (within_below n) (children_of at)))

-- ---- what stands in the unit is one of them

first : {A : Type 0} (x : A) (xs : List A) → Contains (x ∷ xs) x
first x xs = (0, omega arith, refl)

in_flat_map : {A B : Type 0} (f : A → List B) (xs : List A) (k : ℕ) (x : A) (y : B) → slice_get xs k ≡ Some x → Contains (f x) y → Contains (flat_map f xs) y
in_flat_map f [] k x y e c = absurd (none-some _ e)
in_flat_map f (z ∷ xs) zero x y e c = Contains-append_left (f z) (flat_map f xs) y (subst (λ w. Contains (f w) y) (sym (same_Some _ _ e)) c)
in_flat_map f (z ∷ xs) (suc k) x y e c = Contains-append_right (f z) (flat_map f xs) y (in_flat_map f xs k x y e c)

get_children : (at : Place) (n : ℕ) (nodes : List Node) (k : ℕ) (c : Node) → slice_get nodes k ≡ Some c → slice_get (map (child_of at) (enumerate_from n nodes)) k ≡ Some (child_of at (n + k, c))
get_children at n [] k c e = absurd (none-some _ e)
get_children at n (node ∷ nodes) zero c e =
    let same : n ≡ n + 0 = omega arith in
    ap (λ j. Some (child_of at (j, node))) same ∙ ap (λ (m : Node). Some (child_of at (n + 0, m))) (same_Some _ _ e)
get_children at n (node ∷ nodes) (suc k) c e =
    let same : n + 1 + k ≡ n + suc k = omega arith in
    get_children at (n + 1) nodes k c e ∙ ap (λ j. Some (child_of at (j, c))) same

pub child_there : (at : Place) (k : ℕ) (c : Node) → slice_get (children at.node) k ≡ Some c → slice_get (children_of at) k ≡ Some (child_of at (k, c))
child_there at k c e = let same : 0 + k ≡ k = omega arith in get_children at 0 (children at.node) k c e ∙ ap (λ j. Some (child_of at (j, c))) same

below_child : (at : Place) (k : ℕ) (c : Node) (y : Place) → slice_get (children at.node) k ≡ Some c → Contains (all_below (child_of at (k, c))) y → Contains (all_below at) y
below_child at k c y e has =
    subst (λ l. Contains l y) (sym (all_below-is at))
    (Contains-append_right (at ∷ []) (flat_map all_below (children_of at)) y (in_flat_map all_below (children_of at) k (child_of at (k, c)) y (child_there at k c e) has))

pub there : (path : List ℕ) (at : Place) (node : Node) → down path at.node ≡ Some node → Contains (all_below at) (place_of (at.path ++ path) node)
there [] at node e =
    let same : place_of (at.path ++ []) node ≡ at = ap (λ p. place_of p node) (append-nil at.path) ∙ ap (λ (m : Node). place_of at.path m) (sym (same_Some _ _ e)) in
    subst (Contains (all_below at)) (sym same) (subst (λ l. Contains l at) (sym (all_below-is at)) (first at (flat_map all_below (children_of at))))
there (k ∷ path) at node e =
    elim (slice_get (children at.node) k) as (λ o. slice_get (children at.node) k ≡ o → option_and_then (λ child. down path child) o ≡ Some node → Contains (all_below at) (place_of (at.path ++ k ∷ path) node)) [
      | None ↦ λ is f. absurd (none-some _ f)
      | Some c ↦ λ is f.
          below_child at k c (place_of (at.path ++ k ∷ path) node) is
          (subst (λ p. Contains (all_below (child_of at (k, c))) (place_of p node)) (append_assoc at.path (k ∷ []) path) (there path (child_of at (k, c)) node f))
    ] refl e

-- ---- the order of the paths

less : (j k : ℕ) → j < k → nat_cmp j k ≡ Less
less j k lt =
    elim (nat_cmp j k) as (λ o. MatchOrdering o (j < k) (j ≡ k) (k < j) → o ≡ Less) [
      | Less ↦ λ m. refl
      | Equal ↦ λ m. absurd (omega (arith, lt, m))
      | Greater ↦ λ m. absurd (omega (arith, lt, m))
    ] (ranked j k (nat_cmp j k) refl)

equal : (k : ℕ) → nat_cmp k k ≡ Equal
equal k =
    elim (nat_cmp k k) as (λ o. MatchOrdering o (k < k) (k ≡ k) (k < k) → o ≡ Equal) [
      | Less ↦ λ m. absurd (omega (arith, m))
      | Equal ↦ λ m. refl
      | Greater ↦ λ m. absurd (omega (arith, m))
    ] (ranked k k (nat_cmp k k) refl)

abbrev IsBefore : List ℕ → List ℕ → Type 0
IsBefore p q = slice_cmp nat_cmp p q ≡ Less

front_before : (p rest : List ℕ) (k : ℕ) → IsBefore p (p ++ k ∷ rest)
front_before [] rest k = refl
front_before (x ∷ p) rest k = ap (λ o. ordering_then o (slice_cmp nat_cmp p (p ++ k ∷ rest))) (equal x) ∙ front_before p rest k

sibling_before : (p r s : List ℕ) (j k : ℕ) → j < k → IsBefore (p ++ j ∷ r) (p ++ k ∷ s)
sibling_before [] r s j k lt = ap (λ o. ordering_then o (slice_cmp nat_cmp r s)) (less j k lt)
sibling_before (x ∷ p) r s j k lt = ap (λ o. ordering_then o (slice_cmp nat_cmp (p ++ j ∷ r) (p ++ k ∷ s))) (equal x) ∙ sibling_before p r s j k lt

-- each of the others has a path behind this one
abbrev AllBehind : List ℕ → List Place → Type 0
AllBehind p list = AllByRecursion (λ (y : Place). IsBefore p y.path) list

abbrev Ascend : List Place → Type 0
Ascend [] = Unit {0}
Ascend (x ∷ xs) = AllBehind x.path xs × Ascend xs

ascend_append : (xs ys : List Place) → Ascend xs → Ascend ys → AllByRecursion (λ (x : Place). AllBehind x.path ys) xs → Ascend (xs ++ ys)
ascend_append [] ys a b c = b
ascend_append (x ∷ xs) ys a b c = (each_append (λ (y : Place). IsBefore x.path y.path) xs ys a.0 c.0, ascend_append xs ys a.1 b c.1)

-- below a child of this number or of a later one
pub record IsFrom (at : Place) (n : ℕ) (place : Place) : Type 0 where
  pub number : ℕ
  pub rest : List ℕ
  pub later : n ≤ number
  pub path : place.path ≡ at.path ++ number ∷ rest

from_child : (at : Place) (n number : ℕ) (node : Node) → n ≤ number → (place : Place) → IsBelow (child_of at (number, node)) place → IsFrom at n place
from_child at n number node later place b = record { number = number; rest = b.rest; later = later; path = b.path ∙ append_assoc at.path (number ∷ []) b.rest }

later_from : (at : Place) (n m : ℕ) → n ≤ m → (place : Place) → IsFrom at m place → IsFrom at n place
later_from at n m le place f = record { number = f.number; rest = f.rest; later = let l : m ≤ f.number = f.later in omega arith; path = f.path }

all_from : (f : Place → List Place) → ((c : Place) → AllByRecursion (IsBelow c) (f c)) → (at : Place) (n : ℕ) (nodes : List Node)
    → AllByRecursion (IsFrom at n) (flat_map f (map (child_of at) (enumerate_from n nodes)))
all_from f below at n [] = tt
all_from f below at n (node ∷ nodes) =
    let same : n ≤ n = omega arith in
    let next : n ≤ n + 1 = omega arith in
    each_append (IsFrom at n) (f (child_of at (n, node))) (flat_map f (map (child_of at) (enumerate_from (n + 1) nodes)))
    (each_to (IsBelow (child_of at (n, node))) (IsFrom at n) (from_child at n n node same) (f (child_of at (n, node))) (below (child_of at (n, node))))
    (each_to (IsFrom at (n + 1)) (IsFrom at n) (later_from at n (n + 1) next) (flat_map f (map (child_of at) (enumerate_from (n + 1) nodes))) (all_from f below at (n + 1) nodes))

before_from : (at : Place) (n : ℕ) (node : Node) (x y : Place) → IsBelow (child_of at (n, node)) x → IsFrom at (n + 1) y → IsBefore x.path y.path
before_from at n node x y b f =
    let first_path : x.path ≡ at.path ++ n ∷ b.rest = b.path ∙ append_assoc at.path (n ∷ []) b.rest in
    let lt : n < f.number = let l : n + 1 ≤ f.number = f.later in omega arith in
    subst (λ p. IsBefore p y.path) (sym first_path) (subst (λ q. IsBefore (at.path ++ n ∷ b.rest) q) (sym f.path) (sibling_before at.path b.rest f.rest n f.number lt))

children_ascend : (f : Place → List Place) → ((c : Place) → Ascend (f c)) → ((c : Place) → AllByRecursion (IsBelow c) (f c)) → (at : Place) (n : ℕ) (nodes : List Node)
    → Ascend (flat_map f (map (child_of at) (enumerate_from n nodes)))
children_ascend f ascends below at n [] = tt
children_ascend f ascends below at n (node ∷ nodes) =
    let c : Place = child_of at (n, node) in
    let others : List Place = flat_map f (map (child_of at) (enumerate_from (n + 1) nodes)) in
    ascend_append (f c) others (ascends c) (children_ascend f ascends below at (n + 1) nodes)
    (each_to (IsBelow c) (λ (x : Place). AllBehind x.path others)
    (λ x b. each_to (IsFrom at (n + 1)) (λ (y : Place). IsBefore x.path y.path) (λ y g. before_from at n node x y b g) others (all_from f below at (n + 1) nodes)) (f c) (below c))

behind_itself : (at place : Place) → IsFrom at 0 place → IsBefore at.path place.path
behind_itself at place f = subst (IsBefore at.path) (sym f.path) (front_before at.path f.rest f.number)

pub within_ascend : (n : ℕ) (at : Place) → Ascend (within_steps n at)
within_ascend zero at = (tt, tt)
within_ascend (suc n) at = (
  each_to (IsFrom at 0) (λ (y : Place). IsBefore at.path y.path) (behind_itself at) (flat_map (within_steps n) (children_of at)) (all_from (within_steps n) (within_below n) at 0 (children at.node)),
  children_ascend (within_steps n) (within_ascend n) (within_below n) at 0 (children at.node),
)

sorted : (list : List Place) → Ascend list → IsStrictlySortedBy (slice_cmp nat_cmp) (map (λ (at : Place). at.path) list)
unfolding IsStrictlySortedBy
sorted [] a = tt
sorted (x ∷ xs) a = (each_map (λ (p : List ℕ). IsBefore x.path p) (λ (at : Place). at.path) xs a.0, sorted xs a.1)

-- ---- the law

stand_at_root : (u : UnitText) (place : Place) → IsBelow (place_of [] (root u)) place → down place.path (root u) ≡ Some place.node
stand_at_root u place b = subst (λ p. down p (root u) ≡ Some place.node) (sym b.path) b.stands

all_of : (u : UnitText) (path : List ℕ) (node : Node) → down path (root u) ≡ Some node → Contains (places u) (place_of path node)
unfolding places
all_of u path node e = there path (place_of [] (root u)) node e

pub are_places : (u : UnitText) → ArePlaces u (places u)
unfolding places all_below
are_places u =
    let start : Place = place_of [] (root u) in
    let steps : ℕ = steps_below (root u) in
    record {
      stand = each_to (IsBelow start) (λ (at : Place). down at.path (root u) ≡ Some at.node) (stand_at_root u) (places u) (within_below steps start);
      all = all_of u;
      ascending = sorted (places u) (within_ascend steps start);
    }
