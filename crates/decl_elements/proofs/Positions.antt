-- Positions in child lists.
use Rattle.std.proofs.Common.{◌≡◌, ℕ, zero, suc, ◌-◌, ◌<◌, ◌≤◌, Bool, true, false, List, [], ◌∷◌, ◌++◌, map, length, drop, Option, Some, refl, sym, ap, ◌∙◌, arith}
use Rattle.std.specs.Prelude.{slice_get, if◌then◌else◌}
use Rattle.std.proofs.lemmas.List.{length-map}
use Rattle.decl_tree.specs.declared.member.TypeParam.{TypeParam}
use Rattle.decl_tree.specs.declared.member.Param.{Param}
use Rattle.decl_tree.specs.declared.declaration.TypeKind.{TypeKind}
use Rattle.decl_tree.specs.declared.declaration.TypeDecl.{TypeDecl}
use Rattle.decl_elements.specs.Nodes.{Node, OfTypeParam, OfParam, Inside, DefaultConstructor, has_default_constructor, added_methods, added, type_children, executable_children, down}

in_front : {A : Type 0} (xs ys : List A) (k : ℕ) → k < length xs → slice_get (xs ++ ys) k ≡ slice_get xs k
in_front [] ys k lt = absurd (omega arith)
in_front (x ∷ xs) ys zero lt = refl
in_front (x ∷ xs) ys (suc k) lt = in_front xs ys k (omega arith)

behind : {A : Type 0} (xs ys : List A) (k : ℕ) → length xs ≤ k → slice_get (xs ++ ys) k ≡ slice_get ys (k - length xs)
behind [] ys k le = let e : k ≡ k - 0 = omega arith in ap (slice_get ys) e
behind (x ∷ xs) ys zero le = absurd (omega arith)
behind (x ∷ xs) ys (suc k) le = let e : k - length xs ≡ suc k - suc (length xs) = omega arith in behind xs ys k (omega arith) ∙ ap (slice_get ys) e

-- behind a list that was made of another
in_map : {A B : Type 0} (f : A → B) (xs : List A) (ys : List B) (k : ℕ) → k < length xs → slice_get (map f xs ++ ys) k ≡ slice_get (map f xs) k
in_map f xs ys k lt = let n : length (map f xs) ≡ length xs = length-map xs f in in_front (map f xs) ys k (omega arith)

behind_map : {A B : Type 0} (f : A → B) (xs : List A) (ys : List B) (k : ℕ) → length xs ≤ k → slice_get (map f xs ++ ys) k ≡ slice_get ys (k - length xs)
behind_map f xs ys k le =
    let n : length (map f xs) ≡ length xs = length-map xs f in
    behind (map f xs) ys k (omega arith) ∙ ap (λ l. slice_get ys (k - l)) n

module _ (around : Option TypeKind) (d : TypeDecl) where
  pub at_type_params : (k : ℕ) → k < length d.parameters → slice_get (map OfTypeParam d.parameters) k ≡ slice_get (type_children around d) k
  at_type_params k lt = sym (in_map OfTypeParam d.parameters (map (Inside d.kind) d.members ++ added around d) k lt)

  pub at_members : (k : ℕ) → length d.parameters ≤ k → k - length d.parameters < length d.members → slice_get (map (Inside d.kind) d.members) (k - length d.parameters) ≡ slice_get (type_children around d) k
  at_members k le lt =
      sym (behind_map OfTypeParam d.parameters (map (Inside d.kind) d.members ++ added around d) k le ∙ in_map (Inside d.kind) d.members (added around d) (k - length d.parameters) lt)

  pub at_added : (k : ℕ) → length d.parameters ≤ k → length d.members ≤ k - length d.parameters → slice_get (added around d) (k - length d.parameters - length d.members) ≡ slice_get (type_children around d) k
  at_added k le gt =
      sym (behind_map OfTypeParam d.parameters (map (Inside d.kind) d.members ++ added around d) k le ∙ behind_map (Inside d.kind) d.members (added around d) (k - length d.parameters) gt)

  pub added_without : has_default_constructor d.kind d.members ≡ false → added around d ≡ added_methods d.kind
  added_without e = ap (λ b. (if b then DefaultConstructor around d ∷ [] else []) ++ added_methods d.kind) e

  pub added_with : has_default_constructor d.kind d.members ≡ true → added around d ≡ DefaultConstructor around d ∷ added_methods d.kind
  added_with e = ap (λ b. (if b then DefaultConstructor around d ∷ [] else []) ++ added_methods d.kind) e

pub at_executable_params : (ps : List TypeParam) (ns : List Param) (k : ℕ) → k < length ps → slice_get (map OfTypeParam ps) k ≡ slice_get (executable_children ps ns) k
at_executable_params ps ns k lt = sym (in_map OfTypeParam ps (map OfParam ns) k lt)

pub at_arguments : (ps : List TypeParam) (ns : List Param) (k : ℕ) → length ps ≤ k → slice_get (map OfParam ns) (k - length ps) ≡ slice_get (executable_children ps ns) k
at_arguments ps ns k le = sym (behind_map OfTypeParam ps (map OfParam ns) k le)

drop_past : (xs : List ℕ) (i : ℕ) → length xs ≤ i → drop i xs ≡ []
drop_past [] zero le = refl
drop_past [] (suc i) le = refl
drop_past (x ∷ xs) zero le = absurd (omega arith)
drop_past (x ∷ xs) (suc i) le = drop_past xs i (omega arith)

-- at the end of a path
pub down_end : (path : List ℕ) (i : ℕ) (node : Node) (o : Option Node) → length path ≤ i → down (drop i path) node ≡ o → o ≡ Some node
down_end path i node o past e = sym e ∙ ap (λ (rest : List ℕ). down rest node) (drop_past path i past)
