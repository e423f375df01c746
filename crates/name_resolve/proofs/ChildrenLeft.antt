-- The children of what stands at a place, from one number on.
use Rattle.std.proofs.Common.{◌≡◌, ℕ, zero, suc, ◌+◌, Bool, List, [], ◌∷◌, length, map, drop, Some, None, slice_get, refl, ap, ◌∙◌, arith}
use Rattle.std.specs.List.{fold, enumerate_from}
use Rattle.decl_tree.specs.declared.compilation.UnitText.{UnitText}
use Rattle.decl_elements.specs.Nodes.{Node, children, down, root}
use Rattle.element_table.specs.declared.part.Part.{Part}
use Rattle.decl_elements.specs.Walk.{Place}
use Rattle.name_resolve.specs.Ways.{node_at}
use Rattle.name_resolve.specs.Finds.{Find, Finds, Nothing, both, one_if, find_at, is_type_named, is_parameter_named, types_at, types_in, parameters_at, declared_types}
use Rattle.name_resolve.specs.Parts.{parameters_in, declared_parameters}

unfoldable pub from_child : (Node → Bool) → Part → UnitText → Place → Finds → ℕ → Finds
from_child test part u at finds n = fold both finds (map (λ child. one_if (test child.1) (find_at part u at.path child.0)) (enumerate_from n (drop n (children at.node))))

pub from_first : (part : Part) (u : UnitText) (name : List ℕ) (at : Place) → from_child (is_type_named name) part u at Nothing 0 ≡ types_at part u name at
unfolding from_child types_at
from_first part u name at = refl

pub from_first_parameter : (part : Part) (u : UnitText) (name : List ℕ) (at : Place) → from_child (is_parameter_named name) part u at Nothing 0 ≡ parameters_at part u name at
unfolding from_child parameters_at
from_first_parameter part u name at = refl

rest_nil : {A : Type 0} (n : ℕ) → drop n (let none : List A = [] in none) ≡ []
rest_nil zero = refl
rest_nil (suc n) = refl

pub rest_none : {A : Type 0} (xs : List A) (n : ℕ) → slice_get xs n ≡ None → drop n xs ≡ []
rest_none [] n e = rest_nil n
rest_none (x ∷ xs) zero e = absurd (cc)
rest_none (x ∷ xs) (suc n) e = rest_none xs n e

pub rest_all : {A : Type 0} (xs : List A) (n : ℕ) → n ≡ length xs → drop n xs ≡ []
rest_all [] n e = rest_nil n
rest_all (x ∷ xs) zero e = absurd (omega arith)
rest_all (x ∷ xs) (suc n) e = rest_all xs n (omega arith)

pub rest_some : {A : Type 0} (xs : List A) (n : ℕ) (x : A) → slice_get xs n ≡ Some x → drop n xs ≡ x ∷ drop (suc n) xs
rest_some [] n x e = absurd (cc)
rest_some (y ∷ ys) zero x e = let is : y ≡ x = cc in ap (λ z. z ∷ ys) is
rest_some (y ∷ ys) (suc n) x e = rest_some ys n x e

module _ (test : Node → Bool) (part : Part) (u : UnitText) (at : Place) (finds : Finds) (n : ℕ) where
  pub from_past : slice_get (children at.node) n ≡ None → from_child test part u at finds n ≡ finds
  unfolding from_child
  from_past e = rw (rest_none (children at.node) n e) refl

  pub from_end : n ≡ length (children at.node) → from_child test part u at finds n ≡ finds
  unfolding from_child
  from_end e = rw (rest_all (children at.node) n e) refl

  pub next : (node : Node) → slice_get (children at.node) n ≡ Some node → from_child test part u at finds n ≡ from_child test part u at (both finds (one_if (test node) (find_at part u at.path n))) (n + 1)
  unfolding from_child
  next node is =
      let one_more : n + 1 ≡ suc n = omega arith in
      rw (rest_some (children at.node) n node is, one_more) refl

-- ---- by what stands at the path of a find

module _ (f : Find) (name path : List ℕ) (same : path ≡ f.path) where
  pub declared_none : None ≡ down path (root f.unit) → Nothing ≡ declared_types f name
  unfolding declared_types node_at
  declared_none none = ap (types_in f.part f.unit name f.path) (none ∙ ap (λ p. down p (root f.unit)) same)

  pub declared_some : (node : Node) → Some node ≡ down path (root f.unit) → types_at f.part f.unit name (record { path = f.path; node = node }) ≡ declared_types f name
  unfolding declared_types node_at
  declared_some node there = ap (types_in f.part f.unit name f.path) (there ∙ ap (λ p. down p (root f.unit)) same)

  pub parameters_none : None ≡ down path (root f.unit) → Nothing ≡ declared_parameters f name
  unfolding declared_parameters node_at
  parameters_none none = ap (parameters_in f.part f.unit name f.path) (none ∙ ap (λ p. down p (root f.unit)) same)

  pub parameters_some : (node : Node) → Some node ≡ down path (root f.unit) → parameters_at f.part f.unit name (record { path = f.path; node = node }) ≡ declared_parameters f name
  unfolding declared_parameters node_at
  parameters_some node there = ap (parameters_in f.part f.unit name f.path) (there ∙ ap (λ p. down p (root f.unit)) same)
