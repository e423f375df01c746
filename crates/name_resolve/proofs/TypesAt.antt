-- What stands at the end of a path that is given as a slice.
use Rattle.std.proofs.Common.{◌≡◌, ℕ, List, None, Some, ap, ◌∙◌}
use Rattle.std.specs.Option.{option_and_then}
use Rattle.decl_tree.specs.declared.compilation.UnitText.{UnitText}
use Rattle.decl_elements.specs.Nodes.{Node, down, root}
use Rattle.decl_elements.specs.Written.{declaration_of}
use Rattle.name_resolve.specs.Ways.{node_at, type_at}

module _ (u : UnitText) (at path : List ℕ) (same : path ≡ at) where
  pub type_none : None ≡ down path (root u) → None ≡ type_at u at
  unfolding node_at
  type_none none = ap (option_and_then declaration_of) (none ∙ ap (λ p. down p (root u)) same)

  pub type_some : (node : Node) → Some node ≡ down path (root u) → declaration_of node ≡ type_at u at
  unfolding node_at
  type_some node there = ap (option_and_then declaration_of) (there ∙ ap (λ p. down p (root u)) same)
