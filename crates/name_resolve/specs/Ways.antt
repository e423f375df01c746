-- The way down a unit: what stands at a path, and all that encloses it.
use Rattle.std.specs.Prelude.{ℕ, List, [], ◌∷◌, ◌++◌, Option, None, Some, slice_get}
use Rattle.std.specs.Option.{option_and_then}
use Rattle.decl_tree.specs.declared.declaration.TypeDecl.{TypeDecl}
use Rattle.decl_tree.specs.declared.compilation.UnitText.{UnitText}
use Rattle.decl_elements.specs.Nodes.{Node, children, down, root}
use Rattle.decl_elements.specs.Walk.{Place}
use Rattle.decl_elements.specs.Written.{declaration_of}

-- a node and all that stands above it, the innermost first
abbrev pub way : List Place → List ℕ → Node → List ℕ → List Place
way above at node [] = record { path = at; node = node } ∷ above
way above at node (step ∷ steps) =
    elim (slice_get (children node) step) [
      | None ↦ []
      | Some child ↦ way (record { path = at; node = node } ∷ above) (at ++ step ∷ []) child steps
    ]

-- what stands at a path of a unit and what encloses it there, the innermost first; nothing where the path leads nowhere
unfoldable pub around : UnitText → List ℕ → List Place
around u path = way [] [] (root u) path

-- what stands at a path of a unit
unfoldable pub node_at : UnitText → List ℕ → Option Node
node_at u path = down path (root u)

-- the declaration of the type at a path of a unit
abbrev pub type_at : UnitText → List ℕ → Option TypeDecl
type_at u path = option_and_then declaration_of (node_at u path)
