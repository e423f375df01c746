-- The lines of elements: that of an element's name, for what the language adds to a type that of the type's name, and for a package that of the `package`.
use Rattle.std.specs.Prelude.{ℕ, List, [], ◌∷◌, slice_get, Option, Some}
use Rattle.std.specs.Option.{option_and_then, option_map_or}
use Rattle.decl_elements.specs.Nodes.{Node, children}
use Rattle.decl_grammar.specs.declared.written.Lines.{Lines, out-Lines}
use Rattle.decl_grammar.specs.Grammar.{line_alone}

-- the lines of the child with this number. Behind the written children stands what the language adds: it has the line of the type, and so has what stands in it
abbrev pub lines_at : Lines → ℕ → Lines
lines_at l at = option_map_or (λ (x : Lines). x) (slice_get (out-Lines l).children at) (line_alone (out-Lines l).line)

-- the line of what stands at the end of this path below a node with these lines
abbrev pub line_down : List ℕ → Node → Lines → Option ℕ
line_down [] node l = Some (out-Lines l).line
line_down (at ∷ path) node l = option_and_then (λ child. line_down path child (lines_at l at)) (slice_get (children node) at)
