-- The lines of the elements of a file: those of the first of its units that has the name.
use Rattle.std.specs.Prelude.{ℕ, List, [], ◌∷◌, bytes_eq, Option, None, if◌then◌else◌}
use Rattle.decl_tree.specs.declared.compilation.UnitText.{UnitText}
use Rattle.decl_elements.specs.Nodes.{root}
use Rattle.element_table.specs.UnitNames.{unit_name}
use Rattle.decl_grammar.specs.declared.written.Lines.{Lines}
use Rattle.unit_locations.specs.Lines.{line_down}

-- in the first of these units that has this name
abbrev pub line_in : List UnitText → List Lines → List ℕ → List ℕ → Option ℕ
line_in [] ls name path = None
line_in (u ∷ us) [] name path = None
line_in (u ∷ us) (l ∷ ls) name path = if bytes_eq (unit_name u) name then line_down path (root u) l else line_in us ls name path
