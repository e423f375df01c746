-- The top-level types of a package (JLS 7.3), in both parts of a table, and the index that finds them.
use Rattle.std.specs.Prelude.{◌≡◌, ℕ, Bool, false, List, Option, None, Some}
use Rattle.std.specs.List.{filter}
use Rattle.std.specs.FinMap as fin
use Rattle.decl_tree.specs.declared.compilation.UnitText.{UnitText}
use Rattle.element_table.specs.TypeTable.{Units, TypeTable}
use Rattle.element_table.specs.TableElements.{declares_in}
use Rattle.apt_base.specs.Names.{with_names, names_in}
use Rattle.name_index.specs.Index.{Index, names_at}

-- whether a unit, if it is there, declares a type of this package
abbrev pub declares : List ℕ → Option UnitText → Bool
declares «package» None = false
declares «package» (Some unit) = declares_in «package» unit

-- the names of the units of a part that declare a type of this package
unfoldable pub types_declared : List ℕ → Units → List (List ℕ)
types_declared «package» units = filter (λ name. declares «package» (fin.get units name)) (fin.keys units)

-- the canonical names of the top-level types of a package, those of both parts, ascending by their bytes
unfoldable pub package_types : TypeTable → List ℕ → List (List ℕ)
package_types table «package» = names_in (with_names (with_names fin.empty (types_declared «package» table.source)) (types_declared «package» table.stub))

-- ---- the index

-- an index has under each package the names of the units that declare a type of it
abbrev pub IsIndexOf : Index → Units → Type 0
IsIndexOf index units = («package» name : List ℕ) → fin.contains_key (names_at index «package») name ≡ declares «package» (fin.get units name)
