-- What a file gives: a unit for each top-level type, or one for a package, with the lines of its elements.
use Rattle.std.specs.Prelude.{ℕ, List, [], ◌∷◌, Option, None, Some}
use Rattle.decl_tree.specs.declared.annotation.AnnotationText.{AnnotationText}
use Rattle.decl_tree.specs.declared.declaration.TypeDecl.{TypeDecl}
use Rattle.decl_tree.specs.declared.compilation.Import.{Import}
use Rattle.decl_tree.specs.declared.compilation.Body.TheVariants as body
use Rattle.decl_tree.specs.declared.compilation.UnitText.{UnitText}
use Rattle.decl_grammar.specs.declared.written.Lines.{Lines}
use Rattle.decl_grammar.specs.declared.written.NameAt.{NameAt}
use Rattle.decl_grammar.specs.declared.written.TypeAt.{TypeAt}
use Rattle.decl_grammar.specs.Grammar.{Ordinary, Info, line_alone}

-- the name of a package, empty for the unnamed one (JLS 7.4.2)
abbrev pub package_name : Option NameAt → List ℕ
package_name None = []
package_name (Some n) = n.name

-- the types, without each `;` between them
abbrev pub types_in : List (Option TypeAt) → List TypeAt
types_in [] = []
types_in (None ∷ ds) = types_in ds
types_in (Some d ∷ ds) = d ∷ types_in ds

-- the simple names of the types
abbrev pub names_in : List (Option TypeAt) → List (List ℕ)
names_in [] = []
names_in (None ∷ ds) = names_in ds
names_in (Some d ∷ ds) = d.declaration.name ∷ names_in ds

-- the unit of one type
abbrev pub unit_of : List ℕ → List Import → List (List ℕ) → TypeDecl → UnitText
unit_of pkg imports siblings d = record { «package» = pkg; imports = imports; siblings = siblings; body = body.Declared d }

-- a unit for each type
abbrev pub units_from : List ℕ → List Import → List (List ℕ) → List (Option TypeAt) → List UnitText
units_from pkg imports siblings [] = []
units_from pkg imports siblings (None ∷ ds) = units_from pkg imports siblings ds
units_from pkg imports siblings (Some d ∷ ds) = unit_of pkg imports siblings d.declaration ∷ units_from pkg imports siblings ds

-- the lines of each type
abbrev pub lines_from : List (Option TypeAt) → List Lines
lines_from [] = []
lines_from (None ∷ ds) = lines_from ds
lines_from (Some d ∷ ds) = d.lines ∷ lines_from ds

-- the units of one item more, and their lines
abbrev pub units_one : List ℕ → List Import → List (List ℕ) → Option TypeAt → List UnitText
units_one pkg imports siblings d = units_from pkg imports siblings (d ∷ [])

abbrev pub lines_one : Option TypeAt → List Lines
lines_one d = lines_from (d ∷ [])

-- units, and for each the lines of its elements
abbrev pub Declared : Type 0
Declared = List UnitText × List Lines

-- of an ordinary compilation unit
abbrev pub units_of : Ordinary → Declared
units_of x = (units_from (package_name x.0) x.1.0 (names_in x.1.1) x.1.1, lines_from x.1.1)

abbrev pub PackagePart : Type 0
PackagePart = Option (List ℕ) × (List AnnotationText × NameAt)

abbrev pub info_of : Option PackagePart → List Import → UnitText
info_of None imports = record { «package» = []; imports = imports; siblings = []; body = body.Info [] None }
info_of (Some p) imports = record { «package» = p.1.1.name; imports = imports; siblings = []; body = body.Info p.1.0 p.0 }

-- the line of the `package`, or the first line where the file has none
abbrev pub package_line : Option PackagePart → ℕ
package_line None = 1
package_line (Some p) = p.1.1.line

-- of a file `package-info.java`: always one
abbrev pub info_units : Info → Declared
info_units x = (info_of x.0 x.1.0 ∷ [], line_alone (package_line x.0) ∷ [])
