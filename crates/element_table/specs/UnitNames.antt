-- The canonical name of a unit: that of its top-level type (JLS 6.7), or `package-info` in its package (JLS 7.4.1).
use Rattle.std.specs.Prelude.{ℕ, List, [], ◌∷◌, ◌++◌, codes}
use Rattle.decl_tree.specs.declared.compilation.Body.{Body}
use Rattle.decl_tree.specs.declared.compilation.Body.TheVariants.{Declared, Info}
use Rattle.decl_tree.specs.declared.compilation.UnitText.{UnitText}

-- a simple name behind the package's name and a dot, which is 46; the unnamed package has the empty name (JLS 7.4.2)
abbrev pub in_package : List ℕ → List ℕ → List ℕ
in_package [] name = name
in_package (c ∷ cs) name = (c ∷ cs) ++ 46 ∷ name

abbrev pub simple_name : Body → List ℕ
simple_name (Declared declaration) = declaration.name
simple_name (Info annotations doc) = codes "package-info"

unfoldable pub unit_name : UnitText → List ℕ
unit_name u = in_package u.package (simple_name u.body)
