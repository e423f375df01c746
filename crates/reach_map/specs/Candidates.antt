-- The candidates of a unit: the names of units on which the meaning of its names may depend. They are a function of the unit alone, and a table may have none of them.
use Rattle.std.specs.Prelude.{ℕ, List, [], ◌∷◌, ◌++◌, map, codes}
use Rattle.std.specs.List.{flat_map}
use Rattle.apt_base.specs.Identifiers.{parts}
use Rattle.decl_tree.specs.declared.compilation.Import.{Import}
use Rattle.decl_tree.specs.declared.compilation.ImportKind.{ImportKind}
use Rattle.decl_tree.specs.declared.compilation.ImportKind.TheVariants as import
use Rattle.decl_tree.specs.declared.compilation.UnitText.{UnitText}
use Rattle.name_resolve.specs.QualifiedNames.{prefixes}
use Rattle.element_table.specs.UnitNames.{in_package, unit_name}
use Rattle.reach_map.specs.Chains.{unit_chains}

abbrev pub prefix_names : List (List ℕ) → List (List ℕ)
prefix_names names = map (λ p. p.joined) (prefixes names)

-- the first name of a chain in an import on demand, which a static one is too
abbrev pub on_demand_name : List ℕ → List ℕ → ImportKind → List (List ℕ)
on_demand_name name first import.OnDemand = (name ++ 46 ∷ first) ∷ []
on_demand_name name first import.StaticOnDemand = (name ++ 46 ∷ first) ∷ []
on_demand_name name first other = []

abbrev pub imported_name : List ℕ → Import → List (List ℕ)
imported_name first i = on_demand_name i.name first i.kind

-- the first name of a chain in each import on demand
abbrev pub imported_names : List ℕ → List Import → List (List ℕ)
imported_names first imports = flat_map (imported_name first) imports

-- the first name of a chain in the unit's package, in `java.lang` and in each import on demand
abbrev pub first_candidates : UnitText → List ℕ → List (List ℕ)
first_candidates u first = in_package u.package first ∷ in_package (codes "java.lang") first ∷ imported_names first u.imports

-- of a name chain: each prefix, and its first name
abbrev pub chain_candidates : UnitText → List (List ℕ) → List (List ℕ)
chain_candidates u [] = []
chain_candidates u (first ∷ others) = prefix_names (first ∷ others) ++ first_candidates u first

-- the names that declarations imply
abbrev pub implied_names : List (List ℕ)
implied_names =
    codes "java.lang.Object" ∷ codes "java.lang.Enum" ∷ codes "java.lang.annotation.Annotation" ∷ codes "java.lang.annotation.Inherited"
    ∷ codes "java.lang.Cloneable" ∷ codes "java.io.Serializable" ∷ codes "java.lang.Boolean" ∷ codes "java.lang.Byte" ∷ codes "java.lang.Short"
    ∷ codes "java.lang.Integer" ∷ codes "java.lang.Long" ∷ codes "java.lang.Character" ∷ codes "java.lang.Float" ∷ codes "java.lang.Double" ∷ []

-- the unit itself, and that of its package
abbrev pub own_names : UnitText → List (List ℕ)
own_names u = unit_name u ∷ in_package u.package (codes "package-info") ∷ []

-- each prefix of each of some names, and of each import
abbrev pub prefixes_of_all : List (List ℕ) → List (List ℕ)
prefixes_of_all names = flat_map (λ name. prefix_names (parts name)) names

abbrev pub import_prefixes : List Import → List (List ℕ)
import_prefixes imports = flat_map (λ i. prefix_names (parts i.name)) imports

-- the unit itself and that of its package, those of each chain, and each prefix of each import and of each implied name, the whole name too; in which order they
-- stand and how often one is there says nothing
unfoldable pub candidates : UnitText → List (List ℕ)
candidates u =
    unit_name u ∷ in_package u.package (codes "package-info")
    ∷ (flat_map (chain_candidates u) (unit_chains u) ++ import_prefixes u.imports ++ prefixes_of_all implied_names)
