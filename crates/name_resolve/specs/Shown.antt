-- Finds and supertypes in memory, for contracts.
use Rattle.std.specs.Prelude.{◌≡◌, ℕ, List, codes, Option, Result, IfOk}
use Rattle.std.specs.Option.{option_map, option_to_list}
use Rattle.name_resolve.specs.Finds as find
use Rattle.decl_elements.specs.Nodes.{Node}
use Rattle.name_resolve.specs.Finds.{Find, find_at, types_at, parameters_at}
use Rattle.name_resolve.specs.Supertypes as meant
use Rattle.name_resolve.specs.declared.headers.Supertype.{Supertype}
use Rattle.name_resolve.specs.declared.headers.Supertype.TheVariants as shown
use Rattle.name_resolve.specs.declared.finds.Found.{Found}
use Rattle.name_resolve.specs.declared.finds.Finds.{Finds}
use Rattle.name_resolve.specs.declared.finds.Finds.TheVariants as finds

abbrev pub find_of : Found → Find
find_of f = record { part = f.part; unit = f.unit.now; path = f.path.items }

abbrev pub finds_of : Finds → find.Finds
finds_of finds.Nothing = find.Nothing
finds_of (finds.One f) = find.One (find_of f)
finds_of finds.Several = find.Several

-- it found this, unless it gave nothing for another reason
abbrev pub Gives : {E : Type 0} → Result Finds E → find.Finds → Type 0
Gives result finds = IfOk result (λ f. finds_of f ≡ finds)

-- the child with a number of what is found
abbrev pub child_of : Find → ℕ → Find
child_of f number = find_at f.part f.unit f.path number

-- the member types of this name that are declared by what is found, which is this node
abbrev pub types_here : Find → List ℕ → Node → find.Finds
types_here f name node = types_at f.part f.unit name (record { path = f.path; node = node })

-- the same of the type parameters
abbrev pub params_here : Find → List ℕ → Node → find.Finds
params_here f name node = parameters_at f.part f.unit name (record { path = f.path; node = node })

abbrev pub super_of : Supertype → meant.Supertype
super_of (shown.Written text) = meant.Written text.now
super_of shown.Object = meant.Implied (codes "java.lang.Object")
super_of shown.Enum = meant.Implied (codes "java.lang.Enum")
super_of shown.Annotation = meant.Implied (codes "java.lang.annotation.Annotation")

-- none or one
abbrev pub supers_of : Option Supertype → List meant.Supertype
supers_of first = option_to_list (option_map super_of first)
