-- The listing of a unit: a line for each of its elements, in the order of their paths, what the language adds included (JLS 8.8.9, 8.9.2, 8.9.3).
-- Type parameters have lines too, and the parameters of methods and constructors have none: their types stand in the line of what takes them.
use Rattle.std.specs.Prelude.{ℕ, Bool, true, false, List, [], ◌∷◌, ◌++◌, map, codes, Option, None, Some, unwrap_or, if◌then◌else◌}
use Rattle.std.specs.List.{flat_map, join_with_byte}
use Rattle.std.specs.Option.{option_map, option_to_list}
use Rattle.apt_base.specs.declared.element.ElementRef.{ElementRef}
use Rattle.decl_tree.specs.declared.compilation.UnitText.{UnitText}
use Rattle.decl_elements.specs.Modifiers.{modifiers}
use Rattle.decl_elements.specs.Nodes.{Node}
use Rattle.decl_elements.specs.Shown.{Shown, EnumConstant, Field, Parameter, Method, Constructor, element_of}
use Rattle.decl_elements.specs.SimpleNames.{simple_name}
use Rattle.decl_elements.specs.Walk.{Place, places}
use Rattle.element_table.specs.TypeTable.{TypeTable, unit_of}
use Rattle.element_table.specs.TableElements.{canonical_at, reference}
use Rattle.type_mirror.specs.declared.mirror.Mirror.{Mirror}
use Rattle.type_layers.specs.Layers.{Layer, Executable, layer}
use Rattle.type_elements.specs.TypeOf.{type_of}
use Rattle.type_texts.specs.Print.{text_of}
use Rattle.type_texts.specs.Spelling.{types_text}
use Rattle.unit_listing.specs.Words.{kind_word, modifier_words}

-- ---- types

-- what a method or a constructor takes; nothing of any other type
abbrev pub parameters_in : Layer Mirror → List Mirror
parameters_in (Executable variables parameters outcome thrown) = parameters
parameters_in _ = []

-- what it gives
abbrev pub outcome_in : Layer Mirror → Option Mirror
outcome_in (Executable variables parameters outcome thrown) = Some outcome
outcome_in _ = None

-- with a comma between any two
abbrev pub in_brackets : TypeTable → List Mirror → List ℕ
in_brackets table types = codes "(" ++ (types_text table types ++ codes ")")

-- of a field or an enum constant its type, of a method and a constructor the types of the parameters, and of a method its result
abbrev pub type_words : TypeTable → Mirror → Shown → List (List ℕ)
type_words table of (EnumConstant member) = text_of table of ∷ []
type_words table of (Field member) = text_of table of ∷ []
type_words table of (Method member) =
    in_brackets table (parameters_in (layer of)) ∷ map (text_of table) (option_to_list (outcome_in (layer of)))
type_words table of (Constructor member) = in_brackets table (parameters_in (layer of)) ∷ []
type_words table of _ = []

-- ---- lines

-- the canonical name of a type or a package, and the simple name of anything else; that of a constructor is `<init>`
abbrev pub name_word : TypeTable → ElementRef → Node → List ℕ
name_word table at node = unwrap_or (canonical_at table at) (simple_name node)

-- the kind, the modifiers that are written or implied, the name and the types
abbrev pub line_words : TypeTable → ElementRef → Node → List (List ℕ)
line_words table at node =
    kind_word (element_of node)
    ∷ (modifier_words (modifiers node) ++ name_word table at node ∷ type_words table (type_of table at) (element_of node))

-- two spaces for each step of the path
abbrev pub indent : List ℕ → List ℕ
indent path = flat_map (λ step. codes "  ") path

-- the words with a space, which is 32, between any two, and a line feed behind them
unfoldable pub line_of : TypeTable → ElementRef → Node → List ℕ
line_of table at node = indent at.path ++ (join_with_byte 32 (line_words table at node) ++ codes "\n")

-- ---- units

-- of a method or a constructor
abbrev pub is_parameter : Shown → Bool
is_parameter (Parameter parameter) = true
is_parameter _ = false

-- what stands at a place of the unit of this name has a line, unless it is a parameter
abbrev pub lines_at : TypeTable → List ℕ → Place → List ℕ
lines_at table unit at =
    if is_parameter (element_of at.node) then [] else line_of table (reference unit at.path) at.node

unfoldable pub unit_listing : TypeTable → List ℕ → UnitText → List ℕ
unit_listing table name unit = flat_map (lines_at table name) (places unit)

-- that of the unit of this name, of a source or of a stub; None where the table has no such unit
unfoldable pub listing : TypeTable → List ℕ → Option (List ℕ)
listing table name = option_map (unit_listing table name) (unit_of table name)
