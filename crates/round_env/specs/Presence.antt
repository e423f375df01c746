-- Which annotations are present in a round (JSR 269, `RoundEnvironment`): those on its roots and on all that these enclose, members, parameters and type
-- parameters included, by the canonical names of their annotation interfaces. A package encloses no types here, and an annotation that is a value of
-- another stands on nothing. A name that means no annotation interface of the table is none.
use Rattle.std.specs.Prelude.{ℕ, Bool, List, [], ◌∷◌, map, filter, filter_map}
use Rattle.std.specs.List.{flat_map, list_any}
use Rattle.std.specs.Option.{option_map_or}
use Rattle.std.specs.Str.{bytes_eq}
use Rattle.std.specs.FinMap as fin
use Rattle.apt_base.specs.Names.{NameSet, with_names, names_in}
use Rattle.apt_base.specs.declared.element.ElementRef.{ElementRef}
use Rattle.decl_elements.specs.Walk.{Place, places}
use Rattle.element_table.specs.TypeTable.{TypeTable, unit_of}
use Rattle.element_table.specs.TableElements.{canonical_at, reference}
use Rattle.annotation_presence.specs.Carried.{present_on, types_of}

-- ---- on one element

-- the names of the annotation interfaces that are present there, inherited ones too
unfoldable pub names_on : TypeTable → ElementRef → List (List ℕ)
names_on table at = filter_map (canonical_at table) (types_of (present_on table at))

abbrev pub carries : TypeTable → List ℕ → ElementRef → Bool
carries table name at = list_any (bytes_eq name) (names_on table at)

-- ---- in a unit

-- what stands at a place of the unit of this name
abbrev pub element_at : List ℕ → Place → ElementRef
element_at root at = reference root at.path

-- all that stands in the unit of this name, in the order of the paths; nothing where the table has none
unfoldable pub elements_in : TypeTable → List ℕ → List ElementRef
elements_in table root = option_map_or (λ u. map (element_at root) (places u)) (unit_of table root) []

abbrev pub names_in_unit : TypeTable → List ℕ → List (List ℕ)
names_in_unit table root = flat_map (names_on table) (elements_in table root)

abbrev pub annotated_in_unit : TypeTable → List ℕ → List ℕ → List ElementRef
annotated_in_unit table name root = filter (carries table name) (elements_in table root)

-- ---- in a round

-- names to which the units of these names add those that are present in them
abbrev pub with_names_at : TypeTable → NameSet → List (List ℕ) → NameSet
with_names_at table names [] = names
with_names_at table names (root ∷ roots) = with_names_at table (with_names names (names_in_unit table root)) roots

-- on these roots and all that they enclose, each name once and ascending
unfoldable pub present_names : TypeTable → List (List ℕ) → List (List ℕ)
present_names table roots = names_in (with_names_at table fin.empty roots)

-- on one root
unfoldable pub names_present_on : TypeTable → List ℕ → List (List ℕ)
names_present_on table root = names_in (with_names fin.empty (names_in_unit table root))

-- the elements on which the annotation of this name is present: roots in order, within a root by path
unfoldable pub annotated : TypeTable → List (List ℕ) → List ℕ → List ElementRef
annotated table roots name = flat_map (annotated_in_unit table name) roots
