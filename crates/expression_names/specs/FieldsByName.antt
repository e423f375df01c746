-- The fields and enum constants of types by their names, as they are remembered.
use Rattle.std.specs.Prelude.{◌≡◌, ℕ, Bool, ◌&&◌, List, nat_eq, Option, None, Some, if◌then◌else◌}
use Rattle.std.specs.List.{AllByRecursion}
use Rattle.std.specs.Ordering.{nat_cmp}
use Rattle.std.specs.Cmp.Lexicographic.{slice_cmp}
use Rattle.std.specs.FinMap as fin
use Rattle.std.specs.FinMap.{FinMap}
use Rattle.decl_tree.specs.declared.declaration.Member.{out-Member}
use Rattle.decl_elements.specs.Nodes.{Node, Inside}
use Rattle.name_index.specs.ShownMaps.{shown_map}
use Rattle.element_table.specs.TypeTable.{TypeTable}
use Rattle.name_resolve.specs.Finds.{Find, Finds, Nothing, One, Several, same_find}
use Rattle.name_resolve.specs.Placed.{IsPlaced}
use Rattle.name_resolve.specs.Remembered.{same_part}
use Rattle.name_resolve.specs.Shown.{find_of, child_of}
use Rattle.expression_names.specs.Fields.{value_name, declared_fields}
use Rattle.expression_names.specs.declared.field_rows.Named.{Named}
use Rattle.expression_names.specs.declared.field_rows.Named.TheVariants as named
use Rattle.expression_names.specs.declared.field_rows.FieldRows.{FieldRows}
use Rattle.expression_names.specs.declared.known_rows.KnownRows.{KnownRows}
use denote.Ref.{Bor}

-- ---- one name

abbrev pub text_of : Bor (List ℕ) → List ℕ
text_of text = text.now

-- the name of a field or an enum constant
abbrev pub field_text : Node → Option (List ℕ)
field_text (Inside kind member) = value_name (out-Member member)
field_text _ = None

-- with one child more
abbrev pub with_number : Option Named → ℕ → Named
with_number None number = named.One number
with_number (Some (named.One other)) number = if nat_eq other number then named.One number else named.Several
with_number (Some named.Several) number = named.Several

-- what is found of a name by the numbers of the children that have it
abbrev pub found_at : Find → Option Named → Finds
found_at f None = Nothing
found_at f (Some (named.One number)) = One (child_of f number)
found_at f (Some named.Several) = Several

-- ---- one type

abbrev pub Names : Type 0
Names = FinMap (slice_cmp nat_cmp) Named

abbrev pub named_as : FieldRows → Names
named_as rows = shown_map rows.held

abbrev pub found_by : FieldRows → List ℕ → Finds
found_by rows name = found_at (find_of rows.of) (fin.get (named_as rows) name)

-- they are of this type
abbrev pub are_of : FieldRows → Find → Bool
are_of rows f = same_part rows.of.part f.part && same_find (find_of rows.of) f

-- under each name are the fields of this name that the type declares
unfoldable pub AreFields : FieldRows → Type 0
AreFields rows = (name : List ℕ) → found_by rows name ≡ declared_fields (find_of rows.of) name

-- ---- all types that were asked

pub record AreRows (table : TypeTable) (rows : FieldRows) : Type 0 where
  pub placed : IsPlaced table (find_of rows.of)
  pub fields : AreFields rows

abbrev pub AreKnown : TypeTable → KnownRows → Type 0
AreKnown table known = AllByRecursion (AreRows table) known.list.items
