-- What the initialisers of fields were found to be worth, and words for parts of values and of elements.
use Rattle.std.specs.Prelude.{◌≡◌, ℕ, List, [], Option, Some, option_and_then}
use Rattle.std.specs.List.{AllByRecursion}
use Rattle.apt_base.specs.declared.element.ElementRef.{ElementRef}
use Rattle.decl_tree.specs.declared.annotation.AnnotationText.{AnnotationText}
use Rattle.decl_tree.specs.declared.annotation.ValueText.{ValueText}
use Rattle.decl_tree.specs.declared.annotation.ElementValuePair.{ElementValuePair}
use Rattle.decl_tree.specs.declared.annotation.ValueText.TheOpen.{ValueText-F}
use Rattle.decl_tree.specs.declared.annotation.ValueText.TheFolds.{fold-ElementValuePair}
use Rattle.element_table.specs.TypeTable.{TypeTable, IsTable}
use Rattle.type_mirror.specs.declared.value.Value.{Value}
use Rattle.type_mirror.specs.declared.value.Annotation.{Annotation}
use Rattle.type_mirror.specs.declared.value.NamedValue.{NamedValue}
use Rattle.name_resolve.specs.Ways.{node_at}
use Rattle.name_resolve.specs.Finds.{Find}
use Rattle.name_resolve.specs.Placed.{IsPlaced}
use Rattle.name_resolve.specs.Shown.{find_of}
use Rattle.type_resolve.specs.Scopes.{find_in}
use Rattle.annotation_presence.specs.Carried as meant
use Rattle.annotation_values.specs.Values.{Meanings, Meant, value_step, annotation_step, pair_step}
use Rattle.annotation_values.specs.Values.{initialiser, value_of_initialiser, meanings_within}
use Rattle.annotation_values.specs.declared.field_values.FieldValue.{FieldValue}
use Rattle.annotation_values.specs.declared.field_values.FieldValues.{FieldValues}
use Rattle.annotation_values.specs.declared.field_values.Initialiser.{Initialiser}

-- ---- parts of values

-- the value of an element as it is written
unfoldable pub pair_in : Meanings → ElementValuePair → NamedValue
pair_in m = fold-ElementValuePair Meant Annotation NamedValue (value_step m) (annotation_step m) pair_step

-- the text of a literal or a name; nothing else is joined
abbrev pub joinable_text : ValueText-F ValueText AnnotationText ElementValuePair → List ℕ
joinable_text (ValueText-F.Literal text) = text
joinable_text (ValueText-F.Chain text) = text
joinable_text _ = []

-- ---- the initialisers of fields

abbrev pub initialiser_at : Find → Option ValueText
initialiser_at f = option_and_then initialiser (node_at f.unit f.path)

-- what the initialiser of a field is worth, where names in it are constants through this many names
abbrev pub field_value : TypeTable → ℕ → Find → Option Value
field_value table names f = option_and_then (value_of_initialiser (meanings_within table names f)) (initialiser_at f)

pub record IsInitialiser (table : TypeTable) (i : Initialiser) : Type 0 where
  pub placed : IsPlaced table (find_of i.at)
  pub is : initialiser_at (find_of i.at) ≡ Some i.form.now

-- ---- what is remembered

pub record IsFieldValue (table : TypeTable) (v : FieldValue) : Type 0 where
  pub placed : IsPlaced table (find_of v.at)
  pub value : v.value ≡ field_value table v.names (find_of v.at)

abbrev pub AreFieldValues : TypeTable → FieldValues → Type 0
AreFieldValues table values = AllByRecursion (IsFieldValue table) values.list.items

-- what is remembered over a table is right
pub record IsRemembered (table of_types of_fields : TypeTable) (values : FieldValues) : Type 0 where
  pub is_table : IsTable table
  pub looks : of_types ≡ table
  pub fields : of_fields ≡ table
  pub right : AreFieldValues table values

-- both the annotations and the values that are remembered are of this table
pub record AreOver (table of_annotations of_values : TypeTable) : Type 0 where
  pub is_table : IsTable table
  pub annotations : of_annotations ≡ table
  pub values : of_values ≡ table

-- ---- elements

-- the table has the unit of an element, in which this stands
pub record StandsIn (table : TypeTable) (at : ElementRef) (f : Find) : Type 0 where
  pub is : f ≡ find_in table at
  pub placed : IsPlaced table f

abbrev pub ArePlacedAt : TypeTable → List meant.Carried → Type 0
ArePlacedAt table list = AllByRecursion (λ c. IsPlaced table c.at) list
