-- What was found of the fields of types, and where there are none.
use Rattle.std.specs.Prelude.{◌≡◌, ℕ, List, string_bytes}
use Rattle.std.specs.List.{AllByRecursion}
use Rattle.apt_base.specs.declared.element.ElementRef.{ElementRef}
use Rattle.element_table.specs.TypeTable.{TypeTable, IsTable}
use Rattle.name_resolve.specs.Finds.{Nothing}
use Rattle.name_resolve.specs.Shown.{finds_of}
use Rattle.type_resolve.specs.Scopes.{find_in}
use Rattle.expression_names.specs.Fields.{fields_within}
use Rattle.expression_names.specs.declared.answers.Answer.{Answer}
use Rattle.expression_names.specs.FieldsByName.{AreKnown}
use Rattle.expression_names.specs.declared.answers.Answers.{Answers}
use Rattle.expression_names.specs.declared.known_rows.KnownRows.{KnownRows}

abbrev pub IsAnswer : TypeTable → Answer → Type 0
IsAnswer table a = finds_of a.finds ≡ fields_within table a.levels (find_in table a.at) (string_bytes a.name)

abbrev pub AreAnswers : TypeTable → Answers → Type 0
AreAnswers table answers = AllByRecursion (IsAnswer table) answers.list.items

-- what is remembered over a table is right
pub record IsRemembered (table looks : TypeTable) (answers : Answers) (rows : KnownRows) : Type 0 where
  pub is_table : IsTable table
  pub over : looks ≡ table
  pub right : AreAnswers table answers
  pub known : AreKnown table rows

-- an element has no fields
pub record HasNoFields (table : TypeTable) (at : ElementRef) : Type 0 where
  pub none : (levels : ℕ) (name : List ℕ) → fields_within table levels (find_in table at) name ≡ Nothing
