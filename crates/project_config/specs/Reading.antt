-- The configuration that `apt.json` is: its items are read in one order, and the first that is off its form is the place of the fault.
-- An object has each key once, ascending by bytes: of a key that the text has twice the last value counts (`serde_json`, `read`).
use Rattle.std.specs.Prelude.{ℕ, Bool, false, List, [], ◌∷◌, ◌++◌, codes, Option, Some, None, Ok, Err, is_some, option_and_then, if◌then◌else◌}
use Rattle.apt_base.specs.Fields.{is_text}
use Rattle.serde_json.specs.Data.{Data, Members, no_members, member}
use Rattle.serde_json.specs.Find.{get, as_object}
use Rattle.serde_json.specs.Read.{read}
use Rattle.project_config.specs.declared.config.Config.{Config}
use Rattle.project_config.specs.declared.config.ProcessorRow.{ProcessorRow}
use Rattle.project_config.specs.declared.fault.ConfigFault.TheVariants.{Json, Item}
use Rattle.project_config.specs.Answers.{Reading, ◌>>=◌}
use Rattle.project_config.specs.Items.{level_in, order_in, options_in, command_in, version_in}

-- an item, or its place where it is off its form
abbrev pub at : {A : Type 0} → List ℕ → Option A → Reading A
at place None = Err (Item place)
at place (Some x) = Ok x

-- ---- the rows of the processors

-- the place of a row, or of an item in it. A name stands there as it is
abbrev pub place_in_row : List ℕ → List ℕ → List ℕ
place_in_row name rest = codes "/processors/" ++ (name ++ rest)

abbrev pub row_items : List ℕ → Data → Reading ProcessorRow
row_items name d = do
  command ← at (place_in_row name (codes "/command")) (command_in (get (codes "command") d))
  version ← at (place_in_row name (codes "/version")) (version_in (get (codes "version") d))
  Ok (record { name = name; command = command; version = version })

abbrev pub row_in : List ℕ → Data → Reading ProcessorRow
row_in name d = if is_some (as_object d) then row_items name d else Err (Item (place_in_row name []))

abbrev pub rows_of : Members → Reading (List ProcessorRow)
rows_of no_members = Ok []
rows_of (member name d ms) = do
  row ← row_in name d
  rows ← rows_of ms
  Ok (row ∷ rows)

abbrev pub rows_of_object : Option Members → Reading (List ProcessorRow)
rows_of_object None = Err (Item (codes "/processors"))
rows_of_object (Some ms) = rows_of ms

abbrev pub rows_in : Option Data → Reading (List ProcessorRow)
rows_in None = Ok []
rows_in (Some d) = rows_of_object (as_object d)

-- ---- the whole

abbrev pub config_in : Data → Reading Config
config_in d = do
  level ← at (codes "/level") (level_in (get (codes "level") d))
  order ← at (codes "/order") (order_in (get (codes "order") d))
  options ← at (codes "/options") (options_in (get (codes "options") d))
  processors ← rows_in (get (codes "processors") d)
  Ok (record { level = level; order = order; options = options; processors = processors })

-- the object that bytes are in UTF-8, where they are one
abbrev pub if_object : Data → Option Data
if_object d = if is_some (as_object d) then Some d else None

abbrev pub object_in : List ℕ → Option Data
object_in bytes = if is_text bytes then option_and_then if_object (read bytes) else None

-- an absent file is read as an object of nothing
abbrev pub text_of : Option (List ℕ) → List ℕ
text_of None = codes "{}"
text_of (Some bytes) = bytes

abbrev pub config_of_object : Option Data → Reading Config
config_of_object None = Err Json
config_of_object (Some d) = config_in d

abbrev pub config_of : Option (List ℕ) → Reading Config
config_of file = config_of_object (object_in (text_of file))

-- `apt.json` is an object with an order, of its form or not: then the file of services is not read
abbrev pub has_order_item : Option Data → Bool
has_order_item None = false
has_order_item (Some d) = is_some (get (codes "order") d)

abbrev pub has_order : Option (List ℕ) → Bool
has_order file = has_order_item (object_in (text_of file))
