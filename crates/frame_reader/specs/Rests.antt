-- What is still to come of a frame's fields, as the reading of the bytes from here on, with the values forgotten.
use Rattle.std.specs.Prelude.{ℕ, zero, suc, Bool, true, false, ◌&&◌, List, [], ◌∷◌, ◌++◌, drop, Option, Some, None, if◌then◌else◌}
use Rattle.std.specs.Int.{w32, from_be_bytes}
use Rattle.apt_base.specs.Fields.{is_text}
use Rattle.apt_base.specs.Identifiers.{is_pattern}
use Rattle.frame_forms.specs.declared.bad_kind.BadKind.{BadKind}
use Rattle.frame_forms.specs.declared.bad_kind.BadKind.TheVariants as kinds
use Rattle.frame_forms.specs.Scans.{Scan, whole, begun, bad, and_then, run_scan}
use Rattle.frame_forms.specs.Forms.{Code, El, Form, scan_with}
use Rattle.frame_forms.specs.TextForms.{is_new, is_greater}
use Rattle.frame_forms.specs.Frames.{part_scan}
use Rattle.frame_reader.specs.declared.node.ListRule.{ListRule}
use Rattle.frame_reader.specs.declared.node.ListRule.TheVariants as rules
use Rattle.frame_reader.specs.declared.node.Node.{Node}
use Rattle.frame_reader.specs.declared.node.Node.TheVariants as nodes
use Rattle.frame_reader.specs.declared.task.TextRule.{TextRule}
use Rattle.frame_reader.specs.declared.task.TextRule.TheVariants as texts
use Rattle.frame_reader.specs.declared.task.Then.{Then}
use Rattle.frame_reader.specs.declared.task.Then.TheVariants as thens
use Rattle.frame_reader.specs.declared.task.Gather.{Gather}
use Rattle.frame_reader.specs.declared.task.Task.{Task}
use Rattle.frame_reader.specs.declared.task.Task.TheVariants as tasks
use Rattle.frame_reader.specs.declared.task.TextList.{TextList}
use Rattle.frame_reader.specs.Nodes.{node_form}

-- what stands at the front of bytes, whatever its value
abbrev pub Reading : Type 0
Reading = List ℕ → Scan (Unit {0})

abbrev pub forgotten : {A : Type 0} → Scan A → Scan (Unit {0})
forgotten (whole a rest) = whole tt rest
forgotten begun = begun
forgotten (bad rest kind) = bad rest kind

abbrev pub nothing_more : Reading
nothing_more bytes = whole tt bytes

-- one thing and then another
abbrev pub then_read : Scan (Unit {0}) → Reading → Scan (Unit {0})
then_read first next = and_then first (λ done rest. next rest)

-- ---- bytes that belong together

-- One byte and this many more. What comes next depends on them: on those that were there before the last one, on the last one, and on the bytes behind.
unfoldable pub gathered : List ℕ → ℕ → (List ℕ → ℕ → Reading) → Reading
gathered front more next [] = begun
gathered front zero next (byte ∷ rest) = next front byte rest
gathered front (suc more) next (byte ∷ rest) = gathered (front ++ byte ∷ []) more next rest

-- the number that these bytes spell
abbrev pub number_of : List ℕ → ℕ → ℕ
number_of front byte = from_be_bytes w32 (front ++ byte ∷ [])

-- ---- fields and items

-- a form
abbrev pub form_rest : ℕ → {c : Code} → Form c → Reading
form_rest room {c} form bytes = forgotten {A = El c} (scan_with (part_scan room) form bytes)

abbrev pub node_rest : ℕ → Node → Reading
node_rest room node bytes = form_rest room (node_form node) bytes

unfoldable pub fields_rest : ℕ → List Node → Reading
fields_rest room [] bytes = whole tt bytes
fields_rest room (node ∷ others) bytes = then_read (node_rest room node bytes) (fields_rest room others)

-- this many things
unfoldable pub items_rest : Reading → ℕ → Reading
items_rest item zero bytes = whole tt bytes
items_rest item (suc count) bytes = then_read (item bytes) (items_rest item count)

-- ---- lists of texts of which more is asked

-- what is asked of the next text by those before it, of which the last one comes first
abbrev pub passes : ListRule → List (List ℕ) → List ℕ → Bool
passes rules.DistinctTexts before text = is_new before text
passes rules.DistinctPatterns before text = is_new before text
passes rules.AscendingTexts before text = is_greater before text
passes rules.AscendingOptions before text = is_greater before text

abbrev pub pattern_fault : ListRule → List ℕ → Option BadKind
pattern_fault rules.DistinctPatterns text = if is_pattern text then None else Some kinds.Pattern
pattern_fault rules.DistinctTexts text = None
pattern_fault rules.AscendingTexts text = None
pattern_fault rules.AscendingOptions text = None

abbrev pub listed_fault : ListRule → List (List ℕ) → List ℕ → Option BadKind
listed_fault rule before text = if is_text text && passes rule before text then pattern_fault rule text else Some kinds.Field

-- what is asked of any other text
abbrev pub plain_fault : List ℕ → Option BadKind
plain_fault text = if is_text text && true then None else Some kinds.Field

-- a text in UTF-8
abbrev pub text_rest : Reading
text_rest bytes = forgotten (run_scan plain_fault bytes)

-- the value of a text, where its list has them
abbrev pub value_rest : ListRule → Reading
value_rest rules.AscendingOptions bytes = text_rest bytes
value_rest rules.DistinctTexts bytes = whole tt bytes
value_rest rules.DistinctPatterns bytes = whole tt bytes
value_rest rules.AscendingTexts bytes = whole tt bytes

-- this many texts, behind these
unfoldable pub texts_rest : ListRule → List (List ℕ) → ℕ → Reading
texts_rest rule before zero bytes = whole tt bytes
texts_rest rule before (suc count) bytes = and_then (run_scan (listed_fault rule before) bytes) (λ text rest. then_read (value_rest rule rest) (texts_rest rule (text ∷ before) count))

abbrev pub turn_rest : ListRule → List (List ℕ) → Bool → ℕ → Reading
turn_rest rule before true more bytes = then_read (text_rest bytes) (texts_rest rule before more)
turn_rest rule before false more bytes = texts_rest rule before (suc more) bytes

abbrev pub list_rest : List (List ℕ) → Option TextList → Reading
list_rest before None bytes = whole tt bytes
list_rest before (Some texts) bytes = turn_rest texts.rule before texts.value_next texts.more bytes

-- ---- what is to come

abbrev pub task_rest : Task → Reading
task_rest (tasks.Field node room) bytes = node_rest room node bytes
task_rest (tasks.Items item room more) bytes = items_rest (node_rest room (nodes.One item)) (suc more) bytes

-- the last task comes first
unfoldable pub tasks_rest : List Task → Reading
tasks_rest [] bytes = whole tt bytes
tasks_rest (task ∷ above) bytes = then_read (tasks_rest above bytes) (task_rest task)

-- a list of texts, and the tasks behind it
abbrev pub tail_rest : List (List ℕ) → Option TextList → List Task → Reading
tail_rest before texts stack bytes = then_read (list_rest before texts bytes) (tasks_rest stack)

-- ---- what becomes of gathered bytes

-- this many texts are left of the list
abbrev pub texts_left : ListRule → ℕ → Option TextList
texts_left rule zero = None
texts_left rule (suc more) = Some (record { rule = rule; value_next = false; more = more })

-- what is left of the list behind a text
abbrev pub behind_text : ListRule → ℕ → Option TextList
behind_text rules.AscendingOptions more = Some (record { rule = rules.AscendingOptions; value_next = true; more = more })
behind_text rules.DistinctTexts more = texts_left rules.DistinctTexts more
behind_text rules.DistinctPatterns more = texts_left rules.DistinctPatterns more
behind_text rules.AscendingTexts more = texts_left rules.AscendingTexts more

-- a text that is judged at its last byte
abbrev pub judged_rest : Option BadKind → ℕ → Reading → Reading
judged_rest None byte next rest = next rest
judged_rest (Some kind) byte next rest = bad (byte ∷ rest) kind

abbrev pub text_done : TextRule → List (List ℕ) → Option TextList → List Task → List ℕ → ℕ → Reading
text_done texts.Octets before list stack text byte rest = tail_rest before list stack rest
text_done texts.Plain before list stack text byte rest = judged_rest (plain_fault text) byte (tail_rest before list stack) rest
text_done texts.Listed before None stack text byte rest = judged_rest (plain_fault text) byte (tail_rest before None stack) rest
text_done texts.Listed before (Some list) stack text byte rest = judged_rest (listed_fault list.rule before text) byte (tail_rest (text ∷ before) (behind_text list.rule list.more) stack) rest

abbrev pub text_behind : TextRule → List (List ℕ) → Option TextList → List Task → ℕ → ℕ → Reading
text_behind rule before list stack zero byte rest = text_done rule before list stack [] byte rest
text_behind rule before list stack (suc more) byte rest = gathered [] more (λ front last behind. text_done rule before list stack (front ++ last ∷ []) last behind) rest

abbrev pub gather_done : Then → List (List ℕ) → Option TextList → List Task → List ℕ → ℕ → Reading
gather_done thens.Skip before list stack front byte rest = tail_rest before list stack rest
gather_done (thens.Length rule) before list stack front byte rest = text_behind rule before list stack (number_of front byte) byte rest
gather_done (thens.Text rule) before list stack front byte rest = text_done rule before list stack (front ++ byte ∷ []) byte rest
gather_done (thens.Count item room) before list stack front byte rest = then_read (items_rest (node_rest room (nodes.One item)) (number_of front byte) rest) (tail_rest before list stack)
gather_done (thens.ListCount rule) before list stack front byte rest = then_read (texts_rest rule [] (number_of front byte) rest) (tail_rest before list stack)

-- what is to come behind these bytes
abbrev pub rest_of : List (List ℕ) → Option Gather → Option TextList → List Task → List ℕ → Reading
rest_of before None list stack held bytes = tail_rest before list stack bytes
rest_of before (Some gather) list stack held bytes = gathered (drop gather.from held) gather.more (gather_done gather.then before list stack) bytes
