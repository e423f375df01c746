-- What a byte does to what is kept.
use Rattle.std.specs.Prelude.{◌≡◌, ◌-◌, ℕ, zero, suc, Bool, true, false, length, List, [], ◌∷◌, ◌++◌, Option, None, Some}
use Rattle.std.specs.FinMap as fin
use Rattle.frame_forms.specs.declared.bad_kind.BadKind.{BadKind}
use Rattle.frame_reader.specs.declared.node.Item.{Item}
use Rattle.frame_reader.specs.Steps.{items_task}
use Rattle.frame_forms.specs.Frames.{most_nested}
use Rattle.frame_forms.specs.Scans.{Scan, whole, begun, bad}
use Rattle.frame_reader.specs.declared.fields.FieldsReader.{FieldsReader}
use Rattle.frame_reader.specs.declared.task.Gather.{Gather}
use Rattle.frame_reader.specs.declared.node.Node.TheVariants as nodes
use Rattle.frame_reader.specs.declared.task.Task.{Task}
use Rattle.frame_reader.specs.declared.task.Task.TheVariants as tasks
use Rattle.frame_reader.specs.declared.task.TextList.{TextList}
use Rattle.frame_reader.specs.declared.task.TextRule.{TextRule}
use Rattle.frame_reader.specs.declared.task.TextRule.TheVariants as texts
use Rattle.frame_reader.specs.declared.task.Then.TheVariants as thens
use Rattle.frame_reader.specs.declared.node.ListRule.{ListRule}
use Rattle.frame_reader.specs.declared.task.Taken.{Taken}
use Rattle.frame_reader.specs.declared.task.Taken.TheVariants as takens
use Rattle.frame_reader.specs.Rests.{Reading, behind_text, texts_left}
use Rattle.frame_reader.specs.Stands.{Stands, Keeps, KeepsTexts, IsTextEnd, kept_fault}

-- behind these bytes a reader means this reading of those that come
abbrev pub Means : FieldsReader → List ℕ → Reading → Type 0
Means reader held reading = Stands reader.gather reader.list reader.stack reader.earlier reader.last held reading

-- what a byte behind these bytes comes to, by what is said of it
abbrev pub Comes : FieldsReader → List ℕ → ℕ → Reading → Taken → Type 0
Comes new held byte reading takens.On = Means new (held ++ byte ∷ []) (λ later. reading (byte ∷ later))
Comes new held byte reading takens.Behind = (later : List ℕ) → reading (byte ∷ later) ≡ whole tt (byte ∷ later)
Comes new held byte reading (takens.Bad kind) = (later : List ℕ) → reading (byte ∷ later) ≡ bad (byte ∷ later) kind

-- whatever the reader meant, the last one of the bytes comes to what is said of it
abbrev pub Follows : FieldsReader → FieldsReader → List ℕ → ℕ → Taken → Type 0
Follows old new bytes byte taken = (held : List ℕ) → bytes ≡ held ++ byte ∷ [] → (reading : Reading) → Means old held reading → Comes new held byte reading taken

-- the same of a reader that was gathering these bytes
abbrev pub Finishes : Gather → FieldsReader → FieldsReader → List ℕ → ℕ → Taken → Type 0
Finishes gather old new bytes byte taken = (held : List ℕ) → bytes ≡ held ++ byte ∷ [] → (reading : Reading) → Stands (Some gather) old.list old.stack old.earlier old.last held reading → Comes new held byte reading taken

-- the same of the end of a text
abbrev pub EndsText : TextRule → FieldsReader → FieldsReader → List ℕ → Taken → Type 0
EndsText rule old new text taken = (held : List ℕ) (byte : ℕ) (reading : Reading) (before : List (List ℕ)) → IsTextEnd old.earlier old.last byte reading rule old.list old.stack text before → Comes new held byte reading taken

-- the text is one in UTF-8, and no more is asked of it
abbrev pub EndsPlain : TextRule → Option TextList → Type 0
EndsPlain texts.Octets list = ⊥
EndsPlain texts.Plain list = Unit {0}
EndsPlain texts.Listed None = Unit {0}
EndsPlain texts.Listed (Some list) = ⊥

-- the same of the end of a length of that number, with that many bytes there
abbrev pub EndsLength : TextRule → ℕ → ℕ → FieldsReader → FieldsReader → Taken → Type 0
EndsLength rule zero place old new taken = EndsText rule old new [] taken
EndsLength rule (suc more) place old new taken = (taken ≡ takens.On) × (new ≡ record old { gather = Some (record { from = place; more = more; then = thens.Text rule }) })

-- the rule for the text that begins, and what is left of the list then
abbrev pub text_rule_at : Bool → TextRule
text_rule_at true = texts.Plain
text_rule_at false = texts.Listed

abbrev pub text_rule : TextList → TextRule
text_rule list = text_rule_at list.value_next

abbrev pub list_behind : Bool → TextList → Option TextList
list_behind true list = texts_left list.rule list.more
list_behind false list = Some list

abbrev pub list_behind_begin : TextList → Option TextList
list_behind_begin list = list_behind list.value_next list

-- whatever a reader meant that was at the beginning of something, the byte at this place comes to what is said of it
abbrev pub Starts : ℕ → ℕ → FieldsReader → FieldsReader → Taken → Type 0
Starts place byte old new taken = (held : List ℕ) → length held ≡ place → (reading : Reading) → Means old held reading → Comes new held byte reading taken

-- the same where that was a task
abbrev pub BeginsTask : Task → ℕ → ℕ → FieldsReader → FieldsReader → Taken → Type 0
BeginsTask task place byte old new taken = (held : List ℕ) → length held ≡ place → (reading : Reading) → Stands None None old.stack old.earlier old.last held reading → old.list ≡ None → Comes new held byte reading taken

-- the text is kept for the next ones
pub record KeepsText (rule : ListRule) (text : List ℕ) (old new : FieldsReader) : Type 0 where
  pub gather : new.gather ≡ old.gather
  pub rest : new.list ≡ old.list
  pub stack : new.stack ≡ old.stack
  pub keeps : (before : List (List ℕ)) → KeepsTexts rule before old.earlier old.last → KeepsTexts rule (text ∷ before) new.earlier new.last

-- the list goes on behind this text
pub record GoesBehind (list : TextList) (text : List ℕ) (old new : FieldsReader) : Type 0 where
  pub gather : new.gather ≡ None
  pub rest : new.list ≡ behind_text list.rule list.more
  pub stack : new.stack ≡ old.stack
  pub keeps : (before : List (List ℕ)) → KeepsTexts list.rule before old.earlier old.last → Keeps (behind_text list.rule list.more) (text ∷ before) new.earlier new.last

-- ---- where it begins and ends

-- a tag and its fields come next
pub record IsAtTag (reader : FieldsReader) : Type 0 where
  pub gather : reader.gather ≡ None
  pub list : reader.list ≡ None
  pub stack : reader.stack ≡ tasks.Field nodes.Tagged most_nested ∷ []

-- what no more bytes come to
abbrev pub ended : Bool → Scan (Unit {0})
ended true = whole tt []
ended false = begun

-- whatever the reader means, this is what no more bytes come to
abbrev pub TellsEnd : FieldsReader → Bool → Type 0
TellsEnd reader done = (held : List ℕ) (reading : Reading) → Means reader held reading → reading [] ≡ ended done

-- ---- what begins and ends in a reader

-- what is wrong with a text of a list, by those before it that are kept
abbrev pub fault_in : FieldsReader → ListRule → List ℕ → Option BadKind
fault_in reader rule text = kept_fault rule reader.earlier reader.last text

-- a text ends that is no text of a list
abbrev pub EndsAsPlain : FieldsReader → FieldsReader → List ℕ → Taken → Type 0
EndsAsPlain old new text result = (rule : TextRule) → EndsPlain rule old.list → EndsText rule old new text result

-- a list of things begins
abbrev pub with_items : FieldsReader → Item → ℕ → ℕ → FieldsReader
with_items reader item room count = record reader { gather = None; stack = reader.stack ++ items_task item room count }

-- a list of texts begins
abbrev pub with_texts : FieldsReader → ListRule → ℕ → FieldsReader
with_texts reader rule count = record reader { gather = None; list = texts_left rule count; earlier = fin.empty; last = None }

-- a text of a list begins at a place
abbrev pub with_text : FieldsReader → TextList → ℕ → FieldsReader
with_text reader list place =
    record reader { gather = Some (record { from = place; more = 2; then = thens.Length (text_rule list) }); list = list_behind_begin list }

-- ---- many bytes at once

-- how many bytes may be taken at once, before the last one of those that are gathered
abbrev pub ahead_of : Option Gather → ℕ
ahead_of None = 0
ahead_of (Some gather) = gather.more

-- this many of them are there
abbrev pub skipped : ℕ → Option Gather → Option Gather
skipped count None = None
skipped count (Some gather) = Some (record { from = gather.from; more = gather.more - count; then = gather.then })
