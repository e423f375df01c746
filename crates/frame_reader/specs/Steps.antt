-- What the first byte of a node leaves to come: the node goes on byte by byte, chooses what comes next, or the byte is bad.
use Rattle.std.specs.Prelude.{◌≡◌, ℕ, zero, suc, ◌-◌, Bool, true, false, ◌||◌, ◌==◌, nat_lt, List, [], ◌∷◌, ◌++◌, length, take, map, reverse, slice_get, Option, Some, None, option_map, option_to_list, if◌then◌else◌}
use Rattle.std.specs.Option.{option_or}
use Rattle.frame_forms.specs.declared.bad_kind.BadKind.{BadKind}
use Rattle.frame_forms.specs.declared.bad_kind.BadKind.TheVariants as kinds
use Rattle.frame_forms.specs.Forms.{bool_at}
use Rattle.frame_forms.specs.declared.question_row.QuestionRow.{QuestionRow}
use Rattle.frame_forms.specs.declared.question_row.QuestionRow.TheVariants as rows
use Rattle.frame_forms.specs.QuestionTable.{question_at}
use Rattle.frame_reader.specs.declared.node.Item.{Item}
use Rattle.frame_reader.specs.declared.node.Item.TheVariants as items
use Rattle.frame_reader.specs.declared.node.Node.{Node}
use Rattle.frame_reader.specs.declared.node.Node.TheVariants as nodes
use Rattle.frame_reader.specs.declared.node.TheConstants.{TAGS, MIRRORS, VALUES, BOUNDS}
use Rattle.frame_reader.specs.declared.task.TextRule.TheVariants as texts
use Rattle.frame_reader.specs.declared.task.Then.{Then}
use Rattle.frame_reader.specs.declared.task.Then.TheVariants as thens
use Rattle.frame_reader.specs.declared.task.Task.{Task}
use Rattle.frame_reader.specs.declared.task.Task.TheVariants as tasks
use denote.Bor.{Bor}
use Rattle.frame_reader.specs.declared.task.Gather.{Gather}
use Rattle.frame_reader.specs.declared.task.Begun.{Begun}
use Rattle.frame_reader.specs.Nodes.{Choices, chosen_by}
use Rattle.frame_reader.specs.Rests.{Reading, node_rest, nothing_more}

-- ---- the tables

abbrev pub tag_choices : Choices
tag_choices = map (λ row. (row.0, row.1.now)) TAGS

-- the arguments of a question, by its row
abbrev pub argument_nodes : QuestionRow → List Node
argument_nodes (rows.Name of) = nodes.One items.Text ∷ []
argument_nodes (rows.Element of) = nodes.One items.Element ∷ []
argument_nodes (rows.Mirror of) = nodes.One items.Mirror ∷ []
argument_nodes (rows.Mirrors of) = nodes.One items.Mirror ∷ nodes.One items.Mirror ∷ []
argument_nodes rows.ValuesWithDefaults = nodes.One items.Element ∷ nodes.One items.Number ∷ []
argument_nodes rows.Overrides = nodes.One items.Element ∷ nodes.One items.Element ∷ nodes.One items.Element ∷ []
argument_nodes rows.MemberType = nodes.One items.Mirror ∷ nodes.One items.Element ∷ []
argument_nodes rows.DeclaredType = nodes.One items.Element ∷ nodes.Many items.Mirror ∷ []
argument_nodes rows.Roots = []

-- the fields of a tag: those of its row, or the arguments of its question
abbrev pub tagged_choice : ℕ → Option (List Node)
tagged_choice tag = option_or (chosen_by tag_choices tag) (option_map argument_nodes (question_at tag))

abbrev pub mirror_choices : List (List Node)
mirror_choices = map (λ fields. fields.now) MIRRORS

abbrev pub value_choices : List (List Node)
value_choices = map (λ fields. fields.now) VALUES

abbrev pub bound_choices : List (List Node)
bound_choices = map (λ fields. fields.now) BOUNDS

-- ---- what is left

pub record Left : Type 0 where
  -- the byte is the first one of some that belong together: how many are to come behind the next one, and what becomes of them
  pub gather : Option (ℕ × Then)
  -- the fields that come next, and their room
  pub inner : List Node
  pub room : ℕ
  -- what comes behind them, with the node's room
  pub behind : Option Node

abbrev pub gathers : ℕ → Then → Option Node → Option Left
gathers more next behind = Some (record { gather = Some (more, next); inner = []; room = 0; behind = behind })

abbrev pub chooses : ℕ → Option Node → Option (List Node) → Option Left
chooses room behind None = None
chooses room behind (Some fields) = Some (record { gather = None; inner = fields; room = room; behind = behind })

-- a byte that stands for itself
abbrev pub passes_if : Bool → Option Left
passes_if passed = if passed then Some (record { gather = None; inner = []; room = 0; behind = None }) else None

-- a mirror or a value, where there is room for one
abbrev pub part_left : ℕ → Option Node → List (List Node) → ℕ → Option Left
part_left zero behind choices byte = None
part_left (suc room) behind choices byte = chooses room behind (slice_get choices byte)

abbrev pub length_left : Option Node → Option Left
length_left behind = gathers 2 (thens.Length texts.Plain) behind

abbrev pub item_left : ℕ → Item → ℕ → Option Left
item_left room items.Text byte = length_left None
item_left room items.Number byte = gathers 0 thens.Skip None
item_left room items.Element byte = length_left (Some (nodes.Many items.Number))
item_left room items.Mirror byte = part_left room None mirror_choices byte
item_left room items.Value byte = part_left room None value_choices byte
item_left room items.NamedValue byte = length_left (Some (nodes.One items.Value))
item_left room items.TextAndValue byte = length_left (Some (nodes.One items.Value))
item_left room items.Annotation byte = part_left room (Some (nodes.Many items.NamedValue)) mirror_choices byte

abbrev pub maybe_left : Item → Option Bool → Option Left
maybe_left item None = None
maybe_left item (Some false) = passes_if true
maybe_left item (Some true) = chooses 0 (Some (nodes.One item)) (Some [])

unfoldable pub node_left : ℕ → Node → ℕ → Option Left
node_left room (nodes.Below bound) byte = passes_if (nat_lt byte bound)
node_left room (nodes.Exactly only) byte = passes_if (byte == only)
node_left room nodes.Truth byte = passes_if (nat_lt byte 2)
node_left room nodes.Claim byte = passes_if (nat_lt byte 3)
node_left room nodes.PrimitiveKind byte = passes_if (nat_lt byte 8)
node_left room nodes.WholeKind byte = passes_if (byte == 3 || byte == 4)
node_left room nodes.Four byte = gathers 2 thens.Skip None
node_left room nodes.Eight byte = gathers 6 thens.Skip None
node_left room nodes.Octets byte = gathers 2 (thens.Length texts.Octets) None
node_left room (nodes.One item) byte = item_left room item byte
node_left room (nodes.Maybe item) byte = maybe_left item (bool_at byte)
node_left room (nodes.Many item) byte = gathers 2 (thens.Count item room) None
node_left room (nodes.Texts rule) byte = gathers 2 (thens.ListCount rule) None
node_left room nodes.Bound byte = chooses room None (slice_get bound_choices byte)
node_left room nodes.Tagged byte = chooses room None (tagged_choice byte)

-- what is wrong with a bad first byte
abbrev pub first_kind : Node → BadKind
first_kind (nodes.Below bound) = kinds.Field
first_kind (nodes.Exactly only) = kinds.Field
first_kind nodes.Truth = kinds.Field
first_kind nodes.Claim = kinds.Field
first_kind nodes.PrimitiveKind = kinds.Field
first_kind nodes.WholeKind = kinds.Field
first_kind nodes.Four = kinds.Field
first_kind nodes.Eight = kinds.Field
first_kind nodes.Octets = kinds.Field
first_kind (nodes.One item) = kinds.Field
first_kind (nodes.Maybe item) = kinds.Field
first_kind (nodes.Many item) = kinds.Field
first_kind (nodes.Texts rule) = kinds.Field
first_kind nodes.Bound = kinds.Field
first_kind nodes.Tagged = kinds.Tag

-- ---- what is left, as a reading

abbrev pub behind_rest : ℕ → Option Node → Reading
behind_rest room None bytes = nothing_more bytes
behind_rest room (Some node) bytes = node_rest room node bytes

-- the tasks that are left, the first one last
abbrev pub behind_task : ℕ → Option Node → List Task
behind_task room None = []
behind_task room (Some node) = tasks.Field node room ∷ []

abbrev pub inner_tasks : ℕ → List Node → List Task
inner_tasks room fields = map (λ node. tasks.Field node room) (reverse fields)

abbrev pub left_tasks : ℕ → Left → List Task
left_tasks room left = behind_task room left.behind ++ inner_tasks left.room left.inner

-- a task for this many things
abbrev pub items_task : Item → ℕ → ℕ → List Task
items_task item room zero = []
items_task item room (suc more) = tasks.Items item room more ∷ []

-- the node that a task begins with, its room, and what is left of the task behind it
abbrev pub head_node : Task → Node
head_node (tasks.Field node room) = node
head_node (tasks.Items item room more) = nodes.One item

abbrev pub head_room : Task → ℕ
head_room (tasks.Field node room) = room
head_room (tasks.Items item room more) = room

abbrev pub left_behind : Task → List Task
left_behind (tasks.Field node room) = []
left_behind (tasks.Items item room more) = items_task item room more

-- bytes that are gathered from a place on
abbrev pub gather_at : ℕ → Option (ℕ × Then) → Option Gather
gather_at place None = None
gather_at place (Some g) = Some (record { from = place; more = g.0; then = g.1 })

-- ---- what the code gives

-- these fields, or none
abbrev pub AreChosen : Option (Bor (List Node)) → Option (List Node) → Type 0
AreChosen None None = Unit {0}
AreChosen None (Some fields) = ⊥
AreChosen (Some found) None = ⊥
AreChosen (Some found) (Some fields) = found.now ≡ fields

abbrev pub left_of : Begun → Left
left_of begun = record { gather = begun.gather; inner = begun.inner.now; room = begun.room; behind = begun.behind }

-- this is left, or the byte is bad
abbrev pub IsLeft : Option Begun → Option Left → Type 0
IsLeft None None = Unit {0}
IsLeft None (Some left) = ⊥
IsLeft (Some begun) None = ⊥
IsLeft (Some begun) (Some left) = left_of begun ≡ left

-- what is left where a byte chose fields, if it chose any
abbrev pub IsChosen : Option (Bor (List Node)) → (Option (List Node) → Option Left) → Option Begun → Type 0
IsChosen fields left result = (chosen : Option (List Node)) → AreChosen fields chosen → IsLeft result (left chosen)

-- tasks, with others in the place of the last one
abbrev pub replaced_last : List Task → Option Task → Option Task → ℕ → List Node → List Task
replaced_last tasks below above room fields =
    ((take (length tasks - 1) tasks ++ option_to_list below) ++ option_to_list above) ++ inner_tasks room fields
