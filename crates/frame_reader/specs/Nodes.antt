-- Which form of the grammar each node is, and which nodes the fields of a tag, of a mirror and of a value are.
use Rattle.std.specs.Prelude.{◌≡◌, ℕ, ◌==◌, List, [], ◌∷◌, ◌++◌, map, Option, Some, None, if◌then◌else◌}
use Rattle.frame_forms.specs.declared.bad_kind.BadKind.TheVariants as kinds
use Rattle.frame_forms.specs.Forms as forms
use Rattle.frame_forms.specs.Forms.{Code, Form, octets, number, pair, maybe, many, one, chosen, empty, u16, u32, i64, byte, both, choice, opt, means, list, run, part}
use Rattle.frame_forms.specs.TextForms.{any_bytes, text, list_of, distinct_texts, distinct_patterns, ascending_texts, ascending_by_key}
use Rattle.frame_forms.specs.MirrorForms as mirrors
use Rattle.frame_forms.specs.FrameTable as frames
use Rattle.frame_reader.specs.declared.node.Item.{Item}
use Rattle.frame_reader.specs.declared.node.Item.TheVariants as items
use Rattle.frame_reader.specs.declared.node.ListRule.{ListRule}
use Rattle.frame_reader.specs.declared.node.ListRule.TheVariants as rules
use Rattle.frame_reader.specs.declared.node.Node.{Node}
use Rattle.frame_reader.specs.declared.node.Node.TheVariants as nodes

-- ---- forms

abbrev pub item_code : Item → Code
item_code items.Text = octets
item_code items.Number = number
item_code items.Element = forms.element
item_code items.Mirror = forms.mirror
item_code items.Value = forms.value
item_code items.NamedValue = forms.named_value
item_code items.TextAndValue = pair octets forms.value
item_code items.Annotation = forms.annotation

abbrev pub item_form : (item : Item) → Form (item_code item)
item_form items.Text = text
item_form items.Number = u16
item_form items.Element = mirrors.element
item_form items.Mirror = mirrors.mirror
item_form items.Value = mirrors.value
item_form items.NamedValue = mirrors.named_value
item_form items.TextAndValue = both text mirrors.value
item_form items.Annotation = mirrors.annotation

abbrev pub list_code : ListRule → Code
list_code rules.DistinctTexts = many octets
list_code rules.DistinctPatterns = many octets
list_code rules.AscendingTexts = many octets
list_code rules.AscendingOptions = many (pair octets octets)

abbrev pub list_form : (rule : ListRule) → Form (list_code rule)
list_form rules.DistinctTexts = distinct_texts
list_form rules.DistinctPatterns = distinct_patterns
list_form rules.AscendingTexts = ascending_texts
list_form rules.AscendingOptions = ascending_by_key text

abbrev pub node_code : Node → Code
node_code (nodes.Below bound) = one forms.plain
node_code (nodes.Exactly only) = one forms.certain
node_code nodes.Truth = one forms.truth
node_code nodes.Claim = one forms.claim
node_code nodes.PrimitiveKind = one forms.primitive_kind
node_code nodes.WholeKind = one forms.whole_kind
node_code nodes.Four = number
node_code nodes.Eight = forms.integer
node_code nodes.Octets = octets
node_code (nodes.One item) = item_code item
node_code (nodes.Maybe item) = maybe (item_code item)
node_code (nodes.Many item) = many (item_code item)
node_code (nodes.Texts rule) = list_code rule
node_code nodes.Bound = chosen forms.bound_kind mirrors.bound_fields
node_code nodes.Tagged = frames.frame_code

-- the form that a node is
abbrev pub node_form : (node : Node) → Form (node_code node)
node_form (nodes.Below bound) = mirrors.u8_below bound
node_form (nodes.Exactly only) = mirrors.exactly only
node_form nodes.Truth = mirrors.bool
node_form nodes.Claim = frames.claim
node_form nodes.PrimitiveKind = byte forms.primitive_kind kinds.Field mirrors.primitives
node_form nodes.WholeKind = byte forms.whole_kind kinds.Field mirrors.whole_kinds
node_form nodes.Four = u32
node_form nodes.Eight = i64
node_form nodes.Octets = any_bytes
node_form (nodes.One item) = item_form item
node_form (nodes.Maybe item) = opt (item_form item)
node_form (nodes.Many item) = list_of (item_form item)
node_form (nodes.Texts rule) = list_form rule
node_form nodes.Bound = choice forms.bound_kind kinds.Field mirrors.bounds mirrors.bound_fields mirrors.bound_form
node_form nodes.Tagged = frames.frame_form

-- ---- forms one after another

-- a form of values of some kind
abbrev pub AnyForm : Type 0
AnyForm = (c : Code) × Form c

-- the forms that stand one after another in a form
abbrev pub fields_in : {c : Code} → Form c → List AnyForm
fields_in empty = []
fields_in (byte s kind numbers) = (one s, byte s kind numbers) ∷ []
fields_in u16 = (number, u16) ∷ []
fields_in u32 = (number, u32) ∷ []
fields_in i64 = (forms.integer, i64) ∷ []
fields_in (run fault) = (octets, run fault) ∷ []
fields_in (both f g) = fields_in f ++ fields_in g
fields_in (choice s kind numbers of f) = (chosen s of, choice s kind numbers of f) ∷ []
fields_in (opt {c} f) = (maybe c, opt f) ∷ []
fields_in (list {c} f) = (many c, list f) ∷ []
fields_in (part {c} p) = (c, part p) ∷ []
fields_in (means {c} {d} make show f) = (d, means make show f) ∷ []

abbrev pub any_form : Node → AnyForm
any_form node = (node_code node, node_form node)

-- these nodes are the fields of the form
abbrev pub AreFields : {c : Code} → Form c → List Node → Type 0
AreFields form fields = fields_in form ≡ map any_form fields

-- ---- what a byte chooses

-- a number, and the nodes that it chooses
abbrev pub Choices : Type 0
Choices = List (ℕ × List Node)

-- the nodes that a number chooses
unfoldable pub chosen_by : Choices → ℕ → Option (List Node)
chosen_by [] n = None
chosen_by (first ∷ others) n = if first.0 == n then Some first.1 else chosen_by others n
