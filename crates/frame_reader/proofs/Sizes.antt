-- How many bytes belong together, and that no node is read from none.
use Rattle.std.proofs.Common.{◌≡◌, ℕ, zero, suc, ◌+◌, Bool, true, false, ◌||◌, nat_lt, eqb, List, [], drop, slice_get, Option, Some, None, refl, ap, ◌∙◌, lit<}
use Rattle.std.specs.Int.{w16, w32, w64, cast_signed}
use Rattle.frame_forms.specs.declared.bad_kind.BadKind.{BadKind}
use Rattle.frame_forms.specs.Scans.{Scan, begun, and_then, front_scan, number_scan, byte_scan, judged, run_scan}
use Rattle.frame_forms.specs.Forms as forms
use Rattle.frame_forms.specs.Forms.{El, Form, bool_at, scan_with}
use Rattle.frame_forms.specs.TextForms.{text, list_of}
use Rattle.frame_forms.specs.MirrorForms as mirrors
use Rattle.frame_forms.specs.Frames.{part_scan}
use Rattle.frame_forms.proofs.Steady.{number_scan-short}
use Rattle.frame_reader.specs.declared.node.Item.{Item}
use Rattle.frame_reader.specs.declared.node.Item.TheVariants as items
use Rattle.frame_reader.specs.declared.node.ListRule.{ListRule}
use Rattle.frame_reader.specs.declared.node.ListRule.TheVariants as rules
use Rattle.frame_reader.specs.declared.node.Node.{Node}
use Rattle.frame_reader.specs.declared.node.Node.TheVariants as nodes
use Rattle.frame_reader.specs.declared.task.Then.{Then}
use Rattle.frame_reader.specs.Nodes.{chosen_by}
use Rattle.frame_reader.specs.Rests.{forgotten, then_read, form_rest, node_rest}
use Rattle.frame_reader.specs.Steps.{Left, passes_if, chooses, part_left, maybe_left, item_left, node_left, tagged_choice, mirror_choices, value_choices, bound_choices}
use Rattle.frame_reader.specs.Stands.{IsSized}
use Rattle.frame_reader.proofs.Forgetting.{forgotten-mapped}
use Rattle.frame_reader.proofs.Forming.{form_rest-means, form_rest-both}

-- ---- sizes

abbrev pub GatherFits : Option (ℕ × Then) → Type 0
GatherFits None = Unit {0}
GatherFits (Some g) = IsSized g.1 None (1 + suc g.0)

abbrev pub LeftFits : Option Left → Type 0
LeftFits None = Unit {0}
LeftFits (Some left) = GatherFits left.gather

passes_if-fits : (passed : Bool) → LeftFits (passes_if passed)
passes_if-fits true = tt
passes_if-fits false = tt

chooses-fits : (room : ℕ) (behind : Option Node) (fields : Option (List Node)) → LeftFits (chooses room behind fields)
chooses-fits room behind None = tt
chooses-fits room behind (Some fields) = tt

part_left-fits : (room : ℕ) (behind : Option Node) (choices : List (List Node)) (byte : ℕ) → LeftFits (part_left room behind choices byte)
part_left-fits zero behind choices byte = tt
part_left-fits (suc room) behind choices byte = chooses-fits room behind (slice_get choices byte)

item_left-fits : (room : ℕ) (item : Item) (byte : ℕ) → LeftFits (item_left room item byte)
item_left-fits room items.Text byte = refl
item_left-fits room items.Number byte = tt
item_left-fits room items.Element byte = refl
item_left-fits room items.Mirror byte = part_left-fits room None mirror_choices byte
item_left-fits room items.Value byte = part_left-fits room None value_choices byte
item_left-fits room items.NamedValue byte = refl
item_left-fits room items.TextAndValue byte = refl
item_left-fits room items.Annotation byte = part_left-fits room (Some (nodes.Many items.NamedValue)) mirror_choices byte

maybe_left-fits : (item : Item) (o : Option Bool) → LeftFits (maybe_left item o)
maybe_left-fits item None = tt
maybe_left-fits item (Some false) = tt
maybe_left-fits item (Some true) = tt

pub node_left-fits : (room : ℕ) (node : Node) (byte : ℕ) → LeftFits (node_left room node byte)
unfolding node_left
node_left-fits room (nodes.Below bound) byte = passes_if-fits (nat_lt byte bound)
node_left-fits room (nodes.Exactly only) byte = passes_if-fits (eqb byte only)
node_left-fits room nodes.Truth byte = passes_if-fits (nat_lt byte 2)
node_left-fits room nodes.Claim byte = passes_if-fits (nat_lt byte 3)
node_left-fits room nodes.PrimitiveKind byte = passes_if-fits (nat_lt byte 8)
node_left-fits room nodes.WholeKind byte = passes_if-fits (eqb byte 3 || eqb byte 4)
node_left-fits room nodes.Four byte = tt
node_left-fits room nodes.Eight byte = tt
node_left-fits room nodes.Octets byte = refl
node_left-fits room (nodes.One item) byte = item_left-fits room item byte
node_left-fits room (nodes.Maybe item) byte = maybe_left-fits item (bool_at byte)
node_left-fits room (nodes.Many item) byte = (refl, tt)
node_left-fits room (nodes.Texts rule) byte = (refl, tt)
node_left-fits room nodes.Bound byte = chooses-fits room None (slice_get bound_choices byte)
node_left-fits room nodes.Tagged byte = chooses-fits room None (tagged_choice byte)

-- ---- no bytes

run_none : (fault : List ℕ → Option BadKind) → run_scan fault [] ≡ begun
unfolding run_scan
run_none fault = ap (λ (r : Scan ℕ). and_then r (λ count rest. and_then (front_scan count rest) (λ run behind. judged (fault run) run behind (drop (count + 3) [])))) (number_scan-short w32 [] (lit< tt))

counted_none : {A : Type 0} (next : ℕ → List ℕ → Scan A) → forgotten (and_then (number_scan w32 []) next) ≡ begun
counted_none next = ap (λ (r : Scan ℕ). forgotten (and_then r next)) (number_scan-short w32 [] (lit< tt))

text_none : (room : ℕ) → form_rest room text [] ≡ begun
text_none room = ap (λ (r : Scan (List ℕ)). forgotten r) (run_none _)

mirror_none : (room : ℕ) → form_rest room mirrors.mirror [] ≡ begun
unfolding part_scan byte_scan
mirror_none zero = refl
mirror_none (suc room) = refl

value_none : (room : ℕ) → form_rest room mirrors.value [] ≡ begun
unfolding part_scan byte_scan
value_none zero = refl
value_none (suc room) = refl

item_none : (room : ℕ) (item : Item) → node_rest room (nodes.One item) [] ≡ begun
item_none room items.Text = text_none room
item_none room items.Number = ap (λ (r : Scan ℕ). forgotten r) (number_scan-short w16 [] (lit< tt))
item_none room items.Element =
    form_rest-means room (forms.pair forms.octets (forms.many forms.number)) forms.element mirrors.element_of mirrors.element_shown (forms.both text (list_of forms.u16)) []
    ∙ form_rest-both room forms.octets (forms.many forms.number) text (list_of forms.u16) []
    ∙ ap (λ (r : Scan (Unit {0})). then_read r (form_rest room (list_of forms.u16))) (text_none room)
item_none room items.Mirror = mirror_none room
item_none room items.Value = value_none room
item_none room items.NamedValue =
    form_rest-means room (forms.pair forms.octets forms.value) forms.named_value mirrors.named_of mirrors.named_shown (forms.both text mirrors.value) []
    ∙ form_rest-both room forms.octets forms.value text mirrors.value []
    ∙ ap (λ (r : Scan (Unit {0})). then_read r (form_rest room mirrors.value)) (text_none room)
item_none room items.TextAndValue =
    form_rest-both room forms.octets forms.value text mirrors.value [] ∙ ap (λ (r : Scan (Unit {0})). then_read r (form_rest room mirrors.value)) (text_none room)
item_none room items.Annotation =
    form_rest-means room (forms.pair forms.mirror (forms.many forms.named_value)) forms.annotation mirrors.annotation_of mirrors.annotation_shown (forms.both mirrors.mirror (list_of mirrors.named_value)) []
    ∙ form_rest-both room forms.mirror (forms.many forms.named_value) mirrors.mirror (list_of mirrors.named_value) []
    ∙ ap (λ (r : Scan (Unit {0})). then_read r (form_rest room (list_of mirrors.named_value))) (mirror_none room)

texts_none : (room : ℕ) (rule : ListRule) → node_rest room (nodes.Texts rule) [] ≡ begun
texts_none room rules.DistinctTexts = counted_none _
texts_none room rules.DistinctPatterns = counted_none _
texts_none room rules.AscendingTexts = counted_none _
texts_none room rules.AscendingOptions = counted_none _

pub node_rest-none : (room : ℕ) (node : Node) → node_rest room node [] ≡ begun
unfolding byte_scan
node_rest-none room (nodes.Below bound) = refl
node_rest-none room (nodes.Exactly only) = refl
node_rest-none room nodes.Truth = refl
node_rest-none room nodes.Claim = refl
node_rest-none room nodes.PrimitiveKind = refl
node_rest-none room nodes.WholeKind = refl
node_rest-none room nodes.Four = ap (λ (r : Scan ℕ). forgotten r) (number_scan-short w32 [] (lit< tt))
node_rest-none room nodes.Eight = forgotten-mapped (cast_signed w64) (number_scan w64 []) ∙ ap (λ (r : Scan ℕ). forgotten r) (number_scan-short w64 [] (lit< tt))
node_rest-none room nodes.Octets = ap (λ (r : Scan (List ℕ)). forgotten r) (run_none _)
node_rest-none room (nodes.One item) = item_none room item
node_rest-none room (nodes.Maybe item) = refl
node_rest-none room (nodes.Many item) = counted_none _
node_rest-none room (nodes.Texts rule) = texts_none room rule
node_rest-none room nodes.Bound = refl
node_rest-none room nodes.Tagged = refl
