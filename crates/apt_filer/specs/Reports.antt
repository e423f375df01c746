-- The order of messages in a report: by round, processor, origin and number.
use Rattle.std.specs.Prelude.{◌≡◌, ℕ, ◌≤◌, Bool, true, false, ◌&&◌, ◌==◌, List, [], ◌∷◌, ◌++◌}
use Rattle.std.specs.Bool.{⊤}
use Rattle.std.specs.Cmp.Lexicographic.{slice_cmp}
use Rattle.std.specs.List.{AllByRecursion, filter}
use Rattle.std.specs.Option.{option_map_or}
use Rattle.std.specs.Ordering.{is_lt, nat_cmp, ordering_then}
use Rattle.std.specs.declared.cmp.Ordering.{Ordering}
use Rattle.std.specs.Str.{bytes_eq}
use Rattle.apt_base.specs.declared.element.ElementRef.{ElementRef}
use Rattle.wire_frames.specs.declared.frame.Message.{Message}
use Rattle.apt_filer.specs.declared.messages.Placed.{Placed}
use Rattle.apt_filer.specs.Orders.{in_order}

-- the origin by which a message is ordered: the unit of its element, or the empty text
abbrev pub origin_text : Message → List ℕ
origin_text message = option_map_or (λ (at : ElementRef). at.unit) message.element []

-- by round, then by processor, then by origin; texts as their bytes
abbrev pub origin_cmp : Placed → Placed → Ordering
origin_cmp one other =
    ordering_then
    (ordering_then (nat_cmp one.round other.round) (nat_cmp one.processor other.processor))
    (slice_cmp nat_cmp (origin_text one.message) (origin_text other.message))

-- and then by number
abbrev pub report_cmp : Placed → Placed → Ordering
report_cmp one other = ordering_then (origin_cmp one other) (nat_cmp one.number other.number)

abbrev pub is_before : Placed → Placed → Bool
is_before one other = is_lt (report_cmp one other)

-- the messages of a report in their order
abbrev pub in_report_order : List Placed → List Placed
in_report_order messages = in_order is_before messages

-- ---- the same without numbers

abbrev pub has_origin_before : Placed → Placed → Bool
has_origin_before one other = is_lt (origin_cmp one other)

-- those of one round, processor and origin stay as they stand
abbrev pub in_origin_order : List Placed → List Placed
in_origin_order messages = in_order has_origin_before messages

-- it was printed in this round by this processor, at an element of this unit
abbrev pub is_of : ℕ → ℕ → List ℕ → Placed → Bool
is_of round processor unit placed = ((round == placed.round) && (processor == placed.processor)) && bytes_eq unit (origin_text placed.message)

-- the messages of one round, processor and origin
abbrev pub messages_of : ℕ → ℕ → List ℕ → List Placed → List Placed
messages_of round processor unit messages = filter (is_of round processor unit) messages

-- of two messages of one round, processor and origin the later one has no smaller number
unfoldable pub NumbersAscend : List Placed → Type 0
NumbersAscend [] = ⊤
NumbersAscend (placed ∷ later) =
    AllByRecursion (λ other. is_of placed.round placed.processor (origin_text placed.message) other ≡ true → placed.number ≤ other.number) later × NumbersAscend later

-- each of these comes before each of those, or has its round, processor and origin
abbrev pub ComeBefore : List Placed → List Placed → Type 0
ComeBefore those these = AllByRecursion (λ one. AllByRecursion (λ other. has_origin_before other one ≡ false) these) those

-- ---- laws

-- where numbers ascend they play no part
abbrev pub NumbersPlayNoPart : Type 0
NumbersPlayNoPart = (messages : List Placed) → NumbersAscend messages → in_report_order messages ≡ in_origin_order messages

-- what the messages of each round, processor and origin are says what all are in their order
abbrev pub OriginsTell : Type 0
OriginsTell =
    (messages others : List Placed) → ((round processor : ℕ) (unit : List ℕ) → messages_of round processor unit messages ≡ messages_of round processor unit others)
    → in_origin_order messages ≡ in_origin_order others

-- what is printed later, in a later round or by a later processor, comes later
abbrev pub LaterComesLater : Type 0
LaterComesLater = (messages later : List Placed) → ComeBefore messages later → in_origin_order (messages ++ later) ≡ in_origin_order messages ++ in_origin_order later
