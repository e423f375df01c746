-- What the first byte of a node leaves to come is the rest of the node.
use Rattle.std.proofs.Common.{◌≡◌, ℕ, zero, suc, ◌<◌, ◌≤◌, Bool, true, false, ◌||◌, ◌==◌, nat_lt, cond, eqb, ltb, List, [], ◌∷◌, ◌++◌, length, slice_get, Option, Some, None, refl, sym, ap, ◌∙◌, arith}
use Rattle.std.specs.Int.{Width, w16, w32, w64, byte_len, from_be_bytes, cast_signed}
use Rattle.std.proofs.lemmas.Bool.{ltb-true, ltb-false}
use Rattle.frame_forms.specs.declared.bad_kind.BadKind.{BadKind}
use Rattle.frame_forms.specs.declared.bad_kind.BadKind.TheVariants as kinds
use Rattle.frame_forms.specs.Scans.{Scan, whole, begun, bad, and_then, named, number_scan, byte_scan, run_scan, opt_scan, items_scan}
use Rattle.frame_forms.specs.Forms as forms
use Rattle.frame_forms.specs.Forms.{One, Code, El, Form, Numbering, Sort, bool_at, scan_with}
use Rattle.frame_forms.specs.TextForms.{list_of, text}
use Rattle.frame_forms.specs.MirrorForms as mirrors
use Rattle.frame_forms.specs.FrameTable as frames
use Rattle.frame_forms.specs.FrameTable.{kind_at, tags, code_of, form_of}
use Rattle.frame_forms.specs.Frames.{part_scan}
use Rattle.apt_base.specs.declared.kinds.Claim.TheVariants as claims
use Rattle.type_mirror.specs.declared.mirror.PrimitiveKind.TheVariants as primitives
use Rattle.type_mirror.specs.declared.value.WholeKind.TheVariants as wholes
use Rattle.frame_reader.specs.declared.node.Item.{Item}
use Rattle.frame_reader.specs.declared.node.Item.TheVariants as items
use Rattle.frame_reader.specs.declared.node.ListRule.{ListRule}
use Rattle.frame_reader.specs.declared.node.ListRule.TheVariants as rules
use Rattle.frame_reader.specs.declared.node.Node.{Node}
use Rattle.frame_reader.specs.declared.node.Node.TheVariants as nodes
use Rattle.frame_reader.specs.declared.task.TextRule.{TextRule}
use Rattle.frame_reader.specs.declared.task.TextRule.TheVariants as texts
use Rattle.frame_reader.specs.declared.task.Then.{Then}
use Rattle.frame_reader.specs.declared.task.Then.TheVariants as thens
use Rattle.frame_reader.specs.declared.task.TextList.{TextList}
use Rattle.frame_reader.specs.declared.task.Task.{Task}
use Rattle.frame_reader.specs.Nodes.{item_form}
use Rattle.frame_reader.specs.Rests.{Reading, forgotten, then_read, form_rest, node_rest, fields_rest, items_rest, texts_rest, tasks_rest, gathered, number_of, plain_fault, text_done, text_behind, gather_done}
use Rattle.frame_reader.specs.Steps.{Left, gathers, chooses, passes_if, part_left, item_left, maybe_left, node_left, first_kind, behind_rest, tagged_choice, mirror_choices, value_choices, bound_choices}
use Rattle.frame_reader.proofs.Forgetting.{forgotten-and_then, forgotten-mapped, forgotten-items, then_read-whole}
use Rattle.frame_reader.proofs.Gathering.{gathered-same, number_gathered, run_done, run_behind, run_gathered}
use Rattle.frame_reader.proofs.Forming.{form_rest-nodes, byte_passes, byte_fails, choice_passes, choice_fails, form_rest-means, form_rest-both}
use Rattle.frame_reader.proofs.Tables.{IsChoice, tagged_is, mirror_choice, value_choice, bound_choice}
use Rattle.frame_reader.proofs.Lists.{texts_are, entries_are}

-- ---- what is left, as a reading

abbrev pub gather_start : List (List ℕ) → ℕ → Option (ℕ × Then) → Reading
gather_start before byte None later = whole tt later
gather_start before byte (Some g) later = gathered (byte ∷ []) g.0 (gather_done g.1 before None []) later

abbrev pub started : List (List ℕ) → ℕ → ℕ → Left → Reading
started before room byte left later = then_read (then_read (gather_start before byte left.gather later) (fields_rest left.room left.inner)) (behind_rest room left.behind)

abbrev pub outcome : List (List ℕ) → ℕ → BadKind → ℕ → Option Left → Reading
outcome before room kind byte None later = bad (byte ∷ later) kind
outcome before room kind byte (Some left) later = started before room byte left later

-- ---- runs

pub text_behind-is : (rule : TextRule) (before : List (List ℕ)) (list : Option TextList) (stack : List Task) (fault : List ℕ → Option BadKind) (k : List ℕ → Reading)
    → ((text : List ℕ) (b : ℕ) (rest : List ℕ) → run_done fault k text b rest ≡ text_done rule before list stack text b rest)
    → (count b : ℕ) (rest : List ℕ) → run_behind fault k count b rest ≡ text_behind rule before list stack count b rest
text_behind-is rule before list stack fault k e zero b rest = e [] b rest
text_behind-is rule before list stack fault k e (suc more) b rest =
    gathered-same [] more (λ front last behind. run_done fault k (front ++ last ∷ []) last behind) (λ front last behind. text_done rule before list stack (front ++ last ∷ []) last behind)
    (λ front last behind. e (front ++ last ∷ []) last behind) rest

forgotten-whole : {A : Type 0} (s : Scan A) → forgotten s ≡ and_then s (λ a rest. whole tt rest)
forgotten-whole (whole a rest) = refl
forgotten-whole begun = refl
forgotten-whole (bad rest kind) = refl

pub get_below : {A : Type 0} (xs : List A) (n : ℕ) → n < length xs → (x : A) × (slice_get xs n ≡ Some x)
get_below [] n lt = absurd (omega (arith, lt))
get_below (x ∷ xs) zero lt = (x, refl)
get_below (x ∷ xs) (suc n) lt = get_below xs n (omega (arith, lt))

get_above : {A : Type 0} (xs : List A) (n : ℕ) → length xs ≤ n → slice_get xs n ≡ None
get_above [] n le = refl
get_above (x ∷ xs) zero le = absurd (omega (arith, le))
get_above (x ∷ xs) (suc n) le = get_above xs n (omega (arith, le))

module _ (before : List (List ℕ)) (room byte : ℕ) (later : List ℕ) where
  -- ---- one byte

  passes : (kind : BadKind) (s : Scan (Unit {0})) (b : Bool) → (b ≡ true → s ≡ whole tt later) → (b ≡ false → s ≡ bad (byte ∷ later) kind) → s ≡ outcome before room kind byte (passes_if b) later
  unfolding fields_rest
  passes kind s true good wrong = good refl
  passes kind s false good wrong = wrong refl

  ordered : (sort : Sort) (number : One sort → ℕ) (xs : List (One sort)) (count : ℕ) → length xs ≡ count
      → form_rest room (forms.byte sort kinds.Field (mirrors.in_order number xs)) (byte ∷ later) ≡ outcome before room kinds.Field byte (passes_if (nat_lt byte count)) later
  ordered sort number xs count len = passes kinds.Field _ (ltb byte count)
      (λ e. let lt : byte < length xs = omega (arith, ltb-true byte count e, len) in
      let g = get_below xs byte lt in byte_passes room sort kinds.Field (mirrors.in_order number xs) byte later g.0 g.1)
      (λ e. let le : length xs ≤ byte = omega (arith, ltb-false byte count e, len) in
      byte_fails room sort kinds.Field (mirrors.in_order number xs) byte later (get_above xs byte le))

  below_begins : (bound : ℕ) → form_rest room (mirrors.u8_below bound) (byte ∷ later) ≡ outcome before room kinds.Field byte (passes_if (nat_lt byte bound)) later
  below_begins bound = passes kinds.Field _ (ltb byte bound)
      (λ e. byte_passes room forms.plain kinds.Field (mirrors.below bound) byte later byte (ap (λ (b : Bool). cond b (Some byte) None) e))
      (λ e. byte_fails room forms.plain kinds.Field (mirrors.below bound) byte later (ap (λ (b : Bool). cond b (Some byte) None) e))

  exactly_begins : (only : ℕ) → form_rest room (mirrors.exactly only) (byte ∷ later) ≡ outcome before room kinds.Field byte (passes_if (byte == only)) later
  exactly_begins only = passes kinds.Field _ (eqb byte only)
      (λ e. byte_passes room forms.certain kinds.Field (mirrors.certainly only) byte later tt (ap (λ (b : Bool). cond {A = Option (Unit {0})} b (Some tt) None) e))
      (λ e. byte_fails room forms.certain kinds.Field (mirrors.certainly only) byte later (ap (λ (b : Bool). cond {A = Option (Unit {0})} b (Some tt) None) e))

  -- ---- bytes that belong together

  started-alone : (more : ℕ) (next : Then) → started before room byte (record { gather = Some (more, next); inner = []; room = 0; behind = None }) later ≡ gathered (byte ∷ []) more (gather_done next before None []) later
  unfolding fields_rest
  started-alone more next =
      let s = gathered (byte ∷ []) more (gather_done next before None []) later in
      then_read-whole (then_read s (λ rest. whole tt rest)) ∙ then_read-whole s

  started-before : (more : ℕ) (next : Then) (node : Node)
      → started before room byte (record { gather = Some (more, next); inner = []; room = 0; behind = Some node }) later ≡ then_read (gathered (byte ∷ []) more (gather_done next before None []) later) (node_rest room node)
  unfolding fields_rest
  started-before more next node = ap (λ (s : Scan (Unit {0})). then_read s (node_rest room node)) (then_read-whole (gathered (byte ∷ []) more (gather_done next before None []) later))

  first_step : (more : ℕ) (next : List ℕ → ℕ → Reading) → gathered [] (suc more) next (byte ∷ later) ≡ gathered (byte ∷ []) more next later
  unfolding gathered
  first_step more next = refl

  number_begins : (w : Width) (more : ℕ) → byte_len w ≡ suc (suc more) → forgotten (number_scan w (byte ∷ later)) ≡ outcome before room kinds.Field byte (gathers more thens.Skip None) later
  unfolding tasks_rest
  number_begins w more len =
      forgotten-whole (number_scan w (byte ∷ later))
      ∙ number_gathered w (suc more) (λ n rest. whole tt rest) (byte ∷ later) len
      ∙ first_step more (λ f b rest. whole tt rest)
      ∙ gathered-same (byte ∷ []) more (λ f b rest. whole tt rest) (gather_done thens.Skip before None []) (λ f b rest. refl) later
      ∙ sym (started-alone more thens.Skip)

  run_begins : (fault : List ℕ → Option BadKind) (rule : TextRule)
      → ((text : List ℕ) (b : ℕ) (rest : List ℕ) → run_done fault (λ t behind. whole tt behind) text b rest ≡ text_done rule before None [] text b rest)
      → forgotten (run_scan fault (byte ∷ later)) ≡ gathered (byte ∷ []) 2 (gather_done (thens.Length rule) before None []) later
  run_begins fault rule e =
      forgotten-whole (run_scan fault (byte ∷ later))
      ∙ run_gathered fault (λ t behind. whole tt behind) (byte ∷ later)
      ∙ first_step 2 (λ front b rest. run_behind fault (λ t behind. whole tt behind) (number_of front b) b rest)
      ∙ gathered-same (byte ∷ []) 2 (λ front b rest. run_behind fault (λ t behind. whole tt behind) (number_of front b) b rest) (gather_done (thens.Length rule) before None [])
      (λ front b rest. text_behind-is rule before None [] fault (λ t behind. whole tt behind) e (number_of front b) b rest) later

  text_begins : form_rest room text (byte ∷ later) ≡ gathered (byte ∷ []) 2 (gather_done (thens.Length texts.Plain) before None []) later
  unfolding tasks_rest
  text_begins = run_begins plain_fault texts.Plain (λ t b rest. refl)

  octets_begin : forgotten (run_scan (λ bytes. None) (byte ∷ later)) ≡ gathered (byte ∷ []) 2 (gather_done (thens.Length texts.Octets) before None []) later
  unfolding tasks_rest
  octets_begin = run_begins (λ bytes. None) texts.Octets (λ t b rest. refl)

  counted_begins : {A : Type 0} (scan : ℕ → List ℕ → Scan A) (next : Then) → ((front : List ℕ) (b : ℕ) (rest : List ℕ) → forgotten (scan (number_of front b) rest) ≡ gather_done next before None [] front b rest)
      → forgotten (and_then (number_scan w32 (byte ∷ later)) scan) ≡ outcome before room kinds.Field byte (gathers 2 next None) later
  counted_begins scan next e =
      forgotten-and_then (number_scan w32 (byte ∷ later)) scan
      ∙ number_gathered w32 3 (λ count rest. forgotten (scan count rest)) (byte ∷ later) refl
      ∙ first_step 2 (λ f b rest. forgotten (scan (from_be_bytes w32 (f ++ b ∷ [])) rest))
      ∙ gathered-same (byte ∷ []) 2 (λ f b rest. forgotten (scan (from_be_bytes w32 (f ++ b ∷ [])) rest)) (gather_done next before None []) e later
      ∙ sym (started-alone 2 next)

  many_begins : (item : Item) → node_rest room (nodes.Many item) (byte ∷ later) ≡ outcome before room kinds.Field byte (gathers 2 (thens.Count item room) None) later
  unfolding tasks_rest
  many_begins item = counted_begins (λ count rest. items_scan (λ front. scan_with (part_scan room) (item_form item)) [] count rest) (thens.Count item room)
      (λ front b rest. forgotten-items (scan_with (part_scan room) (item_form item)) [] (number_of front b) rest ∙ sym (then_read-whole (items_rest (node_rest room (nodes.One item)) (number_of front b) rest)))

  texts_begin : (rule : ListRule) → node_rest room (nodes.Texts rule) (byte ∷ later) ≡ outcome before room kinds.Field byte (gathers 2 (thens.ListCount rule) None) later
  unfolding tasks_rest
  texts_begin rules.DistinctTexts = counted_begins _ (thens.ListCount rules.DistinctTexts)
      (λ front b rest. texts_are rules.DistinctTexts (λ bytes. refl) [] (number_of front b) rest ∙ sym (then_read-whole (texts_rest rules.DistinctTexts [] (number_of front b) rest)))
  texts_begin rules.DistinctPatterns = counted_begins _ (thens.ListCount rules.DistinctPatterns)
      (λ front b rest. texts_are rules.DistinctPatterns (λ bytes. refl) [] (number_of front b) rest ∙ sym (then_read-whole (texts_rest rules.DistinctPatterns [] (number_of front b) rest)))
  texts_begin rules.AscendingTexts = counted_begins _ (thens.ListCount rules.AscendingTexts)
      (λ front b rest. texts_are rules.AscendingTexts (λ bytes. refl) [] (number_of front b) rest ∙ sym (then_read-whole (texts_rest rules.AscendingTexts [] (number_of front b) rest)))
  texts_begin rules.AscendingOptions = counted_begins _ (thens.ListCount rules.AscendingOptions)
      (λ front b rest. entries_are [] (number_of front b) rest ∙ sym (then_read-whole (texts_rest rules.AscendingOptions [] (number_of front b) rest)))

  -- ---- a byte that chooses

  maybe_begins : (item : Item) → node_rest room (nodes.Maybe item) (byte ∷ later) ≡ outcome before room kinds.Field byte (maybe_left item (bool_at byte)) later
  unfolding byte_scan fields_rest
  maybe_begins item = go (bool_at byte)
    where
      go : (o : Option Bool) → forgotten (and_then (named kinds.Field o byte later) (λ is_there rest. opt_scan (scan_with (part_scan room) (item_form item)) is_there rest)) ≡ outcome before room kinds.Field byte (maybe_left item o) later
      go None = refl
      go (Some false) = refl
      go (Some true) = forgotten-mapped Some (scan_with (part_scan room) (item_form item) later)

  -- the fields that are chosen, and what comes behind them
  chosen_started : (inner : ℕ) (fields : List Node) (behind : Option Node)
      → then_read (fields_rest inner fields later) (behind_rest room behind) ≡ started before room byte (record { gather = None; inner = fields; room = inner; behind = behind }) later
  chosen_started inner fields behind = refl

  module _ (inner : ℕ) (kind : BadKind) (sort : Sort) (numbers : Numbering (One sort)) (of : One sort → Code) (form : (x : One sort) → Form (of x)) (behind : Option Node) where
    choice_begins : (o : Option (One sort)) (fields : Option (List Node)) → numbers.at byte ≡ o → IsChoice of form o fields
        → then_read (form_rest inner (forms.choice sort kind numbers of form) (byte ∷ later)) (behind_rest room behind) ≡ outcome before room kind byte (chooses inner behind fields) later
    choice_begins None None at is = ap (λ (s : Scan (Unit {0})). then_read s (behind_rest room behind)) (choice_fails inner sort kind numbers byte later of form at)
    choice_begins None (Some fields) at is = absurd is
    choice_begins (Some x) None at is = absurd is
    choice_begins (Some x) (Some fields) at is =
        ap (λ (s : Scan (Unit {0})). then_read s (behind_rest room behind))
        (choice_passes inner sort kind numbers byte later of form x at ∙ form_rest-nodes inner (form x) fields later is)

  without_behind : (s : Scan (Unit {0})) → s ≡ then_read s (behind_rest room None)
  without_behind s = sym (then_read-whole s)

  bound_begins : node_rest room nodes.Bound (byte ∷ later) ≡ outcome before room kinds.Field byte (node_left room nodes.Bound byte) later
  unfolding node_left
  bound_begins = without_behind _ ∙ choice_begins room kinds.Field forms.bound_kind mirrors.bounds mirrors.bound_fields mirrors.bound_form None (mirrors.bounds.at byte) (slice_get bound_choices byte) refl (bound_choice byte)

  tagged_begins : node_rest room nodes.Tagged (byte ∷ later) ≡ outcome before room kinds.Tag byte (node_left room nodes.Tagged byte) later
  unfolding node_left
  tagged_begins = without_behind _ ∙ choice_begins room kinds.Tag forms.frame_kind tags code_of form_of None (kind_at byte) (tagged_choice byte) refl (tagged_is byte)

-- ---- mirrors and values

mirror_begins : (before : List (List ℕ)) (room byte : ℕ) (later : List ℕ) (behind : Option Node)
    → then_read (form_rest room mirrors.mirror (byte ∷ later)) (behind_rest room behind) ≡ outcome before room kinds.Field byte (part_left room behind mirror_choices byte) later
unfolding part_scan
mirror_begins before zero byte later behind = refl
mirror_begins before (suc room) byte later behind =
    ap (λ (s : Scan (Unit {0})). then_read s (behind_rest (suc room) behind))
    (form_rest-means room (forms.chosen forms.mirror_variant mirrors.mirror_fields) forms.mirror (λ v. mirrors.mirror_made v.0 v.1) mirrors.mirror_shown
    (forms.choice forms.mirror_variant kinds.Field mirrors.mirror_variants mirrors.mirror_fields mirrors.mirror_form) (byte ∷ later))
    ∙ choice_begins before (suc room) byte later room kinds.Field forms.mirror_variant mirrors.mirror_variants mirrors.mirror_fields mirrors.mirror_form behind (mirrors.mirror_variants.at byte) (slice_get mirror_choices byte) refl (mirror_choice byte)

value_begins : (before : List (List ℕ)) (room byte : ℕ) (later : List ℕ) (behind : Option Node)
    → then_read (form_rest room mirrors.value (byte ∷ later)) (behind_rest room behind) ≡ outcome before room kinds.Field byte (part_left room behind value_choices byte) later
unfolding part_scan
value_begins before zero byte later behind = refl
value_begins before (suc room) byte later behind =
    ap (λ (s : Scan (Unit {0})). then_read s (behind_rest (suc room) behind))
    (form_rest-means room (forms.chosen forms.value_variant mirrors.value_fields) forms.value (λ v. mirrors.value_made v.0 v.1) mirrors.value_shown
    (forms.choice forms.value_variant kinds.Field mirrors.value_variants mirrors.value_fields mirrors.value_form) (byte ∷ later))
    ∙ choice_begins before (suc room) byte later room kinds.Field forms.value_variant mirrors.value_variants mirrors.value_fields mirrors.value_form behind (mirrors.value_variants.at byte) (slice_get value_choices byte) refl (value_choice byte)

-- ---- nodes

module _ (before : List (List ℕ)) (room byte : ℕ) (later : List ℕ) where
  -- a text and one node behind it
  text_and : (node : Node) → then_read (form_rest room text (byte ∷ later)) (node_rest room node) ≡ outcome before room kinds.Field byte (gathers 2 (thens.Length texts.Plain) (Some node)) later
  text_and node =
      ap (λ (s : Scan (Unit {0})). then_read s (node_rest room node)) (text_begins before room byte later)
      ∙ sym (started-before before room byte later 2 (thens.Length texts.Plain) node)

  item_begins : (item : Item) → node_rest room (nodes.One item) (byte ∷ later) ≡ outcome before room kinds.Field byte (item_left room item byte) later
  item_begins items.Text = text_begins before room byte later ∙ sym (started-alone before room byte later 2 (thens.Length texts.Plain))
  item_begins items.Number = number_begins before room byte later w16 0 refl
  item_begins items.Element =
      form_rest-means room (forms.pair forms.octets (forms.many forms.number)) forms.element mirrors.element_of mirrors.element_shown (forms.both text (list_of forms.u16)) (byte ∷ later)
      ∙ form_rest-both room forms.octets (forms.many forms.number) text (list_of forms.u16) (byte ∷ later)
      ∙ text_and (nodes.Many items.Number)
  item_begins items.Mirror = without_behind before room byte later _ ∙ mirror_begins before room byte later None
  item_begins items.Value = without_behind before room byte later _ ∙ value_begins before room byte later None
  item_begins items.NamedValue =
      form_rest-means room (forms.pair forms.octets forms.value) forms.named_value mirrors.named_of mirrors.named_shown (forms.both text mirrors.value) (byte ∷ later)
      ∙ form_rest-both room forms.octets forms.value text mirrors.value (byte ∷ later)
      ∙ text_and (nodes.One items.Value)
  item_begins items.TextAndValue = form_rest-both room forms.octets forms.value text mirrors.value (byte ∷ later) ∙ text_and (nodes.One items.Value)
  item_begins items.Annotation =
      form_rest-means room (forms.pair forms.mirror (forms.many forms.named_value)) forms.annotation mirrors.annotation_of mirrors.annotation_shown (forms.both mirrors.mirror (list_of mirrors.named_value)) (byte ∷ later)
      ∙ form_rest-both room forms.mirror (forms.many forms.named_value) mirrors.mirror (list_of mirrors.named_value) (byte ∷ later)
      ∙ mirror_begins before room byte later (Some (nodes.Many items.NamedValue))

  whole_kind_begins : node_rest room nodes.WholeKind (byte ∷ later) ≡ outcome before room kinds.Field byte (node_left room nodes.WholeKind byte) later
  unfolding node_left fields_rest
  whole_kind_begins = go (eqb byte 3) (eqb byte 4) refl refl
    where
      go : (a b : Bool) → eqb byte 3 ≡ a → eqb byte 4 ≡ b → node_rest room nodes.WholeKind (byte ∷ later) ≡ outcome before room kinds.Field byte (passes_if (a || b)) later
      go true b e f = byte_passes room forms.whole_kind kinds.Field mirrors.whole_kinds byte later wholes.Int (ap (λ (x : Bool). cond x (Some wholes.Int) (cond (eqb byte 4) (Some wholes.Long) None)) e)
      go false true e f =
          byte_passes room forms.whole_kind kinds.Field mirrors.whole_kinds byte later wholes.Long
          (ap (λ (x : Bool). cond x (Some wholes.Int) (cond (eqb byte 4) (Some wholes.Long) None)) e ∙ ap (λ (x : Bool). cond x (Some wholes.Long) None) f)
      go false false e f =
          byte_fails room forms.whole_kind kinds.Field mirrors.whole_kinds byte later
          (ap (λ (x : Bool). cond x (Some wholes.Int) (cond (eqb byte 4) (Some wholes.Long) None)) e ∙ ap (λ (x : Bool). cond x (Some wholes.Long) None) f)

  -- what the first byte of a node leaves to come is the rest of the node
  pub node_begins : (node : Node) → node_rest room node (byte ∷ later) ≡ outcome before room (first_kind node) byte (node_left room node byte) later
  unfolding node_left
  node_begins (nodes.Below bound) = below_begins before room byte later bound
  node_begins (nodes.Exactly only) = exactly_begins before room byte later only
  node_begins nodes.Truth = ordered before room byte later forms.truth mirrors.bool_number (false ∷ true ∷ []) 2 refl
  node_begins nodes.Claim = ordered before room byte later forms.claim frames.claim_number (claims.Always ∷ claims.Never ∷ claims.Varies ∷ []) 3 refl
  node_begins nodes.PrimitiveKind =
      ordered before room byte later forms.primitive_kind mirrors.primitive_number
      (primitives.Boolean ∷ primitives.Byte ∷ primitives.Short ∷ primitives.Int ∷ primitives.Long ∷ primitives.Char ∷ primitives.Float ∷ primitives.Double ∷ []) 8 refl
  node_begins nodes.WholeKind = whole_kind_begins
  node_begins nodes.Four = number_begins before room byte later w32 2 refl
  node_begins nodes.Eight = forgotten-mapped (cast_signed w64) (number_scan w64 (byte ∷ later)) ∙ number_begins before room byte later w64 6 refl
  node_begins nodes.Octets = octets_begin before room byte later ∙ sym (started-alone before room byte later 2 (thens.Length texts.Octets))
  node_begins (nodes.One item) = item_begins item
  node_begins (nodes.Maybe item) = maybe_begins before room byte later item
  node_begins (nodes.Many item) = many_begins before room byte later item
  node_begins (nodes.Texts rule) = texts_begin before room byte later rule
  node_begins nodes.Bound = bound_begins before room byte later
  node_begins nodes.Tagged = tagged_begins before room byte later
