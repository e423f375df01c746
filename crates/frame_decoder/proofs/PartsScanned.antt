-- Mirrors, values and annotations that stand next are what the scan of the table finds whole.
use Rattle.std.proofs.Common.{◌≡◌, ℕ, zero, suc, List, [], ◌∷◌, Option, Some, None, refl, ap, ◌∙◌}
use Rattle.apt_base.specs.Fields.{◌>>=◌, u8_next, i64_next, text_next}
use Rattle.apt_base.specs.Forms.{Reader, ◌>>◌, numbered, opt_next, list_next}
use Rattle.apt_base.specs.Forms as readers
use Rattle.type_mirror.specs.declared.mirror.Mirror.{Mirror}
use Rattle.type_mirror.specs.declared.value.Value.{Value}
use Rattle.frame_forms.specs.declared.bad_kind.BadKind.TheVariants as kinds
use Rattle.frame_forms.specs.Scans as scans
use Rattle.frame_forms.specs.Scans.{Scan, whole, begun, bad, byte_scan, named}
use Rattle.frame_forms.specs.Forms as forms
use Rattle.frame_forms.specs.Forms.{El, Form, PartScans, both, opt, i64, mirror_part, value_part, scan_with, MirrorVariant, primitive, declared, error, variable, array, wildcard, executable, nothing_there, void, null, package_mirror, BoundKind, unbounded, upper, lower, ValueVariant, truth_value, whole_value, character, text_value, class_value, constant, array_value, nested, other, floating}
use Rattle.frame_forms.specs.TextForms.{text, list_of}
use Rattle.frame_forms.specs.MirrorForms.{certainly, exactly, element, primitives, bounds, bound_fields, bound_form, bounded, mirror, MirrorShown, ValueShown, mirror_variants, mirror_fields, mirror_form, mirror_made, whole_kinds, value, value_variants, value_form, value_made, named_value, named_of, annotation, annotation_of, grammar}
use Rattle.frame_forms.specs.Frames.{part_scan, scanned, too_deep}
use Rattle.wire_frames.specs.Readings.{found, element_next}
use Rattle.frame_decoder.specs.PartReadings.{nothing_next, exactly_next, bound_next, bounded_by, wildcard_next, variant_next, mirror_of, mirror_in, mirror_next, named_in, annotation_in, value_fields_next, value_of, value_in, value_next}
use Rattle.wire_frames.proofs.Scanned.{Same, pair-same, made-same, list-same, opt-same, byte-same, text-same, u32-same, i64-same, bool_form-same, element-same}

-- a byte, and what it is the number of
chosen-same : {A B : Type 0} (of : ℕ → Option A) (next : Option A → Reader B) (scan : A → List ℕ → Scan B) → ((rest : List ℕ) → next None rest ≡ None) → ((x : A) → Same (next (Some x)) (scan x))
    → Same (λ bytes. u8_next bytes >>= λ n. next (of n.0) n.1) (λ bytes. scans.and_then (byte_scan kinds.Field of bytes) scan)
unfolding u8_next byte_scan
chosen-same of next scan none some [] = refl
chosen-same of next scan none some (n ∷ rest) = cases (of n)
  where
    cases : (o : Option _) → next o rest ≡ found (scans.and_then (named kinds.Field o n rest) scan)
    cases None = none rest
    cases (Some x) = some x rest

-- what is made of what was made
made_twice : {A B C : Type 0} (tag : A → B) (make : B → C) (s : Scan A) → found (scans.mapped (λ v. make (tag v)) s) ≡ found (scans.mapped make (scans.mapped tag s))
made_twice tag make (whole a rest) = refl
made_twice tag make begun = refl
made_twice tag make (bad rest kind) = refl

twice-same : {A B C : Type 0} (tag : A → B) (make : B → C) (next : Reader A) (scan : List ℕ → Scan A) → Same next scan → Same (readers.mapped (λ v. make (tag v)) next) (λ bytes. scans.mapped make (scans.mapped tag (scan bytes)))
twice-same tag make next scan same bytes = made-same (λ v. make (tag v)) next scan same bytes ∙ made_twice tag make (scan bytes)

-- what is made of a thing that a byte chose
chosen_made : {A B C : Type 0} (make : B → C) (s : Scan A) (k : A → List ℕ → Scan B) → scans.and_then s (λ x rest. scans.mapped make (k x rest)) ≡ scans.mapped make (scans.and_then s k)
chosen_made make (whole x rest) k = refl
chosen_made make begun k = refl
chosen_made make (bad rest kind) k = refl

exactly-same : (only : ℕ) → Same (exactly_next only) (scanned (exactly only))
unfolding exactly_next
exactly-same only bytes = byte-same kinds.Field (certainly only).at bytes

-- where there is no room nothing is read
no_room : {A : Type 0} (bytes : List ℕ) → readers.none_next {A = A} bytes ≡ found (too_deep {A = A} bytes)
no_room [] = refl
no_room (byte ∷ rest) = refl

-- ---- mirrors

abbrev Bounded : Type 0
Bounded = (x : BoundKind) × El (bound_fields x)

abbrev made_bound : MirrorShown → Mirror
made_bound v = mirror_made v.0 v.1

abbrev as_wildcard : Bounded → MirrorShown
as_wildcard v = (wildcard, v)

module _ (scan : PartScans) (inner : Reader Mirror) (same : Same inner (scan forms.mirror mirror_part)) where
  bound-same : (x : BoundKind) → Same (bound_next inner x) (scan_with scan (bound_form x))
  bound-same unbounded = exactly-same 0
  bound-same upper = pair-same (exactly_next 1) (scanned (exactly 1)) inner (scan forms.mirror mirror_part) (exactly-same 1) same
  bound-same lower = pair-same (exactly_next 1) (scanned (exactly 1)) inner (scan forms.mirror mirror_part) (exactly-same 1) same

  abbrev bound_scan : (x : BoundKind) → List ℕ → Scan Bounded
  bound_scan x rest = scans.mapped {B = Bounded} (λ v. (x, v)) (scan_with scan (bound_form x) rest)

  bounded-same : (x : BoundKind) → Same (bounded_by inner (Some x)) (λ rest. scans.mapped (λ v. bounded v.0 v.1) (bound_scan x rest))
  bounded-same x = twice-same {B = Bounded} (λ v. (x, v)) (λ v. bounded v.0 v.1) (bound_next inner x) (scan_with scan (bound_form x)) (bound-same x)

  wildcard-same : Same (wildcard_next inner) (λ rest. scans.mapped made_bound (scans.mapped as_wildcard (scan_with scan (mirror_form wildcard) rest)))
  unfolding wildcard_next
  wildcard-same bytes =
      chosen-same bounds.at (bounded_by inner) (λ x rest. scans.mapped (λ v. bounded v.0 v.1) (bound_scan x rest)) (λ rest. refl) bounded-same bytes
      ∙ ap found (chosen_made (λ v. bounded v.0 v.1) (byte_scan kinds.Field bounds.at bytes) bound_scan)
      ∙ made_twice as_wildcard made_bound (scan_with scan (mirror_form wildcard) bytes)

  mirrors-same : Same (list_next inner) (scan_with scan (list_of mirror))
  mirrors-same = list-same inner (scan forms.mirror mirror_part) same

  -- the fields of a variant, and the mirror that is made of them
  abbrev VariantSame : MirrorVariant → Type 0
  VariantSame x = Same (variant_next inner x) (λ rest. scans.mapped made_bound (scans.mapped {B = MirrorShown} (λ v. (x, v)) (scan_with scan (mirror_form x) rest)))

  variant : (x : MirrorVariant) (next : Reader (El (mirror_fields x))) → Same next (scan_with scan (mirror_form x))
      → Same (readers.mapped (mirror_made x) next) (λ rest. scans.mapped made_bound (scans.mapped {B = MirrorShown} (λ v. (x, v)) (scan_with scan (mirror_form x) rest)))
  variant x next is = twice-same {B = MirrorShown} (λ v. (x, v)) made_bound next (scan_with scan (mirror_form x)) is

  variant-same : (x : MirrorVariant) → VariantSame x
  variant-same primitive = variant primitive (numbered primitives.at) (byte-same kinds.Field primitives.at)
  variant-same declared =
      variant declared (element_next >> (opt_next inner >> list_next inner))
      (pair-same element_next (scanned element) (opt_next inner >> list_next inner) (scan_with scan (both (opt mirror) (list_of mirror))) element-same
      (pair-same (opt_next inner) (scan_with scan (opt mirror)) (list_next inner) (scan_with scan (list_of mirror)) (opt-same inner (scan forms.mirror mirror_part) same) mirrors-same))
  variant-same error = variant error text_next text-same
  variant-same variable = variant variable element_next element-same
  variant-same array = variant array inner same
  variant-same wildcard = wildcard-same
  variant-same executable =
      variant executable (list_next element_next >> (list_next inner >> (inner >> list_next inner)))
      (pair-same (list_next element_next) (scanned (list_of element)) (list_next inner >> (inner >> list_next inner)) (scan_with scan (both (list_of mirror) (both mirror (list_of mirror)))) (list-same element_next (scanned element) element-same)
      (pair-same (list_next inner) (scan_with scan (list_of mirror)) (inner >> list_next inner) (scan_with scan (both mirror (list_of mirror))) mirrors-same
      (pair-same inner (scan forms.mirror mirror_part) (list_next inner) (scan_with scan (list_of mirror)) same mirrors-same)))
  variant-same nothing_there = variant nothing_there nothing_next (λ bytes. refl)
  variant-same void = variant void nothing_next (λ bytes. refl)
  variant-same null = variant null nothing_next (λ bytes. refl)
  variant-same package_mirror = variant package_mirror text_next text-same

  mirror_in-same : Same (mirror_in inner) (scan_with scan (grammar mirror_part))
  unfolding mirror_in
  mirror_in-same bytes =
      chosen-same mirror_variants.at (mirror_of inner) (λ x rest. scans.mapped made_bound (scans.mapped {B = MirrorShown} (λ v. (x, v)) (scan_with scan (mirror_form x) rest))) (λ rest. refl) variant-same bytes
      ∙ ap found (chosen_made made_bound (byte_scan kinds.Field mirror_variants.at bytes) (λ x rest. scans.mapped {B = MirrorShown} (λ v. (x, v)) (scan_with scan (mirror_form x) rest)))

pub mirror-same : (room : ℕ) → Same (mirror_next room) (part_scan room forms.mirror mirror_part)
unfolding mirror_next part_scan
mirror-same zero bytes = no_room bytes
mirror-same (suc room) bytes = mirror_in-same (part_scan room) (mirror_next room) (mirror-same room) bytes

-- ---- values and annotations

abbrev made_value : ValueShown → Value
made_value v = value_made v.0 v.1

module _ (scan : PartScans) (mirrors : Reader Mirror) (values : Reader Value) (same : Same mirrors (scan forms.mirror mirror_part)) (value_same : Same values (scan forms.value value_part)) where
  named-same : Same (named_in values) (scan_with scan named_value)
  unfolding named_in
  named-same = made-same named_of (text_next >> values) (scan_with scan (both text value)) (pair-same text_next (scanned text) values (scan forms.value value_part) text-same value_same)

  annotation-same : Same (annotation_in mirrors values) (scan_with scan annotation)
  unfolding annotation_in
  annotation-same = made-same annotation_of (mirrors >> list_next (named_in values)) (scan_with scan (both mirror (list_of named_value)))
      (pair-same mirrors (scan forms.mirror mirror_part) (list_next (named_in values)) (scan_with scan (list_of named_value)) same (list-same (named_in values) (scan_with scan named_value) named-same))

  value_fields-same : (x : ValueVariant) → Same (value_fields_next mirrors values x) (scan_with scan (value_form x))
  value_fields-same truth_value = bool_form-same
  value_fields-same whole_value = pair-same (numbered whole_kinds.at) (byte_scan kinds.Field whole_kinds.at) i64_next (λ bytes. scanned i64 bytes) (byte-same kinds.Field whole_kinds.at) i64-same
  value_fields-same character = u32-same
  value_fields-same text_value = text-same
  value_fields-same class_value = same
  value_fields-same constant = element-same
  value_fields-same array_value = list-same values (scan forms.value value_part) value_same
  value_fields-same nested = annotation-same
  value_fields-same other = text-same
  value_fields-same floating = text-same

  value_variant-same : (x : ValueVariant) → Same (value_of mirrors values (Some x)) (λ rest. scans.mapped made_value (scans.mapped {B = ValueShown} (λ v. (x, v)) (scan_with scan (value_form x) rest)))
  value_variant-same x = twice-same {B = ValueShown} (λ v. (x, v)) made_value (value_fields_next mirrors values x) (scan_with scan (value_form x)) (value_fields-same x)

  value_in-same : Same (value_in mirrors values) (scan_with scan (grammar value_part))
  unfolding value_in
  value_in-same bytes =
      chosen-same value_variants.at (value_of mirrors values) (λ x rest. scans.mapped made_value (scans.mapped {B = ValueShown} (λ v. (x, v)) (scan_with scan (value_form x) rest))) (λ rest. refl) value_variant-same bytes
      ∙ ap found (chosen_made made_value (byte_scan kinds.Field value_variants.at bytes) (λ x rest. scans.mapped {B = ValueShown} (λ v. (x, v)) (scan_with scan (value_form x) rest)))

pub value-same : (room : ℕ) → Same (value_next room) (part_scan room forms.value value_part)
unfolding value_next part_scan
value-same zero bytes = no_room bytes
value-same (suc room) bytes = value_in-same (part_scan room) (mirror_next room) (value_next room) (mirror-same room) (value-same room) bytes

pub annotations-same : (room : ℕ) → Same (annotation_in (mirror_next room) (value_next room)) (scan_with (part_scan room) annotation)
annotations-same room = annotation-same (part_scan room) (mirror_next room) (value_next room) (mirror-same room) (value-same room)
