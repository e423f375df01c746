-- Mirrors, values and annotations that stand next at the front of bytes, nested in each other at most so deep. They are what the scan of the table finds whole.
use Rattle.std.specs.Prelude.{List, ℕ, zero, suc, [], ◌∷◌, Option, Some, None}
use Rattle.apt_base.specs.Fields.{◌>>=◌, u8_next, u32_next, i64_next, bool_next, text_next}
use Rattle.apt_base.specs.Forms.{Reader, none_next, ◌>>◌, mapped, numbered, opt_next, list_next}
use Rattle.apt_base.specs.declared.around.Around.{Around}
use Rattle.type_mirror.specs.declared.mirror.Mirror.{Mirror}
use Rattle.type_mirror.specs.declared.value.Value.{Value}
use Rattle.type_mirror.specs.declared.value.Annotation.{Annotation}
use Rattle.type_mirror.specs.declared.value.NamedValue.{NamedValue}
use Rattle.type_mirror.specs.Parts.{wrapped}
use Rattle.frame_forms.specs.Forms.{El, MirrorVariant, primitive, declared, error, variable, array, wildcard, executable, nothing_there, void, null, package_mirror, BoundKind, unbounded, upper, lower, ValueVariant, truth_value, whole_value, character, text_value, class_value, constant, array_value, nested, other, floating}
use Rattle.frame_forms.specs.MirrorForms.{certainly, primitives, bounds, bound_fields, bounded, mirror_variants, mirror_made, whole_kinds, value_variants, value_fields, value_made, named_of, annotation_of}
use Rattle.wire_frames.specs.Readings.{element_next}

-- ---- mirrors

-- nothing at all
abbrev pub nothing_next : Reader (Unit {0})
nothing_next bytes = Some (tt, bytes)

-- this byte
unfoldable pub exactly_next : ℕ → Reader (Unit {0})
exactly_next only = numbered (certainly only).at

-- what bounds a wildcard, where such mirrors are nested in it
abbrev pub bound_next : Reader Mirror → (x : BoundKind) → Reader (El (bound_fields x))
bound_next inner unbounded = exactly_next 0
bound_next inner upper = exactly_next 1 >> inner
bound_next inner lower = exactly_next 1 >> inner

-- a mirror with this around it, further out
abbrev pub around_next : List Around → Reader Mirror → Reader Mirror
around_next around inner = mapped (wrapped around) inner

abbrev pub unbounded_next : Reader Mirror
unbounded_next = mapped (bounded unbounded) (exactly_next 0)

-- what bounds a wildcard from above or from below
abbrev pub bound_of : Around → Unit {0} × Mirror → Mirror
bound_of around v = wrapped (around ∷ []) v.1

abbrev pub bounded_next : Around → Reader Mirror → Reader Mirror
bounded_next around inner = mapped (bound_of around) (exactly_next 1 >> inner)

abbrev pub bounded_by : Reader Mirror → Option BoundKind → Reader Mirror
bounded_by inner None = none_next
bounded_by inner (Some x) = mapped (bounded x) (bound_next inner x)

unfoldable pub wildcard_next : Reader Mirror → Reader Mirror
wildcard_next inner bytes = do
  n ← u8_next bytes
  bounded_by inner (bounds.at n.0) n.1

-- a mirror of this variant, in which such mirrors are nested
abbrev pub variant_next : Reader Mirror → MirrorVariant → Reader Mirror
variant_next inner primitive = mapped (mirror_made primitive) (numbered primitives.at)
variant_next inner declared = mapped (mirror_made declared) (element_next >> (opt_next inner >> list_next inner))
variant_next inner error = mapped (mirror_made error) text_next
variant_next inner variable = mapped (mirror_made variable) element_next
variant_next inner array = mapped (mirror_made array) inner
variant_next inner wildcard = wildcard_next inner
variant_next inner executable = mapped (mirror_made executable) (list_next element_next >> (list_next inner >> (inner >> list_next inner)))
variant_next inner nothing_there = mapped (mirror_made nothing_there) nothing_next
variant_next inner void = mapped (mirror_made void) nothing_next
variant_next inner null = mapped (mirror_made null) nothing_next
variant_next inner package_mirror = mapped (mirror_made package_mirror) text_next

abbrev pub variant_around : List Around → Reader Mirror → MirrorVariant → Reader Mirror
variant_around around inner x = around_next around (variant_next inner x)

abbrev pub mirror_of : Reader Mirror → Option MirrorVariant → Reader Mirror
mirror_of inner None = none_next
mirror_of inner (Some x) = variant_next inner x

-- the mirror with this number
abbrev pub mirror_at : ℕ → Reader Mirror → Reader Mirror
mirror_at number inner = mirror_of inner (mirror_variants.at number)

unfoldable pub mirror_in : Reader Mirror → Reader Mirror
mirror_in inner bytes = do
  n ← u8_next bytes
  mirror_of inner (mirror_variants.at n.0) n.1

unfoldable pub mirror_next : ℕ → Reader Mirror
mirror_next zero = none_next
mirror_next (suc room) = mirror_in (mirror_next room)

-- ---- values and annotations

unfoldable pub named_in : Reader Value → Reader NamedValue
named_in value = mapped named_of (text_next >> value)

unfoldable pub annotation_in : Reader Mirror → Reader Value → Reader Annotation
annotation_in mirror value = mapped annotation_of (mirror >> list_next (named_in value))

-- the fields of a value in which such mirrors and values are nested
abbrev pub value_fields_next : Reader Mirror → Reader Value → (x : ValueVariant) → Reader (El (value_fields x))
value_fields_next mirror value truth_value = bool_next
value_fields_next mirror value whole_value = numbered whole_kinds.at >> i64_next
value_fields_next mirror value character = u32_next
value_fields_next mirror value text_value = text_next
value_fields_next mirror value class_value = mirror
value_fields_next mirror value constant = element_next
value_fields_next mirror value array_value = list_next value
value_fields_next mirror value nested = annotation_in mirror value
value_fields_next mirror value other = text_next
value_fields_next mirror value floating = text_next

abbrev pub array_next : Reader Value → Reader Value
array_next value = mapped (value_made array_value) (list_next value)

abbrev pub nested_next : Reader Mirror → Reader Value → Reader Value
nested_next mirror value = mapped (value_made nested) (annotation_in mirror value)

abbrev pub whole_next : Reader Value
whole_next = mapped (value_made whole_value) (numbered whole_kinds.at >> i64_next)

abbrev pub value_of : Reader Mirror → Reader Value → Option ValueVariant → Reader Value
value_of mirror value None = none_next
value_of mirror value (Some x) = mapped (value_made x) (value_fields_next mirror value x)

-- the value with this number
abbrev pub value_at : ℕ → Reader Mirror → Reader Value → Reader Value
value_at number mirror value = value_of mirror value (value_variants.at number)

unfoldable pub value_in : Reader Mirror → Reader Value → Reader Value
value_in mirror value bytes = do
  n ← u8_next bytes
  value_of mirror value (value_variants.at n.0) n.1

unfoldable pub value_next : ℕ → Reader Value
value_next zero = none_next
value_next (suc room) = value_in (mirror_next room) (value_next room)
