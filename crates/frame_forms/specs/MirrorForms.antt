-- The forms of elements, of mirrors, and of values and annotations.
use Rattle.std.specs.Prelude.{ℕ, Bool, true, false, List, [], ◌∷◌, ◌==◌, nat_lt, slice_get, Option, Some, None, if◌then◌else◌}
use Rattle.apt_base.specs.declared.element.ElementRef.{ElementRef}
use Rattle.type_mirror.specs.declared.mirror.PrimitiveKind.{PrimitiveKind}
use Rattle.type_mirror.specs.declared.mirror.PrimitiveKind.TheVariants.{Boolean, Byte, Short, Int, Long, Char, Float, Double}
use Rattle.apt_base.specs.declared.around.Around.{Around}
use Rattle.apt_base.specs.declared.around.Around.TheVariants as around
use Rattle.type_mirror.specs.declared.mirror.BaseMirror.{BaseMirror, out-BaseMirror}
use Rattle.type_mirror.specs.declared.mirror.BaseMirror.TheVariants as base
use Rattle.type_mirror.specs.declared.mirror.BaseMirror.TheOpen.{BaseMirror-F}
use Rattle.type_mirror.specs.declared.mirror.Mirror.{Mirror, roll-Mirror, out-Mirror}
use Rattle.type_mirror.specs.declared.mirror.DeclaredMirror.{DeclaredMirror, roll-DeclaredMirror, out-DeclaredMirror}
use Rattle.type_mirror.specs.declared.mirror.ExecutableMirror.{ExecutableMirror, roll-ExecutableMirror, out-ExecutableMirror}
use Rattle.type_mirror.specs.declared.value.WholeKind.{WholeKind}
use Rattle.type_mirror.specs.declared.value.WholeKind.TheVariants as wholes
use Rattle.type_mirror.specs.declared.value.Value.{Value, out-Value}
use Rattle.type_mirror.specs.declared.value.Value.TheVariants as values
use Rattle.type_mirror.specs.declared.value.Value.TheOpen.{Value-F}
use Rattle.type_mirror.specs.declared.value.Annotation.{Annotation, roll-Annotation, out-Annotation}
use Rattle.type_mirror.specs.declared.value.NamedValue.{NamedValue, roll-NamedValue, out-NamedValue}
use Rattle.type_mirror.specs.Parts.{plain, wrapped}
use Rattle.frame_forms.specs.declared.bad_kind.BadKind.TheVariants as kinds
use Rattle.frame_forms.specs.Forms as forms
use Rattle.frame_forms.specs.Forms.{Sort, One, Code, El, Form, Part, Numbering, mirror_part, value_part, nothing, number, integer, octets, one, pair, maybe, many, chosen, plain as small, truth, certain, primitive_kind, whole_kind, mirror_variant, bound_kind, value_variant, empty, byte, u16, u32, i64, both, choice, opt, part, means}
use Rattle.frame_forms.specs.Forms.{MirrorVariant, primitive, declared, error, variable, array, wildcard, executable, nothing_there, void, null, package_mirror, BoundKind, unbounded, upper, lower, ValueVariant, truth_value, whole_value, character, text_value, class_value, constant, array_value, nested, other, floating}
use Rattle.frame_forms.specs.TextForms.{text, list_of}

-- ---- numbers

-- things that are numbered from 0 in this order
abbrev pub in_order : {A : Type 0} → (A → ℕ) → List A → Numbering A
in_order number_of things = record { number_of = number_of; at = slice_get things }

-- any number below a bound
abbrev pub below : ℕ → Numbering ℕ
below bound = record { number_of = λ n. n; at = λ n. if nat_lt n bound then Some n else None }

-- this number alone
abbrev pub certainly : ℕ → Numbering (Unit {0})
certainly only = record { number_of = λ u. only; at = λ n. if n == only then Some tt else None }

abbrev pub bool_number : Bool → ℕ
bool_number false = 0
bool_number true = 1

abbrev pub bool : Form (one truth)
bool = byte truth kinds.Field (in_order bool_number (false ∷ true ∷ []))

-- one byte below a bound
abbrev pub u8_below : ℕ → Form (one small)
u8_below bound = byte small kinds.Field (below bound)

-- one byte that is this one
abbrev pub exactly : ℕ → Form (one certain)
exactly only = byte certain kinds.Field (certainly only)

-- ---- elements

abbrev pub element_of : List ℕ × List ℕ → ElementRef
element_of v = record { unit = v.0; path = v.1 }

abbrev pub element_shown : ElementRef → List ℕ × List ℕ
element_shown element = (element.unit, element.path)

abbrev pub element : Form forms.element
element = means {c = pair octets (many number)} {d = forms.element} element_of element_shown (both text (list_of u16))

-- ---- mirrors

abbrev pub primitive_number : PrimitiveKind → ℕ
primitive_number Boolean = 0
primitive_number Byte = 1
primitive_number Short = 2
primitive_number Int = 3
primitive_number Long = 4
primitive_number Char = 5
primitive_number Float = 6
primitive_number Double = 7

abbrev pub primitives : Numbering PrimitiveKind
primitives = in_order primitive_number (Boolean ∷ Byte ∷ Short ∷ Int ∷ Long ∷ Char ∷ Float ∷ Double ∷ [])

abbrev pub bound_number : BoundKind → ℕ
bound_number unbounded = 0
bound_number upper = 1
bound_number lower = 2

abbrev pub bounds : Numbering BoundKind
bounds = in_order bound_number (unbounded ∷ upper ∷ lower ∷ [])

abbrev pub mirror_number : MirrorVariant → ℕ
mirror_number primitive = 0
mirror_number declared = 1
mirror_number error = 2
mirror_number variable = 3
mirror_number array = 4
mirror_number wildcard = 5
mirror_number executable = 6
mirror_number nothing_there = 7
mirror_number void = 8
mirror_number null = 9
mirror_number package_mirror = 10

abbrev pub mirror_variants : Numbering MirrorVariant
mirror_variants = in_order mirror_number (primitive ∷ declared ∷ error ∷ variable ∷ array ∷ wildcard ∷ executable ∷ nothing_there ∷ void ∷ null ∷ package_mirror ∷ [])

-- a wildcard has a mirror exactly where it is bounded
abbrev pub bound_fields : BoundKind → Code
bound_fields unbounded = one certain
bound_fields upper = pair (one certain) forms.mirror
bound_fields lower = pair (one certain) forms.mirror

abbrev pub mirror_fields : MirrorVariant → Code
mirror_fields primitive = one primitive_kind
mirror_fields declared = pair forms.element (pair (maybe forms.mirror) (many forms.mirror))
mirror_fields error = octets
mirror_fields variable = forms.element
mirror_fields array = forms.mirror
mirror_fields wildcard = chosen bound_kind bound_fields
mirror_fields executable = pair (many forms.element) (pair (many forms.mirror) (pair forms.mirror (many forms.mirror)))
mirror_fields nothing_there = nothing
mirror_fields void = nothing
mirror_fields null = nothing
mirror_fields package_mirror = octets

abbrev pub mirror : Form forms.mirror
mirror = part mirror_part

abbrev pub bound_form : (x : BoundKind) → Form (bound_fields x)
bound_form unbounded = exactly 0
bound_form upper = both (exactly 1) mirror
bound_form lower = both (exactly 1) mirror

abbrev pub mirror_form : (x : MirrorVariant) → Form (mirror_fields x)
mirror_form primitive = byte primitive_kind kinds.Field primitives
mirror_form declared = both element (both (opt mirror) (list_of mirror))
mirror_form error = text
mirror_form variable = element
mirror_form array = mirror
mirror_form wildcard = choice bound_kind kinds.Field bounds bound_fields bound_form
mirror_form executable = both (list_of element) (both (list_of mirror) (both mirror (list_of mirror)))
mirror_form nothing_there = empty
mirror_form void = empty
mirror_form null = empty
mirror_form package_mirror = text

abbrev pub bounded : (x : BoundKind) → El (bound_fields x) → Mirror
bounded unbounded v = plain base.Wildcard
bounded upper v = wrapped (around.Extends ∷ []) v.1
bounded lower v = wrapped (around.Super ∷ []) v.1

abbrev pub mirror_made : (x : MirrorVariant) → El (mirror_fields x) → Mirror
mirror_made primitive kind = plain (base.Primitive kind)
mirror_made declared v = plain (base.Declared (roll-DeclaredMirror (record { element = v.0; enclosing = v.1.0; arguments = v.1.1 })))
mirror_made error name = plain (base.Error name)
mirror_made variable at = plain (base.Variable at)
mirror_made array item = wrapped (around.Array ∷ []) item
mirror_made wildcard v = bounded v.0 v.1
mirror_made executable v = plain (base.Executable (roll-ExecutableMirror (record { variables = v.0; parameters = v.1.0; result = v.1.1.0; thrown = v.1.1.1 })))
mirror_made nothing_there v = plain base.Nothing
mirror_made void v = plain base.Void
mirror_made null v = plain base.Null
mirror_made package_mirror name = plain (base.Package name)

abbrev pub MirrorShown : Type 0
MirrorShown = (x : MirrorVariant) × El (mirror_fields x)

abbrev pub declared_shown : DeclaredMirror → MirrorShown
declared_shown d = (declared, ((out-DeclaredMirror d).element, ((out-DeclaredMirror d).enclosing, (out-DeclaredMirror d).arguments)))

abbrev pub executable_shown : ExecutableMirror → MirrorShown
executable_shown e = (executable, ((out-ExecutableMirror e).variables, ((out-ExecutableMirror e).parameters, ((out-ExecutableMirror e).result, (out-ExecutableMirror e).thrown))))

abbrev pub base_shown : BaseMirror-F BaseMirror DeclaredMirror ExecutableMirror Mirror → MirrorShown
base_shown (BaseMirror-F.Primitive kind) = (primitive, kind)
base_shown (BaseMirror-F.Declared d) = declared_shown d
base_shown (BaseMirror-F.Error name) = (error, name)
base_shown (BaseMirror-F.Variable at) = (variable, at)
base_shown BaseMirror-F.Wildcard = (wildcard, (unbounded, tt))
base_shown (BaseMirror-F.Executable e) = executable_shown e
base_shown BaseMirror-F.Nothing = (nothing_there, tt)
base_shown BaseMirror-F.Void = (void, tt)
base_shown BaseMirror-F.Null = (null, tt)
base_shown (BaseMirror-F.Package name) = (package_mirror, name)

-- what stands around a mirror is the form further out
abbrev pub around_shown : List Around → BaseMirror → MirrorShown
around_shown [] inner = base_shown (out-BaseMirror inner)
around_shown (around.Array ∷ others) inner = (array, roll-Mirror (record { around = others; base = inner }))
around_shown (around.Extends ∷ others) inner = (wildcard, (upper, (tt, roll-Mirror (record { around = others; base = inner }))))
around_shown (around.Super ∷ others) inner = (wildcard, (lower, (tt, roll-Mirror (record { around = others; base = inner }))))

abbrev pub mirror_shown : Mirror → MirrorShown
mirror_shown m = around_shown (out-Mirror m).around (out-Mirror m).base

-- ---- values and annotations

abbrev pub whole_number : WholeKind → ℕ
whole_number wholes.Int = 3
whole_number wholes.Long = 4

abbrev pub whole_at : ℕ → Option WholeKind
whole_at n = if n == 3 then Some wholes.Int else (if n == 4 then Some wholes.Long else None)

abbrev pub whole_kinds : Numbering WholeKind
whole_kinds = record { number_of = whole_number; at = whole_at }

abbrev pub value_number : ValueVariant → ℕ
value_number truth_value = 0
value_number whole_value = 1
value_number character = 2
value_number text_value = 3
value_number class_value = 4
value_number constant = 5
value_number array_value = 6
value_number nested = 7
value_number other = 8
value_number floating = 9

abbrev pub value_variants : Numbering ValueVariant
value_variants = in_order value_number (truth_value ∷ whole_value ∷ character ∷ text_value ∷ class_value ∷ constant ∷ array_value ∷ nested ∷ other ∷ floating ∷ [])

abbrev pub value_fields : ValueVariant → Code
value_fields truth_value = one truth
value_fields whole_value = pair (one whole_kind) integer
value_fields character = number
value_fields text_value = octets
value_fields class_value = forms.mirror
value_fields constant = forms.element
value_fields array_value = many forms.value
value_fields nested = forms.annotation
value_fields other = octets
value_fields floating = octets

abbrev pub value : Form forms.value
value = part value_part

abbrev pub named_of : List ℕ × Value → NamedValue
named_of v = roll-NamedValue (record { name = v.0; value = v.1 })

abbrev pub named_shown : NamedValue → List ℕ × Value
named_shown named = ((out-NamedValue named).name, (out-NamedValue named).value)

abbrev pub named_value : Form forms.named_value
named_value = means {c = pair octets forms.value} {d = forms.named_value} named_of named_shown (both text value)

abbrev pub annotation_of : Mirror × List NamedValue → Annotation
annotation_of v = roll-Annotation (record { annotation_type = v.0; values = v.1 })

abbrev pub annotation_shown : Annotation → Mirror × List NamedValue
annotation_shown a = ((out-Annotation a).annotation_type, (out-Annotation a).values)

-- an annotation does not count towards the nesting; its type and its values do
abbrev pub annotation : Form forms.annotation
annotation = means {c = pair forms.mirror (many forms.named_value)} {d = forms.annotation} annotation_of annotation_shown (both mirror (list_of named_value))

abbrev pub value_form : (x : ValueVariant) → Form (value_fields x)
value_form truth_value = bool
value_form whole_value = both (byte whole_kind kinds.Field whole_kinds) i64
value_form character = u32
value_form text_value = text
value_form class_value = mirror
value_form constant = element
value_form array_value = list_of value
value_form nested = annotation
value_form other = text
value_form floating = text

abbrev pub value_made : (x : ValueVariant) → El (value_fields x) → Value
value_made truth_value b = values.Truth b
value_made whole_value v = values.Whole v.0 v.1
value_made character n = values.Character n
value_made text_value name = values.Text name
value_made class_value of = values.Class of
value_made constant at = values.Constant at
value_made array_value items = values.Array items
value_made nested a = values.Nested a
value_made other name = values.Other name
value_made floating name = values.Floating name

abbrev pub ValueShown : Type 0
ValueShown = (x : ValueVariant) × El (value_fields x)

abbrev pub variant_shown : Value-F Value Annotation NamedValue → ValueShown
variant_shown (Value-F.Truth b) = (truth_value, b)
variant_shown (Value-F.Whole kind n) = (whole_value, (kind, n))
variant_shown (Value-F.Character n) = (character, n)
variant_shown (Value-F.Text name) = (text_value, name)
variant_shown (Value-F.Class of) = (class_value, of)
variant_shown (Value-F.Constant at) = (constant, at)
variant_shown (Value-F.Array items) = (array_value, items)
variant_shown (Value-F.Nested a) = (nested, a)
variant_shown (Value-F.Other name) = (other, name)
variant_shown (Value-F.Floating name) = (floating, name)

abbrev pub value_shown : Value → ValueShown
value_shown v = variant_shown (out-Value v)

-- ---- the forms that hold themselves

abbrev pub grammar : {c : Code} → Part c → Form c
grammar mirror_part = means {c = chosen mirror_variant mirror_fields} {d = forms.mirror} (λ v. mirror_made v.0 v.1) mirror_shown (choice mirror_variant kinds.Field mirror_variants mirror_fields mirror_form)
grammar value_part = means {c = chosen value_variant value_fields} {d = forms.value} (λ v. value_made v.0 v.1) value_shown (choice value_variant kinds.Field value_variants value_fields value_form)
