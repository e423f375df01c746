-- The elements that values and annotations name all have something in common where those of their parts have.
use Rattle.std.proofs.Common.{◌≡◌, ◌==◌, ℕ, ℤ, Bool, true, false, cond, List, [], ◌∷◌, ◌++◌, map, Option, None, Some, encode_utf8_all, sym, subst}
use Rattle.std.specs.List.{AllByRecursion, flat_map}
use Rattle.std.specs.Prelude.{chars, codes}
use Rattle.std.specs.Option.{option_map_or}
use Rattle.std.specs.Str.{bytes_eq}
use Rattle.apt_base.specs.declared.element.ElementRef.{ElementRef}
use Rattle.type_mirror.specs.declared.mirror.Mirror.{Mirror}
use Rattle.type_mirror.specs.declared.value.WholeKind.{WholeKind}
use Rattle.type_mirror.specs.declared.value.Value.{Value, roll-Value}
use Rattle.type_mirror.specs.declared.value.Value.TheOpen.{Value-F, Annotation-F, NamedValue-F}
use Rattle.type_mirror.specs.declared.value.Value.TheVariants as value
use Rattle.type_mirror.specs.declared.value.Value.TheFolds.{map-Value, fold-NamedValue, fold-roll-Value, fold-roll-Annotation, fold-roll-NamedValue, fold_out-Annotation, fold_out-NamedValue}
use Rattle.type_mirror.specs.declared.value.Annotation.{Annotation, roll-Annotation, out-Annotation}
use Rattle.type_mirror.specs.declared.value.NamedValue.{NamedValue, roll-NamedValue, out-NamedValue}
use Rattle.type_layers.specs.Layers as layers
use Rattle.type_layers.specs.Layers.{mirror_of}
use Rattle.type_queries.specs.Verdicts.{elements_of}
use Rattle.literal_values.specs.Numerals.{Numeral, integer_of}
use Rattle.literal_values.specs.Literals.{whole_or, floating_or, numeral_value, negated_numeral, begins_numeral, negated_value, character_value, text_value, quoted_value, literal_value}
use Rattle.annotation_values.specs.Values as values
use Rattle.annotation_values.specs.Values.{Meant, joined, annotation_mirror}
use Rattle.annotation_values.specs.ElementValues.{Named, named, values_of}
use Rattle.decl_elements.proofs.Everywhere.{each_right, each_append, each_map, each_of_map, each_of_flat_map, each_to}
use Rattle.closed_cuts.specs.Kept.{IfAny}
use Rattle.closed_cuts.specs.NamedElements.{Elements, value_step, annotation_step, named_step, value_elements, annotation_elements}
use Rattle.closed_cuts.proofs.Keeping.{flat-good}
use Rattle.closed_cuts.proofs.PartsWithin.{closed_up}

abbrev pub named_elements : NamedValue → Elements
named_elements = fold-NamedValue Elements Elements Elements value_step annotation_step named_step

abbrev ValueLayer : Type 0
ValueLayer = Value-F Value Annotation NamedValue

-- of a value that is put together
abbrev layer_elements : ValueLayer → Elements
layer_elements x = value_step (map-Value Value Annotation NamedValue Elements Elements Elements value_elements annotation_elements named_elements x)

value_elements-roll : (x : ValueLayer) → value_elements (roll-Value x) ≡ layer_elements x
unfolding value_elements annotation_elements
value_elements-roll x = fold-roll-Value Elements Elements Elements value_step annotation_step named_step x

annotation_elements-roll : (x : Annotation-F Value Annotation NamedValue) → annotation_elements (roll-Annotation x) ≡ elements_of x.annotation_type ++ flat_map (λ elements. elements) (map named_elements x.values)
unfolding value_elements annotation_elements
annotation_elements-roll x = fold-roll-Annotation Elements Elements Elements value_step annotation_step named_step x

annotation_elements-out : (a : Annotation) → annotation_elements a ≡ elements_of (out-Annotation a).annotation_type ++ flat_map (λ elements. elements) (map named_elements (out-Annotation a).values)
unfolding value_elements annotation_elements
annotation_elements-out a = fold_out-Annotation Elements Elements Elements value_step annotation_step named_step a

named_elements-roll : (x : NamedValue-F Value Annotation NamedValue) → named_elements (roll-NamedValue x) ≡ value_elements x.value
unfolding value_elements annotation_elements
named_elements-roll x = fold-roll-NamedValue Elements Elements Elements value_step annotation_step named_step x

named_elements-out : (v : NamedValue) → named_elements v ≡ value_elements (out-NamedValue v).value
unfolding value_elements annotation_elements
named_elements-out v = fold_out-NamedValue Elements Elements Elements value_step annotation_step named_step v

module _ (P : ElementRef → Type 0) where
  abbrev Ps : Elements → Type 0
  Ps = AllByRecursion P

  abbrev pub ValueWithin : Value → Type 0
  ValueWithin v = AllByRecursion P (value_elements v)

  abbrev pub AnnotationWithin : Annotation → Type 0
  AnnotationWithin a = AllByRecursion P (annotation_elements a)

  abbrev pub NamedWithin : NamedValue → Type 0
  NamedWithin v = AllByRecursion P (named_elements v)

  -- ---- values

  rolled : (x : ValueLayer) (v : Value) → roll-Value x ≡ v → Ps (layer_elements x) → ValueWithin v
  rolled x v e a = subst ValueWithin e (subst Ps (sym (value_elements-roll x)) a)

  pub other-lies : (text : List ℕ) → ValueWithin (value.Other text)
  other-lies text = rolled (Value-F.Other text) (value.Other text) (value.rolls-Other text) tt

  pub text-lies : (text : List ℕ) → ValueWithin (value.Text text)
  text-lies text = rolled (Value-F.Text text) (value.Text text) (value.rolls-Text text) tt

  pub class-lies : (of : Mirror) → Ps (elements_of of) → ValueWithin (value.Class of)
  class-lies of a = rolled (Value-F.Class of) (value.Class of) (value.rolls-Class of) a

  pub constant-lies : (at : ElementRef) → P at → ValueWithin (value.Constant at)
  constant-lies at a = rolled (Value-F.Constant at) (value.Constant at) (value.rolls-Constant at) (a, tt)

  pub array-lies : (items : List Value) → AllByRecursion ValueWithin items → ValueWithin (value.Array items)
  array-lies items a =
      rolled (Value-F.Array items) (value.Array items) (value.rolls-Array items) (flat-good P (map value_elements items) (each_map Ps value_elements items a))

  pub nested-lies : (a : Annotation) → AnnotationWithin a → ValueWithin (value.Nested a)
  nested-lies a g = rolled (Value-F.Nested a) (value.Nested a) (value.rolls-Nested a) g

  -- ---- annotations

  pub annotation-lies : (x : Annotation-F Value Annotation NamedValue) → Ps (elements_of x.annotation_type) → AllByRecursion NamedWithin x.values → AnnotationWithin (roll-Annotation x)
  annotation-lies x a g =
      subst Ps (sym (annotation_elements-roll x))
      (each_append P (elements_of x.annotation_type) (flat_map (λ elements. elements) (map named_elements x.values)) a
      (flat-good P (map named_elements x.values) (each_map Ps named_elements x.values g)))

  pub named-lies : (x : NamedValue-F Value Annotation NamedValue) → ValueWithin x.value → NamedWithin (roll-NamedValue x)
  named-lies x g = subst Ps (sym (named_elements-roll x)) g

  pub mirror-lies : (name : List ℕ) (at : Option ElementRef) → IfAny P at → Ps (elements_of (annotation_mirror name at))
  unfolding mirror_of
  mirror-lies name None g = closed_up P (layers.Error name) tt
  mirror-lies name (Some at) g = closed_up P (layers.Declared at None []) (g, (tt, tt))

  -- the values of an annotation under their names
  pub values-lie : (a : Annotation) → AnnotationWithin a → AllByRecursion (λ (n : Named). ValueWithin n.1) (values_of a)
  values-lie a g =
      let all = subst Ps (annotation_elements-out a) g in
      let named_all = each_right P (elements_of (out-Annotation a).annotation_type) (flat_map (λ elements. elements) (map named_elements (out-Annotation a).values)) all in
      each_map (λ (n : Named). ValueWithin n.1) named (out-Annotation a).values
      (each_to NamedWithin (λ v. ValueWithin (named v).1) (λ v h. subst Ps (named_elements-out v) h) (out-Annotation a).values
      (each_of_map Ps named_elements (out-Annotation a).values (each_of_flat_map P (λ (elements : Elements). elements) (map named_elements (out-Annotation a).values) named_all)))

  -- ---- literals name no elements

  one_of : (b : Bool) (v w : Value) → ValueWithin v → ValueWithin w → ValueWithin (cond b v w)
  one_of true v w g h = g
  one_of false v w g h = h

  whole-lies : (text : List ℕ) (kind : WholeKind) (z : Option ℤ) → ValueWithin (whole_or text kind z)
  whole-lies text kind None = other-lies text
  whole-lies text kind (Some z) = rolled (Value-F.Whole kind z) (value.Whole kind z) (value.rolls-Whole kind z) tt

  floating-lies : (literal other : List ℕ) (b : Bool) → ValueWithin (floating_or literal other b)
  floating-lies literal other b =
      one_of b (value.Floating literal) (value.Other other) (rolled (Value-F.Floating literal) (value.Floating literal) (value.rolls-Floating literal) tt) (other-lies other)

  numeral-lies : (text : List ℕ) (n : Option Numeral) → ValueWithin (numeral_value text n)
  numeral-lies text None = floating-lies text text _
  numeral-lies text (Some n) = whole-lies text _ _

  negated_numeral-lies : (text : List ℕ) (n : Option Numeral) → ValueWithin (negated_numeral text n)
  negated_numeral-lies text None = floating-lies _ _ _
  negated_numeral-lies text (Some n) = whole-lies _ _ _

  pub negated-lies : (text : List ℕ) → ValueWithin (negated_value text)
  unfolding negated_value
  negated-lies text = one_of (begins_numeral text) _ _ (negated_numeral-lies text _) (other-lies _)

  option-lies : {X : Type 0} (f : X → Value) → ((x : X) → ValueWithin (f x)) → (o : Option X) (text : List ℕ) → ValueWithin (option_map_or f o (value.Other text))
  option-lies f g None text = other-lies text
  option-lies f g (Some x) text = g x

  character-lies : (text : List ℕ) (found : Option (List ℕ)) → ValueWithin (character_value text found)
  character-lies text found = option-lies value.Character (λ c. rolled (Value-F.Character c) (value.Character c) (value.rolls-Character c) tt) _ text

  quoted_text-lies : (text : List ℕ) (found : Option (List ℕ)) → ValueWithin (text_value text found)
  quoted_text-lies text found = option-lies (λ cs. value.Text (encode_utf8_all cs)) (λ cs. text-lies (encode_utf8_all cs)) found text

  quoted-lies : (text cs : List ℕ) → ValueWithin (quoted_value text cs)
  unfolding quoted_value
  quoted-lies text [] = other-lies text
  quoted-lies text (c ∷ cs) = one_of (c == 39) _ _ (character-lies text _) (one_of (c == 34) _ _ (quoted_text-lies text _) (other-lies text))

  truth-lies : (b : Bool) → ValueWithin (value.Truth b)
  truth-lies b = rolled (Value-F.Truth b) (value.Truth b) (value.rolls-Truth b) tt

  pub literal-lies : (text : List ℕ) → ValueWithin (literal_value text)
  unfolding literal_value
  literal-lies text =
      one_of (bytes_eq text (codes "true")) _ _ (truth-lies true)
      (one_of (bytes_eq text (codes "false")) _ _ (truth-lies false)
      (one_of (begins_numeral text) _ _ (numeral-lies text (integer_of text)) (quoted-lies text (chars text))))

  pub joined-lies : (ms : List Meant) → ValueWithin (joined ms)
  joined-lies ms = option-lies value.Text text-lies (values.all_texts ms) (values.sum_text ms)
