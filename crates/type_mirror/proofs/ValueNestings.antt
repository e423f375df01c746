-- How deep values and annotations are nested, by equations.
use Rattle.std.proofs.Common.{◌≡◌, ℕ, ℤ, Bool, ◌+◌, max, List, [], ◌∷◌, map, refl, sym, ap, ◌∙◌}
use Rattle.apt_base.specs.declared.element.ElementRef.{ElementRef}
use Rattle.type_mirror.specs.declared.mirror.Mirror.{Mirror}
use Rattle.type_mirror.specs.declared.value.WholeKind.{WholeKind}
use Rattle.type_mirror.specs.declared.value.Value.{Value, roll-Value}
use Rattle.type_mirror.specs.declared.value.Value.TheVariants as value
use Rattle.type_mirror.specs.declared.value.Value.TheOpen.{Value-F}
use Rattle.type_mirror.specs.declared.value.Value.TheFolds.{map-Value, fold-roll-Value, fold_out-Annotation, fold_out-NamedValue}
use Rattle.type_mirror.specs.declared.value.Annotation.{Annotation, out-Annotation}
use Rattle.type_mirror.specs.declared.value.NamedValue.{NamedValue}
use Rattle.type_mirror.specs.Nesting.{deepest, nesting, value_step, annotation_parts, named_step, value_nesting, named_nesting, annotation_nestings, annotation_nesting}
use Rattle.type_mirror.proofs.Nestings.{deepest-one}

nesting-roll : (x : Value-F Value Annotation NamedValue) → value_nesting (roll-Value x) ≡ value_step (map-Value Value Annotation NamedValue ℕ (List ℕ) ℕ value_nesting annotation_nestings named_nesting x)
unfolding value_nesting annotation_nestings named_nesting
nesting-roll = fold-roll-Value ℕ (List ℕ) ℕ value_step annotation_parts named_step

pub value_nesting-Truth : (truth : Bool) → value_nesting (value.Truth truth) ≡ 1
value_nesting-Truth truth = ap value_nesting (sym (value.rolls-Truth truth)) ∙ nesting-roll (Value-F.Truth truth)

pub value_nesting-Whole : (kind : WholeKind) (number : ℤ) → value_nesting (value.Whole kind number) ≡ 1
value_nesting-Whole kind number = ap value_nesting (sym (value.rolls-Whole kind number)) ∙ nesting-roll (Value-F.Whole kind number)

pub value_nesting-Character : (number : ℕ) → value_nesting (value.Character number) ≡ 1
value_nesting-Character number = ap value_nesting (sym (value.rolls-Character number)) ∙ nesting-roll (Value-F.Character number)

pub value_nesting-Text : (text : List ℕ) → value_nesting (value.Text text) ≡ 1
value_nesting-Text text = ap value_nesting (sym (value.rolls-Text text)) ∙ nesting-roll (Value-F.Text text)

pub value_nesting-Class : (of : Mirror) → value_nesting (value.Class of) ≡ nesting of + 1
value_nesting-Class of = ap value_nesting (sym (value.rolls-Class of)) ∙ nesting-roll (Value-F.Class of) ∙ ap (λ (n : ℕ). n + 1) (deepest-one (nesting of))

pub value_nesting-Constant : (element : ElementRef) → value_nesting (value.Constant element) ≡ 1
value_nesting-Constant element = ap value_nesting (sym (value.rolls-Constant element)) ∙ nesting-roll (Value-F.Constant element)

pub value_nesting-Array : (items : List Value) → value_nesting (value.Array items) ≡ deepest (map value_nesting items) + 1
value_nesting-Array items = ap value_nesting (sym (value.rolls-Array items)) ∙ nesting-roll (Value-F.Array items)

pub value_nesting-Nested : (annotation : Annotation) → value_nesting (value.Nested annotation) ≡ annotation_nesting annotation + 1
unfolding annotation_nesting
value_nesting-Nested annotation = ap value_nesting (sym (value.rolls-Nested annotation)) ∙ nesting-roll (Value-F.Nested annotation)

pub value_nesting-Other : (text : List ℕ) → value_nesting (value.Other text) ≡ 1
value_nesting-Other text = ap value_nesting (sym (value.rolls-Other text)) ∙ nesting-roll (Value-F.Other text)

pub value_nesting-Floating : (text : List ℕ) → value_nesting (value.Floating text) ≡ 1
value_nesting-Floating text = ap value_nesting (sym (value.rolls-Floating text)) ∙ nesting-roll (Value-F.Floating text)

pub named_nesting-is : (named : NamedValue) → named_nesting named ≡ value_nesting named.value
unfolding value_nesting annotation_nestings named_nesting
named_nesting-is named = fold_out-NamedValue ℕ (List ℕ) ℕ value_step annotation_parts named_step named

pub annotation_nesting-is : (annotation : Annotation) → annotation_nesting annotation
    ≡ max (nesting (out-Annotation annotation).annotation_type) (deepest (map named_nesting (out-Annotation annotation).values))
unfolding value_nesting annotation_nestings named_nesting annotation_nesting
annotation_nesting-is annotation = ap deepest (fold_out-Annotation ℕ (List ℕ) ℕ value_step annotation_parts named_step annotation)

pub ruleset value_nestings = (
  value_nesting-Truth,
  value_nesting-Whole,
  value_nesting-Character,
  value_nesting-Text,
  value_nesting-Class,
  value_nesting-Constant,
  value_nesting-Array,
  value_nesting-Nested,
  value_nesting-Other,
  value_nesting-Floating,
  named_nesting-is,
  annotation_nesting-is,
)
