-- The values of constant forms and annotations as mirrors, by what they are made of.
use Rattle.std.proofs.Common.{◌≡◌, ℕ, List, [], ◌∷◌, ◌++◌, map, flat_map, codes, Option, None, Some, unwrap_or}
use Rattle.std.proofs.Common.{refl, sym, ap, ◌∙◌}
use Rattle.std.specs.List.{join_by}
use Rattle.std.specs.Option.{option_map_or}
use Rattle.decl_tree.specs.declared.type_text.TypeText.{TypeText}
use Rattle.decl_tree.specs.declared.annotation.AnnotationText.{AnnotationText, out-AnnotationText}
use Rattle.decl_tree.specs.declared.annotation.ElementValuePair.{ElementValuePair, out-ElementValuePair}
use Rattle.decl_tree.specs.declared.annotation.ValueText.{ValueText, out-ValueText, roll-ValueText}
use Rattle.decl_tree.specs.declared.annotation.ValueText.TheVariants as of
use Rattle.decl_tree.specs.declared.annotation.ValueText.TheOpen.{ValueText-F}
use Rattle.decl_tree.specs.declared.annotation.ValueText.TheFolds.{map-ValueText, fold-roll-ValueText}
use Rattle.decl_tree.specs.declared.annotation.ValueText.TheFolds.{fold_out-ValueText}
use Rattle.decl_tree.specs.declared.annotation.ValueText.TheFolds.{fold_out-AnnotationText, fold_out-ElementValuePair}
use Rattle.type_mirror.specs.declared.value.Value.{Value}
use Rattle.type_mirror.specs.declared.value.Value.TheVariants as value
use Rattle.type_mirror.specs.declared.value.Annotation.{Annotation, roll-Annotation}
use Rattle.type_mirror.specs.declared.value.NamedValue.{NamedValue, roll-NamedValue}
use Rattle.literal_values.specs.Literals.{literal_value, negated_value}
use Rattle.annotation_values.specs.Values.{Meanings, Meant, all_texts, sum_text, joined, value_step, annotation_mirror}
use Rattle.annotation_values.specs.Values.{annotation_step, pair_step, meant_in, value_in, annotation_in}
use Rattle.annotation_values.specs.Remembered.{pair_in, joinable_text}

map_map : {A B C : Type 0} (f : B → C) (g : A → B) (xs : List A) → map f (map g xs) ≡ map (λ x. f (g x)) xs
map_map f g [] = refl
map_map f g (x ∷ xs) = ap (λ t. f (g x) ∷ t) (map_map f g xs)

module _ (m : Meanings) where
  abbrev layer : ValueText-F ValueText AnnotationText ElementValuePair → ValueText-F Meant Annotation NamedValue
  layer =
      map-ValueText ValueText AnnotationText ElementValuePair Meant Annotation NamedValue (meant_in m) (annotation_in m)
      (pair_in m)

  meant-rolls : (x : ValueText-F ValueText AnnotationText ElementValuePair)
      → meant_in m (roll-ValueText x) ≡ value_step m (layer x)
  unfolding meant_in annotation_in pair_in
  meant-rolls x = fold-roll-ValueText Meant Annotation NamedValue (value_step m) (annotation_step m) pair_step x

  value-of : (form : ValueText) (x : ValueText-F ValueText AnnotationText ElementValuePair) → roll-ValueText x ≡ form
      → value_in m form ≡ (value_step m (layer x)).value
  value-of form x e = ap (λ (t : ValueText). value_in m t) (sym e) ∙ ap (λ (r : Meant). r.value) (meant-rolls x)

  pub value-Literal : (text : List ℕ) → value_in m (of.Literal text) ≡ literal_value text
  value-Literal text = value-of (of.Literal text) (ValueText-F.Literal text) (of.rolls-Literal text)

  pub value-Negated : (text : List ℕ) → value_in m (of.Negated text) ≡ negated_value text
  value-Negated text = value-of (of.Negated text) (ValueText-F.Negated text) (of.rolls-Negated text)

  pub value-Joined : (items : List ValueText) → value_in m (of.Joined items) ≡ joined (map (meant_in m) items)
  value-Joined items = value-of (of.Joined items) (ValueText-F.Joined items) (of.rolls-Joined items)

  pub value-Class : (type : TypeText) → value_in m (of.Class type) ≡ value.Class (m.class_type type)
  value-Class type = value-of (of.Class type) (ValueText-F.Class type) (of.rolls-Class type)

  pub value-Chain : (text : List ℕ) → value_in m (of.Chain text) ≡ unwrap_or (m.constant text) (value.Other text)
  value-Chain text = value-of (of.Chain text) (ValueText-F.Chain text) (of.rolls-Chain text)

  pub value-Array : (items : List ValueText) → value_in m (of.Array items) ≡ value.Array (map (value_in m) items)
  value-Array items =
      value-of (of.Array items) (ValueText-F.Array items) (of.rolls-Array items)
      ∙ ap (λ (vs : List Value). value.Array vs) (map_map (λ (i : Meant). i.value) (meant_in m) items)

  pub value-Nested : (annotation : AnnotationText)
      → value_in m (of.Nested annotation) ≡ value.Nested (annotation_in m annotation)
  value-Nested annotation = value-of (of.Nested annotation) (ValueText-F.Nested annotation) (of.rolls-Nested annotation)

  pub value-Other : (text : List ℕ) → value_in m (of.Other text) ≡ value.Other text
  value-Other text = value-of (of.Other text) (ValueText-F.Other text) (of.rolls-Other text)

  pub annotation-is : (a : AnnotationText) → annotation_in m a
      ≡ roll-Annotation (record {
        annotation_type = annotation_mirror (out-AnnotationText a).name (m.annotation_type (out-AnnotationText a).name);
        values = map (pair_in m) (out-AnnotationText a).values;
      })
  unfolding meant_in annotation_in pair_in
  annotation-is a = fold_out-AnnotationText Meant Annotation NamedValue (value_step m) (annotation_step m) pair_step a

  pub pair-is : (pair : ElementValuePair) → pair_in m pair
      ≡ roll-NamedValue (record {
        name = (out-ElementValuePair pair).name;
        value = value_in m (out-ElementValuePair pair).value;
      })
  unfolding meant_in annotation_in pair_in
  pair-is pair = fold_out-ElementValuePair Meant Annotation NamedValue (value_step m) (annotation_step m) pair_step pair

  -- ---- what `+` joins

  text-step : (x : ValueText-F ValueText AnnotationText ElementValuePair)
      → (value_step m (layer x)).text ≡ joinable_text x
  text-step (ValueText-F.Literal text) = refl
  text-step (ValueText-F.Negated text) = refl
  text-step (ValueText-F.Joined items) = refl
  text-step (ValueText-F.Class type) = refl
  text-step (ValueText-F.Chain text) = refl
  text-step (ValueText-F.Array items) = refl
  text-step (ValueText-F.Nested annotation) = refl
  text-step (ValueText-F.Other text) = refl

  meant-out : (form : ValueText) → meant_in m form ≡ value_step m (layer (out-ValueText form))
  unfolding meant_in annotation_in pair_in
  meant-out form = fold_out-ValueText Meant Annotation NamedValue (value_step m) (annotation_step m) pair_step form

  text-is : (form : ValueText) → (meant_in m form).text ≡ joinable_text (out-ValueText form)
  text-is form = ap (λ (r : Meant). r.text) (meant-out form) ∙ text-step (out-ValueText form)

  abbrev text_of : ValueText → List ℕ
  text_of form = joinable_text (out-ValueText form)

  more-is : (forms : List ValueText)
      → flat_map (λ (r : Meant). codes " + " ++ r.text) (map (meant_in m) forms)
      ≡ flat_map (λ form. codes " + " ++ text_of form) forms
  more-is [] = refl
  more-is (form ∷ forms) = λ i. (codes " + " ++ text-is form i) ++ more-is forms i

  sum-is : (forms : List ValueText) → sum_text (map (meant_in m) forms) ≡ join_by text_of (codes " + ") forms
  sum-is [] = refl
  sum-is (form ∷ forms) = λ i. text-is form i ++ more-is forms i

  abbrev joined_by : List ℕ → Option (List ℕ) → Value
  joined_by sum texts = option_map_or value.Text texts (value.Other sum)

  pub joined-other : (forms : List ValueText) (text : List ℕ) → None ≡ all_texts (map (meant_in m) forms)
      → text ≡ join_by text_of (codes " + ") forms → value.Other text ≡ joined (map (meant_in m) forms)
  joined-other forms text none is = λ i. joined_by ((is ∙ sym (sum-is forms)) i) (none i)

  pub joined-text : (forms : List ValueText) (text : List ℕ) → Some text ≡ all_texts (map (meant_in m) forms)
      → value.Text text ≡ joined (map (meant_in m) forms)
  joined-text forms text some = ap (joined_by (sum_text (map (meant_in m) forms))) some

pub ruleset by_parts = (
  value-Literal,
  value-Negated,
  value-Joined,
  value-Class,
  value-Chain,
  value-Array,
  value-Nested,
  value-Other,
  annotation-is,
  pair-is,
)

pub ruleset joined_forms = (joined-other, joined-text)
