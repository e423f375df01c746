-- AnnotationWithin value is worth the same, and names good elements alone, where each name in it has the same good meaning.
use Rattle.std.proofs.Common.{◌≡◌, ℕ, List, [], ◌∷◌, map, Contains, Option, None, Some, unwrap_or, ap, ap₂, subst}
use Rattle.std.specs.List.{AllByRecursion, flat_map}
use Rattle.apt_base.specs.Identifiers.{parts}
use Rattle.apt_base.specs.declared.element.ElementRef.{ElementRef}
use Rattle.decl_tree.specs.declared.type_text.TypeText.{TypeText}
use Rattle.decl_tree.specs.declared.compilation.UnitText.{UnitText}
use Rattle.decl_tree.specs.declared.annotation.ValueText.{ValueText, roll-ValueText}
use Rattle.decl_tree.specs.declared.annotation.AnnotationText.{AnnotationText, roll-AnnotationText}
use Rattle.decl_tree.specs.declared.annotation.ElementValuePair.{ElementValuePair, roll-ElementValuePair}
use Rattle.decl_tree.specs.declared.annotation.ValueText.TheOpen.{ValueText-F, AnnotationText-F, ElementValuePair-F}
use Rattle.decl_tree.specs.declared.annotation.ValueText.TheFolds.{map-ValueText, map-AnnotationText, map-ElementValuePair, fold-ElementValuePair, fold-roll-ValueText, fold-roll-AnnotationText, fold-roll-ElementValuePair, ind-ValueText, ind-AnnotationText}
use Rattle.type_mirror.specs.declared.mirror.Mirror.{Mirror}
use Rattle.type_mirror.specs.declared.value.Value.{Value}
use Rattle.type_mirror.specs.declared.value.Value.TheVariants as value
use Rattle.type_mirror.specs.declared.value.Annotation.{Annotation, roll-Annotation}
use Rattle.type_mirror.specs.declared.value.NamedValue.{NamedValue, roll-NamedValue}
use Rattle.literal_values.specs.Literals.{negated_value, literal_value}
use Rattle.annotation_values.specs.Values.{Meanings, Meant, meant, joined, value_step, annotation_mirror, annotation_step, pair_step, meant_in, value_in, annotation_in}
use Rattle.annotation_values.specs.Remembered.{pair_in}
use Rattle.reach_map.specs.Chains as chains
use Rattle.reach_map.specs.Chains.{Chains, gathered, value_chains, annotation_chains, unit_chains}
use Rattle.reach_map.specs.ClosedCuts.{IsWritten}
use Rattle.decl_elements.proofs.Everywhere.{each_map, each_of_map, each_of_flat_map}
use Rattle.closed_cuts.specs.Kept.{IfAny}
use Rattle.closed_cuts.proofs.Keeping.{Kept, kept, moved}
use Rattle.closed_cuts.proofs.PartsWithin.{Within}
use Rattle.closed_cuts.proofs.ValueElements.{ValueWithin, AnnotationWithin, NamedWithin, other-lies, class-lies, array-lies, nested-lies, annotation-lies, named-lies, mirror-lies, negated-lies, literal-lies, joined-lies}

-- the name chains of the value of an element
abbrev pub pair_chains : ElementValuePair → Chains
pair_chains = fold-ElementValuePair Chains Chains Chains chains.value_step chains.annotation_step chains.pair_step

value_chains-roll : (x : ValueText-F ValueText AnnotationText ElementValuePair) → value_chains (roll-ValueText x)
    ≡ chains.value_step (map-ValueText ValueText AnnotationText ElementValuePair Chains Chains Chains value_chains annotation_chains pair_chains x)
unfolding value_chains annotation_chains
value_chains-roll x = fold-roll-ValueText Chains Chains Chains chains.value_step chains.annotation_step chains.pair_step x

annotation_chains-roll : (x : AnnotationText-F ValueText AnnotationText ElementValuePair) → annotation_chains (roll-AnnotationText x) ≡ parts x.name ∷ flat_map gathered (map pair_chains x.values)
unfolding value_chains annotation_chains
annotation_chains-roll x = fold-roll-AnnotationText Chains Chains Chains chains.value_step chains.annotation_step chains.pair_step x

pair_chains-roll : (x : ElementValuePair-F ValueText AnnotationText ElementValuePair) → pair_chains (roll-ElementValuePair x) ≡ value_chains x.value
unfolding value_chains annotation_chains
pair_chains-roll x = fold-roll-ElementValuePair Chains Chains Chains chains.value_step chains.annotation_step chains.pair_step x

-- ---- by the meanings of names

meant-roll : (m : Meanings) (x : ValueText-F ValueText AnnotationText ElementValuePair) → meant_in m (roll-ValueText x)
    ≡ value_step m (map-ValueText ValueText AnnotationText ElementValuePair Meant Annotation NamedValue (meant_in m) (annotation_in m) (pair_in m) x)
unfolding meant_in annotation_in pair_in
meant-roll m x = fold-roll-ValueText Meant Annotation NamedValue (value_step m) (annotation_step m) pair_step x

annotation-roll : (m : Meanings) (x : AnnotationText-F ValueText AnnotationText ElementValuePair) → annotation_in m (roll-AnnotationText x)
    ≡ roll-Annotation (record { annotation_type = annotation_mirror x.name (m.annotation_type x.name); values = map (pair_in m) x.values })
unfolding meant_in annotation_in pair_in
annotation-roll m x = fold-roll-AnnotationText Meant Annotation NamedValue (value_step m) (annotation_step m) pair_step x

pair-roll : (m : Meanings) (x : ElementValuePair-F ValueText AnnotationText ElementValuePair) → pair_in m (roll-ElementValuePair x)
    ≡ roll-NamedValue (record { name = x.name; value = (meant_in m x.value).value })
unfolding meant_in annotation_in pair_in
pair-roll m x = fold-roll-ElementValuePair Meant Annotation NamedValue (value_step m) (annotation_step m) pair_step x

-- the names that are written in a unit have the same good meanings
pub record SameMeanings (P : ElementRef → Type 0) (u : UnitText) (m m' : Meanings) : Type 0 where
  pub constants : (text : List ℕ) → Contains (unit_chains u) (parts text) → Kept (IfAny (ValueWithin P)) (m.constant text) (m'.constant text)
  pub class_types : (text : TypeText) → IsWritten u text → Kept (Within P) (m.class_type text) (m'.class_type text)
  pub annotation_types : (name : List ℕ) → Contains (unit_chains u) (parts name) → Kept (IfAny P) (m.annotation_type name) (m'.annotation_type name)

module _ (P : ElementRef → Type 0) (u : UnitText) (m m' : Meanings) (s : SameMeanings P u m m') where
  abbrev C : List (List ℕ) → Type 0
  C = Contains (unit_chains u)

  abbrev AreWritten : Chains → Type 0
  AreWritten list = AllByRecursion C list

  abbrev M : Meant → Type 0
  M x = ValueWithin P x.value

  abbrev ValueStays : ValueText → Type 0
  ValueStays v = AreWritten (value_chains v) → Kept M (meant_in m v) (meant_in m' v)

  abbrev AnnotationStays : AnnotationText → Type 0
  AnnotationStays a = AreWritten (annotation_chains a) → Kept (AnnotationWithin P) (annotation_in m a) (annotation_in m' a)

  abbrev PairStays : ElementValuePair → Type 0
  PairStays p = AreWritten (pair_chains p) → Kept (NamedWithin P) (pair_in m p) (pair_in m' p)

  abbrev KeptValue : Type 0
  KeptValue = (v : ValueText) × ValueStays v

  abbrev KeptAnnotation : Type 0
  KeptAnnotation = (a : AnnotationText) × AnnotationStays a

  abbrev KeptPair : Type 0
  KeptPair = (p : ElementValuePair) × PairStays p

  abbrev value_layer : ValueText-F KeptValue KeptAnnotation KeptPair → ValueText-F ValueText AnnotationText ElementValuePair
  value_layer = map-ValueText KeptValue KeptAnnotation KeptPair ValueText AnnotationText ElementValuePair (λ e. e.0) (λ e. e.0) (λ e. e.0)

  abbrev annotation_layer : AnnotationText-F KeptValue KeptAnnotation KeptPair → AnnotationText-F ValueText AnnotationText ElementValuePair
  annotation_layer = map-AnnotationText KeptValue KeptAnnotation KeptPair ValueText AnnotationText ElementValuePair (λ e. e.0) (λ e. e.0) (λ e. e.0)

  abbrev pair_layer : ElementValuePair-F KeptValue KeptAnnotation KeptPair → ElementValuePair-F ValueText AnnotationText ElementValuePair
  pair_layer = map-ElementValuePair KeptValue KeptAnnotation KeptPair ValueText AnnotationText ElementValuePair (λ e. e.0) (λ e. e.0) (λ e. e.0)

  abbrev texts_of : List KeptValue → List ValueText
  texts_of items = map (λ e. e.0) items

  abbrev pairs_of : List KeptPair → List ElementValuePair
  pairs_of items = map (λ e. e.0) items

  -- ---- lists

  each_value : (items : List KeptValue) → AllByRecursion (λ v. AreWritten (value_chains v)) (texts_of items)
      → Kept (AllByRecursion M) (map (meant_in m) (texts_of items)) (map (meant_in m') (texts_of items))
  each_value [] w = kept (AllByRecursion M) [] tt
  each_value (item ∷ items) w =
      let first = item.1 w.0 in
      let more = each_value items w.1 in
      record { equal = (λ i. first.equal i ∷ more.equal i); good = (first.good, more.good) }

  each_pair : (items : List KeptPair) → AllByRecursion (λ p. AreWritten (pair_chains p)) (pairs_of items)
      → Kept (AllByRecursion (NamedWithin P)) (map (pair_in m) (pairs_of items)) (map (pair_in m') (pairs_of items))
  each_pair [] w = kept (AllByRecursion (NamedWithin P)) [] tt
  each_pair (item ∷ items) w =
      let first = item.1 w.0 in
      let more = each_pair items w.1 in
      record { equal = (λ i. first.equal i ∷ more.equal i); good = (first.good, more.good) }

  all_values : (items : List KeptValue) → AreWritten (flat_map gathered (map value_chains (texts_of items)))
      → Kept (AllByRecursion M) (map (meant_in m) (texts_of items)) (map (meant_in m') (texts_of items))
  all_values items w =
      each_value items (each_of_map AreWritten value_chains (texts_of items) (each_of_flat_map C gathered (map value_chains (texts_of items)) w))

  all_pairs : (items : List KeptPair) → AreWritten (flat_map gathered (map pair_chains (pairs_of items)))
      → Kept (AllByRecursion (NamedWithin P)) (map (pair_in m) (pairs_of items)) (map (pair_in m') (pairs_of items))
  all_pairs items w =
      each_pair items (each_of_map AreWritten pair_chains (pairs_of items) (each_of_flat_map C gathered (map pair_chains (pairs_of items)) w))

  -- ---- values

  abbrev by_names : (by : Meanings) → ValueText-F ValueText AnnotationText ElementValuePair → Meant
  by_names by x = value_step by (map-ValueText ValueText AnnotationText ElementValuePair Meant Annotation NamedValue (meant_in by) (annotation_in by) (pair_in by) x)

  put_together : (x : ValueText-F ValueText AnnotationText ElementValuePair) → Kept M (by_names m x) (by_names m' x) → Kept M (meant_in m (roll-ValueText x)) (meant_in m' (roll-ValueText x))
  put_together x k = moved M _ _ _ _ k (meant-roll m x) (meant-roll m' x)

  constant_lies : (o : Option Value) (text : List ℕ) → IfAny (ValueWithin P) o → ValueWithin P (unwrap_or o (value.Other text))
  constant_lies None text g = other-lies P text
  constant_lies (Some v) text g = g

  value_stays : (y : ValueText-F KeptValue KeptAnnotation KeptPair) → AreWritten (chains.value_step (map-ValueText ValueText AnnotationText ElementValuePair Chains Chains Chains value_chains annotation_chains pair_chains (value_layer y)))
      → Kept M (by_names m (value_layer y)) (by_names m' (value_layer y))
  value_stays (ValueText-F.Literal text) w = kept M (meant (literal_value text) text) (literal-lies P text)
  value_stays (ValueText-F.Negated text) w = kept M (meant (negated_value text) []) (negated-lies P text)
  value_stays (ValueText-F.Joined items) w =
      let k = all_values items w in
      record { equal = ap (λ (ms : List Meant). meant (joined ms) []) k.equal; good = joined-lies P (map (meant_in m) (texts_of items)) }
  value_stays (ValueText-F.Class of) w =
      let k = s.class_types of w in
      record { equal = ap (λ (t : Mirror). meant (value.Class t) []) k.equal; good = class-lies P (m.class_type of) k.good }
  value_stays (ValueText-F.Chain text) w =
      let k = s.constants text w.0 in
      record { equal = ap (λ (o : Option Value). meant (unwrap_or o (value.Other text)) text) k.equal; good = constant_lies (m.constant text) text k.good }
  value_stays (ValueText-F.Array items) w =
      let k = all_values items w in
      record {
        equal = ap (λ (ms : List Meant). meant (value.Array (map (λ i. i.value) ms)) []) k.equal;
        good = array-lies P (map (λ i. i.value) (map (meant_in m) (texts_of items))) (each_map (ValueWithin P) (λ (i : Meant). i.value) (map (meant_in m) (texts_of items)) k.good);
      }
  value_stays (ValueText-F.Nested annotation) w =
      let k = annotation.1 w in
      record { equal = ap (λ (a : Annotation). meant (value.Nested a) []) k.equal; good = nested-lies P (annotation_in m annotation.0) k.good }
  value_stays (ValueText-F.Other text) w = kept M (meant (value.Other text) []) (other-lies P text)

  at_value : (y : ValueText-F KeptValue KeptAnnotation KeptPair) → ValueStays (roll-ValueText (value_layer y))
  at_value y w = put_together (value_layer y) (value_stays y (subst AreWritten (value_chains-roll (value_layer y)) w))

  -- ---- annotations

  abbrev annotation_of : List ℕ → Option ElementRef → List NamedValue → Annotation
  annotation_of name of values = roll-Annotation (record { annotation_type = annotation_mirror name of; values = values })

  annotation_of_kept : (name : List ℕ) (of of' : Option ElementRef) (values values' : List NamedValue) → Kept (IfAny P) of of' → Kept (AllByRecursion (NamedWithin P)) values values'
      → Kept (AnnotationWithin P) (annotation_of name of values) (annotation_of name of' values')
  annotation_of_kept name of of' values values' k l = record {
    equal = ap₂ (λ (o : Option ElementRef) (vs : List NamedValue). annotation_of name o vs) k.equal l.equal;
    good = annotation-lies P (record { annotation_type = annotation_mirror name of; values = values }) (mirror-lies P name of k.good) l.good;
  }

  at_annotation : (y : AnnotationText-F KeptValue KeptAnnotation KeptPair) → AnnotationStays (roll-AnnotationText (annotation_layer y))
  at_annotation y w =
      let all = subst AreWritten (annotation_chains-roll (annotation_layer y)) w in
      moved (AnnotationWithin P) _ _ _ _ (annotation_of_kept y.name _ _ _ _ (s.annotation_types y.name all.0) (all_pairs y.values all.1))
      (annotation-roll m (annotation_layer y)) (annotation-roll m' (annotation_layer y))

  abbrev named_of : List ℕ → Meant → NamedValue
  named_of name x = roll-NamedValue (record { name = name; value = x.value })

  named_of_kept : (name : List ℕ) (x x' : Meant) → Kept M x x' → Kept (NamedWithin P) (named_of name x) (named_of name x')
  named_of_kept name x x' k = record { equal = ap (named_of name) k.equal; good = named-lies P (record { name = name; value = x.value }) k.good }

  at_pair : (y : ElementValuePair-F KeptValue KeptAnnotation KeptPair) → PairStays (roll-ElementValuePair (pair_layer y))
  at_pair y w =
      moved (NamedWithin P) _ _ _ _ (named_of_kept y.name _ _ (y.value.1 (subst AreWritten (pair_chains-roll (pair_layer y)) w)))
      (pair-roll m (pair_layer y)) (pair-roll m' (pair_layer y))

  meant-kept : (v : ValueText) → ValueStays v
  meant-kept = ind-ValueText ValueStays AnnotationStays PairStays
      (λ x y same. subst (λ (x : ValueText-F ValueText AnnotationText ElementValuePair). ValueStays (roll-ValueText x)) same (at_value y))
      (λ x y same. subst (λ (x : AnnotationText-F ValueText AnnotationText ElementValuePair). AnnotationStays (roll-AnnotationText x)) same (at_annotation y))
      (λ x y same. subst (λ (x : ElementValuePair-F ValueText AnnotationText ElementValuePair). PairStays (roll-ElementValuePair x)) same (at_pair y))

  pub annotation-kept : (a : AnnotationText) → AnnotationStays a
  annotation-kept = ind-AnnotationText ValueStays AnnotationStays PairStays
      (λ x y same. subst (λ (x : ValueText-F ValueText AnnotationText ElementValuePair). ValueStays (roll-ValueText x)) same (at_value y))
      (λ x y same. subst (λ (x : AnnotationText-F ValueText AnnotationText ElementValuePair). AnnotationStays (roll-AnnotationText x)) same (at_annotation y))
      (λ x y same. subst (λ (x : ElementValuePair-F ValueText AnnotationText ElementValuePair). PairStays (roll-ElementValuePair x)) same (at_pair y))

  pub value-kept : (v : ValueText) → AreWritten (value_chains v) → Kept (ValueWithin P) (value_in m v) (value_in m' v)
  value-kept v w = let k = meant-kept v w in record { equal = ap (λ (x : Meant). x.value) k.equal; good = k.good }
