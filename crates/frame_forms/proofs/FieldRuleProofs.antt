-- What the forms ask of a value, as words on the whole value.
use Rattle.std.proofs.Common.{◌<◌, ◌^◌, ◌≡◌, ℕ, Bool, true, false, cond, ltb, not, ◌&&◌, ◌||◌, List, [], ◌∷◌, map, Some, None, refl, sym, ap, ◌∙◌}
use Rattle.std.specs.List.{AllByRecursion, IsDistinct, list_any}
use Rattle.std.specs.Str.{bytes_eq}
use Rattle.std.proofs.lemmas.Bool.{false≢true, false_from_ne_true, ltb-true, lt-ltb}
use Rattle.std.proofs.lemmas.Slice.Eq.{bytes_eq-Decides}
use Rattle.std.proofs.lemmas.Map.Keys.{IsDistinct-head, IsDistinct-tail, IsDistinct-cons}
use Rattle.apt_base.specs.Fields.{is_text}
use Rattle.apt_base.specs.Identifiers.{is_pattern}
use Rattle.apt_base.specs.declared.kinds.Claim.TheVariants.{Always, Never, Varies}
use Rattle.frame_forms.specs.declared.bad_kind.BadKind.TheVariants as kinds
use Rattle.frame_forms.specs.Forms.{El, EachFits}
use Rattle.frame_forms.specs.TextForms.{text, text_that, pattern_that, is_new, is_greater}
use Rattle.frame_forms.specs.Frames.{Fits}
use Rattle.frame_forms.specs.FieldRules.{IsText, Ascend, TextsRule, DistinctRule, PatternsRule, AscendingRule, KeysRule, BelowRule, BoolRule, ClaimRule, ElementRule, ItemsRule}

both_true : (a b : Bool) → (a && b) ≡ true → (a ≡ true) × (b ≡ true)
both_true true b e = (refl, e)
both_true false b e = absurd cc

-- ---- one text

passes_is : (a b : Bool) → cond (a && b) None (Some kinds.Field) ≡ None → (a ≡ true) × (b ≡ true)
passes_is true true e = (refl, refl)
passes_is true false e = absurd cc
passes_is false b e = absurd cc

text_is : (passes : List ℕ → Bool) (t : List ℕ) → Fits (text_that passes) t → IsText t × (passes t ≡ true)
text_is passes t h = let p = passes_is (is_text t) (passes t) h.0 in ((p.0, h.1), p.1)

is_text_that : (passes : List ℕ → Bool) (t : List ℕ) → IsText t → passes t ≡ true → Fits (text_that passes) t
is_text_that passes t is e = (rw (is.0, e) refl, is.1)

pattern_is : (a b c : Bool) → cond (a && b) (cond c None (Some kinds.Pattern)) (Some kinds.Field) ≡ None → (a ≡ true) × (b ≡ true) × (c ≡ true)
pattern_is true true true e = (refl, refl, refl)
pattern_is true true false e = absurd cc
pattern_is true false c e = absurd cc
pattern_is false b c e = absurd cc

name_is : (passes : List ℕ → Bool) (t : List ℕ) → Fits (pattern_that passes) t → (IsText t × (is_pattern t ≡ true)) × (passes t ≡ true)
name_is passes t h = let p = pattern_is (is_text t) (passes t) (is_pattern t) h.0 in (((p.0, h.1), p.2), p.1)

is_name_that : (passes : List ℕ → Bool) (t : List ℕ) → IsText t × (is_pattern t ≡ true) → passes t ≡ true → Fits (pattern_that passes) t
is_name_that passes t is e = (rw (is.0.0, e, is.1) refl, is.0.1)

pub texts_rule : TextsRule
texts_rule t = (λ h. (text_is (λ s. true) t h).0, λ is. is_text_that (λ s. true) t is refl)

-- ---- no text twice

abbrev AllNew : List (List ℕ) → List (List ℕ) → Type 0
AllNew before ts = AllByRecursion (λ t. is_new before t ≡ true) ts

neither : (a b : Bool) → not (a || b) ≡ true → (a ≡ false) × (not b ≡ true)
neither true b e = absurd cc
neither false b e = (refl, e)

is_neither : (a b : Bool) → a ≡ false → not b ≡ true → not (a || b) ≡ true
is_neither true b e h = absurd cc
is_neither false b e h = h

differ_back : (s t : List ℕ) → bytes_eq s t ≡ false → bytes_eq t s ≡ false
differ_back s t e = false_from_ne_true (bytes_eq t s) (λ h. false≢true (sym e ∙ (bytes_eq-Decides s t).1 (sym ((bytes_eq-Decides t s).0 h))))

-- texts that are new behind one more text
new_split : (first : List ℕ) (before ts : List (List ℕ)) → AllNew (first ∷ before) ts → AllByRecursion (λ t. bytes_eq first t ≡ false) ts × AllNew before ts
new_split first before [] h = (tt, tt)
new_split first before (t ∷ ts) h =
    let one = neither (bytes_eq t first) (list_any (bytes_eq t) before) h.0 in
    let others = new_split first before ts h.1 in
    ((differ_back t first one.0, others.0), (one.1, others.1))

new_join : (first : List ℕ) (before ts : List (List ℕ)) → AllByRecursion (λ t. bytes_eq first t ≡ false) ts → AllNew before ts → AllNew (first ∷ before) ts
new_join first before [] apart new = tt
new_join first before (t ∷ ts) apart new =
    (is_neither (bytes_eq t first) (list_any (bytes_eq t) before) (differ_back first t apart.0) new.0, new_join first before ts apart.1 new.1)

all_new : (ts : List (List ℕ)) → AllNew [] ts
all_new [] = tt
all_new (t ∷ ts) = (refl, all_new ts)

no_pair : IsDistinct bytes_eq []
unfolding IsDistinct
no_pair = tt

module _ (P : List ℕ → Type 0) (fits : List (List ℕ) → List ℕ → Type 0) (is : (before : List (List ℕ)) (t : List ℕ) → fits before t → P t × (is_new before t ≡ true)) (back : (before : List (List ℕ)) (t : List ℕ) → P t → is_new before t ≡ true → fits before t) where
  each_new : (before ts : List (List ℕ)) → EachFits fits before ts → AllByRecursion P ts × AllNew before ts × IsDistinct bytes_eq ts
  each_new before [] h = (tt, tt, no_pair)
  each_new before (t ∷ ts) h =
      let one = is before t h.0 in
      let others = each_new (t ∷ before) ts h.1 in
      let apart = new_split t before ts others.1 in
      ((one.0, others.0), (one.1, apart.1), IsDistinct-cons bytes_eq t ts apart.0 others.2)

  new_each : (before ts : List (List ℕ)) → AllByRecursion P ts → AllNew before ts → IsDistinct bytes_eq ts → EachFits fits before ts
  new_each before [] all new distinct = tt
  new_each before (t ∷ ts) all new distinct =
      (back before t all.0 new.0, new_each (t ∷ before) ts all.1 (new_join t before ts (IsDistinct-head bytes_eq t ts distinct) new.1) (IsDistinct-tail bytes_eq t ts distinct))

pub distinct_rule : DistinctRule
distinct_rule ts =
    let fits : List (List ℕ) → List ℕ → Type 0 = λ before. Fits (text_that (is_new before)) in (
      λ h. (let e = each_new IsText fits (λ before. text_is (is_new before)) (λ before. is_text_that (is_new before)) [] ts h.1 in ((h.0, e.0), e.2)),
      λ h. (h.0.0, new_each IsText fits (λ before. text_is (is_new before)) (λ before. is_text_that (is_new before)) [] ts h.0.1 (all_new ts) h.1),
    )

pub patterns_rule : PatternsRule
patterns_rule ts =
    let P : List ℕ → Type 0 = λ t. IsText t × (is_pattern t ≡ true) in
    let fits : List (List ℕ) → List ℕ → Type 0 = λ before. Fits (pattern_that (is_new before)) in (
      λ h. (let e = each_new P fits (λ before. name_is (is_new before)) (λ before. is_name_that (is_new before)) [] ts h.1 in ((h.0, e.0), e.2)),
      λ h. (h.0.0, new_each P fits (λ before. name_is (is_new before)) (λ before. is_name_that (is_new before)) [] ts h.0.1 (all_new ts) h.1),
    )

-- ---- ascending

-- texts that ascend, the first of them behind those before
abbrev Follow : List (List ℕ) → List (List ℕ) → Type 0
Follow [] ts = Ascend ts
Follow (last ∷ before) ts = Ascend (last ∷ ts)

follow_first : (before : List (List ℕ)) (t : List ℕ) (ts : List (List ℕ)) → Follow before (t ∷ ts) → (is_greater before t ≡ true) × Ascend (t ∷ ts)
follow_first [] t ts h = (refl, h)
follow_first (last ∷ before) t ts h = (h.0, h.1)

follow_join : (before : List (List ℕ)) (t : List ℕ) (ts : List (List ℕ)) → is_greater before t ≡ true → Ascend (t ∷ ts) → Follow before (t ∷ ts)
follow_join [] t ts e h = h
follow_join (last ∷ before) t ts e h = (e, h)

follow_none : (before : List (List ℕ)) → Follow before []
follow_none [] = tt
follow_none (last ∷ before) = tt

module _ {A : Type 0} (key : A → List ℕ) (P : A → Type 0) (fits : List A → A → Type 0) (is : (before : List A) (a : A) → fits before a → P a × (is_greater (map key before) (key a) ≡ true)) (back : (before : List A) (a : A) → P a → is_greater (map key before) (key a) ≡ true → fits before a) where
  each_greater : (before items : List A) → EachFits fits before items → AllByRecursion P items × Follow (map key before) (map key items)
  each_greater before [] h = (tt, follow_none (map key before))
  each_greater before (a ∷ items) h =
      let one = is before a h.0 in
      let others = each_greater (a ∷ before) items h.1 in
      ((one.0, others.0), follow_join (map key before) (key a) (map key items) one.1 others.1)

  greater_each : (before items : List A) → AllByRecursion P items → Follow (map key before) (map key items) → EachFits fits before items
  greater_each before [] all follow = tt
  greater_each before (a ∷ items) all follow =
      let f = follow_first (map key before) (key a) (map key items) follow in
      (back before a all.0 f.0, greater_each (a ∷ before) items all.1 f.1)

map_same : (ts : List (List ℕ)) → map (λ t. t) ts ≡ ts
map_same [] = refl
map_same (t ∷ ts) = ap (λ (s : List (List ℕ)). t ∷ s) (map_same ts)

greater_same : (before : List (List ℕ)) (t : List ℕ) → is_greater (map (λ s. s) before) t ≡ is_greater before t
greater_same [] t = refl
greater_same (last ∷ before) t = refl

pub ascending_rule : AscendingRule
ascending_rule ts =
    let fits : List (List ℕ) → List ℕ → Type 0 = λ before. Fits (text_that (is_greater before)) in
    let is : (before : List (List ℕ)) (t : List ℕ) → fits before t → IsText t × (is_greater (map (λ s. s) before) t ≡ true) =
    λ before t h. (let p = text_is (is_greater before) t h in (p.0, greater_same before t ∙ p.1)) in
    let back : (before : List (List ℕ)) (t : List ℕ) → IsText t → is_greater (map (λ s. s) before) t ≡ true → fits before t =
    λ before t is e. is_text_that (is_greater before) t is (sym (greater_same before t) ∙ e) in (
      λ h. (let e = each_greater (λ s. s) IsText fits is back [] ts h.1 in ((h.0, e.0), rw (map_same ts) at e.1)),
      λ h. (h.0.0, greater_each (λ s. s) IsText fits is back [] ts h.0.1 (rw (map_same ts) h.1)),
    )

pub keys_rule : KeysRule
keys_rule es =
    let key : List ℕ × List ℕ → List ℕ = λ entry. entry.0 in
    let P : List ℕ × List ℕ → Type 0 = λ entry. IsText entry.0 × IsText entry.1 in
    let fits : List (List ℕ × List ℕ) → List ℕ × List ℕ → Type 0 = λ before entry. Fits (text_that (is_greater (map key before))) entry.0 × Fits text entry.1 in
    let is : (before : List (List ℕ × List ℕ)) (entry : List ℕ × List ℕ) → fits before entry → P entry × (is_greater (map key before) (key entry) ≡ true) =
    λ before entry h. (let p = text_is (is_greater (map key before)) entry.0 h.0 in ((p.0, (texts_rule entry.1).0 h.1), p.1)) in
    let back : (before : List (List ℕ × List ℕ)) (entry : List ℕ × List ℕ) → P entry → is_greater (map key before) (key entry) ≡ true → fits before entry =
    λ before entry is e. (is_text_that (is_greater (map key before)) entry.0 is.0 e, (texts_rule entry.1).1 is.1) in
    (λ h. (let e = each_greater key P fits is back [] es h.1 in ((h.0, e.0), e.1)), λ h. (h.0.0, greater_each key P fits is back [] es h.0.1 h.1))

-- ---- numbers and elements

below_is : (b : Bool) (n : ℕ) → cond b (Some n) None ≡ Some n → b ≡ true
below_is true n e = refl
below_is false n e = absurd cc

pub below_rule : BelowRule
below_rule bound n = (λ h. ltb-true n bound (below_is (ltb n bound) n h), λ lt. rw (lt-ltb n bound lt) refl)

pub bool_rule : BoolRule
bool_rule false = refl
bool_rule true = refl

pub claim_rule : ClaimRule
claim_rule Always = refl
claim_rule Never = refl
claim_rule Varies = refl

each_all : {A : Type 0} (P : A → Type 0) (before items : List A) → EachFits (λ earlier. P) before items → AllByRecursion P items
each_all P before [] h = tt
each_all P before (a ∷ items) h = (h.0, each_all P (a ∷ before) items h.1)

all_each : {A : Type 0} (P : A → Type 0) (before items : List A) → AllByRecursion P items → EachFits (λ earlier. P) before items
all_each P before [] h = tt
all_each P before (a ∷ items) h = (h.0, all_each P (a ∷ before) items h.1)

pub items_rule : ItemsRule
items_rule c form items = (λ h. (h.0, each_all {A = El c} (Fits form) [] items h.1), λ h. (h.0, all_each {A = El c} (Fits form) [] items h.1))

pub element_rule : ElementRule
element_rule e = (
  λ h. ((texts_rule e.unit).0 h.0, (h.1.0, each_all (λ (n : ℕ). n < 2 ^ 16) [] e.path h.1.1)),
  λ h. ((texts_rule e.unit).1 h.0, (h.1.0, all_each (λ (n : ℕ). n < 2 ^ 16) [] e.path h.1.1)),
)
