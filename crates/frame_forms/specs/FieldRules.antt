-- What the forms of numbers, texts, elements and lists ask of a value, in words: below a bound, in UTF-8, no text twice, each text greater than the one before it, names that are patterns.
use Rattle.std.specs.Prelude.{◌≡◌, ◌↔◌, ℕ, ◌<◌, ◌^◌, Bool, true, List, [], ◌∷◌, length, map}
use Rattle.std.specs.List.{AllByRecursion, IsDistinct}
use Rattle.std.specs.Str.{bytes_eq}
use Rattle.std.specs.Ordering.{is_lt, nat_cmp}
use Rattle.std.specs.Cmp.Lexicographic.{slice_cmp}
use Rattle.apt_base.specs.Fields.{is_text}
use Rattle.apt_base.specs.Identifiers.{is_pattern}
use Rattle.apt_base.specs.declared.element.ElementRef.{ElementRef}
use Rattle.apt_base.specs.declared.kinds.Claim.{Claim}
use Rattle.frame_forms.specs.Forms.{Code, El, Form}
use Rattle.frame_forms.specs.TextForms.{text, list_of, distinct_texts, distinct_patterns, ascending_texts, ascending_by_key}
use Rattle.frame_forms.specs.MirrorForms.{bool, u8_below, element}
use Rattle.frame_forms.specs.FrameTable.{claim}
use Rattle.frame_forms.specs.Frames.{Fits}

-- a text in UTF-8 whose length fits its four bytes
abbrev pub IsText : List ℕ → Type 0
IsText bytes = (is_text bytes ≡ true) × (length bytes < 2 ^ 32)

-- a list whose length fits its four bytes, of such items
abbrev pub IsListOf : {A : Type 0} → (A → Type 0) → List A → Type 0
IsListOf P items = (length items < 2 ^ 32) × AllByRecursion P items

-- each text is less than the one behind it, by their bytes
abbrev pub Ascend : List (List ℕ) → Type 0
Ascend [] = Unit {0}
Ascend (first ∷ []) = Unit {0}
Ascend (first ∷ second ∷ others) = (is_lt (slice_cmp nat_cmp first second) ≡ true) × Ascend (second ∷ others)

abbrev pub TextsRule : Type 0
TextsRule = (bytes : List ℕ) → Fits text bytes ↔ IsText bytes

abbrev pub DistinctRule : Type 0
DistinctRule = (texts : List (List ℕ)) → Fits distinct_texts texts ↔ (IsListOf IsText texts × IsDistinct bytes_eq texts)

abbrev pub PatternsRule : Type 0
PatternsRule = (texts : List (List ℕ)) → Fits distinct_patterns texts ↔ (IsListOf (λ t. IsText t × (is_pattern t ≡ true)) texts × IsDistinct bytes_eq texts)

abbrev pub AscendingRule : Type 0
AscendingRule = (texts : List (List ℕ)) → Fits ascending_texts texts ↔ (IsListOf IsText texts × Ascend texts)

abbrev pub KeysRule : Type 0
KeysRule = (entries : List (List ℕ × List ℕ)) → Fits (ascending_by_key text) entries ↔ (IsListOf (λ entry. IsText entry.0 × IsText entry.1) entries × Ascend (map (λ entry. entry.0) entries))

abbrev pub BelowRule : Type 0
BelowRule = (bound n : ℕ) → Fits (u8_below bound) n ↔ (n < bound)

abbrev pub BoolRule : Type 0
BoolRule = (b : Bool) → Fits bool b

abbrev pub ClaimRule : Type 0
ClaimRule = (c : Claim) → Fits claim c

abbrev pub ElementRule : Type 0
ElementRule = (e : ElementRef) → Fits element e ↔ (IsText e.unit × IsListOf (λ n. n < 2 ^ 16) e.path)

-- a list of which nothing more is asked than of each item
abbrev pub ItemsRule : Type 0
ItemsRule = (c : Code) (form : Form c) (items : List (El c)) → Fits (list_of form) items ↔ IsListOf {A = El c} (Fits form) items
