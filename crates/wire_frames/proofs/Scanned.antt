-- What stands next is what the scan of the table finds whole, form by form.
use Rattle.std.proofs.Common.{◌≡◌, ℕ, zero, suc, ◌+◌, Bool, true, false, cond, not, ◌&&◌, List, [], ◌∷◌, length, take, drop, Option, Some, None, refl, sym, ap, ◌∙◌, ltb}
use Rattle.std.specs.Prelude.{◌||◌, slice_get}
use Rattle.std.specs.List.{list_any, list_all}
use Rattle.std.specs.Str.{bytes_eq}
use Rattle.std.proofs.lemmas.Slice.Eq.{bytes_eq-Decides}
use Rattle.std.specs.Int.{Width, w16, w32, w64, byte_len, cast_signed}
use Rattle.apt_base.specs.Fields.{◌>>=◌, is_text, front_next, number_next, u8_next, u16_next, u32_next, i64_next, bool_next, bytes_next, text_next}
use Rattle.apt_base.specs.Forms.{Reader, ◌>>◌, checked, numbered, opt_next, items_next, list_next}
use Rattle.apt_base.specs.Forms as readers
use Rattle.apt_base.specs.Identifiers.{is_pattern}
use Rattle.apt_base.specs.declared.kinds.Claim.TheVariants.{Always, Never, Varies}
use Rattle.frame_forms.specs.declared.bad_kind.BadKind.{BadKind}
use Rattle.frame_forms.specs.declared.bad_kind.BadKind.TheVariants as kinds
use Rattle.frame_forms.specs.Scans as scans
use Rattle.frame_forms.specs.Scans.{Scan, whole, begun, bad, and_then, front_scan, number_scan, named, byte_scan, judged, run_scan, opt_scan, items_scan}
use Rattle.frame_forms.specs.Forms.{bool_at}
use Rattle.frame_forms.specs.TextForms.{any_bytes, text, distinct_texts, distinct_patterns, is_new}
use Rattle.frame_forms.specs.MirrorForms.{bool, u8_below, element, element_of}
use Rattle.frame_forms.specs.FrameTable.{claim}
use Rattle.frame_forms.specs.Frames.{scanned}
use Rattle.wire_frames.specs.Readings.{found, are_distinct, distinct_next, patterns_next, below_next, claim_next, element_next}

-- the reader gives what the scan finds whole
abbrev pub Same : {A : Type 0} → Reader A → (List ℕ → Scan A) → Type 0
Same next scan = (bytes : List ℕ) → next bytes ≡ found (scan bytes)

-- ---- one thing and then another

pub found-then : {A B : Type 0} (s : Scan A) (k : A → List ℕ → Scan B) → found (and_then s k) ≡ (found s >>= λ x. found (k x.0 x.1))
found-then (whole a rest) k = refl
found-then begun k = refl
found-then (bad rest kind) k = refl

pub found-mapped : {A B : Type 0} (make : A → B) (s : Scan A) → found (scans.mapped make s) ≡ (found s >>= λ x. Some (make x.0, x.1))
found-mapped make (whole a rest) = refl
found-mapped make begun = refl
found-mapped make (bad rest kind) = refl

bind_same : {A B : Type 0} (o : Option A) (f g : A → Option B) → ((x : A) → f x ≡ g x) → (o >>= f) ≡ (o >>= g)
bind_same None f g e = refl
bind_same (Some x) f g e = e x

-- a reader behind another
pub then_same : {A B : Type 0} (o : Option (A × List ℕ)) (s : Scan A) (f : A × List ℕ → Option (B × List ℕ)) (k : A → List ℕ → Scan B) → o ≡ found s → ((a : A) (rest : List ℕ) → f (a, rest) ≡ found (k a rest))
    → (o >>= f) ≡ found (and_then s k)
then_same o s f k e h = ap (λ p. p >>= f) e ∙ bind_same (found s) f (λ x. found (k x.0 x.1)) (λ x. h x.0 x.1) ∙ sym (found-then s k)

pub mapped_same : {A B : Type 0} (make : A → B) (o : Option (A × List ℕ)) (s : Scan A) → o ≡ found s → (o >>= λ x. Some (make x.0, x.1)) ≡ found (scans.mapped make s)
mapped_same make o s e = ap (λ p. p >>= λ x. Some (make x.0, x.1)) e ∙ sym (found-mapped make s)

-- ---- bytes and numbers

front-same : (count : ℕ) (bytes : List ℕ) → front_next count bytes ≡ found (front_scan count bytes)
front-same count bytes = cases (ltb (length bytes) count)
  where
    cases : (short : Bool) → cond short None (Some (take count bytes, drop count bytes)) ≡ found (cond short begun (whole (take count bytes) (drop count bytes)))
    cases true = refl
    cases false = refl

number-same : (w : Width) (bytes : List ℕ) → number_next w bytes ≡ found (number_scan w bytes)
unfolding number_scan
number-same w bytes = then_same (front_next (byte_len w) bytes) (front_scan (byte_len w) bytes) _ _ (front-same (byte_len w) bytes) (λ a rest. refl)

pub u16-same : Same u16_next (number_scan w16)
unfolding u16_next
u16-same bytes = number-same w16 bytes

pub u32-same : Same u32_next (number_scan w32)
unfolding u32_next
u32-same bytes = number-same w32 bytes

pub i64-same : Same i64_next (λ bytes. scans.mapped (cast_signed w64) (number_scan w64 bytes))
unfolding i64_next
i64-same bytes = mapped_same (cast_signed w64) (number_next w64 bytes) (number_scan w64 bytes) (number-same w64 bytes)

named-same : {A : Type 0} (kind : BadKind) (o : Option A) (byte : ℕ) (rest : List ℕ) → (o >>= λ a. Some (a, rest)) ≡ found (named kind o byte rest)
named-same kind None byte rest = refl
named-same kind (Some a) byte rest = refl

pub byte-same : {A : Type 0} (kind : BadKind) (of : ℕ → Option A) → Same (numbered of) (byte_scan kind of)
unfolding u8_next byte_scan
byte-same kind of [] = refl
byte-same kind of (b ∷ rest) = named-same kind (of b) b rest

-- ---- runs of bytes

-- a run without a fault
abbrev is_whole : Option BadKind → Bool
is_whole None = true
is_whole (Some kind) = false

judged-same : (fault : Option BadKind) (run rest last : List ℕ) → cond (is_whole fault) (Some (run, rest)) None ≡ found (judged fault run rest last)
judged-same None run rest last = refl
judged-same (Some kind) run rest last = refl

pub bind_bind : {A B C : Type 0} (o : Option A) (f : A → Option B) (g : B → Option C) → ((o >>= f) >>= g) ≡ (o >>= λ x. f x >>= g)
bind_bind None f g = refl
bind_bind (Some x) f g = refl

run-same : (fault : List ℕ → Option BadKind) → Same (checked (λ text. is_whole (fault text)) bytes_next) (run_scan fault)
unfolding bytes_next run_scan
run-same fault bytes =
    let test : List ℕ × List ℕ → Option (List ℕ × List ℕ) = λ a. cond (is_whole (fault a.0)) (Some a) None in
    bind_bind (u32_next bytes) (λ count. front_next count.0 count.1) test
    ∙ then_same (u32_next bytes) (number_scan w32 bytes) (λ count. front_next count.0 count.1 >>= test) _ (u32-same bytes)
    (λ count rest. then_same (front_next count rest) (front_scan count rest) test _ (front-same count rest) (λ run behind. judged-same (fault run) run behind (drop (count + 3) bytes)))

-- ---- none or one, and any number

bool-same : Same bool_next (byte_scan kinds.Field bool_at)
unfolding bool_next byte_scan
bool-same [] = refl
bool-same (zero ∷ rest) = refl
bool-same (suc zero ∷ rest) = refl
bool-same (suc (suc n) ∷ rest) = refl

pub opt-same : {A : Type 0} (item : Reader A) (scan : List ℕ → Scan A) → Same item scan → Same (opt_next item) (λ bytes. and_then (byte_scan kinds.Field bool_at bytes) (λ is_there rest. opt_scan scan is_there rest))
unfolding opt_next
opt-same item scan same bytes = then_same (bool_next bytes) (byte_scan kinds.Field bool_at bytes) _ _ (bool-same bytes) cases
  where
    cases : (is_there : Bool) (rest : List ℕ) → cond is_there (readers.mapped Some item rest) (Some (None, rest)) ≡ found (opt_scan scan is_there rest)
    cases true rest = mapped_same Some (item rest) (scan rest) (same rest)
    cases false rest = refl

items-same : {A : Type 0} (item : Reader A) (scan : List ℕ → Scan A) → Same item scan → (before : List A) (count : ℕ) → Same (items_next item count) (items_scan (λ earlier. scan) before count)
unfolding items_next items_scan
items-same item scan same before zero bytes = refl
items-same item scan same before (suc count) bytes =
    then_same (item bytes) (scan bytes) _ _ (same bytes)
    (λ first rest. mapped_same (λ others. first ∷ others) (items_next item count rest) (items_scan (λ earlier. scan) (first ∷ before) count rest) (items-same item scan same (first ∷ before) count rest))

pub list-same : {A : Type 0} (item : Reader A) (scan : List ℕ → Scan A) → Same item scan → Same (list_next item) (λ bytes. and_then (number_scan w32 bytes) (λ count rest. items_scan (λ earlier. scan) [] count rest))
unfolding list_next
list-same item scan same bytes = then_same (u32_next bytes) (number_scan w32 bytes) _ _ (u32-same bytes) (λ count rest. items-same item scan same [] count rest)

pub pair-same : {A B : Type 0} (f : Reader A) (s : List ℕ → Scan A) (g : Reader B) (t : List ℕ → Scan B) → Same f s → Same g t → Same (f >> g) (λ bytes. and_then (s bytes) (λ v rest. scans.mapped (λ w. (v, w)) (t rest)))
pair-same f s g t first second bytes = then_same (f bytes) (s bytes) _ _ (first bytes) (λ v rest. mapped_same (λ w. (v, w)) (g rest) (t rest) (second rest))

pub made-same : {A B : Type 0} (make : A → B) (f : Reader A) (s : List ℕ → Scan A) → Same f s → Same (readers.mapped make f) (λ bytes. scans.mapped make (s bytes))
made-same make f s same bytes = mapped_same make (f bytes) (s bytes) (same bytes)

-- ---- items that are tested by those before them

abbrev pub all_after : {A : Type 0} → (List A → A → Bool) → List A → List A → Bool
all_after passes before [] = true
all_after passes before (first ∷ others) = passes before first && all_after passes (first ∷ before) others

module _ {A : Type 0} (item : Reader A) (passes : List A → A → Bool) (scan : List A → List ℕ → Scan A) (same : (before : List A) → Same (checked (passes before) item) (scan before)) where
  abbrev tested : List A → Option (List A × List ℕ) → Option (List A × List ℕ)
  tested before read = read >>= λ xs. cond (all_after passes before xs.0) (Some xs) None

  abbrev grown : A → List A × List ℕ → List A × List ℕ
  grown first o = (first ∷ o.0, o.1)

  abbrev no_items : Option (List A × List ℕ)
  no_items = None

  abbrev some_items : List A × List ℕ → Option (List A × List ℕ)
  some_items x = Some x

  both_tests : (b c : Bool) (x : List A × List ℕ) (first : A) → cond (b && c) (some_items (grown first x)) no_items ≡ cond b (cond c (some_items x) no_items >>= λ o. some_items (grown first o)) no_items
  both_tests true true x first = refl
  both_tests true false x first = refl
  both_tests false c x first = refl

  no_rest : (b : Bool) → no_items ≡ cond b no_items no_items
  no_rest true = refl
  no_rest false = refl

  -- the items that follow a first one
  behind : (before : List A) (first : A) (rest : Option (List A × List ℕ)) → tested before (rest >>= λ o. some_items (grown first o)) ≡ cond (passes before first) (tested (first ∷ before) rest >>= λ o. some_items (grown first o)) no_items
  behind before first None = no_rest (passes before first)
  behind before first (Some x) = both_tests (passes before first) (all_after passes (first ∷ before) x.0) x first

  abbrev no_item : Option (A × List ℕ)
  no_item = None

  abbrev some_item : A × List ℕ → Option (A × List ℕ)
  some_item x = Some x

  test_first : (b : Bool) (x : A × List ℕ) (f : A × List ℕ → Option (List A × List ℕ)) → cond b (f x) no_items ≡ (cond b (some_item x) no_item >>= f)
  test_first true x f = refl
  test_first false x f = refl

  at_front : (before : List A) (count : ℕ) (o : Option (A × List ℕ))
      → tested before (o >>= λ x. items_next item count x.1 >>= λ y. Some (x.0 ∷ y.0, y.1)) ≡ ((o >>= λ a. cond (passes before a.0) (Some a) None) >>= λ x. tested (x.0 ∷ before) (items_next item count x.1) >>= λ y. Some (x.0 ∷ y.0, y.1))
  at_front before count None = refl
  at_front before count (Some x) = behind before x.0 (items_next item count x.1) ∙ test_first (passes before x.0) x (λ x'. tested (x'.0 ∷ before) (items_next item count x'.1) >>= λ y. Some (x'.0 ∷ y.0, y.1))

  tested_items : (before : List A) (count : ℕ) (bytes : List ℕ) → tested before (items_next item count bytes) ≡ found (items_scan scan before count bytes)
  unfolding items_next items_scan
  tested_items before zero bytes = refl
  tested_items before (suc count) bytes =
      at_front before count (item bytes)
      ∙ then_same (checked (passes before) item bytes) (scan before bytes) _ _ (same before bytes)
      (λ first rest. mapped_same (λ others. first ∷ others) (tested (first ∷ before) (items_next item count rest)) (items_scan scan (first ∷ before) count rest) (tested_items (first ∷ before) count rest))

  pub tested-same : Same (checked (all_after passes []) (list_next item)) (λ bytes. and_then (number_scan w32 bytes) (λ count rest. items_scan scan [] count rest))
  unfolding list_next
  tested-same bytes =
      bind_bind (u32_next bytes) (λ count. items_next item count.0 count.1) (λ xs. cond (all_after passes [] xs.0) (Some xs) None)
      ∙ then_same (u32_next bytes) (number_scan w32 bytes) _ _ (u32-same bytes) (λ count rest. tested_items [] count rest)

-- ---- the forms of fields

pub checked_alike : {A : Type 0} (p q : A → Bool) (next : Reader A) → ((a : A) → p a ≡ q a) → (bytes : List ℕ) → checked p next bytes ≡ checked q next bytes
checked_alike p q next alike bytes = bind_same (next bytes) (λ a. cond (p a.0) (Some a) None) (λ a. cond (q a.0) (Some a) None) (λ a. ap (λ (b : Bool). cond b (Some a) None) (alike a.0))

pub checked_twice : {A : Type 0} (p q : A → Bool) (next : Reader A) (bytes : List ℕ) → checked q (checked p next) bytes ≡ checked (λ a. p a && q a) next bytes
checked_twice {A} p q next bytes = bind_bind (next bytes) first second ∙ bind_same (next bytes) (λ a. first a >>= second) both (λ a. cases (p a.0) a (q a.0) refl)
  where
    first : A × List ℕ → Option (A × List ℕ)
    first a = cond (p a.0) (Some a) None

    second : A × List ℕ → Option (A × List ℕ)
    second a = cond (q a.0) (Some a) None

    both : A × List ℕ → Option (A × List ℕ)
    both a = cond (p a.0 && q a.0) (Some a) None

    cases : (b : Bool) (a : A × List ℕ) (c : Bool) → q a.0 ≡ c → (cond b (Some a) None >>= second) ≡ cond (b && q a.0) (Some a) None
    cases true a c e = refl
    cases false a c e = refl

abbrev pub text_fault : Bool → Bool → Option BadKind
text_fault is passes = cond (is && passes) None (Some kinds.Field)

text_tests : (is passes : Bool) → (is && passes) ≡ is_whole (text_fault is passes)
text_tests true true = refl
text_tests true false = refl
text_tests false passes = refl

pub text_that-same : (passes : List ℕ → Bool) → Same (checked passes text_next) (run_scan (λ t. text_fault (is_text t) (passes t)))
unfolding text_next
text_that-same passes bytes =
    checked_twice is_text passes bytes_next bytes ∙ checked_alike (λ t. is_text t && passes t) (λ t. is_whole (text_fault (is_text t) (passes t))) bytes_next (λ t. text_tests (is_text t) (passes t)) bytes
    ∙ run-same (λ t. text_fault (is_text t) (passes t)) bytes

always : {A : Type 0} (next : Reader A) (bytes : List ℕ) → next bytes ≡ checked (λ a. true) next bytes
always next bytes = cases (next bytes)
  where
    cases : {B : Type 0} (o : Option B) → o ≡ (o >>= λ a. Some a)
    cases None = refl
    cases (Some x) = refl

pub text-same : Same text_next (scanned text)
text-same bytes = always text_next bytes ∙ text_that-same (λ t. true) bytes

pub bytes-same : Same bytes_next (scanned any_bytes)
bytes-same bytes = always bytes_next bytes ∙ run-same (λ t. None) bytes

pattern_tests : (is passes pattern : Bool) → (is && (passes && pattern)) ≡ is_whole (cond (is && passes) (cond pattern None (Some kinds.Pattern)) (Some kinds.Field))
pattern_tests true true true = refl
pattern_tests true true false = refl
pattern_tests true false pattern = refl
pattern_tests false passes pattern = refl

abbrev pattern_fault : (List ℕ → Bool) → List ℕ → Option BadKind
pattern_fault passes t = cond (is_text t && passes t) (cond (is_pattern t) None (Some kinds.Pattern)) (Some kinds.Field)

pattern_that-same : (passes : List ℕ → Bool) → Same (checked (λ t. passes t && is_pattern t) text_next) (run_scan (pattern_fault passes))
unfolding text_next
pattern_that-same passes bytes =
    checked_twice is_text (λ t. passes t && is_pattern t) bytes_next bytes
    ∙ checked_alike (λ t. is_text t && (passes t && is_pattern t)) (λ t. is_whole (pattern_fault passes t)) bytes_next (λ t. pattern_tests (is_text t) (passes t) (is_pattern t)) bytes
    ∙ run-same (pattern_fault passes) bytes

-- ---- texts of which none stands twice

same_bool : (a b : Bool) → (a ≡ true → b ≡ true) → (b ≡ true → a ≡ true) → a ≡ b
same_bool true b f g = sym (f refl)
same_bool false true f g = g refl
same_bool false false f g = refl

bytes_eq-turned : (x y : List ℕ) → bytes_eq x y ≡ bytes_eq y x
bytes_eq-turned x y = same_bool (bytes_eq x y) (bytes_eq y x) (λ h. (bytes_eq-Decides y x).1 (sym ((bytes_eq-Decides x y).0 h))) (λ h. (bytes_eq-Decides x y).1 (sym ((bytes_eq-Decides y x).0 h)))

-- none of the texts is one of those before
abbrev none_in : List (List ℕ) → List (List ℕ) → Bool
none_in before [] = true
none_in before (x ∷ xs) = is_new before x && none_in before xs

new_tests : (e a b n : Bool) → (not (e || a) && (not b && n)) ≡ (not (e || b) && (not a && n))
new_tests true a b n = refl
new_tests false true true n = refl
new_tests false true false n = refl
new_tests false false true n = refl
new_tests false false false n = refl

none_in-more : (x : List ℕ) (before ys : List (List ℕ)) → none_in (x ∷ before) ys ≡ (not (list_any (bytes_eq x) ys) && none_in before ys)
none_in-more x before [] = refl
none_in-more x before (y ∷ ys) =
    ap (λ (t : Bool). not (bytes_eq y x || list_any (bytes_eq y) before) && t) (none_in-more x before ys)
    ∙ ap (λ (t : Bool). not (t || list_any (bytes_eq y) before) && (not (list_any (bytes_eq x) ys) && none_in before ys)) (bytes_eq-turned y x)
    ∙ new_tests (bytes_eq x y) (list_any (bytes_eq y) before) (list_any (bytes_eq x) ys) (none_in before ys)

regroup_tests : (p q n d : Bool) → (p && ((q && n) && d)) ≡ ((p && n) && (q && d))
regroup_tests true true n d = refl
regroup_tests true false true d = refl
regroup_tests true false false d = refl
regroup_tests false q n d = refl

all_new : (before xs : List (List ℕ)) → all_after is_new before xs ≡ (none_in before xs && are_distinct xs)
all_new before [] = refl
all_new before (x ∷ xs) =
    ap (λ (t : Bool). is_new before x && t) (all_new (x ∷ before) xs)
    ∙ ap (λ (t : Bool). is_new before x && (t && are_distinct xs)) (none_in-more x before xs)
    ∙ regroup_tests (is_new before x) (not (list_any (bytes_eq x) xs)) (none_in before xs) (are_distinct xs)

none_in-nil : (xs : List (List ℕ)) → none_in [] xs ≡ true
none_in-nil [] = refl
none_in-nil (x ∷ xs) = none_in-nil xs

distinct_is : (xs : List (List ℕ)) → all_after is_new [] xs ≡ are_distinct xs
distinct_is xs = all_new [] xs ∙ ap (λ (t : Bool). t && are_distinct xs) (none_in-nil xs)

pub distinct-same : Same distinct_next (scanned distinct_texts)
unfolding distinct_next
distinct-same bytes =
    checked_alike are_distinct (all_after is_new []) (list_next text_next) (λ xs. sym (distinct_is xs)) bytes
    ∙ tested-same text_next is_new (λ before. run_scan (λ t. text_fault (is_text t) (is_new before t))) (λ before b. text_that-same (is_new before) b) bytes

split_tests : (p q a r : Bool) → ((p && q) && (a && r)) ≡ ((p && a) && (q && r))
split_tests true true a r = refl
split_tests true false true r = refl
split_tests true false false r = refl
split_tests false q a r = refl

all_patterns : (before xs : List (List ℕ)) → all_after (λ b t. is_new b t && is_pattern t) before xs ≡ (all_after is_new before xs && list_all is_pattern xs)
all_patterns before [] = refl
all_patterns before (x ∷ xs) =
    ap (λ (t : Bool). (is_new before x && is_pattern x) && t) (all_patterns (x ∷ before) xs)
    ∙ split_tests (is_new before x) (is_pattern x) (all_after is_new (x ∷ before) xs) (list_all is_pattern xs)

pub patterns-same : Same patterns_next (scanned distinct_patterns)
unfolding patterns_next distinct_next
patterns-same bytes =
    checked_twice are_distinct (λ texts. list_all is_pattern texts) (list_next text_next) bytes
    ∙ checked_alike (λ xs. are_distinct xs && list_all is_pattern xs) (all_after (λ b t. is_new b t && is_pattern t) []) (list_next text_next)
    (λ xs. ap (λ (t : Bool). t && list_all is_pattern xs) (sym (distinct_is xs)) ∙ sym (all_patterns [] xs)) bytes
    ∙ tested-same text_next (λ b t. is_new b t && is_pattern t) (λ before. run_scan (pattern_fault (is_new before))) (λ before b. pattern_that-same (is_new before) b) bytes

-- ---- numbers and elements

pub bool_form-same : Same bool_next (scanned bool)
unfolding bool_next byte_scan
bool_form-same [] = refl
bool_form-same (zero ∷ rest) = refl
bool_form-same (suc zero ∷ rest) = refl
bool_form-same (suc (suc n) ∷ rest) = refl

below_named : (b : Bool) (n : ℕ) (rest : List ℕ) → cond b (Some (n, rest)) None ≡ found (named kinds.Field (cond b (Some n) None) n rest)
below_named true n rest = refl
below_named false n rest = refl

pub below-same : (bound : ℕ) → Same (below_next bound) (scanned (u8_below bound))
unfolding below_next u8_next byte_scan
below-same bound [] = refl
below-same bound (n ∷ rest) = below_named (ltb n bound) n rest

pub claim-same : Same claim_next (scanned claim)
unfolding claim_next
claim-same bytes = byte-same kinds.Field (slice_get (Always ∷ Never ∷ Varies ∷ [])) bytes

pub element-same : Same element_next (scanned element)
unfolding element_next
element-same = made-same element_of (text_next >> list_next u16_next) (λ bytes. and_then (scanned text bytes) (λ v rest. scans.mapped (λ w. (v, w)) (and_then (number_scan w32 rest) (λ count behind. items_scan (λ earlier. number_scan w16) [] count behind))))
    (pair-same text_next (scanned text) (list_next u16_next) (λ bytes. and_then (number_scan w32 bytes) (λ count rest. items_scan (λ earlier. number_scan w16) [] count rest)) text-same (list-same u16_next (number_scan w16) u16-same))
