-- Texts that ascend, and options that ascend by their keys, are what the scan of the table finds whole.
use Rattle.std.proofs.Common.{◌≡◌, ℕ, Bool, true, false, cond, ◌&&◌, List, [], ◌∷◌, map, Option, Some, None, refl, sym, ap, ◌∙◌}
use Rattle.apt_base.specs.Fields.{◌>>=◌, is_text, text_next}
use Rattle.apt_base.specs.Forms.{Reader, ◌>>◌, checked, list_next}
use Rattle.frame_forms.specs.Scans.{Scan, run_scan}
use Rattle.frame_forms.specs.TextForms.{text, text_that, is_greater, ascending_texts, ascending_by_key}
use Rattle.frame_forms.specs.FrameTable.{◌then◌}
use Rattle.frame_forms.specs.Frames.{scanned}
use Rattle.wire_frames.proofs.Scanned.{Same, pair-same, text-same, all_after, checked_alike, text_fault, text_that-same, tested-same}
use Rattle.frame_decoder.specs.HostReadings.{is_above, ascend_by, texts_ascend, options_ascend, ascending_next, option_next, options_next}

-- the text of the first item, which is the last one before
abbrev last_of : {A : Type 0} → (A → List ℕ) → List A → Option (List ℕ)
last_of key [] = None
last_of key (item ∷ items) = Some (key item)

-- items that are tested by the one before them
ascending_is : {A : Type 0} (key : A → List ℕ) (passes : List A → A → Bool) → ((before : List A) (item : A) → passes before item ≡ is_above (last_of key before) (key item)) → (before items : List A) → all_after passes before items ≡ ascend_by key (last_of key before) items
ascending_is key passes is before [] = refl
ascending_is key passes is before (item ∷ others) =
    ap (λ (t : Bool). t && all_after passes (item ∷ before) others) (is before item)
    ∙ ap (λ (t : Bool). is_above (last_of key before) (key item) && t) (ascending_is key passes is (item ∷ before) others)

text_passes : (before : List (List ℕ)) (item : List ℕ) → is_greater before item ≡ is_above (last_of (λ t. t) before) item
text_passes [] item = refl
text_passes (last ∷ before) item = refl

pub ascending-same : Same ascending_next (scanned ascending_texts)
unfolding ascending_next
ascending-same bytes =
    checked_alike (texts_ascend None) (all_after is_greater []) (list_next text_next) (λ texts. sym (ascending_is (λ t. t) is_greater text_passes [] texts)) bytes
    ∙ tested-same text_next is_greater (λ before. run_scan (λ t. text_fault (is_text t) (is_greater before t))) (λ before b. text_that-same (is_greater before) b) bytes

-- ---- options

abbrev Entry : Type 0
Entry = List ℕ × List ℕ

abbrev key_passes : List Entry → Entry → Bool
key_passes before entry = is_greater (map (λ e. e.0) before) entry.0

option_passes : (before : List Entry) (entry : Entry) → key_passes before entry ≡ is_above (last_of (λ e. e.0) before) entry.0
option_passes [] entry = refl
option_passes (last ∷ before) entry = refl

-- a test of the first of two things
checked_first : {A B : Type 0} (p : A → Bool) (f : Reader A) (g : Reader B) (bytes : List ℕ) → checked {A = A × B} (λ v. p v.0) (f >> g) bytes ≡ (checked p f >> g) bytes
checked_first {A} {B} p f g bytes = cases (f bytes)
  where
    pass : Bool → (A × B) × List ℕ → Option ((A × B) × List ℕ)
    pass b v = cond b (Some v) None

    paired : A × List ℕ → Option (B × List ℕ) → Option ((A × B) × List ℕ)
    paired a o = ◌>>=◌ {B = (A × B) × List ℕ} o (λ v. Some ((a.0, v.0), v.1))

    first : Bool → A × List ℕ → Option (A × List ℕ)
    first b a = cond b (Some a) None

    tested : (a : A × List ℕ) (o : Option (B × List ℕ)) → (paired a o >>= λ v. pass (p v.0.0) v) ≡ (paired a o >>= pass (p a.0))
    tested a None = refl
    tested a (Some v) = refl

    second : (b : Bool) (a : A × List ℕ) (o : Option (B × List ℕ)) → (paired a o >>= pass b) ≡ (first b a >>= λ x. paired a o)
    second true a None = refl
    second true a (Some v) = refl
    second false a None = refl
    second false a (Some v) = refl

    moved : (b : Bool) (a : A × List ℕ) → (first b a >>= λ x. paired a (g a.1)) ≡ (first b a >>= λ x. paired x (g x.1))
    moved true a = refl
    moved false a = refl

    cases : (o : Option (A × List ℕ)) → ((o >>= λ a. paired a (g a.1)) >>= λ v. pass (p v.0.0) v) ≡ ((o >>= λ a. first (p a.0) a) >>= λ a. paired a (g a.1))
    cases None = refl
    cases (Some a) = tested a (g a.1) ∙ second (p a.0) a (g a.1) ∙ moved (p a.0) a

abbrev option_scan : List Entry → List ℕ → Scan Entry
option_scan before = scanned (text_that (is_greater (map (λ e. e.0) before)) then text)

option_same : (before : List Entry) → Same (checked (key_passes before) option_next) (option_scan before)
unfolding option_next
option_same before bytes =
    checked_first (is_greater (map (λ e. e.0) before)) text_next text_next bytes
    ∙ pair-same (checked (is_greater (map (λ e. e.0) before)) text_next) (scanned (text_that (is_greater (map (λ e. e.0) before)))) text_next (scanned text) (text_that-same (is_greater (map (λ e. e.0) before))) text-same bytes

pub options-same : Same options_next (scanned (ascending_by_key text))
unfolding options_next
options-same bytes =
    checked_alike (options_ascend None) (all_after key_passes []) (list_next option_next) (λ options. sym (ascending_is {A = Entry} (λ e. e.0) key_passes option_passes [] options)) bytes
    ∙ tested-same option_next key_passes option_scan option_same bytes
