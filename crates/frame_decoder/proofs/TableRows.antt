-- What is decoded is what the table says: row by row, and for a tag without a row.
use Rattle.std.proofs.Common.{◌≡◌, ◌≢◌, ◌⊎◌, inl, inr, ℕ, zero, suc, Bool, true, false, cond, eqb, ltb, leb, ◌&&◌, ◌<◌, ◌≤◌, subst, List, [], ◌∷◌, map, Option, Some, None, refl, sym, ap, ◌∙◌, arith}
use Rattle.std.specs.Prelude.{slice_get, is_some, find, option_map}
use Rattle.std.specs.Option.{option_or}
use Rattle.std.specs.List.{list_all}
use Rattle.std.proofs.lemmas.Bool.{le-ltb, ltb-true, leb-true, ne_eqb}
use Rattle.std.proofs.lemmas.Bool.Decides.{eqb_tells}
use Rattle.apt_base.specs.Fields.{◌>>=◌, u8_next, u16_next, u32_next, bool_next, text_next}
use Rattle.apt_base.specs.Forms.{Reader, ◌>>◌, checked, numbered, list_next}
use Rattle.apt_base.specs.Forms as readers
use Rattle.apt_base.specs.declared.element.ElementRef.{ElementRef}
use Rattle.type_mirror.specs.declared.mirror.Mirror.{Mirror}
use Rattle.frame_forms.specs.declared.bad_kind.BadKind.TheVariants as kinds
use Rattle.frame_forms.specs.Scans as scans
use Rattle.frame_forms.specs.Scans.{Scan, whole, begun, bad, byte_scan, named}
use Rattle.frame_forms.specs.Forms.{El, FrameKind, plain_frame, question_frame, u16, u32}
use Rattle.frame_forms.specs.TextForms.{text, list_of, ascending_texts, ascending_by_key}
use Rattle.frame_forms.specs.MirrorForms.{bool, u8_below, element, mirror, value, annotation}
use Rattle.frame_forms.specs.declared.question_row.QuestionRow.{QuestionRow}
use Rattle.frame_forms.specs.declared.question_row.QuestionRow.TheVariants as rows
use Rattle.frame_forms.specs.QuestionTable as question_table
use Rattle.frame_forms.specs.QuestionTable.{question_tag, question_at}
use Rattle.frame_forms.specs.FrameTable.{◌then◌, Row, table, row_with, row_of, question_code, question_form, kind_in, kind_at, form_of, frame_form, Fields}
use Rattle.frame_forms.specs.Frames.{scanned}
use Rattle.wire_frames.specs.declared.frame.Frame.{Frame}
use Rattle.wire_frames.specs.declared.question.Question.{Question}
use Rattle.frame_forms.proofs.Sound.{question_back}
use Rattle.wire_frames.specs.Frames.{shown}
use Rattle.wire_frames.specs.Readings.{found, below_next, element_next, hello_of, hello_next, done_of, done_next, source_of, class_of, file_next, resource_of, resource_next, message_of, message_next, fields_next}
use Rattle.wire_frames.proofs.Scanned.{Same, pair-same, made-same, list-same, text-same, u16-same, u32-same, bool_form-same, below-same, element-same}
use Rattle.wire_frames.proofs.ChildFrames.{hello_row, done_row, source_row, resource_row, class_row, message_row, elements-same}
use Rattle.frame_decoder.specs.PartReadings.{nothing_next, mirror_next, value_next}
use Rattle.frame_decoder.specs.QuestionReadings.{of_name, of_element, of_mirror, of_mirrors, values_of, overrides_of, member_of, declared_of, roots_of, whole_mirror_next, arguments_next, row_next, question_next}
use Rattle.frame_decoder.specs.HostReadings as host
use Rattle.frame_decoder.specs.HostReadings.{init_of, init_next, options_next, ascending_next, round_of, round_next, elements_of, info_of, info_next, texts_of, annotations_of, annotation_next, entry_next, mirrors_of, truth_of, all_created, created_of, noted_of, all_refused, refused_of, reply_next}
use Rattle.frame_decoder.specs.Decodings.{reply_of, ask_of, tagged_next}
use Rattle.frame_decoder.proofs.PartsScanned.{mirror-same, value-same, annotations-same}
use Rattle.frame_decoder.proofs.Ascending.{ascending-same, options-same}

-- ---- what is read, in the table

abbrev pub shown_of : Option (Frame × List ℕ) → Option (Fields × List ℕ)
shown_of read = read >>= λ x. Some (shown x.0, x.1)

-- behind this tag is read what the table has there
unfoldable pub RowIs : ℕ → Type 0
RowIs tag = (rest : List ℕ) → shown_of (tagged_next tag rest) ≡ found (scanned frame_form (tag ∷ rest))

-- a frame that is made of the fields
made_row : {A : Type 0} (make : A → Frame) (fields : A → Fields) → ((a : A) → shown (make a) ≡ fields a) → (next : Reader Frame) (scan : List ℕ → Scan A) → Same next (λ bytes. scans.mapped make (scan bytes)) → (rest : List ℕ)
    → shown_of (next rest) ≡ found (scans.mapped fields (scan rest))
made_row {A} make fields is next scan same rest = ap shown_of (same rest) ∙ cases (scan rest)
  where
    cases : (s : Scan A) → shown_of (found (scans.mapped make s)) ≡ found (scans.mapped fields s)
    cases (whole a behind) = ap (λ (f : Fields). Some (f, behind)) (is a)
    cases begun = refl
    cases (bad more kind) = refl

-- a reply or a question that is made of the fields
wrapped_row : {A B : Type 0} (wrap : B → Frame) (make : A → B) (fields : A → Fields) → ((a : A) → shown (wrap (make a)) ≡ fields a) → (next : Reader B) (scan : List ℕ → Scan A) → Same next (λ bytes. scans.mapped make (scan bytes)) → (rest : List ℕ)
    → shown_of (readers.mapped wrap next rest) ≡ found (scans.mapped fields (scan rest))
wrapped_row {A} {B} wrap make fields is next scan same rest = ap (λ (o : Option (B × List ℕ)). shown_of (o >>= λ x. Some (wrap x.0, x.1))) (same rest) ∙ cases (scan rest)
  where
    cases : (s : Scan A) → shown_of (found (scans.mapped make s) >>= λ x. Some (wrap x.0, x.1)) ≡ found (scans.mapped fields s)
    cases (whole a behind) = ap (λ (f : Fields). Some (f, behind)) (is a)
    cases begun = refl
    cases (bad more kind) = refl

-- the same, of a plain value
plain_row : {A B : Type 0} (wrap : B → Frame) (make : A → B) (fields : A → Fields) → ((a : A) → shown (wrap (make a)) ≡ fields a) → (next : Reader A) (scan : List ℕ → Scan A) → Same next scan → (rest : List ℕ)
    → shown_of (readers.mapped wrap (readers.mapped make next) rest) ≡ found (scans.mapped fields (scan rest))
plain_row wrap make fields is next scan same = wrapped_row wrap make fields is (readers.mapped make next) scan (made-same make next scan same)

pub two_mirrors-same : Same (whole_mirror_next >> whole_mirror_next) (scanned (mirror then mirror))
two_mirrors-same = pair-same (mirror_next 256) (scanned mirror) (mirror_next 256) (scanned mirror) (mirror-same 256) (mirror-same 256)

-- ---- the host's rows

pub init-same : Same init_next (λ bytes. scans.mapped init_of (scanned (text then u16 then ascending_by_key text) bytes))
unfolding init_next
init-same =
    made-same init_of (text_next >> (u16_next >> options_next)) (scanned (text then u16 then ascending_by_key text))
    (pair-same text_next (scanned text) (u16_next >> options_next) (scanned (u16 then ascending_by_key text)) text-same (pair-same u16_next (scanned u16) options_next (scanned (ascending_by_key text)) u16-same options-same))

ascending_twice-same : Same (ascending_next >> ascending_next) (scanned (ascending_texts then ascending_texts))
ascending_twice-same = pair-same ascending_next (scanned ascending_texts) ascending_next (scanned ascending_texts) ascending-same ascending-same

pub round-same : Same round_next (λ bytes. scans.mapped round_of (scanned (u32 then bool then bool then ascending_texts then ascending_texts) bytes))
unfolding round_next
round-same =
    made-same round_of (u32_next >> (bool_next >> (bool_next >> (ascending_next >> ascending_next)))) (scanned (u32 then bool then bool then ascending_texts then ascending_texts))
    (pair-same u32_next (scanned u32) (bool_next >> (bool_next >> (ascending_next >> ascending_next))) (scanned (bool then bool then ascending_texts then ascending_texts)) u32-same
    (pair-same bool_next (scanned bool) (bool_next >> (ascending_next >> ascending_next)) (scanned (bool then ascending_texts then ascending_texts)) bool_form-same
    (pair-same bool_next (scanned bool) (ascending_next >> ascending_next) (scanned (ascending_texts then ascending_texts)) bool_form-same ascending_twice-same)))

pub info-same : Same info_next (λ bytes. scans.mapped info_of (scanned (u8_below 11 then u16 then text then text then bool) bytes))
unfolding info_next
info-same =
    made-same info_of (below_next 11 >> (u16_next >> (text_next >> (text_next >> bool_next)))) (scanned (u8_below 11 then u16 then text then text then bool))
    (pair-same (below_next 11) (scanned (u8_below 11)) (u16_next >> (text_next >> (text_next >> bool_next))) (scanned (u16 then text then text then bool)) (below-same 11)
    (pair-same u16_next (scanned u16) (text_next >> (text_next >> bool_next)) (scanned (text then text then bool)) u16-same
    (pair-same text_next (scanned text) (text_next >> bool_next) (scanned (text then bool)) text-same (pair-same text_next (scanned text) bool_next (scanned bool) text-same bool_form-same))))

pub texts-same : Same (list_next text_next) (scanned (list_of text))
texts-same = list-same text_next (scanned text) text-same

pub annotation_list-same : Same (list_next (annotation_next 256)) (scanned (list_of annotation))
unfolding annotation_next
annotation_list-same = list-same (annotation_next 256) (scanned annotation) one
  where
    one : Same (annotation_next 256) (scanned annotation)
    one = annotations-same 256

pub values-same : Same (list_next (entry_next 256)) (scanned (list_of (text then value)))
unfolding entry_next
values-same = list-same (entry_next 256) (scanned (text then value)) one
  where
    one : Same (entry_next 256) (scanned (text then value))
    one = pair-same text_next (scanned text) (value_next 256) (scanned value) text-same (value-same 256)

pub mirrors-same : Same (list_next (mirror_next 256)) (scanned (list_of mirror))
mirrors-same = list-same (mirror_next 256) (scanned mirror) (mirror-same 256)

pub nothing-same : Same nothing_next (λ bytes. whole tt bytes)
nothing-same bytes = refl

created_row : (rest : List ℕ) → shown_of (readers.mapped reply_of (readers.mapped created_of (numbered (slice_get all_created))) rest) ≡ found (scans.mapped {B = Fields} (λ v. (plain_frame 23, v)) (scanned (u8_below 5) rest))
unfolding u8_next byte_scan
created_row [] = refl
created_row (zero ∷ rest) = refl
created_row (suc zero ∷ rest) = refl
created_row (suc (suc zero) ∷ rest) = refl
created_row (suc (suc (suc zero)) ∷ rest) = refl
created_row (suc (suc (suc (suc zero))) ∷ rest) = refl
created_row (suc (suc (suc (suc (suc n)))) ∷ rest) = rw (le-ltb (suc (suc (suc (suc (suc n))))) 5 (omega arith)) refl

refused_row : (rest : List ℕ) → shown_of (readers.mapped reply_of (readers.mapped refused_of (numbered (slice_get all_refused))) rest) ≡ found (scans.mapped {B = Fields} (λ v. (plain_frame 25, v)) (scanned (u8_below 4) rest))
unfolding u8_next byte_scan
refused_row [] = refl
refused_row (zero ∷ rest) = refl
refused_row (suc zero ∷ rest) = refl
refused_row (suc (suc zero) ∷ rest) = refl
refused_row (suc (suc (suc zero)) ∷ rest) = refl
refused_row (suc (suc (suc (suc n))) ∷ rest) = rw (le-ltb (suc (suc (suc (suc n)))) 4 (omega arith)) refl

pub three_elements-same : Same (element_next >> (element_next >> element_next)) (scanned (element then element then element))
three_elements-same = pair-same element_next (scanned element) (element_next >> element_next) (scanned (element then element)) element-same (pair-same element_next (scanned element) element_next (scanned element) element-same element-same)

-- ---- the questions, by the forms of their arguments

-- a question of the row, by its arguments
abbrev pub made_of : (row : QuestionRow) → El (question_code row) → Question
made_of (rows.Name of) = of_name of
made_of (rows.Element of) = of_element of
made_of (rows.Mirror of) = of_mirror of
made_of (rows.Mirrors of) = of_mirrors of
made_of rows.ValuesWithDefaults = values_of
made_of rows.Overrides = overrides_of
made_of rows.MemberType = member_of
made_of rows.DeclaredType = declared_of
made_of rows.Roots = roots_of

-- what is read of them is what the form of the row has
pub arguments-same : (row : QuestionRow) → Same (arguments_next row) (λ bytes. scans.mapped (made_of row) (scanned (question_form row) bytes))
arguments-same (rows.Name of) = made-same (of_name of) text_next (scanned text) text-same
arguments-same (rows.Element of) = made-same (of_element of) element_next (scanned element) element-same
arguments-same (rows.Mirror of) = made-same (of_mirror of) whole_mirror_next (scanned mirror) (mirror-same 256)
arguments-same (rows.Mirrors of) = made-same (of_mirrors of) (whole_mirror_next >> whole_mirror_next) (scanned (mirror then mirror)) two_mirrors-same
arguments-same rows.ValuesWithDefaults = made-same values_of (element_next >> u16_next) (scanned (element then u16)) (pair-same element_next (scanned element) u16_next (scanned u16) element-same u16-same)
arguments-same rows.Overrides = made-same overrides_of (element_next >> (element_next >> element_next)) (scanned (element then element then element)) three_elements-same
arguments-same rows.MemberType = made-same member_of (whole_mirror_next >> element_next) (scanned (mirror then element)) (pair-same whole_mirror_next (scanned mirror) element_next (scanned element) (mirror-same 256) element-same)
arguments-same rows.DeclaredType = made-same declared_of (element_next >> list_next whole_mirror_next) (scanned (element then list_of mirror)) (pair-same element_next (scanned element) (list_next whole_mirror_next) (scanned (list_of mirror)) element-same mirrors-same)
arguments-same rows.Roots = made-same roots_of nothing_next (λ bytes. whole tt bytes) nothing-same

-- and it shows the row with them
made-shown : (row : QuestionRow) (v : El (question_code row)) → shown (ask_of (made_of row v)) ≡ (question_frame row, v)
made-shown (rows.Name of) v = refl
made-shown (rows.Element of) v = refl
made-shown (rows.Mirror of) v = refl
made-shown (rows.Mirrors of) v = refl
made-shown rows.ValuesWithDefaults v = refl
made-shown rows.Overrides v = refl
made-shown rows.MemberType v = refl
made-shown rows.DeclaredType v = refl
made-shown rows.Roots v = refl

question_row : (row : QuestionRow) (rest : List ℕ) → shown_of (readers.mapped ask_of (arguments_next row) rest) ≡ found (scans.mapped {B = Fields} (λ v. (question_frame row, v)) (scanned (question_form row) rest))
question_row row rest = wrapped_row ask_of (made_of row) (λ v. (question_frame row, v)) (made-shown row) (arguments_next row) (scanned (question_form row)) (arguments-same row) rest

-- ---- the tags of questions

both_from : (a b : Bool) → (a && b) ≡ true → (a ≡ true) × (b ≡ true)
both_from true b e = (refl, e)
both_from false b e = absurd cc

-- what holds of each item holds of what is found
found_has : {A : Type 0} (test fact : A → Bool) (xs : List A) (x : A) → list_all fact xs ≡ true → find test xs ≡ Some x → fact x ≡ true
found_has test fact [] x all e = absurd cc
found_has {A} test fact (first ∷ others) x all e = let two = both_from (fact first) (list_all fact others) all in cases (test first) e two.0 (found_has test fact others x two.1)
  where
    cases : (b : Bool) → cond b (Some first) (find test others) ≡ Some x → fact first ≡ true → (find test others ≡ Some x → fact x ≡ true) → fact x ≡ true
    cases true found here later = let same : first ≡ x = cc in ap fact (sym same) ∙ here
    cases false found here later = later found

-- no question has a tag below 80
pub question_tags : (tag : ℕ) (row : QuestionRow) → question_at tag ≡ Some row → 80 ≤ tag
unfolding question_at
question_tags tag row e =
    let least : leb 80 (question_tag row) ≡ true = found_has (λ each. eqb (question_tag each) tag) (λ each. leb 80 (question_tag each)) question_table.all_rows row refl e in
    subst (λ (n : ℕ). 80 ≤ n) (question_back tag row e) (leb-true 80 (question_tag row) least)

-- ---- all rows

abbrev RowsAre : List ℕ → Type 0
RowsAre [] = Unit {0}
RowsAre (tag ∷ tags) = RowIs tag × RowsAre tags

abbrev all_tags : List ℕ
all_tags = map (λ of. of.tag) table

all_rows : RowsAre all_tags
unfolding RowIs byte_scan
all_rows = (
  made_row init_of (λ v. (plain_frame 1, v)) (λ v. refl) init_next (scanned (text then u16 then ascending_by_key text)) init-same,
  (
    made_row round_of (λ v. (plain_frame 2, v)) (λ v. refl) round_next (scanned (u32 then bool then bool then ascending_texts then ascending_texts)) round-same,
    (
      plain_row reply_of elements_of (λ v. (plain_frame 16, v)) (λ v. refl) (list_next element_next) (scanned (list_of element)) elements-same,
      (
        wrapped_row reply_of info_of (λ v. (plain_frame 17, v)) (λ v. refl) info_next (scanned (u8_below 11 then u16 then text then text then bool)) info-same,
        (
          plain_row reply_of texts_of (λ v. (plain_frame 18, v)) (λ v. refl) (list_next text_next) (scanned (list_of text)) texts-same,
          (
            plain_row reply_of annotations_of (λ v. (plain_frame 19, v)) (λ v. refl) (list_next (annotation_next 256)) (scanned (list_of annotation)) annotation_list-same,
            (
              plain_row reply_of host.values_of (λ v. (plain_frame 20, v)) (λ v. refl) (list_next (entry_next 256)) (scanned (list_of (text then value))) values-same,
              (
                plain_row reply_of mirrors_of (λ v. (plain_frame 21, v)) (λ v. refl) (list_next (mirror_next 256)) (scanned (list_of mirror)) mirrors-same,
                (
                  plain_row reply_of truth_of (λ v. (plain_frame 22, v)) (λ v. refl) bool_next (scanned bool) bool_form-same,
                  (
                    created_row,
                    (
                      plain_row reply_of noted_of (λ v. (plain_frame 24, v)) (λ v. refl) nothing_next (λ bytes. whole tt bytes) nothing-same,
                      (
                        refused_row,
                        (
                          made_row hello_of (λ v. (plain_frame 64, v)) (λ v. refl) hello_next (scanned (form_of (plain_frame 64))) hello_row,
                          (
                            made_row done_of (λ v. (plain_frame 65, v)) (λ v. refl) done_next (scanned (form_of (plain_frame 65))) done_row,
                            (
                              made_row source_of (λ v. (plain_frame 66, v)) (λ v. refl) (readers.mapped source_of file_next) (scanned (form_of (plain_frame 66))) source_row,
                              (
                                made_row resource_of (λ v. (plain_frame 67, v)) (λ v. refl) resource_next (scanned (form_of (plain_frame 67))) resource_row,
                                (
                                  made_row class_of (λ v. (plain_frame 68, v)) (λ v. refl) (readers.mapped class_of file_next) (scanned (form_of (plain_frame 68))) class_row,
                                  (
                                    made_row message_of (λ v. (plain_frame 69, v)) (λ v. refl) message_next (scanned (form_of (plain_frame 69))) message_row,
                                    tt,
                                  ),
                                ),
                              ),
                            ),
                          ),
                        ),
                      ),
                    ),
                  ),
                ),
              ),
            ),
          ),
        ),
      ),
    ),
  ),
)

abbrev IsAbsent : ℕ → List ℕ → Type 0
IsAbsent tag [] = Unit {0}
IsAbsent tag (first ∷ others) = (first ≢ tag) × IsAbsent tag others

none_with : (tag : ℕ) (rows : List Row) → IsAbsent tag (map (λ of. of.tag) rows) → row_with tag rows ≡ None
none_with tag [] absent = refl
none_with tag (first ∷ others) absent = rw (ne_eqb first.tag tag absent.0) (none_with tag others absent.1)

-- a tag from 80 on has no row
above : (tag : ℕ) (rows : List Row) → 80 ≤ tag → list_all (λ of. ltb of.tag 80) rows ≡ true → row_with tag rows ≡ None
above tag [] le all = refl
above tag (first ∷ others) le all =
    let two = both_from (ltb first.tag 80) (list_all (λ of. ltb of.tag 80) others) all in
    let below : first.tag < 80 = ltb-true first.tag 80 two.0 in
    rw (ne_eqb first.tag tag (λ e. omega (arith, below, le, e))) (above tag others le two.1)

-- ---- a question

module _ (tag : ℕ) (row : QuestionRow) (there : question_at tag ≡ Some row) where
  from_80 : 80 ≤ tag
  from_80 = question_tags tag row there

  -- what is read behind its tag are its arguments
  pub tagged_question : (bytes : List ℕ) → tagged_next tag bytes ≡ readers.mapped ask_of (arguments_next row) bytes
  unfolding question_next
  tagged_question bytes =
      rw (ne_eqb tag 1 (λ e. omega (arith, from_80, e)), ne_eqb tag 2 (λ e. omega (arith, from_80, e)), le-ltb tag 64 (omega (arith, from_80)), le-ltb tag 80 from_80, there) refl

  -- by the table it is the question of the row
  kind_is : kind_at tag ≡ Some (question_frame row)
  kind_is = ap (λ (of : Option Row). option_or (kind_in tag of) (option_map (λ each. question_frame each) (question_at tag))) (above tag table from_80 refl) ∙ ap (λ (of : Option QuestionRow). option_map (λ each. question_frame each) of) there

  is_question : RowIs tag
  unfolding RowIs byte_scan
  is_question rest =
      ap shown_of (tagged_question rest) ∙ question_row row rest
      ∙ sym (ap (λ (of : Option FrameKind). found (scans.and_then {B = Fields} (named kinds.Tag of tag rest) (λ x behind. scans.mapped {B = Fields} (λ v. (x, v)) (scanned (form_of x) behind)))) kind_is)

-- ---- a tag of no frame

abbrev has_row : ℕ → Bool
has_row tag = is_some (row_of tag)

module _ (tag : ℕ) (none : row_of tag ≡ None) (no_row : question_at tag ≡ None) where
  other : (n : ℕ) → has_row n ≡ true → eqb tag n ≡ false
  other n there = ne_eqb tag n (λ e. let wrong : false ≡ true = sym (ap is_some (sym (ap row_of e) ∙ none)) ∙ there in absurd cc)

  no_question : (rest : List ℕ) → question_next tag rest ≡ None
  unfolding question_next
  no_question rest = ap (λ (found : Option QuestionRow). row_next found rest) no_row

  no_reply : (rest : List ℕ) → reply_next tag rest ≡ None
  no_reply rest = rw (other 16 refl, other 17 refl, other 18 refl, other 19 refl, other 20 refl, other 21 refl, other 22 refl, other 23 refl, other 24 refl, other 25 refl) refl

  no_child_frame : (rest : List ℕ) → fields_next tag rest ≡ None
  no_child_frame rest = rw (other 64 refl, other 65 refl, other 66 refl, other 67 refl, other 68 refl, other 69 refl) refl

  no_frame : (rest : List ℕ) → tagged_next tag rest ≡ None
  no_frame rest = rw (other 1 refl, other 2 refl) (cases (ltb tag 64) (ltb tag 80))
    where
      cases : (reply child : Bool) → cond reply (readers.mapped reply_of (reply_next tag)) (cond child (fields_next tag) (readers.mapped ask_of (question_next tag))) rest ≡ None
      cases true child = rw (no_reply rest) refl
      cases false true = no_child_frame rest
      cases false false = rw (no_question rest) refl

  -- by the table the tag is bad
  bad_tag : (rest : List ℕ) → found (scanned frame_form (tag ∷ rest)) ≡ None
  unfolding byte_scan
  bad_tag rest = cases (kind_at tag) (ap (λ (of : Option Row). option_or (kind_in tag of) (option_map (λ row. question_frame row) (question_at tag))) none ∙ ap (λ (of : Option QuestionRow). option_map (λ row. question_frame row) of) no_row)
    where
      cases : (of : Option FrameKind) → of ≡ None → found (scans.and_then {B = Fields} (named kinds.Tag of tag rest) (λ x behind. scans.mapped {B = Fields} (λ v. (x, v)) (scanned (form_of x) behind))) ≡ None
      cases None e = refl
      cases (Some of) e = absurd cc

  is_none : RowIs tag
  unfolding RowIs
  is_none rest = ap shown_of (no_frame rest) ∙ sym (bad_tag rest)

row_at : (tag : ℕ) (tags : List ℕ) → RowsAre tags → (IsAbsent tag tags → RowIs tag) → RowIs tag
row_at tag [] rows absent = absent tt
row_at tag (first ∷ others) rows absent = cases (eqb_tells first tag) (λ differs. row_at tag others rows.1 (λ rest. absent (differs, rest)))
  where
    cases : ((eqb first tag ≡ true) × (first ≡ tag)) ⊎ ((eqb first tag ≡ false) × (first ≢ tag)) → (first ≢ tag → RowIs tag) → RowIs tag
    cases (inl same) later = subst RowIs same.1 rows.0
    cases (inr differs) later = later differs.1

by_question : (tag : ℕ) → row_of tag ≡ None → (asked : Option QuestionRow) → question_at tag ≡ asked → RowIs tag
by_question tag none None e = is_none tag none e
by_question tag none (Some row) e = is_question tag row e

pub row_is : (tag : ℕ) → RowIs tag
row_is tag = row_at tag all_tags all_rows (λ absent. by_question tag (none_with tag table absent) (question_at tag) refl)
