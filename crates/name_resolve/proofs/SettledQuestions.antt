-- Questions of which the same is found with a number of levels and with the next one are settled.
use Rattle.std.proofs.Common.{◌≡◌, ℕ, suc, ◌-◌, ◌<◌, ◌≤◌, ltb, Bool, true, false, ◌⊎◌, inl, inr, Option, Some, None, List, length, slice_get, string_bytes, refl, sym, subst, ap, ◌∙◌, arith}
use Rattle.std.specs.Option.{option_or}
use Rattle.std.proofs.lemmas.Bool.{cases_lt, le-ltb, lt-ltb}
use Rattle.std.proofs.lemmas.Option.{slice_get_within}
use Rattle.element_table.specs.TypeTable.{IsTable}
use Rattle.name_resolve.specs.declared.finds.Finds.{Finds}
use Rattle.name_resolve.specs.declared.member_types.MemberTypes.{MemberTypes}
use Rattle.name_resolve.specs.declared.memory.Question.{Question}
use Rattle.name_resolve.specs.Finds as find
use Rattle.name_resolve.specs.Finds.{Find, declared_types}
use Rattle.name_resolve.specs.Meaning.{Members, Tops, tops_of, inherited, members_within}
use Rattle.name_resolve.specs.Placed.{IsPlaced, ArePlaced}
use Rattle.name_resolve.specs.Remembered.{IsWay, same_finds, AreSame, IsSteady, answer_of, Stands, is_settled, Agrees, IsRight, AreRight, AreSteady, tops_in}
use Rattle.name_resolve.specs.Shown.{find_of, finds_of}
use Rattle.name_resolve.proofs.KeptQuestions.{AreKept, follows-on}
use Rattle.name_resolve.proofs.PlacedLemmas.{members-placed}
use Rattle.name_resolve.proofs.RememberedLemmas.{same-finds-are, known-within, some_is}
use Rattle.name_resolve.proofs.Settled as law

-- ---- answers of a list

or_none : {A : Type 0} (o : Option A) → option_or o None ≡ o
or_none None = refl
or_none (Some x) = refl

-- ---- the two answers of a steady question

-- what is found with both numbers of levels
record Steady (q : Question) (fewer levels : ℕ) : Type 0 where
  before : Finds
  after : Finds
  is-before : answer_of q false fewer ≡ Some before
  is-after : answer_of q false levels ≡ Some after
  same : same_finds (finds_of before) (finds_of after) ≡ true

steady-are : (q : Question) (fewer levels : ℕ) → IsSteady q fewer levels → Steady q fewer levels
steady-are q fewer levels steady = by_answers (answer_of q false fewer) (answer_of q false levels) refl refl steady
  where
    by_answers : (x y : Option Finds) → answer_of q false fewer ≡ x → answer_of q false levels ≡ y → AreSame x y → Steady q fewer levels
    by_answers None y e f s = absurd s
    by_answers (Some a) None e f s = absurd s
    by_answers (Some a) (Some b) e f s = record { before = a; after = b; is-before = e; is-after = f; same = s }

module _ (memory : MemberTypes) (right : AreRight memory) (fewer levels : ℕ) (one_more : levels ≡ suc fewer) (steady : AreSteady memory fewer levels) where
  abbrev tops : Tops
  tops = tops_in memory

  -- what is known with the first number of levels
  record IsKnown (f : Find) (name : List ℕ) (finds : find.Finds) : Type 0 where
    place : ℕ
    question : Question
    answer : Finds
    stands : Stands memory place question
    is : answer_of question (is_settled memory place) fewer ≡ Some answer
    of : find_of question.of ≡ f
    called : string_bytes question.name ≡ name
    gives : finds ≡ finds_of answer

  known-found : law.FindsKnown tops IsKnown (members_within tops fewer)
  known-found f name finds k =
      k.gives ∙ known-within memory right fewer k.place k.question k.answer k.stands k.is ∙ (λ i. members_within tops fewer (k.of i) (k.called i))

  way-agrees : (members : Members) → IsWay members → law.FindsKnown tops IsKnown members → Agrees memory fewer members
  way-agrees members way known = record {
    way = way;
    known = λ place q answer stands e.
        known (find_of q.of) (string_bytes q.name) (finds_of answer)
        (record { place = place; question = q; answer = answer; stands = stands; is = e; of = refl; called = refl; gives = refl });
  }

  -- ---- settled or not

  settled_or : (place : ℕ) → (memory.settled.count ≤ place) ⊎ (is_settled memory place ≡ true)
  settled_or place = by_cases (cases_lt place memory.settled.count)
    where
      by_cases : (place < memory.settled.count) ⊎ (memory.settled.count ≤ place) → (memory.settled.count ≤ place) ⊎ (is_settled memory place ≡ true)
      by_cases (inl within) = inr (lt-ltb place memory.settled.count within)
      by_cases (inr behind) = inl behind

  -- what a settled question has with the first number of levels it has with all further ones
  goes-on : (place : ℕ) (q : Question) → Stands memory place q → is_settled memory place ≡ true → (n : ℕ) → fewer ≤ n
      → members_within tops fewer (find_of q.of) (string_bytes q.name) ≡ members_within tops n (find_of q.of) (string_bytes q.name)
  goes-on place q stands settled n more =
      let even = (right.each place q stands).even settled in
      let reached = steady.settled in
      even fewer reached ∙ sym (even n (omega (arith, reached, more)))

  -- ---- a question that is not settled

  module _ (place : ℕ) (q : Question) (stands : Stands memory place q) (behind : memory.settled.count ≤ place) where
    here : IsRight memory place q
    here = right.each place q stands

    two : Steady q fewer levels
    two = steady-are q fewer levels (steady.each place q behind stands)

    is-known : (n : ℕ) (answer : Finds) → answer_of q false n ≡ Some answer → answer_of q (is_settled memory place) n ≡ Some answer
    is-known n answer e = ap (λ b. answer_of q b n) (le-ltb place memory.settled.count behind) ∙ e

    placed : (n : ℕ) (answer : Finds) → answer_of q false n ≡ Some answer → ArePlaced memory.table.now (finds_of answer)
    placed n answer e =
        subst (ArePlaced memory.table.now) (sym (known-within memory right n place q answer stands (is-known n answer e)))
        (members-placed memory.table.now n (find_of q.of) here.placed (string_bytes q.name))

    both : finds_of two.before ≡ finds_of two.after
    both = same-finds-are memory.table.now (finds_of two.before) (finds_of two.after) (placed fewer two.before two.is-before) (placed levels two.after two.is-after) two.same

    after-get : slice_get q.answers.items levels ≡ Some two.after
    after-get = sym (or_none (slice_get q.answers.items levels)) ∙ two.is-after

    long-enough : suc fewer < length q.answers.items
    long-enough = let within = slice_get_within q.answers.items levels two.after after-get in let e = one_more in omega (arith, within, e)

    -- the second answer follows from what is known with the first number of levels
    by-step : law.FollowsFromKnown tops IsKnown (find_of q.of) (string_bytes q.name) (finds_of two.before)
    by-step members way known = both ∙ here.next fewer two.after next-is members (way-agrees members way known)
      where
        next-is : slice_get q.answers.items (suc fewer) ≡ Some two.after
        next-is = ap (slice_get q.answers.items) (sym one_more) ∙ after-get

  -- ---- all of them

  all-stay : law.Stays tops IsKnown fewer
  all-stay f name finds k = (
    (λ i. declared_types (sym k.of i) (sym k.called i)) ∙ (right.each k.place k.question k.stands).none,
    by_kind (settled_or k.place),
  )
    where
      before-is : (behind : memory.settled.count ≤ k.place) → finds ≡ finds_of (two k.place k.question k.stands behind).before
      before-is behind =
          let t = two k.place k.question k.stands behind in
          k.gives ∙ ap finds_of (some_is k.answer t.before (sym k.is ∙ is-known k.place k.question k.stands behind fewer t.before t.is-before))

      by_kind : (memory.settled.count ≤ k.place) ⊎ (is_settled memory k.place ≡ true) → law.FollowsFromKnown tops IsKnown f name finds ⊎ law.Lasts tops IsKnown fewer f name finds
      by_kind (inr settled) = inr (λ n more.
          k.gives ∙ known-within memory right fewer k.place k.question k.answer k.stands k.is ∙ goes-on k.place k.question k.stands settled n more ∙ (λ i. members_within tops n (k.of i) (k.called i)))
      by_kind (inl behind) = inl (λ members way known. before-is behind ∙ by-step k.place k.question k.stands behind members way known ∙ (λ i. inherited tops members (k.of i) (k.called i)))

  -- so the same is found with all further levels
  stays : (place : ℕ) (q : Question) (stands : Stands memory place q) (behind : memory.settled.count ≤ place) (n : ℕ) → fewer ≤ n
      → finds_of (two place q stands behind).before ≡ members_within tops n (find_of q.of) (string_bytes q.name)
  stays place q stands behind n more =
      let t = two place q stands behind in
      law.settled tops IsKnown fewer known-found all-stay n more (find_of q.of) (string_bytes q.name) (finds_of t.before)
      (record { place = place; question = q; answer = t.before; stands = stands; is = is-known place q stands behind fewer t.before t.is-before; of = refl; called = refl; gives = refl })

  -- ---- now all are settled

  module _ (new : MemberTypes) (table : new.table.now ≡ memory.table.now) (questions : new.questions.items ≡ memory.questions.items) (settled : new.settled.count ≡ length memory.questions.items) (reaches : new.settled.levels ≡ fewer) where
    at-most : (place : ℕ) (q : Question) → Stands memory place q → is_settled new place ≡ true
    at-most place q stands = ap (ltb place) settled ∙ lt-ltb place (length memory.questions.items) (slice_get_within memory.questions.items place q stands)

    settled-kept : AreKept memory new
    settled-kept place q stands = record {
      now = q;
      stands = ap (λ xs. slice_get xs place) questions ∙ stands;
      of = refl;
      name = refl;
      answers = λ n answer e. ap (λ b. answer_of q b n) (at-most place q stands) ∙ by_kind n answer (is_settled memory place) e;
    }
      where
        by_get : (n : ℕ) (answer : Finds) (o : Option Finds) → option_or o None ≡ Some answer → option_or o (slice_get q.answers.items (length q.answers.items - 1)) ≡ Some answer
        by_get n answer None e = absurd (cc)
        by_get n answer (Some a) e = e

        by_kind : (n : ℕ) (answer : Finds) (b : Bool) → answer_of q b n ≡ Some answer → answer_of q true n ≡ Some answer
        by_kind n answer true e = e
        by_kind n answer false e = by_get n answer (slice_get q.answers.items n) e

    -- the last answer of a question that was not settled is that with the first number of levels
    last-stays : (place : ℕ) (q : Question) (stands : Stands memory place q) (behind : memory.settled.count ≤ place) (answer : Finds)
        → slice_get q.answers.items (length q.answers.items - 1) ≡ Some answer → finds_of answer ≡ finds_of (two place q stands behind).before
    last-stays place q stands behind answer e =
        known-within memory right (length q.answers.items - 1) place q answer stands
        (is-known place q stands behind (length q.answers.items - 1) answer (or_none (slice_get q.answers.items (length q.answers.items - 1)) ∙ e))
        ∙ sym (stays place q stands behind (length q.answers.items - 1) (let long = long-enough place q stands behind in omega (arith, long)))

    -- the same is found with all levels from the first number on
    is-even : (place : ℕ) (q : Question) → Stands memory place q → (n : ℕ) → fewer ≤ n
        → members_within tops n (find_of q.of) (string_bytes q.name) ≡ members_within tops fewer (find_of q.of) (string_bytes q.name)
    is-even place q stands n more = by_kind (settled_or place)
      where
        by_kind : (memory.settled.count ≤ place) ⊎ (is_settled memory place ≡ true)
            → members_within tops n (find_of q.of) (string_bytes q.name) ≡ members_within tops fewer (find_of q.of) (string_bytes q.name)
        by_kind (inr was) = sym (goes-on place q stands was n more)
        by_kind (inl behind) = sym (stays place q stands behind n more) ∙ stays place q stands behind fewer (omega arith)

    is-right : (place : ℕ) (q : Question) → Stands memory place q → IsRight new place q
    is-right place q stands =
        let r = right.each place q stands in record {
          placed = subst (λ t. IsPlaced t (find_of q.of)) (sym table) r.placed;
          none = r.none;
          some = r.some;
          first = r.first;
          next = λ n answer e. follows-on memory new settled-kept table n q q (finds_of answer) refl refl (r.next n answer e);
          lasting = λ is n answer long e. by_kind n answer long e (settled_or place) ∙ sym (λ i. members_within (tops_of (table i)) n (find_of q.of) (string_bytes q.name));
          even = λ is n more.
              (λ i. members_within (tops_of (table i)) n (find_of q.of) (string_bytes q.name)) ∙ is-even place q stands n (subst (λ m. m ≤ n) reaches more)
              ∙ sym (λ i. members_within (tops_of (table i)) (reaches i) (find_of q.of) (string_bytes q.name));
        }
      where
        by_kind : (n : ℕ) (answer : Finds) → length q.answers.items ≤ n → slice_get q.answers.items (length q.answers.items - 1) ≡ Some answer
            → (memory.settled.count ≤ place) ⊎ (is_settled memory place ≡ true) → finds_of answer ≡ members_within tops n (find_of q.of) (string_bytes q.name)
        by_kind n answer long e (inr was) = (right.each place q stands).lasting was n answer long e
        by_kind n answer long e (inl behind) =
            last-stays place q stands behind answer e ∙ stays place q stands behind n (let enough = long-enough place q stands behind in omega (arith, enough, long))

    pub settled-right : AreRight new
    settled-right = record {
      is_table = subst (λ t. IsTable t) (sym table) right.is_table;
      count = subst (λ n. n ≤ length new.questions.items) (sym settled) (subst (λ xs. length memory.questions.items ≤ length xs) (sym questions) (omega arith));
      each = λ place q stands. is-right place q (sym (ap (λ xs. slice_get xs place) questions) ∙ stands);
    }
