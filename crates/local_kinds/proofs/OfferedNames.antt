-- What a processor gives comes from roots that carry an offered name.
use Rattle.std.proofs.Common.{◌≡◌, ℕ, suc, Bool, true, false, not, ◌==◌, ◌||◌, List, [], ◌∷◌, Option, None, Some, IsSome, length, filter, inl, inr, refl, sym, ap, ◌∙◌, subst, if◌then◌else◌, arith}
use Rattle.std.specs.List.{list_any, AllByRecursion}
use Rattle.std.specs.Str.{bytes_eq}
use Rattle.std.proofs.lemmas.Bool.Decides.{nat_tests}
use Rattle.std.proofs.lemmas.Slice.Eq.{bytes_eq-Decides}
use Rattle.apt_base.specs.declared.element.ElementRef.{ElementRef}
use Rattle.type_mirror.specs.declared.value.Annotation.{Annotation}
use Rattle.decl_tree.specs.declared.compilation.UnitText.{UnitText}
use Rattle.element_table.specs.TypeTable.{TypeTable, unit_of}
use Rattle.frame_forms.specs.declared.question_row.ElementQuestion.TheVariants as asked
use Rattle.wire_frames.specs.declared.frame.Frame.TheVariants as frame
use Rattle.wire_frames.specs.declared.question.Question.TheVariants as question
use Rattle.wire_frames.specs.declared.reply.Reply.{Reply}
use Rattle.wire_frames.specs.declared.reply.Reply.TheVariants as reply
use Rattle.wire_frames.specs.Limits.{is_too_large}
use Rattle.type_queries.specs.Verdicts.{Given, judged}
use Rattle.annotation_values.specs.ElementValues.{mirrors, all_mirrors}
use Rattle.round_env.specs.Presence.{names_on, names_present_on}
use Rattle.child_questions.specs.NamedElements.{question_elements, are_all_there}
use Rattle.child_questions.specs.WantedKinds.{is_admitted}
use Rattle.child_answers.specs.Replies.{reply_of, reply_by, judged_answer, answer_to, element_answer, root_element}
use Rattle.child_session.specs.Replies.{Shown, Exchange}
use Rattle.local_procs.specs.declared.local.Local.{Local}
use Rattle.local_procs.specs.declared.local.Local.TheVariants.{Builder, Checker, Chain, Registry}
use Rattle.local_procs.specs.Plans.{nothing}
use Rattle.local_procs.specs.Contents.{is_annotation_of, carries, roots_frame}
use Rattle.local_procs.specs.Says.{annotation_of, is_offered}
use Rattle.local_procs.specs.Stages.{plan_for}
use Rattle.local_kinds.specs.Rounds.{IsRound}
use Rattle.local_kinds.specs.Kinds as kinds
use Rattle.local_kinds.specs.Kinds.{subjects}
use Rattle.local_kinds.proofs.Exchanges.{exchange_by, exchanges_by}
use Rattle.local_kinds.proofs.RoundExchanges.{of_roots, GoesOver, over_none, over_roots}
use Rattle.local_kinds.proofs.Origins.{IsAmong, AreFrom, from_both, are_among}
use Rattle.local_kinds.proofs.Carriers.{Carries, given_to_carriers}
use Rattle.local_kinds.proofs.CarriedNames.{all_named, written_named, present_there}

-- ---- what the reply says

module _ (name : List ℕ) where
  in_answer : (b : Bool) (answer : Reply) → carries name (if b then nothing else answer) ≡ true → carries name answer ≡ true
  unfolding carries
  in_answer true answer is = absurd cc
  in_answer false answer is = is

  in_given : (there kinds : Bool) (list : List Annotation) → carries name (reply_by (judged there kinds (Given (reply.Annotations list)))) ≡ true → list_any (is_annotation_of name) list ≡ true
  unfolding carries
  in_given false kinds list is = absurd cc
  in_given true false list is = absurd cc
  in_given true true list is = is

  module _ (shown : Shown) (root : ElementRef) where
    written_there : carries name (reply_of shown.table shown.env.roots (question.Element asked.Annotations root)) ≡ true → list_any (is_annotation_of name) (mirrors shown.table root) ≡ true
    unfolding reply_of judged_answer answer_to element_answer
    written_there is =
        let q = question.Element asked.Annotations root in
        let answer : Reply = reply_by (judged_answer shown.table shown.env.roots q) in
        in_given (are_all_there shown.table (question_elements q)) (is_admitted shown.table q) (mirrors shown.table root)
        (in_answer (is_too_large (frame.Reply answer)) answer is)

    all_there : carries name (reply_of shown.table shown.env.roots (question.Element asked.AllAnnotations root)) ≡ true → list_any (is_annotation_of name) (all_mirrors shown.table root) ≡ true
    unfolding reply_of judged_answer answer_to element_answer
    all_there is =
        let q = question.Element asked.AllAnnotations root in
        let answer : Reply = reply_by (judged_answer shown.table shown.env.roots q) in
        in_given (are_all_there shown.table (question_elements q)) (is_admitted shown.table q) (all_mirrors shown.table root)
        (in_answer (is_too_large (frame.Reply answer)) answer is)

named_there : (local : Local) (shown : Shown) (round : IsRound shown) (root : ElementRef) → Carries local shown root → list_any (bytes_eq (annotation_of local)) (names_on shown.table root) ≡ true
named_there Builder shown round root is = written_named shown.table round.is_table (annotation_of Builder) root (written_there (annotation_of Builder) shown root is)
named_there Checker shown round root is = all_named shown.table round.is_table (annotation_of Checker) root (all_there (annotation_of Checker) shown root is)
named_there Registry shown round root is = written_named shown.table round.is_table (annotation_of Registry) root (written_there (annotation_of Registry) shown root is)
named_there Chain shown round root is = written_named shown.table round.is_table (annotation_of Chain) root (written_there (annotation_of Chain) shown root is)

held : (table : TypeTable) (root : List ℕ) → IsSome (unit_of table root) → (u : UnitText) × (unit_of table root ≡ Some u)
held table root is = by (unit_of table root) refl is
  where
    by : (o : Option UnitText) → unit_of table root ≡ o → IsSome o → (u : UnitText) × (unit_of table root ≡ Some u)
    by (Some u) e is = (u, e)
    by None e is = absurd cc

-- ---- subjects

more_than_zero : (n : ℕ) → (suc n == 0) ≡ false
more_than_zero n = grind (arith, nat_tests)

-- some pass, so that not none is left
some_left : (test : List ℕ → Bool) (name : List ℕ) (names : List (List ℕ)) → list_any (bytes_eq name) names ≡ true → test name ≡ true → not (length (filter test names) == 0) ≡ true
some_left test name [] among is = absurd cc
some_left test name (other ∷ names) among is = by (test other) refl (bytes_eq name other) refl (λ later. some_left test name names later is)
  where
    by : (a : Bool) → test other ≡ a → (b : Bool) → bytes_eq name other ≡ b → (list_any (bytes_eq name) names ≡ true → not (length (filter test names) == 0) ≡ true)
        → not (length (filter test (other ∷ names)) == 0) ≡ true
    by true e b f later = rw e (ap not (more_than_zero (length (filter test names))))
    by false e true f later = absurd (let wrong : true ≡ false = sym is ∙ ap test ((bytes_eq-Decides name other).0 f) ∙ e in cc)
    by false e false f later = rw e (later (ap (λ b. b || list_any (bytes_eq name) names) (sym f) ∙ among))

-- one that passes stays among them
still_among : (test : List ℕ → Bool) (unit : List ℕ) (units : List (List ℕ)) → IsAmong units unit → test unit ≡ true → IsAmong (filter test units) unit
still_among test unit [] among is = among
still_among test unit (other ∷ units) among is = by (test other) refl (bytes_eq other unit) refl (λ later. still_among test unit units later is)
  where
    by : (a : Bool) → test other ≡ a → (b : Bool) → bytes_eq other unit ≡ b → (IsAmong units unit → IsAmong (filter test units) unit) → IsAmong (filter test (other ∷ units)) unit
    by true e true f later = rw e (ap (λ b. b || list_any (λ o. bytes_eq o unit) (filter test units)) f)
    by true e false f later = rw e (ap (λ b. b || list_any (λ o. bytes_eq o unit) (filter test units)) f ∙ later (ap (λ b. b || list_any (λ o. bytes_eq o unit) units) (sym f) ∙ among))
    by false e true f later = absurd (let wrong : true ≡ false = sym is ∙ ap test (sym ((bytes_eq-Decides other unit).0 f)) ∙ e in cc)
    by false e false f later = rw e (later (ap (λ b. b || list_any (λ o. bytes_eq o unit) units) (sym f) ∙ among))

module _ (local : Local) (shown : Shown) (round : IsRound shown) (offered : is_offered (annotation_of local) shown.env.offered ≡ true) where
  is_subject : (root : List ℕ) → IsAmong shown.env.roots root → IsSome (unit_of shown.table root) → Carries local shown (root_element root) → IsAmong (subjects shown) root
  is_subject root among there carried =
      let unit = held shown.table root there in
      let present = present_there shown.table (annotation_of local) root unit.0 unit.1 (named_there local shown round (root_element root) carried) in
      still_among (λ u. not (length (kinds.names_on shown u) == 0)) root shown.env.roots among
      (some_left (λ n. list_any (bytes_eq n) (names_present_on shown.table root)) (annotation_of local) shown.env.offered offered present)

  each_from : (roots : List (List ℕ)) → AllByRecursion (IsAmong shown.env.roots) roots → AllByRecursion (λ root. IsSome (unit_of shown.table root)) roots
      → AreFrom (subjects shown) (of_roots local shown roots)
  each_from [] among there = tt
  each_from (root ∷ roots) among there =
      from_both (subjects shown) (exchanges_by shown (plan_for local (root_element root))) (of_roots local shown roots)
      (given_to_carriers (subjects shown) shown (root_element root) local (is_subject root among.0 there.0))
      (each_from roots among.1 there.1)

pub offered_from : (local : Local) (shown : Shown) → IsRound shown → (there : Bool) → is_offered (annotation_of local) shown.env.offered ≡ there
    → (exchanges : List Exchange) → GoesOver local shown there exchanges → AreFrom (subjects shown) exchanges
offered_from local shown round there is exchanges (over_none none) = subst (AreFrom (subjects shown)) (sym none) tt
offered_from local shown round there is exchanges (over_roots roots offered (inl none) all) =
    subst (AreFrom (subjects shown)) (sym (all ∙ ap (λ rs. exchange_by shown roots_frame ∷ of_roots local shown rs) none)) (tt, tt)
offered_from local shown round there is exchanges (over_roots roots offered (inr same) all) =
    subst (AreFrom (subjects shown)) (sym (all ∙ ap (λ rs. exchange_by shown roots_frame ∷ of_roots local shown rs) same))
    (tt, each_from local shown round (is ∙ offered) shown.env.roots (are_among shown.env.roots) round.there)
