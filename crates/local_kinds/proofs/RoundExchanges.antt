-- The exchanges of a round: the question about the roots, and then those of each root.
use Rattle.std.proofs.Common.{◌≡◌, ◌⊎◌, ℕ, suc, ◌+◌, ◌*◌, ◌≤◌, Bool, true, false, List, [], ◌∷◌, ◌++◌, length, map, inl, inr, refl, ap, ◌∙◌, subst, if◌then◌else◌, arith}
use Rattle.std.specs.List.{flat_map}
use Rattle.apt_base.specs.Names.{NameSet}
use Rattle.apt_base.specs.declared.element.ElementRef.{ElementRef}
use Rattle.wire_frames.specs.declared.frame.Frame.TheVariants as frame
use Rattle.wire_frames.specs.declared.reply.Reply.{Reply}
use Rattle.wire_frames.specs.declared.reply.Reply.TheVariants as reply
use Rattle.wire_frames.specs.Limits.{is_too_large}
use Rattle.child_questions.specs.NamedElements.{question_elements}
use Rattle.child_questions.specs.WantedKinds.{is_admitted}
use Rattle.child_answers.specs.Replies.{reply_of, judged_answer, answer_to, roots_answer, root_element}
use Rattle.child_session.specs.Replies.{Shown, Exchange, reply_to}
use Rattle.local_procs.specs.declared.local.Local.{Local}
use Rattle.local_procs.specs.declared.local.Local.TheVariants.{Builder, Checker, Chain, Registry}
use Rattle.local_procs.specs.Plans.{done, nothing}
use Rattle.local_procs.specs.Contents.{elements_in, roots_frame}
use Rattle.local_procs.specs.Kinds.{IsShort}
use Rattle.local_procs.specs.Stages.{plan_for}
use Rattle.local_procs.specs.Says.{goes, begins, after_roots}
use Rattle.local_procs.proofs.KeptKinds.{all_keep_kinds}
use Rattle.local_kinds.specs.Rounds.{most_requests}
use Rattle.local_kinds.proofs.Exchanges.{exchange_by, reply_by_host, exchanges_by, exchanges_large, exchanges_small, exchanges_each, few_exchanges, few_in_all}

-- ---- the reply to Roots

taken_whole : (b : Bool) (elements : List ElementRef) → (elements_in (if b then nothing else reply.Elements elements) ≡ []) ⊎ (elements_in (if b then nothing else reply.Elements elements) ≡ elements)
taken_whole true elements = inl refl
taken_whole false elements = inr refl

roots_replied : (shown : Shown) → (elements_in (reply_by_host shown roots_frame) ≡ []) ⊎ (elements_in (reply_by_host shown roots_frame) ≡ map root_element shown.env.roots)
unfolding reply_to reply_of judged_answer question_elements is_admitted answer_to roots_answer
roots_replied shown = taken_whole (is_too_large (frame.Reply (reply.Elements (map root_element shown.env.roots)))) (map root_element shown.env.roots)

-- ---- the exchanges

-- those of each root
abbrev pub of_roots : Local → Shown → List (List ℕ) → List Exchange
of_roots local shown roots = flat_map (λ root. exchanges_by shown (plan_for local (root_element root))) roots

each_root : (local : Local) (shown : Shown) (roots : List (List ℕ)) → flat_map (λ at. exchanges_by shown (plan_for local at)) (map root_element roots) ≡ of_roots local shown roots
each_root local shown [] = refl
each_root local shown (root ∷ roots) = ap (λ rest. exchanges_by shown (plan_for local (root_element root)) ++ rest) (each_root local shown roots)

-- There are none, or the annotation is offered, and behind the question about the roots stand those of each root, or of none.
pub data GoesOver (local : Local) (shown : Shown) (there : Bool) (exchanges : List Exchange) : Type 0 where
  over_none : exchanges ≡ [] → GoesOver local shown there exchanges
  over_roots : (roots : List (List ℕ)) → there ≡ true → (roots ≡ []) ⊎ (roots ≡ shown.env.roots) → exchanges ≡ exchange_by shown roots_frame ∷ of_roots local shown roots → GoesOver local shown there exchanges

module _ (local : Local) (shown : Shown) where
  after_answer : (answer : Reply) (roots : List (List ℕ)) → elements_in answer ≡ map root_element roots → exchanges_by shown (after_roots local answer) ≡ of_roots local shown roots
  unfolding after_roots
  after_answer answer roots is =
      exchanges_each shown (plan_for local) (elements_in answer) ∙ ap (flat_map (λ at. exchanges_by shown (plan_for local at))) is ∙ each_root local shown roots

  small_over : is_too_large roots_frame ≡ false → (elements_in (reply_by_host shown roots_frame) ≡ []) ⊎ (elements_in (reply_by_host shown roots_frame) ≡ map root_element shown.env.roots)
      → GoesOver local shown true (exchanges_by shown (goes local true))
  small_over small (inl none) =
      over_roots [] refl (inl refl)
      (exchanges_small shown roots_frame (after_roots local) small ∙ ap (λ rest. exchange_by shown roots_frame ∷ rest) (after_answer (reply_by_host shown roots_frame) [] none))
  small_over small (inr all) =
      over_roots shown.env.roots refl (inr refl)
      (exchanges_small shown roots_frame (after_roots local) small ∙ ap (λ rest. exchange_by shown roots_frame ∷ rest) (after_answer (reply_by_host shown roots_frame) shown.env.roots all))

  offered_over : (b : Bool) → is_too_large roots_frame ≡ b → GoesOver local shown true (exchanges_by shown (goes local true))
  offered_over true large = over_none (exchanges_large shown roots_frame (after_roots local) large ∙ after_answer nothing [] refl)
  offered_over false small = small_over small (roots_replied shown)

  none_over : exchanges_by shown (goes local false) ≡ []
  unfolding exchanges_by
  none_over = refl

  pub goes_over : (there : Bool) → GoesOver local shown there (exchanges_by shown (goes local there))
  goes_over true = offered_over (is_too_large roots_frame) refl
  goes_over false = over_none none_over

-- ---- how many

ends_short : (n : ℕ) → IsShort n done
unfolding IsShort
ends_short n = tt

few_for_root : (local : Local) (shown : Shown) (root : List ℕ) → length (exchanges_by shown (plan_for local (root_element root))) ≤ 3005
few_for_root Builder shown root = few_exchanges shown (plan_for Builder (root_element root)) 3005 ((all_keep_kinds Builder).short (root_element root))
few_for_root Checker shown root = omega (arith, few_exchanges shown (plan_for Checker (root_element root)) 4 ((all_keep_kinds Checker).short (root_element root)))
few_for_root Registry shown root = omega (arith, few_exchanges shown (plan_for Registry (root_element root)) 0 (ends_short 0))
few_for_root Chain shown root = omega (arith, few_exchanges shown (plan_for Chain (root_element root)) 4 ((all_keep_kinds Chain).short (root_element root)))

few_for_roots : (local : Local) (shown : Shown) (roots : List (List ℕ)) → length (of_roots local shown roots) ≤ 3005 * length roots
few_for_roots local shown roots = few_in_all 3005 (λ root. exchanges_by shown (plan_for local (root_element root))) (few_for_root local shown) roots

enough : (all few : ℕ) → few ≤ 3005 * all → suc few ≤ 65536 + 4096 * all
enough all few h = let k : 3005 * all ≤ 4096 * all = omega arith in omega (arith, h, k)

within_limit : (local : Local) (shown : Shown) (there : Bool) (exchanges : List Exchange) → GoesOver local shown there exchanges → length exchanges ≤ most_requests shown
within_limit local shown there exchanges (over_none none) = omega (arith, ap length none)
within_limit local shown there exchanges (over_roots roots offered (inl none) is) =
    let few = few_for_roots local shown roots in
    let count = ap length none in
    let more : 3005 * length roots ≡ 0 = omega (arith, count) in
    omega (arith, few, more, ap length is)
within_limit local shown there exchanges (over_roots roots offered (inr all) is) =
    let few = subst (λ rs. length (of_roots local shown roots) ≤ 3005 * length rs) all (few_for_roots local shown roots) in
    omega (arith, enough (length shown.env.roots) (length (of_roots local shown roots)) few, ap length is)

few_where_goes : (local : Local) (shown : Shown) (there : Bool) → length (exchanges_by shown (goes local there)) ≤ most_requests shown
few_where_goes local shown there = within_limit local shown there (exchanges_by shown (goes local there)) (goes_over local shown there)

pub few_in_round : (local : Local) (shown : Shown) (there over : Bool) (kept : NameSet) → length (exchanges_by shown (begins local there over kept)) ≤ most_requests shown
few_in_round Builder shown there over kept = few_where_goes Builder shown there
few_in_round Checker shown there over kept = few_where_goes Checker shown there
few_in_round Chain shown there over kept = few_where_goes Chain shown there
few_in_round Registry shown there over kept =
    omega (arith, few_exchanges shown (begins Registry there over kept) 2 ((all_keep_kinds Registry).short there over kept))
