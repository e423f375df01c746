-- What comes of a child that is started and sent the first frame, from its start to its answer, and to its stop where that is no Hello.
use Rattle.std.proofs.Common.{◌≡◌, ◌⊎◌, ◌+◌, ℕ, List, [], ◌∷◌, ◌++◌, Option, None, Some, Result, Ok, Err, IsOk, IfSome, IsSomeAnd, inl, inr, refl, sym, ap, ◌∙◌, subst}
use Rattle.apt_outside.specs.Child.{Try, Child, State, begun, Attends, StaysSent, OthersKept, AllKept, Tries}
use Rattle.apt_outside.specs.declared.fault.Fault.{Fault}
use Rattle.apt_outside.specs.declared.fault.Fault.TheVariants as outside
use Rattle.wire_frames.specs.declared.frame.Hello.{Hello}
use Rattle.child_session.specs.Faults.{fault_of}
use Rattle.frame_breaches.specs.declared.breach.Breach.{Breach}
use Rattle.child_session.specs.Talk.{Answer, rest_after, answer_to, HasAnswered, Exchanged, Exchanges, SendsOnce}
use Rattle.child_session.specs.Beginning.{hello_in, first_hello, IsOf, IsBegun, IsUnheard, HasBegun, SaysHello, SaysNone, Stopped, Begins}
use Rattle.child_session.proofs.Taking.{some_of}

is_frame : (answer : Answer) (hello : Hello) → hello_in answer ≡ Ok hello → IsOk answer
is_frame (Err breach) hello e = absurd cc
is_frame (Ok f) hello e = refl

-- ---- no child was started

pub begins_not : (call : Try) (init : List ℕ) (k0 k1 : State) (fault : Fault) → AllKept k0.known k1.known → k1.starts ≡ k0.starts → Tries call k0 k1 (Err fault) → Begins call init k0 k1 (Err (fault_of fault))
begins_not call init k0 k1 outside.Failed kept starts tries = inl (record { known = kept; starts = starts; tried = tries.failed refl })
begins_not call init k0 k1 outside.Memory kept starts tries = inl (record { known = kept; starts = starts; tried = tries.memory refl })

-- ---- a child was started

module _ (child : ℕ) (call : Try) (init : List ℕ) (k0 k1 k2 : State) (unknown : k0.known child ≡ None) (same : k1.says ≡ k0.says) (at1 : k1.known child ≡ Some (begun k0.says call)) (others : OthersKept child k0.known k1.known)
    (tried : k1.tried ≡ k0.tried ++ call ∷ []) (attends : Attends child k1 k2) where
  -- a fault came, and it was stopped
  module _ (k3 : State) (stops : Attends child k2 k3) (stays : StaysSent child k2 k3) (starts : k3.starts ≡ k0.starts + 1) where
    stopped : (P : Child → Type 0) → ((b c : Child) → k2.known child ≡ Some b → IsOf call c → c.sent ≡ b.sent → P c) → Stopped call P k0 k3
    stopped P fact =
        let b = attends.change.same_child (begun k0.says call) at1 in
        let c = stops.change.same_child b.0 b.1 in
        let sent : c.0.sent ≡ b.0.sent = subst (λ o. IsSomeAnd o (λ c. c.sent ≡ b.0.sent)) c.1 (subst (λ o. IfSome o (λ b. IsSomeAnd (k3.known child) (λ c. c.sent ≡ b.sent))) b.1 stays.same_sent) in
        record {
          child = child;
          tells = record {
            unknown = unknown;
            others = λ k ne. stops.change.others k ne ∙ attends.change.others k ne ∙ others k ne;
            fact = subst (λ o. IsSomeAnd o P) (sym c.1) (fact b.0 c.0 b.1 (record { name = c.2 ∙ b.2; command = c.3 ∙ b.3 }) sent);
          };
          starts = starts;
          tried = stops.same_tried ∙ attends.same_tried ∙ tried;
        }

    unheard : (b c : Child) → k2.known child ≡ Some b → IsOf call c → c.sent ≡ b.sent → SendsOnce child init k1 k2 (Err outside.Memory) → IsUnheard call init c
    unheard b c at2 is same sends =
        let sent : (b.sent ≡ []) ⊎ (b.sent ≡ init ∷ []) = subst (λ o. IsSomeAnd o (λ b. (b.sent ≡ []) ⊎ (b.sent ≡ init ∷ []))) at2
        (subst (λ o. IfSome o (λ a. IsSomeAnd (k2.known child) (λ b. (b.sent ≡ a.sent) ⊎ (b.sent ≡ a.sent ++ init ∷ [])))) at1 sends) in
        record { is = is; sent = either sent }
      where
        either : (b.sent ≡ []) ⊎ (b.sent ≡ init ∷ []) → (c.sent ≡ []) ⊎ (c.sent ≡ init ∷ [])
        either (inl none) = inl (same ∙ none)
        either (inr one) = inr (same ∙ one)

    pub begins_failed : (fault : Fault) → SendsOnce child init k1 k2 (Err fault) → Begins call init k0 k3 (Err (fault_of fault))
    begins_failed outside.Failed sends = inr (stopped (IsOf call) (λ b c at2 is same. is))
    begins_failed outside.Memory sends = inr (stopped (IsUnheard call init) (λ b c at2 is same. unheard b c at2 is same sends))

  module _ (answer : Answer) (exchanges : Exchanges child init k1 k2 answer) where
    has_answered : HasAnswered k0.says (begun k0.says call)
    unfolding rest_after
    has_answered = refl

    first : (b : Child) × (k2.known child ≡ Some b) × Exchanged k0.says init answer (begun k0.says call) b
    first = some_of (k2.known child) (Exchanged k0.says init answer (begun k0.says call))
        ((subst (λ o. IfSome o (λ a. HasAnswered k0.says a → IsSomeAnd (k2.known child) (Exchanged k0.says init answer a))) at1
        (subst (λ says. IfSome (k1.known child) (λ a. HasAnswered says a → IsSomeAnd (k2.known child) (Exchanged says init answer a))) same exchanges.exchanged)) has_answered)

    hello_is : hello_in answer ≡ first_hello k0.says call init
    hello_is = ap hello_in (first.2.answer_is ∙ ap (answer_to (k0.says call.0 call.1)) first.2.sent)

    -- it said Hello
    pub begins_so : (hello : Hello) → hello_in answer ≡ Ok hello → SaysHello call init k0 k2 child hello
    begins_so hello is = record {
      says = sym hello_is ∙ is;
      tells = record {
        unknown = unknown;
        others = λ k ne. attends.change.others k ne ∙ others k ne;
        fact = subst (λ o. IsSomeAnd o (HasBegun k2.says call init)) (sym first.1) (record {
          begun = record { is = record { name = first.2.name; command = first.2.command }; sent = first.2.sent };
          answered = subst (λ says. HasAnswered says first.0) (sym (attends.same_says ∙ same)) (first.2.answered (is_frame answer hello is));
        });
      };
      tried = attends.same_tried ∙ tried;
    }

    -- it said none, and was stopped
    pub begins_none : (k3 : State) (breach : Breach) → Attends child k2 k3 → StaysSent child k2 k3 → hello_in answer ≡ Err breach → SaysNone call init breach k0 k3
    begins_none k3 breach stops stays is =
        let last = stops.change.same_child first.0 first.1 in
        let sent : last.0.sent ≡ first.0.sent = subst (λ o. IsSomeAnd o (λ c. c.sent ≡ first.0.sent)) last.1 (subst (λ o. IfSome o (λ b. IsSomeAnd (k3.known child) (λ c. c.sent ≡ b.sent))) first.1 stays.same_sent) in
        record {
          says = sym hello_is ∙ is;
          child = child;
          tells = record {
            unknown = unknown;
            others = λ k ne. stops.change.others k ne ∙ attends.change.others k ne ∙ others k ne;
            fact = subst (λ o. IsSomeAnd o (IsBegun call init)) (sym last.1) (record { is = record { name = last.2 ∙ first.2.name; command = last.3 ∙ first.2.command }; sent = sent ∙ first.2.sent });
          };
          tried = stops.same_tried ∙ attends.same_tried ∙ tried;
        }
