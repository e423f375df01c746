-- A frame is sent, and the answer is read.
use Rattle.std.proofs.Common.{◌≡◌, ◌⊎◌, ℕ, suc, ◌-◌, List, [], ◌∷◌, ◌++◌, length, Option, None, Some, Result, Ok, Err, IfOk, IsOk, IfSome, IsSomeAnd, IsErrOf, inl, inr, refl, sym, ap, ◌∙◌, subst, length-append, arith}
use Rattle.apt_outside.specs.Child.{Says, Child, State, Changes, Sends, AllKept, StaysSent, written_by}
use Rattle.apt_outside.specs.declared.fault.Fault.{Fault}
use Rattle.apt_outside.specs.declared.fault.Fault.TheVariants.{Failed, Memory}
use Rattle.frame_breaches.specs.Breaches.{front_of, front_behind, frame_in}
use Rattle.child_session.specs.Talk.{Stream, Answer, rest_after, answer_to, HasAnswered, Exchanged, Exchanges, FindsFrame, TakesFrame, SendsOnce}
use Rattle.child_session.proofs.FramesInFront.{rest_after-append, rest_after-next, front_behind-is}
use Rattle.frame_breaches.proofs.FrontsOfBytes.{front_at}
use Rattle.child_session.proofs.Taking.{through, kept_stays}

-- where the frame before it is answered, what waits begins with the answer
next_answer : (stream : Stream) (sent : List (List ℕ)) (frame : List ℕ) (waiting : List ℕ) → rest_after (length sent) (stream (sent ++ frame ∷ [])) ≡ Some waiting → answer_to stream (sent ++ frame ∷ []) ≡ frame_in (front_of waiting)
next_answer stream sent frame waiting is =
    let place : length (sent ++ frame ∷ []) - 1 ≡ length sent = omega (arith, length-append sent (frame ∷ [])) in
    ap (λ n. frame_in (front_behind n (stream (sent ++ frame ∷ [])))) place ∙ ap frame_in (front_behind-is (length sent) (stream (sent ++ frame ∷ [])) waiting is)

record Sent (says : Says) (frame : List ℕ) (a b : Child) : Type 0 where
  name : b.name ≡ a.name
  command : b.command ≡ a.command
  sent : b.sent ≡ a.sent ++ frame ∷ []
  more : List ℕ
  wrote : written_by says b ≡ written_by says a ++ more
  waits : b.waiting ≡ a.waiting ++ more

stream_is : (says : Says) (a c : Child) (sent : List (List ℕ)) → c.name ≡ a.name → c.command ≡ a.command → c.sent ≡ sent → written_by says c ≡ says a.name a.command sent
stream_is says a c sent name command is = ap (λ n. says n c.command c.sent) name ∙ ap (λ w. says a.name w c.sent) command ∙ ap (says a.name a.command) is

-- what waits once the frame was sent stands behind the answers to the frames before it
behind : (says : Says) (frame : List ℕ) (a b : Child) → Sent says frame a b → HasAnswered says a → rest_after (length a.sent) (says a.name a.command (a.sent ++ frame ∷ [])) ≡ Some b.waiting
behind says frame a b s before =
    let wrote : says a.name a.command (a.sent ++ frame ∷ []) ≡ written_by says a ++ s.more = sym (stream_is says a b (a.sent ++ frame ∷ []) s.name s.command s.sent) ∙ s.wrote in
    ap (rest_after (length a.sent)) wrote ∙ rest_after-append (length a.sent) (written_by says a) a.waiting s.more before ∙ ap Some (sym s.waits)

found_is : (b c : Child) (found : Answer) → FindsFrame b.waiting found c.waiting → found ≡ frame_in (front_of b.waiting)
found_is b c (Err breach) finds = ap frame_in (sym finds)
found_is b c (Ok frame) finds = ap frame_in (sym finds)

-- an answer that was found is one frame more
has_answered : (says : Says) (frame : List ℕ) (a b c : Child) (found : Answer) → Sent says frame a b → c.name ≡ a.name → c.command ≡ a.command → c.sent ≡ a.sent ++ frame ∷ [] → FindsFrame b.waiting found c.waiting → HasAnswered says a → IsOk found → HasAnswered says c
has_answered says frame a b c (Err breach) s name command sent finds before some = absurd cc
has_answered says frame a b c (Ok f) s name command sent finds before some =
    let count : length c.sent ≡ suc (length a.sent) = omega (arith, ap length sent, length-append a.sent (frame ∷ [])) in
    ap (λ n. rest_after n (written_by says c)) count ∙ ap (rest_after (suc (length a.sent))) (stream_is says a c (a.sent ++ frame ∷ []) name command sent)
    ∙ rest_after-next (length a.sent) (says a.name a.command (a.sent ++ frame ∷ [])) b.waiting c.waiting f (behind says frame a b s before) (front_at b.waiting (f, c.waiting) finds)

-- what is known of three moments: before the frame, after it was sent, and after its answer was read
answered : (says : Says) (frame : List ℕ) (a b c : Child) (found : Answer) → Sent says frame a b → c.name ≡ b.name → c.command ≡ b.command → c.sent ≡ b.sent → FindsFrame b.waiting found c.waiting → HasAnswered says a → Exchanged says frame found a c
answered says frame a b c found s name command sent finds before =
    let name_is : c.name ≡ a.name = name ∙ s.name in
    let command_is : c.command ≡ a.command = command ∙ s.command in
    let sent_is : c.sent ≡ a.sent ++ frame ∷ [] = sent ∙ s.sent in
    record {
      name = name_is;
      command = command_is;
      sent = sent_is;
      answer_is = found_is b c found finds ∙ sym (next_answer (says a.name a.command) a.sent frame b.waiting (behind says frame a b s before)) ∙ ap (answer_to (says a.name a.command)) (sym sent_is);
      answered = has_answered says frame a b c found s name_is command_is sent_is finds before;
    }

sent_at : (says : Says) (frame : List ℕ) (x y : Option Child) (a b : Child) → x ≡ Some a → y ≡ Some b → b.name ≡ a.name → b.command ≡ a.command → IfSome x (λ before. IsSomeAnd y (λ after. after.sent ≡ before.sent ++ frame ∷ []))
    → IfSome x (λ before. IsSomeAnd y (λ after. (more : List ℕ) × (written_by says after ≡ written_by says before ++ more) × (after.waiting ≡ before.waiting ++ more))) → Sent says frame a b
sent_at says frame x y a b xa yb name command sent waits =
    let sent' : IfSome (Some a) (λ before. IsSomeAnd (Some b) (λ after. after.sent ≡ before.sent ++ frame ∷ [])) = subst (λ o. IfSome (Some a) (λ before. IsSomeAnd o (λ after. after.sent ≡ before.sent ++ frame ∷ []))) yb (subst (λ o. IfSome o (λ before. IsSomeAnd y (λ after. after.sent ≡ before.sent ++ frame ∷ []))) xa sent) in
    let P : Child → Child → Type 0 = λ before after. (more : List ℕ) × (written_by says after ≡ written_by says before ++ more) × (after.waiting ≡ before.waiting ++ more) in
    let waits' : P a b = subst (λ o. IsSomeAnd o (P a)) yb (subst (λ o. IfSome o (λ before. IsSomeAnd y (P before))) xa waits) in
    record { name = name; command = command; sent = sent'; more = waits'.0; wrote = waits'.1; waits = waits'.2 }

took_at : (x y : Option Child) (b c : Child) (found : Answer) → x ≡ Some b → y ≡ Some c → IfSome x (λ before. IsSomeAnd y (λ after. (after.sent ≡ before.sent) × FindsFrame before.waiting found after.waiting)) → (c.sent ≡ b.sent) × FindsFrame b.waiting found c.waiting
took_at x y b c found xb yc first =
    let P : Child → Child → Type 0 = λ before after. (after.sent ≡ before.sent) × FindsFrame before.waiting found after.waiting in
    subst (λ o. IsSomeAnd o (P b)) yc (subst (λ o. IfSome o (λ before. IsSomeAnd y (P before))) xb first)

module _ (child : ℕ) (k0 k1 k2 : State) (frame : List ℕ) (found : Answer) where
  at_child : Changes child k0.known k1.known → Sends child frame k0 k1 → Changes child k1.known k2.known → TakesFrame child k1 k2 found → (a : Child) → k0.known child ≡ Some a → HasAnswered k0.says a → IsSomeAnd (k2.known child) (Exchanged k0.says frame found a)
  at_child change sends change' takes a is before =
      let b = change.same_child a is in
      let c = change'.same_child b.0 b.1 in
      let s = sent_at k0.says frame (k0.known child) (k1.known child) a b.0 is b.1 b.2 b.3 sends.sent sends.waits in
      let t = took_at (k1.known child) (k2.known child) b.0 c.0 found b.1 c.1 takes.first in
      subst (λ o. IsSomeAnd o (Exchanged k0.says frame found a)) (sym c.1) (answered k0.says frame a b.0 c.0 found s c.2 c.3 t.0 t.1 before)

  given : (P : Child → Type 0) (o : Option Child) → ((a : Child) → o ≡ Some a → P a) → IfSome o P
  given P None h = tt
  given P (Some a) h = h a refl

  pub exchanges : Changes child k0.known k1.known → Sends child frame k0 k1 → Changes child k1.known k2.known → TakesFrame child k1 k2 found → Exchanges child frame k0 k2 found
  exchanges change sends change' takes = record { exchanged = given _ (k0.known child) (λ a is before. at_child change sends change' takes a is before) }

-- ---- what the child was sent

module _ (child : ℕ) (frame : List ℕ) (k0 k1 : State) where
  -- the frame was not sent
  pub sends_not : (fault : Fault) → (IsErrOf {T = Unit {0}} (Err fault) Memory → AllKept k0.known k1.known) → SendsOnce child frame k0 k1 (Err fault)
  sends_not Failed kept = tt
  sends_not Memory kept = some (k0.known child) (k1.known child) (kept_stays child k0 k1 (kept refl)).same_sent
    where
      some : (x y : Option Child) → IfSome x (λ before. IsSomeAnd y (λ after. after.sent ≡ before.sent)) → IfSome x (λ before. IsSomeAnd y (λ after. (after.sent ≡ before.sent) ⊎ (after.sent ≡ before.sent ++ frame ∷ [])))
      some None y h = tt
      some (Some a) None h = absurd h
      some (Some a) (Some b) h = inl h

  -- it was sent, and then the answer was read
  pub sends_so : (k2 : State) → Sends child frame k0 k1 → (result : Result Answer Fault) → (IsErrOf result Memory → StaysSent child k1 k2) → IfOk result (TakesFrame child k1 k2) → SendsOnce child frame k0 k2 result
  sends_so k2 sends (Ok answer) stays takes = through (k0.known child) (k1.known child) (k2.known child) _ _ _ (λ a b c f s. s.0 ∙ f) sends.sent takes.first
  sends_so k2 sends (Err Failed) stays takes = tt
  sends_so k2 sends (Err Memory) stays takes = through (k0.known child) (k1.known child) (k2.known child) (λ a b. b.sent ≡ a.sent ++ frame ∷ []) (λ b c. c.sent ≡ b.sent) (λ a c. (c.sent ≡ a.sent) ⊎ (c.sent ≡ a.sent ++ frame ∷ [])) (λ a b c f s. inr (s ∙ f)) sends.sent (stays refl).same_sent

-- a fact of what a call gave leads to another
pub ok_map : {T E : Type 0} (r : Result T E) (P Q : T → Type 0) → ((x : T) → P x → Q x) → IfOk r P → IfOk r Q
ok_map (Ok x) P Q h p = h x p
ok_map (Err e) P Q h p = tt
