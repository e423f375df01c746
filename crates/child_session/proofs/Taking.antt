-- One call on a child after another.
use Rattle.std.proofs.Common.{◌≡◌, ℕ, ◌<◌, List, [], ◌++◌, length, Option, None, Some, Err, IfSome, IsSomeAnd, refl, sym, ap, ◌∙◌, subst, append_assoc, append-nil, length-append, arith}
use Rattle.apt_outside.specs.Child.{Child, Known, State, OfChild, Changes, Attends, AllKept, StaysSent}
use Rattle.frame_reader.specs.declared.found.Found.TheVariants as founds
use Rattle.frame_reader.specs.Stages.{found_in}
use Rattle.frame_breaches.specs.declared.breach.Breach.TheVariants.{Ended}
use Rattle.frame_breaches.specs.Breaches.{front_of}
use Rattle.child_session.specs.declared.receiving.Progress.{Progress}
use Rattle.child_session.specs.declared.receiving.Progress.TheVariants.{Begun, Over}
use Rattle.child_session.specs.Talk.{Answer, TakesBytes, TakesMore, FindsFrame, TakesFrame, LeadsTo, IsLonger, FindsBehind, Reaches}
use Rattle.frame_breaches.proofs.FrontsOfBytes.{front_begun}

pub changes_self : (child : ℕ) (known : Known) → Changes child known known
changes_self child known = record { others = λ k ne. refl; same_child = λ before is. (before, is, refl, refl) }

pub changes_then : (child : ℕ) (a b c : Known) → Changes child a b → Changes child b c → Changes child a c
changes_then child a b c first second = record {
  others = λ k ne. second.others k ne ∙ first.others k ne;
  same_child = λ before is.
      let mid = first.same_child before is in
      let last = second.same_child mid.0 mid.1 in
      (last.0, last.1, last.2 ∙ mid.2, last.3 ∙ mid.3);
}

pub attends_then : (child : ℕ) (a b c : State) → Attends child a b → Attends child b c → Attends child a c
attends_then child a b c first second = record {
  same_says = second.same_says ∙ first.same_says;
  same_tried = second.same_tried ∙ first.same_tried;
  change = changes_then child a.known b.known c.known first.change second.change;
}

pub some_of : (o : Option Child) (P : Child → Type 0) → IsSomeAnd o P → (b : Child) × (o ≡ Some b) × P b
some_of None P h = absurd h
some_of (Some b) P h = (b, refl, h)

-- a fact of one moment and a later one, through a moment between them
pub through : (x y z : Option Child) (P Q R : Child → Child → Type 0) → ((a b c : Child) → P a b → Q b c → R a c) → IfSome x (λ a. IsSomeAnd y (P a)) → IfSome y (λ b. IsSomeAnd z (Q b)) → IfSome x (λ a. IsSomeAnd z (R a))
through None y z P Q R step first second = tt
through (Some a) None z P Q R step first second = absurd first
through (Some a) (Some b) None P Q R step first second = absurd second
through (Some a) (Some b) (Some c) P Q R step first second = step a b c first second

pub takes_then : (child : ℕ) (a b c : State) (xs ys : List ℕ) → TakesBytes child a b xs → TakesBytes child b c ys → TakesBytes child a c (xs ++ ys)
takes_then child a b c xs ys first second = record {
  split = through (a.known child) (b.known child) (c.known child) _ _ _
      (λ p q r f s. (s.0 ∙ f.0, f.1 ∙ ap (λ rest. xs ++ rest) s.1 ∙ sym (append_assoc xs ys r.waiting))) first.split second.split;
}

takes_none : (o : Option Child) → IfSome o (λ before. IsSomeAnd o (λ after. (after.sent ≡ before.sent) × (before.waiting ≡ [] ++ after.waiting)))
takes_none None = tt
takes_none (Some c) = (refl, refl)

pub more_then : (child : ℕ) (a b c : State) (old new : List ℕ) → TakesBytes child a b old → TakesMore child b c old new → TakesBytes child a c new
more_then child a b c old new first second = subst (TakesBytes child a c) (sym second.added) (takes_then child a b c old second.more first second.taken)

pub takes_nothing : (child : ℕ) (a : State) (bytes : List ℕ) → bytes ≡ [] → TakesBytes child a a bytes
takes_nothing child a bytes none = subst (TakesBytes child a a) (sym none) (record { split = takes_none (a.known child) })

-- ---- what a child was sent

pub kept_stays : (child : ℕ) (a b : State) → AllKept a.known b.known → StaysSent child a b
kept_stays child a b kept = record { same_sent = subst (λ y. IfSome (a.known child) (λ before. IsSomeAnd y (λ after. after.sent ≡ before.sent))) (sym (kept child)) (same (a.known child)) }
  where
    same : (o : Option Child) → IfSome o (λ before. IsSomeAnd o (λ after. after.sent ≡ before.sent))
    same None = tt
    same (Some c) = refl

-- bytes were taken, and then nothing was sent
pub stays_then : (child : ℕ) (a b c : State) (bytes : List ℕ) → TakesBytes child a b bytes → StaysSent child b c → StaysSent child a c
stays_then child a b c bytes first second = record { same_sent = through (a.known child) (b.known child) (c.known child) _ _ _ (λ p q r f s. s ∙ f.0) first.split second.same_sent }

-- ---- a frame that comes in pieces

-- bytes of a frame were taken, and then it was found
pub found_then : (child : ℕ) (a b c : State) (bytes : List ℕ) (found : Answer) → TakesBytes child a b bytes → FindsBehind child bytes b c found → TakesFrame child a c found
found_then child a b c bytes found first second = record {
  first = through (a.known child) (b.known child) (c.known child)
      (λ p q. (q.sent ≡ p.sent) × (p.waiting ≡ bytes ++ q.waiting)) (λ q r. (r.sent ≡ q.sent) × FindsFrame (bytes ++ q.waiting) found r.waiting) (λ p r. (r.sent ≡ p.sent) × FindsFrame p.waiting found r.waiting)
      (λ p q r f s. (s.0 ∙ f.0, subst (λ (w : List ℕ). FindsFrame w found r.waiting) (sym f.1) s.1)) first.split second.behind;
}

both_of : (x y : Option Child) (P Q : Child → Child → Type 0) → IfSome x (λ a. IsSomeAnd y (P a)) → IfSome x (λ a. IsSomeAnd y (Q a)) → IfSome x (λ a. IsSomeAnd y (λ b. P a b × Q a b))
both_of None y P Q p q = tt
both_of (Some a) None P Q p q = absurd p
both_of (Some a) (Some b) P Q p q = (p, q)

module _ (child : ℕ) (a b : State) (bytes piece : List ℕ) (sent : OfChild child a b (λ before after. after.sent ≡ before.sent)) (taken : OfChild child a b (λ before after. before.waiting ≡ piece ++ after.waiting)) where
  split : OfChild child a b (λ before after. (after.sent ≡ before.sent) × (before.waiting ≡ piece ++ after.waiting))
  split = both_of (a.known child) (b.known child) (λ before after. after.sent ≡ before.sent) (λ before after. before.waiting ≡ piece ++ after.waiting) sent taken

  found_in_piece : (found : Answer) → ((rest : List ℕ) → FindsFrame ((bytes ++ piece) ++ rest) found rest) → (x y : Option Child) → IfSome x (λ before. IsSomeAnd y (λ after. (after.sent ≡ before.sent) × (before.waiting ≡ piece ++ after.waiting)))
      → IfSome x (λ before. IsSomeAnd y (λ after. (after.sent ≡ before.sent) × FindsFrame (bytes ++ before.waiting) found after.waiting))
  found_in_piece found finds None y h = tt
  found_in_piece found finds (Some p) None h = absurd h
  found_in_piece found finds (Some p) (Some q) h =
      let all : (bytes ++ piece) ++ q.waiting ≡ bytes ++ p.waiting = append_assoc bytes piece q.waiting ∙ ap (λ (w : List ℕ). bytes ++ w) (sym h.1) in
      (h.0, subst (λ (w : List ℕ). FindsFrame w found q.waiting) all (finds q.waiting))

  -- a piece was taken, and fed to the reader
  pub goes_behind : (progress : Progress) (new : List ℕ) → LeadsTo progress (bytes ++ piece) new → Reaches child bytes new a b progress
  goes_behind Begun new leads = record { more = piece; added = leads.1; taken = record { split = split } }
  goes_behind (Over found) new leads = record { behind = found_in_piece found leads (a.known child) (b.known child) split }

-- more bytes came
pub is_longer : (bytes piece new : List ℕ) (progress : Progress) → 0 < length piece → LeadsTo progress (bytes ++ piece) new → IsLonger bytes new progress
is_longer bytes piece new Begun some leads = (ap found_in leads.1 ∙ leads.0, omega (arith, some, ap length leads.1, length-append bytes piece))
is_longer bytes piece new (Over found) some leads = tt

-- no byte waits, and none will
pub ends_behind : (child : ℕ) (a b : State) (bytes : List ℕ) → found_in bytes ≡ founds.Begun → OfChild child a b (λ before after. after.sent ≡ before.sent) → IfSome (a.known child) (λ before. before.waiting ≡ []) → FindsBehind child bytes a b (Err (Ended (length bytes)))
ends_behind child a b bytes starts sent ended = record { behind = cases (a.known child) (b.known child) sent ended }
  where
    cases : (x y : Option Child) → IfSome x (λ before. IsSomeAnd y (λ after. after.sent ≡ before.sent)) → IfSome x (λ before. before.waiting ≡ []) → IfSome x (λ before. IsSomeAnd y (λ after. (after.sent ≡ before.sent) × (front_of (bytes ++ before.waiting) ≡ Err (Ended (length bytes)))))
    cases None y same none = tt
    cases (Some p) None same none = absurd same
    cases (Some p) (Some q) same none = (same, ap (λ (w : List ℕ). front_of (bytes ++ w)) none ∙ ap front_of (append-nil bytes) ∙ front_begun bytes starts)
