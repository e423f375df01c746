-- What comes of a child that is started and sent the first frame.
use Rattle.std.specs.Prelude.{◌≡◌, ◌⊎◌, ℕ, ◌+◌, ◌≤◌, List, [], ◌∷◌, ◌++◌, None, Result, Ok, Err, IsSomeAnd, Contains}
use Rattle.apt_outside.specs.Child.{Says, Try, Child, State, OthersKept, AllKept}
use Rattle.wire_frames.specs.declared.frame.Frame.TheVariants as frame
use Rattle.wire_frames.specs.declared.frame.Hello.{Hello}
use Rattle.frame_breaches.specs.declared.breach.Breach as breaches
use Rattle.child_session.specs.declared.fault.SessionFault.{SessionFault}
use Rattle.child_session.specs.declared.fault.SessionFault.TheVariants.{Failed, Breach, TooManyQuestions, ClaimBroken, Memory}
use Rattle.frame_breaches.specs.Breaches.{stray}
use Rattle.child_session.specs.Talk.{Answer, answer_to, HasAnswered}

-- the Hello that an answer is, or the breach that it is; no other frame may come first
abbrev pub hello_in : Answer → Result Hello breaches.Breach
hello_in (Ok (frame.Hello hello)) = Ok hello
hello_in (Ok other) = Err (stray other)
hello_in (Err breach) = Err breach

-- what a child with this name and command says first, once it was sent this frame
abbrev pub first_hello : Says → Try → List ℕ → Result Hello breaches.Breach
first_hello says call init = hello_in (answer_to (says call.0 call.1) (init ∷ []))

-- a child of this name and command
pub record IsOf (call : Try) (child : Child) : Type 0 where
  pub name : child.name ≡ call.0
  pub command : child.command ≡ call.1

-- it was sent this frame alone
pub record IsBegun (call : Try) (init : List ℕ) (child : Child) : Type 0 where
  pub is : IsOf call child
  pub sent : child.sent ≡ init ∷ []

-- and has answered it
pub record HasBegun (says : Says) (call : Try) (init : List ℕ) (child : Child) : Type 0 where
  pub begun : IsBegun call init child
  pub answered : HasAnswered says child

-- the child is new, with this fact of it, and nothing is told anew of any other
pub record TellsOf (child : ℕ) (P : Child → Type 0) (old new : State) : Type 0 where
  pub unknown : old.known child ≡ None
  pub others : OthersKept child old.known new.known
  pub fact : IsSomeAnd (new.known child) P

-- it said Hello
pub record SaysHello (call : Try) (init : List ℕ) (old new : State) (child : ℕ) (hello : Hello) : Type 0 where
  pub says : first_hello old.says call init ≡ Ok hello
  pub tells : TellsOf child (HasBegun new.says call init) old new
  pub tried : new.tried ≡ old.tried ++ call ∷ []

-- it said no Hello but left the protocol so, and was stopped
pub record SaysNone (call : Try) (init : List ℕ) (breach : breaches.Breach) (old new : State) : Type 0 where
  pub says : first_hello old.says call init ≡ Err breach
  pub child : ℕ
  pub tells : TellsOf child (IsBegun call init) old new
  pub tried : new.tried ≡ old.tried ++ call ∷ []

-- no start was tried
pub record Untried (old new : State) : Type 0 where
  pub known : AllKept old.known new.known
  pub starts : new.starts ≡ old.starts
  pub tried : new.tried ≡ old.tried

-- a start was tried, and gave no child
pub record Unstarted (call : Try) (old new : State) : Type 0 where
  pub known : AllKept old.known new.known
  pub starts : new.starts ≡ old.starts
  pub tried : new.tried ≡ old.tried ++ call ∷ []

-- a child was started, of which this is told, and stopped
pub record Stopped (call : Try) (P : Child → Type 0) (old new : State) : Type 0 where
  pub child : ℕ
  pub tells : TellsOf child P old new
  pub starts : new.starts ≡ old.starts + 1
  pub tried : new.tried ≡ old.tried ++ call ∷ []

-- it was sent nothing, or this frame alone
pub record IsUnheard (call : Try) (init : List ℕ) (child : Child) : Type 0 where
  pub is : IsOf call child
  pub sent : (child.sent ≡ []) ⊎ (child.sent ≡ init ∷ [])

-- After a fault of the children a start was tried, and the child, if there is one, was stopped; they do not say what it was sent. After
-- out of memory no start was tried, or the child was stopped before it was heard.
abbrev pub Begins : Try → List ℕ → State → State → Result (ℕ × Hello) SessionFault → Type 0
Begins call init old new (Ok begun) = SaysHello call init old new begun.0 begun.1
Begins call init old new (Err (Breach breach)) = SaysNone call init breach old new
Begins call init old new (Err Failed) = Unstarted call old new ⊎ Stopped call (IsOf call) old new
Begins call init old new (Err Memory) = Untried old new ⊎ Stopped call (IsUnheard call init) old new
Begins call init old new (Err (TooManyQuestions limit)) = ⊥
Begins call init old new (Err (ClaimBroken declared said)) = ⊥

-- ---- told or not

-- one child was started, or at most one where it was refused
abbrev pub StartsOne : {T : Type 0} → ℕ → ℕ → Result T SessionFault → Type 0
StartsOne old new (Ok begun) = new ≡ old + 1
StartsOne old new (Err (Breach breach)) = new ≡ old + 1
StartsOne old new (Err fault) = (old ≤ new) × (new ≤ old + 1)

-- it lives, and it is new among those that live; where it was refused none lives that did not before
abbrev pub Joins : List ℕ → List ℕ → Result (ℕ × Hello) SessionFault → Type 0
Joins old new (Ok begun) = (new ≡ old ++ begun.0 ∷ []) × (¬ Contains old begun.0)
Joins old new (Err fault) = new ≡ old

-- it is refused for these alone
abbrev pub RefusesHello : {T : Type 0} → Result T SessionFault → Type 0
RefusesHello (Ok begun) = Unit {0}
RefusesHello (Err (Breach breach)) = Unit {0}
RefusesHello (Err Failed) = Unit {0}
RefusesHello (Err Memory) = Unit {0}
RefusesHello (Err (TooManyQuestions limit)) = ⊥
RefusesHello (Err (ClaimBroken declared said)) = ⊥
