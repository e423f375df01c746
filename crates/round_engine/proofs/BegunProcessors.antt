-- What one processor says of itself: from what its session says to what the run has of it.
use Rattle.std.proofs.Common.{◌≡◌, ◌+◌, ℕ, List, Option, None, Some, Err, IsSomeAnd, inl, inr, refl, sym, subst}
use Rattle.apt_outside.specs.Child.{Try, Child, State}
use Rattle.wire_frames.specs.declared.frame.Hello.{Hello}
use Rattle.frame_breaches.specs.declared.breach.Breach.{Breach}
use Rattle.child_session.specs.declared.fault.SessionFault.{SessionFault}
use Rattle.child_session.specs.declared.fault.SessionFault.TheVariants as fault
use Rattle.child_session.specs.Beginning as session
use Rattle.child_session.specs.Beginning.{IsBegun, IsUnheard}
use Rattle.project_units.specs.Refusals as stop
use Rattle.project_units.specs.Refusals.{Stop, LeavesProtocol}
use Rattle.round_engine.specs.Faults.{of_session}
use Rattle.project_units.specs.Plans.{Plan, init_frame}
use Rattle.round_engine.specs.Shown.{SaysHello, SaysNone, StopsOne}

some_weaker : (P Q : Child → Type 0) (o : Option Child) → ((c : Child) → P c → Q c) → IsSomeAnd o P → IsSomeAnd o Q
some_weaker P Q None weaker fact = absurd fact
some_weaker P Q (Some c) weaker fact = weaker c fact

-- a child that was sent the first frame alone
pub begun_is : (call : Try) (init : List ℕ) (child : ℕ) (k0 k1 : State) → session.TellsOf child (IsBegun call init) k0 k1 → session.TellsOf child (IsUnheard call init) k0 k1
begun_is call init child k0 k1 tells = record {
  unknown = tells.unknown;
  others = tells.others;
  fact = some_weaker (IsBegun call init) (IsUnheard call init) (k1.known child) (λ c begun. record { is = begun.is; sent = inr begun.sent }) tells.fact;
}

-- nothing was called
pub untried : (plan : Plan) (p : Try) (k : State) → StopsOne plan p stop.Memory k k
untried plan p k = inl (record { known = λ child. refl; starts = refl; tried = refl })

module _ (plan : Plan) (p : Try) (k0 k1 : State) where
  abbrev init : List ℕ
  init = init_frame plan p.0

  -- it said Hello
  pub says_hello : (child : ℕ) (hello : Hello) → session.SaysHello p init k0 k1 child hello → SaysHello plan p child hello k0 k1
  says_hello child hello says = record { hello = says.says; tells = says.tells; tried = says.tried }

  -- it left the protocol
  pub says_none : (s : Stop) (breach : Breach) → session.SaysNone p init breach k0 k1 → k1.starts ≡ k0.starts + 1 → s ≡ stop.Refused (LeavesProtocol p.0 breach) → SaysNone plan p s k0 k1
  says_none s breach says starts is = record {
    breach = breach;
    hello = says.says;
    is = is;
    child = says.child;
    tells = says.tells;
    starts = starts;
    tried = says.tried;
  }

  -- the session did not begin
  pub begins_err : (f : SessionFault) (s : Stop) → session.Begins p init k0 k1 (Err f) → session.StartsOne {T = ℕ × Hello} k0.starts k1.starts (Err f) → s ≡ of_session p.0 f → StopsOne plan p s k0 k1
  begins_err fault.Failed s fails starts is = subst (λ t. StopsOne plan p t k0 k1) (sym is) (refl, fails)
  begins_err fault.Memory s fails starts is = subst (λ t. StopsOne plan p t k0 k1) (sym is) fails
  begins_err (fault.Breach breach) s says starts is = subst (λ t. StopsOne plan p t k0 k1) (sym is) (says_none (stop.Refused (LeavesProtocol p.0 breach)) breach says starts refl)
  begins_err (fault.TooManyQuestions most) s never starts is = absurd never
  begins_err (fault.ClaimBroken declared said) s never starts is = absurd never
