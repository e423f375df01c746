-- What a call gives over children before it and after it, where they tell what they hold.
use Rattle.std.specs.Prelude.{ℕ, List, Result, IfOk}
use Rattle.apt_outside.specs.declared.children.Children as children
use Rattle.apt_outside.specs.Count.{Told}
use Rattle.apt_outside.specs.Child.{Try, State}
use Rattle.wire_frames.specs.declared.frame.Hello.{Hello}
use Rattle.element_table.specs.TypeTable.{TypeTable}
use Rattle.apt_filer.specs.Filing.{Filings}
use Rattle.child_session.specs.declared.fault.SessionFault.{SessionFault}
use Rattle.child_session.specs.Beginning as beginning
use Rattle.child_session.specs.Talk.{WasAnswered}
use Rattle.child_session.specs.Round as round
use Rattle.child_session.specs.declared.round.Showing.{Showing}
use Rattle.child_session.specs.declared.round.Answer.{Answer}

-- a relation of what they were, what they are, and the value that was given
abbrev pub Gives : {C T E : Type 0} → children.Ghosts C → C → C → Result T E → (State → State → T → Type 0) → Type 0
Gives c old new result P = Told c.tells (IfOk result (P (c.state old) (c.state new)))

-- a relation of what they were, what they are, and what was answered
abbrev pub Answers : {C T E : Type 0} → children.Ghosts C → C → C → Result T E → (State → State → Result T E → Type 0) → Type 0
Answers c old new result P = Told c.tells (P (c.state old) (c.state new) result)

-- a child was started and sent the first frame
abbrev pub Begins : {C : Type 0} → children.Ghosts C → Try → List ℕ → C → C → Result (ℕ × Hello) SessionFault → Type 0
Begins c call init old new result = Told c.tells (beginning.Begins call init (c.state old) (c.state new) result)

-- a round was shown to the child
abbrev pub Shows : {C : Type 0} → children.Ghosts C → ℕ → TypeTable → Showing → C → C → Filings → Filings → Result Answer SessionFault → Type 0
Shows c child table showing old new filings filings' result =
    Told c.tells (WasAnswered child (c.state old) (c.state new) (round.Shows (c.state old).says table showing filings filings' result))
