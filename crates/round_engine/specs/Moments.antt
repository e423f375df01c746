-- What children are before a call and after it.
use Rattle.std.specs.Prelude.{ℕ, Bool, List, Result}
use Rattle.apt_outside.specs.declared.children.Children as children
use Rattle.apt_outside.specs.Count.{Told}
use Rattle.apt_outside.specs.Child.{State}
use Rattle.wire_frames.specs.declared.frame.Hello.{Hello}
use Rattle.element_table.specs.TypeTable.{TypeTable}
use Rattle.unit_locations.specs.LocatedTable.{LocatedTable}
use Rattle.round_env.specs.declared.environment.RoundEnv.{RoundEnv}
use Rattle.round_engine.specs.declared.beginning.Discovered.{Discovered}
use Rattle.round_engine.specs.declared.progress.Progress.{Progress}
use Rattle.record_forms.specs.declared.record.Key.{Key}
use Rattle.record_forms.specs.declared.record.KeyProcessor.{KeyProcessor}
use Rattle.project_units.specs.declared.refusal.Refusal.{Refusal}
use Rattle.round_engine.specs.declared.rounds.Round.{Round}
use Rattle.round_engine.specs.declared.rounds.Rounds.{Rounds}
use Rattle.project_units.specs.Plans.{plan_of, try_of}
use Rattle.round_engine.specs.Shown as shown

-- a relation of what they were and what they are, where they tell what they hold
abbrev pub Over : {C : Type 0} → children.Ghosts C → C → C → (State → State → Type 0) → Type 0
Over c old new P = Told c.tells (P (c.state old) (c.state new))

-- one processor was to say Hello
abbrev pub BeginsOne : {C : Type 0} → children.Ghosts C → Key → KeyProcessor → C → C → Result (ℕ × Hello) Refusal → Type 0
BeginsOne c key processor old new result = Told c.tells (shown.BeginsOne (plan_of key) (try_of processor) (c.state old) (c.state new) result)

-- the processors of a key were to, one after another, as far as the group goes
abbrev pub BeginsEach : {C : Type 0} → children.Ghosts C → Key → List ℕ → C → C → Result (List Hello) Refusal → Type 0
BeginsEach c key group old new result = Told c.tells (shown.BeginsEach (plan_of key) group (c.state old) (c.state new) result)

-- all processors of a key were to
abbrev pub Begins : {C : Type 0} → children.Ghosts C → Key → C → C → Result Discovered Refusal → Type 0
Begins c key old new result = Told c.tells (shown.Begins (plan_of key) (c.state old) (c.state new) result)

-- a processor was shown a round
abbrev pub AsksOne : {C : Type 0} → children.Ghosts C → Discovered → TypeTable → RoundEnv → ℕ → Progress → Progress → C → C → Result Bool Refusal → Type 0
AsksOne c d table env number p p' old new result = Told c.tells (shown.AsksOne d table env number p p' (c.state old) (c.state new) result)

-- all were asked that a round asks
abbrev pub TakesTurns : {C : Type 0} → children.Ghosts C → Discovered → Round → Progress → Progress → C → C → Result Unit Refusal → Type 0
TakesTurns c d r p p' old new result = Told c.tells (shown.TakesTurns d r p p' (c.state old) (c.state new) result)

-- and so the round came to its end
abbrev pub Asks : {C : Type 0} → children.Ghosts C → Discovered → Round → Progress → Progress → C → C → Result Unit Refusal → Type 0
Asks c d r p p' old new result = Told c.tells (shown.Asks d r p p' (c.state old) (c.state new) result)

-- the last round, and all rounds
abbrev pub EndsLast : {C : Type 0} → children.Ghosts C → Discovered → Round → Progress → C → C → Result Rounds Refusal → Type 0
EndsLast c d r p old new result = Told c.tells (shown.EndsLast d r p (c.state old) (c.state new) result)

abbrev pub EndsAll : {C : Type 0} → children.Ghosts C → Discovered → LocatedTable → Progress → C → C → Result Rounds Refusal → Type 0
EndsAll c d table p old new result = Told c.tells (shown.EndsAll d table p (c.state old) (c.state new) result)
