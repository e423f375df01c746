-- What calls of this crate answer: a value or a fault by the definitions, or out of memory.
use Rattle.std.specs.Prelude.{◌≡◌, Result, Ok, Err}
use Rattle.project_config.specs.declared.fault.ConfigFault.{ConfigFault}
use Rattle.project_config.specs.declared.fault.ConfigFault.TheVariants.{Json, Item, ServiceLine, KindLine, TooManyProcessors, UnknownProcessor, Memory}

-- a value, or the first fault
abbrev pub Reading : Type 0 → Type 0
Reading A = Result A ConfigFault

-- one reading and then another
infixl 10 ◌>>=◌
abbrev pub ◌>>=◌ : {A B : Type 0} → Reading A → (A → Reading B) → Reading B
(Ok x) >>= f = f x
(Err fault) >>= f = Err fault

-- a call answered this, or memory wanted
abbrev pub OrMemory : {A : Type 0} → Result A ConfigFault → Reading A → Type 0
OrMemory (Ok x) reading = reading ≡ Ok x
OrMemory (Err Json) reading = reading ≡ Err Json
OrMemory (Err (Item place)) reading = reading ≡ Err (Item place)
OrMemory (Err (ServiceLine line)) reading = reading ≡ Err (ServiceLine line)
OrMemory (Err (KindLine line)) reading = reading ≡ Err (KindLine line)
OrMemory (Err TooManyProcessors) reading = reading ≡ Err TooManyProcessors
OrMemory (Err (UnknownProcessor name)) reading = reading ≡ Err (UnknownProcessor name)
OrMemory (Err Memory) reading = Unit {0}

-- the same of a call that gives the fault alone
abbrev pub IsFault : ConfigFault → ConfigFault → Type 0
IsFault given fault = OrMemory {A = Unit {0}} (Err given) (Err fault)
