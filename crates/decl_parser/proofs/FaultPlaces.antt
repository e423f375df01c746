-- What a call that reads all symbols returns where reading has a fault.
use Rattle.std.proofs.Common.{ℕ, List, Result, Ok, Err}
use Rattle.decl_grammar.specs.declared.symbol.Symbol.{Symbol}
use Rattle.decl_grammar.specs.declared.fault.ReadFault.{ReadFault}
use Rattle.decl_grammar.specs.declared.fault.ReadFault.TheVariants as left
use Rattle.decl_grammar.specs.Form.{Form}
use Rattle.decl_grammar.specs.Reading.{Fails}
use Rattle.decl_grammar.specs.File.{IsPhrase, phrase_at, Missed, BadAt, DeepAt}
use Rattle.decl_grammar.proofs.Knot.{IsSound}
use Rattle.decl_grammar.proofs.Law.{fault-left, deep-left, fault-none, fault-place, deep-place}
use Rattle.decl_parser.specs.FaultPlaces.{IsAmong, placed_among}

pub fault-among : {A : Type 0} (f : Form A) → IsSound f → (room : ℕ) (ts : List Symbol) (e : ReadFault) → Fails e (phrase_at room f ts) → IsAmong ts e
fault-among f sound room ts (left.Bad n) is = fault-left f sound room ts n is
fault-among f sound room ts (left.Deep n) is = deep-left f sound room ts n is
fault-among f sound room ts left.Memory is = tt

pub fault-misses : {A X : Type 0} (f : Form A) → IsSound f → (view : X → A) (room : ℕ) (ts : List Symbol) (e : ReadFault) → Fails e (phrase_at room f ts)
    → (x : A) → IsPhrase f ts x → Missed view x (Err (placed_among ts e))
fault-misses f sound view room ts (left.Bad n) is x phrase = fault-none f sound room ts n is x phrase
fault-misses f sound view room ts (left.Deep n) is x phrase = tt
fault-misses f sound view room ts left.Memory is x phrase = tt

pub fault-bad : {A X : Type 0} (f : Form A) → IsSound f → (view : X → A) (room : ℕ) (ts : List Symbol) (e : ReadFault) → Fails e (phrase_at room f ts)
    → BadAt {X = X} f room ts (Err (placed_among ts e))
fault-bad f sound view room ts (left.Bad n) is = fault-place f sound room ts n is
fault-bad f sound view room ts (left.Deep n) is = tt
fault-bad f sound view room ts left.Memory is = tt

pub fault-deep : {A X : Type 0} (f : Form A) → IsSound f → (view : X → A) (room : ℕ) (ts : List Symbol) (e : ReadFault) → Fails e (phrase_at room f ts)
    → DeepAt {X = X} f room ts (Err (placed_among ts e))
fault-deep f sound view room ts (left.Bad n) is = tt
fault-deep f sound view room ts (left.Deep n) is = deep-place f sound room ts n is
fault-deep f sound view room ts left.Memory is = tt
