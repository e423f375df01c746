-- The place of a fault, of which reading says how many symbols are left from it on.
use Rattle.std.specs.Prelude.{ℕ, ◌-◌, ◌≤◌, List, length}
use Rattle.decl_grammar.specs.declared.symbol.Symbol.{Symbol}
use Rattle.decl_grammar.specs.declared.fault.ReadFault.{ReadFault}
use Rattle.decl_grammar.specs.declared.fault.ReadFault.TheVariants as left
use Rattle.decl_grammar.specs.declared.fault.ParseFault.{ParseFault}
use Rattle.decl_grammar.specs.declared.fault.ParseFault.TheVariants as faults

-- no more symbols are left from a fault on than there are
abbrev pub IsAmong : List Symbol → ReadFault → Type 0
IsAmong ts (left.Bad n) = n ≤ length ts
IsAmong ts (left.Deep n) = n ≤ length ts
IsAmong ts left.Memory = Unit {0}

-- a fault by its place among all symbols
abbrev pub placed_among : List Symbol → ReadFault → ParseFault
placed_among ts (left.Bad n) = faults.Bad (length ts - n)
placed_among ts (left.Deep n) = faults.Deep (length ts - n)
placed_among ts left.Memory = faults.Memory
