use Rattle.std.proofs.Common.{◌≡◌, ◌≤◌, arith, true, List, [], ◌∷◌, length, sym}
use Rattle.decl_grammar.specs.declared.symbol.Symbol.{Symbol}
use Rattle.decl_grammar.specs.Reading.{starts}
use Rattle.decl_turns.specs.States.{sorts_at}
use Rattle.decl_turns.proofs.Chosen.{same-sort}
use Rattle.decl_turns.proofs.part_starts.is_any.Goals as goal

any-starts : (ts : List Symbol) → 1 ≤ length ts → starts (sorts_at ts) ts ≡ true
any-starts [] h = absurd (omega arith)
any-starts (t ∷ ts) h = same-sort t.sort

pub returns-in-len1-up : goal.returns-in-len1-up
returns-in-len1-up c = sym (any-starts c.args.symbols.now (omega arith))
