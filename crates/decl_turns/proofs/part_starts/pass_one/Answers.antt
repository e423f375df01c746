use Rattle.std.proofs.Common.{◌≡◌, ◌≤◌, arith, List, [], ◌∷◌, length, take, drop, sym, ap, ◌∙◌}
use Rattle.std.specs.Prelude.{◌-◌}
use Rattle.std.proofs.lemmas.List.{take_rest}
use Rattle.decl_grammar.specs.declared.symbol.Symbol.{Symbol}
use Rattle.decl_grammar.specs.Reading.{Outcome, done, one_at}
use Rattle.decl_grammar.specs.Form.{turned}
use Rattle.decl_grammar.specs.Types.{silently}
use Rattle.decl_grammar.proofs.Complete.{word-again}
use Rattle.decl_turns.specs.States.{sorts_at}
use Rattle.decl_turns.proofs.Chosen.{same-sort}
use Rattle.decl_turns.proofs.part_starts.pass_one.Goals as goal

pass-any : (ts : List Symbol) → 1 ≤ length ts → turned silently (one_at (sorts_at ts) ts) ≡ done tt (take (length ts - 1) (drop 1 ts))
pass-any [] h = absurd (omega arith)
pass-any (t ∷ ts) h = ap (λ (o : Outcome Symbol). turned silently o) (word-again (t.sort ∷ []) t ts (same-sort t.sort)) ∙ ap (λ (u : List Symbol). done tt u) (sym (take_rest (t ∷ ts) 1))

pub returns-in-len1-up : goal.returns-in-len1-up
returns-in-len1-up c = pass-any c.args.symbols.now (omega arith)
