use Rattle.java_tokens.proofs.TableLemmas.{after_less}
use Rattle.java_tokens.proofs.automaton.next_state.Goals as goal

pub returns-clause-state : goal.returns-clause-state
returns-clause-state c = after_less c.args.state c.args.sort
