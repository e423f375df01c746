use Rattle.std.proofs.Common.{sym, ◌∙◌}
use Rattle.output_store.proofs.RemovalLemmas.{kept_all, removed_all, first_of_all, first_of_one}
use Rattle.output_store.proofs.removing.remove_unkept.Goals as goal

pub returns-then-contains-clause-all : goal.returns-then-contains-clause-all
returns-then-contains-clause-all g c = λ told. kept_all c.args.kept.now (g.T.Tree.files c.args.tree.now) c.args.path.now (sym c.contains.ensures ∙ c.if-contains.true)

pub returns-then-contains-clause-first : goal.returns-then-contains-clause-first
returns-then-contains-clause-first g c = λ told. first_of_all _ _ _ (returns-then-contains-clause-all g c told)

pub returns-clause-all : goal.returns-clause-all
returns-clause-all g c = λ told. removed_all c.args.kept.now _ _ c.args.path.now (sym c.contains.ensures ∙ c.if-contains.false) ((c.in_ok-remove.ensures.change told).removed)

pub returns-clause-first : goal.returns-clause-first
returns-clause-first g c = λ told. first_of_all _ _ _ (returns-clause-all g c told)

pub returns-in_err-remove-clause-first : goal.returns-in_err-remove-clause-first
returns-in_err-remove-clause-first g c = λ told. first_of_one c.args.kept.now _ _ c.args.path.now (sym c.contains.ensures ∙ c.if-contains.false) ((c.in_err-remove.ensures.change told).refused)
