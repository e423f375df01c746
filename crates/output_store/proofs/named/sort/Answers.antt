use Rattle.std.proofs.Common.{rules}
use Rattle.std.proofs.lemmas.Fn.{always_returns_same}
use Rattle.output_store.specs.Output.{named_less}
use Rattle.output_store.proofs.NumberOrder.{by_path, sorted_by_path}
use Rattle.output_store.proofs.named.sort.Goals as goal

pub returns : goal.returns
returns c =
    let answers = always_returns_same _ _ _ (λ a r f k. search rules) in
    sorted_by_path _ _ (c.in_ok-sort_by.ensures.sorted named_less by_path answers) (c.sort_by.ensures.stable named_less by_path answers)
