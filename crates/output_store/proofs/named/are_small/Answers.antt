use Rattle.std.proofs.Common.{◌<◌, ◌^◌, subst, arith}
use Rattle.std.proofs.lemmas.List.{get_or_default}
use Rattle.output_store.proofs.named.are_small.Goals as goal

pub returns : goal.returns
returns c = λ k d inside. subst (λ n. n < 2 ^ 32) (get_or_default c.args.numbers.now k 0 d inside) (omega (arith, c.type_inv.numbers k))
