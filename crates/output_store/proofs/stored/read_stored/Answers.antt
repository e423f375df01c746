use Rattle.std.proofs.Common.{◌≡◌, ◌∙◌, List, ℕ, Option, length, IfSome, sym, subst}
use Rattle.output_store.proofs.StoreReading.{bytes_as_read, of_length-sized}
use Rattle.output_store.proofs.stored.read_stored.Goals as goal

pub returns-clause-bytes : goal.returns-clause-bytes
returns-clause-bytes g c = λ told.
    c.of_length.ensures ∙ bytes_as_read (g.T.Tree.files c.args.tree.now) c.args.file.now _ c.in_ok-found.found (c.as_str.ensures.value ∙ c.in_ok-path.ensures) (c.in_ok-found.ensures.bytes told)

pub returns-clause-sized : goal.returns-clause-sized
returns-clause-sized g c = subst (λ (o : Option (List ℕ)). IfSome o (λ bytes. length bytes ≡ c.args.file.now.length)) (sym c.of_length.ensures) (of_length-sized c.args.file.now.length _)
