use Rattle.std.proofs.Common.{◌≡◌, ◌+◌, ◌++◌, ◌∙◌, List, ℕ, Option, ap, sym, subst, take, drop, arith}
use Rattle.std.proofs.lemmas.List.{take_all}
use Rattle.output_store.specs.declared.named.NamedFile.{NamedFile}
use Rattle.std.specs.Option.{option_or}
use Rattle.apt_outside.specs.Files.{Files}
use Rattle.output_store.specs.Output.{bytes_of}
use Rattle.output_store.specs.Reading.{missing_of, missing_with, stored_of, stored_with, FitNamed}
use Rattle.output_store.proofs.StoreReading.{missing-more, stored-more, fit-more, fit_as}
use Rattle.output_store.proofs.stored.read_each.Goals as goal

pub loop-file-preserved : goal.loop-file-preserved
loop-file-preserved g c =
    let T = g.T.Tree in
    let tree = T.files c.args.tree.now in
    let items = c.args.named.now in
    let i = c.loop-file.file-index in
    let file = c.file-item.result in
    record {
      later = omega (arith, c.loop-file.invariant.later, c.read_stored.ensures.cause.later);
      same = λ told. c.read_stored.ensures.same told ∙ c.loop-file.invariant.same told;
      missing = λ told.
          let read : c.in_ok-found.found ≡ bytes_of tree file = c.in_ok-found.ensures.bytes told ∙ ap (λ (held : Files). bytes_of held file) (c.loop-file.invariant.same told) in
          ap (λ (m : Option (List ℕ)). option_or m (missing_of tree (drop (i + 1) items))) (c.in_ok-add_found.ensures.missing ∙ ap (missing_with c.loop-file.files.missing file) read)
          ∙ missing-more tree items i file c.loop-file-test.true c.file-item.is c.loop-file.files.missing ∙ c.loop-file.invariant.missing told;
      stored = λ told.
          let read : c.in_ok-found.found ≡ bytes_of tree file = c.in_ok-found.ensures.bytes told ∙ ap (λ (held : Files). bytes_of held file) (c.loop-file.invariant.same told) in
          ap (λ (s : List (ℕ × List ℕ)). s ++ stored_of tree (drop (i + 1) items)) (c.in_ok-add_found.ensures.stored ∙ ap (stored_with c.loop-file.files.stored file) read)
          ∙ stored-more tree items i file c.loop-file-test.true c.file-item.is c.loop-file.files.stored ∙ c.loop-file.invariant.stored told;
      fit = fit_as (take (i + 1) items) _ _ _ _ (sym c.in_ok-add_found.ensures.missing) (sym c.in_ok-add_found.ensures.stored)
          (fit-more items i file c.loop-file-test.true c.file-item.is c.loop-file.files.missing c.loop-file.files.stored c.in_ok-found.found c.in_ok-found.ensures.sized c.loop-file.invariant.fit);
    }

pub returns-clause-fit : goal.returns-clause-fit
returns-clause-fit g c = subst (λ (named : List NamedFile). FitNamed named c.loop-file.files.missing c.loop-file.files.stored) (take_all c.loop-file.file-index c.args.named.now c.loop-file-test.false) c.loop-file.invariant.fit
