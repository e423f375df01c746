use Rattle.std.proofs.Common.{◌≡◌, ◌+◌, ◌∙◌, ap, subst, take, option_map, Vec, ℕ}
use Rattle.std.specs.declared.alloc.Global.{Global}
use Rattle.apt_outside.specs.Files.{file_at}
use Rattle.tree_store.specs.Config.{most_bytes, path_of, within, read_of, Answers}
use Rattle.tree_store.proofs.ConfigLemmas.{within-cut, answers_same}
use Rattle.tree_store.proofs.config.read_file.Goals as goal

pub returns-clause-answer : goal.returns-clause-answer
returns-clause-answer g c = λ told.
    let file = c.args.file in
    let files = g.T.Tree.files c.args.tree.now in
    let stands = file_at files (path_of file) in
    let reads : option_map (λ (bytes : Vec ℕ Global). bytes.items) c.in_ok-found.found ≡ option_map (take (most_bytes + 1)) stands = rw c.path.ensures at (c.in_ok-found.ensures.bytes told) in
    let read : c.within_limit.result ≡ read_of file files = c.within_limit.ensures.answer ∙ ap (within file) reads ∙ within-cut file stands in
    subst (λ reading. Answers c.within_limit.result reading) read (answers_same c.within_limit.result)
