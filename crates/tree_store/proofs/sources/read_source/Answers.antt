use Rattle.std.proofs.Common.{◌≡◌, ◌+◌, ap, sym, subst, take, option_map, None, true, cond, Vec, ℕ, rules}
use Rattle.std.specs.declared.alloc.Global.{Global}
use Rattle.apt_outside.specs.Files.{file_at}
use Rattle.apt_base.specs.Limits.{max_file_bytes}
use Rattle.tree_store.specs.Sources.{is_java, source_of, source_at, GivesOne}
use Rattle.tree_store.proofs.SourceLimits.{gives-whole}
use Rattle.tree_store.proofs.sources.read_source.Goals as goal

pub returns-clause-source : goal.returns-clause-source
returns-clause-source g c = λ told.
    let path = c.args.path.now in
    let left = c.args.left in
    let files = g.T.Tree.files c.args.tree.now in
    let stands = file_at files path in
    let java : is_java path ≡ true = search rules in
    let here : source_at files path ≡ option_map (source_of path) stands = ap (λ b. cond b (option_map (source_of path) stands) None) java in
    let reads : option_map (λ (bytes : Vec ℕ Global). bytes.items) c.in_ok-found.found ≡ option_map (take (max_file_bytes + 1)) stands = c.in_ok-found.ensures.bytes told in
    subst (λ o. GivesOne c.args.folder left o c.within_limits.result) (sym here)
    (gives-whole c.args.folder left path stands c.within_limits.result c.within_limits.ensures.within (rw reads at c.within_limits.ensures.source))
