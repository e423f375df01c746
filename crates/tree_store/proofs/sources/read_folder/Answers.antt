use Rattle.std.proofs.Common.{◌≡◌, ◌≤◌, length, map, string_bytes, sym, ap, subst, ◌∙◌, arith}
use Rattle.std.specs.Prelude.{filter}
use Rattle.apt_outside.specs.Files.{paths_below}
use Rattle.tree_store.specs.Sources.{folder_path, most_files, is_java, is_java_text, sources_at, java_paths, limited, Gives}
use Rattle.tree_store.proofs.SourceLimits.{count-java, folder-many, folder-few}
use Rattle.tree_store.proofs.sources.read_folder.Goals as goal

pub returns-then-count-gt-MOST_FILES-clause-files : goal.returns-then-count-gt-MOST_FILES-clause-files
returns-then-count-gt-MOST_FILES-clause-files g c = λ told.
    let files = g.T.Tree.files c.args.tree.now in
    let listed : map string_bytes c.in_ok-paths.paths.items ≡ paths_below files (folder_path c.args.folder) = c.in_ok-paths.ensures.paths told ∙ ap (paths_below files) c.path.ensures in
    let counted : c.count_java-count.result ≡ length (java_paths c.args.folder files) =
    c.count_java-count.ensures ∙ ap (λ ps. length (filter is_java_text ps)) c.as_slice.ensures.value ∙ count-java c.in_ok-paths.paths.items ∙ ap (λ ps. length (filter is_java ps)) listed in
    folder-many c.args.folder files (omega (arith, c.if-count-gt-MOST_FILES.true, counted))

pub returns-clause-files : goal.returns-clause-files
returns-clause-files g c = λ told.
    let T = g.T.Tree in
    let files = T.files c.args.tree.now in
    let listed : map string_bytes c.in_ok-paths.paths.items ≡ paths_below files (folder_path c.args.folder) = c.in_ok-paths.ensures.paths told ∙ ap (paths_below files) c.path.ensures in
    let counted : c.count_java-count.result ≡ length (java_paths c.args.folder files) =
    c.count_java-count.ensures ∙ ap (λ ps. length (filter is_java_text ps)) c.as_slice.ensures.value ∙ count-java c.in_ok-paths.paths.items ∙ ap (λ ps. length (filter is_java ps)) listed in
    let few : length (java_paths c.args.folder files) ≤ most_files = omega (arith, c.if-count-gt-MOST_FILES.false, counted) in
    let given : Gives (limited c.args.folder (sources_at (T.files c.list.new.self) (map string_bytes c.as_slice-2.result.now))) c.read_each.result = c.read_each.ensures.sources told in
    subst (λ due. Gives due c.read_each.result)
    (ap (λ ps. limited c.args.folder (sources_at (T.files c.list.new.self) (map string_bytes ps))) c.as_slice-2.ensures.value ∙ ap (λ fs. limited c.args.folder (sources_at fs (map string_bytes c.in_ok-paths.paths.items))) (c.in_ok-paths.ensures.same told)
    ∙ ap (λ ps. limited c.args.folder (sources_at files ps)) listed ∙ sym (folder-few c.args.folder files few)) given
