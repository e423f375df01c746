use Rattle.std.proofs.Common.{◌≡◌, ap, ap₂, codes, sym, ◌∙◌, subst, map, string_bytes, rules}
use Rattle.std.proofs.lemmas.Result.{err_from_is_err_and}
use Rattle.clap.specs.Words.{app_of, fault_of, found_of, first_of, is_simple, is_simple_and_free, matches_of, new_app, rule_of, with_rule, HasKind}
use Rattle.clap.specs.Simple.{app_of_fields, on_top}
use Rattle.vector_tables.specs.Words.{command, faults_of, table_option, table_word, without_help}
use Rattle.vector_tables.proofs.WordsLemmas.{command_is_simple, command_is_free, first_value-rows}
use Rattle.vector_tables.proofs.words.table_word.Goals as goal

pub returns-clause-word : goal.returns-clause-word
unfolding table_word
returns-clause-word c =
    let option_is : rule_of c.action-table.result ≡ table_option = search rules in
    let plain_is : app_of c.disable_help_flag.result ≡ on_top without_help (new_app (codes "apt_vectors")) = ap app_of_fields c.disable_help_flag.ensures ∙ ap (on_top without_help) c.new-2.ensures.app in
    let app_is : app_of c.in_ok-command.command ≡ command = c.in_ok-command.ensures.shape (search rules) ∙ ap₂ with_rule plain_is option_is in
    let rows = (c.in_ok-matches.ensures.matches (ap is_simple app_is ∙ command_is_simple)).0 in
    c.get_str.ensures ∙ first_value-rows (found_of c.in_ok-matches.matches) _ ∙ ap (first_of (codes "table")) (rows ∙ ap (λ a. matches_of a (map string_bytes c.args.words.now)) app_is)

pub returns-clause-kinds : goal.returns-clause-kinds
unfolding faults_of
returns-clause-kinds c =
    let option_is : rule_of c.action-table.result ≡ table_option = search rules in
    let plain_is : app_of c.disable_help_flag.result ≡ on_top without_help (new_app (codes "apt_vectors")) = ap app_of_fields c.disable_help_flag.ensures ∙ ap (on_top without_help) c.new-2.ensures.app in
    let app_is : app_of c.in_ok-command.command ≡ command = c.in_ok-command.ensures.shape (search rules) ∙ ap₂ with_rule plain_is option_is in
    ap (λ a. fault_of a (map string_bytes c.args.words.now)) (sym app_is) ∙ c.in_ok-matches.ensures.kinds (ap is_simple_and_free app_is ∙ command_is_free)

pub returns-in_err-matches-clause-kinds : goal.returns-in_err-matches-clause-kinds
unfolding faults_of
returns-in_err-matches-clause-kinds c =
    let option_is : rule_of c.action-table.result ≡ table_option = search rules in
    let plain_is : app_of c.disable_help_flag.result ≡ on_top without_help (new_app (codes "apt_vectors")) = ap app_of_fields c.disable_help_flag.ensures ∙ ap (on_top without_help) c.new-2.ensures.app in
    let app_is : app_of c.in_ok-command.command ≡ command = c.in_ok-command.ensures.shape (search rules) ∙ ap₂ with_rule plain_is option_is in
    let p = err_from_is_err_and c.from_residual-in_err-matches.result c.from_residual-in_err-matches.ensures.1 in
    rw (p.1, p.2) (subst (λ a. HasKind (fault_of a (map string_bytes c.args.words.now)) c.in_err-matches.field-0.0) app_is (c.in_err-matches.ensures.kinds (ap is_simple_and_free app_is ∙ command_is_free)))
