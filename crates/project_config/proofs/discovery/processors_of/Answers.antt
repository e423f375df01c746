use Rattle.std.proofs.Common.{◌≡◌, ◌+◌, ◌∷◌, drop, Ok, ap, sym, ◌∙◌}
use Rattle.std.proofs.lemmas.List.{drop_more}
use Rattle.project_config.specs.Discovery.{row_named, kind_of, processor_by, processors_of}
use Rattle.project_config.proofs.AnswerLaws.{onto, onto-more}
use Rattle.project_config.proofs.discovery.processors_of.Goals as goal

pub loop-each-preserved : goal.loop-each-preserved
loop-each-preserved c =
    let i = c.loop-each.each-index in
    let rows = c.args.rows.now in
    let kinds = c.args.kinds.now in
    let names = c.args.names.now in
    let name = c.each-item.result in
    let left : drop i names ≡ name ∷ drop (i + 1) names = drop_more names i name c.loop-each-test.true ∙ ap (λ each. each ∷ drop (i + 1) names) (sym c.each-item.is) in
    let first : processor_by name (kind_of name kinds) (row_named name rows) ≡ Ok c.in_ok-processor.processor =
    ap (λ each. processor_by each (kind_of each kinds) (row_named each rows)) (sym c.as_str-name.ensures)
    ∙ ap (λ kind. processor_by c.as_str-name.result.now kind (row_named c.as_str-name.result.now rows)) (sym c.kind_of.ensures)
    ∙ c.in_ok-processor.ensures in
    ap (λ processors. onto processors (processors_of rows kinds (drop (i + 1) names))) c.in_ok-push.ensures.ok
    ∙ onto-more c.loop-each.processors (processor_by name (kind_of name kinds) (row_named name rows)) c.in_ok-processor.processor (processors_of rows kinds (drop (i + 1) names)) first
    ∙ ap (λ left. onto c.loop-each.processors (processors_of rows kinds left)) (sym left)
    ∙ c.loop-each.invariant
