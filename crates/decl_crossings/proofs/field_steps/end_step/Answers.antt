use Rattle.decl_crossings.proofs.field_steps.end_step.Goals as goal
use Rattle.std.proofs.Common.{◌∙◌, sym, arith}
use Rattle.decl_crossings.proofs.StepLaws.{end-short, dims-not-longer}
use Rattle.decl_crossings.proofs.StepAnswers.{some-found, none-found, no-comma, no-name, name-first, name-on, name-over}

pub returns-in_default : goal.returns-in_default
returns-in_default c = end-short c.args.left c.args.symbols.now (omega (arith, c.in_default.len_below))

pub returns-then-comma-ne-COMMA : goal.returns-then-comma-ne-COMMA
returns-then-comma-ne-COMMA c = no-comma c.args.left c.args.symbols.now c.comma-item.result c.name-item.result c.in-len2-up.len_at_least c.comma-item.is c.name-item.is c.if-comma-ne-COMMA.true

pub returns-then-not-is_name_sort : goal.returns-then-not-is_name_sort
returns-then-not-is_name_sort c =
    no-name c.args.left c.args.symbols.now c.comma-item.result c.name-item.result c.in-len2-up.len_at_least c.comma-item.is c.name-item.is (sym c.is_name_sort.ensures ∙ c.if-not-is_name_sort.true)

pub returns-then-left-eq0 : goal.returns-then-left-eq0
returns-then-left-eq0 c =
    name-first c.args.left c.args.symbols.now c.comma-item.result c.name-item.result c.in-len2-up.len_at_least c.comma-item.is c.name-item.is c.if-comma-ne-COMMA.false
    (sym c.is_name_sort.ensures ∙ c.if-not-is_name_sort.false) c.if-left-eq0.true

pub returns-in-Some : goal.returns-in-Some
returns-in-Some c =
    let read = some-found _ c.in_ok-behind.field-0 c.in-Some.behind c.in-Some.is c.in_ok-behind.ensures.passes in
    name-on c.args.left c.args.room c.args.symbols.now c.comma-item.result c.name-item.result c.in-Some.behind.now c.requires c.in-len2-up.len_at_least c.comma-item.is c.name-item.is c.if-comma-ne-COMMA.false
    (sym c.is_name_sort.ensures ∙ c.if-not-is_name_sort.false) c.if-left-eq0.false read (dims-not-longer c.args.room _ c.in-Some.behind.now read)

pub returns-in-None : goal.returns-in-None
returns-in-None c =
    name-over c.args.left c.args.room c.args.symbols.now c.comma-item.result c.name-item.result c.requires c.in-len2-up.len_at_least c.comma-item.is c.name-item.is c.if-left-eq0.false
    (none-found _ c.in_ok-behind.field-0 c.in-None.is c.in_ok-behind.ensures.passes)
