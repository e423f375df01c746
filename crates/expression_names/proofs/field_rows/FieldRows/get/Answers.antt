use Rattle.std.proofs.Common.{sym, ◌∙◌}
use Rattle.name_index.proofs.TextMaps.{get-shown}
use Rattle.expression_names.proofs.field_rows.FieldRows.get.Goals as goal

pub returns : goal.returns
returns c = c.copied.ensures ∙ c.get.ensures.value ∙ sym (get-shown c.args.self.now.held c.args.name.now)
