use Rattle.std.proofs.Common.{string_bytes}
use Rattle.name_index.proofs.TextMaps.{shown-insert}
use Rattle.expression_names.proofs.field_rows.FieldRows.put.Goals as goal

pub returns-clause-value : goal.returns-clause-value
returns-clause-value c = shown-insert c.args.self.now.held c.insert.new.self (string_bytes c.args.name) c.args.named c.in_ok-insert.ensures.updates
