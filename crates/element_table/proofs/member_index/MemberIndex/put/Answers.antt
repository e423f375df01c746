use Rattle.std.proofs.Common.{string_bytes}
use Rattle.name_index.proofs.TextMaps.{shown-insert}
use Rattle.element_table.proofs.member_index.MemberIndex.put.Goals as goal

pub returns-clause-ok : goal.returns-clause-ok
returns-clause-ok c = shown-insert c.args.self.now.held c.insert.new.self (string_bytes c.args.key) c.args.range c.in_ok-insert.ensures.updates
