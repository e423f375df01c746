use Rattle.std.proofs.Common.{sym, ◌∙◌}
use Rattle.name_index.proofs.TextMaps.{get-shown}
use Rattle.element_table.proofs.member_index.MemberIndex.get.Goals as goal

pub returns : goal.returns
returns c = c.copied.ensures ∙ c.get.ensures.value ∙ sym (get-shown c.args.self.now.held c.args.key.now)
