use Rattle.std.proofs.Common.{◌≡◌, length}
use Rattle.decl_grammar.specs.Form.{maybe, nest, enum_rest, turned, with_front}
use Rattle.decl_grammar.specs.Types.{list_or_none}
use Rattle.decl_grammar.specs.Rule.{reads}
use Rattle.decl_members.proofs.enums.more_constants_of.Given as goal

abbrev pub invariant-row : goal.invariant-row
invariant-row l = with_front l.all.items (turned list_or_none (reads l.room (maybe (nest enum_rest)) l.rest)) ≡ with_front l.fn.front.items (turned list_or_none (reads l.room (maybe (nest enum_rest)) l.fn.symbols))

abbrev pub decreases-row : goal.decreases-row
decreases-row l = length l.rest
