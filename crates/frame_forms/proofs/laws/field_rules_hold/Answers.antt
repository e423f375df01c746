use Rattle.frame_forms.proofs.laws.field_rules_hold.Goals as goal
use Rattle.frame_forms.proofs.FieldRuleProofs.{texts_rule, distinct_rule, patterns_rule, ascending_rule, keys_rule, items_rule, below_rule, bool_rule, claim_rule, element_rule}

pub returns : goal.returns
returns c = record { texts = texts_rule; distinct = distinct_rule; patterns = patterns_rule; ascending = ascending_rule; keys = keys_rule; items = items_rule; below = below_rule; truth = bool_rule; claim = claim_rule; element = element_rule }
