use Rattle.frame_forms.proofs.laws.bad_byte_rules_hold.Goals as goal
use Rattle.frame_forms.proofs.BadByteRules.{length_rule, fields_rule, tag_rule, byte_rule, deep_rule, text_rule, rest_rule, end_rule, otherwise_rule}

pub returns : goal.returns
returns c = record { length = length_rule; fields = fields_rule; tag = tag_rule; byte = byte_rule; deep = deep_rule; text = text_rule; rest = rest_rule; end = end_rule; otherwise = otherwise_rule }
