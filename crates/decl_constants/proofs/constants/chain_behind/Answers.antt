use Rattle.std.proofs.Common.{◌∙◌, ap, ◌++◌, codes, string_bytes}
use Rattle.decl_grammar.specs.Constants.{symbol_seen}
use Rattle.decl_constants.proofs.Pairs.{chain-goes, chain-ends, dotted-fewer}
use Rattle.decl_constants.proofs.constants.chain_behind.Goals as goal

pub returns-in-None : goal.returns-in-None
returns-in-None c = c.text_alone_of.ensures ∙ chain-ends (string_bytes c.row.text) c.row.rest.now _ _ c.in_ok-next.ensures.0 (ap symbol_seen c.in-None.is) c.row.invariant

pub row-smaller : goal.row-smaller
row-smaller c = dotted-fewer c.row.rest.now _ _ c.in-Some.name.now c.in_ok-next.ensures.0 (ap symbol_seen c.in-Some.is) c.in_ok-next.ensures.1

pub row-preserved : goal.row-preserved
row-preserved c = chain-goes (string_bytes c.row.text) _ c.row.rest.now _ _ c.in-Some.name.now _ c.in_ok-next.ensures.0 (ap symbol_seen c.in-Some.is) c.in_ok-next.ensures.1 (c.in_ok-push_str-in-Some-2.ensures.bytes ∙ (ap (λ x. string_bytes c.push_str.new.self ++ x) c.as_str.ensures ∙ ap (λ t. t ++ c.in-Some.name.now.text) c.in_ok-push_str-in-Some.ensures.bytes)) c.row.invariant
