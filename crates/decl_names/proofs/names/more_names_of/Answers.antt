use Rattle.std.proofs.Common.{refl, ◌∙◌, sym, string_bytes}
use Rattle.std.proofs.lemmas.Result.{err_from_is_err_and}
use lib.Utf8.{encode}
use Rattle.decl_grammar.specs.Constants.{more_dotted}
use Rattle.decl_grammar.specs.Types.{dot_name, name}
use Rattle.decl_grammar.proofs.Loop.{falls, goes_on, ends, stops}
use Rattle.decl_names.proofs.names.more_names_of.Goals as goal

pub returns-in_err-next : goal.returns-in_err-next
unfolding dot_name
returns-in_err-next c =
    let p = err_from_is_err_and c.from_residual-in_err-next.result c.from_residual-in_err-next.ensures.1 in
    rw (p.1, p.2) (ends c.args.room dot_name _ _ _ _ refl (sym c.is_next.ensures ∙ c.row-test.true) c.in_err-next.ensures c.row.invariant)

pub row-smaller : goal.row-smaller
unfolding dot_name
row-smaller c = falls c.args.room dot_name _ _ _ refl c.in_ok-next.ensures

pub row-preserved : goal.row-preserved
unfolding dot_name encode
row-preserved c = rw (c.in_ok-push_str.ensures.bytes, c.in_ok-push.ensures.bytes) (goes_on c.args.room dot_name _ _ _ _ _ refl (sym c.is_next.ensures ∙ c.row-test.true) c.in_ok-next.ensures c.row.invariant)

pub returns : goal.returns
unfolding dot_name
returns c = rw c.from_string.ensures (stops c.args.room dot_name (more_dotted (string_bytes c.row.text)) c.row.rest.now _ refl (sym c.is_next.ensures ∙ c.row-test.false) c.row.invariant)
