use Rattle.std.proofs.Common.{◌≡◌, ◌≢◌, [], ◌++◌, get_or, Err, ap, sym, ◌∙◌, subst, refl, arith}
use Rattle.apt_outside.specs.Count.{Rose}
use Rattle.apt_outside.specs.Stream.{Appends}
use Rattle.apt_host.specs.Words.{help_text}
use Rattle.apt_host.specs.Texts.{WritesText}
use Rattle.apt_host.proofs.Writing.{writes_some}
use Rattle.apt_host.proofs.help.help.Goals as goal

-- the table is not empty: its first byte is that of `build`
some_table : help_text ≢ []
some_table empty = let first : 98 ≡ 0 = ap (λ bytes. get_or bytes 0 0) empty in omega (arith, first)

pub returns-in-Ok-clause-written : goal.returns-in-Ok-clause-written
returns-in-Ok-clause-written g c = λ told. record {
  whole = help_text;
  text = help_text;
  prints = refl;
  is_front = refl;
  added = (c.in-Ok.ensures.bytes told).all ∙ ap (λ bytes. g.W.Sink.written c.args.output.now ++ bytes) c.as_bytes.ensures.value;
}

pub returns-in-Err-clause-written : goal.returns-in-Err-clause-written
returns-in-Err-clause-written g c = λ told.
    let W = g.W.Sink in
    let rose = Rose (W.faults c.args.output.now) (W.faults c.write_all.new.self) in
    let old = W.written c.args.output.now in
    let new = W.written c.write_all.new.self in
    subst (λ v. WritesText (λ whole part. whole ≡ help_text) v rose old new) (sym c.of_sink.ensures)
    (writes_some (λ whole part. whole ≡ help_text) help_text old new c.in-Err.fault rose some_table (λ text. refl)
    (subst (λ bytes. Appends old new bytes (Err c.in-Err.fault)) c.as_bytes.ensures.value (c.in-Err.ensures.bytes told)))
