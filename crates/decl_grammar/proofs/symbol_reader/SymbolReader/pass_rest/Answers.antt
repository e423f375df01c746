use Rattle.std.proofs.Common.{[], ◌∷◌, ◌++◌}
use Rattle.java_tokens.specs.TokensShown.{shown_token}
use Rattle.decl_grammar.specs.SymbolReading.{BeginWith}
use Rattle.decl_grammar.proofs.SymbolsGathered.{passes-some, passes-none, passes-first, passes-more, can-read, fault-read, fails-as, nearer}
use Rattle.decl_grammar.proofs.symbol_reader.SymbolReader.pass_rest.Goals as goal

pub row-init : goal.row-init
row-init c = λ read has. passes-first read c.args.self.tokens c.args.self.last c.args.self.symbols.items has

pub next-requires : goal.next-requires
next-requires c =
    let read = c.requires.0 in
    let p = passes-some read c.row.reader c.row.last c.in-Some.field-0 c.args.self.symbols.items c.in-Some.is (c.row.invariant read c.requires.1) in
    (p.done ++ shown_token c.in-Some.field-0 ∷ [], can-read read c.row.reader (p.done ++ shown_token c.in-Some.field-0 ∷ []) p.has_read)

pub returns-in_err-next : goal.returns-in_err-next
returns-in_err-next c = λ read has.
    let p = passes-some read c.row.reader c.row.last c.in-Some.field-0 c.args.self.symbols.items c.in-Some.is (c.row.invariant read has) in
    let ts = p.done ++ shown_token c.in-Some.field-0 ∷ [] in
    let on = c.in_err-next.ensures ts (can-read read c.row.reader ts p.has_read) in
    fails-as read (λ u. BeginWith read c.args.self.symbols.items) c.from_residual.result c.in_err-next.field-0.0 c.from_residual.ensures.1 (fault-read read c.row.reader c.next.new.self ts c.in_err-next.field-0.0 p.has_read on)

pub row-smaller : goal.row-smaller
row-smaller c =
    let read = c.requires.0 in
    let p = passes-some read c.row.reader c.row.last c.in-Some.field-0 c.args.self.symbols.items c.in-Some.is (c.row.invariant read c.requires.1) in
    let ts = p.done ++ shown_token c.in-Some.field-0 ∷ [] in
    let on = c.in_ok-next.ensures ts (can-read read c.row.reader ts p.has_read) in
    nearer c.row.reader c.next.new.self ts c.row.last c.in_ok-next.next c.in-Some.field-0 c.in-Some.is on

pub row-preserved : goal.row-preserved
row-preserved c = λ read has.
    let p = passes-some read c.row.reader c.row.last c.in-Some.field-0 c.args.self.symbols.items c.in-Some.is (c.row.invariant read has) in
    let ts = p.done ++ shown_token c.in-Some.field-0 ∷ [] in
    let on = c.in_ok-next.ensures ts (can-read read c.row.reader ts p.has_read) in
    passes-more read c.row.reader c.next.new.self c.in-Some.field-0 c.in_ok-next.next c.args.self.symbols.items p on

pub returns : goal.returns
returns c = λ read has. passes-none read c.row.reader c.row.last c.args.self.symbols.items c.in_default.is (c.row.invariant read has)
