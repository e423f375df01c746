use Rattle.std.proofs.Common.{[], ◌∷◌, ◌++◌}
use Rattle.java_tokens.specs.TokensShown.{shown_token}
use Rattle.decl_grammar.specs.SymbolList.{shown_before}
use Rattle.decl_grammar.specs.SymbolReading.{HasGathered}
use Rattle.decl_grammar.proofs.SymbolsGathered.{gathers-some, can-read, gathers-more, fault-read, fault-memory, fails-as, nearer, first-all, first-more}
use Rattle.decl_grammar.proofs.symbol_reader.SymbolReader.read_to.Goals as goal

pub row-init : goal.row-init
row-init c = ((λ read has. has), first-all c.args.self.symbols.items)

pub next-requires : goal.next-requires
next-requires c =
    let read = c.requires.0 in
    let g = gathers-some read c.row.reader c.row.last c.in-Some.token c.row.all.items c.in-Some.is (c.row.invariant.0 read c.requires.1) in
    (g.done ++ shown_token c.in-Some.token ∷ [], can-read read c.row.reader (g.done ++ shown_token c.in-Some.token ∷ []) g.has_read)

pub returns-then-len-count-clause-further : goal.returns-then-len-count-clause-further
returns-then-len-count-clause-further c = λ read has. c.row.invariant.0 read has

pub returns-in_err-next-clause-further : goal.returns-in_err-next-clause-further
returns-in_err-next-clause-further c = λ read has.
    let g = gathers-some read c.row.reader c.row.last c.in-Some.token c.row.all.items c.in-Some.is (c.row.invariant.0 read has) in
    let ts = g.done ++ shown_token c.in-Some.token ∷ [] in
    let on = c.in_err-next.ensures ts (can-read read c.row.reader ts g.has_read) in
    fails-as read (HasGathered read) c.from_residual.result c.in_err-next.field-0.0 c.from_residual.ensures.1 (fault-read read c.row.reader c.next.new.self ts c.in_err-next.field-0.0 g.has_read on)

pub returns-in_err-add_symbols-clause-further : goal.returns-in_err-add_symbols-clause-further
returns-in_err-add_symbols-clause-further c = λ read has.
    fails-as read (HasGathered read) c.from_residual-in_err-add_symbols.result c.in_err-add_symbols.field-0.0 c.from_residual-in_err-add_symbols.ensures.1 (fault-memory read c.in_err-add_symbols.field-0.0 c.in_err-add_symbols.ensures.memory)

pub row-smaller : goal.row-smaller
row-smaller c =
    let read = c.requires.0 in
    let g = gathers-some read c.row.reader c.row.last c.in-Some.token c.row.all.items c.in-Some.is (c.row.invariant.0 read c.requires.1) in
    let ts = g.done ++ shown_token c.in-Some.token ∷ [] in
    let on = c.in_ok-next.ensures ts (can-read read c.row.reader ts g.has_read) in
    nearer c.row.reader c.next.new.self ts c.row.last c.in_ok-next.next c.in-Some.token c.in-Some.is on

pub row-preserved : goal.row-preserved
row-preserved c = (
  (λ read has.
      let g = gathers-some read c.row.reader c.row.last c.in-Some.token c.row.all.items c.in-Some.is (c.row.invariant.0 read has) in
      let ts = g.done ++ shown_token c.in-Some.token ∷ [] in
      let on = c.in_ok-next.ensures ts (can-read read c.row.reader ts g.has_read) in
      gathers-more read c.row.reader c.next.new.self c.in-Some.token c.in_ok-next.next c.row.all.items c.add_symbols.new.all.items g on c.in_ok-add_symbols.ensures.put),
  first-more c.args.self.symbols.items c.row.all.items (shown_before c.in-Some.token c.in_ok-next.next) c.add_symbols.new.all.items c.row.invariant.1 c.in_ok-add_symbols.ensures.put,
)

pub returns-clause-further : goal.returns-clause-further
returns-clause-further c = λ read has. c.row.invariant.0 read has
