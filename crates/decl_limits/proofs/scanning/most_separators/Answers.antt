use Rattle.std.proofs.Common.{rules, ◌+◌, ◌≤◌, sym, subst}
use Rattle.decl_limits.specs.Separators.{Scan}
use Rattle.decl_limits.specs.ScansShown.{shown_counts, IsWithin}
use Rattle.decl_limits.proofs.ScanSteps.{scan-start, scan-more, next-within, less-within}
use Rattle.decl_limits.proofs.scanning.most_separators.Goals as goal

pub loop-symbol-init : goal.loop-symbol-init
loop-symbol-init c = scan-start c.new.result.items c.new.ensures.items

pub pass-requires : goal.pass-requires
pass-requires c =
    let le : c.loop-symbol.symbol-index ≤ 18446744073709551614 = search rules in
    less-within c.loop-symbol.symbol-index 18446744073709551614 (shown_counts c.loop-symbol.counts) le c.loop-symbol.invariant.1

pub loop-symbol-preserved : goal.loop-symbol-preserved
loop-symbol-preserved c =
    let before = shown_counts c.loop-symbol.counts in
    let i = c.loop-symbol.symbol-index in
    let t = c.symbol-item.result in
    let step = c.in_ok-pass.ensures in
    let next = next-within i before t c.loop-symbol.invariant.1 in
    (scan-more c.args.symbols.now i t before (shown_counts c.pass.new.self) c.loop-symbol-test.true c.symbol-item.is c.loop-symbol.invariant.0 step, subst (λ (s : Scan). IsWithin (i + 1) s) (sym step) next)
