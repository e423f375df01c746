use Rattle.std.proofs.Common.{[], sym, ap, ◌∙◌}
use Rattle.element_table.specs.TypeTable.{TypeTable}
use Rattle.type_memory.specs.Known.{known_of}
use Rattle.type_overriding.specs.Methods.{seen_of}
use Rattle.type_overriding.proofs.RememberedMethods.{right-none}
use Rattle.type_overriding.proofs.known_methods.KnownMethods.new.Goals as goal

pub invariant_of-result : goal.invariant_of-result
invariant_of-result c =
    right-none (seen_of c.new.result c.args.within.now c.new-2.result) c.new-3.result c.new-4.result c.new-5.result
    (c.new-3.ensures ∙ ap (λ (t : TypeTable). known_of t []) (sym c.new.ensures)) c.new-4.ensures.empty c.new-5.ensures.empty
