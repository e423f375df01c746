use Rattle.std.proofs.Common.{rules, ◌≡◌, Some, map, string_bytes, sym, ap, ◌∙◌}
use Rattle.local_children.specs.Streams.{local_in}
use Rattle.memory_children.proofs.Keeping.{keeps_begun}
use Rattle.memory_children.proofs.local_child.begin.Goals as goal

pub invariant_of-result : goal.invariant_of-result
invariant_of-result c =
    let is : local_in (map string_bytes c.args.command.now) ≡ Some c.in-Some.local = search rules in
    keeps_begun c.in-Some.local c.args.name.now c.args.command.now c.in_ok-copy_call.field-0 is c.in_ok-copy_call.ensures c.new.result c.new-2.result c.new-3.result c.new.ensures.items c.new-2.ensures.items c.new-3.ensures.items
