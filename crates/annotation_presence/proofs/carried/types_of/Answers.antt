use Rattle.std.proofs.Common.{List, ◌++◌, take, sym, ap, ◌∙◌}
use Rattle.std.specs.Option.{option_to_list}
use Rattle.apt_base.specs.declared.element.ElementRef.{ElementRef}
use Rattle.annotation_presence.specs.declared.carried.Carried.{Carried}
use Rattle.annotation_presence.specs.Carried.{types_of}
use Rattle.annotation_presence.specs.Shown.{carried_in}
use Rattle.annotation_presence.proofs.CarriedLists.{types-more}
use Rattle.annotation_presence.proofs.carried.types_of.Goals as goal

pub loop-each-preserved : goal.loop-each-preserved
loop-each-preserved c =
    let list = c.args.list.now in
    let i = c.loop-each.each-index in
    let each = c.each-item.result in
    c.in_ok-add_type.ensures
    ∙ ap (λ (types : List ElementRef). types ++ option_to_list each.annotation_type) c.loop-each.invariant
    ∙ ap (λ (m : Carried). types_of (carried_in (take i list)) ++ option_to_list m.annotation_type) c.each-item.is
    ∙ sym (types-more list i each c.loop-each-test.true)
