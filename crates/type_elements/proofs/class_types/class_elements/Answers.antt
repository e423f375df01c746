use Rattle.std.proofs.Common.{List, ◌++◌, take, sym, ap, ◌∙◌}
use Rattle.std.specs.Option.{option_to_list}
use Rattle.apt_base.specs.declared.element.ElementRef.{ElementRef}
use Rattle.type_mirror.specs.declared.mirror.Mirror.{Mirror}
use Rattle.type_elements.specs.MemberElements.{class_element, class_elements}
use Rattle.type_elements.proofs.ListsAhead.{filter_map-more}
use Rattle.type_elements.proofs.class_types.class_elements.Goals as goal

pub loop-each-preserved : goal.loop-each-preserved
loop-each-preserved c =
    let types = c.args.types.now in
    let i = c.loop-each.each-index in
    let each = c.each-item.result in
    c.in_ok-add_class_element.ensures
    ∙ ap (λ (list : List ElementRef). list ++ option_to_list (class_element each)) c.loop-each.invariant
    ∙ ap (λ (m : Mirror). class_elements (take i types) ++ option_to_list (class_element m)) c.each-item.is
    ∙ sym (filter_map-more class_element types i each c.loop-each-test.true)
