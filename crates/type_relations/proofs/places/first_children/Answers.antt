use Rattle.std.proofs.Common.{List, [], ◌∷◌, ◌++◌, sym, ap, ◌∙◌, arith}
use Rattle.std.proofs.lemmas.List.FromFn.{map-range_with_len_more}
use Rattle.apt_base.specs.declared.element.ElementRef.{ElementRef}
use Rattle.type_relations.specs.Elements.{child, first_children}
use Rattle.type_relations.proofs.places.first_children.Goals as goal

pub loop-number-preserved : goal.loop-number-preserved
loop-number-preserved c =
    let at = c.args.at.now in
    let n = c.loop-number.number in
    c.in_ok-push.ensures.ok
    ∙ ap (λ (xs : List ElementRef). xs ++ c.in_ok-one.one ∷ []) c.loop-number.invariant
    ∙ ap (λ (x : ElementRef). first_children at n ++ x ∷ []) c.in_ok-one.ensures
    ∙ sym (map-range_with_len_more (child at) 0 n n (omega arith))
