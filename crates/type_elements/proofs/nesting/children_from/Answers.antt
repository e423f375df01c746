use Rattle.std.proofs.Common.{◌≡◌, ℕ, ◌-◌, List, [], ◌∷◌, ◌++◌, map, sym, ap, ◌∙◌, arith}
use Rattle.std.specs.List.{range_with_len}
use Rattle.apt_base.specs.declared.element.ElementRef.{ElementRef}
use Rattle.type_relations.specs.Elements.{child}
use Rattle.type_elements.specs.MemberElements.{children_from}
use Rattle.type_elements.proofs.ListsAhead.{map-from_more}
use Rattle.type_elements.proofs.nesting.children_from.Goals as goal

pub loop-number-preserved : goal.loop-number-preserved
loop-number-preserved c =
    let at = c.args.at.now in
    let first = c.args.first in
    let n = c.loop-number.number in (
      omega (arith, c.loop-number.invariant.0),
      omega (arith, c.loop-number.invariant.0, c.loop-number-test.true),
      c.in_ok-push.ensures.ok
          ∙ ap (λ (xs : List ElementRef). xs ++ c.in_ok-one.one ∷ []) c.loop-number.invariant.2
          ∙ ap (λ (x : ElementRef). children_from at first n ++ x ∷ []) c.in_ok-one.ensures
          ∙ sym (map-from_more (child at) first n c.loop-number.invariant.0),
    )

pub returns : goal.returns
returns c =
    let at = c.args.at.now in
    let first = c.args.first in
    let n = c.loop-number.number in
    let same : n - first ≡ c.args.count - first =
    omega (arith, c.loop-number.invariant.0, c.loop-number.invariant.1, c.loop-number-test.false) in
    c.loop-number.invariant.2 ∙ ap (λ (k : ℕ). map (child at) (range_with_len first k)) same
