use Rattle.std.proofs.Common.{◌++◌, Option, sym, ap, ◌∙◌}
use Rattle.std.specs.Option.{option_to_list}
use Rattle.decl_elements.specs.Shown.{node_of}
use Rattle.name_resolve.specs.Shown.{find_of}
use Rattle.annotation_values.specs.ElementValues.{Named, child_default}
use Rattle.annotation_values.proofs.DefaultLists.{defaults-next}
use Rattle.annotation_values.proofs.annotations.node_defaults.Goals as goal

pub loop-number-preserved : goal.loop-number-preserved
loop-number-preserved c =
    let table = c.args.values.now in
    let f = find_of c.args.of.now in
    let number = c.loop-number.number in
    let child = node_of c.in-Some.child in
    let list = c.loop-number.list in
    let kept = c.loop-number.invariant.0 in
    let named = c.in_ok-named.ensures.value ∙ ap (λ t. child_default t f (number, child)) kept in
    let more = c.in_ok-add_default.ensures ∙ ap (λ (n : Option Named). list ++ option_to_list n) named in (
      c.in_ok-named.ensures.kept ∙ kept,
      sym (defaults-next table f (node_of c.args.place) list _ number child (sym c.in-Some.ensures) more)
          ∙ c.loop-number.invariant.1,
    )
