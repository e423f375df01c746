use Rattle.std.proofs.Common.{◌≡◌, ◌-◌, ◌<◌, List, map, sym, ap, subst, ◌∙◌, refl, arith, rules}
use Rattle.apt_base.specs.declared.element.ElementRef.{ElementRef}
use Rattle.name_resolve.specs.Finds.{Finds, Nothing, both, together}
use Rattle.name_resolve.specs.Shown.{find_of, finds_of, Gives}
use Rattle.name_resolve.proofs.LookSteps.{each_all, each_more, each_over}
use Rattle.type_resolve.specs.Scopes.{find_in}
use Rattle.expression_names.specs.Fields.{declared_fields, supertypes, fields_within}
use Rattle.expression_names.proofs.FieldSteps.{within-more}
use Rattle.expression_names.proofs.fields.Fields.+levels.Goals as goal

pub fields_within-returns-clause-value : goal.fields_within-returns-clause-value
fields_within-returns-clause-value t c =
    let table = c.args.self.now in
    let f = find_of c.args.of.now in
    let name = c.args.name.now in
    let levels = c.args.levels in
    let none : declared_fields f name ≡ Nothing = sym c.in_ok-own.ensures.value ∙ c.is_nothing.ensures.0 (search rules) in
    let some : 0 < levels = omega arith in
    let kept : c.own_fields.new.self ≡ table = c.in_ok-own.ensures.kept in
    subst (λ (x : Finds). Gives c.together.result x)
    (
    ap (λ u. together (map (λ at. fields_within u (levels - 1) (find_in u at) name) c.as_slice.result.now)) kept
    ∙ ap (λ (types : List ElementRef). together (map (λ at. fields_within table (levels - 1) (find_in table at) name) types))
    (c.as_slice.ensures ∙ c.in_ok-types.ensures ∙ ap (λ u. supertypes u f) (c.self.view_is ∙ kept))
    ∙ within-more table f name levels some none
    )
    c.together.ensures.value

pub together-loop-at-init : goal.together-loop-at-init
together-loop-at-init t c =
    (refl, each_all (λ at. fields_within c.args.self.now c.args.levels (find_in c.args.self.now at) c.args.name.now) c.args.types.now)

pub together-loop-at-preserved : goal.together-loop-at-preserved
together-loop-at-preserved t c =
    let table = c.args.self.now in
    let item = c.at-item.result in
    let more = c.in_ok-more.ensures in (
      more.kept ∙ c.loop-at.invariant.0,
      each_more (λ at. fields_within table c.args.levels (find_in table at) c.args.name.now) c.args.types.now c.loop-at.at-index item (finds_of c.loop-at.finds) (finds_of c.both-finds.result)
          c.loop-at-test.true (sym c.at-item.is)
          (c.both-finds.ensures ∙ ap (both (finds_of c.loop-at.finds)) (more.value ∙ ap (λ u. fields_within u c.args.levels (find_in u item) c.args.name.now) c.loop-at.invariant.0))
          ∙ c.loop-at.invariant.1,
    )

pub together-returns-clause-value : goal.together-returns-clause-value
together-returns-clause-value t c =
    let table = c.args.self.now in
    sym (each_over (λ at. fields_within table c.args.levels (find_in table at) c.args.name.now) c.args.types.now c.loop-at.at-index (finds_of c.loop-at.finds) (omega arith))
    ∙ c.loop-at.invariant.1
