use Rattle.std.proofs.Common.{sym, ap, ap₂, ◌∙◌, arith}
use Rattle.apt_base.specs.declared.element.ElementRef.{ElementRef}
use Rattle.element_table.specs.TypeTable.{TypeTable}
use Rattle.type_overriding.specs.Methods.{Container}
use Rattle.type_listing.specs.Members.{displaces}
use Rattle.type_listing.proofs.AskedMembers.{place_within, displaced_next, displaced_yes, displaced_all}
use Rattle.type_listing.proofs.DisplacingMethods.{yes_is}
use Rattle.type_listing.proofs.members.is_displaced.Goals as goal

pub get-requires : goal.get-requires
get-requires c =
    place_within c.args.list.now c.args.at.now c.in_ok-places.places.now c.loop-place.place-index c.in_ok-places.ensures.within c.loop-place-test.true

pub displaces-requires : goal.displaces-requires
displaces-requires c = ap (λ (m : Container). m.table) c.loop-place.invariant.0 ∙ c.requires ∙ sym c.table.ensures

pub returns-then-is_yes-clause-answer : goal.returns-then-is_yes-clause-answer
returns-then-is_yes-clause-answer c =
    displaced_yes c.args.list.now c.args.at.now c.in_ok-places.places.now c.args.methods.now.element c.loop-place.place-index c.get.result.now
    c.loop-place.answer c.in_ok-one.one c.in_ok-places.ensures.named c.in_ok-places.ensures.within c.loop-place-test.true c.get.ensures
    (c.in_ok-one.ensures.answer
    ∙ ap₂ (λ (x : TypeTable) (e : ElementRef). displaces x e c.get.result.now c.args.at.now) c.table.ensures (ap (λ (m : Container). m.element) c.loop-place.invariant.0))
    (yes_is c.in_ok-one.one (sym c.is_yes.ensures ∙ c.if-is_yes.true)) c.loop-place.invariant.1

pub loop-place-preserved : goal.loop-place-preserved
loop-place-preserved c = (
  c.in_ok-one.ensures.kept ∙ c.loop-place.invariant.0,
  displaced_next c.args.list.now c.args.at.now c.in_ok-places.places.now c.args.methods.now.element c.loop-place.place-index c.get.result.now
      c.loop-place.answer c.in_ok-one.one c.or-answer.result
      c.in_ok-places.ensures.within c.loop-place-test.true c.get.ensures
      (c.in_ok-one.ensures.answer
      ∙ ap₂ (λ (x : TypeTable) (e : ElementRef). displaces x e c.get.result.now c.args.at.now) c.table.ensures (ap (λ (m : Container). m.element) c.loop-place.invariant.0))
      c.or-answer.ensures c.loop-place.invariant.1,
)

pub returns-clause-answer : goal.returns-clause-answer
returns-clause-answer c =
    displaced_all c.args.list.now c.args.at.now c.in_ok-places.places.now c.args.methods.now.element c.loop-place.place-index c.loop-place.answer
    c.in_ok-places.ensures.named (omega arith) c.loop-place.invariant.1
