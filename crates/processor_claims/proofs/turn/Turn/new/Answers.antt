use Rattle.std.proofs.Common.{◌≡◌, true, length, replicate, refl, sym, ap, subst, ◌∙◌, rules}
use Rattle.processor_claims.specs.Asked.{AreWithin}
use Rattle.processor_claims.specs.Candidates.{candidates_of}
use Rattle.processor_claims.proofs.AskedLaws.{asked-within}
use Rattle.processor_claims.proofs.TurnLaws.{coming-new, length-candidates_of}
use Rattle.processor_claims.proofs.turn.Turn.new.Goals as goal

pub returns-clause-waiting : goal.returns-clause-waiting
returns-clause-waiting c =
    ap length c.in_ok-candidates.ensures
    ∙ length-candidates_of c.names_to_offer-names.result.now 0 c.as_slice.result.now c.as_slice-2.result.now (ap length c.as_slice.ensures ∙ c.requires.same ∙ sym (ap length c.as_slice-2.ensures))
    ∙ ap length c.as_slice.ensures

comes : goal.returns-clause-coming
comes c =
    let unclaimed : c.in_ok-vec.field-0.items ≡ replicate (length c.names_to_offer-names.result.now) true = search rules in
    coming-new _ c.args.processors.now c.args.contributed.now c.args.present.now c.names_to_offer-names.result.now c.args.last
    c.names_to_offer-names.ensures
    (c.in_ok-candidates.ensures
    ∙ ap (λ processors. candidates_of c.names_to_offer-names.result.now 0 processors c.as_slice-2.result.now) c.as_slice.ensures
    ∙ ap (λ contributed. candidates_of c.names_to_offer-names.result.now 0 c.args.processors.now contributed) c.as_slice-2.ensures)
    unclaimed
    c.offers_empty_set.ensures
    c.new.ensures
    refl

pub returns-clause-coming : goal.returns-clause-coming
returns-clause-coming c = comes c

pub returns-clause-within : goal.returns-clause-within
returns-clause-within c = λ claimed claims.
    subst (AreWithin (length c.args.processors.now) (length c.args.present.now)) (sym (comes c claimed claims))
    (asked-within c.args.processors.now c.args.contributed.now c.args.present.now c.args.last claims)
