use Rattle.closed_cuts.proofs.AgreementLawsProofs.{agree-on_reach, share-all}
use Rattle.closed_cuts.proofs.agreement.agrees_on_reach.Goals as goal

pub returns-clause-value : goal.returns-clause-value
returns-clause-value c = agree-on_reach c.args.one.now c.args.other.now c.args.root.now _ c.in_ok-names.ensures c.agrees.result c.agrees.ensures.value

pub returns-clause-law : goal.returns-clause-law
returns-clause-law c =
    λ t.
    share-all c.args.one.now c.args.other.now c.args.root.now _ c.in_ok-names.ensures c.shared_reaches_are_one.ensures c.names_agree.ensures c.fields_agree.ensures c.types_agree.ensures
    c.questions_agree.ensures c.presence_agrees.ensures c.values_agree.ensures c.find.ensures.table c.find-2.ensures.table c.requires.stubs c.requires.source (c.agrees.ensures.law t)
