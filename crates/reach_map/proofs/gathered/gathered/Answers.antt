use Rattle.reach_map.proofs.CandidateSetsLemmas.{all_gathered}
use Rattle.reach_map.proofs.gathered.gathered.Goals as goal

pub returns : goal.returns
returns c =
    all_gathered c.args.unit.now c.new-names.result c.add_own.new.names c.in_ok-names.names c.add_imports.new.names c.add_texts.new.names c.new-names.ensures c.in_ok-add_own.ensures
    c.in_ok-names.ensures (rw (c.as_slice.ensures, c.get.ensures, c.text.ensures.value) at c.in_ok-add_imports.ensures) c.in_ok-add_texts.ensures
