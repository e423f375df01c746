-- The laws on values over closed cuts.
use Rattle.closed_cuts.specs.CutElements.{HasUnit}
use Rattle.closed_cuts.specs.ValueLaws.{AllValuesStay, AllValuesAgree}
use Rattle.reach_map.specs.ClosedCuts.{cut}
use Rattle.closed_cuts.proofs.AgreeingCuts.{agree_reads}
use Rattle.closed_cuts.proofs.CutReads.{cut_reads}
use Rattle.closed_cuts.proofs.NameLawsProofs.{names-stay, names-agree}
use Rattle.closed_cuts.proofs.SameElementValues.{values-by}

pub values-stay : AllValuesStay
values-stay table names rooted =
    values-by table (cut table names) (HasUnit (cut table names)) rooted.is_table (cut_reads table names rooted) (names-stay table names rooted)

pub values-agree : AllValuesAgree
values-agree one other names same =
    values-by one other (HasUnit (cut one names)) same.one_rooted.is_table (agree_reads one other names same) (names-agree one other names same)
