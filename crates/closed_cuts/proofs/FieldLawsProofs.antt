-- The laws on names of values over closed cuts.
use Rattle.closed_cuts.specs.CutElements.{HasUnit}
use Rattle.closed_cuts.specs.FieldLaws.{AllFieldsStay, AllFieldsAgree}
use Rattle.reach_map.specs.ClosedCuts.{cut}
use Rattle.closed_cuts.proofs.AgreeingCuts.{agree_reads}
use Rattle.closed_cuts.proofs.CutReads.{cut_reads}
use Rattle.closed_cuts.proofs.NameLawsProofs.{names-stay, names-agree}
use Rattle.closed_cuts.proofs.SameFields.{fields-by}

pub fields-stay : AllFieldsStay
fields-stay table names rooted =
    fields-by table (cut table names) (HasUnit (cut table names)) rooted.is_table (cut_reads table names rooted) (names-stay table names rooted)

pub fields-agree : AllFieldsAgree
fields-agree one other names same =
    fields-by one other (HasUnit (cut one names)) same.one_rooted.is_table (agree_reads one other names same) (names-agree one other names same)
