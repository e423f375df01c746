-- The laws on presence over closed cuts.
use Rattle.closed_cuts.specs.CutElements.{HasUnit}
use Rattle.closed_cuts.specs.PresenceLaws.{AllPresenceStays, AllPresenceAgrees}
use Rattle.reach_map.specs.ClosedCuts.{cut}
use Rattle.closed_cuts.proofs.AgreeingCuts.{agree_reads}
use Rattle.closed_cuts.proofs.CutReads.{cut_reads}
use Rattle.closed_cuts.proofs.NameLawsProofs.{names-stay, names-agree}
use Rattle.closed_cuts.proofs.SamePresence.{presence-by}

pub presence-stays : AllPresenceStays
presence-stays table names rooted =
    presence-by table (cut table names) (HasUnit (cut table names)) (cut_reads table names rooted) (names-stay table names rooted)

pub presence-agrees : AllPresenceAgrees
presence-agrees one other names same = presence-by one other (HasUnit (cut one names)) (agree_reads one other names same) (names-agree one other names same)
