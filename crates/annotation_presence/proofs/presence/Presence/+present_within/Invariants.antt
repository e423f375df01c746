use Rattle.annotation_presence.proofs.presence.Presence.+present_within.Given as goal

abbrev pub decreases-present_within : goal.decreases-present_within
decreases-present_within l = l.levels
