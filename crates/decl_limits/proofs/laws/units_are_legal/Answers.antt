use Rattle.decl_limits.proofs.LegalUnits.{ordinary-legal, info-legal}
use Rattle.decl_limits.proofs.laws.units_are_legal.Goals as goal

pub returns-clause-types : goal.returns-clause-types
returns-clause-types c = ordinary-legal

pub returns-clause-info : goal.returns-clause-info
returns-clause-info c = info-legal
