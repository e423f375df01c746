use Rattle.std.proofs.Common.{sym, ap, ◌∙◌}
use Rattle.std.proofs.Common.{subst}
use Rattle.frame_reader.specs.Stages.{found_in, IsWholeFrame}
use Rattle.frame_reader.proofs.Scanning.{length_found, fields_found, whole_found, frame_found}
use Rattle.frame_reader.proofs.scanner.FrameScanner.found.Goals as goal

pub returns-in-Length-clause-found : goal.returns-in-Length-clause-found
returns-in-Length-clause-found c = sym (length_found c.self.inside.stage c.self.inside.fields c.self.inside.bytes.items c.in-Length.is c.self.invariant) ∙ ap found_in c.self.view_is

pub returns-in-Fields-clause-found : goal.returns-in-Fields-clause-found
returns-in-Fields-clause-found c = sym (fields_found c.self.inside.stage c.in-Fields.field-0 c.self.inside.fields c.self.inside.bytes.items c.in-Fields.is c.self.invariant) ∙ ap found_in c.self.view_is

pub returns-in-Whole-clause-found : goal.returns-in-Whole-clause-found
returns-in-Whole-clause-found c = sym (frame_found c.self.inside.bytes.items (whole_found c.self.inside.stage c.self.inside.fields c.self.inside.bytes.items c.in-Whole.is c.self.invariant)) ∙ ap found_in c.self.view_is

pub returns-in-Whole-clause-frame : goal.returns-in-Whole-clause-frame
returns-in-Whole-clause-frame c = subst IsWholeFrame c.self.view_is (whole_found c.self.inside.stage c.self.inside.fields c.self.inside.bytes.items c.in-Whole.is c.self.invariant)
