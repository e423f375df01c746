use Rattle.std.proofs.Common.{ap, ◌∙◌, arith}
use Rattle.frame_reader.specs.Stages.{wanted_in}
use Rattle.frame_reader.proofs.Wanted.{wanted_length, wanted_fields, wanted_whole, wanted_bad}
use Rattle.frame_reader.proofs.scanner.FrameScanner.wanted.Goals as goal

pub returns-in-Length : goal.returns-in-Length
returns-in-Length c = omega (arith, c.len.ensures, wanted_length c.self.inside.stage c.self.inside.fields c.self.inside.bytes.items c.in-Length.is c.self.invariant, ap wanted_in c.self.view_is)

pub returns-in-Fields : goal.returns-in-Fields
returns-in-Fields c = omega (arith, c.len-in-Fields.ensures, wanted_fields c.self.inside.stage c.in-Fields.end c.self.inside.fields c.self.inside.bytes.items c.in-Fields.is c.self.invariant, ap wanted_in c.self.view_is)

pub returns-in-Whole : goal.returns-in-Whole
returns-in-Whole c = wanted_whole c.self.inside.stage c.self.inside.fields c.self.inside.bytes.items c.in-Whole.is c.self.invariant ∙ ap wanted_in c.self.view_is

pub returns-in-Bad : goal.returns-in-Bad
returns-in-Bad c = wanted_bad c.self.inside.stage c.in-Bad.field-0 c.in-Bad.field-1 c.self.inside.fields c.self.inside.bytes.items c.in-Bad.is c.self.invariant ∙ ap wanted_in c.self.view_is
