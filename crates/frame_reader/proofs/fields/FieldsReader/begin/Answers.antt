use Rattle.std.proofs.Common.{◌∷◌, ◌++◌, [], sym, subst}
use Rattle.frame_reader.specs.declared.fields.FieldsReader.{FieldsReader}
use Rattle.frame_reader.specs.Follows.{Means}
use Rattle.frame_reader.proofs.Following.{text_starts, nothing_starts, no_last}
use Rattle.frame_reader.proofs.fields.FieldsReader.begin.Goals as goal

pub returns-in-Some-clause-ok : goal.returns-in-Some-clause-ok
returns-in-Some-clause-ok c held at reading s =
    subst (λ (r : FieldsReader). Means r (held ++ c.args.byte ∷ []) (λ later. reading (c.args.byte ∷ later))) (sym c.begin_text.ensures)
    (text_starts c.in-Some.list c.args.place c.args.byte c.args.self.now c.requires c.in-Some.is held at reading s)

pub returns-in-None-last-clause-ok : goal.returns-in-None-last-clause-ok
returns-in-None-last-clause-ok c = nothing_starts c.args.self.now c.args.place c.args.byte c.requires c.in-None.is (no_last c.args.self.now.stack (sym c.in-None-last.ensures))
