use Rattle.std.proofs.Common.{ap, ◌∙◌}
use Rattle.std.specs.Int.{w32, from_be_bytes}
use Rattle.std.proofs.lemmas.List.{take_rest}
use Rattle.std.proofs.lemmas.Result.{IfOk-weaker}
use Rattle.frame_reader.proofs.Following.{skip_finishes, length_finishes, text_finishes, items_finish, texts_finish}
use Rattle.frame_reader.proofs.fields.FieldsReader.finish.Goals as goal

pub returns-in-Skip-clause-ok : goal.returns-in-Skip-clause-ok
returns-in-Skip-clause-ok c = skip_finishes c.args.gather c.args.self.now c.args.bytes.now c.args.byte c.requires.last c.in-Skip.is

pub returns-in-Length-clause-ok : goal.returns-in-Length-clause-ok
returns-in-Length-clause-ok c = IfOk-weaker c.end_length.result _ _
    (λ taken ends. length_finishes c.args.gather c.in-Length.rule c.number_of.result c.args.self.now c.end_length.new.self c.args.bytes.now c.args.byte taken c.requires.last c.in-Length.is
    (c.number_of.ensures ∙ ap (from_be_bytes w32) (take_rest c.args.bytes.now c.args.gather.from)) ends)
    c.end_length.ensures.ok

pub returns-in-Text-clause-ok : goal.returns-in-Text-clause-ok
returns-in-Text-clause-ok c = IfOk-weaker c.end_text.result _ _
    (λ taken ends. text_finishes c.args.gather c.in-Text.rule c.args.self.now c.end_text.new.self c.args.bytes.now _ c.args.byte taken c.requires.last c.in-Text.is (take_rest c.args.bytes.now c.args.gather.from) ends)
    c.end_text.ensures.ok

pub returns-in_ok-begin_items-in-Count-clause-ok : goal.returns-in_ok-begin_items-in-Count-clause-ok
returns-in_ok-begin_items-in-Count-clause-ok c =
    items_finish c.args.gather c.in-Count.item c.in-Count.room c.number_of-in-Count.result c.args.self.now c.begin_items.new.self c.args.bytes.now c.args.byte c.requires.last c.in-Count.is
    (c.number_of-in-Count.ensures ∙ ap (from_be_bytes w32) (take_rest c.args.bytes.now c.args.gather.from)) c.in_ok-begin_items-in-Count.ensures.ok

pub returns-in-ListCount-clause-ok : goal.returns-in-ListCount-clause-ok
returns-in-ListCount-clause-ok c =
    texts_finish c.args.gather c.in-ListCount.rule c.number_of-in-ListCount.result c.args.self.now c.begin_texts.new.self c.args.bytes.now c.args.byte c.requires.last c.in-ListCount.is
    (c.number_of-in-ListCount.ensures ∙ ap (from_be_bytes w32) (take_rest c.args.bytes.now c.args.gather.from)) c.begin_texts.ensures
