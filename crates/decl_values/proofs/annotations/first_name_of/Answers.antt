use Rattle.std.proofs.Common.{refl}
use Rattle.decl_grammar.specs.Form.{first_name}
use Rattle.decl_grammar.proofs.Nests.{some-is, none-fails}
use Rattle.decl_values.proofs.annotations.first_name_of.Goals as goal

pub returns-then-room-gt0 : goal.returns-then-room-gt0
returns-then-room-gt0 c = rw (some-is first_name refl c.args.room c.args.symbols.now c.if-room-gt0.true) c.named_text_of.ensures

pub returns : goal.returns
returns c = none-fails first_name refl c.args.room c.args.symbols.now c.is_next.result c.shut.result c.if-room-gt0.false c.is_next.ensures c.shut.ensures
