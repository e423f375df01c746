use Rattle.std.proofs.Common.{refl}
use Rattle.decl_grammar.specs.Form.{plain_modifiers}
use Rattle.decl_grammar.proofs.Nests.{some-is, none-fails}
use Rattle.decl_types.proofs.modifiers.plain_modifiers_of.Goals as goal

pub returns-then-room-gt0 : goal.returns-then-room-gt0
returns-then-room-gt0 c = rw (some-is plain_modifiers refl c.args.room c.args.symbols.now c.if-room-gt0.true) c.plain_modifiers_in.ensures

pub returns : goal.returns
returns c = none-fails plain_modifiers refl c.args.room c.args.symbols.now c.starts_plain_modifier.result c.shut.result c.if-room-gt0.false c.starts_plain_modifier.ensures c.shut.ensures
