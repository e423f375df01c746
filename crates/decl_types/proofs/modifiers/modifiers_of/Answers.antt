use Rattle.std.proofs.Common.{refl}
use Rattle.decl_grammar.specs.Form.{modifiers}
use Rattle.decl_grammar.proofs.Nests.{some-is, none-fails}
use Rattle.decl_types.proofs.modifiers.modifiers_of.Goals as goal

pub returns-then-room-gt0 : goal.returns-then-room-gt0
returns-then-room-gt0 c = rw (some-is modifiers refl c.args.room c.args.symbols.now c.if-room-gt0.true) c.modifiers_in.ensures

pub returns : goal.returns
returns c = none-fails modifiers refl c.args.room c.args.symbols.now c.starts_modifier.result c.shut.result c.if-room-gt0.false c.starts_modifier.ensures c.shut.ensures
