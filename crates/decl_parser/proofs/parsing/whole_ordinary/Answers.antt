use Rattle.decl_parser.specs.FileShown.{ordinary_view}
use Rattle.decl_limits.proofs.LegalUnits.{ordinary-legal}
use Rattle.decl_parser.proofs.FileAnswers.{begins-whole, is-clear, whole-answers, crowded-answers, memory-answers}
use Rattle.decl_parser.proofs.parsing.whole_ordinary.Goals as goal

pub is_crowded-requires : goal.is_crowded-requires
is_crowded-requires c = begins-whole c.args.symbols.now (ordinary_view c.args.file) c.requires.whole.0

pub named_units-requires : goal.named_units-requires
named_units-requires c =
    ordinary-legal c.args.symbols.now (ordinary_view c.args.file) c.requires.texts c.requires.whole (is-clear c.args.symbols.now c.in-Ok-false.field-0 c.in-Ok-false.field-0-test c.in-Ok-false.ensures)

pub returns-in-Ok-true : goal.returns-in-Ok-true
returns-in-Ok-true c = crowded-answers c.args.symbols.now (ordinary_view c.args.file) c.args.end c.in-Ok-true.field-0 c.requires.whole c.in-Ok-true.field-0-test c.in-Ok-true.ensures

pub returns-in-Ok-false : goal.returns-in-Ok-false
returns-in-Ok-false c =
    whole-answers c.args.symbols.now (ordinary_view c.args.file) c.args.end c.named_units.result c.in-Ok-false.field-0 c.requires.whole c.in-Ok-false.field-0-test c.in-Ok-false.ensures c.named_units.ensures

pub returns-in-Err : goal.returns-in-Err
returns-in-Err c = memory-answers c.args.symbols.now c.args.end
