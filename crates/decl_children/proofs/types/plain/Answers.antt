use Rattle.std.proofs.Common.{List, Err, refl, sym, ◌∙◌}
use Rattle.std.specs.Borrow.{Bor}
use Rattle.std.proofs.lemmas.Bool.{ltb-true, ltb-false}
use Rattle.apt_base.specs.Limits.{max_children}
use Rattle.decl_grammar.specs.declared.fault.ReadFault.TheVariants as faults
use Rattle.decl_grammar.specs.declared.symbol.Symbol.{Symbol}
use Rattle.decl_grammar.specs.declared.written.Unmodified.{Unmodified}
use Rattle.decl_grammar.specs.Rule.{reads}
use Rattle.decl_children.specs.TypeWalks.{unmodified_form}
use Rattle.decl_children.specs.Unmodifieds.{own_of}
use Rattle.decl_crossings.proofs.PhraseReads.{read-phrase}
use Rattle.decl_children.proofs.CommaRows.{unread}
use Rattle.decl_children.proofs.WalkTells.{own-many, own-few, plain-none}
use Rattle.decl_children.proofs.types.plain.Goals as goal

pub returns-then-has_many : goal.returns-then-has_many
returns-then-has_many c = own-many c.args.kind c.args.room c.args.symbols.now c.in-Ok.read.1.now c.in-Ok.read.0 c.in-Ok.ensures (ltb-true max_children (own_of c.in-Ok.read.0) (sym c.has_many.ensures ∙ c.if-has_many.true))

pub returns-else-has_many : goal.returns-else-has_many
returns-else-has_many c = (
  own-few c.args.kind c.args.room c.args.symbols.now c.in-Ok.read.1.now c.in-Ok.read.0 c.in-Ok.ensures (ltb-false max_children (own_of c.in-Ok.read.0) (sym c.has_many.ensures ∙ c.if-has_many.false)),
  (c.in-Ok.read.0, read-phrase (unmodified_form c.args.kind) c.args.room c.args.symbols.now c.in-Ok.read.0 c.in-Ok.read.1.now c.in-Ok.ensures, c.count_in-count.ensures, c.is_constructor-constructor.ensures),
)

-- nothing is read
pub returns-in-Err-Bad : goal.returns-in-Err-Bad
returns-in-Err-Bad c =
    plain-none c.args.kind c.args.room c.args.symbols.now c.requires.room
    (unread (λ (x : Unmodified × Bor (List Symbol)). (x.0, x.1.now)) (Err (faults.Bad _)) (reads c.args.room (unmodified_form c.args.kind) c.args.symbols.now) (rw c.in-Err-Bad.field-0-is at c.in-Err-Bad.ensures) refl)

pub returns-in-Err-Deep : goal.returns-in-Err-Deep
returns-in-Err-Deep c =
    plain-none c.args.kind c.args.room c.args.symbols.now c.requires.room
    (unread (λ (x : Unmodified × Bor (List Symbol)). (x.0, x.1.now)) (Err (faults.Deep _)) (reads c.args.room (unmodified_form c.args.kind) c.args.symbols.now) (rw c.in-Err-Deep.field-0-is at c.in-Err-Deep.ensures) refl)
