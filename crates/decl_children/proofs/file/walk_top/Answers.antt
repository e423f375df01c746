use Rattle.std.proofs.Common.{◌∙◌, sym, arith}
use Rattle.decl_grammar.specs.Types.{type_modifiers}
use Rattle.decl_children.proofs.CommaRows.{unread, was-read}
use Rattle.decl_children.proofs.ParamOnes.{reads-less}
use Rattle.decl_children.proofs.FileWalks.{top-stuck, top-semicolon, top-walks}
use Rattle.decl_children.proofs.file.walk_top.Goals as goal

pub returns-then-is_next : goal.returns-then-is_next
returns-then-is_next c = top-semicolon c.args.symbols.now c.behind.result.now (sym c.is_next.ensures ∙ c.if-is_next.true) c.behind.ensures

pub returns-in_default : goal.returns-in_default
returns-in_default c = top-stuck c.args.room c.args.symbols.now c.requires.room (sym c.is_next.ensures ∙ c.if-is_next.false) (unread (λ x. (x.0, x.1.now)) c.type_modifiers_of.result _ c.type_modifiers_of.ensures (rw c.in_default.is at c.in_ok-rest.ensures))

pub walk_type-requires : goal.walk_type-requires
walk_type-requires c =
    let e = was-read (λ x. (x.0, x.1.now)) c.type_modifiers_of.result _ _ c.type_modifiers_of.ensures (rw c.in-Some.is at c.in_ok-rest.ensures) in
    record { room = omega (arith, c.requires.room, reads-less type_modifiers c.args.room c.args.symbols.now _ c.in-Some.rest.now e) }

pub returns : goal.returns
returns c =
    let e = was-read (λ x. (x.0, x.1.now)) c.type_modifiers_of.result _ _ c.type_modifiers_of.ensures (rw c.in-Some.is at c.in_ok-rest.ensures) in
    top-walks c.args.room c.args.symbols.now c.in-Some.rest.now _ c.walk_type.result c.requires.room (sym c.is_next.ensures ∙ c.if-is_next.false) e c.walk_type.ensures
