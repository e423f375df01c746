use Rattle.std.proofs.Common.{arith}
use Rattle.decl_grammar.specs.Form.{maybe, many}
use Rattle.decl_grammar.specs.Grammar.{import_form, package_form}
use Rattle.decl_children.proofs.CommaRows.{unread, was-read}
use Rattle.decl_children.proofs.ParamOnes.{reads-less}
use Rattle.decl_children.proofs.FileWalks.{no-package, no-imports, file-tells}
use Rattle.decl_children.proofs.file.file_full.Goals as goal

pub returns-in_default : goal.returns-in_default
returns-in_default c =
    no-package c.args.room c.args.symbols.now c.requires.room (unread (λ x. (x.0, x.1.now)) c.optional_package_of.result _ c.optional_package_of.ensures (rw c.in_default.is at c.in_ok-unpackaged.ensures))

pub returns-in_default-2 : goal.returns-in_default-2
returns-in_default-2 c =
    let e = was-read (λ x. (x.0, x.1.now)) c.optional_package_of.result _ _ c.optional_package_of.ensures (rw c.in-Some.is at c.in_ok-unpackaged.ensures) in
    no-imports c.args.room c.args.symbols.now c.in-Some.unpackaged.now _ c.requires.room e
    (unread (λ x. (x.0.items, x.1.now)) c.imports_of.result _ c.imports_of.ensures (rw c.in_default-2.is at c.in_ok-types.ensures))

pub types_full-requires : goal.types_full-requires
types_full-requires c =
    let e = was-read (λ x. (x.0, x.1.now)) c.optional_package_of.result _ _ c.optional_package_of.ensures (rw c.in-Some.is at c.in_ok-unpackaged.ensures) in
    let d = was-read (λ x. (x.0.items, x.1.now)) c.imports_of.result _ _ c.imports_of.ensures (rw c.in-Some-2.is at c.in_ok-types.ensures) in
    record { room = omega (arith, c.requires.room, reads-less (maybe package_form) c.args.room c.args.symbols.now _ c.in-Some.unpackaged.now e, reads-less (many import_form) c.args.room c.in-Some.unpackaged.now _ c.in-Some-2.types.now d) }

pub returns : goal.returns
returns c =
    let e = was-read (λ x. (x.0, x.1.now)) c.optional_package_of.result _ _ c.optional_package_of.ensures (rw c.in-Some.is at c.in_ok-unpackaged.ensures) in
    let d = was-read (λ x. (x.0.items, x.1.now)) c.imports_of.result _ _ c.imports_of.ensures (rw c.in-Some-2.is at c.in_ok-types.ensures) in
    file-tells c.args.room c.args.symbols.now c.in-Some.unpackaged.now c.in-Some-2.types.now _ _ c.types_full.result c.requires.room e d c.types_full.ensures
