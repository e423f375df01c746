use Rattle.std.proofs.Common.{◌≡◌, IfOk, codes, sym, subst}
use Rattle.name_resolve.specs.declared.headers.Supertype.{Supertype}
use Rattle.name_resolve.specs.Mirrors.{supertype_mirror}
use Rattle.name_resolve.specs.Shown.{find_of, super_of}
use Rattle.type_resolve.proofs.HeaderLemmas.{implied-gives}
use Rattle.type_resolve.proofs.calls.supertype.Goals as goal

pub returns-in_ok-arguments-in-Enum-clause-value : goal.returns-in_ok-arguments-in-Enum-clause-value
returns-in_ok-arguments-in-Enum-clause-value c =
    let table = c.args.scope.now.table.now in
    let f = find_of c.args.scope.now.at in
    subst (λ (s : Supertype). IfOk c.implied-in-Enum.result (λ m. m ≡ supertype_mirror table f (super_of s))) (sym c.in-Enum.is)
    (implied-gives table f c.implied-in-Enum.result (codes "java.lang.Enum") _ c.in_ok-arguments-in-Enum.ensures c.implied-in-Enum.ensures)

pub returns-in-Annotation-clause-value : goal.returns-in-Annotation-clause-value
returns-in-Annotation-clause-value c =
    let table = c.args.scope.now.table.now in
    let f = find_of c.args.scope.now.at in
    subst (λ (s : Supertype). IfOk c.implied-in-Annotation.result (λ m. m ≡ supertype_mirror table f (super_of s))) (sym c.in-Annotation.is)
    (implied-gives table f c.implied-in-Annotation.result (codes "java.lang.annotation.Annotation") _ c.new-in-Annotation.ensures c.implied-in-Annotation.ensures)
