use Rattle.std.proofs.Common.{◌≡◌, ℕ, nat_lt, length, ap, ◌∙◌, arith}
use Rattle.element_table.specs.TypeTable.{TypeTable}
use Rattle.type_resolve.specs.Scopes.{find_in}
use Rattle.annotation_presence.specs.Carried.{present}
use Rattle.annotation_presence.specs.Shown.{carried_in}
use Rattle.annotation_values.specs.ElementValues.{all_mirrors}
use Rattle.child_questions.proofs.AnnotationCounts.{counted}
use Rattle.child_questions.proofs.kinds.has_annotation.Goals as goal

pub returns : goal.returns
returns c =
    let table = c.args.table.now in
    let at = c.args.at.now in
    let list = c.in_ok-list.list.items in
    let are : carried_in list ≡ present table (find_in table at) =
    c.in_ok-list.ensures.value ∙ ap (λ (t : TypeTable). present t (find_in t at)) c.in_ok-presence.ensures in
    let number : c.from.result ≡ c.args.number = omega (arith, c.from.ensures) in
    let count : c.len.result ≡ length (all_mirrors table at) =
    omega (arith, c.len.ensures, counted table at list are) in
    ap (λ (n : ℕ). nat_lt n c.len.result) number ∙ ap (nat_lt c.args.number) count
