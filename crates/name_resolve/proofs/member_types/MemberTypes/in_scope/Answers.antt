use Rattle.std.proofs.Common.{◌≡◌, true, is_some, sym, ap, subst, ◌∙◌}
use Rattle.name_resolve.specs.Ways.{node_at}
use Rattle.name_resolve.specs.Finds.{Find}
use Rattle.name_resolve.specs.Parts.{header_finds, enclosing_finds}
use Rattle.name_resolve.specs.Placed.{IsPlaced}
use Rattle.name_resolve.specs.Shown.{find_of}
use Rattle.name_resolve.proofs.Enclosing.{scope-nothing, scope-header, scope-within}
use Rattle.name_resolve.proofs.member_types.MemberTypes.in_scope.Goals as goal

pub returns-then-not-is_there-clause-value : goal.returns-then-not-is_there-clause-value
returns-then-not-is_there-clause-value c = λ members agrees. scope-nothing _ (find_of c.args.at.now) c.args.name.now c.args.header c.if-not-is_there.ensures

pub in_header-requires : goal.in_header-requires
in_header-requires c =
    let same = sym c.in_ok-innermost.ensures in
    record { placed = subst (IsPlaced c.args.self.now.table.now) same c.requires.placed; right = c.requires.right; there = subst (λ (f : Find). is_some (node_at f.unit f.path) ≡ true) same (sym c.if-not-is_there.ensures) }

pub in_elements-requires : goal.in_elements-requires
in_elements-requires c =
    let same = sym c.in_ok-innermost.ensures in
    record { placed = subst (IsPlaced c.args.self.now.table.now) same c.requires.placed; right = c.requires.right; there = subst (λ (f : Find). is_some (node_at f.unit f.path) ≡ true) same (sym c.if-not-is_there.ensures) }

pub returns-then-header-clause-value : goal.returns-then-header-clause-value
returns-then-header-clause-value c = λ members agrees.
    c.in_ok-finds.ensures.value members agrees ∙ ap (λ (f : Find). header_finds members f c.args.name.now) c.in_ok-innermost.ensures
    ∙ scope-header _ (find_of c.args.at.now) c.args.name.now c.args.header c.if-header.true

pub returns-clause-value : goal.returns-clause-value
returns-clause-value c = λ members agrees.
    c.in_ok-finds-2.ensures.value members agrees ∙ ap (λ (f : Find). enclosing_finds members f c.args.name.now) c.in_ok-innermost.ensures
    ∙ scope-within _ (find_of c.args.at.now) c.args.name.now c.args.header c.if-header.false
