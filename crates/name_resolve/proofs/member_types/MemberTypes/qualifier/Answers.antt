use Rattle.std.proofs.Common.{◌≡◌, true, sym, subst, ◌∙◌}
use Rattle.name_resolve.specs.Parts.{left}
use Rattle.name_resolve.specs.Placed.{ArePlaced}
use Rattle.name_resolve.specs.Shown.{find_of, finds_of}
use Rattle.name_resolve.proofs.LookSteps.{qualifier_empty, by_its_prefix, along_others}
use Rattle.name_resolve.proofs.PlacedLemmas.{simple-placed}
use Rattle.name_resolve.proofs.RememberedLemmas.{left-agrees}
use Rattle.name_resolve.proofs.member_types.MemberTypes.qualifier.Goals as goal

pub along-requires : goal.along-requires
along-requires c =
    let table = c.args.self.now.table.now in
    let near = c.in_ok-near.ensures.value (left table c.args.levels) (left-agrees c.args.self.now c.requires.right c.args.levels) in
    record { placed = subst (ArePlaced table) (sym near) (simple-placed table c.args.levels c.args.header (find_of c.args.at.now) c.requires.placed _); right = c.requires.right }

pub returns-then-is_nothing-clause-value : goal.returns-then-is_nothing-clause-value
returns-then-is_nothing-clause-value c = λ members agrees.
    c.in_ok-finds.ensures.value members agrees
    ∙ by_its_prefix (λ n. n.now) _ _ c.args.header (find_of c.args.at.now) c.args.names.now c.in-Some.first.now c.in-Some.others.now c.in-Some.ensures.cases.0 (finds_of c.in_ok-near.near) (c.in_ok-near.ensures.value members agrees)
    (c.is_nothing.ensures.0 c.if-is_nothing.true)

pub returns-clause-value : goal.returns-clause-value
returns-clause-value c = λ members agrees.
    c.in_ok-finds-2.ensures.value members agrees
    ∙ along_others (λ n. n.now) _ _ c.args.header (find_of c.args.at.now) c.args.names.now c.in-Some.first.now c.in-Some.others.now c.in-Some.ensures.cases.0 (finds_of c.in_ok-near.near) (c.in_ok-near.ensures.value members agrees)
    (λ e. let yes : c.is_nothing.result ≡ true = c.is_nothing.ensures.1 e in absurd (cc))

pub returns-in_default-clause-value : goal.returns-in_default-clause-value
returns-in_default-clause-value c = λ members agrees. qualifier_empty (λ n. n.now) _ _ _ c.args.names.now c.in_default.ensures.cases
