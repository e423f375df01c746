use Rattle.std.proofs.Common.{◌≡◌, sym, ap, subst, ◌∙◌}
use Rattle.name_resolve.specs.Finds.{Finds}
use Rattle.name_resolve.specs.Meaning.{Within, qualifier_meaning}
use Rattle.name_resolve.specs.Placed.{IsPlaced, ArePlaced}
use Rattle.name_resolve.specs.Parts.{lent}
use Rattle.name_resolve.specs.Shown.{find_of, finds_of}
use Rattle.name_resolve.proofs.PlacedLemmas.{qualifier-placed}
use Rattle.expression_names.specs.Fields.{fields_of, field_meaning}
use Rattle.expression_names.proofs.NamesSplit.{meaning_none, meaning_alone, meaning_qualified}
use Rattle.expression_names.proofs.fields.Fields.field_meaning.Goals as goal

pub returns-in_default-clause-value : goal.returns-in_default-clause-value
returns-in_default-clause-value c = meaning_none c.args.self.now (find_of c.args.at.now) c.args.names.now c.in_default.ensures.cases

pub returns-then-is_empty-clause-value : goal.returns-then-is_empty-clause-value
returns-then-is_empty-clause-value c =
    c.in_ok-finds.ensures.value
    ∙ meaning_alone c.args.self.now (find_of c.args.at.now) c.args.names.now c.in-Some.front.now c.in-Some.last.now c.in-Some.ensures.cases.0 c.if-is_empty.ensures

pub fields_of-requires : goal.fields_of-requires
fields_of-requires c =
    let table = c.self.inside.table.now in
    let at = find_of c.args.at.now in
    let front = lent c.in-Some.front.now in
    let of : finds_of c.in_ok-of.of ≡ qualifier_meaning table (Within at) front =
    c.in_ok-of.ensures.value ∙ ap (λ u. qualifier_meaning u (Within at) front) c.self.invariant.over in
    let placed : IsPlaced table at = subst (λ u. IsPlaced u at) (sym c.self.view_is) c.requires.placed in
    record { placed = subst (ArePlaced table) (sym of) (qualifier-placed table at placed front) }

pub returns-clause-value : goal.returns-clause-value
returns-clause-value c =
    let table = c.self.inside.table.now in
    let at = find_of c.args.at.now in
    let names = c.args.names.now in
    let front = c.in-Some.front.now in
    let last = c.in-Some.last.now in
    let of : finds_of c.in_ok-of.of ≡ qualifier_meaning table (Within at) (lent front) =
    c.in_ok-of.ensures.value ∙ ap (λ u. qualifier_meaning u (Within at) (lent front)) c.self.invariant.over in
    c.in_ok-finds-2.ensures.value ∙ ap (λ (x : Finds). fields_of table x last.now) of
    ∙ meaning_qualified table at names front last c.in-Some.ensures.cases.0 c.if-is_empty.ensures
    ∙ ap (λ u. field_meaning u at (lent names)) c.self.view_is
