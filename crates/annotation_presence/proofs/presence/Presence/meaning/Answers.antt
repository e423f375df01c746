use Rattle.std.proofs.Common.{◌≡◌, ◌∷◌, Option, IfOk, refl, sym, ap, subst, ◌∙◌, rules}
use Rattle.apt_base.specs.Identifiers.{parts}
use Rattle.apt_base.specs.declared.element.ElementRef.{ElementRef}
use Rattle.name_resolve.specs.Parts.{lent}
use Rattle.name_resolve.specs.Shown.{find_of}
use Rattle.annotation_presence.specs.Remembered.{StandsAt}
use Rattle.annotation_presence.proofs.PresenceLemmas.{lent-none, stands-scope, meaning-scope, meaning-none}
use Rattle.annotation_presence.proofs.presence.Presence.meaning.Goals as goal

pub returns-in_default-clause-value : goal.returns-in_default-clause-value
returns-in_default-clause-value c =
    let whole : lent c.as_slice-all.result.now ≡ parts c.args.name.now = search rules in
    sym (meaning-none c.args.self.now (find_of c.args.at.now) c.args.name.now (sym (lent-none c.as_slice-all.result.now c.in_default.ensures.cases) ∙ whole))

pub meaning_on-requires-clause-stands : goal.meaning_on-requires-clause-stands
meaning_on-requires-clause-stands c =
    let g = find_of c.in_ok-scope.scope in
    subst (λ (at : ElementRef). StandsAt c.args.self.now at g) (sym c.in_ok-outer.ensures)
    (stands-scope c.args.self.now c.args.element.now (find_of c.args.at.now) g c.in-Some.first.now.now g.path c.requires.stands c.in_ok-scope.ensures refl)

pub returns-clause-value : goal.returns-clause-value
returns-clause-value c =
    let g = find_of c.in_ok-scope.scope in
    let first = c.in-Some.first.now.now in
    let others = lent c.in-Some.others.now in
    let whole : lent c.as_slice-all.result.now ≡ parts c.args.name.now = search rules in
    subst (λ (e : Option ElementRef). IfOk c.meaning_on.result (λ of. of ≡ e))
    (meaning-scope c.args.self.now (find_of c.args.at.now) g first others c.args.name.now c.in_ok-scope.ensures (sym (ap lent c.in-Some.ensures.cases.0) ∙ whole))
    c.meaning_on.ensures.value
