use Rattle.std.proofs.Common.{◌≡◌, true, false, Option, IfOk, sym, subst, rules}
use Rattle.apt_base.specs.declared.element.ElementRef.{ElementRef}
use Rattle.name_resolve.specs.Shown.{find_of}
use Rattle.annotation_presence.specs.Carried.{is_class}
use Rattle.annotation_presence.proofs.PresenceLemmas.{superclass-none, superclass-other, superclass-class, is-type}
use Rattle.annotation_presence.proofs.presence.Presence.superclass_at.Goals as goal

pub returns-in-None-clause-value : goal.returns-in-None-clause-value
returns-in-None-clause-value c = sym (superclass-none c.args.self.now c.args.at.now (find_of c.args.found.now) c.requires.stands (sym c.in-None.ensures))

pub returns-then-not-is_class-clause-value : goal.returns-then-not-is_class-clause-value
returns-then-not-is_class-clause-value c =
    let d = c.in-Some.declaration.now in
    let other : is_class d.kind ≡ false = search rules in
    sym (superclass-other c.args.self.now c.args.at.now (find_of c.args.found.now) c.requires.stands d (sym c.in-Some.ensures) other)

pub superclass_of_class-requires : goal.superclass_of_class-requires
superclass_of_class-requires c = is-type c.args.self.now c.args.at.now (find_of c.args.found.now) c.requires.stands c.in-Some.declaration.now (sym c.in-Some.ensures)

pub returns-else-not-is_class-clause-value : goal.returns-else-not-is_class-clause-value
returns-else-not-is_class-clause-value c =
    let d = c.in-Some.declaration.now in
    let class : is_class d.kind ≡ true = search rules in
    subst (λ (e : Option ElementRef). IfOk c.superclass_of_class.result (λ above. above ≡ e))
    (sym (superclass-class c.args.self.now c.args.at.now (find_of c.args.found.now) c.requires.stands d (sym c.in-Some.ensures) class))
    c.superclass_of_class.ensures.value
