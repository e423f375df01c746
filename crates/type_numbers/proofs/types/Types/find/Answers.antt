use Rattle.std.proofs.Common.{◌≡◌, List, Some, None, sym, ap, subst, ◌∙◌}
use Rattle.type_mirror.specs.declared.mirror.Mirror.{Mirror}
use Rattle.type_layers.specs.Layers.{parts_of}
use Rattle.type_numbers.specs.Nodes.{layer_of}
use Rattle.type_numbers.specs.Numbers.{AreKnown, Stands, HasNo, mirror_with}
use Rattle.type_numbers.specs.Held.{number_at}
use Rattle.type_numbers.proofs.HeldSteps.{found-stands, absent-none}
use Rattle.type_numbers.proofs.types.Types.find.Goals as goal

pub returns-in-Some-clause-there : goal.returns-in-Some-clause-there
returns-in-Some-clause-there c =
    let l = layer_of c.args.node.now in
    let at_key : number_at c.self.inside.numbers.entries c.args.key.now.items ≡ Some c.in-Some.number.now =
    ap (number_at c.self.inside.numbers.entries) (sym c.as_slice.ensures.value) ∙ sym c.in-Some.ensures.value in
    subst (λ (ms : List Mirror). Stands ms c.in-Some.number.now (mirror_with ms l)) c.self.view_is
    (found-stands c.self.inside.entries.items c.self.inside.numbers.entries c.self.invariant c.args.key.now l c.in-Some.number.now c.requires.key at_key)

pub returns-in-None-clause-absent : goal.returns-in-None-clause-absent
returns-in-None-clause-absent c =
    let l = layer_of c.args.node.now in
    let at_key : number_at c.self.inside.numbers.entries c.args.key.now.items ≡ None =
    ap (number_at c.self.inside.numbers.entries) (sym c.as_slice.ensures.value) ∙ sym c.in-None.ensures.value in
    subst (λ (ms : List Mirror). HasNo ms (mirror_with ms l)) c.self.view_is
    (absent-none c.self.inside.entries.items c.self.inside.numbers.entries c.self.invariant c.args.key.now l
    (subst (λ (ms : List Mirror). AreKnown ms (parts_of l)) (sym c.self.view_is) c.requires.known) c.requires.key at_key)
