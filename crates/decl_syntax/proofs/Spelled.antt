-- What a shape is, from its reader: the bytes that are read are the shape of a legal unit, and each such shape is read.
use Rattle.std.proofs.Common.{◌≡◌, ℕ, Bool, true, false, cond, eqb, List, [], ◌++◌, length, Option, Some, None, Result, Err, refl, sym, ap, subst, ◌∙◌}
use Rattle.std.proofs.lemmas.Bool.{eqb-true}
use Rattle.std.proofs.lemmas.List.{append-nil, nil_from_length}
use Rattle.apt_base.specs.Readings.{GivesAll}
use Rattle.decl_syntax.specs.Shape.{unit_form}
use Rattle.decl_syntax.specs.Shapes.{IsShapeOf, IsNoShape, IsOnlySpelled}
use Rattle.decl_tree.specs.Legal.{is_legal}
use Rattle.decl_syntax.specs.Reading.{unit_next, whole_unit}
use Rattle.apt_base.specs.declared.fault.FormFault.{FormFault}
use Rattle.apt_base.specs.declared.fault.FormFault.TheVariants.{Bad, Memory}
use Rattle.decl_tree.specs.declared.compilation.UnitText.{UnitText}
use Rattle.apt_base.proofs.FieldsLemmas.{IsBytes, bind_some, some_is}
use Rattle.decl_syntax.proofs.Declarations.{Reads-unit}

ended : {A : Type 0} (b : Bool) (x y : A) → cond b (Some x) None ≡ Some y → (b ≡ true) × (x ≡ y)
ended true x y e = (refl, some_is x y e)
ended false x y e = absurd cc

pub whole_unit-spelled : (bytes : List ℕ) (unit : UnitText) → IsBytes bytes → whole_unit bytes ≡ Some unit → IsShapeOf unit bytes
unfolding whole_unit
whole_unit-spelled bytes unit fits e =
    let b = bind_some (unit_next bytes) (λ u. cond (eqb (length u.1) 0) (Some u.0) None) unit e in
    let k = ended (eqb (length b.0.1) 0) b.0.0 unit b.2 in
    let one = Reads-unit.spelled bytes b.0.0 b.0.1 fits b.1 in
    let nothing : b.0.1 ≡ [] = nil_from_length b.0.1 (eqb-true _ _ k.0) in
    let whole : bytes ≡ unit_form b.0.0 = one.0 ∙ ap (λ (rest : List ℕ). unit_form b.0.0 ++ rest) nothing ∙ append-nil (unit_form b.0.0) in
    subst (λ (u : UnitText). IsShapeOf u bytes) k.1 (one.1, whole)

pub whole_unit-again : (unit : UnitText) → is_legal unit ≡ true → whole_unit (unit_form unit) ≡ Some unit
unfolding whole_unit
whole_unit-again unit legal =
    let read : unit_next (unit_form unit) ≡ Some (unit, []) = ap unit_next (sym (append-nil (unit_form unit))) ∙ Reads-unit.again unit [] legal in
    rw read refl

abbrev failed : (A : Type 0) → FormFault → Result A FormFault
failed A fault = Err fault

pub is_none : {A : Type 0} (bytes : List ℕ) (fault : FormFault) → GivesAll (failed UnitText fault) (whole_unit bytes) → failed A fault ≡ Err Bad → IsNoShape bytes
is_none bytes Memory given e = absurd cc
is_none bytes Bad given e = λ unit shape. no_both _ unit given (ap whole_unit shape.1 ∙ whole_unit-again unit shape.0)
  where
    no_both : {A : Type 0} (o : Option A) (x : A) → o ≡ None → o ≡ Some x → ⊥
    no_both o x e f = cc

pub is_only : (unit : UnitText) → is_legal unit ≡ true → IsOnlySpelled unit
is_only unit legal other rest legal_too e =
    let one : unit_next (unit_form other) ≡ Some (other, []) = ap unit_next (sym (append-nil (unit_form other))) ∙ Reads-unit.again other [] legal_too in
    let two : unit_next (unit_form other) ≡ Some (unit, rest) = ap unit_next e ∙ Reads-unit.again unit rest legal in
    let same = some_is (other, []) (unit, rest) (sym one ∙ two) in
    (ap (λ (p : UnitText × List ℕ). p.0) same, sym (ap (λ (p : UnitText × List ℕ). p.1) same))
