-- Legal units are equal exactly where their shapes are.
use Rattle.std.proofs.Common.{◌≡◌, ◌↔◌, IsTrue, Bool, true, [], sym, ap, ◌∙◌}
use Rattle.std.proofs.lemmas.List.{append-nil}
use Rattle.decl_tree.specs.Legal.{is_legal}
use Rattle.decl_tree.specs.declared.compilation.UnitText.{UnitText}
use Rattle.decl_syntax.specs.Shape.{unit_form}
use Rattle.decl_syntax.proofs.Spelled.{is_only}

pub by_shapes : (one other : UnitText) (r : Bool) → is_legal one ≡ true → is_legal other ≡ true → (IsTrue r ↔ one ≡ other)
    → IsTrue r ↔ unit_form one ≡ unit_form other
by_shapes one other r legal legal_too same =
    (λ h. ap unit_form (same.0 h), λ e. same.1 (sym (is_only one legal other [] legal_too (sym e ∙ sym (append-nil (unit_form one)))).0))
