use Rattle.std.proofs.Common.{sym, ◌∙◌}
use Rattle.type_layers.proofs.PartsEqual.{declared_by_arguments, executable_by_thrown}
use Rattle.type_layers.proofs.equality.+equality.Goals as goal

pub is_equal_declared-returns : goal.is_equal_declared-returns
is_equal_declared-returns t c =
    declared_by_arguments c.args.one.now c.args.other.now c.are_equal.result
    (c.is_equal.ensures.same.0 c.if-not-is_equal.false)
    (c.is_equal_enclosing.ensures.0 c.if-not-is_equal_enclosing.false)
    (λ h. sym c.as_slice.ensures ∙ c.are_equal.ensures.0 h ∙ c.as_slice-2.ensures, λ same. c.are_equal.ensures.1 (c.as_slice.ensures ∙ same ∙ sym c.as_slice-2.ensures))

pub is_equal_executable-returns : goal.is_equal_executable-returns
is_equal_executable-returns t c =
    executable_by_thrown c.args.one.now c.args.other.now c.are_equal-2.result
    (sym c.as_slice.ensures ∙ c.are_same_elements.ensures.0 c.if-not-are_same_elements.false ∙ c.as_slice-2.ensures)
    (sym c.as_slice-3.ensures ∙ c.are_equal.ensures.0 c.if-not-are_equal.false ∙ c.as_slice-4.ensures)
    (sym c.get.ensures ∙ c.equals.ensures.0 c.if-not-equals.false ∙ c.get-2.ensures)
    (λ h. sym c.as_slice-5.ensures ∙ c.are_equal-2.ensures.0 h ∙ c.as_slice-6.ensures, λ same. c.are_equal-2.ensures.1 (c.as_slice-5.ensures ∙ same ∙ sym c.as_slice-6.ensures))
