use Rattle.std.proofs.Common.{◌≡◌, ◌+◌, ◌*◌, length}
use Rattle.decl_grammar.specs.Form.{with_front}
use Rattle.decl_values.specs.ConstantRows.{items_from}
use Rattle.decl_values.proofs.constant_forms.+constants.Given as goal

abbrev pub decreases-constant_of : goal.decreases-constant_of
decreases-constant_of l = 10 * l.room + 0

abbrev pub decreases-constant_item_of : goal.decreases-constant_item_of
decreases-constant_item_of l = 10 * l.room + 1

abbrev pub decreases-constant_items_of : goal.decreases-constant_items_of
decreases-constant_items_of l = 10 * l.room + 2

abbrev pub decreases-constant_rest_of : goal.decreases-constant_rest_of
decreases-constant_rest_of l = 10 * l.room + 3

abbrev pub decreases-constant_array_of : goal.decreases-constant_array_of
decreases-constant_array_of l = 10 * l.room + 4

abbrev pub decreases-constant_form_of : goal.decreases-constant_form_of
decreases-constant_form_of l = 10 * l.room + 5

abbrev pub invariant-constant_items_of-row : goal.invariant-constant_items_of-row
invariant-constant_items_of-row l = with_front l.all.items (items_from l.room l.rest) ≡ items_from l.room l.fn.symbols

abbrev pub decreases-constant_items_of-row : goal.decreases-constant_items_of-row
decreases-constant_items_of-row l = length l.rest
