use Rattle.std.proofs.Common.{◌≡◌, ◌+◌, ◌*◌, length}
use Rattle.decl_grammar.specs.Form.{many, turned}
use Rattle.decl_grammar.specs.Grammar.{member_form}
use Rattle.decl_grammar.specs.Rule.{reads}
use Rattle.decl_types.specs.Members.{with_members}
use Rattle.decl_parser.proofs.+declarations.Given as goal

abbrev pub decreases-declarations::nested_type_of : goal.decreases-declarations::nested_type_of
decreases-declarations::nested_type_of l = 20 * l.room + 0

abbrev pub decreases-bodies::nested_member_of : goal.decreases-bodies::nested_member_of
decreases-bodies::nested_member_of l = 20 * l.room + 1

abbrev pub decreases-bodies::bare_member_of : goal.decreases-bodies::bare_member_of
decreases-bodies::bare_member_of l = 20 * l.room + 2

abbrev pub decreases-bodies::bare_element_of : goal.decreases-bodies::bare_element_of
decreases-bodies::bare_element_of l = 20 * l.room + 2

abbrev pub decreases-bodies::static_rest_of : goal.decreases-bodies::static_rest_of
decreases-bodies::static_rest_of l = 20 * l.room + 3

abbrev pub decreases-bodies::plain_modified_of : goal.decreases-bodies::plain_modified_of
decreases-bodies::plain_modified_of l = 20 * l.room + 3

abbrev pub decreases-bodies::class_modified_of : goal.decreases-bodies::class_modified_of
decreases-bodies::class_modified_of l = 20 * l.room + 4

abbrev pub decreases-bodies::interface_modified_of : goal.decreases-bodies::interface_modified_of
decreases-bodies::interface_modified_of l = 20 * l.room + 3

abbrev pub decreases-bodies::element_modified_of : goal.decreases-bodies::element_modified_of
decreases-bodies::element_modified_of l = 20 * l.room + 3

abbrev pub decreases-bodies::modified_of : goal.decreases-bodies::modified_of
decreases-bodies::modified_of l = 20 * l.room + 5

abbrev pub decreases-bodies::documented_of : goal.decreases-bodies::documented_of
decreases-bodies::documented_of l = 20 * l.room + 6

abbrev pub decreases-bodies::member_of : goal.decreases-bodies::member_of
decreases-bodies::member_of l = 20 * l.room + 7

abbrev pub decreases-bodies::more_members_of : goal.decreases-bodies::more_members_of
decreases-bodies::more_members_of l = 20 * l.room + 8

abbrev pub decreases-bodies::members_of : goal.decreases-bodies::members_of
decreases-bodies::members_of l = 20 * l.room + 9

abbrev pub decreases-bodies::more_enum_members_of : goal.decreases-bodies::more_enum_members_of
decreases-bodies::more_enum_members_of l = 20 * l.room + 9

abbrev pub decreases-declarations::class_of : goal.decreases-declarations::class_of
decreases-declarations::class_of l = 20 * l.room + 10

abbrev pub decreases-declarations::interface_of : goal.decreases-declarations::interface_of
decreases-declarations::interface_of l = 20 * l.room + 10

abbrev pub decreases-declarations::annotation_interface_of : goal.decreases-declarations::annotation_interface_of
decreases-declarations::annotation_interface_of l = 20 * l.room + 10

abbrev pub decreases-declarations::enum_of : goal.decreases-declarations::enum_of
decreases-declarations::enum_of l = 20 * l.room + 10

abbrev pub decreases-declarations::type_rest_of : goal.decreases-declarations::type_rest_of
decreases-declarations::type_rest_of l = 20 * l.room + 11

abbrev pub invariant-bodies::more_members_of-row : goal.invariant-bodies::more_members_of-row
invariant-bodies::more_members_of-row l = turned (with_members l.all.items) (reads l.room (many (member_form l.kind)) l.rest) ≡ turned (with_members l.fn.front.items) (reads l.room (many (member_form l.kind)) l.fn.symbols)

abbrev pub decreases-bodies::more_members_of-row : goal.decreases-bodies::more_members_of-row
decreases-bodies::more_members_of-row l = length l.rest
