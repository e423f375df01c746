use Rattle.std.proofs.Common.{◌≡◌, ◌+◌, ◌*◌, length}
use Rattle.decl_grammar.specs.Form.{many, with_front, turned}
use Rattle.decl_grammar.specs.Types.{silently, annotation, dim, next_part, next_argument}
use Rattle.decl_grammar.specs.Expressions.{next_created_part}
use Rattle.decl_grammar.specs.Rule.{reads}
use Rattle.decl_turns.specs.States.{rest_read}
use Rattle.decl_values.specs.Ends.{values_from, pairs_from, SoFar}
use Rattle.decl_values.proofs.Measures.{rank_of}
use Rattle.decl_values.proofs.RowTurns.{RowSoFar}
use Rattle.decl_values.proofs.+values.Given as goal

abbrev pub decreases-type_arguments::type_arguments_of : goal.decreases-type_arguments::type_arguments_of
decreases-type_arguments::type_arguments_of l = 80 * l.room + 0

abbrev pub decreases-creations::created_arguments_of : goal.decreases-creations::created_arguments_of
decreases-creations::created_arguments_of l = 80 * l.room + 0

abbrev pub decreases-values::array_value_of : goal.decreases-values::array_value_of
decreases-values::array_value_of l = 80 * l.room + 0

abbrev pub decreases-values::nested_annotation_of : goal.decreases-values::nested_annotation_of
decreases-values::nested_annotation_of l = 80 * l.room + 0

abbrev pub decreases-pieces::value_part_of : goal.decreases-pieces::value_part_of
decreases-pieces::value_part_of l = 80 * l.room + 1

abbrev pub decreases-rows::step_of : goal.decreases-rows::step_of
decreases-rows::step_of l = 80 * l.room + (rank_of l.place + 3)

abbrev pub decreases-rows::compared_of : goal.decreases-rows::compared_of
decreases-rows::compared_of l = 80 * l.room + (rank_of l.place + 3)

abbrev pub decreases-rows::two_of : goal.decreases-rows::two_of
decreases-rows::two_of l = 80 * l.room + (rank_of l.place + 4)

abbrev pub decreases-pieces::piece_of : goal.decreases-pieces::piece_of
decreases-pieces::piece_of l = 80 * l.room + (rank_of l.place + 2)

abbrev pub decreases-rows::turn_of : goal.decreases-rows::turn_of
decreases-rows::turn_of l = 80 * l.room + (rank_of l.place + 5)

abbrev pub decreases-rows::row_of : goal.decreases-rows::row_of
decreases-rows::row_of l = 80 * l.room + (rank_of l.place + 6)

abbrev pub decreases-rows::begun_of : goal.decreases-rows::begun_of
decreases-rows::begun_of l = 80 * l.room + (rank_of l.place + 7)

abbrev pub decreases-rows::ended_of : goal.decreases-rows::ended_of
decreases-rows::ended_of l = 80 * l.room + (rank_of l.place + 8)

abbrev pub decreases-values::expression_value_of : goal.decreases-values::expression_value_of
decreases-values::expression_value_of l = 80 * l.room + (rank_of l.place + 9)

abbrev pub decreases-values::value_of : goal.decreases-values::value_of
decreases-values::value_of l = 80 * l.room + (rank_of l.place + 10)

abbrev pub decreases-values::lone_value_of : goal.decreases-values::lone_value_of
decreases-values::lone_value_of l = 80 * l.room + 11

abbrev pub decreases-values::listed_item_of : goal.decreases-values::listed_item_of
decreases-values::listed_item_of l = 80 * l.room + 11

abbrev pub decreases-annotations::paired_item_of : goal.decreases-annotations::paired_item_of
decreases-annotations::paired_item_of l = 80 * l.room + 11

abbrev pub decreases-values::values_of : goal.decreases-values::values_of
decreases-values::values_of l = 80 * l.room + 12

abbrev pub decreases-annotations::pairs_of : goal.decreases-annotations::pairs_of
decreases-annotations::pairs_of l = 80 * l.room + 12

abbrev pub decreases-values::array_rest_of : goal.decreases-values::array_rest_of
decreases-values::array_rest_of l = 80 * l.room + 13

abbrev pub decreases-values::array_in : goal.decreases-values::array_in
decreases-values::array_in l = 80 * l.room + 14

abbrev pub decreases-annotations::first_pair_of : goal.decreases-annotations::first_pair_of
decreases-annotations::first_pair_of l = 80 * l.room + 13

abbrev pub decreases-annotations::pairs_or_value_of : goal.decreases-annotations::pairs_or_value_of
decreases-annotations::pairs_or_value_of l = 80 * l.room + 14

abbrev pub decreases-annotations::arguments_of : goal.decreases-annotations::arguments_of
decreases-annotations::arguments_of l = 80 * l.room + 15

abbrev pub decreases-annotations::annotation_body_of : goal.decreases-annotations::annotation_body_of
decreases-annotations::annotation_body_of l = 80 * l.room + 16

abbrev pub decreases-annotations::annotation_of : goal.decreases-annotations::annotation_of
decreases-annotations::annotation_of l = 80 * l.room + 17

abbrev pub decreases-annotations::more_annotations_of : goal.decreases-annotations::more_annotations_of
decreases-annotations::more_annotations_of l = 80 * l.room + 18

abbrev pub decreases-annotations::annotations_of : goal.decreases-annotations::annotations_of
decreases-annotations::annotations_of l = 80 * l.room + 19

abbrev pub decreases-type_arguments::optional_arguments_of : goal.decreases-type_arguments::optional_arguments_of
decreases-type_arguments::optional_arguments_of l = 80 * l.room + 1

abbrev pub decreases-types::named_part_of : goal.decreases-types::named_part_of
decreases-types::named_part_of l = 80 * l.room + 20

abbrev pub decreases-types::next_part_of : goal.decreases-types::next_part_of
decreases-types::next_part_of l = 80 * l.room + 21

abbrev pub decreases-types::more_parts_of : goal.decreases-types::more_parts_of
decreases-types::more_parts_of l = 80 * l.room + 22

abbrev pub decreases-types::parts_of : goal.decreases-types::parts_of
decreases-types::parts_of l = 80 * l.room + 23

abbrev pub decreases-types::class_type_of : goal.decreases-types::class_type_of
decreases-types::class_type_of l = 80 * l.room + 23

abbrev pub decreases-types::dim_of : goal.decreases-types::dim_of
decreases-types::dim_of l = 80 * l.room + 20

abbrev pub decreases-types::more_dims_of : goal.decreases-types::more_dims_of
decreases-types::more_dims_of l = 80 * l.room + 21

abbrev pub decreases-types::dims_of : goal.decreases-types::dims_of
decreases-types::dims_of l = 80 * l.room + 22

abbrev pub decreases-types::primitive_array_of : goal.decreases-types::primitive_array_of
decreases-types::primitive_array_of l = 80 * l.room + 23

abbrev pub decreases-types::class_array_of : goal.decreases-types::class_array_of
decreases-types::class_array_of l = 80 * l.room + 24

abbrev pub decreases-types::reference_of : goal.decreases-types::reference_of
decreases-types::reference_of l = 80 * l.room + 25

abbrev pub decreases-types::annotated_reference_of : goal.decreases-types::annotated_reference_of
decreases-types::annotated_reference_of l = 80 * l.room + 26

abbrev pub decreases-type_arguments::bounded_of : goal.decreases-type_arguments::bounded_of
decreases-type_arguments::bounded_of l = 80 * l.room + 27

abbrev pub decreases-type_arguments::wildcard_bound_of : goal.decreases-type_arguments::wildcard_bound_of
decreases-type_arguments::wildcard_bound_of l = 80 * l.room + 28

abbrev pub decreases-type_arguments::wildcard_of : goal.decreases-type_arguments::wildcard_of
decreases-type_arguments::wildcard_of l = 80 * l.room + 29

abbrev pub decreases-type_arguments::type_argument_of : goal.decreases-type_arguments::type_argument_of
decreases-type_arguments::type_argument_of l = 80 * l.room + 30

abbrev pub decreases-type_arguments::next_argument_of : goal.decreases-type_arguments::next_argument_of
decreases-type_arguments::next_argument_of l = 80 * l.room + 31

abbrev pub decreases-type_arguments::more_arguments_of : goal.decreases-type_arguments::more_arguments_of
decreases-type_arguments::more_arguments_of l = 80 * l.room + 32

abbrev pub decreases-type_arguments::arguments_in : goal.decreases-type_arguments::arguments_in
decreases-type_arguments::arguments_in l = 80 * l.room + 33

abbrev pub decreases-creations::created_arguments_in : goal.decreases-creations::created_arguments_in
decreases-creations::created_arguments_in l = 80 * l.room + 34

abbrev pub decreases-creations::created_part_of : goal.decreases-creations::created_part_of
decreases-creations::created_part_of l = 80 * l.room + 35

abbrev pub decreases-creations::next_created_part_of : goal.decreases-creations::next_created_part_of
decreases-creations::next_created_part_of l = 80 * l.room + 36

abbrev pub decreases-creations::more_created_parts_of : goal.decreases-creations::more_created_parts_of
decreases-creations::more_created_parts_of l = 80 * l.room + 37

abbrev pub decreases-creations::created_class_of : goal.decreases-creations::created_class_of
decreases-creations::created_class_of l = 80 * l.room + 38

abbrev pub decreases-creations::created_type_of : goal.decreases-creations::created_type_of
decreases-creations::created_type_of l = 80 * l.room + 39

abbrev pub decreases-creations::creation_of : goal.decreases-creations::creation_of
decreases-creations::creation_of l = 80 * l.room + 40

abbrev pub decreases-pieces::test_of : goal.decreases-pieces::test_of
decreases-pieces::test_of l = 80 * l.room + 35

abbrev pub decreases-pieces::test_name_of : goal.decreases-pieces::test_name_of
decreases-pieces::test_name_of l = 80 * l.room + 35

abbrev pub decreases-pieces::reference_end_of : goal.decreases-pieces::reference_end_of
decreases-pieces::reference_end_of l = 80 * l.room + 35

abbrev pub decreases-pieces::part_in : goal.decreases-pieces::part_in
decreases-pieces::part_in l = 80 * l.room + 41

abbrev pub invariant-types::more_parts_of-row : goal.invariant-types::more_parts_of-row
invariant-types::more_parts_of-row l = with_front l.all.items (reads l.room (many next_part) l.rest) ≡ with_front l.fn.front.items (reads l.room (many next_part) l.fn.symbols)

abbrev pub decreases-types::more_parts_of-row : goal.decreases-types::more_parts_of-row
decreases-types::more_parts_of-row l = length l.rest

abbrev pub invariant-type_arguments::more_arguments_of-row : goal.invariant-type_arguments::more_arguments_of-row
invariant-type_arguments::more_arguments_of-row l = with_front l.all.items (reads l.room (many next_argument) l.rest) ≡ with_front l.fn.front.items (reads l.room (many next_argument) l.fn.symbols)

abbrev pub decreases-type_arguments::more_arguments_of-row : goal.decreases-type_arguments::more_arguments_of-row
decreases-type_arguments::more_arguments_of-row l = length l.rest

abbrev pub invariant-types::more_dims_of-row : goal.invariant-types::more_dims_of-row
invariant-types::more_dims_of-row l = with_front l.all.items (reads l.room (many dim) l.rest) ≡ with_front l.fn.front.items (reads l.room (many dim) l.fn.symbols)

abbrev pub decreases-types::more_dims_of-row : goal.decreases-types::more_dims_of-row
decreases-types::more_dims_of-row l = length l.rest

abbrev pub invariant-annotations::more_annotations_of-row : goal.invariant-annotations::more_annotations_of-row
invariant-annotations::more_annotations_of-row l = with_front l.all.items (reads l.room (many annotation) l.rest) ≡ with_front l.fn.front.items (reads l.room (many annotation) l.fn.symbols)

abbrev pub decreases-annotations::more_annotations_of-row : goal.decreases-annotations::more_annotations_of-row
decreases-annotations::more_annotations_of-row l = length l.rest

abbrev pub invariant-creations::more_created_parts_of-row : goal.invariant-creations::more_created_parts_of-row
invariant-creations::more_created_parts_of-row l = turned silently (reads l.room (many next_created_part) l.rest) ≡ turned silently (reads l.room (many next_created_part) l.fn.symbols)

abbrev pub decreases-creations::more_created_parts_of-row : goal.decreases-creations::more_created_parts_of-row
decreases-creations::more_created_parts_of-row l = length l.rest

abbrev pub invariant-rows::row_of-row : goal.invariant-rows::row_of-row
invariant-rows::row_of-row l = RowSoFar l.room l.place (rest_read l.room l.place l.fn.leave l.fn.before l.symbols) l.symbols l.row

abbrev pub decreases-rows::row_of-row : goal.decreases-rows::row_of-row
decreases-rows::row_of-row l = length l.row.rest.now

abbrev pub invariant-values::values_of-row : goal.invariant-values::values_of-row
invariant-values::values_of-row l = SoFar (values_from l.room l.fn.symbols) l.all.items l.far (values_from l.room l.rest)

abbrev pub decreases-values::values_of-row : goal.decreases-values::values_of-row
decreases-values::values_of-row l = length l.rest

abbrev pub invariant-annotations::pairs_of-row : goal.invariant-annotations::pairs_of-row
invariant-annotations::pairs_of-row l = SoFar (pairs_from l.room l.fn.first l.fn.symbols) l.all.items l.far (pairs_from l.room l.name l.rest)

abbrev pub decreases-annotations::pairs_of-row : goal.decreases-annotations::pairs_of-row
decreases-annotations::pairs_of-row l = length l.rest
