-- The elements that a child's frames name, in order, those within mirrors included.
use Rattle.std.specs.Prelude.{Bool, List, [], ◌∷◌, ◌++◌}
use Rattle.std.specs.List.{flat_map, list_all}
use Rattle.std.specs.Option.{option_to_list}
use Rattle.apt_base.specs.declared.element.ElementRef.{ElementRef}
use Rattle.element_table.specs.TypeTable.{TypeTable}
use Rattle.type_relations.specs.Elements.{is_there}
use Rattle.type_queries.specs.Verdicts.{elements_of}
use Rattle.wire_frames.specs.declared.frame.Creation.{Creation}
use Rattle.wire_frames.specs.declared.frame.Creation.TheVariants as creations
use Rattle.wire_frames.specs.declared.frame.Message.{Message}
use Rattle.wire_frames.specs.declared.question.Question.{Question}
use Rattle.wire_frames.specs.declared.question.Question.TheVariants as questions

-- by the form of its arguments; an element that is named twice is there twice
unfoldable pub question_elements : Question → List ElementRef
question_elements (questions.Name of name) = []
question_elements (questions.Element of at) = at ∷ []
question_elements (questions.Mirror of m) = elements_of m
question_elements (questions.Mirrors of one other) = elements_of one ++ elements_of other
question_elements (questions.ValuesWithDefaults at number) = at ∷ []
question_elements (questions.Overrides overrider overridden in_type) = overrider ∷ overridden ∷ in_type ∷ []
question_elements (questions.MemberType container at) = elements_of container ++ at ∷ []
question_elements (questions.DeclaredType at arguments) = at ∷ flat_map elements_of arguments
question_elements questions.Roots = []

-- the originating elements of a file
abbrev pub creation_elements : Creation → List ElementRef
creation_elements (creations.Source name content origins) = origins
creation_elements (creations.Resource location folder relative content origins) = origins
creation_elements (creations.Class name content origins) = origins

-- that at which a message is printed
abbrev pub message_elements : Message → List ElementRef
message_elements message = option_to_list message.element

-- something stands at each of them
abbrev pub are_all_there : TypeTable → List ElementRef → Bool
are_all_there table elements = list_all (is_there table) elements
