-- The question on the members of a type: the element has to be there, and to be a type.
use Rattle.std.specs.Prelude.{List}
use Rattle.apt_base.specs.declared.element.ElementRef.{ElementRef}
use Rattle.apt_base.specs.Limits.{max_type_steps}
use Rattle.element_table.specs.TypeTable.{TypeTable}
use Rattle.type_resolve.specs.Scopes.{is_type}
use Rattle.type_relations.specs.Elements.{is_there}
use Rattle.type_listing.specs.Members.{members}
use Rattle.type_queries.specs.Verdicts.{Verdict, value, judged}

-- a type
unfoldable pub members_question : TypeTable → ElementRef → Verdict (List ElementRef)
members_question table at = judged (is_there table at) (is_type table at) (value (members table max_type_steps at))
