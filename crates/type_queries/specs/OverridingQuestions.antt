-- The question whether a method overrides another one in a type: which elements have to be there, which kinds are wanted, and the answer.
use Rattle.std.specs.Prelude.{Bool, ◌&&◌}
use Rattle.apt_base.specs.declared.element.ElementRef.{ElementRef}
use Rattle.apt_base.specs.Limits.{max_type_steps}
use Rattle.element_table.specs.TypeTable.{TypeTable}
use Rattle.type_resolve.specs.Scopes.{is_type}
use Rattle.type_relations.specs.Elements.{is_there}
use Rattle.type_elements.specs.MemberElements.{is_method}
use Rattle.type_listing.specs.Overrides.{overrides}
use Rattle.type_queries.specs.Verdicts.{Verdict, judged, truth}

-- all three
abbrev pub are_elements_there : TypeTable → ElementRef → ElementRef → ElementRef → Bool
are_elements_there table one other within = is_there table one && is_there table other && is_there table within

-- two methods and a type
abbrev pub are_methods_and_type : TypeTable → ElementRef → ElementRef → ElementRef → Bool
are_methods_and_type table one other within = is_method table one && is_method table other && is_type table within

unfoldable pub overrides_question : TypeTable → ElementRef → ElementRef → ElementRef → Verdict Bool
overrides_question table one other within =
    judged (are_elements_there table one other within) (are_methods_and_type table one other within)
    (truth (overrides table max_type_steps one other within))
