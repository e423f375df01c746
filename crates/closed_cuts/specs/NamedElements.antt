-- The elements that values and annotations name, from left to right: those in the types of class literals and
-- of annotations, and enum constants.
use Rattle.std.specs.Prelude.{List, [], ◌∷◌, ◌++◌}
use Rattle.std.specs.List.{flat_map}
use Rattle.apt_base.specs.declared.element.ElementRef.{ElementRef}
use Rattle.type_mirror.specs.declared.value.Value.{Value}
use Rattle.type_mirror.specs.declared.value.Value.TheOpen.{Value-F, Annotation-F, NamedValue-F}
use Rattle.type_mirror.specs.declared.value.Value.TheFolds.{fold-Value, fold-Annotation}
use Rattle.type_mirror.specs.declared.value.Annotation.{Annotation}
use Rattle.type_queries.specs.Verdicts.{elements_of}

abbrev pub Elements : Type 0
Elements = List ElementRef

abbrev pub value_step : Value-F Elements Elements Elements → Elements
value_step (Value-F.Class of) = elements_of of
value_step (Value-F.Constant at) = at ∷ []
value_step (Value-F.Array items) = flat_map (λ elements. elements) items
value_step (Value-F.Nested annotation) = annotation
value_step _ = []

abbrev pub annotation_step : Annotation-F Elements Elements Elements → Elements
annotation_step annotation =
    elements_of annotation.annotation_type ++ flat_map (λ elements. elements) annotation.values

abbrev pub named_step : NamedValue-F Elements Elements Elements → Elements
named_step named = named.value

unfoldable pub value_elements : Value → Elements
value_elements = fold-Value Elements Elements Elements value_step annotation_step named_step

unfoldable pub annotation_elements : Annotation → Elements
annotation_elements = fold-Annotation Elements Elements Elements value_step annotation_step named_step
