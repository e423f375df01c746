-- How deep mirrors, values and annotations are nested: mirrors and values count, each one more than the deepest that it holds.
use Rattle.std.specs.Prelude.{ℕ, ◌+◌, ◌-◌, ◌^◌, List, [], ◌∷◌, length, max, min}
use Rattle.type_mirror.specs.declared.mirror.BaseMirror.{BaseMirror}
use Rattle.type_mirror.specs.declared.mirror.BaseMirror.TheOpen.{BaseMirror-F, Mirror-F}
use Rattle.type_mirror.specs.declared.mirror.BaseMirror.TheFolds.{fold-BaseMirror, fold-Mirror, fold-DeclaredMirror, fold-ExecutableMirror}
use Rattle.type_mirror.specs.declared.mirror.Mirror.{Mirror}
use Rattle.type_mirror.specs.declared.mirror.DeclaredMirror.{DeclaredMirror}
use Rattle.type_mirror.specs.declared.mirror.ExecutableMirror.{ExecutableMirror}
use Rattle.type_mirror.specs.declared.value.Value.{Value}
use Rattle.type_mirror.specs.declared.value.Value.TheOpen.{Value-F, Annotation-F, NamedValue-F}
use Rattle.type_mirror.specs.declared.value.Value.TheFolds.{fold-Value, fold-Annotation, fold-NamedValue}
use Rattle.type_mirror.specs.declared.value.Annotation.{Annotation}
use Rattle.type_mirror.specs.declared.value.NamedValue.{NamedValue}
use Rattle.type_mirror.specs.Parts.{base_parts, declared_parts, executable_parts}

abbrev pub deepest : List ℕ → ℕ
deepest [] = 0
deepest (first ∷ others) = max first (deepest others)

-- a nesting that is greater than a `u32` is counted as the largest one
abbrev pub capped : ℕ → ℕ
capped nesting = min nesting (2 ^ 32 - 1)

-- ---- mirrors

abbrev pub base_step : BaseMirror-F ℕ (List ℕ) (List ℕ) ℕ → ℕ
base_step base = deepest (base_parts base) + 1

-- each array holds its item, and each wildcard its bound
abbrev pub mirror_step : Mirror-F ℕ (List ℕ) (List ℕ) ℕ → ℕ
mirror_step mirror = length mirror.around + mirror.base

unfoldable pub nesting : Mirror → ℕ
nesting = fold-Mirror ℕ (List ℕ) (List ℕ) ℕ base_step declared_parts executable_parts mirror_step

unfoldable pub base_nesting : BaseMirror → ℕ
base_nesting = fold-BaseMirror ℕ (List ℕ) (List ℕ) ℕ base_step declared_parts executable_parts mirror_step

-- the nestings of what these hold
unfoldable pub declared_nestings : DeclaredMirror → List ℕ
declared_nestings = fold-DeclaredMirror ℕ (List ℕ) (List ℕ) ℕ base_step declared_parts executable_parts mirror_step

unfoldable pub executable_nestings : ExecutableMirror → List ℕ
executable_nestings = fold-ExecutableMirror ℕ (List ℕ) (List ℕ) ℕ base_step declared_parts executable_parts mirror_step

-- ---- values and annotations

-- what a value holds: a mirror, values, or what an annotation holds
abbrev pub value_parts : Value-F ℕ (List ℕ) ℕ → List ℕ
value_parts (Value-F.Class of) = nesting of ∷ []
value_parts (Value-F.Array items) = items
value_parts (Value-F.Nested parts) = parts
value_parts other = []

abbrev pub value_step : Value-F ℕ (List ℕ) ℕ → ℕ
value_step value = deepest (value_parts value) + 1

-- an annotation holds its type and its values; it doesn't count itself
abbrev pub annotation_parts : Annotation-F ℕ (List ℕ) ℕ → List ℕ
annotation_parts annotation = nesting annotation.annotation_type ∷ annotation.values

abbrev pub named_step : NamedValue-F ℕ (List ℕ) ℕ → ℕ
named_step named = named.value

unfoldable pub value_nesting : Value → ℕ
value_nesting = fold-Value ℕ (List ℕ) ℕ value_step annotation_parts named_step

unfoldable pub named_nesting : NamedValue → ℕ
named_nesting = fold-NamedValue ℕ (List ℕ) ℕ value_step annotation_parts named_step

unfoldable pub annotation_nestings : Annotation → List ℕ
annotation_nestings = fold-Annotation ℕ (List ℕ) ℕ value_step annotation_parts named_step

unfoldable pub annotation_nesting : Annotation → ℕ
annotation_nesting annotation = deepest (annotation_nestings annotation)
