-- Type variables replaced by types, all at once (JLS 4.10.2: the substitution [F1:=T1, ..., Fn:=Tn]).
use Rattle.std.specs.Prelude.{◌≡◌, Bool, true, not, ◌&&◌, List, [], ◌∷◌, map, find, unwrap_or, Option, None}
use Rattle.std.specs.List.{IsDistinct, AllByRecursion, flat_map, list_any}
use Rattle.std.specs.Option.{option_map}
use Rattle.apt_base.specs.Elements.{same_element}
use Rattle.apt_base.specs.declared.element.ElementRef.{ElementRef}
use Rattle.type_mirror.specs.declared.mirror.BaseMirror.{BaseMirror}
use Rattle.type_mirror.specs.declared.mirror.BaseMirror.TheVariants as base
use Rattle.type_mirror.specs.declared.mirror.BaseMirror.TheOpen.{BaseMirror-F, Mirror-F, DeclaredMirror-F, ExecutableMirror-F}
use Rattle.type_mirror.specs.declared.mirror.BaseMirror.TheFolds.{fold-BaseMirror, fold-Mirror, fold-DeclaredMirror, fold-ExecutableMirror}
use Rattle.type_mirror.specs.declared.mirror.Mirror.{Mirror}
use Rattle.type_mirror.specs.declared.mirror.DeclaredMirror.{DeclaredMirror, roll-DeclaredMirror}
use Rattle.type_mirror.specs.declared.mirror.ExecutableMirror.{ExecutableMirror, roll-ExecutableMirror}
use Rattle.type_mirror.specs.Parts.{plain, wrapped, base_parts, declared_parts, executable_parts}

-- variables, each with the type that is put in its place
abbrev pub Replacements : Type 0
Replacements = List (ElementRef × Mirror)

-- no variable stands twice in the list
abbrev pub AreDistinct : Replacements → Type 0
AreDistinct by = IsDistinct same_element (map (λ pair. pair.0) by)

-- the same as a test: no variable is among those after it
abbrev pub is_distinct : Replacements → Bool
is_distinct [] = true
is_distinct (first ∷ others) = not (list_any (λ pair. same_element first.0 pair.0) others) && is_distinct others

-- what is put in the place of that variable, where the list has it
abbrev pub replacement : Replacements → ElementRef → Option Mirror
replacement by element = option_map (λ pair. pair.1) (find (λ pair. same_element pair.0 element) by)

-- what stands in the place of a variable: what the list has for it, or the variable itself
abbrev pub in_place : Replacements → ElementRef → Mirror
in_place by element = unwrap_or (replacement by element) (plain (base.Variable element))

-- a base whose parts are replaced already: a variable is looked up, and anything else is put together again
abbrev pub replaced_base : Replacements → BaseMirror-F Mirror DeclaredMirror ExecutableMirror Mirror → Mirror
replaced_base by (BaseMirror-F.Variable element) = in_place by element
replaced_base by (BaseMirror-F.Primitive kind) = plain (base.Primitive kind)
replaced_base by (BaseMirror-F.Declared declared) = plain (base.Declared declared)
replaced_base by (BaseMirror-F.Error text) = plain (base.Error text)
replaced_base by BaseMirror-F.Wildcard = plain base.Wildcard
replaced_base by (BaseMirror-F.Executable executable) = plain (base.Executable executable)
replaced_base by BaseMirror-F.Nothing = plain base.Nothing
replaced_base by BaseMirror-F.Void = plain base.Void
replaced_base by BaseMirror-F.Null = plain base.Null
replaced_base by (BaseMirror-F.Package name) = plain (base.Package name)

-- what stands around a base stands around what comes of it, further out
abbrev pub replaced_mirror : Mirror-F Mirror DeclaredMirror ExecutableMirror Mirror → Mirror
replaced_mirror mirror = wrapped mirror.around mirror.base

abbrev pub replaced_declared : DeclaredMirror-F Mirror DeclaredMirror ExecutableMirror Mirror → DeclaredMirror
replaced_declared declared = roll-DeclaredMirror (record { element = declared.element; enclosing = declared.enclosing; arguments = declared.arguments })

abbrev pub replaced_executable : ExecutableMirror-F Mirror DeclaredMirror ExecutableMirror Mirror → ExecutableMirror
replaced_executable executable = roll-ExecutableMirror (record {
  variables = executable.variables;
  parameters = executable.parameters;
  result = executable.result;
  thrown = executable.thrown;
})

unfoldable pub substituted : Replacements → Mirror → Mirror
substituted by = fold-Mirror Mirror DeclaredMirror ExecutableMirror Mirror (replaced_base by) replaced_declared replaced_executable replaced_mirror

unfoldable pub substituted_base : Replacements → BaseMirror → Mirror
substituted_base by = fold-BaseMirror Mirror DeclaredMirror ExecutableMirror Mirror (replaced_base by) replaced_declared replaced_executable replaced_mirror

unfoldable pub substituted_declared : Replacements → DeclaredMirror → DeclaredMirror
substituted_declared by = fold-DeclaredMirror Mirror DeclaredMirror ExecutableMirror Mirror (replaced_base by) replaced_declared replaced_executable replaced_mirror

unfoldable pub substituted_executable : Replacements → ExecutableMirror → ExecutableMirror
substituted_executable by = fold-ExecutableMirror Mirror DeclaredMirror ExecutableMirror Mirror (replaced_base by) replaced_declared replaced_executable replaced_mirror

-- ---- variables

abbrev pub Variables : Type 0
Variables = List ElementRef

-- the variables that stand in a mirror as types, from left to right; an executable's own type parameters do not stand there as types
abbrev pub base_variables_step : BaseMirror-F Variables (List Variables) (List Variables) Variables → Variables
base_variables_step (BaseMirror-F.Variable element) = element ∷ []
base_variables_step other = flat_map (λ variables. variables) (base_parts other)

abbrev pub variables_step : Mirror-F Variables (List Variables) (List Variables) Variables → Variables
variables_step mirror = mirror.base

unfoldable pub variables : Mirror → Variables
variables = fold-Mirror Variables (List Variables) (List Variables) Variables base_variables_step declared_parts executable_parts variables_step

-- none of these variables is in the list
abbrev pub HasNone : Replacements → Variables → Type 0
HasNone by elements = AllByRecursion (λ element. replacement by element ≡ None) elements

-- the variables of what stands in the place of each of these, from left to right
abbrev pub variables_in_place : Replacements → Variables → Variables
variables_in_place by = flat_map (λ element. variables (in_place by element))
