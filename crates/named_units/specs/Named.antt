-- What a question names: the units of its elements, those in mirrors included, and by name the text with its prefixes.
-- What lies beyond the reach of the roots hangs on that.
use Rattle.std.specs.Prelude.{ℕ, Bool, true, false, not, ◌&&◌, ◌==◌, is_some, List, [], length, map}
use Rattle.std.specs.List.{list_any}
use Rattle.std.specs.Str.{bytes_eq}
use Rattle.apt_base.specs.Identifiers.{parts}
use Rattle.apt_base.specs.Names.{NameSet, with_names}
use Rattle.apt_base.specs.declared.element.ElementRef.{ElementRef}
use Rattle.element_table.specs.declared.part.Part.TheVariants.{Stub}
use Rattle.element_table.specs.TypeTable.{TypeTable}
use Rattle.element_table.specs.TableElements.{info_package}
use Rattle.frame_forms.specs.declared.question_row.NameQuestion.{NameQuestion}
use Rattle.frame_forms.specs.declared.question_row.NameQuestion.TheVariants.{TypeElement, PackageElement, AnnotatedWith}
use Rattle.frame_forms.specs.declared.question_row.ElementQuestion.{ElementQuestion}
use Rattle.frame_forms.specs.declared.question_row.ElementQuestion.TheVariants as about
use Rattle.wire_frames.specs.declared.question.Question.{Question}
use Rattle.wire_frames.specs.declared.question.Question.TheVariants as questions
use Rattle.name_resolve.specs.Meaning.{tops_of, imported}
use Rattle.name_resolve.specs.QualifiedNames.{Prefix, prefixes}
use Rattle.type_mirror.specs.declared.mirror.BaseMirror.{BaseMirror}
use Rattle.type_mirror.specs.declared.mirror.BaseMirror.TheVariants as base
use Rattle.type_mirror.specs.declared.mirror.DeclaredMirror.{DeclaredMirror}
use Rattle.type_mirror.specs.declared.mirror.ExecutableMirror.{ExecutableMirror}
use Rattle.type_mirror.specs.Parts.{plain}
use Rattle.child_questions.specs.Verdicts.{elements_of}
use Rattle.child_questions.specs.NamedElements.{question_elements}
use Rattle.element_facts.specs.NamedTypes.{found_element}

-- ---- names

abbrev pub unit_in : ElementRef → List ℕ
unit_in at = at.unit

-- the units of elements
abbrev pub units_of : List ElementRef → List (List ℕ)
units_of elements = map unit_in elements

abbrev pub joined_in : Prefix → List ℕ
joined_in prefix = prefix.joined

-- the text and its prefixes, the shortest first
abbrev pub prefixes_in : List ℕ → List (List ℕ)
prefixes_in name = map joined_in (prefixes (parts name))

-- the stubs have a type of this canonical name
unfoldable pub is_stub_type : TypeTable → List ℕ → Bool
is_stub_type table name = is_some (found_element (imported (tops_of table) Stub (parts name)))

abbrev pub unless_stub : Bool → List (List ℕ) → List (List ℕ)
unless_stub true names = []
unless_stub false names = names

-- a question for a package by its name, or for annotated elements, names no unit
abbrev pub named_units : TypeTable → NameQuestion → List ℕ → List (List ℕ)
named_units table TypeElement name = unless_stub (is_stub_type table name) (prefixes_in name)
named_units table PackageElement name = []
named_units table AnnotatedWith name = []

-- the units that a question names, in order
unfoldable pub names_of : TypeTable → Question → List (List ℕ)
names_of table (questions.Name of name) = named_units table of name
names_of table question = units_of (question_elements question)

-- ---- questions that reach over all units

-- an element by which a package is meant, whether it is there or not
abbrev pub is_package : ElementRef → Bool
is_package at = (length at.path == 0) && is_some (info_package at.unit)

abbrev pub asks_for_package : NameQuestion → Bool
asks_for_package TypeElement = false
asks_for_package PackageElement = true
asks_for_package AnnotatedWith = false

abbrev pub asks_in_package : ElementQuestion → ElementRef → Bool
asks_in_package about.Enclosed at = is_package at
asks_in_package question at = false

-- it asks for a package by its name, or for the types of one
unfoldable pub is_wide : Question → Bool
is_wide (questions.Name of name) = asks_for_package of
is_wide (questions.Element of at) = asks_in_package of at
is_wide question = false

-- ---- questions that reach over all roots

abbrev pub asks_beside : List (List ℕ) → NameQuestion → List ℕ → Bool
asks_beside offered AnnotatedWith name = not (list_any (bytes_eq name) offered)
asks_beside offered question name = false

-- it asks for the roots, or for the elements of an annotation that was not offered
unfoldable pub gathers : List (List ℕ) → Question → Bool
gathers offered (questions.Name of name) = asks_beside offered of name
gathers offered questions.Roots = true
gathers offered question = false

-- ---- sets of units

abbrev pub with_units : NameSet → List ElementRef → NameSet
with_units names elements = with_names names (units_of elements)

-- the elements that a base, a class type or the types of a method name
abbrev pub in_base : BaseMirror → List ElementRef
in_base b = elements_of (plain b)

abbrev pub in_declared : DeclaredMirror → List ElementRef
in_declared d = in_base (base.Declared d)

abbrev pub in_executable : ExecutableMirror → List ElementRef
in_executable e = in_base (base.Executable e)
