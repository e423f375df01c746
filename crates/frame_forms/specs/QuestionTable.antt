-- The table of a child's questions: each with its tag, its name, what it wants of its arguments, and the frame of
-- its reply. Those of a group have one form of arguments, and the other rows have a form of their own. A new question
-- of a group is one line here.
use Rattle.std.specs.Prelude.{ℕ, List, [], ◌∷◌, ◌++◌, map, find, codes, ◌==◌, Option}
use Rattle.frame_forms.specs.declared.question_row.WantedElement.{WantedElement}
use Rattle.frame_forms.specs.declared.question_row.WantedElement.TheVariants as element
use Rattle.frame_forms.specs.declared.question_row.WantedMirror.{WantedMirror}
use Rattle.frame_forms.specs.declared.question_row.WantedMirror.TheVariants as mirror
use Rattle.frame_forms.specs.declared.question_row.NameQuestion.{NameQuestion}
use Rattle.frame_forms.specs.declared.question_row.NameQuestion.TheVariants.{TypeElement, PackageElement, AnnotatedWith}
use Rattle.frame_forms.specs.declared.question_row.ElementQuestion.{ElementQuestion}
use Rattle.frame_forms.specs.declared.question_row.ElementQuestion.TheVariants.{Info, Enclosing, Enclosed, TypeParameters, Parameters, PackageOf, DocComment, Annotations, AllAnnotations, DefaultValue, ConstantValue, AllMembers, TypeOf, Superclass, Interfaces, Bounds}
use Rattle.frame_forms.specs.declared.question_row.MirrorQuestion.{MirrorQuestion}
use Rattle.frame_forms.specs.declared.question_row.MirrorQuestion.TheVariants.{DirectSupertypes, Erasure, Boxed, Unboxed, AsElement, PrintType, ArrayType}
use Rattle.frame_forms.specs.declared.question_row.MirrorsQuestion.{MirrorsQuestion}
use Rattle.frame_forms.specs.declared.question_row.MirrorsQuestion.TheVariants.{SameType, Subtype, Assignable, Contains, Subsignature}
use Rattle.frame_forms.specs.declared.question_row.QuestionRow.{QuestionRow}
use Rattle.frame_forms.specs.declared.question_row.QuestionRow.TheVariants as rows

-- ---- rows

-- the frame of a reply
pub data ReplyFrame : Type 0 where
  elements info texts annotations values mirrors truth : ReplyFrame

-- what the arguments of a row with a form of its own have to be
pub data WantedTogether : Type 0 where
  -- an element, and the number of an annotation that is there
  of_an_annotation : WantedTogether
  -- two methods and a type
  methods_and_type : WantedTogether
  -- a class type, and an element that is no type parameter, in a type that is reached from the element of the
  -- class type
  of_a_member : WantedTogether
  -- a type, and as many arguments as it has type parameters, or none
  as_many_arguments : WantedTogether
  -- no arguments
  nothing_wanted : WantedTogether

-- a row, by what it wants of its arguments
pub record Asked (W : Type 0) : Type 0 where
  pub tag : ℕ
  pub name : List ℕ
  pub wanted : W
  pub reply : ReplyFrame

abbrev pub ask : {W : Type 0} → ℕ → List ℕ → W → ReplyFrame → Asked W
ask tag name wanted reply = record { tag = tag; name = name; wanted = wanted; reply = reply }

-- ---- the table

-- about a name, of which nothing is wanted
abbrev pub asked_of_name : NameQuestion → Asked (Unit {0})
-- name: the type with this canonical name, if any; a stub comes first
asked_of_name TypeElement = ask 80 (codes "TypeElement") tt elements
-- name: the package with this name, if any
asked_of_name PackageElement = ask 81 (codes "PackageElement") tt elements
-- name: the elements of the round's roots on which the annotation with this canonical name is present
asked_of_name AnnotatedWith = ask 114 (codes "AnnotatedWith") tt elements

-- about an element
abbrev pub asked_of_element : ElementQuestion → Asked WantedElement
-- element: what the element is
asked_of_element Info = ask 82 (codes "Info") element.Any info
-- element: the element around it, if any; of a top-level type its package
asked_of_element Enclosing = ask 83 (codes "Enclosing") element.Any elements
-- element: of a type the elements in it without type parameters, of a package its top-level types, of others
-- none
asked_of_element Enclosed = ask 84 (codes "Enclosed") element.Any elements
-- element: its type parameters
asked_of_element TypeParameters = ask 85 (codes "TypeParameters") element.Parameterizable elements
-- element: its parameters
asked_of_element Parameters = ask 86 (codes "Parameters") element.Executable elements
-- element: the package that it is in
asked_of_element PackageOf = ask 87 (codes "PackageOf") element.Any elements
-- element: its documentation comment, if any
asked_of_element DocComment = ask 88 (codes "DocComment") element.Any texts
-- element: the annotations that are written on it
asked_of_element Annotations = ask 89 (codes "Annotations") element.Any annotations
-- element: those, and then the inherited ones
asked_of_element AllAnnotations = ask 90 (codes "AllAnnotations") element.Any annotations
-- element: its default value, if any, with the empty name
asked_of_element DefaultValue = ask 92 (codes "DefaultValue") element.Method values
-- element: its constant value, if any, with the empty name
asked_of_element ConstantValue = ask 93 (codes "ConstantValue") element.Field values
-- element: its members, and then the inherited ones, those of the superclass first
asked_of_element AllMembers = ask 94 (codes "AllMembers") element.TypeElement elements
-- element: its type; of a type with its own variables as arguments
asked_of_element TypeOf = ask 96 (codes "TypeOf") element.Any mirrors
-- element: its superclass; Nothing for an interface and for `java.lang.Object`
asked_of_element Superclass = ask 97 (codes "Superclass") element.TypeElement mirrors
-- element: its interfaces
asked_of_element Interfaces = ask 98 (codes "Interfaces") element.TypeElement mirrors
-- element: its bounds, or `java.lang.Object` where none is written
asked_of_element Bounds = ask 99 (codes "Bounds") element.TypeParameter mirrors

-- about two mirrors
abbrev pub asked_of_mirrors : MirrorsQuestion → Asked WantedMirror
-- one, other: whether they are the same type; no where one is a wildcard
asked_of_mirrors SameType = ask 100 (codes "SameType") mirror.Any truth
-- one, other: whether the first is a subtype of the second (JLS 4.10)
asked_of_mirrors Subtype = ask 101 (codes "Subtype") mirror.NoPackageOrExecutable truth
-- one, other: whether the first is a subtype of the second, also after boxing or unboxing, or of its erasure
asked_of_mirrors Assignable = ask 102 (codes "Assignable") mirror.NoPackageOrExecutable truth
-- one, other: whether the first, as a type argument, contains the second (JLS 4.5.1)
asked_of_mirrors Contains = ask 103 (codes "Contains") mirror.NoPackageOrExecutable truth
-- one, other: whether the first has the parameters of the second, or those of its erasure (JLS 8.4.2)
asked_of_mirrors Subsignature = ask 104 (codes "Subsignature") mirror.Executable truth

-- about a mirror
abbrev pub asked_of_mirror : MirrorQuestion → Asked WantedMirror
-- mirror: its direct supertypes, the superclass first
asked_of_mirror DirectSupertypes = ask 105 (codes "DirectSupertypes") mirror.NoPackageOrExecutable mirrors
-- mirror: its erasure (JLS 4.6)
asked_of_mirror Erasure = ask 106 (codes "Erasure") mirror.NoPackage mirrors
-- mirror: the class that boxes it (JLS 5.1.7)
asked_of_mirror Boxed = ask 107 (codes "Boxed") mirror.Primitive mirrors
-- mirror: the primitive type that unboxing gives (JLS 5.1.8)
asked_of_mirror Unboxed = ask 108 (codes "Unboxed") mirror.PrimitiveBox mirrors
-- mirror: the element of a declared type or a type variable, none of any other
asked_of_mirror AsElement = ask 110 (codes "AsElement") mirror.Any elements
-- mirror: the type as a text
asked_of_mirror PrintType = ask 111 (codes "PrintType") mirror.Any texts
-- mirror: the array type with this item
asked_of_mirror ArrayType = ask 113 (codes "ArrayType") mirror.ArrayItem mirrors

-- element, annotation: the values of the annotation with this number among those of AllAnnotations, from 0, and then
-- the defaults of its other elements
abbrev pub asked_values : Asked WantedTogether
asked_values = ask 91 (codes "ValuesWithDefaults") of_an_annotation values

-- overrider, overridden, in_type: whether the first method, as a member of the type, overrides the second
-- (JLS 8.4.8.1)
abbrev pub asked_overrides : Asked WantedTogether
asked_overrides = ask 95 (codes "Overrides") methods_and_type truth

-- container, element: the type of the member as it is in the container
abbrev pub asked_member : Asked WantedTogether
asked_member = ask 109 (codes "MemberType") of_a_member mirrors

-- element, arguments: the type of the element with these arguments
abbrev pub asked_declared : Asked WantedTogether
asked_declared = ask 112 (codes "DeclaredType") as_many_arguments mirrors

-- the round's roots, in order
abbrev pub asked_roots : Asked WantedTogether
asked_roots = ask 115 (codes "Roots") nothing_wanted elements

-- ---- all rows

abbrev pub question_tag : QuestionRow → ℕ
question_tag (rows.Name question) = (asked_of_name question).tag
question_tag (rows.Element question) = (asked_of_element question).tag
question_tag (rows.Mirror question) = (asked_of_mirror question).tag
question_tag (rows.Mirrors question) = (asked_of_mirrors question).tag
question_tag rows.ValuesWithDefaults = asked_values.tag
question_tag rows.Overrides = asked_overrides.tag
question_tag rows.MemberType = asked_member.tag
question_tag rows.DeclaredType = asked_declared.tag
question_tag rows.Roots = asked_roots.tag

abbrev pub question_reply : QuestionRow → ReplyFrame
question_reply (rows.Name question) = (asked_of_name question).reply
question_reply (rows.Element question) = (asked_of_element question).reply
question_reply (rows.Mirror question) = (asked_of_mirror question).reply
question_reply (rows.Mirrors question) = (asked_of_mirrors question).reply
question_reply rows.ValuesWithDefaults = asked_values.reply
question_reply rows.Overrides = asked_overrides.reply
question_reply rows.MemberType = asked_member.reply
question_reply rows.DeclaredType = asked_declared.reply
question_reply rows.Roots = asked_roots.reply

abbrev pub all_rows : List QuestionRow
all_rows =
    map (λ question. rows.Name question) (TypeElement ∷ PackageElement ∷ AnnotatedWith ∷ [])
    ++ (map (λ question. rows.Element question) (Info ∷ Enclosing ∷ Enclosed ∷ TypeParameters ∷ Parameters ∷ PackageOf ∷ DocComment ∷ Annotations ∷ AllAnnotations ∷ DefaultValue ∷ ConstantValue ∷ AllMembers ∷ TypeOf ∷ Superclass ∷ Interfaces ∷ Bounds ∷ [])
    ++ (map (λ question. rows.Mirror question) (DirectSupertypes ∷ Erasure ∷ Boxed ∷ Unboxed ∷ AsElement ∷ PrintType ∷ ArrayType ∷ [])
    ++ (map (λ question. rows.Mirrors question) (SameType ∷ Subtype ∷ Assignable ∷ Contains ∷ Subsignature ∷ [])
    ++ (rows.ValuesWithDefaults ∷ rows.Overrides ∷ rows.MemberType ∷ rows.DeclaredType ∷ rows.Roots ∷ []))))

-- the row with this tag
unfoldable pub question_at : ℕ → Option QuestionRow
question_at tag = find (λ row. question_tag row == tag) all_rows
