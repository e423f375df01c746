-- What an element goes by as a member, in memory, as a value.
use Rattle.type_elements.specs.MemberElements as elements
use Rattle.type_elements.specs.declared.names.MemberName.{MemberName}
use Rattle.type_elements.specs.declared.names.MemberName.TheVariants.{Field, Nested, Method, Constructor, Nothing}

abbrev pub shown_name : MemberName → elements.MemberName
shown_name (Field name) = elements.FieldName name.now
shown_name (Nested name) = elements.TypeName name.now
shown_name (Method name) = elements.MethodName name.now
shown_name Constructor = elements.OfConstructor
shown_name Nothing = elements.NoName
