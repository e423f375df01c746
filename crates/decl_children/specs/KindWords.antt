-- The words with which types of each kind begin, their modifiers aside (JLS 8.1, 8.9, 9.1, 9.6).
use Rattle.std.specs.Prelude.{ℕ, Bool, true, false}
use Rattle.decl_tree.specs.declared.declaration.TypeKind.{TypeKind}
use Rattle.decl_tree.specs.declared.declaration.TypeKind.TheVariants as kind
use Rattle.decl_grammar.specs.Symbols.{word, at_interface}
use Rattle.decl_grammar.specs.TokenNames as token

abbrev pub front_word : TypeKind → ℕ
front_word kind.Enum = word token.enum
front_word kind.Class = word token.class
front_word kind.AnnotationType = at_interface
front_word kind.Interface = word token.interface

abbrev pub is_enum : TypeKind → Bool
is_enum kind.Enum = true
is_enum kind.Class = false
is_enum kind.AnnotationType = false
is_enum kind.Interface = false
