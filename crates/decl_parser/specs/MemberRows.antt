-- What functions read of members with their modifiers, in words: members behind others.
use Rattle.std.specs.Prelude.{ℕ, true, List, [], ◌∷◌, ◌++◌}
use Rattle.decl_grammar.specs.declared.written.MemberAt.{MemberAt}
use Rattle.decl_tree.specs.declared.declaration.TypeKind.{TypeKind}
use Rattle.decl_grammar.specs.declared.symbol.Symbol.{Symbol}
use Rattle.decl_grammar.specs.declared.written.Modifiers.{Modifiers}
use Rattle.decl_grammar.specs.declared.written.Unmodified.{Unmodified}
use Rattle.decl_grammar.specs.Reading.{Outcome}
use Rattle.decl_grammar.specs.Form.{Form, many, turned, with_front, modifier_words, first_of, nested_type}
use Rattle.decl_grammar.specs.Grammar.{enum_members, unmodified_of, plain_modified, class_modified, modified_form, member_from, member_form}
use Rattle.decl_grammar.specs.Rule.{reads}
use Rattle.decl_types.specs.Members.{with_members}
use Rattle.decl_grammar.specs.Symbols.{operator}
use Rattle.decl_grammar.specs.TokenNames as token

-- a member of a class whose first modifier is not `static`
abbrev pub plain_of_class : Form (Modifiers × Unmodified)
plain_of_class = plain_modified (unmodified_of true)

-- a member of a class with its modifiers, or a static initialiser
abbrev pub modified_of_class : Form (Modifiers × Unmodified)
modified_of_class = class_modified (unmodified_of true)

-- what a member with its modifiers gives, behind other members
abbrev pub declared_behind : List MemberAt → ℕ → TypeKind → List Symbol → Outcome (List MemberAt)
declared_behind front room kind ts = with_front front (reads room (member_from (modified_form kind)) ts)

-- what a member gives, behind other members
abbrev pub member_behind : List MemberAt → ℕ → TypeKind → List Symbol → Outcome (List MemberAt)
member_behind front room kind ts = with_front front (reads room (member_form kind) ts)

-- what the members that stand here give, behind other members
abbrev pub members_behind : List MemberAt → ℕ → TypeKind → List Symbol → Outcome (List MemberAt)
members_behind front room kind ts = turned (with_members front) (reads room (many (member_form kind)) ts)

-- the members of an enum behind its constants
abbrev pub enum_behind : List MemberAt → ℕ → List Symbol → Outcome (List MemberAt)
enum_behind front room ts = with_front front (reads room enum_members ts)

-- the sorts of symbol that begin a top-level type, or a `;`
abbrev pub top_type_firsts : List ℕ
top_type_firsts = (operator token.semicolon ∷ []) ++ ((modifier_words ++ operator token.at ∷ []) ++ first_of nested_type)
