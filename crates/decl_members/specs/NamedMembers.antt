-- What functions read of members whose first name is known, in words, and the fields of a declaration.
use Rattle.std.specs.Prelude.{ℕ, List, Option, map}
use Rattle.decl_tree.specs.declared.type_text.TypeText.{TypeText}
use Rattle.decl_grammar.specs.declared.written.NameAt.{NameAt}
use Rattle.decl_grammar.specs.declared.written.MemberAt.{MemberAt}
use Rattle.decl_grammar.specs.declared.symbol.Symbol.{Symbol}
use Rattle.decl_grammar.specs.declared.written.Modifiers.{Modifiers}
use Rattle.decl_grammar.specs.declared.written.Declarator.{Declarator}
use Rattle.decl_grammar.specs.declared.written.Unmodified.{Unmodified}
use Rattle.decl_grammar.specs.declared.written.MemberRest.{MemberRest}
use Rattle.decl_grammar.specs.Reading.{Outcome}
use Rattle.decl_grammar.specs.Form.{turned}
use Rattle.decl_grammar.specs.Grammar.{typed_member, constructed_or, field_of}
use Rattle.decl_grammar.specs.Rule.{reads}
use Rattle.decl_types.specs.Members.{named_at}

-- a member of a class type behind the first name of the type
abbrev pub typed_at : NameAt → ℕ → MemberRest → List Symbol → Outcome Unmodified
typed_at n room kind ts = turned (named_at n) (reads room (typed_member kind) ts)

-- the same, or a constructor
abbrev pub constructed_at : NameAt → ℕ → MemberRest → List Symbol → Outcome Unmodified
constructed_at n room kind ts = turned (named_at n) (reads room (constructed_or kind) ts)

-- the fields of a declaration
abbrev pub fields_of : Option (List ℕ) → Modifiers → TypeText → List Declarator → List MemberAt
fields_of doc m of ds = map (field_of doc m of) ds
