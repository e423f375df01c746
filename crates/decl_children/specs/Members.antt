-- When members of a type are too many, or one of them is in itself.
use Rattle.std.specs.Prelude.{◌≡◌, ℕ, ◌+◌, ◌<◌, List, [], ◌∷◌, ◌++◌, length, ◌⊎◌, Option}
use Rattle.apt_base.specs.Limits.{max_children}
use Rattle.decl_tree.specs.declared.declaration.TypeKind.{TypeKind}
use Rattle.decl_tree.specs.declared.declaration.TypeKind.TheVariants as kind
use Rattle.decl_grammar.specs.declared.symbol.Symbol.{Symbol}
use Rattle.decl_grammar.specs.declared.written.Modifiers.{Modifiers}
use Rattle.decl_grammar.specs.declared.written.MemberAt.{MemberAt}
use Rattle.decl_grammar.specs.declared.written.TypeAt.{TypeAt}
use Rattle.decl_grammar.specs.declared.written.TypeRest.{TypeRest}
use Rattle.decl_grammar.specs.Symbols.{operator}
use Rattle.decl_grammar.specs.TokenNames as token
use Rattle.decl_grammar.specs.Form.{Form, turn, many}
use Rattle.decl_grammar.specs.Types.{sign, before, type_modifiers}
use Rattle.decl_grammar.specs.Grammar.{joined_lists, member_form, type_rest, top_type}
use Rattle.decl_grammar.specs.File.{IsPhrase}
use Rattle.decl_limits.specs.Children.{blank, Then, class_heading, interface_heading, annotation_heading, whole_constants, whole_members, member_children, ExecutableFull, MemberFull, declared_children, TypeFull}
use Rattle.decl_children.specs.Fronts.{SomeFront}

-- a type is full, whatever stands within it
abbrev pub InType : List Symbol → Type 0
InType ts = (h : ℕ) × TypeFull h ts

-- a front of the symbols is full as a type, behind its modifiers
abbrev pub TypeCrowds : List Symbol → Type 0
TypeCrowds ts = SomeFront InType ts

-- a front of the symbols is full as a member of a type of this kind with this many children before it
abbrev pub MemberCrowds : TypeKind → ℕ → List Symbol → Type 0
MemberCrowds k n ts = SomeFront (MemberFull InType k n) ts

-- the same behind whole members that stand here
abbrev pub MembersFull : TypeKind → ℕ → List Symbol → Type 0
MembersFull k n ts = Then (whole_members k) (λ (m : ℕ) us. MemberFull InType k (n + m) us) ts

abbrev pub MembersCrowd : TypeKind → ℕ → List Symbol → Type 0
MembersCrowd k n ts = SomeFront (MembersFull k n) ts

-- whole types and `;`, and then modifiers and a type that is full
abbrev pub TypesFull : List Symbol → Type 0
TypesFull ts = Then (many top_type) (λ (tops : List (Option TypeAt)) us. Then type_modifiers (λ (m : Modifiers) vs. InType vs) us) ts

abbrev pub TypesCrowd : List Symbol → Type 0
TypesCrowd ts = SomeFront TypesFull ts

-- a heading, up to a place where members may stand: how many children the type has there
abbrev pub heading_of : TypeKind → Form ℕ
heading_of kind.Enum = whole_constants
heading_of kind.Class = class_heading
heading_of kind.AnnotationType = annotation_heading
heading_of kind.Interface = interface_heading

abbrev pub HeadingCrowds : TypeKind → List Symbol → Type 0
HeadingCrowds k ts = SomeFront (Then (heading_of k) (λ (n : ℕ) us. MembersFull k n us)) ts

-- a whole type, to which the language adds more than it may have
abbrev pub TooLong : List Symbol → Type 0
TooLong us = (x : TypeRest) × IsPhrase type_rest us x × (max_children < declared_children x)

-- The fields of one declaration are too many: with a `;` behind some front it is a whole member of this many fields.
abbrev pub FieldsFull : TypeKind → ℕ → List Symbol → Type 0
FieldsFull k n us = (ms : List MemberAt) × IsPhrase (member_form k) (us ++ blank (operator token.semicolon) ∷ []) ms × (max_children < n + length ms)

-- a whole member has too many children of its own
abbrev pub OwnFull : TypeKind → List Symbol → Type 0
OwnFull k us = (m : MemberAt) × IsPhrase (member_form k) us (m ∷ []) × (max_children < member_children m)

-- behind its modifiers a member is full, as a type or as a method or a constructor
abbrev pub InnerFull : List Symbol → Type 0
InnerFull us = InType us ⊎ ExecutableFull us

-- the members of a type up to its `}`
abbrev pub closed_members : TypeKind → Form (List MemberAt)
closed_members k = before (turn joined_lists (many (member_form k))) (sign token.close_brace)
