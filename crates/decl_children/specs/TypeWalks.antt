-- What a walk over a type, over the members of a type, and over one member comes to.
use Rattle.std.specs.Prelude.{◌≡◌, ℕ, ◌+◌, ◌<◌, Bool, true, false, ◌||◌, List, [], ◌∷◌, ◌++◌, drop, length, ◌⊎◌, Result, Ok, Err, if◌then◌else◌}
use Rattle.std.specs.List.{list_any}
use Rattle.apt_base.specs.declared.memory.NoMemory.{NoMemory}
use Rattle.apt_base.specs.Limits.{max_children}
use Rattle.decl_tree.specs.Legal.{constructs}
use Rattle.decl_tree.specs.declared.declaration.Member.{Member, out-Member}
use Rattle.decl_tree.specs.declared.declaration.TypeKind.{TypeKind}
use Rattle.decl_tree.specs.declared.declaration.TypeKind.TheVariants as kind
use Rattle.decl_grammar.specs.declared.symbol.Symbol.{Symbol}
use Rattle.decl_grammar.specs.declared.written.MemberAt.{MemberAt}
use Rattle.decl_grammar.specs.declared.written.TypeRest.{TypeRest}
use Rattle.decl_grammar.specs.declared.written.Unmodified.{Unmodified}
use Rattle.decl_grammar.specs.declared.written.Unmodified.TheVariants as unmodified
use Rattle.decl_grammar.specs.Form.{Form, pair, turn, either}
use Rattle.decl_grammar.specs.Types.{keyword, sign, behind, before, name, silently}
use Rattle.decl_grammar.specs.Grammar.{block, constants, enum_members, member_form, plain_members, type_rest, unmodified_of, annotation_unmodified}
use Rattle.decl_limits.specs.Children.{Then, IsFull, NextTypeParam, NextConstant, generic_name, enum_heading}
use Rattle.decl_grammar.specs.Reading.{starts}
use Rattle.decl_children.specs.declared.walks.Walk.{Walk}
use Rattle.decl_children.specs.declared.walks.Walk.TheVariants as walk
use Rattle.decl_children.specs.declared.walks.Step.{Step}
use Rattle.decl_children.specs.declared.walks.Step.TheVariants as step
use Rattle.decl_grammar.specs.Symbols.{operator}
use Rattle.decl_grammar.specs.TokenNames as token
use Rattle.decl_children.specs.Fronts.{SomeFront, Passes}
use Rattle.decl_children.specs.Members.{MembersCrowd, MemberCrowds, TypeCrowds, closed_members, heading_of}

-- ---- what a walk answers

-- Too many, or the symbols end or are faulty before the end of what is walked over, or these symbols stand behind it.
abbrev pub Walks : Type 0 → (List Symbol → Type 0) → Result Walk NoMemory → Type 0
Walks P Q (Ok walk.Full) = P
Walks P Q (Ok walk.Ended) = (P → ⊥) × ((rest : List Symbol) → Q rest → ⊥)
Walks P Q (Ok (walk.Behind rest)) = (P → ⊥) × Q rest.now
Walks P Q (Err e) = Unit {0}

-- ---- one member

-- whether a constructor is among them
abbrev pub has_constructor : List MemberAt → Bool
has_constructor ms = list_any (λ m. constructs (out-Member m)) (plain_members ms)

-- the same of one member, with how many it gives and whether a constructor is among them
abbrev pub Steps : TypeKind → ℕ → List Symbol → Result Step NoMemory → Type 0
Steps k n ts (Ok step.Full) = MemberCrowds k n ts
Steps k n ts (Ok step.Ended) = (MemberCrowds k n ts → ⊥) × ((ms : List MemberAt) (rest : List Symbol) → Passes (member_form k) ts ms rest → ⊥)
Steps k n ts (Ok (step.Behind p)) =
    (MemberCrowds k n ts → ⊥) × ((ms : List MemberAt) × Passes (member_form k) ts ms p.rest.now × (p.count ≡ length ms) × (p.constructor ≡ has_constructor ms))
Steps k n ts (Err e) = Unit {0}

-- a member of a type of this kind behind its modifiers
abbrev pub unmodified_form : TypeKind → Form Unmodified
unmodified_form kind.Enum = unmodified_of true
unmodified_form kind.Class = unmodified_of true
unmodified_form kind.AnnotationType = annotation_unmodified
unmodified_form kind.Interface = unmodified_of false

-- an initialiser, with a `static` before it or without
abbrev pub initialiser_block : Form (Unit {0})
initialiser_block = either block (behind (keyword token.static) block)

-- what gives no member: a `;`, or an initialiser
abbrev pub nothing_form : TypeKind → Form (Unit {0})
nothing_form kind.Enum = either (turn silently (sign token.semicolon)) initialiser_block
nothing_form kind.Class = either (turn silently (sign token.semicolon)) initialiser_block
nothing_form kind.AnnotationType = turn silently (sign token.semicolon)
nothing_form kind.Interface = turn silently (sign token.semicolon)

-- ---- the members of a type

-- how many children the language adds to a type of this kind, with a constructor or without
abbrev pub added_to : TypeKind → Bool → ℕ
added_to kind.Enum constructor = (if constructor then 0 else 1) + 2
added_to kind.Class constructor = if constructor then 0 else 1
added_to kind.AnnotationType constructor = 0
added_to kind.Interface constructor = 0

-- Behind this many children, with a constructor among them or without, the members are too many, or they are whole and with what the language adds too many.
abbrev pub MembersOver : TypeKind → ℕ → Bool → List Symbol → Type 0
MembersOver k n c ts =
    MembersCrowd k n ts ⊎ ((ms : List MemberAt) × (rest : List Symbol) × Passes (closed_members k) ts ms rest × (max_children < n + length ms + added_to k (c || has_constructor ms)))

-- the members end before these symbols
abbrev pub MembersEnd : TypeKind → List Symbol → List Symbol → Type 0
MembersEnd k ts rest = (ms : List MemberAt) × Passes (closed_members k) ts ms rest

-- ---- types

abbrev pub TypeEnds : List Symbol → List Symbol → Type 0
TypeEnds ts rest = (x : TypeRest) × Passes type_rest ts x rest

-- an enum up to what stands behind its constants: how many there are
abbrev pub enum_front : Form ℕ
enum_front = turn length (behind enum_heading (behind (sign token.open_brace) constants))

-- what stands behind the constants of an enum, up to its `}`
abbrev pub enum_tail : Form (List MemberAt)
enum_tail = before enum_members (sign token.close_brace)

-- a class or an interface is full in its type parameters
abbrev pub ParamsOver : List Symbol → Type 0
ParamsOver ts = SomeFront (Then generic_name (λ (x : Unit {0}) us. IsFull NextTypeParam 0 us)) ts

-- an enum is full in its constants
abbrev pub ConstantsOver : List Symbol → Type 0
ConstantsOver ts = SomeFront (Then enum_heading (λ (x : Unit {0}) us. IsFull NextConstant 0 us)) ts

-- Behind this many constants it is full behind a `;`, or at the `}`.
abbrev pub EnumOver : ℕ → List Symbol → Type 0
EnumOver n ts =
    ((starts (operator token.semicolon ∷ []) ts ≡ true) × MembersOver kind.Enum n false (drop 1 ts))
    ⊎ ((starts (operator token.close_brace ∷ []) ts ≡ true) × (max_children < n + added_to kind.Enum false))

-- behind its constants it ends before these symbols
abbrev pub EnumEnd : List Symbol → List Symbol → Type 0
EnumEnd ts rest =
    ((starts (operator token.semicolon ∷ []) ts ≡ true) × MembersEnd kind.Enum (drop 1 ts) rest)
    ⊎ ((starts (operator token.close_brace ∷ []) ts ≡ true) × (rest ≡ drop 1 ts))
