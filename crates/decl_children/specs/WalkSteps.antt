-- What the steps of a walk over members say.
use Rattle.std.specs.Prelude.{◌≡◌, ℕ, ◌≤◌, ◌<◌, ◌+◌, suc, Bool, true, false, List, length, Result, Ok, Err}
use Rattle.apt_base.specs.declared.memory.NoMemory.{NoMemory}
use Rattle.apt_base.specs.Limits.{max_children}
use Rattle.decl_tree.specs.declared.declaration.TypeKind.{TypeKind}
use Rattle.decl_grammar.specs.declared.symbol.Symbol.{Symbol}
use Rattle.decl_grammar.specs.declared.written.Unmodified.{Unmodified}
use Rattle.decl_grammar.specs.Reading.{starts, done}
use Rattle.decl_grammar.specs.Form.{first}
use Rattle.decl_grammar.specs.Grammar.{modified_form}
use Rattle.decl_grammar.specs.Rule.{reads}
use Rattle.decl_crossings.specs.Crossings.{FieldCrosses}
use Rattle.decl_children.specs.Fronts.{Passes}
use Rattle.decl_children.specs.TypeWalks.{unmodified_form, nothing_form, MembersOver, MembersEnd}
use Rattle.decl_children.specs.Unmodifieds.{count_of, constructs_one, field_front, OwnBehind}
use Rattle.decl_children.specs.declared.walks.Step.{Step}
use Rattle.decl_children.specs.declared.walks.Step.TheVariants as step

-- what a test says
abbrev pub Decides : Type 0 → Bool → Type 0
Decides p true = p
Decides p false = p → ⊥

-- as many as there may be stand before a member that begins here
abbrev pub OneMore : TypeKind → ℕ → List Symbol → Type 0
OneMore k n ts = (max_children ≤ n) × (starts (first (modified_form k)) ts ≡ true)

-- what gives no member stands here, or it does not
abbrev pub NothingSteps : TypeKind → List Symbol → Result Step NoMemory → Type 0
NothingSteps k ts (Ok step.Full) = ⊥
NothingSteps k ts (Ok step.Ended) = (rest : List Symbol) → Passes (nothing_form k) ts tt rest → ⊥
NothingSteps k ts (Ok (step.Behind p)) = (p.count ≡ 0) × (p.constructor ≡ false) × Passes (nothing_form k) ts tt p.rest.now
NothingSteps k ts (Err e) = Unit {0}

-- Behind this many, with a constructor or without, in symbols no more than there were: the members are over, and end, just where all of them are and do.
abbrev pub MembersSame : TypeKind → ℕ → List Symbol → ℕ → Bool → List Symbol → Type 0
MembersSame k before symbols n c ts =
    (length ts ≤ length symbols) × (n ≤ max_children) × (MembersOver k before false symbols → MembersOver k n c ts) × (MembersOver k n c ts → MembersOver k before false symbols)
    × ((rest : List Symbol) → MembersEnd k symbols rest → MembersEnd k ts rest) × ((rest : List Symbol) → MembersEnd k ts rest → MembersEnd k symbols rest)

-- Behind a first field more fields begin than a type with this many children may have.
abbrev pub FieldsOver : ℕ → ℕ → List Symbol → Type 0
FieldsOver room n ts = (left : ℕ) × (rest : List Symbol) × (left + suc n ≡ max_children) × (reads room field_front ts ≡ done tt rest) × FieldCrosses left rest

-- Behind its modifiers a member is a method or a constructor with too many children, or is not whole, or is this many members.
abbrev pub PlainSteps : TypeKind → List Symbol → Result Step NoMemory → Type 0
PlainSteps k ts (Ok step.Full) = OwnBehind k ts
PlainSteps k ts (Ok step.Ended) = (u : Unmodified) (rest : List Symbol) → Passes (unmodified_form k) ts u rest → ⊥
PlainSteps k ts (Ok (step.Behind p)) =
    (OwnBehind k ts → ⊥) × ((u : Unmodified) × Passes (unmodified_form k) ts u p.rest.now × (p.count ≡ count_of u) × (p.constructor ≡ constructs_one u))
PlainSteps k ts (Err e) = Unit {0}
