-- What look-ups remember: which member types of a name a type inherits, by the levels of supertypes through which they are looked for. Most of a look-up's promises
-- speak of each way to find member types that agrees with what is remembered, so that the definition by levels is only one of them.
use Rattle.std.specs.Prelude.{◌≡◌, ◌≤◌, ◌<◌, ◌-◌, ℕ, suc, Bool, true, false, ◌&&◌, List, [], ◌++◌, length, nat_lt, Option, None, Some, Result, Ok, Err, IfOk, Vec, slice_get, string_bytes, take, if◌then◌else◌}
use Rattle.std.specs.declared.alloc.Global.{Global}
use Rattle.std.specs.List.{AllByRecursion}
use Rattle.std.specs.Option.{option_or}
use Rattle.std.specs.Str.{bytes_eq}
use Rattle.element_table.specs.declared.part.Part.{Part}
use Rattle.element_table.specs.declared.part.Part.TheVariants.{Source, Stub}
use Rattle.element_table.specs.TypeTable.{TypeTable, IsTable}
use Rattle.name_resolve.specs.declared.finds.Finds.{Finds}
use Rattle.name_resolve.specs.declared.member_types.MemberTypes.{MemberTypes}
use Rattle.name_resolve.specs.declared.memory.Question.{Question}
use Rattle.name_resolve.specs.declared.memory.Stop.{Stop}
use Rattle.name_resolve.specs.declared.memory.Stop.TheVariants as stop
use Rattle.name_resolve.specs.declared.memory.Wanted.{Wanted}
use Rattle.name_resolve.specs.Finds as find
use Rattle.name_resolve.specs.Finds.{Find, Nothing, One, Several, both, same_find, declared_types}
use Rattle.name_resolve.specs.Supertypes.{supertypes}
use Rattle.name_resolve.specs.Meaning.{Tops, Members, tops_of, inherited, members_within}
use Rattle.name_resolve.specs.Placed.{IsPlaced}
use Rattle.name_resolve.specs.Shown.{find_of, finds_of}

-- both are of one part
abbrev pub same_part : Part → Part → Bool
same_part Source Source = true
same_part Source Stub = false
same_part Stub Source = false
same_part Stub Stub = true

-- both are nothing, the same element, or different ones
abbrev pub same_finds : find.Finds → find.Finds → Bool
same_finds Nothing Nothing = true
same_finds (One f) (One g) = same_part f.part g.part && same_find f g
same_finds Several Several = true
same_finds _ _ = false

-- ---- questions

-- the question is about this name of this type
abbrev pub asks : Question → Find → List ℕ → Bool
asks q f name = same_part q.of.part f.part && (same_find (find_of q.of) f && bytes_eq (string_bytes q.name) name)

-- what is found with this many levels, as far as it is known: where the question is settled, its last answer serves for all further levels
abbrev pub answer_of : Question → Bool → ℕ → Option Finds
answer_of q settled levels = option_or (slice_get q.answers.items levels) (if settled then slice_get q.answers.items (length q.answers.items - 1) else None)

abbrev pub AreSame : Option Finds → Option Finds → Type 0
AreSame (Some one) (Some other) = same_finds (finds_of one) (finds_of other) ≡ true
AreSame _ _ = ⊥

-- a question that is not settled has the same answer with the first number of levels as with the second one
abbrev pub IsSteady : Question → ℕ → ℕ → Type 0
IsSteady q fewer levels = AreSame (answer_of q false fewer) (answer_of q false levels)

-- ---- ways to find member types

-- where a type declares member types of the name it finds these, and where the type declares none and has no supertypes it finds nothing
pub record IsWay (members : Members) : Type 0 where
  pub own : (f : Find) (name : List ℕ) → (declared_types f name ≡ Nothing → ⊥) → members f name ≡ declared_types f name
  pub alone : (f : Find) (name : List ℕ) → declared_types f name ≡ Nothing → supertypes f ≡ [] → members f name ≡ Nothing

-- the question at a place
abbrev pub Stands : MemberTypes → ℕ → Question → Type 0
Stands memory place q = slice_get memory.questions.items place ≡ Some q

abbrev pub is_settled : MemberTypes → ℕ → Bool
is_settled memory place = nat_lt place memory.settled.count

-- it gives each question that has an answer with this many levels that answer
pub record Agrees (memory : MemberTypes) (levels : ℕ) (members : Members) : Type 0 where
  pub way : IsWay members
  pub known : (place : ℕ) (q : Question) (answer : Finds) → Stands memory place q → answer_of q (is_settled memory place) levels ≡ Some answer
      → finds_of answer ≡ members (find_of q.of) (string_bytes q.name)

-- ---- what look-ups promise

abbrev pub tops_in : MemberTypes → Tops
tops_in memory = tops_of memory.table.now

-- the result is what this gives by each way to find member types that agrees with what is known with this many levels, unless the look-up stopped
abbrev pub Tells : {E : Type 0} → Result Finds E → MemberTypes → ℕ → (Members → find.Finds) → Type 0
Tells result memory levels found = IfOk result (λ f. (members : Members) → Agrees memory levels members → finds_of f ≡ found members)

-- the same of a look-up that may not know
abbrev pub IfTold : Option Finds → MemberTypes → ℕ → (Members → find.Finds) → Type 0
IfTold None memory levels found = Unit {0}
IfTold (Some f) memory levels found = (members : Members) → Agrees memory levels members → finds_of f ≡ found members

abbrev pub TellsSome : {E : Type 0} → Result (Option Finds) E → MemberTypes → ℕ → (Members → find.Finds) → Type 0
TellsSome result memory levels found = IfOk result (λ o. IfTold o memory levels found)

-- the type is of the table, and declares none of this name
pub record IsQuestion (table : TypeTable) (wanted : Wanted) : Type 0 where
  pub placed : IsPlaced table (find_of wanted.of)
  pub none : declared_types (find_of wanted.of) (string_bytes wanted.name) ≡ Nothing

abbrev pub AreQuestions : TypeTable → List Wanted → Type 0
AreQuestions table all = AllByRecursion (IsQuestion table) all

-- what a look-up wants to have asked
abbrev pub IsWanted : TypeTable → Stop → Type 0
IsWanted table stop.Memory = Unit {0}
IsWanted table (stop.Wanted wanted) = AreQuestions table wanted.items

-- look-ups at several places that count as one: what they find together, or else all that they want to have asked
abbrev pub Gathers : Result Finds (Vec Wanted Global) → Result Finds Stop → Result Finds (Vec Wanted Global) → Type 0
Gathers (Ok a) (Ok b) (Ok f) = finds_of f ≡ both (finds_of a) (finds_of b)
Gathers (Ok a) (Err (stop.Wanted more)) (Err all) = all.items ≡ more.items
Gathers (Err wanted) (Ok b) (Err all) = all.items ≡ wanted.items
Gathers (Err wanted) (Err (stop.Wanted more)) (Err all) = all.items ≡ wanted.items ++ more.items
Gathers _ _ _ = ⊥

-- ---- what is remembered is right

-- the type of the question inherits this by each way to find member types that agrees with what is known with this many levels
abbrev pub Follows : MemberTypes → ℕ → Question → find.Finds → Type 0
Follows memory levels q finds = (members : Members) → Agrees memory levels members → finds ≡ inherited (tops_in memory) members (find_of q.of) (string_bytes q.name)

pub record IsRight (memory : MemberTypes) (place : ℕ) (q : Question) : Type 0 where
  pub placed : IsPlaced memory.table.now (find_of q.of)
  pub none : declared_types (find_of q.of) (string_bytes q.name) ≡ Nothing
  pub some : 0 < length q.answers.items
  pub first : (answer : Finds) → slice_get q.answers.items 0 ≡ Some answer → finds_of answer ≡ Nothing
  -- each further answer follows from what is known with one level less
  pub next : (levels : ℕ) (answer : Finds) → slice_get q.answers.items (suc levels) ≡ Some answer → Follows memory levels q (finds_of answer)
  -- the last answer of a settled question is found with all further levels
  pub lasting : is_settled memory place ≡ true → (levels : ℕ) (answer : Finds) → length q.answers.items ≤ levels
      → slice_get q.answers.items (length q.answers.items - 1) ≡ Some answer
      → finds_of answer ≡ members_within (tops_in memory) levels (find_of q.of) (string_bytes q.name)
  -- of a settled question the same is found with all levels from the settled ones on
  pub even : is_settled memory place ≡ true → (levels : ℕ) → memory.settled.levels ≤ levels
      → members_within (tops_in memory) levels (find_of q.of) (string_bytes q.name) ≡ members_within (tops_in memory) memory.settled.levels (find_of q.of) (string_bytes q.name)

pub record AreRight (memory : MemberTypes) : Type 0 where
  pub is_table : IsTable memory.table.now
  pub count : memory.settled.count ≤ length memory.questions.items
  pub each : (place : ℕ) (q : Question) → Stands memory place q → IsRight memory place q

-- this is the answer of the question at a place with one level more than in its last answer
abbrev pub IsNextAnswer : MemberTypes → ℕ → Finds → Type 0
IsNextAnswer memory place finds = (q : Question) (levels : ℕ) → Stands memory place q → length q.answers.items ≡ suc levels → Follows memory levels q (finds_of finds)

abbrev pub IsNext : {E : Type 0} → MemberTypes → ℕ → Result Finds E → Type 0
IsNext memory place result = IfOk result (IsNextAnswer memory place)

-- the settled levels are no more than the first number, and each question that is not settled has the same answer with it as with the second one
pub record AreSteady (memory : MemberTypes) (fewer levels : ℕ) : Type 0 where
  pub settled : memory.settled.levels ≤ fewer
  pub each : (place : ℕ) (q : Question) → memory.settled.count ≤ place → Stands memory place q → IsSteady q fewer levels

-- the table stays, and what is settled
pub record Stays (old new : MemberTypes) : Type 0 where
  pub table : new.table.now ≡ old.table.now
  pub settled : new.settled ≡ old.settled

-- all from this place on are questions that are not settled
abbrev pub AreUnsettled : MemberTypes → ℕ → Type 0
AreUnsettled memory place = memory.settled.count ≤ place

-- the first questions stay, as many as this
abbrev pub KeepsFront : MemberTypes → MemberTypes → ℕ → Type 0
KeepsFront old new count = take count new.questions.items ≡ take count old.questions.items
