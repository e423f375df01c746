-- What reading gives, and what a function that reads must return.
use Rattle.std.specs.Prelude.{◌≡◌, ℕ, suc, ◌-◌, Bool, false, List, [], ◌∷◌, length, take, Option, Some, None, Result, Ok, Err, if◌then◌else◌, ◌==◌, ◌||◌}
use Rattle.std.specs.Option.{option_map_or}
use Rattle.decl_grammar.specs.declared.symbol.Symbol.{Symbol}
use Rattle.decl_grammar.specs.declared.fault.ReadFault.{ReadFault}
use Rattle.decl_grammar.specs.declared.fault.ReadFault.TheVariants as faults
use Rattle.decl_grammar.specs.Symbols.{operator}
use Rattle.decl_grammar.specs.TokenNames as token

-- a number is among these
abbrev pub has : List ℕ → ℕ → Bool
has [] n = false
has (k ∷ []) n = n == k
has (k ∷ l ∷ ks) n = (n == k) || has (l ∷ ks) n

-- the next symbol is of one of these sorts
abbrev pub starts : List ℕ → List Symbol → Bool
starts ks [] = false
starts ks (t ∷ ts) = has ks t.sort

-- What reading gives: a value and the symbols after it, or the symbols from the faulty one on, or those from where too much is open on.
pub data Outcome (A : Type 0) : Type 0 where
  done : A → List Symbol → Outcome A
  fault : List Symbol → Outcome A
  deep : List Symbol → Outcome A

infixl 10 ◌>>=◌
abbrev pub ◌>>=◌ : {A B : Type 0} → Outcome A → (A → List Symbol → Outcome B) → Outcome B
(done x rest) >>= f = f x rest
(fault at) >>= f = fault at
(deep at) >>= f = deep at

-- the symbols from where reading stopped on
abbrev pub left : {A : Type 0} → Outcome A → List Symbol
left (done x rest) = rest
left (fault at) = at
left (deep at) = at

-- one symbol of one of these sorts
unfoldable pub one_at : List ℕ → List Symbol → Outcome Symbol
one_at ks [] = fault []
one_at ks (t ∷ ts) = if has ks t.sort then done t ts else fault (t ∷ ts)

-- the symbols that were read, where these are left
abbrev pub read_of : List Symbol → List Symbol → List Symbol
read_of ts rest = take (length ts - length rest) ts

abbrev pub Fails : {Y : Type 0} → ReadFault → Outcome Y → Type 0
Fails faults.Memory read = Unit {0}
Fails (faults.Bad n) read = (at : List Symbol) × (read ≡ fault at) × (n ≡ length at)
Fails (faults.Deep n) read = (at : List Symbol) × (read ≡ deep at) × (n ≡ length at)

-- What a function returned, seen by view, is what reading gives, unless memory ran out.
abbrev pub Gives : {X Y : Type 0} → (X → Y × List Symbol) → Result X ReadFault → Outcome Y → Type 0
Gives view (Ok x) read = read ≡ done (view x).0 (view x).1
Gives view (Err e) read = Fails e read

-- what a function that only wants memory returned
abbrev pub UnlessMemory : {X : Type 0} → Result X ReadFault → (X → Type 0) → Type 0
UnlessMemory (Ok x) p = p x
UnlessMemory (Err e) p = e ≡ faults.Memory

-- why a form that counts is not read without room: it begins and is too deep, or it does not begin
abbrev pub shut_fault : Bool → List Symbol → ReadFault
shut_fault begins ts = if begins then faults.Deep (length ts) else faults.Bad (length ts)

-- ---- what is passed over

-- `(`, `{` and `[`; the sort that follows each is what closes it
abbrev pub openers : List ℕ
openers = operator token.open_parenthesis ∷ operator token.open_brace ∷ operator token.open_bracket ∷ []

abbrev pub closers : List ℕ
closers = operator token.close_parenthesis ∷ operator token.close_brace ∷ operator token.close_bracket ∷ []

-- the brackets that are still to be closed after this symbol, where it may stand
abbrev pub after : ℕ → List ℕ → Symbol → Option (List ℕ)
after k ks t = if t.sort == k then Some ks else if has closers t.sort then None else if has openers t.sort then Some (suc t.sort ∷ k ∷ ks) else Some (k ∷ ks)

-- reading up to where these brackets are closed
unfoldable pub pass : List ℕ → List Symbol → Outcome (Unit {0})
pass [] ts = done tt ts
pass (k ∷ ks) [] = fault []
pass (k ∷ ks) (t ∷ ts) = option_map_or (λ next. pass next ts) (after k ks t) (fault (t ∷ ts))

-- a bracket of one of these sorts, and all up to where it is closed
abbrev pub skip : List ℕ → List Symbol → Outcome (Unit {0})
skip opens ts = one_at opens ts >>= λ t rest. pass (suc t.sort ∷ []) rest
