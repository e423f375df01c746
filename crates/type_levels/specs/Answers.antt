-- Answers of three values: yes, no, or open where the steps do not suffice.
use Rattle.std.specs.Prelude.{◌≡◌, Bool, true, false, List, [], ◌∷◌}
pub use Rattle.type_levels.specs.declared.answer.Answer.{Answer}
pub use Rattle.type_levels.specs.declared.answer.Answer.TheVariants.{Yes, Open, No}

abbrev pub of_test : Bool → Answer
of_test true = Yes
of_test false = No

-- yes if one is yes, else open if one is open, else no
abbrev pub either : Answer → Answer → Answer
either Yes other = Yes
either Open Yes = Yes
either Open Open = Open
either Open No = Open
either No other = other

-- no if one is no, else open if one is open, else yes
abbrev pub both : Answer → Answer → Answer
both Yes other = other
both Open Yes = Open
both Open Open = Open
both Open No = No
both No other = No

-- the second is the first, or the first is open
abbrev pub Settles : Answer → Answer → Type 0
Settles Yes other = other ≡ Yes
Settles Open other = Unit {0}
Settles No other = other ≡ No

abbrev pub any : {A : Type 0} → (A → Answer) → List A → Answer
any f [] = No
any f (x ∷ xs) = either (f x) (any f xs)

abbrev pub all : {A : Type 0} → (A → Answer) → List A → Answer
all f [] = Yes
all f (x ∷ xs) = both (f x) (all f xs)
