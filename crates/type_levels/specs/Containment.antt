-- Contained type arguments (JLS 4.5.1): whether an argument contains another one is settled, or one question about types.
use Rattle.std.specs.Prelude.{Bool, eqb, length, List, [], ◌∷◌, if◌then◌else◌}
use Rattle.type_levels.specs.Answers.{Yes, No, of_test}
use Rattle.type_levels.specs.Steps.{Question, Settled, Asks, Next, Decided, Arguments}

-- an argument by what stands outermost: one of the three wildcards, or a type
pub data Argument (M : Type 0) : Type 0 where
  Unbounded : Argument M
  Extends : (bound : M) → Argument M
  Super : (bound : M) → Argument M
  Exact : Argument M

-- `? extends x` contains `b`
abbrev pub in_extends : {M : Type 0} → M → M → Argument M → Question M
in_extends x b Unbounded = Settled No
in_extends x b (Extends y) = Asks y x
in_extends x b (Super y) = Settled No
in_extends x b Exact = Asks b x

-- `? super x` contains `b`
abbrev pub in_super : {M : Type 0} → M → M → Argument M → Question M
in_super x b Unbounded = Settled No
in_super x b (Extends y) = Settled No
in_super x b (Super y) = Asks x y
in_super x b Exact = Asks x b

-- by whether the two are the same, and what each is
abbrev pub contains_by : {M : Type 0} → Bool → Argument M → M → Argument M → Question M
contains_by same Unbounded b other = Settled Yes
contains_by same (Extends x) b other = in_extends x b other
contains_by same (Super x) b other = in_super x b other
contains_by same Exact b other = Settled (of_test same)

-- what is asked of arguments: what each is, and whether two are the same type
pub record View (M : Type 0) : Type 0 where
  pub argument : M → Argument M
  -- a wildcard is the same as nothing
  pub same : M → M → Bool

module _ {M : Type 0} (v : View M) where
  -- the argument `a` contains `b`
  unfoldable pub contains : M → M → Question M
  contains a b = contains_by (v.same a b) (v.argument a) b (v.argument b)

  -- the arguments of the second list contain those of the first one, in order
  abbrev pub each_contained : List M → List M → List (Question M)
  each_contained [] bs = []
  each_contained (a ∷ as') [] = []
  each_contained (a ∷ as') (b ∷ bs) = contains b a ∷ each_contained as' bs

  -- two types of one element with the same enclosing type: below one without arguments, and lists of different lengths are below no list
  abbrev pub by_arguments : List M → List M → Next M
  by_arguments as' [] = Decided Yes
  by_arguments [] (b ∷ bs) = Decided No
  by_arguments (a ∷ as') (b ∷ bs) =
      if eqb (length (a ∷ as')) (length (b ∷ bs)) then Arguments (each_contained (a ∷ as') (b ∷ bs)) else Decided No
