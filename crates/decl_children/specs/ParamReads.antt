-- How parameters are walked over one by one (JLS 8.4.1): the steps behind the base of a type up to the end of the parameter, what stands before them, and when the
-- parameters behind a comma are too many.
use Rattle.std.specs.Prelude.{◌≡◌, ℕ, zero, suc, ◌+◌, ◌≤◌, Bool, true, false, List, [], ◌∷◌, ◌++◌, length, drop, ◌⊎◌, Option, Some, None}
use Rattle.std.specs.Borrow.{Bor}
use Rattle.apt_base.specs.Limits.{max_children}
use Rattle.decl_tree.specs.declared.type_text.BaseType.{BaseType}
use Rattle.decl_tree.specs.declared.annotation.AnnotationText.{AnnotationText}
use Rattle.decl_grammar.specs.declared.symbol.Symbol.{Symbol}
use Rattle.decl_grammar.specs.declared.written.Modifiers.{Modifiers}
use Rattle.decl_grammar.specs.declared.written.ParamAt.{ParamAt}
use Rattle.decl_grammar.specs.declared.written.ParamEnd.{ParamEnd}
use Rattle.decl_grammar.specs.declared.written.ParamEnd.TheVariants as param_end
use Rattle.decl_grammar.specs.Symbols.{operator, word}
use Rattle.decl_grammar.specs.TokenNames as token
use Rattle.decl_grammar.specs.Reading.{starts, Outcome, done, fault, ◌>>=◌}
use Rattle.decl_grammar.specs.Form.{Form}
use Rattle.decl_grammar.specs.Types.{annotations, base_type}
use Rattle.decl_grammar.specs.Grammar.{param_modifiers, params_from, next_params}
use Rattle.decl_grammar.specs.Rule.{reads}
use Rattle.decl_grammar.specs.File.{IsPhrase}
use Rattle.decl_types.specs.Params.{param_step, first_step}
use Rattle.decl_limits.specs.Children.{OpensWith, IsFull, NextParam}
use Rattle.decl_children.specs.Fronts.{SomeFront}

-- a step behind the base of the type of a parameter, of the first one or of a further one
abbrev pub step_form : Bool → Form (Option ParamEnd)
step_form true = first_step
step_form false = param_step

abbrev pub after_step : (List Symbol → Outcome ParamEnd) → Option ParamEnd → List Symbol → Outcome ParamEnd
after_step next (Some e) rest = done e rest
after_step next None rest = next rest

-- what is read by at most this many steps up to the end of a parameter
abbrev pub end_read : ℕ → ℕ → Bool → List Symbol → Outcome ParamEnd
end_read zero room b ts = fault ts
end_read (suc k) room b ts = reads room (step_form b) ts >>= after_step (end_read k room b)

-- the end of a parameter is read from behind its base on, and this stands behind it
abbrev pub EndRead : ℕ → Bool → List Symbol → ParamEnd → List Symbol → Type 0
EndRead room b ts e rest = (k : ℕ) × (end_read k room b ts ≡ done e rest)

-- the same from its base on
abbrev pub BasedRead : ℕ → Bool → List Symbol → ParamEnd → List Symbol → Type 0
BasedRead room b ts e rest = (of : BaseType) × (at : List Symbol) × (reads room base_type ts ≡ done of at) × EndRead room b at e rest

-- from its modifiers on
abbrev pub ParamRead : ℕ → List Symbol → ParamEnd → List Symbol → Type 0
ParamRead room ts e rest = (m : Modifiers) × (at : List Symbol) × (reads room param_modifiers ts ≡ done m at) × BasedRead room false at e rest

-- of a first parameter, behind its annotations: a `final` makes it one that is no receiver
abbrev pub FirstBehind : ℕ → List Symbol → ParamEnd → List Symbol → Type 0
FirstBehind room ts e rest =
    ((starts (word token.final ∷ []) ts ≡ true) × ParamRead room (drop 1 ts) e rest)
    ⊎ ((starts (word token.final ∷ []) ts ≡ false) × BasedRead room true ts e rest)

abbrev pub FirstRead : ℕ → List Symbol → ParamEnd → List Symbol → Type 0
FirstRead room ts e rest = (found : List AnnotationText) × (at : List Symbol) × (reads room annotations ts ≡ done found at) × FirstBehind room at e rest

-- what a walk over one parameter finds
abbrev pub FindsEnd : (ParamEnd → List Symbol → Type 0) → Option (ParamEnd × Bor (List Symbol)) → Type 0
FindsEnd R (Some x) = R x.0 x.1.now
FindsEnd R None = (e : ParamEnd) (rest : List Symbol) → R e rest → ⊥

-- how many arguments a parameter that ends so is: the receiver is none
abbrev pub arguments_of : ParamEnd → ℕ
arguments_of (param_end.Named n ds) = 1
arguments_of (param_end.AnyNumber n) = 1
arguments_of param_end.Receiver = 0

-- whether it takes any number of them
abbrev pub takes_any : ParamEnd → Bool
takes_any (param_end.Named n ds) = false
takes_any (param_end.AnyNumber n) = true
takes_any param_end.Receiver = false

-- ---- when they are too many

-- none, or a comma with parameters behind it, of which the last one does not take any number of arguments
abbrev pub TailWhole : List Symbol → List ParamAt → Type 0
TailWhole ts items = ((ts ≡ []) × (items ≡ [])) ⊎ IsPhrase next_params ts (items, false)

-- Behind parameters that are whole, this many of a child list are there; a further one begins at the last symbol, behind a comma.
pub record TailFull (n : ℕ) (ts : List Symbol) : Type 0 where
  pub front : List Symbol
  pub comma : Symbol
  pub next : Symbol
  pub items : List ParamAt
  pub parts : ts ≡ front ++ comma ∷ next ∷ []
  pub is_comma : comma.sort ≡ operator token.comma
  pub whole : TailWhole front items
  pub begins : OpensWith params_from next
  pub many : max_children ≤ n + length items

abbrev pub TailCrowds : ℕ → List Symbol → Type 0
TailCrowds n ts = SomeFront (TailFull n) ts

-- the parameters of a method or a constructor with this many type parameters, from their bracket on, are too many
abbrev pub ParamsCrowd : ℕ → List Symbol → Type 0
ParamsCrowd n ts = SomeFront (IsFull NextParam n) ts
