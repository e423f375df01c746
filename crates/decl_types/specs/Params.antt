-- How parameters are read one by one: steps of what stands behind a type, and what a function that reads a parameter returns.
use Rattle.std.specs.Prelude.{◌≡◌, ℕ, ◌<◌, Bool, true, false, List, [], ◌∷◌, ◌++◌, length, Option, None, Some, Result, Ok, Err}
use Rattle.apt_base.specs.declared.around.Around.{Around}
use Rattle.apt_base.specs.declared.around.Around.TheVariants as around
use Rattle.decl_tree.specs.declared.type_text.BaseType.{BaseType}
use Rattle.decl_tree.specs.declared.annotation.AnnotationText.{AnnotationText}
use Rattle.decl_grammar.specs.declared.written.ParamAt.{ParamAt}
use Rattle.decl_grammar.specs.declared.symbol.Symbol.{Symbol}
use Rattle.decl_grammar.specs.declared.fault.ReadFault.{ReadFault}
use Rattle.decl_grammar.specs.declared.written.Modifiers.{Modifiers}
use Rattle.decl_grammar.specs.declared.written.ParamEnd.{ParamEnd}
use Rattle.decl_grammar.specs.declared.written.NameAt.{NameAt}
use Rattle.decl_grammar.specs.declared.written.ParamEnd.TheVariants as param_end
use Rattle.decl_grammar.specs.TokenNames as token
use Rattle.decl_grammar.specs.Reading.{Outcome, done, ◌>>=◌, Fails}
use Rattle.decl_grammar.specs.Form.{ParamRest, Form, pair, turn, maybe, either, turned}
use Rattle.decl_grammar.specs.Types.{sign, behind, name_at, annotation, annotations}
use Rattle.decl_grammar.specs.Grammar.{varargs, named_end, receiver, dot_this, with_dims, end_named, ended_last, end_and_rest, param_of, params_or_none, next_params, apply_rest, FirstRest, based, behind_annotations}
use Rattle.decl_grammar.specs.Rule.{reads}

-- ---- steps: a pair of brackets, or the end of a parameter

abbrev pub no_end : Symbol → Option ParamEnd
no_end s = None

abbrev pub some_end : ParamEnd → Option ParamEnd
some_end e = Some e

unfoldable pub bracket_step : Form (Option ParamEnd)
bracket_step = behind (sign token.open_bracket) (turn no_end (sign token.close_bracket))

unfoldable pub varargs_step : Form (Option ParamEnd)
varargs_step = turn some_end varargs

unfoldable pub annotated_step : Form (Option ParamEnd)
annotated_step = behind annotation (behind annotations (either bracket_step varargs_step))

unfoldable pub param_step : Form (Option ParamEnd)
param_step = either bracket_step (either annotated_step (either varargs_step (turn some_end named_end)))

abbrev pub dims_or_none : Option (Option (List Around)) → Option (List Around)
dims_or_none None = Some []
dims_or_none (Some ds) = ds

abbrev pub first_end_of : NameAt × Option (Option (List Around)) → ParamEnd
first_end_of v = end_named v.0 (dims_or_none v.1)

unfoldable pub first_end : Form ParamEnd
first_end = turn first_end_of (pair name_at (maybe (either dot_this with_dims)))

-- `this`, or a name and what ends it
abbrev pub this_or_name : Form (Option ParamEnd)
this_or_name = either (turn some_end receiver) (turn some_end first_end)

unfoldable pub first_step : Form (Option ParamEnd)
first_step = either bracket_step (either annotated_step (either varargs_step this_or_name))

-- ---- what is read behind a step

-- behind the end of a parameter
abbrev pub end_then : ℕ → ParamEnd → List Symbol → Outcome ParamRest
end_then room (param_end.AnyNumber n) ts = done (ended_last (param_end.AnyNumber n)) ts
end_then room (param_end.Named n ds) ts = reads room (maybe next_params) ts >>= λ o rest. done (end_and_rest (param_end.Named n ds, o)) rest
end_then room param_end.Receiver ts = reads room (maybe next_params) ts >>= λ o rest. done (end_and_rest (param_end.Receiver, o)) rest

-- the brackets there, and others before them
abbrev pub with_items : List Around → ParamRest → ParamRest
with_items ds rest = (ds ++ rest.0, rest.1)

-- a parameter from its parts, where it is no receiver, and whether it takes any number of arguments
abbrev pub finished : Modifiers → BaseType → List Around → ParamEnd → Option ParamAt × Bool
finished m of items (param_end.Named n ds) = (Some (param_of n ds m of items), false)
finished m of items (param_end.AnyNumber n) = (Some (param_of n (around.Array ∷ []) m of items), true)
finished m of items param_end.Receiver = (None, false)

abbrev pub one_or_none : Option ParamAt → List ParamAt
one_or_none None = []
one_or_none (Some p) = p ∷ []

-- parameters behind others
abbrev pub params_behind : List ParamAt → List ParamAt × Bool → List ParamAt × Bool
params_behind front ps = (front ++ ps.0, ps.1)

-- the parameters behind commas, of which there may be none
abbrev pub later_params : ℕ → List Symbol → Outcome (List ParamAt × Bool)
later_params room ts = turned params_or_none (reads room (maybe next_params) ts)

-- what is read from a parameter on that ends before these symbols: behind the last one, which takes any number of arguments, nothing
abbrev pub param_then : ℕ → Option ParamAt → Bool → List Symbol → Outcome (List ParamAt × Bool)
param_then room p true ts = done (one_or_none p, true) ts
param_then room p false ts = turned (params_behind (one_or_none p)) (later_params room ts)

abbrev pub apply_to : Modifiers → BaseType × ParamRest → List ParamAt × Bool
apply_to m x = apply_rest (m, x)

-- the parameters where these annotations stand before
abbrev pub found_to : List AnnotationText → FirstRest → List ParamAt × Bool
found_to found f = f found

-- the parameters behind commas behind others
abbrev pub more_params : List ParamAt → ℕ → List Symbol → Outcome (List ParamAt × Bool)
more_params front room ts = turned (params_behind front) (later_params room ts)

-- ---- what a function that reads returns, seen by view

-- the brackets behind the type of a parameter and its end are read
abbrev pub ReadsEnd : {X : Type 0} → (X → List Around × (ParamEnd × List Symbol)) → Result X ReadFault → ℕ → List Symbol → Outcome ParamRest → Type 0
ReadsEnd view (Ok x) room ts total = (total ≡ turned (with_items (view x).0) (end_then room (view x).1.0 (view x).1.1)) × (length (view x).1.1 < length ts)
ReadsEnd view (Err e) room ts total = Fails e total

-- a parameter is read
abbrev pub ReadsParam : {X : Type 0} → (X → (Option ParamAt × Bool) × List Symbol) → Result X ReadFault → ℕ → List Symbol → Outcome (List ParamAt × Bool) → Type 0
ReadsParam view (Ok x) room ts total = (total ≡ param_then room (view x).0.0 (view x).0.1 (view x).1) × (length (view x).1 < length ts)
ReadsParam view (Err e) room ts total = Fails e total

-- the end of a parameter of this form is read
abbrev pub ReadsEndOf : {X : Type 0} → (X → List Around × (ParamEnd × List Symbol)) → Result X ReadFault → ℕ → Form ParamRest → List Symbol → Type 0
ReadsEndOf view result room f ts = ReadsEnd view result room ts (reads room f ts)

-- a parameter is read from its type on, where these modifiers stand before it
abbrev pub ReadsBased : {X : Type 0} → (X → (Option ParamAt × Bool) × List Symbol) → Result X ReadFault → ℕ → Modifiers → Form ParamRest → List Symbol → Type 0
ReadsBased view result room m f ts = ReadsParam view result room ts (turned (apply_to m) (reads room (based f) ts))

-- a first parameter is read, or the receiver, where these annotations stand before it
abbrev pub ReadsFound : {X : Type 0} → (X → (Option ParamAt × Bool) × List Symbol) → Result X ReadFault → ℕ → List AnnotationText → List Symbol → Type 0
ReadsFound view result room found ts = ReadsParam view result room ts (turned (found_to found) (reads room behind_annotations ts))
