-- Each type parameter, each parameter and each constant but the first one has a separator of its own: the `,` before it.
use Rattle.std.proofs.Common.{◌≡◌, ℕ, zero, suc, ◌≤◌, map, Bool, List, [], ◌∷◌, Option, length, refl, ap, arith}
use Rattle.std.proofs.lemmas.List.{length-map}
use Rattle.decl_tree.specs.declared.annotation.AnnotationText.{AnnotationText}
use Rattle.apt_base.specs.declared.around.Around.{Around}
use Rattle.decl_tree.specs.declared.type_text.BaseType.{BaseType}
use Rattle.decl_grammar.specs.declared.symbol.Symbol.{Symbol}
use Rattle.decl_grammar.specs.declared.written.MemberAt.{MemberAt}
use Rattle.decl_grammar.specs.declared.written.Modifiers.{Modifiers}
use Rattle.decl_grammar.specs.declared.written.ParamAt.{ParamAt}
use Rattle.decl_grammar.specs.declared.written.ParamEnd.{ParamEnd}
use Rattle.decl_grammar.specs.declared.written.ParamEnd.TheVariants as param_end
use Rattle.decl_grammar.specs.TokenNames as token
use Rattle.decl_grammar.specs.declared.written.Params.{Params}
use Rattle.decl_grammar.specs.declared.written.TypeParamAt.{TypeParamAt}
use Rattle.decl_grammar.specs.Form.{ParamRest, Form, enum_rest, param_rest, first_rest, pair, turn, maybe, many, nest, Is}
use Rattle.decl_grammar.specs.Types.{keyword, sign, list_or_none, first_and_rest, name_at, annotation, annotations, one_and_rest, no_values, base_type, with_marks, type_param, next_type_param, type_params, optional_params}
use Rattle.decl_grammar.specs.Grammar.{param_modifier, param_modifiers, params_or_none, in_array, ended_last, end_and_rest, param_ended, apply_rest, params_from, next_params, varargs, bracket_rest, annotated_rest, named_end, param_rest_form, receiver, dot_this, with_dims, FirstBehind, dims_and_rest, comma_first, alone_or, behind_first_name, first_named, end_named, first_rest_form, FirstRest, annotated_only, final_and, final_first, plain_first, behind_annotations, first_params, optional_first, params, constant, some_constants, enum_rest_form, constant_list, constants}
use Rattle.decl_grammar.specs.Rule.{WholeAt}
use Rattle.decl_limits.proofs.Braces.{level, effect}
use Rattle.decl_limits.proofs.EvenForms.{even}
use Rattle.decl_limits.proofs.Scans.{Adds, adds-less, adds-both}
use Rattle.decl_limits.proofs.Counted.{AtLeast, at-least, none, one, weaker, in-pair, in-turn, in-behind, in-before, in-maybe, in-row, in-either, nest-zero, nest-suc}

abbrev pub listed : {A : Type 0} → Option (List A) → ℕ
listed o = length (list_or_none o)

-- the items but the first one
abbrev pub further : {A : Type 0} → List A → ℕ
further [] = 0
further (x ∷ xs) = length xs

pub further-few : {A : Type 0} (xs : List A) → length xs ≤ suc (further xs)
further-few [] = omega arith
further-few (x ∷ xs) = omega arith

pub further-less : {A : Type 0} (xs : List A) → further xs ≤ length xs
further-less [] = omega arith
further-less (x ∷ xs) = omega arith

pub further-map : {A B : Type 0} (f : A → B) (xs : List A) → further (map f xs) ≡ further xs
further-map f [] = refl
further-map f (x ∷ xs) = length-map xs f

abbrev pub further_listed : {A : Type 0} → Option (List A) → ℕ
further_listed o = further (list_or_none o)

-- ---- type parameters

next-type-param-least : (h : ℕ) → AtLeast h next_type_param (λ p. 1)
unfolding next_type_param
next-type-param-least h = weaker (λ p. 1) (in-behind 1 (one h 7 refl) (none h type_param even.type_param_even)) (λ p. omega arith)

row-least : (h : ℕ) → AtLeast h (turn first_and_rest (pair type_param (many next_type_param))) further
row-least h =
    in-turn (first_and_rest {A = TypeParamAt}) further
    (in-pair (none h type_param even.type_param_even) (in-row length (next-type-param-least h) refl (λ x xs. omega arith)))
    (λ x. omega arith)

pub type-params-least : (h : ℕ) → AtLeast h type_params further
unfolding type_params
type-params-least h = weaker further (in-behind 0 (none h (sign token.less_than) refl) (in-before 0 (row-least h) (none h (sign token.greater_than) refl))) (λ ps. omega arith)

pub optional-least : (h : ℕ) → AtLeast h optional_params further
unfolding optional_params
optional-least h =
    in-turn (list_or_none {A = TypeParamAt}) further (in-maybe (further_listed {A = TypeParamAt}) (type-params-least h) refl (λ ps. omega arith)) (λ o. omega arith)

-- ---- parameters

-- of a parameter with this end and those behind it, all but the first one
abbrev ended_items : ParamEnd → List ParamAt → ℕ
ended_items (param_end.Named n ds) ps = length ps
ended_items (param_end.AnyNumber n) ps = 0
ended_items param_end.Receiver ps = further ps

ended-few : (e : ParamEnd) (ps : List ParamAt) → ended_items e ps ≤ length ps
ended-few (param_end.Named n ds) ps = omega arith
ended-few (param_end.AnyNumber n) ps = omega arith
ended-few param_end.Receiver ps = further-less ps

abbrev items_there : ParamRest → ℕ
items_there r = ended_items r.1.0 r.1.1.0

abbrev pub all_there : List ParamAt × Bool → ℕ
all_there ps = length ps.0

abbrev pub further_there : List ParamAt × Bool → ℕ
further_there ps = further ps.0

abbrev some_further : Option (List ParamAt × Bool) → ℕ
some_further o = further_there (params_or_none o)

abbrev some_there : Option (List ParamAt × Bool) → ℕ
some_there o = all_there (params_or_none o)

abbrev behind_there : FirstBehind → ℕ
behind_there x = all_there x.1

ended-there : (e : ParamEnd) (m : Modifiers) (of : BaseType) (items : List Around) (ps : List ParamAt × Bool) → further_there (param_ended e m of items ps) ≡ ended_items e ps.0
ended-there (param_end.Named n ds) m of items ps = refl
ended-there (param_end.AnyNumber n) m of items ps = refl
ended-there param_end.Receiver m of items ps = refl

-- behind the type of a parameter
record ParamRows (h : ℕ) : Type 0 where
  later : AtLeast h (nest param_rest) items_there
  first : AtLeast h (nest first_rest) items_there

from-least : (h : ℕ) → ParamRows h → AtLeast h params_from further_there
unfolding params_from
from-least h rows =
    in-turn apply_rest further_there (in-pair (none h param_modifiers even.param_modifiers_even) (in-pair (none h base_type even.base_type_even) rows.later))
    (λ v. omega (arith, ended-there v.1.1.1.0 v.0 v.1.0 v.1.1.0 v.1.1.1.1))

next-least : (h : ℕ) → ParamRows h → AtLeast h next_params all_there
unfolding next_params
next-least h rows = weaker all_there (in-behind 1 (one h 7 refl) (from-least h rows)) (λ ps. omega (arith, further-few ps.0))

some-next : (h : ℕ) → ParamRows h → AtLeast h (maybe next_params) some_there
some-next h rows = in-maybe some_there (next-least h rows) refl (λ ps. omega arith)

bracket-least : (h : ℕ) (rest : Form ParamRest) → AtLeast h rest items_there → AtLeast h (bracket_rest rest) items_there
bracket-least h rest p =
    weaker items_there (in-behind 0 (none h (sign token.open_bracket) refl) (in-behind 0 (none h (sign token.close_bracket) refl) (in-turn in_array items_there p (λ r. omega arith)))) (λ r. omega arith)

varargs-least : (h : ℕ) → AtLeast h (turn ended_last varargs) items_there
varargs-least h = in-turn ended_last items_there (none h varargs even.varargs_even) (λ e. omega (arith, ended-few e []))

annotated-least : (h : ℕ) (rest : Form ParamRest) → AtLeast h rest items_there → AtLeast h (annotated_rest rest) items_there
annotated-least h rest p =
    weaker items_there (in-behind 0 (none h annotation even.annotation_even) (in-behind 0 (none h annotations even.annotations_even) (in-either (bracket-least h rest p) (varargs-least h)))) (λ r. omega arith)

end-least : (h : ℕ) → ParamRows h → (f : Form ParamEnd) → effect f ≡ level → AtLeast h (turn end_and_rest (pair f (maybe next_params))) items_there
end-least h rows f level_there =
    in-turn end_and_rest items_there (in-pair (none h f level_there) (some-next h rows)) (λ v. omega (arith, ended-few v.0 (params_or_none v.1).0))

later-least : (h : ℕ) → ParamRows h → AtLeast h param_rest_form items_there
unfolding param_rest_form
later-least h rows =
    in-either (bracket-least h (nest param_rest) rows.later)
    (in-either (annotated-least h (nest param_rest) rows.later) (in-either (varargs-least h) (end-least h rows named_end even.named_end_even)))

behind-name-least : (h : ℕ) → ParamRows h → AtLeast h behind_first_name behind_there
unfolding behind_first_name
behind-name-least h rows =
    in-turn alone_or behind_there
    (in-maybe (λ o. behind_there (alone_or o))
    (in-either (in-turn dims_and_rest behind_there (in-pair (none h dot_this even.dot_this_even) (some-next h rows)) (λ v. omega arith))
    (in-either (in-turn dims_and_rest behind_there (in-pair (none h with_dims even.with_dims_even) (some-next h rows)) (λ v. omega arith))
    (in-turn comma_first behind_there (next-least h rows) (λ ps. omega arith))))
    refl (λ v. omega arith))
    (λ o. omega arith)

first-least : (h : ℕ) → ParamRows h → AtLeast h first_rest_form items_there
unfolding first_rest_form
first-least h rows =
    in-either (bracket-least h (nest first_rest) rows.first)
    (in-either (annotated-least h (nest first_rest) rows.first)
    (in-either (varargs-least h)
    (in-either (end-least h rows receiver even.receiver_even)
    (in-turn first_named items_there (in-pair (none h name_at even.name_at_even) (behind-name-least h rows)) (λ v. omega (arith, ended-few (end_named v.0 v.1.0) v.1.1.0))))))

param-rows : (h : ℕ) → ParamRows h
param-rows zero = record { later = nest-zero param_rest items_there; first = nest-zero first_rest items_there }
param-rows (suc h) = record {
  later = nest-suc h param_rest items_there (later-least h (param-rows h));
  first = nest-suc h first_rest items_there (first-least h (param-rows h));
}

-- of the first parameter with the annotations before it
abbrev found_there : List AnnotationText → FirstRest → ℕ
found_there found g = further_there (g found)

found-least : (h : ℕ) (found : List AnnotationText) → AtLeast h behind_annotations (found_there found)
unfolding behind_annotations
found-least h found =
    in-either (in-turn final_first (found_there found) (in-behind 0 (none h (keyword token.final) refl) (in-pair (none h (many param_modifier) even.param_marks_even) (in-pair (none h base_type even.base_type_even) (param-rows h).later)))
    (λ v. omega (arith, ended-there v.1.1.1.0 (with_marks (final_and found) v.0) v.1.0 v.1.1.0 v.1.1.1.1)))
    (in-turn plain_first (found_there found) (in-pair (none h base_type even.base_type_even) (param-rows h).first)
    (λ v. omega (arith, ended-there v.1.1.0 (annotated_only found) v.0 v.1.0 v.1.1.1)))

first-added : (h : ℕ) (ts : List Symbol) (ps : List ParamAt × Bool) → Is (WholeAt h) first_params ts ps → Adds ts (further_there ps)
unfolding first_params
first-added h ts ps is =
    let v = is.0 in
    let parts = is.1 in
    let before = (none h annotations even.annotations_even).added parts.0 v.0 parts.3 in
    adds-less (adds-both parts.2 before ((found-least h v.0).added parts.1 v.1 parts.4)) (omega (arith, ap further_there is.2))

pub first-params-least : (h : ℕ) → AtLeast h first_params further_there
first-params-least h = at-least (first-added h)

abbrev pub params_there : Params → ℕ
params_there ps = further ps.params

pub params-least : (h : ℕ) → AtLeast h params params_there
unfolding params
params-least h =
    weaker params_there
    (in-behind 0 (none h (sign token.open_parenthesis) refl)
    (in-before 0
    (in-turn optional_first params_there (in-maybe some_further (first-params-least h) refl (λ ps. omega arith)) (λ o. omega arith))
    (none h (sign token.close_parenthesis) refl)))
    (λ ps. omega arith)

-- ---- constants

some-least : (h : ℕ) → AtLeast h (nest enum_rest) length → AtLeast h some_constants further
unfolding some_constants
some-least h rest =
    in-turn (one_and_rest {A = MemberAt}) further (in-pair (none h constant even.constant_even) (in-maybe (listed {A = MemberAt}) rest refl (λ ms. omega arith))) (λ x. omega arith)

rest-least : (h : ℕ) → AtLeast h (nest enum_rest) length → AtLeast h enum_rest_form length
unfolding enum_rest_form
rest-least h rest =
    weaker length
    (in-behind 1 (one h 7 refl) (in-turn (list_or_none {A = MemberAt}) further (in-maybe (further_listed {A = MemberAt}) (some-least h rest) refl (λ ms. omega arith)) (λ o. omega arith)))
    (λ ms. omega (arith, further-few ms))

constant-rows : (h : ℕ) → AtLeast h (nest enum_rest) length
constant-rows zero = nest-zero enum_rest length
constant-rows (suc h) = nest-suc h enum_rest length (rest-least h (constant-rows h))

pub constants-least : (h : ℕ) → AtLeast h constants further
unfolding constants constant_list
constants-least h =
    in-turn (list_or_none {A = MemberAt}) further
    (in-maybe (further_listed {A = MemberAt})
    (in-either (some-least h (constant-rows h)) (in-turn (no_values {A = MemberAt}) further (none h (sign token.comma) refl) (λ s. omega arith)))
    refl (λ ms. omega arith))
    (λ o. omega arith)
