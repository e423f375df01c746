-- The sorts of symbol that begin the steps and the forms of parameters.
use Rattle.std.proofs.Common.{◌≡◌, false, [], ◌∷◌, ◌++◌, refl}
use Rattle.decl_grammar.specs.Form.{first, nullable, names, ats, primitive_sorts}
use Rattle.decl_grammar.specs.Types.{annotation, annotations, name, dim, primitive_type, base_type, class_type, named_part}
use Rattle.decl_grammar.specs.Grammar.{some_dims, varargs, named_end, receiver, dot_this, with_dims, next_params, behind_annotations, first_params}
use Rattle.decl_types.specs.Params.{bracket_step, varargs_step, annotated_step, param_step, first_end, first_step}

pub bracket_step_first : first bracket_step ≡ 65 ∷ []
unfolding bracket_step
bracket_step_first = refl

pub varargs_step_first : first varargs_step ≡ 70 ∷ []
unfolding varargs_step varargs
varargs_step_first = refl

pub annotated_step_first : first annotated_step ≡ ats
unfolding annotated_step annotation
annotated_step_first = refl

pub param_step_full : nullable param_step ≡ false
unfolding param_step bracket_step annotated_step varargs_step varargs annotation named_end name
param_step_full = refl

pub first_step_full : nullable first_step ≡ false
unfolding first_step bracket_step annotated_step varargs_step varargs annotation receiver first_end name
first_step_full = refl

pub dot_this_first : first dot_this ≡ 69 ∷ []
unfolding dot_this
dot_this_first = refl

pub with_dims_first : first with_dims ≡ ats ++ 65 ∷ []
unfolding with_dims some_dims dim annotations annotation
with_dims_first = refl

pub receiver_first : first receiver ≡ 52 ∷ []
unfolding receiver
receiver_first = refl

pub next_params_first : first next_params ≡ 68 ∷ []
unfolding next_params
next_params_first = refl

pub first_params_first : first first_params ≡ ats ++ ((27 ∷ []) ++ (primitive_sorts ++ names))
unfolding first_params annotations annotation behind_annotations base_type primitive_type class_type named_part name
first_params_first = refl
