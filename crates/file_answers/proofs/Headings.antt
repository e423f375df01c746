-- A method or a constructor up to its parameters is one of two forms, and of each of them the next symbol tells how to go on.
use Rattle.std.proofs.Common.{ℕ, List, [], ◌++◌, ◌⊎◌, inl, inr, length, Option, None, Some, refl, ap, ◌∙◌}
use Rattle.decl_grammar.specs.declared.symbol.Symbol.{Symbol}
use Rattle.decl_grammar.specs.Form.{Form, pair, turn, maybe, either, Is, Wholes}
use Rattle.decl_grammar.specs.Types.{keyword, before, name, annotations, silently, type_form, optional_params}
use Rattle.decl_grammar.specs.Rule.{WholeAt}
use Rattle.decl_grammar.specs.File.{IsPhrase}
use Rattle.decl_limits.specs.Children.{executable_heading}
use Rattle.decl_grammar.specs.TokenNames as token

-- what a method returns
abbrev pub returned : Form (Unit {0})
returned = either (turn silently (keyword token.void)) (turn silently type_form)

unfoldable pub method_heading : Form ℕ
method_heading = turn length (before optional_params (pair annotations (pair returned name)))

unfoldable pub constructor_heading : Form ℕ
constructor_heading = turn length (before optional_params (pair annotations name))

module _ (inner : Wholes) (ts : List Symbol) (n : ℕ) where
  split : Is inner executable_heading ts n → Is inner method_heading ts n ⊎ Is inner constructor_heading ts n
  unfolding executable_heading method_heading constructor_heading
  split (params, (y, (us, vs, e, is_params, (us', vs', e', is_annotations, (us'', vs'', e'', is_returned, is_name))), given), count) = go y.1.1.0 is_returned
    where
      go : (o : Option (Unit {0})) → Is inner (maybe returned) us'' o → Is inner method_heading ts n ⊎ Is inner constructor_heading ts n
      go None none =
          inr (params, ((y.0, (y.1.0, y.1.1.1)), (us, vs, e, is_params, (us', vs'', e' ∙ ap (λ (xs : List Symbol). us' ++ xs) (e'' ∙ ap (λ (xs : List Symbol). xs ++ vs'') none), is_annotations, is_name)), given), count)
      go (Some r) is = inl (params, ((y.0, (y.1.0, (r, y.1.1.1))), (us, vs, e, is_params, (us', vs', e', is_annotations, (us'', vs'', e'', is, is_name))), given), count)

  joined : Is inner method_heading ts n ⊎ Is inner constructor_heading ts n → Is inner executable_heading ts n
  unfolding executable_heading method_heading constructor_heading
  joined (inl (params, (y, (us, vs, e, is_params, (us', vs', e', is_annotations, (us'', vs'', e'', is, is_name))), given), count)) =
      (params, ((y.0, (y.1.0, (Some y.1.1.0, y.1.1.1))), (us, vs, e, is_params, (us', vs', e', is_annotations, (us'', vs'', e'', is, is_name))), given), count)
  joined (inr (params, (y, (us, vs, e, is_params, (us', vs', e', is_annotations, is_name)), given), count)) =
      (params, ((y.0, (y.1.0, (None, y.1.1))), (us, vs, e, is_params, (us', vs', e', is_annotations, ([], vs', refl, refl, is_name))), given), count)

pub heading-split : (ts : List Symbol) (n : ℕ) → IsPhrase executable_heading ts n → IsPhrase method_heading ts n ⊎ IsPhrase constructor_heading ts n
heading-split ts n is = go (split (WholeAt is.0) ts n is.1)
  where
    go : Is (WholeAt is.0) method_heading ts n ⊎ Is (WholeAt is.0) constructor_heading ts n → IsPhrase method_heading ts n ⊎ IsPhrase constructor_heading ts n
    go (inl a) = inl (is.0, a)
    go (inr a) = inr (is.0, a)

pub heading-joined : (ts : List Symbol) (n : ℕ) → IsPhrase method_heading ts n ⊎ IsPhrase constructor_heading ts n → IsPhrase executable_heading ts n
heading-joined ts n (inl is) = (is.0, joined (WholeAt is.0) ts n (inl is.1))
heading-joined ts n (inr is) = (is.0, joined (WholeAt is.0) ts n (inr is.1))
