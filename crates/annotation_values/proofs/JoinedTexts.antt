-- Texts one behind the other, with those so far in front.
use Rattle.std.proofs.Common.{◌≡◌, ℕ, ◌+◌, ◌<◌, length, get_or, drop, List, [], ◌∷◌, ◌++◌, map, Option, None, Some}
use Rattle.std.proofs.Common.{option_map}
use Rattle.std.proofs.Common.{option_and_then, refl, sym, ap, ◌∙◌, append_assoc, append-nil}
use Rattle.std.proofs.lemmas.List.{drop_more}
use Rattle.decl_tree.specs.declared.annotation.ValueText.{ValueText}
use Rattle.name_resolve.proofs.ChildrenLeft.{rest_all}
use Rattle.annotation_values.specs.Values.{Meanings, text_value, all_texts, meant_in, value_in}

-- these texts behind what is there
abbrev pub behind : List ℕ → Option (List ℕ) → Option (List ℕ)
behind text texts = option_map (λ more. text ++ more) texts

behind-nothing : (texts : Option (List ℕ)) → behind [] texts ≡ texts
behind-nothing None = refl
behind-nothing (Some text) = refl

behind-both : (text more : List ℕ) (texts : Option (List ℕ))
    → behind (text ++ more) texts ≡ behind text (behind more texts)
behind-both text more None = refl
behind-both text more (Some rest) = ap Some (append_assoc text more rest)

abbrev with_first : Option (List ℕ) → Option (List ℕ) → Option (List ℕ)
with_first first texts = option_and_then (λ text. option_map (λ more. text ++ more) texts) first

module _ (m : Meanings) (forms : List ValueText) where
  -- those from one number on behind what is there
  abbrev pub texts_from : List ℕ → ℕ → Option (List ℕ)
  texts_from text n = behind text (all_texts (map (meant_in m) (drop n forms)))

  pub texts-first : texts_from [] 0 ≡ all_texts (map (meant_in m) forms)
  texts-first = behind-nothing (all_texts (map (meant_in m) forms))

  pub texts-end : (text : List ℕ) (n : ℕ) → n ≡ length forms → texts_from text n ≡ Some text
  texts-end text n e =
      ap (λ (fs : List ValueText). behind text (all_texts (map (meant_in m) fs))) (rest_all forms n e)
      ∙ ap Some (append-nil text)

  module _ (text : List ℕ) (n : ℕ) (form : ValueText) (less : n < length forms) (is : form ≡ get_or forms n form) where
    rest-is : drop n forms ≡ form ∷ drop (n + 1) forms
    rest-is = drop_more forms n form less ∙ ap (λ f. f ∷ drop (n + 1) forms) (sym is)

    first-is : (first : Option (List ℕ)) → first ≡ text_value (value_in m form)
        → texts_from text n ≡ behind text (with_first first (all_texts (map (meant_in m) (drop (n + 1) forms))))
    first-is first e =
        ap (λ (fs : List ValueText). behind text (all_texts (map (meant_in m) fs))) rest-is
        ∙ ap (λ o. behind text (with_first o (all_texts (map (meant_in m) (drop (n + 1) forms))))) (sym e)

    pub texts-more : (more : List ℕ) → Some more ≡ text_value (value_in m form)
        → texts_from text n ≡ texts_from (text ++ more) (n + 1)
    texts-more more e =
        first-is (Some more) e ∙ sym (behind-both text more (all_texts (map (meant_in m) (drop (n + 1) forms))))

    pub texts-none : None ≡ text_value (value_in m form) → texts_from text n ≡ None
    texts-none e = first-is None e
