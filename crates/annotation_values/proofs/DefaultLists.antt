-- The elements with a default, from one number on.
use Rattle.std.proofs.Common.{◌≡◌, ℕ, suc, ◌+◌, length, drop, List, ◌∷◌, ◌++◌, filter_map, Option, None, Some}
use Rattle.std.proofs.Common.{slice_get}
use Rattle.std.proofs.Common.{refl, sym, ap, ◌∙◌, append_assoc, append-nil, arith}
use Rattle.std.specs.List.{enumerate_from, cons_option}
use Rattle.std.specs.Option.{option_to_list}
use Rattle.decl_elements.specs.Nodes.{Node, children}
use Rattle.element_table.specs.TypeTable.{TypeTable}
use Rattle.name_resolve.specs.Finds.{Find}
use Rattle.name_resolve.proofs.ChildrenLeft.{rest_none, rest_all, rest_some}
use Rattle.annotation_values.specs.ElementValues.{Named, child_default}

cons-is : {A : Type 0} (first : Option A) (rest : List A) → cons_option first rest ≡ option_to_list first ++ rest
cons-is None rest = refl
cons-is (Some x) rest = refl

filter-next : {A B : Type 0} (h : A → Option B) (list : List B) (x : A) (xs : List A)
    → list ++ filter_map h (x ∷ xs) ≡ list ++ option_to_list (h x) ++ filter_map h xs
filter-next {B = B} h list x xs =
    ap (λ (ys : List B). list ++ ys) (cons-is (h x) (filter_map h xs))
    ∙ sym (append_assoc list (option_to_list (h x)) (filter_map h xs))

module _ (table : TypeTable) (f : Find) (node : Node) where
  abbrev defaults_of : ℕ → List Node → List Named
  defaults_of n nodes = filter_map (child_default table f) (enumerate_from n nodes)

  -- those from one number on behind what is there
  abbrev pub defaults_from : List Named → ℕ → List Named
  defaults_from list n = list ++ defaults_of n (drop n (children node))

  pub defaults-past : (list : List Named) (n : ℕ) → slice_get (children node) n ≡ None → defaults_from list n ≡ list
  defaults-past list n e =
      ap (λ (nodes : List Node). list ++ defaults_of n nodes) (rest_none (children node) n e) ∙ append-nil list

  pub defaults-end : (list : List Named) (n : ℕ) → n ≡ length (children node) → defaults_from list n ≡ list
  defaults-end list n e =
      ap (λ (nodes : List Node). list ++ defaults_of n nodes) (rest_all (children node) n e) ∙ append-nil list

  pub defaults-next : (list more : List Named) (n : ℕ) (child : Node) → slice_get (children node) n ≡ Some child
      → more ≡ list ++ option_to_list (child_default table f (n, child))
      → defaults_from list n ≡ defaults_from more (n + 1)
  defaults-next list more n child is e =
      let one : suc n ≡ n + 1 = omega arith in
      let rest : List (ℕ × Node) = enumerate_from (n + 1) (drop (suc n) (children node)) in
      let whole : defaults_from list n ≡ list ++ filter_map (child_default table f) ((n, child) ∷ rest) =
      ap (λ (nodes : List Node). list ++ defaults_of n nodes) (rest_some (children node) n child is) in
      whole ∙ filter-next (child_default table f) list (n, child) rest
      ∙ ap (λ (d : List Named). d ++ filter_map (child_default table f) rest) (sym e)
      ∙ ap (λ (k : ℕ). more ++ defaults_of (n + 1) (drop k (children node))) one
