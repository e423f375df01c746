-- The first questions stay where others are asked or answered behind them.
use Rattle.std.proofs.Common.{◌≡◌, ℕ, zero, suc, ◌≤◌, List, [], ◌∷◌, ◌++◌, length, take, set, sym, ap, ◌∙◌, arith}
use Rattle.std.proofs.lemmas.List.{take-take, take-append-le, take-set-le, take_all}

module _ {A : Type 0} where
  -- one more behind them
  pub pushed-front : (n : ℕ) (xs ys : List A) (x : A) → n ≤ length xs → ys ≡ xs ++ x ∷ [] → take n ys ≡ take n xs
  pushed-front n xs ys x within e = ap (take n) e ∙ take-append-le n xs (x ∷ []) within

  -- one of those behind them is another
  pub set-front : (n : ℕ) (xs ys : List A) (x : A) → ys ≡ set xs n x → take n ys ≡ take n xs
  set-front n xs ys x e = ap (take n) e ∙ take-set-le n xs n x (omega arith)

  -- fewer of them stay too
  pub fewer-front : (m n : ℕ) (xs ys : List A) → take n ys ≡ take n xs → m ≤ n → take m ys ≡ take m xs
  fewer-front m n xs ys e less = sym (take-take m n ys less) ∙ ap (take m) e ∙ take-take m n xs less

  -- they stay in one step and in the next one, in which more of them do
  pub front-on : (m n : ℕ) (xs ys zs : List A) → take m ys ≡ take m xs → take n zs ≡ take n ys → m ≤ n → take m zs ≡ take m xs
  front-on m n xs ys zs e f less = fewer-front m n ys zs f less ∙ e

  -- a list whose first elements stay is no shorter than these are many
  pub front-long : (n : ℕ) (xs ys : List A) → take n ys ≡ take n xs → n ≤ length xs → n ≤ length ys
  front-long zero xs ys e within = omega arith
  front-long (suc n) [] ys e within = absurd (omega arith)
  front-long (suc n) (x ∷ xs) [] e within = absurd (cc)
  front-long (suc n) (x ∷ xs) (y ∷ ys) e within =
      let others : take n ys ≡ take n xs = cc in
      let more = front-long n xs ys others (omega arith) in
      omega arith

  -- where all of a list stay, what is cut back to as many is that list
  pub cut-back : (m n : ℕ) (xs ys zs : List A) → m ≡ n → n ≡ length xs → take n ys ≡ take n xs → zs ≡ take m ys → zs ≡ xs
  cut-back m n xs ys zs same long e cut = cut ∙ ap (λ k. take k ys) same ∙ e ∙ take_all n xs (omega arith)
