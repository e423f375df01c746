-- One root after another.
use Rattle.std.proofs.Common.{◌≡◌, ℕ, zero, suc, ◌+◌, List, [], ◌∷◌, drop, Some, None, slice_get, refl, sym, ap, arith}
use Rattle.apt_base.specs.declared.element.ElementRef.{ElementRef}
use Rattle.local_procs.specs.Plans.{Plan, done, sendable, each_of}
use Rattle.local_procs.proofs.Sending.{ends_sent, sent_before, then_sent}

rest_nil : {A : Type 0} (n : ℕ) → drop n (let none : List A = [] in none) ≡ []
rest_nil zero = refl
rest_nil (suc n) = refl

pub rest_none : {A : Type 0} (xs : List A) (n : ℕ) → slice_get xs n ≡ None → drop n xs ≡ []
rest_none [] n e = rest_nil n
rest_none (x ∷ xs) zero e = absurd (cc)
rest_none (x ∷ xs) (suc n) e = rest_none xs n e

pub rest_some : {A : Type 0} (xs : List A) (n : ℕ) (x : A) → slice_get xs n ≡ Some x → drop n xs ≡ x ∷ drop (suc n) xs
rest_some [] n x e = absurd (cc)
rest_some (y ∷ ys) zero x e = let is : y ≡ x = cc in ap (λ z. z ∷ ys) is
rest_some (y ∷ ys) (suc n) x e = rest_some ys n x e

module _ (plan : ElementRef → Plan) (xs : List ElementRef) (n : ℕ) where
  pub all_done : None ≡ slice_get xs n → done ≡ sendable (each_of plan (drop n xs))
  unfolding each_of
  all_done e = rw (rest_none xs n (sym e)) (sym ends_sent)

  pub one_begun : (x : ElementRef) (p : Plan) → Some x ≡ slice_get xs n → p ≡ sendable (plan x)
      → sent_before p (each_of plan (drop (n + 1) xs)) ≡ sendable (each_of plan (drop n xs))
  unfolding each_of
  one_begun x p e h =
      let one_more : n + 1 ≡ suc n = omega arith in
      rw (rest_some xs n x (sym e), one_more, h) (sym (then_sent (plan x) (each_of plan (drop (suc n) xs))))
