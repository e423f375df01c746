-- One reading behind another, and readings that are gathered one after another.
use Rattle.std.proofs.Common.{◌≡◌, List, [], ◌∷◌, ◌++◌, Option, Some, None, option_map, Result, Ok, Err, refl, sym, ap, subst, ◌∙◌, append_assoc, append-nil}
use Rattle.std.specs.Option.{option_and_then}
use Rattle.project_config.specs.declared.fault.ConfigFault.{ConfigFault}
use Rattle.project_config.specs.declared.fault.ConfigFault.TheVariants.{Json, Item, ServiceLine, KindLine, TooManyProcessors, UnknownProcessor, Memory}
use Rattle.project_config.specs.Answers.{Reading, ◌>>=◌, OrMemory}

-- what comes behind a value
pub behind : {A B : Type 0} (r : Reading A) (x : A) (f : A → Reading B) (out : Result B ConfigFault) → r ≡ Ok x → OrMemory out (f x) → OrMemory out (r >>= f)
behind r x f out is later = subst (λ r. OrMemory out (r >>= f)) (sym is) later

-- a fault stays
pub stays : {A B : Type 0} (r : Reading A) (e : ConfigFault) (f : A → Reading B) → OrMemory {A = A} (Err e) r → OrMemory {A = B} (Err e) (r >>= f)
stays r Json f is = ap (λ r. r >>= f) is
stays r (Item place) f is = ap (λ r. r >>= f) is
stays r (ServiceLine line) f is = ap (λ r. r >>= f) is
stays r (KindLine line) f is = ap (λ r. r >>= f) is
stays r TooManyProcessors f is = ap (λ r. r >>= f) is
stays r (UnknownProcessor name) f is = ap (λ r. r >>= f) is
stays r Memory f is = tt

-- what is so far, and what a reading gives behind it
abbrev pub onto : {A : Type 0} → List A → Reading (List A) → Reading (List A)
onto so_far r = r >>= (λ more. Ok (so_far ++ more))

-- one item and then more
abbrev pub and_more : {A : Type 0} → Reading A → Reading (List A) → Reading (List A)
and_more first r = first >>= (λ x. r >>= (λ more. Ok (x ∷ more)))

pub onto-none : {A : Type 0} (r : Reading (List A)) → onto [] r ≡ r
onto-none (Ok xs) = refl
onto-none (Err e) = refl

pub onto-end : {A : Type 0} (so_far : List A) → onto so_far (Ok []) ≡ Ok so_far
onto-end so_far = ap Ok (append-nil so_far)

pub onto-more : {A : Type 0} (so_far : List A) (first : Reading A) (x : A) (r : Reading (List A)) → first ≡ Ok x → onto (so_far ++ x ∷ []) r ≡ onto so_far (and_more first r)
onto-more so_far first x r is = by r ∙ ap (λ first. onto so_far (and_more first r)) (sym is)
  where
    by : (r : Reading (List _)) → onto (so_far ++ x ∷ []) r ≡ onto so_far (and_more (Ok x) r)
    by (Ok xs) = ap Ok (append_assoc so_far (x ∷ []) xs)
    by (Err e) = refl

pub onto-stays : {A : Type 0} (so_far : List A) (first : Reading A) (e : ConfigFault) (r : Reading (List A)) → OrMemory {A = A} (Err e) first → OrMemory {A = List A} (Err e) (onto so_far (and_more first r))
onto-stays so_far first e r is = stays (and_more first r) e (λ more. Ok (so_far ++ more)) (stays first e (λ x. r >>= (λ more. Ok (x ∷ more))) is)

-- ---- the same of what may be nothing

abbrev pub put_on : {A : Type 0} → List A → Option (List A) → Option (List A)
put_on so_far r = option_map (λ more. so_far ++ more) r

abbrev pub then_more : {T A : Type 0} → (T → A) → Option T → Option (List A) → Option (List A)
then_more item first r = option_and_then (λ t. option_map (λ more. item t ∷ more) r) first

pub put_on-none : {A : Type 0} (r : Option (List A)) → put_on [] r ≡ r
put_on-none None = refl
put_on-none (Some xs) = refl

pub put_on-end : {A : Type 0} (so_far : List A) → put_on so_far (Some []) ≡ Some so_far
put_on-end so_far = ap Some (append-nil so_far)

pub put_on-more : {T A : Type 0} (item : T → A) (so_far : List A) (first : Option T) (t : T) (r : Option (List A)) → first ≡ Some t → put_on (so_far ++ item t ∷ []) r ≡ put_on so_far (then_more item first r)
put_on-more item so_far first t r is = by r ∙ ap (λ first. put_on so_far (then_more item first r)) (sym is)
  where
    by : (r : Option (List _)) → put_on (so_far ++ item t ∷ []) r ≡ put_on so_far (then_more item (Some t) r)
    by None = refl
    by (Some xs) = ap Some (append_assoc so_far (item t ∷ []) xs)

pub put_on-off : {T A : Type 0} (item : T → A) (so_far : List A) (first : Option T) (r : Option (List A)) → first ≡ None → put_on so_far (then_more item first r) ≡ None
put_on-off item so_far first r is = ap (λ first. put_on so_far (then_more item first r)) is
