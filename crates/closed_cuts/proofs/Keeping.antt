-- Values that are the same on two sides, and of which something holds; what is made of them in the same way is so too.
use Rattle.std.proofs.Common.{◌≡◌, Bool, true, false, cond, ◌||◌, List, [], ◌∷◌, ◌++◌, map, filter, filter_map, Option, None, Some, refl, sym, ap, ap₂, subst, ◌∙◌}
use Rattle.std.specs.List.{AllByRecursion, find, flat_map, list_any, cons_option}
use Rattle.std.specs.Option.{option_map, option_and_then, option_to_list}
use Rattle.type_relations.specs.Closed.{closed}
use Rattle.decl_elements.proofs.Everywhere.{OfSome, each_append}
use Rattle.closed_cuts.specs.Kept.{IfAny}
pub use Rattle.closed_cuts.specs.Kept.{Kept}

-- nothing is asked
abbrev pub Any : {A : Type 0} → A → Type 0
Any x = Unit {0}

pub if_any : {A : Type 0} (G : A → Type 0) (option : Option A) → OfSome G option → IfAny G option
if_any G None g = tt
if_any G (Some x) g = g

pub kept : {A : Type 0} (G : A → Type 0) (x : A) → G x → Kept G x x
kept G x g = record { equal = refl; good = g }

pub same : {A : Type 0} (x y : A) → x ≡ y → Kept Any x y
same x y e = record { equal = e; good = tt }

-- what is made of a value that is kept, if it is kept for one side's value
pub through : {A B : Type 0} (G : A → Type 0) (H : B → Type 0) (F F' : A → B) (x y : A) → Kept G x y → ((z : A) → G z → Kept H (F z) (F' z)) → Kept H (F x) (F' y)
through G H F F' x y k to = let P : _ → Type 0 = λ z. Kept H (F x) (F' z) in subst P k.equal (to x k.good)

-- the same where only the value is wanted
pub by_equal : {A B : Type 0} (H : B → Type 0) (F F' : A → B) (x y : A) → x ≡ y → Kept H (F x) (F' x) → Kept H (F x) (F' y)
by_equal H F F' x y e k = let P : _ → Type 0 = λ z. Kept H (F x) (F' z) in subst P e k

-- the same of what equals the two sides
pub moved : {A : Type 0} (G : A → Type 0) (x y x' y' : A) → Kept G x y → x' ≡ x → y' ≡ y → Kept G x' y'
moved G x y x' y' k e e' = record { equal = e ∙ k.equal ∙ sym e'; good = subst G (sym e) k.good }

-- two choices by one test
pub chosen : {A : Type 0} (G : A → Type 0) (b b' : Bool) (x y x' y' : A) → b ≡ b' → Kept G x x' → Kept G y y' → Kept G (cond b x y) (cond b' x' y')
chosen G b b' x y x' y' e k k' =
    by_equal G (λ (c : Bool). cond c x y) (λ (c : Bool). cond c x' y') b b' e (elim b as (λ c. Kept G (cond c x y) (cond c x' y')) [ true ↦ k | false ↦ k' ])

-- ---- lists

pub map-facts : {A B : Type 0} (H : B → Type 0) (F F' : A → B) (xs : List A) → AllByRecursion (λ x. Kept H (F x) (F' x)) xs → Kept (AllByRecursion H) (map F xs) (map F' xs)
map-facts H F F' [] all = record { equal = refl; good = tt }
map-facts {B = B} H F F' (x ∷ xs) all =
    let more = map-facts H F F' xs all.1 in
    record { equal = ap₂ (λ (y : B) (ys : List B). y ∷ ys) all.0.equal more.equal; good = (all.0.good, more.good) }

pub append-kept : {A : Type 0} (G : A → Type 0) (xs xs' ys ys' : List A) → Kept (AllByRecursion G) xs xs' → Kept (AllByRecursion G) ys ys' → Kept (AllByRecursion G) (xs ++ ys) (xs' ++ ys')
append-kept {A} G xs xs' ys ys' k k' = record { equal = ap₂ (λ (a : List A) (b : List A). a ++ b) k.equal k'.equal; good = each_append G xs ys k.good k'.good }

module _ {A B : Type 0} (G : A → Type 0) (H : B → Type 0) (F F' : A → B) (to : (x : A) → G x → Kept H (F x) (F' x)) where
  pub map-kept : (xs : List A) → AllByRecursion G xs → Kept (AllByRecursion H) (map F xs) (map F' xs)
  map-kept [] all = record { equal = refl; good = tt }
  map-kept (x ∷ xs) all =
      let first = to x all.0 in
      let more = map-kept xs all.1 in
      record { equal = ap₂ (λ (y : B) (ys : List B). y ∷ ys) first.equal more.equal; good = (first.good, more.good) }

  pub option_map-kept : (o : Option A) → IfAny G o → Kept (IfAny H) (option_map F o) (option_map F' o)
  option_map-kept None g = record { equal = refl; good = tt }
  option_map-kept (Some x) g = let k = to x g in record { equal = ap (λ (y : B). Some y) k.equal; good = k.good }

  pub option_to_list-kept : (o : Option A) → AllByRecursion G (option_to_list o) → Kept (IfAny H) (option_map F o) (option_map F' o)
  option_to_list-kept None g = record { equal = refl; good = tt }
  option_to_list-kept (Some x) g = let k = to x g.0 in record { equal = ap (λ (y : B). Some y) k.equal; good = k.good }

pub and_then-kept : {A B : Type 0} (G : A → Type 0) (H : B → Type 0) (F F' : A → Option B) → ((x : A) → G x → Kept (IfAny H) (F x) (F' x))
    → (o : Option A) → IfAny G o → Kept (IfAny H) (option_and_then F o) (option_and_then F' o)
and_then-kept G H F F' to None g = record { equal = refl; good = tt }
and_then-kept G H F F' to (Some x) g = to x g

module _ {A : Type 0} (G : A → Type 0) where
  closed_more : (o : Option A) (rest : Option (List A)) → IfAny G o → IfAny (AllByRecursion G) rest → IfAny (AllByRecursion G) (option_and_then (λ y. option_map (λ ys. y ∷ ys) rest) o)
  closed_more None rest g all = tt
  closed_more (Some x) None g all = tt
  closed_more (Some x) (Some xs) g all = (g, all)

  pub closed-good : (os : List (Option A)) → AllByRecursion (IfAny G) os → IfAny (AllByRecursion G) (closed os)
  closed-good [] all = tt
  closed-good (o ∷ os) all = closed_more o (closed os) all.0 (closed-good os all.1)

  pub flat-good : (xss : List (List A)) → AllByRecursion (AllByRecursion G) xss → AllByRecursion G (flat_map (λ xs. xs) xss)
  flat-good [] all = tt
  flat-good (xs ∷ xss) all = each_append G xs _ all.0 (flat-good xss all.1)

  pub find-good : (test : A → Bool) (xs : List A) → AllByRecursion G xs → IfAny G (find test xs)
  find-good test [] all = tt
  find-good test (x ∷ xs) all = elim (test x) as (λ b. IfAny G (cond b (Some x) (find test xs))) [ true ↦ all.0 | false ↦ find-good test xs all.1 ]

  pub list_any-same : (test test' : A → Bool) → ((x : A) → G x → test x ≡ test' x) → (xs : List A) → AllByRecursion G xs → list_any test xs ≡ list_any test' xs
  list_any-same test test' e [] all = refl
  list_any-same test test' e (x ∷ xs) all = ap₂ (λ (a : Bool) (b : Bool). a || b) (e x all.0) (list_any-same test test' e xs all.1)

  pub closed-kept : (os os' : List (Option A)) → Kept (AllByRecursion (IfAny G)) os os' → Kept (IfAny (AllByRecursion G)) (closed os) (closed os')
  closed-kept os os' k = record { equal = ap closed k.equal; good = closed-good os k.good }

  pub cons_option-good : (o : Option A) → IfAny G o → (xs : List A) → AllByRecursion G xs → AllByRecursion G (cons_option o xs)
  cons_option-good None g xs all = all
  cons_option-good (Some x) g xs all = (g, all)

  -- ---- filters by tests that are the same where it holds

  pub filter-kept : (test test' : A → Bool) → ((x : A) → G x → test x ≡ test' x) → (xs : List A) → AllByRecursion G xs → Kept (AllByRecursion G) (filter test xs) (filter test' xs)
  filter-kept test test' e [] all = kept (AllByRecursion G) [] tt
  filter-kept test test' e (x ∷ xs) all =
      let more = filter-kept test test' e xs all.1 in
      chosen (AllByRecursion G) (test x) (test' x) _ _ _ _ (e x all.0)
      (record { equal = ap (λ (ys : List A). x ∷ ys) more.equal; good = (all.0, more.good) }) more

  pub filter_map-same : {B : Type 0} (F F' : A → Option B) → ((x : A) → G x → F x ≡ F' x) → (xs : List A) → AllByRecursion G xs → filter_map F xs ≡ filter_map F' xs
  filter_map-same F F' e [] all = refl
  filter_map-same {B} F F' e (x ∷ xs) all = ap₂ (λ (o : Option B) (ys : List B). cons_option o ys) (e x all.0) (filter_map-same F F' e xs all.1)

module _ {A B : Type 0} (G : A → Type 0) (H : B → Type 0) where
  pub filter_map-good : (F : A → Option B) → ((x : A) → G x → IfAny H (F x)) → (xs : List A) → AllByRecursion G xs → AllByRecursion H (filter_map F xs)
  filter_map-good F to [] all = tt
  filter_map-good F to (x ∷ xs) all = cons_option-good H (F x) (to x all.0) (filter_map F xs) (filter_map-good F to xs all.1)

  pub flat_map-kept : (F F' : A → List B) → ((x : A) → G x → Kept (AllByRecursion H) (F x) (F' x)) → (xs : List A) → AllByRecursion G xs
      → Kept (AllByRecursion H) (flat_map F xs) (flat_map F' xs)
  flat_map-kept F F' to [] all = kept (AllByRecursion H) [] tt
  flat_map-kept F F' to (x ∷ xs) all = append-kept H _ _ _ _ (to x all.0) (flat_map-kept F F' to xs all.1)
