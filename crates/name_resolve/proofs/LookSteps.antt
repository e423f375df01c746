-- Steps of a look-up: supertypes and imports one after another, and the prefixes of a name.
use Rattle.std.proofs.Common.{◌≡◌, ℕ, zero, suc, ◌+◌, ◌<◌, ◌==◌, Bool, true, false, List, [], ◌∷◌, ◌++◌, length, map, drop, get_or, if◌then◌else◌, refl, sym, ap, ◌∙◌, arith}
use Rattle.std.specs.List.{fold}
use Rattle.std.specs.Str.{bytes_eq}
use Rattle.std.proofs.lemmas.Bool.{eqb-true}
use Rattle.std.proofs.lemmas.List.{nil_from_length, drop_more}
use Rattle.apt_base.specs.Identifiers.{parts}
use Rattle.decl_tree.specs.declared.compilation.ImportKind.{ImportKind}
use Rattle.decl_tree.specs.declared.compilation.Import.{Import}
use Rattle.element_table.specs.declared.part.Part.{Part}
use Rattle.name_resolve.specs.QualifiedNames.{prefixes_after, prefixes}
use Rattle.name_resolve.specs.Finds.{Find, Finds, Nothing, both, first_of, together, declared_types}
use Rattle.name_resolve.specs.Supertypes.{Supertype, supertypes}
use Rattle.name_resolve.specs.Meaning.{Tops, Members, Scope, scope_of, scope_at, members_of, along, along_or, by_prefix, imported, ends_in, but_last, single_by, on_demand_by, single_import, on_demand_import, in_scope, in_unit, simple, qualifier, found, supertype_found, inherited, members_within}
use Rattle.name_resolve.specs.Parts.{lent}
use Rattle.name_resolve.proofs.FirstPlaces.{first_found, second_of, or_nothing, or_found}
use denote.Ref.{Bor}

pub scope_at-of : (header : Bool) (f : Find) → scope_at (scope_of header f) ≡ f
scope_at-of true f = refl
scope_at-of false f = refl

-- ---- a loop that puts finds together: supertypes, single imports, imports on demand

unfoldable pub from_each : {A : Type 0} → (A → Finds) → Finds → List A → Finds
from_each find finds xs = fold both finds (map find xs)

module _ {A : Type 0} (find : A → Finds) where
  pub each_next : (finds : Finds) (x : A) (xs : List A) → from_each find (both finds (find x)) xs ≡ from_each find finds (x ∷ xs)
  unfolding from_each
  each_next finds x xs = refl

  pub each_end : (finds : Finds) → from_each find finds [] ≡ finds
  unfolding from_each
  each_end finds = refl

  pub each_all : (xs : List A) → from_each find Nothing xs ≡ together (map find xs)
  unfolding from_each
  each_all xs = refl

  -- the last place begins with `java.lang`
  pub each_behind : (first : Finds) (xs : List A) → from_each find first xs ≡ together (first ∷ map find xs)
  unfolding from_each
  each_behind first xs = refl

  past : (xs : List A) (i : ℕ) → length xs ≡ i → drop i xs ≡ []
  past [] zero e = refl
  past [] (suc i) e = absurd (omega arith)
  past (x ∷ xs) zero e = absurd (omega arith)
  past (x ∷ xs) (suc i) e = past xs i (omega arith)

  pub each_more : (items : List A) (i : ℕ) (item : A) (finds finds' : Finds) → i < length items → get_or items i item ≡ item → finds' ≡ both finds (find item)
      → from_each find finds' (drop (i + 1) items) ≡ from_each find finds (drop i items)
  each_more items i item finds finds' h is e =
      ap (λ x. from_each find x (drop (i + 1) items)) e ∙ each_next finds item (drop (i + 1) items)
      ∙ ap (from_each find finds) (sym (drop_more items i item h ∙ ap (λ x. x ∷ drop (i + 1) items) is))

  pub each_over : (items : List A) (i : ℕ) (finds : Finds) → length items ≡ i → from_each find finds (drop i items) ≡ finds
  each_over items i finds e = ap (from_each find finds) (past items i e) ∙ each_end finds

  -- of what items show
  pub each_shown : {B : Type 0} (shown : B → A) (finds : Finds) (items : List B) → from_each (λ x. find (shown x)) finds items ≡ from_each find finds (map shown items)
  unfolding from_each
  each_shown shown finds [] = refl
  each_shown shown finds (x ∷ xs) = each_shown shown (both finds (find (shown x))) xs

abbrev pub from_supers : Tops → Members → Find → List ℕ → Finds → List Supertype → Finds
from_supers tops m f name = from_each (λ s. members_of m (supertype_found tops m f s) name)

pub supers_all : (tops : Tops) (m : Members) (f : Find) (name : List ℕ) (ss : List Supertype) → ss ≡ supertypes f → from_supers tops m f name Nothing ss ≡ inherited tops m f name
unfolding inherited
supers_all tops m f name ss e = ap (from_supers tops m f name Nothing) e ∙ each_all _ (supertypes f)

-- ---- an import's names

-- the last name of an import, and those before it
pub ends_last : (name last : List ℕ) (front : List (List ℕ)) → ends_in name (front ++ last ∷ []) ≡ bytes_eq last name
ends_last name last [] = refl
ends_last name last (first ∷ []) = refl
ends_last name last (first ∷ next ∷ more) = ends_last name last (next ∷ more)

pub but_last-is : (last : List ℕ) (front : List (List ℕ)) → but_last (front ++ last ∷ []) ≡ front
but_last-is last [] = refl
but_last-is last (first ∷ []) = refl
but_last-is last (first ∷ next ∷ more) = ap (λ xs. first ∷ xs) (but_last-is last (next ∷ more))

-- ---- one import by its kind

pub single_of : (tops : Tops) (m : Members) (part : Part) (name : List ℕ) (i : Import) (kind : ImportKind) → i.kind ≡ kind → single_by tops m part name (parts i.name) kind ≡ single_import tops m part name i
unfolding single_import
single_of tops m part name i kind e = ap (single_by tops m part name (parts i.name)) (sym e)

pub on_demand_of : (tops : Tops) (m : Members) (part : Part) (name : List ℕ) (i : Import) (kind : ImportKind) → i.kind ≡ kind
    → on_demand_by tops m part name (parts i.name) kind ≡ on_demand_import tops m part name i
unfolding on_demand_import
on_demand_of tops m part name i kind e = ap (on_demand_by tops m part name (parts i.name)) (sym e)

pub if_true : {A : Type 0} (b : Bool) (x y : A) → true ≡ b → x ≡ (if b then x else y)
if_true b x y e = ap (λ c. if c then x else y) e

pub if_false : {A : Type 0} (b : Bool) (x y : A) → false ≡ b → y ≡ (if b then x else y)
if_false b x y e = ap (λ c. if c then x else y) e

-- ---- names behind others, one after another

pub along_next : (m : Members) (names : List (Bor (List ℕ))) (i : ℕ) (d : Bor (List ℕ)) (x x' : Finds) → i < length names → x' ≡ members_of m x (get_or names i d).now
    → along m x' (lent (drop (i + 1) names)) ≡ along m x (lent (drop i names))
along_next m names i d x x' h e =
    ap (λ y. along m y (lent (drop (i + 1) names))) e ∙ sym (ap (λ ns. along m x (lent ns)) (drop_more names i d h))

pub none_left : {A : Type 0} (xs : List A) (i : ℕ) → length xs ≡ i → drop i xs ≡ []
none_left [] zero e = refl
none_left [] (suc i) e = absurd (omega arith)
none_left (x ∷ xs) zero e = absurd (omega arith)
none_left (x ∷ xs) (suc i) e = none_left xs i (omega arith)

pub along_over : (m : Members) (names : List (Bor (List ℕ))) (i : ℕ) (x : Finds) → length names ≡ i → along m x (lent (drop i names)) ≡ x
along_over m names i x e = ap (λ ns. along m x (lent ns)) (none_left names i e)

-- ---- prefixes

module _ {A : Type 0} (now : A → List ℕ) (tops : Tops) (m : Members) (part : Part) where
  -- one more name of what is left
  pub one_more : (before : List ℕ) (xs : List A) (i : ℕ) (d : A) → i < length xs
      → by_prefix tops m part (prefixes_after before (map now (drop i xs)))
      ≡ along_or m (map now (drop (i + 1) xs)) (by_prefix tops m part (prefixes_after (before ++ 46 ∷ now (get_or xs i d)) (map now (drop (i + 1) xs)))) (tops part (before ++ 46 ∷ now (get_or xs i d)))
  one_more before xs i d h = ap (λ ys. by_prefix tops m part (prefixes_after before (map now ys))) (drop_more xs i d h)

-- ---- whole names and qualifiers

pub qualifier_more : (tops : Tops) (m : Members) (scope : Scope) (first : List ℕ) (more : List (List ℕ))
    → qualifier tops m scope (first ∷ more) ≡ along_or m more (by_prefix tops m (scope_at scope).part (prefixes (first ∷ more))) (simple tops m scope first)
unfolding qualifier
qualifier_more tops m scope first more = refl

module _ {A : Type 0} (now : A → List ℕ) (tops : Tops) (m : Members) (header : Bool) (f : Find) (xs : List A) where
  -- by its first name and the others
  module _ (first : A) (others : List A) (split : xs ≡ first ∷ others) (near : Finds) (near_is : near ≡ simple tops m (scope_of header f) (now first)) where
    whole : qualifier tops m (scope_of header f) (map now xs) ≡ along_or m (map now others) (by_prefix tops m f.part (prefixes (map now xs))) near
    whole =
        ap (λ ys. qualifier tops m (scope_of header f) (map now ys)) split ∙ qualifier_more tops m (scope_of header f) (now first) (map now others)
        ∙ ap (λ (g : Find). along_or m (map now others) (by_prefix tops m g.part (prefixes (map now (first ∷ others)))) (simple tops m (scope_of header f) (now first))) (scope_at-of header f)
        ∙ ap (λ ys. along_or m (map now others) (by_prefix tops m f.part (prefixes (map now ys))) (simple tops m (scope_of header f) (now first))) (sym split)
        ∙ ap (along_or m (map now others) (by_prefix tops m f.part (prefixes (map now xs)))) (sym near_is)

    pub by_its_prefix : near ≡ Nothing → by_prefix tops m f.part (prefixes (map now xs)) ≡ qualifier tops m (scope_of header f) (map now xs)
    by_its_prefix none = sym (whole ∙ or_nothing m (map now others) _ near none)

    pub along_others : (near ≡ Nothing → ⊥) → along m near (map now others) ≡ qualifier tops m (scope_of header f) (map now xs)
    along_others some = sym (whole ∙ or_found m (map now others) _ near some)

  pub found_one : (x : A) → xs ≡ x ∷ [] → simple tops m (scope_of header f) (now x) ≡ found tops m (scope_of header f) (map now xs)
  unfolding found
  found_one x e = sym (ap (λ ys. found tops m (scope_of header f) (map now ys)) e)

  -- more or fewer than one
  pub found_many : (length xs ≡ 1 → ⊥) → qualifier tops m (scope_of header f) (map now xs) ≡ found tops m (scope_of header f) (map now xs)
  unfolding found qualifier
  found_many h = of_list xs h
    where
      of_list : (ys : List A) → (length ys ≡ 1 → ⊥) → qualifier tops m (scope_of header f) (map now ys) ≡ found tops m (scope_of header f) (map now ys)
      of_list [] h = refl
      of_list (y ∷ []) h = absurd (h refl)
      of_list (y ∷ z ∷ zs) h = refl

-- ---- the places of a simple name

module _ (tops : Tops) (m : Members) (header : Bool) (f : Find) (name : List ℕ) where
  two_places : simple tops m (scope_of header f) name ≡ first_of (in_scope m name (scope_of header f) ∷ in_unit tops m f.part f.unit name ∷ [])
  unfolding simple
  two_places = ap (λ (g : Find). first_of (in_scope m name (scope_of header f) ∷ in_unit tops m g.part g.unit name ∷ [])) (scope_at-of header f)

  pub simple-near : (in_scope m name (scope_of header f) ≡ Nothing → ⊥) → in_scope m name (scope_of header f) ≡ simple tops m (scope_of header f) name
  simple-near some = sym (two_places ∙ first_found _ _ some)

  pub simple-far : in_scope m name (scope_of header f) ≡ Nothing → in_unit tops m f.part f.unit name ≡ simple tops m (scope_of header f) name
  simple-far none = sym (two_places ∙ second_of _ _ none)

-- ---- no name, one and more

module _ {A : Type 0} (now : A → List ℕ) (tops : Tops) (m : Members) (scope : Scope) (xs : List A) where
  pub found_empty : length xs ≡ 0 → Nothing ≡ found tops m scope (map now xs)
  unfolding found
  found_empty none = sym (ap (λ ys. found tops m scope (map now ys)) (nil_from_length xs none))

  pub qualifier_empty : length xs ≡ 0 → Nothing ≡ qualifier tops m scope (map now xs)
  unfolding qualifier
  qualifier_empty none = sym (ap (λ ys. qualifier tops m scope (map now ys)) (nil_from_length xs none))

pub alone_is : {A : Type 0} (xs others : List A) (first : A) → xs ≡ first ∷ others → true ≡ (length others == 0) → xs ≡ first ∷ []
alone_is xs others first split e = split ∙ ap (λ ys. first ∷ ys) (nil_from_length others (eqb-true (length others) 0 (sym e)))

pub not_alone : {A : Type 0} (xs others : List A) (first : A) → xs ≡ first ∷ others → false ≡ (length others == 0) → length xs ≡ 1 → ⊥
not_alone xs [] first split e one = absurd (cc)
not_alone xs (next ∷ more) first split e one = let two : length (first ∷ next ∷ more) ≡ 1 = sym (ap length split) ∙ one in absurd (omega arith)
