-- The value of each key, where options stand over others.
use Rattle.std.proofs.Common.{◌≡◌, ℕ, Bool, true, false, cond, T, ◌&&◌, List, [], ◌∷◌, Option, Some, None, Result, Ok, Err, IfOk, refl, sym, ap, subst, ◌∙◌}
use Rattle.std.specs.Ordering.{nat_cmp, is_eq, is_lt}
use Rattle.std.specs.declared.cmp.Ordering.{Ordering}
use Rattle.std.specs.declared.cmp.Ordering.TheVariants.{Less, Equal, Greater}
use Rattle.std.specs.Cmp.Lexicographic.{slice_cmp, nat_list_cmp_total}
use Rattle.std.specs.Option.{option_or}
use Rattle.std.specs.Str.{bytes_eq}
use Rattle.std.specs.FinMap as fin
use Rattle.std.specs.FinMap.{find, get-insert}
use Rattle.std.specs.FinMap.Entries.{is_sorted, below_all}
use Rattle.std.proofs.lemmas.Map.Text.{is_eq-slice_cmp}
use Rattle.std.proofs.lemmas.Slice.Eq.{bytes_eq-Decides}
use Rattle.project_config.specs.Options.{OptionMap, put_all, with_options, value_of, IsOver}

or_none : {A : Type 0} (o : Option A) → option_or o None ≡ o
or_none None = refl
or_none (Some x) = refl

-- ---- a map into which options were put

or_one : {A : Type 0} (later : Option A) (b : Bool) (value : A) (before : Option A) → option_or later (cond b (Some value) before) ≡ option_or (option_or later (cond b (Some value) None)) before
or_one (Some x) b value before = refl
or_one None true value before = refl
or_one None false value before = refl

get-put_all : (m : OptionMap) (options : List (List ℕ × List ℕ)) (key : List ℕ) → fin.get (put_all m options) key ≡ option_or (value_of key options) (fin.get m key)
get-put_all m [] key = refl
get-put_all m (o ∷ os) key =
    get-put_all (fin.insert m o.0 o.1) os key
    ∙ ap (option_or (value_of key os)) (get-insert nat_list_cmp_total m o.0 o.1 key ∙ ap (λ b. cond b (Some o.1) (fin.get m key)) (is_eq-slice_cmp key o.0))
    ∙ or_one (value_of key os) (bytes_eq key o.0) o.1 (fin.get m key)

-- ---- its entries

front_of : (a b : Bool) → T (a && b) → T a
front_of true b t = tt
front_of false b t = t

rest_of : (a b : Bool) → T (a && b) → T b
rest_of true b t = t
rest_of false b t = absurd t

less_differs : (o : Ordering) → T (is_lt o) → is_eq o ≡ false
less_differs Less t = refl
less_differs Equal t = absurd t
less_differs Greater t = absurd t

value-below : (key : List ℕ) (es : List (List ℕ × List ℕ)) → T (below_all (slice_cmp nat_cmp) key es) → value_of key es ≡ None
value-below key [] t = refl
value-below key (e ∷ es) t =
    ap (λ later. option_or later (cond (bytes_eq key e.0) (Some e.1) None)) (value-below key es (rest_of _ _ t))
    ∙ ap (λ b. cond b (Some e.1) None) (sym (is_eq-slice_cmp key e.0) ∙ less_differs (slice_cmp nat_cmp key e.0) (front_of _ _ t))

value-find : (key : List ℕ) (es : List (List ℕ × List ℕ)) → T (is_sorted (slice_cmp nat_cmp) es) → value_of key es ≡ find (slice_cmp nat_cmp) key es
value-find key [] t = refl
value-find key (e ∷ es) t = by (value-find key es (rest_of _ _ t)) (bytes_eq key e.0) refl ∙ ap (λ b. cond b (Some e.1) (find (slice_cmp nat_cmp) key es)) (sym (is_eq-slice_cmp key e.0))
  where
    by : value_of key es ≡ find (slice_cmp nat_cmp) key es → (b : Bool) → bytes_eq key e.0 ≡ b
        → option_or (value_of key es) (cond (bytes_eq key e.0) (Some e.1) None) ≡ cond (bytes_eq key e.0) (Some e.1) (find (slice_cmp nat_cmp) key es)
    by later true is =
        let same : e.0 ≡ key = sym ((bytes_eq-Decides key e.0).0 is) in
        let none : value_of key es ≡ None = value-below key es (subst (λ k. T (below_all (slice_cmp nat_cmp) k es)) same (front_of _ _ t)) in
        rw (is, none) refl
    by later false is = rw is (or_none (value_of key es) ∙ later)

value-entries : (m : OptionMap) (key : List ℕ) → value_of key (fin.entries m) ≡ fin.get m key
value-entries m key = value-find key (fin.entries m) (fin.entries_sorted m) ∙ sym (fin.get-entries m key)

-- ---- options over options

is_over : (options words : List (List ℕ × List ℕ)) → IsOver options words (with_options options words)
is_over options words key =
    value-entries (put_all (put_all fin.empty options) words) key
    ∙ get-put_all (put_all fin.empty options) words key
    ∙ ap (option_or (value_of key words)) (get-put_all fin.empty options key ∙ ap (option_or (value_of key options)) (fin.get-empty (slice_cmp nat_cmp) key) ∙ or_none (value_of key options))

pub over-ok : {E : Type 0} (result : Result (List (List ℕ × List ℕ)) E) (options words : List (List ℕ × List ℕ)) → IfOk result (λ list. list ≡ with_options options words) → IfOk result (IsOver options words)
over-ok (Ok list) options words is = subst (IsOver options words) (sym is) (is_over options words)
over-ok (Err e) options words is = tt
