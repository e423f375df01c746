-- What is replaced stays so when types are added, and each layer is replaced by its parts.
use Rattle.std.proofs.Common.{◌≡◌, ℕ, zero, suc, ◌+◌, ◌<◌, Bool, true, false, cond, List, [], ◌∷◌, ◌++◌, length, get_or, take, drop, map, find, unwrap_or, Option, Some, None, refl, sym, ap, subst, ◌∙◌, arith}
use Rattle.std.proofs.lemmas.List.{map-append}
use Rattle.std.proofs.Math.Seq.{take-suc}
use Rattle.std.specs.BTreeMap.{BTreeMap}
use Rattle.std.specs.List.{AllByRecursion}
use Rattle.std.specs.Option.{option_map, option_to_list}
use Rattle.apt_base.specs.Elements.{same_element}
use Rattle.apt_base.proofs.FieldsLemmas.{some_is}
use Rattle.apt_base.specs.declared.element.ElementRef.{ElementRef}
use Rattle.type_mirror.specs.declared.mirror.Mirror.{Mirror}
use Rattle.type_mirror.specs.declared.mirror.BaseMirror.TheVariants as base
use Rattle.type_mirror.specs.Parts.{plain}
use Rattle.type_mirror.specs.Substitution.{Replacements, replacement, in_place, substituted}
use Rattle.type_layers.specs.Layers.{Layer, Primitive, Declared, Error, Variable, Array, Unbounded, Extends, Super, Executable, Nothing, Void, Null, Package, layer, map_layer, parts_of, mirror_of}
use Rattle.type_numbers.specs.declared.node.Node.{Node}
use Rattle.type_numbers.specs.declared.node.Node.TheVariants as node
use Rattle.type_numbers.specs.Nodes.{layer_of}
use Rattle.type_numbers.specs.Numbers.{at, IsKnown, AreKnown, Stands, AllStand, OptionStands, Grows, with_types, mirror_with}
use Rattle.type_numbers.specs.Replaced.{Numbered, replacements_in, AreKnownIn, number_for, replaced_at, replaced_layer, replaced_node, IsMade, Remembers}
use Rattle.type_numbers.proofs.LayerMaps.{all_given, parts-split}
use Rattle.type_numbers.proofs.NumberLaws.{grown-known, grown-at, grown-stands, grown-all, grown-option, grows-on, all-next}
use Rattle.type_numbers.proofs.RememberedValues.{each-weaker}
use Rattle.type_numbers.proofs.ReplacedLayers.{substituted-layer}

-- ---- more types

pub known-below : (t : List Mirror) (below part : ℕ) → IsKnown t below → part < below → IsKnown t part
known-below t below part known less = omega arith

pub all_known-below : (t : List Mirror) (below : ℕ) (parts : List ℕ) → IsKnown t below → AllByRecursion (λ part. part < below) parts → AreKnown t parts
all_known-below t below parts known all = all_given (λ (part : ℕ). part < below) (IsKnown t) parts (λ part less. known-below t below part known less) all

pub grown-known_in : (t t' : List Mirror) (by : Numbered) → Grows t t' → AreKnownIn t by → AreKnownIn t' by
grown-known_in t t' by g all =
    all_given (λ (pair : ElementRef × ℕ). IsKnown t pair.1) (λ (pair : ElementRef × ℕ). IsKnown t' pair.1) by (λ pair known. grown-known t t' pair.1 g known) all

pub grown-replacements : (t t' : List Mirror) (by : Numbered) → Grows t t' → AreKnownIn t by → replacements_in t' by ≡ replacements_in t by
grown-replacements t t' [] g all = refl
grown-replacements t t' (pair ∷ by) g all =
    ap (λ (m : Mirror). (pair.0, m) ∷ replacements_in t' by) (grown-at t t' pair.1 g all.0)
    ∙ ap (λ (rest : Replacements). (pair.0, at t pair.1) ∷ rest) (grown-replacements t t' by g all.1)

pub grown-replaced : (t t' : List Mirror) (by : Numbered) (number : ℕ) → Grows t t' → AreKnownIn t by → IsKnown t number → replaced_at t' by number ≡ replaced_at t by number
grown-replaced t t' by number g all known =
    ap (λ (rs : Replacements). substituted rs (at t' number)) (grown-replacements t t' by g all)
    ∙ ap (substituted (replacements_in t by)) (grown-at t t' number g known)

pub grown-all_replaced : (t t' : List Mirror) (by : Numbered) (numbers : List ℕ) → Grows t t' → AreKnownIn t by → AreKnown t numbers
    → map (replaced_at t' by) numbers ≡ map (replaced_at t by) numbers
grown-all_replaced t t' by [] g all known = refl
grown-all_replaced t t' by (number ∷ numbers) g all known =
    ap (λ (m : Mirror). m ∷ map (replaced_at t' by) numbers) (grown-replaced t t' by number g all known.0)
    ∙ ap (λ (ms : List Mirror). replaced_at t by number ∷ ms) (grown-all_replaced t t' by numbers g all known.1)

-- ---- what is remembered

pub grown-remembers : (t t' : List Mirror) (by : Numbered) (done : BTreeMap ℕ ℕ) → Grows t t' → AreKnownIn t by → Remembers t by done → Remembers t' by done
grown-remembers t t' by done g all so_far = each-weaker (IsMade t by) (IsMade t' by) done stays so_far
  where
    stays : (number made : ℕ) → IsMade t by number made → IsMade t' by number made
    stays number made was =
        let same = sym (grown-replaced t t' by number g all was.0) in
        (grown-known t t' number g was.0, grown-stands t t' made (replaced_at t' by number) g (subst (λ (m : Mirror). Stands t made m) same was.1))

-- ---- variables

number_at_first : (pair : ElementRef × ℕ) (by : Numbered) (element : ElementRef) (b : Bool) → same_element pair.0 element ≡ b
    → number_for (pair ∷ by) element ≡ cond b (Some pair.1) (number_for by element)
number_at_first pair by element true e =
    ap (λ (b : Bool). option_map (λ (p : ElementRef × ℕ). p.1) (cond b (Some pair) (find (λ (p : ElementRef × ℕ). same_element p.0 element) by))) e
number_at_first pair by element false e =
    ap (λ (b : Bool). option_map (λ (p : ElementRef × ℕ). p.1) (cond b (Some pair) (find (λ (p : ElementRef × ℕ). same_element p.0 element) by))) e

replacement_at_first : (pair : ElementRef × Mirror) (by : Replacements) (element : ElementRef) (b : Bool) → same_element pair.0 element ≡ b
    → replacement (pair ∷ by) element ≡ cond b (Some pair.1) (replacement by element)
replacement_at_first pair by element true e =
    ap (λ (b : Bool). option_map (λ (p : ElementRef × Mirror). p.1) (cond b (Some pair) (find (λ (p : ElementRef × Mirror). same_element p.0 element) by))) e
replacement_at_first pair by element false e =
    ap (λ (b : Bool). option_map (λ (p : ElementRef × Mirror). p.1) (cond b (Some pair) (find (λ (p : ElementRef × Mirror). same_element p.0 element) by))) e

mapped_first : (t : List Mirror) (n : ℕ) (rest : Option ℕ) (rest' : Option Mirror) (b : Bool) → rest' ≡ option_map (at t) rest
    → cond b (Some (at t n)) rest' ≡ option_map (at t) (cond b (Some n) rest)
mapped_first t n rest rest' true e = refl
mapped_first t n rest rest' false e = e

-- what the list has for a variable is the type with the number that it has
pub replacement-in : (t : List Mirror) (by : Numbered) (element : ElementRef) → replacement (replacements_in t by) element ≡ option_map (at t) (number_for by element)
replacement-in t [] element = refl
replacement-in t (pair ∷ by) element =
    let test = same_element pair.0 element in
    replacement_at_first (pair.0, at t pair.1) (replacements_in t by) element test refl
    ∙ mapped_first t pair.1 (number_for by element) (replacement (replacements_in t by) element) test (replacement-in t by element)
    ∙ ap (option_map (at t)) (sym (number_at_first pair by element test refl))

known_first : (t : List Mirror) (n m : ℕ) (rest : Option ℕ) (b : Bool) → IsKnown t n → (rest ≡ Some m → IsKnown t m) → cond b (Some n) rest ≡ Some m → IsKnown t m
known_first t n m rest true here there e = subst (IsKnown t) (some_is n m e) here
known_first t n m rest false here there e = there e

pub known-for : (t : List Mirror) (by : Numbered) (element : ElementRef) (n : ℕ) → AreKnownIn t by → number_for by element ≡ Some n → IsKnown t n
known-for t [] element n all e = absurd cc
known-for t (pair ∷ by) element n all e =
    known_first t pair.1 n (number_for by element) (same_element pair.0 element) all.0 (λ e'. known-for t by element n all.1 e')
    (sym (number_at_first pair by element (same_element pair.0 element) refl) ∙ e)

pub stands-for : (t : List Mirror) (by : Numbered) (element : ElementRef) (n : ℕ) → AreKnownIn t by → number_for by element ≡ Some n
    → Stands t n (in_place (replacements_in t by) element)
stands-for t by element n all e = record {
  known = known-for t by element n all e;
  type = sym (ap (λ (r : Option Mirror). unwrap_or r (plain (base.Variable element))) (replacement-in t by element ∙ ap (option_map (at t)) e));
}

pub stays-without : (t : List Mirror) (by : Numbered) (element : ElementRef) → number_for by element ≡ None → mirror_of (Variable element) ≡ in_place (replacements_in t by) element
unfolding mirror_of
stays-without t by element e = sym (ap (λ (r : Option Mirror). unwrap_or r (plain (base.Variable element))) (replacement-in t by element ∙ ap (option_map (at t)) e))

-- ---- layers

module _ {A B C : Type 0} (f : B → C) (g : A → B) where
  lists_through : (xs : List A) → map f (map g xs) ≡ map (λ x. f (g x)) xs
  lists_through [] = refl
  lists_through (x ∷ xs) = ap (λ (ys : List C). f (g x) ∷ ys) (lists_through xs)

  options_through : (x : Option A) → option_map f (option_map g x) ≡ option_map (λ x. f (g x)) x
  options_through None = refl
  options_through (Some x) = refl

  pub map_layer-through : (l : Layer A) → map_layer f (map_layer g l) ≡ map_layer (λ x. f (g x)) l
  map_layer-through (Declared element enclosing arguments) =
      ap (λ (x : Option C). Declared element x (map f (map g arguments))) (options_through enclosing)
      ∙ ap (λ (xs : List C). Declared element (option_map (λ x. f (g x)) enclosing) xs) (lists_through arguments)
  map_layer-through (Executable variables parameters outcome thrown) =
      ap (λ (xs : List C). Executable variables xs (f (g outcome)) (map f (map g thrown))) (lists_through parameters)
      ∙ ap (λ (xs : List C). Executable variables (map (λ x. f (g x)) parameters) (f (g outcome)) xs) (lists_through thrown)
  map_layer-through (Primitive kind) = refl
  map_layer-through (Error text) = refl
  map_layer-through (Variable element) = refl
  map_layer-through (Array item) = refl
  map_layer-through Unbounded = refl
  map_layer-through (Extends bound) = refl
  map_layer-through (Super bound) = refl
  map_layer-through Nothing = refl
  map_layer-through Void = refl
  map_layer-through Null = refl
  map_layer-through (Package name) = refl

-- a type is replaced by its layer
pub replaced-layer : (t : List Mirror) (by : Numbered) (number : ℕ) (l : Layer ℕ) → with_types t l ≡ layer (at t number)
    → replaced_layer (replacements_in t by) (map_layer (replaced_at t by) l) ≡ replaced_at t by number
replaced-layer t by number l e =
    let rs : Replacements = replacements_in t by in
    ap (replaced_layer rs) (sym (map_layer-through (substituted rs) (at t) l))
    ∙ ap (λ (k : Layer Mirror). replaced_layer rs (map_layer (substituted rs) k)) e
    ∙ sym (substituted-layer rs (at t number))

-- the same by a node, which may be a copy
pub replaced-node : (t : List Mirror) (by : Numbered) (number : ℕ) (n n' : Node) → n' ≡ n → with_types t (layer_of n) ≡ layer (at t number)
    → replaced_node t by n' ≡ replaced_at t by number
replaced-node t by number n n' same e = ap (replaced_node t by) same ∙ replaced-layer t by number (layer_of n) e

-- ---- layers whose parts were replaced one after the other

pub declared-replaced : (t t' t'' : List Mirror) (by : Numbered) (element : ElementRef) (enclosing outer : Option ℕ) (arguments inner : List ℕ)
    → AreKnownIn t by → AreKnown t arguments → Grows t t' → OptionStands t' outer (option_map (replaced_at t by) enclosing) → Grows t' t''
    → AllStand t'' inner (map (replaced_at t' by) arguments)
    → mirror_with t'' (Declared element outer inner) ≡ mirror_of (Declared element (option_map (replaced_at t by) enclosing) (map (replaced_at t by) arguments))
declared-replaced t t' t'' by element enclosing outer arguments inner all known g first g' second =
    ap (λ (x : Option Mirror). mirror_of (Declared element x (map (at t'') inner))) (grown-option t' t'' outer (option_map (replaced_at t by) enclosing) g' first).type
    ∙ ap (λ (xs : List Mirror). mirror_of (Declared element (option_map (replaced_at t by) enclosing) xs)) (second.types ∙ grown-all_replaced t t' by arguments g all known)

pub executable-replaced : (t t' t'' t''' : List Mirror) (by : Numbered) (variables : List ElementRef) (parameters ps : List ℕ) (outcome o : ℕ) (thrown ts : List ℕ)
    → AreKnownIn t by → AreKnown t thrown → IsKnown t outcome → Grows t t' → AllStand t' ps (map (replaced_at t by) parameters) → Grows t' t''
    → Stands t'' o (replaced_at t' by outcome) → Grows t'' t''' → AllStand t''' ts (map (replaced_at t'' by) thrown)
    → mirror_with t''' (Executable variables ps o ts)
    ≡ mirror_of (Executable variables (map (replaced_at t by) parameters) (replaced_at t by outcome) (map (replaced_at t by) thrown))
executable-replaced t t' t'' t''' by variables parameters ps outcome o thrown ts all known single g first g' second g'' third =
    ap (λ (xs : List Mirror). mirror_of (Executable variables xs (at t''' o) (map (at t''') ts)))
    (grown-all t' t''' ps (map (replaced_at t by) parameters) (grows-on t' t'' t''' g' g'') first).types
    ∙ ap (λ (m : Mirror). mirror_of (Executable variables (map (replaced_at t by) parameters) m (map (at t''') ts)))
    ((grown-stands t'' t''' o (replaced_at t' by outcome) g'' second).type ∙ grown-replaced t t' by outcome g all single)
    ∙ ap (λ (xs : List Mirror). mirror_of (Executable variables (map (replaced_at t by) parameters) (replaced_at t by outcome) xs))
    (third.types ∙ grown-all_replaced t t'' by thrown (grows-on t t' t'' g g') all known)

-- what a class type holds
pub declared-split : (P : ℕ → Type 0) (n : Node) (element : ElementRef) (enclosing : Option ℕ) (arguments : List ℕ)
    → n ≡ node.Declared element enclosing arguments → AllByRecursion P (parts_of (layer_of n)) → AllByRecursion P (option_to_list enclosing) × AllByRecursion P arguments
declared-split P n element enclosing arguments is all =
    parts-split P (Declared element enclosing arguments) (subst (λ (x : Node). AllByRecursion P (parts_of (layer_of x))) is all)

-- ---- one more behind several

pub all-dropped : {M : Type 0} (P : M → Type 0) (xs : List M) (i : ℕ) → AllByRecursion P xs → AllByRecursion P (drop i xs)
all-dropped P xs zero all = all
all-dropped P [] (suc i) all = tt
all-dropped P (x ∷ xs) (suc i) all = all-dropped P xs i all.1

pub each-next : (t t' t'' : List Mirror) (by : Numbered) (numbers : List ℕ) (i made : ℕ) (all : List ℕ) → Grows t t' → AreKnownIn t by → IsKnown t (get_or numbers i 0)
    → i < length numbers → AllStand t' all (map (replaced_at t by) (take i numbers)) → Grows t' t'' → Stands t'' made (replaced_at t' by (get_or numbers i 0))
    → AllStand t'' (all ++ made ∷ []) (map (replaced_at t by) (take (i + 1) numbers))
each-next t t' t'' by numbers i made all g known single less so_far g' one =
    let f = replaced_at t by in
    let number = get_or numbers i 0 in
    let next : i + 1 ≡ suc i = omega arith in
    let more : map f (take (i + 1) numbers) ≡ map f (take i numbers) ++ f number ∷ [] =
    ap (λ (n : ℕ). map f (take n numbers)) next ∙ ap (map f) (take-suc numbers i 0 less) ∙ map-append f (take i numbers) (number ∷ []) in
    let here = subst (λ (m : Mirror). Stands t'' made m) (grown-replaced t t' by number g known single) one in
    subst (λ (ms : List Mirror). AllStand t'' (all ++ made ∷ []) ms) (sym more) (all-next t' t'' all (map f (take i numbers)) made (f number) g' so_far here)
