-- What a class type with a number puts in the place of type parameters, entry by entry.
use Rattle.std.proofs.Common.{◌≡◌, ◌<◌, ◌≤◌, ◌+◌, ℕ, suc, min, length, take, get_or, Bool, true, false, cond, ◌||◌, List, [], ◌∷◌, ◌++◌, map, Option, None, Some, IfSome, refl, sym, ap, subst, ◌∙◌, arith}
use Rattle.std.proofs.Math.Seq.{take-suc}
use Rattle.std.proofs.lemmas.List.{map-append, take_all}
use Rattle.std.proofs.lemmas.List.Sums.{fold-append}
use Rattle.std.proofs.lemmas.Slice.Zip.{length-zip, get_or-zip}
use Rattle.std.specs.List.{zip, AllByRecursion}
use Rattle.std.specs.Option.{option_map, option_to_list}
use Rattle.apt_base.specs.Elements.{same_element}
use Rattle.apt_base.specs.declared.element.ElementRef.{ElementRef}
use Rattle.element_table.specs.TypeTable.{TypeTable}
use Rattle.type_mirror.specs.declared.mirror.Mirror.{Mirror}
use Rattle.type_mirror.specs.Substitution.{Replacements}
use Rattle.type_layers.specs.Layers.{Layer, Declared, layer, map_layer, by_parts, parts_of}
use Rattle.type_numbers.specs.declared.node.Node.{Node}
use Rattle.type_numbers.specs.declared.node.Node.TheVariants as node
use Rattle.type_numbers.specs.Nodes.{layer_of}
use Rattle.type_numbers.specs.Numbers.{at, IsKnown, AreKnown, with_types}
use Rattle.type_numbers.proofs.LayerMaps.{all_joined, all_split, all_given}
use Rattle.type_relations.specs.Elements.{type_parameters}
use Rattle.type_relations.specs.RawTypes.{has_entry, added, once_behind, entries, entries_in, of_enclosing, replacements}
use Rattle.type_relations.proofs.PartsByLayers.{held, held-mirrors, by_parts-layer}
use Rattle.type_numbers.specs.Replaced.{Numbered, AreKnownIn, replacements_in}
use Rattle.type_steps.specs.Entries.{has_number, with_number, with_numbers, entries_at, LeavesEntries, Replaces}
use Rattle.type_steps.proofs.LayersOfNumbers.{NoClass, node-layer, node-falls}

-- ---- one entry more

pub number-there : (by : Numbered) (element : ElementRef) (n : ℕ) → has_number by element ≡ true → by ≡ with_number by (element, n)
number-there by element n e = sym (ap (λ (b : Bool). cond b by (by ++ (element, n) ∷ [])) e)

pub number-new : (by : Numbered) (element : ElementRef) (n : ℕ) → has_number by element ≡ false → by ++ (element, n) ∷ [] ≡ with_number by (element, n)
number-new by element n e = sym (ap (λ (b : Bool). cond b by (by ++ (element, n) ∷ [])) e)

pub ruleset numbering = (number-there, number-new)

-- ---- the entries of a row of parameters with their arguments

abbrev Entry : Type 0
Entry = ElementRef × ℕ

abbrev entry : ElementRef → ℕ → Entry
entry element number = (element, number)

-- one of them more
pub own-step : (before so_far after : Numbered) (ps : List ElementRef) (ns : List ℕ) (i : ℕ) (p : ElementRef) → i < length ps → i < length ns
    → so_far ≡ with_numbers before (take i (zip ps ns)) → p ≡ get_or ps i p → after ≡ with_number so_far (p, get_or ns i 0)
    → after ≡ with_numbers before (take (i + 1) (zip ps ns))
own-step before so_far after ps ns i p first second e f h =
    let pairs : Numbered = zip ps ns in
    let n = get_or ns i 0 in
    let many : length pairs ≡ min (length ps) (length ns) = length-zip ps ns in
    let next : i + 1 ≡ suc i = omega arith in
    let more : take (i + 1) pairs ≡ take i pairs ++ entry (get_or ps i p) n ∷ [] =
    ap (λ (k : ℕ). take k pairs) next
    ∙ take-suc pairs i (entry p 0) (omega (arith, many, first, second))
    ∙ ap (λ (x : Entry). take i pairs ++ x ∷ []) (get_or-zip ps ns i (entry p 0) first second) in
    h
    ∙ ap (λ (x : ElementRef). with_number so_far (entry x n)) f
    ∙ ap (λ (by : Numbered). with_number by (entry (get_or ps i p) n)) e
    ∙ sym (ap (with_numbers before) more ∙ fold-append with_number before (take i pairs) (entry (get_or ps i p) n ∷ []))

-- all of them
own_all : (before after : Numbered) (ps : List ElementRef) (ns : List ℕ) (i : ℕ) → after ≡ with_numbers before (take i (zip ps ns)) → length (zip ps ns) ≤ i
    → after ≡ with_numbers before (zip ps ns)
own_all before after ps ns i e p = e ∙ ap (with_numbers before) (take_all i (zip ps ns) p)

pub own-keys : (before after : Numbered) (ps : List ElementRef) (ns : List ℕ) (i : ℕ) → after ≡ with_numbers before (take i (zip ps ns)) → length ps ≤ i
    → after ≡ with_numbers before (zip ps ns)
own-keys before after ps ns i e p =
    let many : length (zip ps ns) ≡ min (length ps) (length ns) = length-zip ps ns in
    own_all before after ps ns i e (omega (arith, many, p))

pub own-values : (before after : Numbered) (ps : List ElementRef) (ns : List ℕ) (i : ℕ) → after ≡ with_numbers before (take i (zip ps ns)) → length ns ≤ i
    → after ≡ with_numbers before (zip ps ns)
own-values before after ps ns i e p =
    let many : length (zip ps ns) ≡ min (length ps) (length ns) = length-zip ps ns in
    own_all before after ps ns i e (omega (arith, many, p))

-- ---- entries by numbers and by mirrors

module _ (t : List Mirror) where
  abbrev shown : Entry → ElementRef × Mirror
  shown pair = (pair.0, at t pair.1)

  has-number : (by : Numbered) (element : ElementRef) → has_entry (replacements_in t by) element ≡ has_number by element
  has-number [] element = refl
  has-number (pair ∷ by) element = ap (λ (b : Bool). same_element pair.0 element || b) (has-number by element)

  put_by : (by : Numbered) (pair : Entry) (b : Bool) → replacements_in t (cond b by (by ++ pair ∷ [])) ≡ cond b (replacements_in t by) (replacements_in t by ++ shown pair ∷ [])
  put_by by pair true = refl
  put_by by pair false = map-append shown by (pair ∷ [])

  shown-number : (by : Numbered) (pair : Entry) → replacements_in t (with_number by pair) ≡ added (replacements_in t by) (shown pair)
  shown-number by pair =
      put_by by pair (has_number by pair.0)
      ∙ sym (ap (λ (b : Bool). cond b (replacements_in t by) (replacements_in t by ++ shown pair ∷ [])) (has-number by pair.0))

  shown-numbers : (by more : Numbered) → replacements_in t (with_numbers by more) ≡ once_behind (replacements_in t by) (replacements_in t more)
  shown-numbers by [] = refl
  shown-numbers by (pair ∷ more) =
      shown-numbers (with_number by pair) more ∙ ap (λ (rs : Replacements). once_behind rs (replacements_in t more)) (shown-number by pair)

  shown-zip : (ps : List ElementRef) (ns : List ℕ) → replacements_in t (zip ps ns) ≡ zip ps (map (at t) ns)
  shown-zip [] ns = refl
  shown-zip (p ∷ ps) [] = refl
  shown-zip (p ∷ ps) (n ∷ ns) = ap (λ (rs : Replacements). (p, at t n) ∷ rs) (shown-zip ps ns)

  known_by : (by : Numbered) (pair : Entry) (b : Bool) → AreKnownIn t by → IsKnown t pair.1 → AreKnownIn t (cond b by (by ++ pair ∷ []))
  known_by by pair true all one = all
  known_by by pair false all one = all_joined (λ (p : Entry). IsKnown t p.1) by (pair ∷ []) all (one, tt)

  known-numbers : (by more : Numbered) → AreKnownIn t by → AreKnownIn t more → AreKnownIn t (with_numbers by more)
  known-numbers by [] all others = all
  known-numbers by (pair ∷ more) all others = known-numbers (with_number by pair) more (known_by by pair (has_number by pair.0) all others.0) others.1

  known-zip : (ps : List ElementRef) (ns : List ℕ) → AreKnown t ns → AreKnownIn t (zip ps ns)
  known-zip [] ns all = tt
  known-zip (p ∷ ps) [] all = tt
  known-zip (p ∷ ps) (n ∷ ns) all = (all.0, known-zip ps ns all.1)

-- those of a class type itself are known
pub own-known : (t : List Mirror) (number : ℕ) (n : Node) (element : ElementRef) (enclosing : Option ℕ) (arguments : List ℕ) (before after : Numbered) (ps : List ElementRef) (ns : List ℕ)
    → IsKnown t number → AllByRecursion (λ part. part < number) (parts_of (layer_of n)) → n ≡ node.Declared element enclosing arguments → ns ≡ arguments
    → AreKnownIn t before → after ≡ with_numbers before (zip ps ns) → AreKnownIn t after
own-known t number n element enclosing arguments before after ps ns known fall is same all e =
    let parts = all_split (λ (part : ℕ). part < number) (option_to_list enclosing) arguments (node-falls number n (node.Declared element enclosing arguments) fall is) in
    let inner : AreKnown t arguments = all_given (λ (part : ℕ). part < number) (IsKnown t) arguments (λ (part : ℕ) (less : part < number). omega (arith, less, known)) parts.1 in
    subst (AreKnownIn t) (sym e) (known-numbers t before (zip ps ns) all (known-zip t ps ns (subst (AreKnown t) (sym same) inner)))

-- ---- the entries of a type

module _ (table : TypeTable) (t : List Mirror) where
  by_layer : (m : Mirror) (l : Layer Mirror) → layer m ≡ l → entries table m ≡ entries_in table (map_layer (held (entries_in table)) l)
  unfolding entries
  by_layer m l e = by_parts-layer (entries_in table) m ∙ ap (λ (k : Layer Mirror). entries_in table (map_layer (held (entries_in table)) k)) e

  enclosing-is : (o : Option ℕ) → of_enclosing (option_map (held (entries_in table)) (option_map (at t) o)) ≡ entries_at table t o
  unfolding entries by_parts
  enclosing-is None = refl
  enclosing-is (Some n) = refl

  entries-declared : (number : ℕ) (n : Node) (element : ElementRef) (enclosing : Option ℕ) (arguments : List ℕ) → with_types t (layer_of n) ≡ layer (at t number)
      → n ≡ node.Declared element enclosing arguments → entries table (at t number) ≡ zip (type_parameters table element) (map (at t) arguments) ++ entries_at table t enclosing
  entries-declared number n element enclosing arguments exact is =
      let ps = type_parameters table element in
      let outer = of_enclosing (option_map (held (entries_in table)) (option_map (at t) enclosing)) in
      by_layer (at t number) (with_types t (layer_of (node.Declared element enclosing arguments))) (node-layer t number n (node.Declared element enclosing arguments) exact is)
      ∙ ap (λ (ms : List Mirror). zip ps ms ++ outer) (held-mirrors (entries_in table) (map (at t) arguments))
      ∙ ap (λ (rest : Replacements). zip ps (map (at t) arguments) ++ rest) (enclosing-is enclosing)

  -- behind those of the class type itself come those of its enclosing type
  pub left-declared : (number : ℕ) (n : Node) (element : ElementRef) (enclosing : Option ℕ) (arguments : List ℕ) (before after : Numbered) (ps : List ElementRef) (ns : List ℕ)
      → with_types t (layer_of n) ≡ layer (at t number) → n ≡ node.Declared element enclosing arguments → ps ≡ type_parameters table element → ns ≡ arguments
      → after ≡ with_numbers before (zip ps ns) → LeavesEntries table t before after number enclosing
  left-declared number n element enclosing arguments before after ps ns exact is first second e =
      let old = replacements_in t before in
      let outer = entries_at table t enclosing in
      let own = zip (type_parameters table element) (map (at t) arguments) in
      let all : replacements_in t after ≡ once_behind old own =
      ap (replacements_in t) e
      ∙ shown-numbers t before (zip ps ns)
      ∙ ap (once_behind old) (shown-zip t ps ns ∙ ap (λ (x : List ElementRef). zip x (map (at t) ns)) first ∙ ap (λ (y : List ℕ). zip (type_parameters table element) (map (at t) y)) second) in
      ap (λ (rs : Replacements). once_behind rs outer) all
      ∙ sym (ap (once_behind old) (entries-declared number n element enclosing arguments exact is) ∙ fold-append added old own outer)

  none_in : (n : Node) → NoClass n → entries_in table (map_layer (held (entries_in table)) (with_types t (layer_of n))) ≡ []
  none_in (node.Declared element enclosing arguments) differs = absurd (differs element enclosing arguments refl)
  none_in (node.Array item) differs = refl
  none_in (node.Primitive kind) differs = refl
  none_in (node.Error text) differs = refl
  none_in (node.Variable element) differs = refl
  none_in node.Unbounded differs = refl
  none_in (node.Extends bound) differs = refl
  none_in (node.Super bound) differs = refl
  none_in (node.Executable variables parameters outcome thrown) differs = refl
  none_in node.Nothing differs = refl
  none_in node.Void differs = refl
  none_in node.Null differs = refl
  none_in (node.Package name) differs = refl

  pub left-other : (number : ℕ) (n : Node) (by : Numbered) → with_types t (layer_of n) ≡ layer (at t number) → NoClass n → LeavesEntries table t by by number None
  left-other number n by exact differs =
      sym (ap (once_behind (replacements_in t by)) (by_layer (at t number) (with_types t (layer_of n)) (sym exact) ∙ none_in n differs))

-- ---- enclosing types one after the other

-- how far there is to go at most
abbrev pub size_of : Option ℕ → ℕ
size_of None = 0
size_of (Some number) = suc number

-- with the entries of the type that is left they are all
pub record HasLeft (table : TypeTable) (t : List Mirror) (number : ℕ) (left : Option ℕ) (by : Numbered) : Type 0 where
  pub known : AreKnownIn t by
  pub outer : IfSome left (IsKnown t)
  pub rest : once_behind (replacements_in t by) (entries_at table t left) ≡ replacements table (at t number)

pub left-all : (table : TypeTable) (t : List Mirror) (number : ℕ) (by : Numbered) → IsKnown t number → by ≡ [] → HasLeft table t number (Some number) by
unfolding replacements
left-all table t number by known e = record {
  known = subst (AreKnownIn t) (sym e) tt;
  outer = known;
  rest = ap (λ (b : Numbered). once_behind (replacements_in t b) (entries table (at t number))) e;
}

known_outer : (t : List Mirror) (number : ℕ) (left : Option ℕ) → IsKnown t number → IfSome left (λ o. o < number) → IfSome left (IsKnown t)
known_outer t number None known less = tt
known_outer t number (Some o) known less = let below : o < length t = omega (arith, known, less) in below

pub left-next : (table : TypeTable) (t : List Mirror) (number inner : ℕ) (left : Option ℕ) (by by' : Numbered) → HasLeft table t number (Some inner) by → AreKnownIn t by'
    → IfSome left (λ o. o < inner) → LeavesEntries table t by by' inner left → HasLeft table t number left by'
left-next table t number inner left by by' was known less leaves = record {
  known = known;
  outer = known_outer t inner left was.outer less;
  rest = leaves ∙ was.rest;
}

pub left-less : (inner : ℕ) (left : Option ℕ) → IfSome left (λ o. o < inner) → size_of left < size_of (Some inner)
left-less inner None less = let first : 0 < suc inner = omega arith in first
left-less inner (Some o) less = let next : suc o < suc inner = omega (arith, less) in next

pub left-none : (table : TypeTable) (t : List Mirror) (number : ℕ) (left : Option ℕ) (by : Numbered) → HasLeft table t number left by → left ≡ None → Replaces table t by number
left-none table t number left by was e = sym (ap (λ (o : Option ℕ). once_behind (replacements_in t by) (entries_at table t o)) e) ∙ was.rest
