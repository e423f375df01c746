-- The erasure of a type by its outermost layer, by numbers.
use Rattle.std.proofs.Common.{◌≡◌, ◌<◌, ℕ, suc, ◌+◌, false, List, [], ◌∷◌, ◌++◌, length, get_or, map, drop, Option, Some, None, Result, IfOk, refl, sym, ap, subst, ◌∙◌, arith}
use Rattle.std.proofs.Math.Seq.{drop-cons}
use Rattle.std.proofs.lemmas.List.{map-append}
use Rattle.std.specs.Option.{option_map}
use Rattle.apt_base.specs.declared.element.ElementRef.{ElementRef}
use Rattle.apt_base.specs.Limits.{max_type_steps}
use Rattle.element_table.specs.TypeTable.{TypeTable}
use Rattle.type_mirror.specs.declared.mirror.Mirror.{Mirror}
use Rattle.type_mirror.specs.declared.mirror.BaseMirror.TheVariants as base
use Rattle.type_mirror.specs.Parts.{plain}
use Rattle.type_layers.specs.Layers.{Layer, Primitive, Declared, Error, Variable, Array, Unbounded, Extends, Super, Executable, Nothing, Void, Null, Package, layer, map_layer, mirror_of, array_of, declared_mirror, by_layers}
use Rattle.type_layers.proofs.BaseLayers.{layer-Wildcard}
use Rattle.type_layers.proofs.LayerLaws.{by_layers-layer, layer-mirror_of}
use Rattle.type_numbers.specs.declared.node.Node.{Node}
use Rattle.type_numbers.specs.declared.node.Node.TheVariants as node
use Rattle.type_numbers.specs.Nodes.{layer_of}
use Rattle.type_numbers.specs.Numbers.{at, IsKnown, AreKnown, Stands, OptionStands, Grows, with_types, mirror_with}
use Rattle.type_numbers.proofs.AddedTypes.{node-is, executable-with}
use Rattle.type_numbers.proofs.LayerMaps.{all_joined}
use Rattle.type_numbers.proofs.NumberLaws.{grown-at, grown-known, grown-all_known, grown-types, grows-on}
use Rattle.type_relations.specs.Closed.{closed, behind}
use Rattle.type_relations.specs.Erasure.{erased_layer, erasing_step, variable_erasure, executable_of, erasure, erasures}
use Rattle.type_relations.proofs.ClosedLists.{behind-some, behind-none}
use Rattle.type_steps.specs.Arrays.{has_item}
use Rattle.type_steps.specs.Supertypes.{AllMayStand, erasure_at, erasures_at}
use Rattle.type_steps.proofs.LayersOfNumbers.{NoClass, node-layer}

module _ (table : TypeTable) (k : ℕ) where
  abbrev step : Layer (Option Mirror) → Option Mirror
  step = erased_layer table (variable_erasure table k)

  pub erasure-layer : (m : Mirror) (l : Layer Mirror) → layer m ≡ l → erasure table k m ≡ step (map_layer (erasure table k) l)
  unfolding erasure
  erasure-layer m l e = by_layers-layer (erasing_step table k) m ∙ ap (λ (x : Layer Mirror). step (map_layer (by_layers (erasing_step table k)) x)) e

  pub erasure-array : (m : Mirror) → erasure table k (array_of m) ≡ option_map array_of (erasure table k m)
  unfolding mirror_of
  erasure-array m = erasure-layer (array_of m) (Array m) (layer-mirror_of (Array m))

  pub erasure-bound : (m bound : Mirror) → layer m ≡ Extends bound → erasure table k m ≡ erasure table k bound
  erasure-bound m bound e = erasure-layer m (Extends bound) e

-- ---- node by node

module _ (table : TypeTable) (t : List Mirror) (number : ℕ) (n : Node) (exact : with_types t (layer_of n) ≡ layer (at t number)) where
  by_node : (n' : Node) → n ≡ n' → erasure_at table t number ≡ step table max_type_steps (map_layer (erasure table max_type_steps) (with_types t (layer_of n')))
  by_node n' is = erasure-layer table max_type_steps (at t number) (with_types t (layer_of n')) (node-layer t number n n' exact is)

  pub erased-Declared : (element : ElementRef) (enclosing : Option ℕ) (arguments : List ℕ) → n ≡ node.Declared element enclosing arguments
      → Some (declared_mirror element None []) ≡ erasure_at table t number
  erased-Declared element enclosing arguments is = sym (by_node (node.Declared element enclosing arguments) is)

  pub erased-Variable : (element : ElementRef) → n ≡ node.Variable element → erasure table max_type_steps (plain (base.Variable element)) ≡ erasure_at table t number
  unfolding mirror_of
  erased-Variable element is = ap (erasure table max_type_steps) (node-is t number n (node.Variable element) exact is)

  pub erased-Unbounded : n ≡ node.Unbounded → erasure table max_type_steps (plain base.Wildcard) ≡ erasure_at table t number
  unfolding mirror_of
  erased-Unbounded is = ap (erasure table max_type_steps) (node-is t number n node.Unbounded exact is)

  pub erased-Super : (bound : ℕ) → n ≡ node.Super bound → erasure table max_type_steps (plain base.Wildcard) ≡ erasure_at table t number
  erased-Super bound is = erasure-layer table max_type_steps (plain base.Wildcard) Unbounded layer-Wildcard ∙ sym (by_node (node.Super bound) is)

  pub erased-Executable : (variables : List ElementRef) (parameters : List ℕ) (outcome : ℕ) (thrown : List ℕ) → n ≡ node.Executable variables parameters outcome thrown
      → executable_of (erasures_at table t parameters) (erasure_at table t outcome) (erasures_at table t thrown) ≡ erasure_at table t number
  erased-Executable variables parameters outcome thrown is = sym (by_node (node.Executable variables parameters outcome thrown) is)

-- what is its own erasure
abbrev NoVariable : Node → Type 0
NoVariable n = (element : ElementRef) → n ≡ node.Variable element → ⊥

abbrev NoUnbounded : Node → Type 0
NoUnbounded n = n ≡ node.Unbounded → ⊥

abbrev NoSuper : Node → Type 0
NoSuper n = (bound : ℕ) → n ≡ node.Super bound → ⊥

abbrev NoExecutable : Node → Type 0
NoExecutable n = (variables : List ElementRef) (parameters : List ℕ) (outcome : ℕ) (thrown : List ℕ) → n ≡ node.Executable variables parameters outcome thrown → ⊥

own_with : (table : TypeTable) (t : List Mirror) (n : Node) → NoClass n → NoVariable n → NoUnbounded n → NoSuper n → NoExecutable n → has_item (with_types t (layer_of n)) ≡ false
    → step table max_type_steps (map_layer (erasure table max_type_steps) (with_types t (layer_of n))) ≡ Some (mirror_of (with_types t (layer_of n)))
own_with table t (node.Declared element enclosing arguments) a b c d e h = absurd (a element enclosing arguments refl)
own_with table t (node.Variable element) a b c d e h = absurd (b element refl)
own_with table t node.Unbounded a b c d e h = absurd (c refl)
own_with table t (node.Super bound) a b c d e h = absurd (d bound refl)
own_with table t (node.Executable variables parameters outcome thrown) a b c d e h = absurd (e variables parameters outcome thrown refl)
own_with table t (node.Array item) a b c d e h = absurd cc
own_with table t (node.Extends bound) a b c d e h = absurd cc
own_with table t (node.Primitive kind) a b c d e h = refl
own_with table t (node.Error text) a b c d e h = refl
own_with table t node.Nothing a b c d e h = refl
own_with table t node.Void a b c d e h = refl
own_with table t node.Null a b c d e h = refl
own_with table t (node.Package name) a b c d e h = refl

pub erased-itself : (table : TypeTable) (t : List Mirror) (number : ℕ) (n : Node) → with_types t (layer_of n) ≡ layer (at t number) → IsKnown t number
    → has_item (layer (at t number)) ≡ false → NoClass n → NoVariable n → NoUnbounded n → NoSuper n → NoExecutable n → OptionStands t (Some number) (erasure_at table t number)
erased-itself table t number n exact known h a b c d e =
    let own = own_with table t n a b c d e (ap (λ (l : Layer Mirror). has_item l) exact ∙ h) in
    record {
      known = (known, tt);
      type = ap (λ (m : Mirror). Some m) (sym (node-is t number n n exact refl)) ∙ sym own ∙ sym (erasure-layer table max_type_steps (at t number) (with_types t (layer_of n)) (sym exact));
    }

-- ---- values that may be open

pub optional-same : {E : Type 0} (r : Result (Option ℕ) E) (t : List Mirror) (m m' : Option Mirror) → m ≡ m' → IfOk r (λ n. OptionStands t n m) → IfOk r (λ n. OptionStands t n m')
optional-same r t m m' e h = subst (λ (x : Option Mirror). IfOk r (λ n. OptionStands t n x)) e h

pub optional-none : (t : List Mirror) (m : Option Mirror) → None ≡ m → OptionStands t None m
optional-none t m e = record { known = tt; type = e }

-- ---- several types, one after the other

pub record AreErased (table : TypeTable) (t t' : List Mirror) (parts list : List ℕ) (i : ℕ) : Type 0 where
  pub known : AreKnown t' list
  pub rest : behind (map (at t') list) (erasures_at table t (drop i parts)) ≡ erasures_at table t parts

first_part : (table : TypeTable) (t : List Mirror) (parts : List ℕ) (i : ℕ) → i < length parts
    → erasures_at table t (drop i parts) ≡ closed (erasure_at table t (get_or parts i 0) ∷ map (erasure table max_type_steps) (map (at t) (drop (i + 1) parts)))
first_part table t parts i less =
    let next : suc i ≡ i + 1 = omega arith in
    ap (λ (ns : List ℕ). erasures_at table t ns) (drop-cons parts i 0 less)
    ∙ ap (λ (j : ℕ). closed (erasure_at table t (get_or parts i 0) ∷ map (erasure table max_type_steps) (map (at t) (drop j parts)))) next

-- one of them more
pub erased-next : (table : TypeTable) (t t' t'' : List Mirror) (parts list : List ℕ) (i one : ℕ) → i < length parts → AreErased table t t' parts list i → Grows t t' → Grows t' t''
    → IsKnown t (get_or parts i 0) → OptionStands t'' (Some one) (erasure_at table t' (get_or parts i 0)) → AreErased table t t'' parts (list ++ one ∷ []) (i + 1)
erased-next table t t' t'' parts list i one less so_far g g' known stands =
    let part = get_or parts i 0 in
    let others = map (erasure table max_type_steps) (map (at t) (drop (i + 1) parts)) in
    let here : erasure_at table t part ≡ Some (at t'' one) = sym (stands.type ∙ ap (erasure table max_type_steps) (grown-at t t' part g known)) in
    let front = map (at t') list in
    let more : map (at t'') (list ++ one ∷ []) ≡ front ++ at t'' one ∷ [] =
    map-append (at t'') list (one ∷ []) ∙ ap (λ (ms : List Mirror). ms ++ at t'' one ∷ []) (grown-types t' t'' list g' so_far.known) in
    record {
      known = all_joined (IsKnown t'') list (one ∷ []) (grown-all_known t' t'' list g' so_far.known) (stands.known.0, tt);
      rest = ap (λ (ms : List Mirror). behind ms (closed others)) more
          ∙ sym (behind-some front (at t'' one) others)
          ∙ sym (ap (λ (o : Option Mirror). behind front (closed (o ∷ others))) here)
          ∙ sym (ap (behind front) (first_part table t parts i less))
          ∙ so_far.rest;
    }

-- one of them is open
pub erased-open : (table : TypeTable) (t t' t'' : List Mirror) (parts list : List ℕ) (i : ℕ) → i < length parts → AreErased table t t' parts list i → Grows t t'
    → IsKnown t (get_or parts i 0) → OptionStands t'' None (erasure_at table t' (get_or parts i 0)) → None ≡ erasures_at table t parts
erased-open table t t' t'' parts list i less so_far g known stands =
    let part = get_or parts i 0 in
    let others = map (erasure table max_type_steps) (map (at t) (drop (i + 1) parts)) in
    let here : erasure_at table t part ≡ None = sym (stands.type ∙ ap (erasure table max_type_steps) (grown-at t t' part g known)) in
    sym (sym so_far.rest
    ∙ ap (behind (map (at t') list)) (first_part table t parts i less)
    ∙ ap (λ (o : Option Mirror). behind (map (at t') list) (closed (o ∷ others))) here
    ∙ behind-none (map (at t') list) others)

-- ---- the types of a method

-- all parts are there
pub executable-whole : (table : TypeTable) (t t' t'' t''' : List Mirror) (parameters ps : List ℕ) (outcome o : ℕ) (thrown ts : List ℕ) → IsKnown t outcome → AreKnown t thrown
    → Grows t t' → AllMayStand t' (Some ps) (erasures_at table t parameters) → Grows t' t'' → OptionStands t'' (Some o) (erasure_at table t' outcome) → Grows t'' t'''
    → AllMayStand t''' (Some ts) (erasures_at table t'' thrown)
    → Some (mirror_with t''' (Executable [] ps o ts)) ≡ executable_of (erasures_at table t parameters) (erasure_at table t outcome) (erasures_at table t thrown)
executable-whole table t t' t'' t''' parameters ps outcome o thrown ts single all g first g' second g'' third =
    let p : Some (map (at t''') ps) ≡ erasures_at table t parameters =
    ap (λ (ms : List Mirror). Some ms) (grown-types t' t''' ps (grows-on t' t'' t''' g' g'') first.known) ∙ first.types in
    let q : Some (at t''' o) ≡ erasure_at table t outcome =
    ap (λ (m : Mirror). Some m) (grown-at t'' t''' o g'' second.known.0) ∙ second.type ∙ ap (erasure table max_type_steps) (grown-at t t' outcome g single) in
    let r : Some (map (at t''') ts) ≡ erasures_at table t thrown =
    third.types ∙ ap (erasures table max_type_steps) (grown-types t t'' thrown (grows-on t t' t'' g g') all) in
    ap (λ (m : Mirror). Some m) (executable-with t''' [] ps (map (at t''') ps) o (at t''' o) ts (map (at t''') ts) refl refl refl)
    ∙ ap (λ (x : Option (List Mirror)). executable_of x (Some (at t''' o)) (Some (map (at t''') ts))) p
    ∙ ap (λ (x : Option Mirror). executable_of (erasures_at table t parameters) x (Some (map (at t''') ts))) q
    ∙ ap (executable_of (erasures_at table t parameters) (erasure_at table t outcome)) r

pub executable-parts : (table : TypeTable) (t t' t'' t''' : List Mirror) (ps : List ℕ) (a : Option (List Mirror)) (o : ℕ) (b : Option Mirror) (ts : List ℕ) (c : Option (List Mirror))
    → AllMayStand t' (Some ps) a → Grows t' t'' → OptionStands t'' (Some o) b → Grows t'' t''' → AllMayStand t''' (Some ts) c → AreKnown t''' (ps ++ o ∷ ts)
executable-parts table t t' t'' t''' ps a o b ts c first g second g' third =
    all_joined (IsKnown t''') ps (o ∷ ts) (grown-all_known t' t''' ps (grows-on t' t'' t''' g g') first.known) (grown-known t'' t''' o g' second.known.0, third.known)

-- ---- one of the parts is open

second_open : (ps : Option (List Mirror)) (ts : Option (List Mirror)) → None ≡ executable_of ps None ts
second_open None ts = refl
second_open (Some ps) ts = refl

third_open : (ps : Option (List Mirror)) (o : Option Mirror) → None ≡ executable_of ps o None
third_open None o = refl
third_open (Some ps) None = refl
third_open (Some ps) (Some o) = refl

module _ (table : TypeTable) (t : List Mirror) (parameters : List ℕ) (outcome : ℕ) (thrown : List ℕ) (m : Option Mirror)
    (whole : executable_of (erasures_at table t parameters) (erasure_at table t outcome) (erasures_at table t thrown) ≡ m) where
  pub first-open : (t' : List Mirror) → AllMayStand t' None (erasures_at table t parameters) → OptionStands t' None m
  first-open t' first =
      optional-none t' m (ap (λ (x : Option (List Mirror)). executable_of x (erasure_at table t outcome) (erasures_at table t thrown)) first.types ∙ whole)

  pub second-open : (t' t'' : List Mirror) → Grows t t' → IsKnown t outcome → OptionStands t'' None (erasure_at table t' outcome) → OptionStands t'' None m
  second-open t' t'' g known second =
      let here : None ≡ erasure_at table t outcome = second.type ∙ ap (erasure table max_type_steps) (grown-at t t' outcome g known) in
      optional-none t'' m
      (second_open (erasures_at table t parameters) (erasures_at table t thrown)
      ∙ ap (λ (x : Option Mirror). executable_of (erasures_at table t parameters) x (erasures_at table t thrown)) here
      ∙ whole)

  pub third-open : (t'' t''' : List Mirror) → Grows t t'' → AreKnown t thrown → AllMayStand t''' None (erasures_at table t'' thrown) → OptionStands t''' None m
  third-open t'' t''' g known third =
      let here : None ≡ erasures_at table t thrown = third.types ∙ ap (erasures table max_type_steps) (grown-types t t'' thrown g known) in
      optional-none t''' m
      (third_open (erasures_at table t parameters) (erasure_at table t outcome)
      ∙ ap (λ (x : Option (List Mirror)). executable_of (erasures_at table t parameters) (erasure_at table t outcome) x) here
      ∙ whole)

  -- all are there
  pub all-there : (t' t'' t''' after : List Mirror) (ps : List ℕ) (o : ℕ) (ts : List ℕ) → IsKnown t outcome → AreKnown t thrown
      → Grows t t' → AllMayStand t' (Some ps) (erasures_at table t parameters) → Grows t' t'' → OptionStands t'' (Some o) (erasure_at table t' outcome)
      → Grows t'' t''' → AllMayStand t''' (Some ts) (erasures_at table t'' thrown) → (number : ℕ) → Stands after number (mirror_with t''' (Executable [] ps o ts))
      → OptionStands after (Some number) m
  all-there t' t'' t''' after ps o ts single all g first g' second g'' third number stands =
      let e = executable-whole table t t' t'' t''' parameters ps outcome o thrown ts single all g first g' second g'' third in
      record { known = (stands.known, tt); type = ap (λ (x : Mirror). Some x) stands.type ∙ e ∙ whole }
