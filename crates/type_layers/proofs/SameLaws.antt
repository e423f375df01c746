-- The test of equal mirrors decides their equality.
use Rattle.std.proofs.Common.{◌≡◌, ◌↔◌, IsTrue, ℕ, Bool, true, false, ◌&&◌, List, [], ◌∷◌, map, Option, Some, None, refl, sym, ap, subst, ◌∙◌}
use Rattle.std.specs.List.{AllByRecursion}
use Rattle.std.specs.Option.{option_map, option_to_list}
use Rattle.std.specs.Str.{bytes_eq}
use Rattle.std.proofs.lemmas.Slice.Eq.{bytes_eq-Decides}
use Rattle.apt_base.specs.Elements.{same_element}
use Rattle.apt_base.specs.declared.element.ElementRef.{ElementRef}
use Rattle.type_mirror.specs.declared.mirror.PrimitiveKind.{PrimitiveKind}
use Rattle.type_mirror.specs.declared.mirror.PrimitiveKind.TheVariants as kind
use Rattle.type_mirror.specs.declared.mirror.Mirror.{Mirror}
use Rattle.type_mirror.proofs.Replacements.{same_element-true}
use Rattle.type_layers.specs.Layers.{Layer, Primitive, Declared, Error, Variable, Array, Unbounded, Extends, Super, Executable, Nothing, Void, Null, Package, layer, mirror_of, map_layer}
use Rattle.type_layers.specs.Same.{same_kind, passes, pass, same_elements, layer_passes, equal}
use Rattle.type_layers.proofs.LayerLaws.{mirror_of-layer, layer-mirror_of, by_layers-layer, AllParts, ind-layers}

-- ---- tests one after another

pub both : (a b : Bool) → (a && b) ≡ true → (a ≡ true) × (b ≡ true)
both true b h = (refl, h)
both false b h = absurd cc

pub and : (a b : Bool) → a ≡ true → b ≡ true → (a && b) ≡ true
and a b e h = ap (λ (x : Bool). x && b) e ∙ h

same_tests : (r s : Bool) → (r ≡ true → s ≡ true) → (s ≡ true → r ≡ true) → r ≡ s
same_tests true s there back = sym (there refl)
same_tests false true there back = back refl
same_tests false false there back = refl

-- ---- names, kinds and elements

bytes_itself : (xs : List ℕ) → bytes_eq xs xs ≡ true
bytes_itself xs = (bytes_eq-Decides xs xs).1 refl

same_kind-true : (one other : PrimitiveKind) → same_kind one other ≡ true → one ≡ other
same_kind-true kind.Boolean kind.Boolean h = refl
same_kind-true kind.Byte kind.Byte h = refl
same_kind-true kind.Short kind.Short h = refl
same_kind-true kind.Int kind.Int h = refl
same_kind-true kind.Long kind.Long h = refl
same_kind-true kind.Char kind.Char h = refl
same_kind-true kind.Float kind.Float h = refl
same_kind-true kind.Double kind.Double h = refl
same_kind-true _ _ h = absurd cc

same_kind-itself : (one : PrimitiveKind) → same_kind one one ≡ true
same_kind-itself kind.Boolean = refl
same_kind-itself kind.Byte = refl
same_kind-itself kind.Short = refl
same_kind-itself kind.Int = refl
same_kind-itself kind.Long = refl
same_kind-itself kind.Char = refl
same_kind-itself kind.Float = refl
same_kind-itself kind.Double = refl

same_element-itself : (at : ElementRef) → same_element at at ≡ true
same_element-itself at = and (bytes_eq at.unit at.unit) (bytes_eq at.path at.path) (bytes_itself at.unit) (bytes_itself at.path)

same_elements-true : (ones others : List ElementRef) → same_elements ones others ≡ true → ones ≡ others
same_elements-true [] [] h = refl
same_elements-true [] (other ∷ others) h = absurd cc
same_elements-true (one ∷ ones) [] h = absurd cc
same_elements-true (one ∷ ones) (other ∷ others) h =
    let tests = both (same_element one other) (same_elements ones others) h in
    ap (λ (e : ElementRef). e ∷ ones) (same_element-true one other tests.0) ∙ ap (λ (es : List ElementRef). other ∷ es) (same_elements-true ones others tests.1)

same_elements-itself : (ones : List ElementRef) → same_elements ones ones ≡ true
same_elements-itself [] = refl
same_elements-itself (one ∷ ones) = and (same_element one one) (same_elements ones ones) (same_element-itself one) (same_elements-itself ones)

-- ---- by the outermost layer

pub equal-layer : (a b : Mirror) → equal a b ≡ layer_passes (map_layer equal (layer a)) (layer b)
unfolding equal
equal-layer a b = ap (λ (test : Mirror → Bool). test b) (by_layers-layer (λ tests other. layer_passes tests (layer other)) a)

-- ---- equal mirrors are one

abbrev Exact : Mirror → Type 0
Exact a = (b : Mirror) → equal a b ≡ true → a ≡ b

mirrors_one : (ones others : List Mirror) → AllByRecursion Exact ones → pass (map equal ones) others ≡ true → ones ≡ others
mirrors_one [] [] exact h = refl
mirrors_one [] (other ∷ others) exact h = absurd cc
mirrors_one (one ∷ ones) [] exact h = absurd cc
mirrors_one (one ∷ ones) (other ∷ others) exact h =
    let tests = both (equal one other) (pass (map equal ones) others) h in
    ap (λ (m : Mirror). m ∷ ones) (exact.0 other tests.0) ∙ ap (λ (ms : List Mirror). other ∷ ms) (mirrors_one ones others exact.1 tests.1)

option_one : (one other : Option Mirror) → AllByRecursion Exact (option_to_list one) → passes (option_map equal one) other ≡ true → one ≡ other
option_one None None exact h = refl
option_one None (Some other) exact h = absurd cc
option_one (Some one) None exact h = absurd cc
option_one (Some one) (Some other) exact h = ap (λ (m : Mirror). Some m) (exact.0 other h)

declared_one : (at at' : ElementRef) (enclosing enclosing' : Option Mirror) (arguments arguments' : List Mirror)
    → AllParts Exact (Declared at enclosing arguments) → layer_passes (map_layer equal (Declared at enclosing arguments)) (Declared at' enclosing' arguments') ≡ true
    → Declared at enclosing arguments ≡ Declared at' enclosing' arguments'
declared_one at at' enclosing enclosing' arguments arguments' parts h =
    let outer = both (same_element at at' && passes (option_map equal enclosing) enclosing') (pass (map equal arguments) arguments') h in
    let inner = both (same_element at at') (passes (option_map equal enclosing) enclosing') outer.0 in
    ap (λ (x : ElementRef). Declared x enclosing arguments) (same_element-true at at' inner.0)
    ∙ ap (λ (x : Option Mirror). Declared at' x arguments) (option_one enclosing enclosing' parts.0 inner.1)
    ∙ ap (λ (x : List Mirror). Declared at' enclosing' x) (mirrors_one arguments arguments' parts.1 outer.1)

executable_one : (variables variables' : List ElementRef) (parameters parameters' : List Mirror) (outcome outcome' : Mirror) (thrown thrown' : List Mirror)
    → AllParts Exact (Executable variables parameters outcome thrown)
    → layer_passes (map_layer equal (Executable variables parameters outcome thrown)) (Executable variables' parameters' outcome' thrown') ≡ true
    → Executable variables parameters outcome thrown ≡ Executable variables' parameters' outcome' thrown'
executable_one variables variables' parameters parameters' outcome outcome' thrown thrown' parts h =
    let last = both (same_elements variables variables' && pass (map equal parameters) parameters' && equal outcome outcome') (pass (map equal thrown) thrown') h in
    let third = both (same_elements variables variables' && pass (map equal parameters) parameters') (equal outcome outcome') last.0 in
    let first = both (same_elements variables variables') (pass (map equal parameters) parameters') third.0 in
    ap (λ (x : List ElementRef). Executable x parameters outcome thrown) (same_elements-true variables variables' first.0)
    ∙ ap (λ (x : List Mirror). Executable variables' x outcome thrown) (mirrors_one parameters parameters' parts.0 first.1)
    ∙ ap (λ (x : Mirror). Executable variables' parameters' x thrown) (parts.1.0 outcome' third.1)
    ∙ ap (λ (x : List Mirror). Executable variables' parameters' outcome' x) (mirrors_one thrown thrown' parts.1.1 last.1)

layers_one : (l l' : Layer Mirror) → AllParts Exact l → layer_passes (map_layer equal l) l' ≡ true → l ≡ l'
layers_one (Primitive one) (Primitive other) parts h = ap (λ (k : PrimitiveKind). Primitive k) (same_kind-true one other h)
layers_one (Declared at enclosing arguments) (Declared at' enclosing' arguments') parts h = declared_one at at' enclosing enclosing' arguments arguments' parts h
layers_one (Error one) (Error other) parts h = ap (λ (t : List ℕ). Error t) ((bytes_eq-Decides one other).0 h)
layers_one (Variable one) (Variable other) parts h = ap (λ (e : ElementRef). Variable e) (same_element-true one other h)
layers_one (Array item) (Array other) parts h = ap (λ (m : Mirror). Array m) (parts other h)
layers_one Unbounded Unbounded parts h = refl
layers_one (Extends bound) (Extends other) parts h = ap (λ (m : Mirror). Extends m) (parts other h)
layers_one (Super bound) (Super other) parts h = ap (λ (m : Mirror). Super m) (parts other h)
layers_one (Executable variables parameters outcome thrown) (Executable variables' parameters' outcome' thrown') parts h =
    executable_one variables variables' parameters parameters' outcome outcome' thrown thrown' parts h
layers_one Nothing Nothing parts h = refl
layers_one Void Void parts h = refl
layers_one Null Null parts h = refl
layers_one (Package one) (Package other) parts h = ap (λ (t : List ℕ). Package t) ((bytes_eq-Decides one other).0 h)
layers_one _ _ parts h = absurd cc

pub equal-true : (a b : Mirror) → equal a b ≡ true → a ≡ b
equal-true = ind-layers Exact (λ l parts b h.
    let at_layers : layer_passes (map_layer equal l) (layer b) ≡ true =
    ap (λ (k : Layer Mirror). layer_passes (map_layer equal k) (layer b)) (sym (layer-mirror_of l)) ∙ sym (equal-layer (mirror_of l) b) ∙ h in
    ap mirror_of (layers_one l (layer b) parts at_layers) ∙ mirror_of-layer b)

-- ---- a mirror equals itself

abbrev Itself : Mirror → Type 0
Itself a = equal a a ≡ true

mirrors_itself : (ones : List Mirror) → AllByRecursion Itself ones → pass (map equal ones) ones ≡ true
mirrors_itself [] all = refl
mirrors_itself (one ∷ ones) all = and (equal one one) (pass (map equal ones) ones) all.0 (mirrors_itself ones all.1)

option_itself : (one : Option Mirror) → AllByRecursion Itself (option_to_list one) → passes (option_map equal one) one ≡ true
option_itself None all = refl
option_itself (Some one) all = all.0

layer_itself : (l : Layer Mirror) → AllParts Itself l → layer_passes (map_layer equal l) l ≡ true
layer_itself (Primitive one) parts = same_kind-itself one
layer_itself (Declared at enclosing arguments) parts =
    and (same_element at at && passes (option_map equal enclosing) enclosing) (pass (map equal arguments) arguments)
    (and (same_element at at) (passes (option_map equal enclosing) enclosing) (same_element-itself at) (option_itself enclosing parts.0))
    (mirrors_itself arguments parts.1)
layer_itself (Error one) parts = bytes_itself one
layer_itself (Variable one) parts = same_element-itself one
layer_itself (Array item) parts = parts
layer_itself Unbounded parts = refl
layer_itself (Extends bound) parts = parts
layer_itself (Super bound) parts = parts
layer_itself (Executable variables parameters outcome thrown) parts =
    and (same_elements variables variables && pass (map equal parameters) parameters && equal outcome outcome) (pass (map equal thrown) thrown)
    (and (same_elements variables variables && pass (map equal parameters) parameters) (equal outcome outcome)
    (and (same_elements variables variables) (pass (map equal parameters) parameters) (same_elements-itself variables) (mirrors_itself parameters parts.0)) parts.1.0)
    (mirrors_itself thrown parts.1.1)
layer_itself Nothing parts = refl
layer_itself Void parts = refl
layer_itself Null parts = refl
layer_itself (Package one) parts = bytes_itself one

pub equal-itself : (a : Mirror) → equal a a ≡ true
equal-itself = ind-layers Itself (λ l parts.
    equal-layer (mirror_of l) (mirror_of l) ∙ ap (λ (k : Layer Mirror). layer_passes (map_layer equal k) k) (layer-mirror_of l) ∙ layer_itself l parts)

pub equal-decides : (a b : Mirror) → (IsTrue (equal a b) → a ≡ b) × (a ≡ b → IsTrue (equal a b))
equal-decides a b = (equal-true a b, λ e. subst (λ (m : Mirror). equal a m ≡ true) e (equal-itself a))

-- a test that decides whether they are equal is that one
pub decided_equal : (a b : Mirror) (r : Bool) → (IsTrue r ↔ a ≡ b) → r ≡ equal a b
decided_equal a b r decides = same_tests r (equal a b) (λ h. (equal-decides a b).1 (decides.0 h)) (λ h. decides.1 ((equal-decides a b).0 h))
