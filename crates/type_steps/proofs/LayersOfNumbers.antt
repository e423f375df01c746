-- The layer of the type with a number by its node, and what stands for types that may be open.
use Rattle.std.proofs.Common.{◌≡◌, ◌<◌, ℕ, false, List, Option, Result, IfOk, refl, sym, ap, subst, ◌∙◌}
use Rattle.std.specs.List.{AllByRecursion}
use Rattle.apt_base.specs.declared.element.ElementRef.{ElementRef}
use Rattle.type_mirror.specs.declared.mirror.Mirror.{Mirror}
use Rattle.type_layers.specs.Layers.{layer, parts_of}
use Rattle.type_numbers.specs.declared.node.Node.{Node}
use Rattle.type_numbers.specs.declared.node.Node.TheVariants as node
use Rattle.type_numbers.specs.Nodes.{layer_of}
use Rattle.type_numbers.specs.Numbers.{at, with_types}
use Rattle.type_steps.specs.Arrays.{has_item}
use Rattle.type_steps.specs.Supertypes.{AllMayStand}

-- a node that shows a layer, where it is known
pub node-layer : (t : List Mirror) (number : ℕ) (n n' : Node) → with_types t (layer_of n) ≡ layer (at t number) → n ≡ n' → layer (at t number) ≡ with_types t (layer_of n')
node-layer t number n n' exact is = sym exact ∙ ap (λ (x : Node). with_types t (layer_of x)) is

-- what it holds has smaller numbers
pub node-falls : (number : ℕ) (n n' : Node) → AllByRecursion (λ part. part < number) (parts_of (layer_of n)) → n ≡ n'
    → AllByRecursion (λ part. part < number) (parts_of (layer_of n'))
node-falls number n n' fall is = subst (λ (x : Node). AllByRecursion (λ part. part < number) (parts_of (layer_of x))) is fall

-- a copy of a node shows what the node shows
pub copy-shows : (t : List Mirror) (number : ℕ) (n n' : Node) → n' ≡ n → with_types t (layer_of n) ≡ layer (at t number) → with_types t (layer_of n') ≡ layer (at t number)
copy-shows t number n n' same exact = ap (λ (x : Node). with_types t (layer_of x)) same ∙ exact

-- ---- a node that is none of some

abbrev pub NoArray : Node → Type 0
NoArray n = (item : ℕ) → n ≡ node.Array item → ⊥

abbrev pub NoBound : Node → Type 0
NoBound n = (bound : ℕ) → n ≡ node.Extends bound → ⊥

abbrev pub NoClass : Node → Type 0
NoClass n = (element : ElementRef) (enclosing : Option ℕ) (arguments : List ℕ) → n ≡ node.Declared element enclosing arguments → ⊥

no_item : (t : List Mirror) (n : Node) → NoArray n → NoBound n → has_item (with_types t (layer_of n)) ≡ false
no_item t (node.Array item) differs none = absurd (differs item refl)
no_item t (node.Extends bound) differs none = absurd (none bound refl)
no_item t (node.Primitive kind) differs none = refl
no_item t (node.Declared element enclosing arguments) differs none = refl
no_item t (node.Error text) differs none = refl
no_item t (node.Variable element) differs none = refl
no_item t node.Unbounded differs none = refl
no_item t (node.Super bound) differs none = refl
no_item t (node.Executable variables parameters outcome thrown) differs none = refl
no_item t node.Nothing differs none = refl
no_item t node.Void differs none = refl
no_item t node.Null differs none = refl
no_item t (node.Package name) differs none = refl

-- ---- raw types

-- ---- several types that may be open

pub may-same : {E : Type 0} (r : Result (Option (List ℕ)) E) (t : List Mirror) (ms ms' : Option (List Mirror)) → ms ≡ ms' → IfOk r (λ n. AllMayStand t n ms) → IfOk r (λ n. AllMayStand t n ms')
may-same r t ms ms' e h = subst (λ (x : Option (List Mirror)). IfOk r (λ n. AllMayStand t n x)) e h
