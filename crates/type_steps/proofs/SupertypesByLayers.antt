-- The direct supertypes of a type by its outermost layer.
use Rattle.std.proofs.Common.{◌≡◌, ℕ, suc, ◌+◌, Bool, true, false, cond, List, [], ◌∷◌, map, Option, Some, None, refl, sym, ap, ◌∙◌, arith}
use Rattle.std.specs.Option.{option_map}
use Rattle.apt_base.specs.declared.element.ElementRef.{ElementRef}
use Rattle.element_table.specs.TypeTable.{TypeTable}
use Rattle.type_mirror.specs.declared.mirror.PrimitiveKind.{PrimitiveKind}
use Rattle.apt_base.specs.declared.around.Around.{Around}
use Rattle.apt_base.specs.declared.around.Around.TheVariants as around
use Rattle.apt_base.specs.Limits.{max_type_steps}
use Rattle.type_mirror.specs.declared.mirror.Mirror.{Mirror, out-Mirror, out-roll-Mirror, roll-out-Mirror}
use Rattle.type_mirror.specs.declared.mirror.BaseMirror.{BaseMirror}
use Rattle.type_mirror.specs.declared.mirror.BaseMirror.TheVariants as base
use Rattle.type_mirror.specs.Parts.{plain}
use Rattle.type_mirror.specs.Substitution.{substituted}
use Rattle.type_layers.specs.Layers.{Layer, Primitive, Declared, Variable, Array, layer, layer_in, mirror_of, array_of, declared_mirror}
use Rattle.type_layers.proofs.BaseLayers.{layer-Primitive, layer-Variable}
use Rattle.type_layers.proofs.LayerLaws.{MirrorLayer, rolled_mirror, layer-mirror_of}
use Rattle.type_numbers.specs.declared.node.Node.{Node}
use Rattle.type_numbers.specs.declared.node.Node.TheVariants as node
use Rattle.type_numbers.specs.Nodes.{layer_of}
use Rattle.type_numbers.specs.Numbers.{at, with_types}
use Rattle.type_relations.specs.Direct.{all_arrays_have, direct, direct_in, is_primitive, of_array, of_layer}
use Rattle.type_relations.specs.Erasure.{erasures}
use Rattle.type_relations.specs.Named.{declared_supertypes}
use Rattle.type_relations.specs.RawTypes.{replacements}
use Rattle.type_steps.specs.Arrays.{arrays, is_array}
use Rattle.type_steps.specs.Supertypes.{AllMayStand, item_direct, item_at, is_raw_at, in_array}
use Rattle.type_steps.proofs.LayersOfNumbers.{node-layer}

-- ---- arrays

-- an array by its item
pub direct-array : (table : TypeTable) (m : Mirror) → direct table (array_of m) ≡ of_array table (is_primitive (layer m)) (direct table m)
unfolding direct layer
direct-array table m =
    ap (λ (o : MirrorLayer). direct_in table o.around o.base) (out-roll-Mirror (record { around = around.Array ∷ (out-Mirror m).around; base = (out-Mirror m).base }))

-- one array more around several
pub direct-arrays : (table : TypeTable) (k : ℕ) (m : Mirror) → direct table (arrays (k + 1) m) ≡ of_array table (is_primitive (layer (arrays k m))) (direct table (arrays k m))
direct-arrays table k m =
    let next : k + 1 ≡ suc k = omega arith in
    ap (λ (i : ℕ). direct table (arrays i m)) next ∙ direct-array table (arrays k m)

pub layer-array : (m : Mirror) → layer (array_of m) ≡ Array m
unfolding mirror_of
layer-array m = layer-mirror_of (Array m)

pub arrays-not_primitive : (k : ℕ) (m : Mirror) → is_primitive (layer (arrays (k + 1) m)) ≡ false
arrays-not_primitive k m =
    let next : k + 1 ≡ suc k = omega arith in
    ap (λ (i : ℕ). is_primitive (layer (arrays i m))) next ∙ ap is_primitive (layer-array (arrays k m))

-- ---- what is no array

item_in : (table : TypeTable) (forms : List Around) (b : BaseMirror) → is_array (layer_in forms b) ≡ false
    → direct_in table forms b ≡ of_layer table (rolled_mirror forms b) (layer_in forms b)
item_in table [] b e = refl
item_in table (around.Array ∷ inner) b e = absurd cc
item_in table (around.Extends ∷ inner) b e = refl
item_in table (around.Super ∷ inner) b e = refl

pub direct-item : (table : TypeTable) (m : Mirror) → is_array (layer m) ≡ false → direct table m ≡ item_direct table m
unfolding direct layer
direct-item table m e = item_in table (out-Mirror m).around (out-Mirror m).base e ∙ ap (λ (x : Mirror). of_layer table x (layer m)) (roll-out-Mirror m)

by_layer : (table : TypeTable) (m : Mirror) (l : Layer Mirror) → layer m ≡ l → is_array l ≡ false → direct table m ≡ of_layer table m l
by_layer table m l e h = direct-item table m (ap (λ (k : Layer Mirror). is_array k) e ∙ h) ∙ ap (of_layer table m) e

item_by : (table : TypeTable) (t : List Mirror) (number : ℕ) (n n' : Node) → with_types t (layer_of n) ≡ layer (at t number) → n ≡ n'
    → item_at table t number ≡ of_layer table (at t number) (with_types t (layer_of n'))
item_by table t number n n' exact is = ap (of_layer table (at t number)) (node-layer t number n n' exact is)

pub item-Primitive : (table : TypeTable) (t : List Mirror) (number : ℕ) (n : Node) (kind : PrimitiveKind) → with_types t (layer_of n) ≡ layer (at t number) → n ≡ node.Primitive kind
    → direct table (plain (base.Primitive kind)) ≡ item_at table t number
item-Primitive table t number n kind exact is =
    by_layer table (plain (base.Primitive kind)) (Primitive kind) (layer-Primitive kind) refl ∙ sym (item_by table t number n (node.Primitive kind) exact is)

pub item-Variable : (table : TypeTable) (t : List Mirror) (number : ℕ) (n : Node) (element : ElementRef) → with_types t (layer_of n) ≡ layer (at t number)
    → n ≡ node.Variable element → direct table (plain (base.Variable element)) ≡ item_at table t number
item-Variable table t number n element exact is =
    by_layer table (plain (base.Variable element)) (Variable element) (layer-Variable element) refl ∙ sym (item_by table t number n (node.Variable element) exact is)

layer_bare : (element : ElementRef) → layer (declared_mirror element None []) ≡ Declared element None []
unfolding mirror_of
layer_bare element = layer-mirror_of (Declared element None [])

-- a raw type has what the class type without an enclosing type has
raw_with : (table : TypeTable) (t : List Mirror) (number : ℕ) (element : ElementRef) (enclosing : Option ℕ) (arguments : List ℕ) → is_raw_at table element arguments ≡ true
    → of_layer table (declared_mirror element None []) (Declared element None [])
    ≡ of_layer table (at t number) (Declared element (option_map (at t) enclosing) (map (at t) arguments))
raw_with table t number element enclosing [] e =
    let header = declared_supertypes table element in
    let raw = erasures table max_type_steps header in
    ap (λ (b : Bool). cond b raw (Some (map (substituted (replacements table (declared_mirror element None []))) header))) e
    ∙ sym (ap (λ (b : Bool). cond b raw (Some (map (substituted (replacements table (at t number))) header))) e)
raw_with table t number element enclosing (argument ∷ arguments) e = absurd cc

pub item-raw : (table : TypeTable) (t : List Mirror) (number : ℕ) (n : Node) (element : ElementRef) (enclosing : Option ℕ) (arguments : List ℕ)
    → with_types t (layer_of n) ≡ layer (at t number) → n ≡ node.Declared element enclosing arguments → is_raw_at table element arguments ≡ true
    → direct table (declared_mirror element None []) ≡ item_at table t number
item-raw table t number n element enclosing arguments exact is raw =
    by_layer table (declared_mirror element None []) (Declared element None []) (layer_bare element) refl
    ∙ raw_with table t number element enclosing arguments raw
    ∙ sym (item_by table t number n (node.Declared element enclosing arguments) exact is)

-- ---- what all arrays have

pub all-arrays : (table : TypeTable) (kind : PrimitiveKind) → direct table (array_of (plain (base.Primitive kind))) ≡ Some (all_arrays_have table)
all-arrays table kind =
    direct-array table (plain (base.Primitive kind))
    ∙ ap (λ (l : Layer Mirror). of_array table (is_primitive l) (direct table (plain (base.Primitive kind)))) (layer-Primitive kind)

pub array-primitive : (table : TypeTable) (all : Option (List Mirror)) (primitive : Bool) → primitive ≡ true → Some (all_arrays_have table) ≡ of_array table primitive all
array-primitive table all primitive e = sym (ap (λ (b : Bool). of_array table b all) e)

-- ---- those of an item in several arrays

-- one array more
pub next-types : (table : TypeTable) (t t' : List Mirror) (item k : ℕ) (primitive : Bool) (all : Option (List ℕ)) → primitive ≡ is_primitive (layer (arrays k (at t item)))
    → AllMayStand t' all (direct table (arrays k (at t item))) → in_array table t' primitive all ≡ direct table (arrays (k + 1) (at t item))
next-types table t t' item k primitive all e stand =
    ap (λ (b : Bool). of_array table b (option_map (map (at t')) all)) e
    ∙ ap (of_array table (is_primitive (layer (arrays k (at t item))))) stand.types
    ∙ sym (direct-arrays table k (at t item))
