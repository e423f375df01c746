-- What a mirror has in the place of a layer, for those that are added from the inside out.
use Rattle.std.proofs.Common.{◌≡◌, ℕ, List, ◌∷◌, ◌++◌, map, Option, sym, ap, subst, ◌∙◌}
use Rattle.std.specs.List.{AllByRecursion}
use Rattle.std.specs.Option.{option_map}
use Rattle.apt_base.specs.declared.element.ElementRef.{ElementRef}
use Rattle.type_mirror.specs.declared.mirror.Mirror.{Mirror}
use Rattle.type_mirror.specs.declared.mirror.BaseMirror.TheVariants as base
use Rattle.type_mirror.specs.declared.mirror.DeclaredMirror.{DeclaredMirror, out-DeclaredMirror, roll-out-DeclaredMirror}
use Rattle.type_mirror.specs.declared.mirror.ExecutableMirror.{ExecutableMirror, out-ExecutableMirror, roll-out-ExecutableMirror}
use Rattle.type_mirror.specs.Parts.{plain}
use Rattle.type_layers.specs.Layers.{Declared, Executable, layer, declared_mirror, executable_mirror, mirror_of, parts_of}
use Rattle.type_layers.proofs.LayerLaws.{mirror_of-layer}
use Rattle.type_numbers.specs.declared.node.Node.{Node}
use Rattle.type_numbers.specs.declared.node.Node.TheVariants as node
use Rattle.type_numbers.specs.Nodes.{layer_of}
use Rattle.type_numbers.specs.Numbers.{at, IsKnown, AreKnown, Stands, AllStand, OptionStands, Grows, with_types, mirror_with}
use Rattle.type_numbers.proofs.LayerMaps.{all_joined, parts-split}
use Rattle.type_numbers.proofs.NumberLaws.{grown-known, grown-stands, grown-all_known, grown-all, grown-option, grows-on}

pub declared-is : (d : DeclaredMirror) → declared_mirror (out-DeclaredMirror d).element (out-DeclaredMirror d).enclosing (out-DeclaredMirror d).arguments ≡ plain (base.Declared d)
declared-is d = ap (λ (x : DeclaredMirror). plain (base.Declared x)) (roll-out-DeclaredMirror d)

pub executable-is : (x : ExecutableMirror)
    → executable_mirror (out-ExecutableMirror x).variables (out-ExecutableMirror x).parameters (out-ExecutableMirror x).result (out-ExecutableMirror x).thrown
    ≡ plain (base.Executable x)
executable-is x = ap (λ (y : ExecutableMirror). plain (base.Executable y)) (roll-out-ExecutableMirror x)

-- the type of a layer of numbers by what they stand for
pub declared-with : (t : List Mirror) (at' : ElementRef) (enclosing : Option ℕ) (outer : Option Mirror) (arguments : List ℕ) (ms : List Mirror)
    → option_map (at t) enclosing ≡ outer → map (at t) arguments ≡ ms → mirror_with t (Declared at' enclosing arguments) ≡ declared_mirror at' outer ms
unfolding mirror_of
declared-with t at' enclosing outer arguments ms around inner =
    ap (λ (x : Option Mirror). declared_mirror at' x (map (at t) arguments)) around ∙ ap (declared_mirror at' outer) inner

pub executable-with : (t : List Mirror) (variables : List ElementRef) (parameters : List ℕ) (ps : List Mirror) (outcome : ℕ) (o : Mirror) (thrown : List ℕ) (ts : List Mirror)
    → map (at t) parameters ≡ ps → at t outcome ≡ o → map (at t) thrown ≡ ts → mirror_with t (Executable variables parameters outcome thrown) ≡ executable_mirror variables ps o ts
unfolding mirror_of
executable-with t variables parameters ps outcome o thrown ts first second third =
    ap (λ (x : List Mirror). executable_mirror variables x (at t outcome) (map (at t) thrown)) first
    ∙ ap (λ (x : Mirror). executable_mirror variables ps x (map (at t) thrown)) second
    ∙ ap (executable_mirror variables ps o) third

-- ---- nodes of mirrors

pub node-is : (t : List Mirror) (number : ℕ) (n n' : Node) → with_types t (layer_of n) ≡ layer (at t number) → n ≡ n' → mirror_with t (layer_of n') ≡ at t number
node-is t number n n' exact is = ap (λ (x : Node). mirror_with t (layer_of x)) (sym is) ∙ ap mirror_of exact ∙ mirror_of-layer (at t number)

pub executable-split : (P : ℕ → Type 0) (n : Node) (variables : List ElementRef) (parameters : List ℕ) (outcome : ℕ) (thrown : List ℕ)
    → n ≡ node.Executable variables parameters outcome thrown → AllByRecursion P (parts_of (layer_of n)) → AllByRecursion P parameters × (P outcome × AllByRecursion P thrown)
executable-split P n variables parameters outcome thrown is all =
    parts-split P (Executable variables parameters outcome thrown) (subst (λ (x : Node). AllByRecursion P (parts_of (layer_of x))) is all)

-- ---- what was added part by part

pub declared-added : (t t' : List Mirror) (d : DeclaredMirror) (element : ElementRef) (enclosing : Option ℕ) (arguments : List ℕ) (ms : List Mirror)
    → element ≡ (out-DeclaredMirror d).element → OptionStands t enclosing (out-DeclaredMirror d).enclosing → Grows t t' → AllStand t' arguments ms
    → ms ≡ (out-DeclaredMirror d).arguments → mirror_with t' (Declared element enclosing arguments) ≡ plain (base.Declared d)
declared-added t t' d element enclosing arguments ms same outer g inner is =
    let o = out-DeclaredMirror d in
    declared-with t' element enclosing o.enclosing arguments o.arguments (grown-option t t' enclosing o.enclosing g outer).type (inner.types ∙ is)
    ∙ ap (λ (x : ElementRef). declared_mirror x o.enclosing o.arguments) same
    ∙ declared-is d

pub executable-added : (t t' t'' : List Mirror) (x : ExecutableMirror) (variables : List ElementRef) (parameters : List ℕ) (ps : List Mirror) (outcome : ℕ) (m : Mirror)
    (thrown : List ℕ) (ts : List Mirror) → variables ≡ (out-ExecutableMirror x).variables → AllStand t parameters ps → ps ≡ (out-ExecutableMirror x).parameters → Grows t t'
    → Stands t' outcome m → m ≡ (out-ExecutableMirror x).result → Grows t' t'' → AllStand t'' thrown ts → ts ≡ (out-ExecutableMirror x).thrown
    → mirror_with t'' (Executable variables parameters outcome thrown) ≡ plain (base.Executable x)
executable-added t t' t'' x variables parameters ps outcome m thrown ts same first first_is g second second_is g' third third_is =
    let o = out-ExecutableMirror x in
    executable-with t'' variables parameters o.parameters outcome o.result thrown o.thrown
    ((grown-all t t'' parameters ps (grows-on t t' t'' g g') first).types ∙ first_is) ((grown-stands t' t'' outcome m g' second).type ∙ second_is) (third.types ∙ third_is)
    ∙ ap (λ (vs : List ElementRef). executable_mirror vs o.parameters o.result o.thrown) same
    ∙ executable-is x

pub executable-known : (t t' t'' : List Mirror) (parameters : List ℕ) (ps : List Mirror) (outcome : ℕ) (m : Mirror) (thrown : List ℕ) (ts : List Mirror)
    → AllStand t parameters ps → Grows t t' → Stands t' outcome m → Grows t' t'' → AllStand t'' thrown ts → AreKnown t'' (parameters ++ outcome ∷ thrown)
executable-known t t' t'' parameters ps outcome m thrown ts first g second g' third =
    all_joined (IsKnown t'') parameters (outcome ∷ thrown) (grown-all_known t t'' parameters (grows-on t t' t'' g g') first.known)
    (grown-known t' t'' outcome g' second.known, third.known)
