-- A mirror and its layer say the same, and what is defined layer by layer goes by the layer. So proofs on mirrors go by layers.
use Rattle.std.proofs.Common.{◌≡◌, List, [], ◌∷◌, map, Option, Some, None, sym, ap, subst, ◌∙◌}
use Rattle.std.specs.List.{AllByRecursion}
use Rattle.std.specs.Option.{option_to_list}
use Rattle.apt_base.specs.declared.element.ElementRef.{ElementRef}
use Rattle.apt_base.specs.declared.around.Around.{Around}
use Rattle.apt_base.specs.declared.around.Around.TheVariants as around
use Rattle.type_mirror.specs.declared.mirror.Mirror.{Mirror, roll-Mirror, out-Mirror, out-roll-Mirror, roll-out-Mirror}
use Rattle.type_mirror.specs.declared.mirror.BaseMirror.{BaseMirror, roll-BaseMirror, out-BaseMirror, roll-out-BaseMirror, out-roll-BaseMirror}
use Rattle.type_mirror.specs.declared.mirror.BaseMirror.TheVariants as base
use Rattle.type_mirror.specs.declared.mirror.BaseMirror.TheOpen.{BaseMirror-F, Mirror-F, DeclaredMirror-F, ExecutableMirror-F}
use Rattle.type_mirror.specs.declared.mirror.BaseMirror.TheFolds.{map-BaseMirror, map-DeclaredMirror, map-ExecutableMirror, fold-BaseMirror, fold-DeclaredMirror, fold-ExecutableMirror, fold-roll-Mirror, fold-roll-BaseMirror, fold-roll-DeclaredMirror, fold-roll-ExecutableMirror, ind-Mirror}
use Rattle.type_mirror.specs.declared.mirror.DeclaredMirror.{DeclaredMirror, roll-DeclaredMirror, out-DeclaredMirror, roll-out-DeclaredMirror, out-roll-DeclaredMirror}
use Rattle.type_mirror.specs.declared.mirror.ExecutableMirror.{ExecutableMirror, roll-ExecutableMirror, out-ExecutableMirror, roll-out-ExecutableMirror, out-roll-ExecutableMirror}
use Rattle.type_mirror.specs.Parts.{plain, wrapped}
use Rattle.type_layers.specs.Layers.{Layer, Primitive, Declared, Error, Variable, Array, Unbounded, Extends, Super, Executable, Nothing, Void, Null, Package, layer, layer_in, base_layer, declared_layer, executable_layer, mirror_of, map_layer, by_layers, base_step, declared_step, executable_step, around_step, mirror_step}

abbrev pub BaseLayer : Type 0
BaseLayer = BaseMirror-F BaseMirror DeclaredMirror ExecutableMirror Mirror

abbrev pub DeclaredLayer : Type 0
DeclaredLayer = DeclaredMirror-F BaseMirror DeclaredMirror ExecutableMirror Mirror

abbrev pub ExecutableLayer : Type 0
ExecutableLayer = ExecutableMirror-F BaseMirror DeclaredMirror ExecutableMirror Mirror

abbrev pub MirrorLayer : Type 0
MirrorLayer = Mirror-F BaseMirror DeclaredMirror ExecutableMirror Mirror

-- ---- a mirror and its layer

abbrev pub rolled_mirror : List Around → BaseMirror → Mirror
rolled_mirror around b = roll-Mirror (record { around = around; base = b })

-- what is wrapped in one form more
pub wrapped-rolled : (outer : Around) (inner : List Around) (b : BaseMirror) → wrapped (outer ∷ []) (rolled_mirror inner b) ≡ rolled_mirror (outer ∷ inner) b
wrapped-rolled outer inner b = ap (λ (o : MirrorLayer). rolled_mirror (outer ∷ o.around) o.base) (out-roll-Mirror (record { around = inner; base = b }))

base_back : (x : BaseLayer) → mirror_of (base_layer x) ≡ plain (roll-BaseMirror x)
unfolding mirror_of
base_back (BaseMirror-F.Primitive kind) = ap plain (sym (base.rolls-Primitive kind))
base_back (BaseMirror-F.Declared d) = ap (λ (x : DeclaredMirror). plain (base.Declared x)) (roll-out-DeclaredMirror d) ∙ ap plain (sym (base.rolls-Declared d))
base_back (BaseMirror-F.Error text) = ap plain (sym (base.rolls-Error text))
base_back (BaseMirror-F.Variable at) = ap plain (sym (base.rolls-Variable at))
base_back BaseMirror-F.Wildcard = ap plain (sym base.rolls-Wildcard)
base_back (BaseMirror-F.Executable e) = ap (λ (x : ExecutableMirror). plain (base.Executable x)) (roll-out-ExecutableMirror e) ∙ ap plain (sym (base.rolls-Executable e))
base_back BaseMirror-F.Nothing = ap plain (sym base.rolls-Nothing)
base_back BaseMirror-F.Void = ap plain (sym base.rolls-Void)
base_back BaseMirror-F.Null = ap plain (sym base.rolls-Null)
base_back (BaseMirror-F.Package name) = ap plain (sym (base.rolls-Package name))

back_in : (around : List Around) (b : BaseMirror) → mirror_of (layer_in around b) ≡ rolled_mirror around b
unfolding mirror_of
back_in [] b = base_back (out-BaseMirror b) ∙ ap plain (roll-out-BaseMirror b)
back_in (around.Array ∷ inner) b = wrapped-rolled around.Array inner b
back_in (around.Extends ∷ inner) b = wrapped-rolled around.Extends inner b
back_in (around.Super ∷ inner) b = wrapped-rolled around.Super inner b

pub mirror_of-layer : (m : Mirror) → mirror_of (layer m) ≡ m
unfolding layer
mirror_of-layer m = back_in (out-Mirror m).around (out-Mirror m).base ∙ roll-out-Mirror m

-- the layer of a mirror that is opened
pub layer-rolled : (around : List Around) (b : BaseMirror) → layer (rolled_mirror around b) ≡ layer_in around b
unfolding layer
layer-rolled around b = ap (λ (o : MirrorLayer). layer_in o.around o.base) (out-roll-Mirror (record { around = around; base = b }))

pub layer-plain : (x : BaseLayer) (b : BaseMirror) → roll-BaseMirror x ≡ b → layer (plain b) ≡ base_layer x
layer-plain x b e = layer-rolled [] b ∙ ap (λ (c : BaseMirror). base_layer (out-BaseMirror c)) (sym e) ∙ ap base_layer (out-roll-BaseMirror x)

layer-wrapped : (outer : Around) (inner : Mirror) → layer (wrapped (outer ∷ []) inner) ≡ layer_in (outer ∷ (out-Mirror inner).around) (out-Mirror inner).base
layer-wrapped outer inner = layer-rolled (outer ∷ (out-Mirror inner).around) (out-Mirror inner).base

pub layer-mirror_of : (l : Layer Mirror) → layer (mirror_of l) ≡ l
unfolding mirror_of
layer-mirror_of (Primitive kind) = layer-plain (BaseMirror-F.Primitive kind) _ (base.rolls-Primitive kind)
layer-mirror_of (Declared at enclosing arguments) =
    let x : DeclaredLayer = record { element = at; enclosing = enclosing; arguments = arguments } in
    layer-plain (BaseMirror-F.Declared (roll-DeclaredMirror x)) _ (base.rolls-Declared (roll-DeclaredMirror x))
    ∙ ap (λ (o : DeclaredLayer). Declared o.element o.enclosing o.arguments) (out-roll-DeclaredMirror x)
layer-mirror_of (Error text) = layer-plain (BaseMirror-F.Error text) _ (base.rolls-Error text)
layer-mirror_of (Variable at) = layer-plain (BaseMirror-F.Variable at) _ (base.rolls-Variable at)
layer-mirror_of (Array item) = layer-wrapped around.Array item ∙ ap (λ (m : Mirror). Array m) (roll-out-Mirror item)
layer-mirror_of Unbounded = layer-plain BaseMirror-F.Wildcard _ base.rolls-Wildcard
layer-mirror_of (Extends bound) = layer-wrapped around.Extends bound ∙ ap (λ (m : Mirror). Extends m) (roll-out-Mirror bound)
layer-mirror_of (Super bound) = layer-wrapped around.Super bound ∙ ap (λ (m : Mirror). Super m) (roll-out-Mirror bound)
layer-mirror_of (Executable variables parameters outcome thrown) =
    let x : ExecutableLayer = record { variables = variables; parameters = parameters; result = outcome; thrown = thrown } in
    layer-plain (BaseMirror-F.Executable (roll-ExecutableMirror x)) _ (base.rolls-Executable (roll-ExecutableMirror x))
    ∙ ap (λ (o : ExecutableLayer). Executable o.variables o.parameters o.result o.thrown) (out-roll-ExecutableMirror x)
layer-mirror_of Nothing = layer-plain BaseMirror-F.Nothing _ base.rolls-Nothing
layer-mirror_of Void = layer-plain BaseMirror-F.Void _ base.rolls-Void
layer-mirror_of Null = layer-plain BaseMirror-F.Null _ base.rolls-Null
layer-mirror_of (Package name) = layer-plain (BaseMirror-F.Package name) _ (base.rolls-Package name)

-- ---- what is defined layer by layer

module _ {A : Type 0} (step : Layer A → A) where
  abbrev base_value : BaseMirror → Layer A
  base_value = fold-BaseMirror (Layer A) (Layer A) (Layer A) A base_step declared_step executable_step (mirror_step step)

  abbrev declared_value : DeclaredMirror → Layer A
  declared_value = fold-DeclaredMirror (Layer A) (Layer A) (Layer A) A base_step declared_step executable_step (mirror_step step)

  abbrev executable_value : ExecutableMirror → Layer A
  executable_value = fold-ExecutableMirror (Layer A) (Layer A) (Layer A) A base_step declared_step executable_step (mirror_step step)

  -- at a mirror that is opened
  pub rolled : (around : List Around) (b : BaseMirror) → by_layers step (rolled_mirror around b) ≡ around_step step around (step (base_value b))
  unfolding by_layers
  rolled around b = fold-roll-Mirror (Layer A) (Layer A) (Layer A) A base_step declared_step executable_step (mirror_step step) (record { around = around; base = b })

  declared_rolled : (at : ElementRef) (enclosing : Option Mirror) (arguments : List Mirror)
      → declared_value (roll-DeclaredMirror (record { element = at; enclosing = enclosing; arguments = arguments })) ≡ map_layer (by_layers step) (Declared at enclosing arguments)
  unfolding by_layers
  declared_rolled at None arguments =
      fold-roll-DeclaredMirror (Layer A) (Layer A) (Layer A) A base_step declared_step executable_step (mirror_step step) (record { element = at; enclosing = None; arguments = arguments })
  declared_rolled at (Some m) arguments =
      fold-roll-DeclaredMirror (Layer A) (Layer A) (Layer A) A base_step declared_step executable_step (mirror_step step) (record { element = at; enclosing = Some m; arguments = arguments })

  declared_based : (d : DeclaredMirror) → declared_value d ≡ map_layer (by_layers step) (declared_layer d)
  declared_based d =
      let o = out-DeclaredMirror d in
      ap declared_value (sym (roll-out-DeclaredMirror d)) ∙ declared_rolled o.element o.enclosing o.arguments

  executable_based : (e : ExecutableMirror) → executable_value e ≡ map_layer (by_layers step) (executable_layer e)
  unfolding by_layers
  executable_based e =
      ap executable_value (sym (roll-out-ExecutableMirror e))
      ∙ fold-roll-ExecutableMirror (Layer A) (Layer A) (Layer A) A base_step declared_step executable_step (mirror_step step) (out-ExecutableMirror e)

  base_rolled : (x : BaseLayer) → base_value (roll-BaseMirror x)
      ≡ base_step (map-BaseMirror BaseMirror DeclaredMirror ExecutableMirror Mirror (Layer A) (Layer A) (Layer A) A base_value declared_value executable_value (by_layers step) x)
  unfolding by_layers
  base_rolled = fold-roll-BaseMirror (Layer A) (Layer A) (Layer A) A base_step declared_step executable_step (mirror_step step)

  -- the value of a base is its layer with the values of what it holds
  opened_base : (x : BaseLayer) → base_value (roll-BaseMirror x) ≡ map_layer (by_layers step) (base_layer x)
  opened_base (BaseMirror-F.Primitive kind) = base_rolled (BaseMirror-F.Primitive kind)
  opened_base (BaseMirror-F.Declared d) = base_rolled (BaseMirror-F.Declared d) ∙ declared_based d
  opened_base (BaseMirror-F.Error text) = base_rolled (BaseMirror-F.Error text)
  opened_base (BaseMirror-F.Variable at) = base_rolled (BaseMirror-F.Variable at)
  opened_base BaseMirror-F.Wildcard = base_rolled BaseMirror-F.Wildcard
  opened_base (BaseMirror-F.Executable e) = base_rolled (BaseMirror-F.Executable e) ∙ executable_based e
  opened_base BaseMirror-F.Nothing = base_rolled BaseMirror-F.Nothing
  opened_base BaseMirror-F.Void = base_rolled BaseMirror-F.Void
  opened_base BaseMirror-F.Null = base_rolled BaseMirror-F.Null
  opened_base (BaseMirror-F.Package name) = base_rolled (BaseMirror-F.Package name)

  opened : (around : List Around) (b : BaseMirror) → around_step step around (step (base_value b)) ≡ step (map_layer (by_layers step) (layer_in around b))
  opened [] b = ap (λ (c : BaseMirror). step (base_value c)) (sym (roll-out-BaseMirror b)) ∙ ap step (opened_base (out-BaseMirror b))
  opened (around.Array ∷ inner) b = ap (λ (x : A). step (Array x)) (sym (rolled inner b))
  opened (around.Extends ∷ inner) b = ap (λ (x : A). step (Extends x)) (sym (rolled inner b))
  opened (around.Super ∷ inner) b = ap (λ (x : A). step (Super x)) (sym (rolled inner b))

  pub by_layers-layer : (m : Mirror) → by_layers step m ≡ step (map_layer (by_layers step) (layer m))
  unfolding layer
  by_layers-layer m =
      let o = out-Mirror m in
      ap (by_layers step) (sym (roll-out-Mirror m)) ∙ rolled o.around o.base ∙ opened o.around o.base

-- ---- what holds of each mirror whose parts it holds of holds of all

-- a fact of all that a layer holds
abbrev pub AllParts : {M : Type 0} → (M → Type 0) → Layer M → Type 0
AllParts P (Declared at enclosing arguments) = AllByRecursion P (option_to_list enclosing) × AllByRecursion P arguments
AllParts P (Array item) = P item
AllParts P (Extends bound) = P bound
AllParts P (Super bound) = P bound
AllParts P (Executable variables parameters outcome thrown) = AllByRecursion P parameters × (P outcome × AllByRecursion P thrown)
AllParts P _ = Unit {0}

module _ (P : Mirror → Type 0) (step : (l : Layer Mirror) → AllParts P l → P (mirror_of l)) where
  abbrev BaseHas : BaseMirror → Type 0
  BaseHas b = P (plain b)

  abbrev DeclaredHas : DeclaredMirror → Type 0
  DeclaredHas d = AllParts P (declared_layer d)

  abbrev ExecutableHas : ExecutableMirror → Type 0
  ExecutableHas e = AllParts P (executable_layer e)

  abbrev KeptBase : Type 0
  KeptBase = (b : BaseMirror) × BaseHas b

  abbrev KeptDeclared : Type 0
  KeptDeclared = (d : DeclaredMirror) × DeclaredHas d

  abbrev KeptExecutable : Type 0
  KeptExecutable = (e : ExecutableMirror) × ExecutableHas e

  abbrev Kept : Type 0
  Kept = (m : Mirror) × P m

  abbrev kept_base : BaseMirror-F KeptBase KeptDeclared KeptExecutable Kept → BaseLayer
  kept_base = map-BaseMirror KeptBase KeptDeclared KeptExecutable Kept BaseMirror DeclaredMirror ExecutableMirror Mirror (λ e. e.0) (λ e. e.0) (λ e. e.0) (λ e. e.0)

  abbrev kept_declared : DeclaredMirror-F KeptBase KeptDeclared KeptExecutable Kept → DeclaredLayer
  kept_declared = map-DeclaredMirror KeptBase KeptDeclared KeptExecutable Kept BaseMirror DeclaredMirror ExecutableMirror Mirror (λ e. e.0) (λ e. e.0) (λ e. e.0) (λ e. e.0)

  abbrev kept_executable : ExecutableMirror-F KeptBase KeptDeclared KeptExecutable Kept → ExecutableLayer
  kept_executable = map-ExecutableMirror KeptBase KeptDeclared KeptExecutable Kept BaseMirror DeclaredMirror ExecutableMirror Mirror (λ e. e.0) (λ e. e.0) (λ e. e.0) (λ e. e.0)

  each_has : (all : List Kept) → AllByRecursion P (map (λ kept. kept.0) all)
  each_has [] = tt
  each_has (one ∷ others) = (one.1, each_has others)

  -- at a layer
  at_base : (x : BaseLayer) → AllParts P (base_layer x) → P (plain (roll-BaseMirror x))
  at_base x parts = subst P (base_back x) (step (base_layer x) parts)

  base_has : (y : BaseMirror-F KeptBase KeptDeclared KeptExecutable Kept) → BaseHas (roll-BaseMirror (kept_base y))
  base_has (BaseMirror-F.Primitive kind) = at_base (BaseMirror-F.Primitive kind) tt
  base_has (BaseMirror-F.Declared d) = at_base (BaseMirror-F.Declared d.0) d.1
  base_has (BaseMirror-F.Error text) = at_base (BaseMirror-F.Error text) tt
  base_has (BaseMirror-F.Variable at) = at_base (BaseMirror-F.Variable at) tt
  base_has BaseMirror-F.Wildcard = at_base BaseMirror-F.Wildcard tt
  base_has (BaseMirror-F.Executable e) = at_base (BaseMirror-F.Executable e.0) e.1
  base_has BaseMirror-F.Nothing = at_base BaseMirror-F.Nothing tt
  base_has BaseMirror-F.Void = at_base BaseMirror-F.Void tt
  base_has BaseMirror-F.Null = at_base BaseMirror-F.Null tt
  base_has (BaseMirror-F.Package name) = at_base (BaseMirror-F.Package name) tt

  mirror_has : (around : List Around) (b : BaseMirror) → BaseHas b → P (rolled_mirror around b)
  mirror_has [] b has = has
  mirror_has (around.Array ∷ inner) b has = subst P (back_in (around.Array ∷ inner) b) (step (Array (rolled_mirror inner b)) (mirror_has inner b has))
  mirror_has (around.Extends ∷ inner) b has = subst P (back_in (around.Extends ∷ inner) b) (step (Extends (rolled_mirror inner b)) (mirror_has inner b has))
  mirror_has (around.Super ∷ inner) b has = subst P (back_in (around.Super ∷ inner) b) (step (Super (rolled_mirror inner b)) (mirror_has inner b has))

  declared_has_with : (element : ElementRef) (enclosing : Option Kept) (arguments : List Kept)
      → DeclaredHas (roll-DeclaredMirror (kept_declared (record { element = element; enclosing = enclosing; arguments = arguments })))
  declared_has_with element None arguments =
      subst (λ (o : DeclaredLayer). AllParts P (Declared o.element o.enclosing o.arguments))
      (sym (out-roll-DeclaredMirror (kept_declared (record { element = element; enclosing = None; arguments = arguments })))) (tt, each_has arguments)
  declared_has_with element (Some m) arguments =
      subst (λ (o : DeclaredLayer). AllParts P (Declared o.element o.enclosing o.arguments))
      (sym (out-roll-DeclaredMirror (kept_declared (record { element = element; enclosing = Some m; arguments = arguments })))) ((m.1, tt), each_has arguments)

  declared_has : (y : DeclaredMirror-F KeptBase KeptDeclared KeptExecutable Kept) → DeclaredHas (roll-DeclaredMirror (kept_declared y))
  declared_has y = declared_has_with y.element y.enclosing y.arguments

  executable_has : (y : ExecutableMirror-F KeptBase KeptDeclared KeptExecutable Kept) → ExecutableHas (roll-ExecutableMirror (kept_executable y))
  executable_has y =
      subst (λ (o : ExecutableLayer). AllParts P (Executable o.variables o.parameters o.result o.thrown)) (sym (out-roll-ExecutableMirror (kept_executable y)))
      (each_has y.parameters, (y.result.1, each_has y.thrown))

  pub ind-layers : (m : Mirror) → P m
  ind-layers = ind-Mirror BaseHas DeclaredHas ExecutableHas P
      (λ x y same. subst (λ (x : BaseLayer). BaseHas (roll-BaseMirror x)) same (base_has y))
      (λ x y same. subst (λ (x : DeclaredLayer). DeclaredHas (roll-DeclaredMirror x)) same (declared_has y))
      (λ x y same. subst (λ (x : ExecutableLayer). ExecutableHas (roll-ExecutableMirror x)) same (executable_has y))
      (λ x y same. subst (λ (x : MirrorLayer). P (roll-Mirror x)) same (mirror_has y.around y.base.0 y.base.1))
