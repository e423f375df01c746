-- The layer of a mirror around whose base nothing stands, and what is defined layer by layer of it, base by base. What stands around a base comes behind that.
use Rattle.std.proofs.Common.{◌≡◌, ℕ, List, [], sym, ap, ◌∙◌}
use Rattle.apt_base.specs.declared.element.ElementRef.{ElementRef}
use Rattle.type_mirror.specs.declared.mirror.PrimitiveKind.{PrimitiveKind}
use Rattle.type_mirror.specs.declared.mirror.Mirror.{Mirror, out-Mirror, roll-out-Mirror}
use Rattle.type_mirror.specs.declared.mirror.BaseMirror.TheVariants as base
use Rattle.type_mirror.specs.declared.mirror.BaseMirror.TheOpen.{BaseMirror-F}
use Rattle.type_mirror.specs.declared.mirror.DeclaredMirror.{DeclaredMirror}
use Rattle.type_mirror.specs.declared.mirror.ExecutableMirror.{ExecutableMirror}
use Rattle.type_mirror.specs.Parts.{plain}
use Rattle.type_layers.specs.Layers.{Layer, Primitive, Error, Variable, Unbounded, Nothing, Void, Null, Package, layer, declared_layer, executable_layer, map_layer, by_layers, around_step}
use Rattle.type_layers.proofs.LayerLaws.{layer-plain, rolled, by_layers-layer}

pub layer-Primitive : (kind : PrimitiveKind) → layer (plain (base.Primitive kind)) ≡ Primitive kind
layer-Primitive kind = layer-plain (BaseMirror-F.Primitive kind) (base.Primitive kind) (base.rolls-Primitive kind)

pub layer-Error : (text : List ℕ) → layer (plain (base.Error text)) ≡ Error text
layer-Error text = layer-plain (BaseMirror-F.Error text) (base.Error text) (base.rolls-Error text)

pub layer-Variable : (at : ElementRef) → layer (plain (base.Variable at)) ≡ Variable at
layer-Variable at = layer-plain (BaseMirror-F.Variable at) (base.Variable at) (base.rolls-Variable at)

pub layer-Wildcard : layer (plain base.Wildcard) ≡ Unbounded
layer-Wildcard = layer-plain BaseMirror-F.Wildcard base.Wildcard base.rolls-Wildcard

pub layer-Nothing : layer (plain base.Nothing) ≡ Nothing
layer-Nothing = layer-plain BaseMirror-F.Nothing base.Nothing base.rolls-Nothing

pub layer-Void : layer (plain base.Void) ≡ Void
layer-Void = layer-plain BaseMirror-F.Void base.Void base.rolls-Void

pub layer-Null : layer (plain base.Null) ≡ Null
layer-Null = layer-plain BaseMirror-F.Null base.Null base.rolls-Null

pub layer-Package : (name : List ℕ) → layer (plain (base.Package name)) ≡ Package name
layer-Package name = layer-plain (BaseMirror-F.Package name) (base.Package name) (base.rolls-Package name)

pub layer-Declared : (d : DeclaredMirror) → layer (plain (base.Declared d)) ≡ declared_layer d
layer-Declared d = layer-plain (BaseMirror-F.Declared d) (base.Declared d) (base.rolls-Declared d)

pub layer-Executable : (e : ExecutableMirror) → layer (plain (base.Executable e)) ≡ executable_layer e
layer-Executable e = layer-plain (BaseMirror-F.Executable e) (base.Executable e) (base.rolls-Executable e)

module _ {A : Type 0} (step : Layer A → A) where
  pub by_layers-around : (m : Mirror) → by_layers step m ≡ around_step step (out-Mirror m).around (by_layers step (plain (out-Mirror m).base))
  by_layers-around m =
      let o = out-Mirror m in
      ap (by_layers step) (sym (roll-out-Mirror m)) ∙ rolled step o.around o.base ∙ ap (around_step step o.around) (sym (rolled step [] o.base))

  at_layer : (m : Mirror) (l : Layer Mirror) → layer m ≡ l → by_layers step m ≡ step (map_layer (by_layers step) l)
  at_layer m l e = by_layers-layer step m ∙ ap (λ (k : Layer Mirror). step (map_layer (by_layers step) k)) e

  pub by_layers-Primitive : (kind : PrimitiveKind) → by_layers step (plain (base.Primitive kind)) ≡ step (Primitive kind)
  by_layers-Primitive kind = at_layer (plain (base.Primitive kind)) (Primitive kind) (layer-Primitive kind)

  pub by_layers-Error : (text : List ℕ) → by_layers step (plain (base.Error text)) ≡ step (Error text)
  by_layers-Error text = at_layer (plain (base.Error text)) (Error text) (layer-Error text)

  pub by_layers-Variable : (at : ElementRef) → by_layers step (plain (base.Variable at)) ≡ step (Variable at)
  by_layers-Variable at = at_layer (plain (base.Variable at)) (Variable at) (layer-Variable at)

  pub by_layers-Wildcard : by_layers step (plain base.Wildcard) ≡ step Unbounded
  by_layers-Wildcard = at_layer (plain base.Wildcard) Unbounded layer-Wildcard

  pub by_layers-Nothing : by_layers step (plain base.Nothing) ≡ step Nothing
  by_layers-Nothing = at_layer (plain base.Nothing) Nothing layer-Nothing

  pub by_layers-Void : by_layers step (plain base.Void) ≡ step Void
  by_layers-Void = at_layer (plain base.Void) Void layer-Void

  pub by_layers-Null : by_layers step (plain base.Null) ≡ step Null
  by_layers-Null = at_layer (plain base.Null) Null layer-Null

  pub by_layers-Package : (name : List ℕ) → by_layers step (plain (base.Package name)) ≡ step (Package name)
  by_layers-Package name = at_layer (plain (base.Package name)) (Package name) (layer-Package name)

  pub by_layers-Declared : (d : DeclaredMirror) → by_layers step (plain (base.Declared d)) ≡ step (map_layer (by_layers step) (declared_layer d))
  by_layers-Declared d = at_layer (plain (base.Declared d)) (declared_layer d) (layer-Declared d)

  pub by_layers-Executable : (e : ExecutableMirror) → by_layers step (plain (base.Executable e)) ≡ step (map_layer (by_layers step) (executable_layer e))
  by_layers-Executable e = at_layer (plain (base.Executable e)) (executable_layer e) (layer-Executable e)
