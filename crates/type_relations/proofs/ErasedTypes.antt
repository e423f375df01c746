-- The erasure of a type by its base and what stands around it.
use Rattle.std.proofs.Common.{◌≡◌, ℕ, List, [], ◌∷◌, Option, None, Some, refl, sym, ap, ◌∙◌}
use Rattle.std.specs.Option.{option_map}
use Rattle.apt_base.specs.declared.element.ElementRef.{ElementRef}
use Rattle.element_table.specs.TypeTable.{TypeTable}
use Rattle.type_mirror.specs.declared.mirror.PrimitiveKind.{PrimitiveKind}
use Rattle.apt_base.specs.declared.around.Around.{Around}
use Rattle.apt_base.specs.declared.around.Around.TheVariants as around
use Rattle.type_mirror.specs.declared.mirror.Mirror.{Mirror, out-Mirror}
use Rattle.type_mirror.specs.declared.mirror.BaseMirror.TheVariants as base
use Rattle.type_mirror.specs.declared.mirror.DeclaredMirror.{DeclaredMirror, out-DeclaredMirror}
use Rattle.type_mirror.specs.declared.mirror.ExecutableMirror.{ExecutableMirror, out-ExecutableMirror}
use Rattle.type_mirror.specs.Parts.{plain}
use Rattle.type_layers.specs.Layers.{around_step, array_of, mirror_of, declared_mirror}
use Rattle.type_layers.proofs.BaseLayers.{by_layers-around, by_layers-Primitive, by_layers-Declared, by_layers-Error, by_layers-Variable, by_layers-Wildcard, by_layers-Executable, by_layers-Nothing, by_layers-Void, by_layers-Null, by_layers-Package}
use Rattle.type_relations.specs.Named.{object}
use Rattle.type_relations.specs.Erasure.{erased_layer, erasing_step, erased_around, executable_of, erasure, erasures, base_erasure, variable_erasure}

-- ---- what stands around a base

around-any : (table : TypeTable) (variable : ElementRef → Option Mirror) (all : List Around) (inner : Option Mirror)
    → around_step (erased_layer table variable) all inner ≡ erased_around table all inner
around-any table variable [] inner = refl
around-any table variable (around.Array ∷ more) inner = ap (λ (o : Option Mirror). option_map array_of o) (around-any table variable more inner)
around-any table variable (around.Extends ∷ more) inner = around-any table variable more inner
around-any table variable (around.Super ∷ more) inner = refl

module _ (table : TypeTable) (n : ℕ) where
  pub erasure-by : (m : Mirror) (inner : Option Mirror) → inner ≡ base_erasure table n (out-Mirror m).base → erased_around table (out-Mirror m).around inner ≡ erasure table n m
  unfolding erasure
  erasure-by m inner e =
      ap (erased_around table (out-Mirror m).around) e
      ∙ sym (by_layers-around (erasing_step table n) m ∙ around-any table (variable_erasure table n) (out-Mirror m).around (base_erasure table n (out-Mirror m).base))

  -- ---- bases

  pub erased-Primitive : (kind : PrimitiveKind) → base_erasure table n (base.Primitive kind) ≡ Some (plain (base.Primitive kind))
  unfolding erasure mirror_of
  erased-Primitive kind = by_layers-Primitive (erasing_step table n) kind

  pub erased-Declared : (d : DeclaredMirror) → base_erasure table n (base.Declared d) ≡ Some (declared_mirror (out-DeclaredMirror d).element None [])
  unfolding erasure
  erased-Declared d = by_layers-Declared (erasing_step table n) d

  pub erased-Error : (text : List ℕ) → base_erasure table n (base.Error text) ≡ Some (plain (base.Error text))
  unfolding erasure mirror_of
  erased-Error text = by_layers-Error (erasing_step table n) text

  pub erased-Variable : (at : ElementRef) → base_erasure table n (base.Variable at) ≡ variable_erasure table n at
  unfolding erasure
  erased-Variable at = by_layers-Variable (erasing_step table n) at

  pub erased-Wildcard : base_erasure table n base.Wildcard ≡ Some (object table)
  unfolding erasure
  erased-Wildcard = by_layers-Wildcard (erasing_step table n)

  pub erased-Nothing : base_erasure table n base.Nothing ≡ Some (plain base.Nothing)
  unfolding erasure mirror_of
  erased-Nothing = by_layers-Nothing (erasing_step table n)

  pub erased-Void : base_erasure table n base.Void ≡ Some (plain base.Void)
  unfolding erasure mirror_of
  erased-Void = by_layers-Void (erasing_step table n)

  pub erased-Null : base_erasure table n base.Null ≡ Some (plain base.Null)
  unfolding erasure mirror_of
  erased-Null = by_layers-Null (erasing_step table n)

  pub erased-Package : (name : List ℕ) → base_erasure table n (base.Package name) ≡ Some (plain (base.Package name))
  unfolding erasure mirror_of
  erased-Package name = by_layers-Package (erasing_step table n) name

  pub executable-is : (e : ExecutableMirror)
      → executable_of (erasures table n (out-ExecutableMirror e).parameters) (erasure table n (out-ExecutableMirror e).result) (erasures table n (out-ExecutableMirror e).thrown)
      ≡ base_erasure table n (base.Executable e)
  unfolding erasure
  executable-is e = sym (by_layers-Executable (erasing_step table n) e)

pub ruleset erased = (
  erasure-by,
  erased-Primitive,
  erased-Declared,
  erased-Error,
  erased-Variable,
  erased-Wildcard,
  erased-Nothing,
  erased-Void,
  erased-Null,
  erased-Package,
  executable-is,
)
