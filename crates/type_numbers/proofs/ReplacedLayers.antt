-- Variables are replaced layer by layer.
use Rattle.std.proofs.Common.{◌≡◌, List, [], ◌∷◌, ◌++◌, map, Option, Some, None, sym, ap, ◌∙◌}
use Rattle.std.specs.Option.{option_map}
use Rattle.apt_base.specs.declared.element.ElementRef.{ElementRef}
use Rattle.apt_base.specs.declared.around.Around.{Around}
use Rattle.apt_base.specs.declared.around.Around.TheVariants as around
use Rattle.type_mirror.specs.declared.mirror.Mirror.{Mirror, out-Mirror, out-roll-Mirror, roll-out-Mirror}
use Rattle.type_mirror.specs.declared.mirror.BaseMirror.{BaseMirror}
use Rattle.type_mirror.specs.declared.mirror.BaseMirror.TheVariants as base
use Rattle.type_mirror.specs.declared.mirror.DeclaredMirror.{DeclaredMirror, roll-DeclaredMirror}
use Rattle.type_mirror.specs.declared.mirror.ExecutableMirror.{ExecutableMirror, roll-ExecutableMirror}
use Rattle.type_mirror.specs.Parts.{plain, wrapped}
use Rattle.type_mirror.specs.Substitution.{Replacements, substituted, substituted_base}
use Rattle.type_mirror.proofs.Replaced.{substituted-is, substituted_base-Primitive, substituted_base-Declared, substituted_base-Error, substituted_base-Variable, substituted_base-Wildcard, substituted_base-Executable, substituted_base-Nothing, substituted_base-Void, substituted_base-Null, substituted_base-Package, substituted_declared-roll, substituted_executable-roll}
use Rattle.type_layers.specs.Layers.{Layer, Primitive, Declared, Error, Variable, Array, Unbounded, Extends, Super, Executable, Nothing, Void, Null, Package, layer, mirror_of, map_layer, declared_mirror, executable_mirror}
use Rattle.type_layers.proofs.LayerLaws.{MirrorLayer, rolled_mirror, mirror_of-layer}
use Rattle.type_numbers.specs.Replaced.{replaced_layer}

wrapped_none : (m : Mirror) → wrapped [] m ≡ m
wrapped_none m = roll-out-Mirror m

-- one form more around what is wrapped
pub wrapped-more : (outer : Around) (inner : List Around) (m : Mirror) → wrapped (outer ∷ []) (wrapped inner m) ≡ wrapped (outer ∷ inner) m
wrapped-more outer inner m =
    let o : MirrorLayer = record { around = inner ++ (out-Mirror m).around; base = (out-Mirror m).base } in
    ap (λ (l : MirrorLayer). rolled_mirror (outer ∷ l.around) l.base) (out-roll-Mirror o)

module _ (by : Replacements) where
  plain_replaced : (b : BaseMirror) → substituted by (plain b) ≡ substituted_base by b
  plain_replaced b =
      let o : MirrorLayer = record { around = []; base = b } in
      substituted-is by (plain b)
      ∙ ap (λ (l : MirrorLayer). wrapped l.around (substituted_base by l.base)) (out-roll-Mirror o)
      ∙ wrapped_none (substituted_base by b)

  wrapped_replaced : (outer : Around) (m : Mirror) → substituted by (wrapped (outer ∷ []) m) ≡ wrapped (outer ∷ []) (substituted by m)
  wrapped_replaced outer m =
      let o : MirrorLayer = record { around = outer ∷ (out-Mirror m).around; base = (out-Mirror m).base } in
      substituted-is by (wrapped (outer ∷ []) m)
      ∙ ap (λ (l : MirrorLayer). wrapped l.around (substituted_base by l.base)) (out-roll-Mirror o)
      ∙ sym (wrapped-more outer (out-Mirror m).around (substituted_base by (out-Mirror m).base))
      ∙ ap (wrapped (outer ∷ [])) (sym (substituted-is by m))

  declared_replaced : (at : ElementRef) (enclosing : Option Mirror) (arguments : List Mirror)
      → substituted by (declared_mirror at enclosing arguments) ≡ declared_mirror at (option_map (substituted by) enclosing) (map (substituted by) arguments)
  declared_replaced at None arguments =
      let d : DeclaredMirror = roll-DeclaredMirror (record { element = at; enclosing = None; arguments = arguments }) in
      plain_replaced (base.Declared d)
      ∙ substituted_base-Declared by d
      ∙ ap (λ (x : DeclaredMirror). plain (base.Declared x)) (substituted_declared-roll by (record { element = at; enclosing = None; arguments = arguments }))
  declared_replaced at (Some m) arguments =
      let d : DeclaredMirror = roll-DeclaredMirror (record { element = at; enclosing = Some m; arguments = arguments }) in
      plain_replaced (base.Declared d)
      ∙ substituted_base-Declared by d
      ∙ ap (λ (x : DeclaredMirror). plain (base.Declared x)) (substituted_declared-roll by (record { element = at; enclosing = Some m; arguments = arguments }))

  executable_replaced : (variables : List ElementRef) (parameters : List Mirror) (outcome : Mirror) (thrown : List Mirror)
      → substituted by (executable_mirror variables parameters outcome thrown)
      ≡ executable_mirror variables (map (substituted by) parameters) (substituted by outcome) (map (substituted by) thrown)
  executable_replaced variables parameters outcome thrown =
      let x : ExecutableMirror = roll-ExecutableMirror (record { variables = variables; parameters = parameters; result = outcome; thrown = thrown }) in
      plain_replaced (base.Executable x)
      ∙ substituted_base-Executable by x
      ∙ ap (λ (y : ExecutableMirror). plain (base.Executable y))
      (substituted_executable-roll by (record { variables = variables; parameters = parameters; result = outcome; thrown = thrown }))

  pub substituted-mirror_of : (l : Layer Mirror) → substituted by (mirror_of l) ≡ replaced_layer by (map_layer (substituted by) l)
  unfolding mirror_of
  substituted-mirror_of (Primitive kind) = plain_replaced (base.Primitive kind) ∙ substituted_base-Primitive by kind
  substituted-mirror_of (Declared at enclosing arguments) = declared_replaced at enclosing arguments
  substituted-mirror_of (Error text) = plain_replaced (base.Error text) ∙ substituted_base-Error by text
  substituted-mirror_of (Variable at) = plain_replaced (base.Variable at) ∙ substituted_base-Variable by at
  substituted-mirror_of (Array item) = wrapped_replaced around.Array item
  substituted-mirror_of Unbounded = plain_replaced base.Wildcard ∙ substituted_base-Wildcard by
  substituted-mirror_of (Extends bound) = wrapped_replaced around.Extends bound
  substituted-mirror_of (Super bound) = wrapped_replaced around.Super bound
  substituted-mirror_of (Executable variables parameters outcome thrown) = executable_replaced variables parameters outcome thrown
  substituted-mirror_of Nothing = plain_replaced base.Nothing ∙ substituted_base-Nothing by
  substituted-mirror_of Void = plain_replaced base.Void ∙ substituted_base-Void by
  substituted-mirror_of Null = plain_replaced base.Null ∙ substituted_base-Null by
  substituted-mirror_of (Package name) = plain_replaced (base.Package name) ∙ substituted_base-Package by name

  pub substituted-layer : (m : Mirror) → substituted by m ≡ replaced_layer by (map_layer (substituted by) (layer m))
  substituted-layer m = ap (substituted by) (sym (mirror_of-layer m)) ∙ substituted-mirror_of (layer m)
