-- Substitution, by equations.
use Rattle.std.proofs.Common.{◌≡◌, ℕ, List, map, Option, Some, None, sym, ap, ◌∙◌}
use Rattle.apt_base.specs.declared.element.ElementRef.{ElementRef}
use Rattle.type_mirror.specs.declared.mirror.PrimitiveKind.{PrimitiveKind}
use Rattle.type_mirror.specs.declared.mirror.BaseMirror.{BaseMirror, roll-BaseMirror}
use Rattle.type_mirror.specs.declared.mirror.BaseMirror.TheVariants as base
use Rattle.type_mirror.specs.declared.mirror.BaseMirror.TheOpen.{BaseMirror-F, DeclaredMirror-F, ExecutableMirror-F}
use Rattle.type_mirror.specs.declared.mirror.BaseMirror.TheFolds.{map-BaseMirror, map-DeclaredMirror, map-ExecutableMirror, fold-roll-BaseMirror, fold-roll-Mirror, fold-roll-DeclaredMirror, fold-roll-ExecutableMirror}
use Rattle.type_mirror.specs.declared.mirror.Mirror.{Mirror, out-Mirror, roll-out-Mirror}
use Rattle.type_mirror.specs.declared.mirror.DeclaredMirror.{DeclaredMirror, roll-DeclaredMirror, out-DeclaredMirror, roll-out-DeclaredMirror}
use Rattle.type_mirror.specs.declared.mirror.ExecutableMirror.{ExecutableMirror, roll-ExecutableMirror, out-ExecutableMirror, roll-out-ExecutableMirror}
use Rattle.type_mirror.specs.Parts.{plain, wrapped}
use Rattle.type_mirror.specs.Substitution.{Replacements, in_place, replaced_base, replaced_mirror, replaced_declared, replaced_executable, substituted, substituted_base, substituted_declared, substituted_executable}

module _ (by : Replacements) where
  pub substituted_base-roll : (x : BaseMirror-F BaseMirror DeclaredMirror ExecutableMirror Mirror) → substituted_base by (roll-BaseMirror x)
      ≡ replaced_base by (map-BaseMirror BaseMirror DeclaredMirror ExecutableMirror Mirror Mirror DeclaredMirror ExecutableMirror Mirror
      (substituted_base by) (substituted_declared by) (substituted_executable by) (substituted by) x)
  unfolding substituted substituted_base substituted_declared substituted_executable
  substituted_base-roll = fold-roll-BaseMirror Mirror DeclaredMirror ExecutableMirror Mirror (replaced_base by) replaced_declared replaced_executable replaced_mirror

  pub substituted_declared-roll : (x : DeclaredMirror-F BaseMirror DeclaredMirror ExecutableMirror Mirror) → substituted_declared by (roll-DeclaredMirror x)
      ≡ replaced_declared (map-DeclaredMirror BaseMirror DeclaredMirror ExecutableMirror Mirror Mirror DeclaredMirror ExecutableMirror Mirror
      (substituted_base by) (substituted_declared by) (substituted_executable by) (substituted by) x)
  unfolding substituted substituted_base substituted_declared substituted_executable
  substituted_declared-roll = fold-roll-DeclaredMirror Mirror DeclaredMirror ExecutableMirror Mirror (replaced_base by) replaced_declared replaced_executable replaced_mirror

  pub substituted_executable-roll : (x : ExecutableMirror-F BaseMirror DeclaredMirror ExecutableMirror Mirror) → substituted_executable by (roll-ExecutableMirror x)
      ≡ replaced_executable (map-ExecutableMirror BaseMirror DeclaredMirror ExecutableMirror Mirror Mirror DeclaredMirror ExecutableMirror Mirror
      (substituted_base by) (substituted_declared by) (substituted_executable by) (substituted by) x)
  unfolding substituted substituted_base substituted_declared substituted_executable
  substituted_executable-roll = fold-roll-ExecutableMirror Mirror DeclaredMirror ExecutableMirror Mirror (replaced_base by) replaced_declared replaced_executable replaced_mirror

  -- ---- mirrors

  pub substituted-is : (m : Mirror) → substituted by m ≡ wrapped (out-Mirror m).around (substituted_base by (out-Mirror m).base)
  unfolding substituted substituted_base
  substituted-is m =
      ap (substituted by) (sym (roll-out-Mirror m)) ∙ fold-roll-Mirror Mirror DeclaredMirror ExecutableMirror Mirror (replaced_base by) replaced_declared replaced_executable replaced_mirror (out-Mirror m)

  pub substituted_base-Primitive : (kind : PrimitiveKind) → substituted_base by (base.Primitive kind) ≡ plain (base.Primitive kind)
  substituted_base-Primitive kind = ap (substituted_base by) (sym (base.rolls-Primitive kind)) ∙ substituted_base-roll (BaseMirror-F.Primitive kind)

  pub substituted_base-Declared : (declared : DeclaredMirror) → substituted_base by (base.Declared declared) ≡ plain (base.Declared (substituted_declared by declared))
  substituted_base-Declared declared = ap (substituted_base by) (sym (base.rolls-Declared declared)) ∙ substituted_base-roll (BaseMirror-F.Declared declared)

  pub substituted_base-Error : (text : List ℕ) → substituted_base by (base.Error text) ≡ plain (base.Error text)
  substituted_base-Error text = ap (substituted_base by) (sym (base.rolls-Error text)) ∙ substituted_base-roll (BaseMirror-F.Error text)

  pub substituted_base-Variable : (element : ElementRef) → substituted_base by (base.Variable element) ≡ in_place by element
  substituted_base-Variable element = ap (substituted_base by) (sym (base.rolls-Variable element)) ∙ substituted_base-roll (BaseMirror-F.Variable element)

  pub substituted_base-Wildcard : substituted_base by base.Wildcard ≡ plain base.Wildcard
  substituted_base-Wildcard = ap (substituted_base by) (sym base.rolls-Wildcard) ∙ substituted_base-roll BaseMirror-F.Wildcard

  pub substituted_base-Executable : (executable : ExecutableMirror) → substituted_base by (base.Executable executable) ≡ plain (base.Executable (substituted_executable by executable))
  substituted_base-Executable executable = ap (substituted_base by) (sym (base.rolls-Executable executable)) ∙ substituted_base-roll (BaseMirror-F.Executable executable)

  pub substituted_base-Nothing : substituted_base by base.Nothing ≡ plain base.Nothing
  substituted_base-Nothing = ap (substituted_base by) (sym base.rolls-Nothing) ∙ substituted_base-roll BaseMirror-F.Nothing

  pub substituted_base-Void : substituted_base by base.Void ≡ plain base.Void
  substituted_base-Void = ap (substituted_base by) (sym base.rolls-Void) ∙ substituted_base-roll BaseMirror-F.Void

  pub substituted_base-Null : substituted_base by base.Null ≡ plain base.Null
  substituted_base-Null = ap (substituted_base by) (sym base.rolls-Null) ∙ substituted_base-roll BaseMirror-F.Null

  pub substituted_base-Package : (name : List ℕ) → substituted_base by (base.Package name) ≡ plain (base.Package name)
  substituted_base-Package name = ap (substituted_base by) (sym (base.rolls-Package name)) ∙ substituted_base-roll (BaseMirror-F.Package name)

  -- ---- types with arguments, and executables

  declared-None : (element : ElementRef) (enclosing : Option Mirror) (arguments : List Mirror) → enclosing ≡ None
      → substituted_declared by (roll-DeclaredMirror (record { element = element; enclosing = enclosing; arguments = arguments }))
      ≡ roll-DeclaredMirror (record { element = element; enclosing = None; arguments = map (substituted by) arguments })
  declared-None element enclosing arguments e =
      ap (λ (o : Option Mirror). substituted_declared by (roll-DeclaredMirror (record { element = element; enclosing = o; arguments = arguments }))) e
      ∙ substituted_declared-roll (record { element = element; enclosing = None; arguments = arguments })

  declared-Some : (element : ElementRef) (enclosing : Option Mirror) (arguments : List Mirror) (m : Mirror) → enclosing ≡ Some m
      → substituted_declared by (roll-DeclaredMirror (record { element = element; enclosing = enclosing; arguments = arguments }))
      ≡ roll-DeclaredMirror (record { element = element; enclosing = Some (substituted by m); arguments = map (substituted by) arguments })
  declared-Some element enclosing arguments m e =
      ap (λ (o : Option Mirror). substituted_declared by (roll-DeclaredMirror (record { element = element; enclosing = o; arguments = arguments }))) e
      ∙ substituted_declared-roll (record { element = element; enclosing = Some m; arguments = arguments })

  pub substituted_declared-None : (d : DeclaredMirror) → (out-DeclaredMirror d).enclosing ≡ None
      → substituted_declared by d
      ≡ roll-DeclaredMirror (record { element = (out-DeclaredMirror d).element; enclosing = None; arguments = map (substituted by) (out-DeclaredMirror d).arguments })
  substituted_declared-None d e =
      let o = out-DeclaredMirror d in
      ap (substituted_declared by) (sym (roll-out-DeclaredMirror d)) ∙ declared-None o.element o.enclosing o.arguments e

  pub substituted_declared-Some : (d : DeclaredMirror) (m : Mirror) → (out-DeclaredMirror d).enclosing ≡ Some m
      → substituted_declared by d
      ≡ roll-DeclaredMirror (record { element = (out-DeclaredMirror d).element; enclosing = Some (substituted by m); arguments = map (substituted by) (out-DeclaredMirror d).arguments })
  substituted_declared-Some d m e =
      let o = out-DeclaredMirror d in
      ap (substituted_declared by) (sym (roll-out-DeclaredMirror d)) ∙ declared-Some o.element o.enclosing o.arguments m e

  pub substituted_executable-is : (x : ExecutableMirror) → substituted_executable by x
      ≡ roll-ExecutableMirror (record {
        variables = (out-ExecutableMirror x).variables;
        parameters = map (substituted by) (out-ExecutableMirror x).parameters;
        result = substituted by (out-ExecutableMirror x).result;
        thrown = map (substituted by) (out-ExecutableMirror x).thrown;
      })
  substituted_executable-is x =
      ap (substituted_executable by) (sym (roll-out-ExecutableMirror x)) ∙ substituted_executable-roll (out-ExecutableMirror x)

pub ruleset replaced = (
  substituted-is,
  substituted_base-Primitive,
  substituted_base-Declared,
  substituted_base-Error,
  substituted_base-Variable,
  substituted_base-Wildcard,
  substituted_base-Executable,
  substituted_base-Nothing,
  substituted_base-Void,
  substituted_base-Null,
  substituted_base-Package,
  substituted_declared-None,
  substituted_declared-Some,
  substituted_executable-is,
)
