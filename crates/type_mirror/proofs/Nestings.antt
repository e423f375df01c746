-- How deep mirrors are nested, by equations.
use Rattle.std.proofs.Common.{◌≡◌, ℕ, ◌+◌, ◌-◌, ◌^◌, max, min, List, [], ◌∷◌, ◌++◌, length, map, Option, Some, None, refl, sym, ap, ◌∙◌, arith}
use Rattle.apt_base.specs.declared.element.ElementRef.{ElementRef}
use Rattle.type_mirror.specs.declared.mirror.PrimitiveKind.{PrimitiveKind}
use Rattle.type_mirror.specs.declared.mirror.BaseMirror.{BaseMirror, roll-BaseMirror}
use Rattle.type_mirror.specs.declared.mirror.BaseMirror.TheVariants as base
use Rattle.type_mirror.specs.declared.mirror.BaseMirror.TheOpen.{BaseMirror-F}
use Rattle.type_mirror.specs.declared.mirror.BaseMirror.TheFolds.{map-BaseMirror, fold-roll-BaseMirror, fold-roll-Mirror, fold-roll-DeclaredMirror, fold-roll-ExecutableMirror}
use Rattle.type_mirror.specs.declared.mirror.Mirror.{Mirror, out-Mirror, roll-out-Mirror}
use Rattle.type_mirror.specs.declared.mirror.DeclaredMirror.{DeclaredMirror, roll-DeclaredMirror, out-DeclaredMirror, roll-out-DeclaredMirror}
use Rattle.type_mirror.specs.declared.mirror.ExecutableMirror.{ExecutableMirror, out-ExecutableMirror, roll-out-ExecutableMirror}
use Rattle.type_mirror.specs.Parts.{declared_parts, executable_parts}
use Rattle.type_mirror.specs.Nesting.{deepest, base_step, mirror_step, nesting, base_nesting, declared_nestings, executable_nestings}

-- ---- the deepest of several

pub deepest-append : (xs ys : List ℕ) → deepest (xs ++ ys) ≡ max (deepest xs) (deepest ys)
deepest-append [] ys = omega arith
deepest-append (x ∷ xs) ys = omega (arith, deepest-append xs ys)

pub deepest-one : (n : ℕ) → deepest (n ∷ []) ≡ n
deepest-one n = omega arith

-- ---- mirrors

pub nesting-is : (m : Mirror) → nesting m ≡ length (out-Mirror m).around + base_nesting (out-Mirror m).base
unfolding nesting base_nesting
nesting-is m = ap nesting (sym (roll-out-Mirror m)) ∙ fold-roll-Mirror ℕ (List ℕ) (List ℕ) ℕ base_step declared_parts executable_parts mirror_step (out-Mirror m)

base_nesting-roll : (x : BaseMirror-F BaseMirror DeclaredMirror ExecutableMirror Mirror) → base_nesting (roll-BaseMirror x)
    ≡ base_step (map-BaseMirror BaseMirror DeclaredMirror ExecutableMirror Mirror ℕ (List ℕ) (List ℕ) ℕ base_nesting declared_nestings executable_nestings nesting x)
unfolding nesting base_nesting declared_nestings executable_nestings
base_nesting-roll = fold-roll-BaseMirror ℕ (List ℕ) (List ℕ) ℕ base_step declared_parts executable_parts mirror_step

pub base_nesting-Primitive : (kind : PrimitiveKind) → base_nesting (base.Primitive kind) ≡ 1
base_nesting-Primitive kind = ap base_nesting (sym (base.rolls-Primitive kind)) ∙ base_nesting-roll (BaseMirror-F.Primitive kind)

pub base_nesting-Declared : (declared : DeclaredMirror) → base_nesting (base.Declared declared) ≡ deepest (declared_nestings declared) + 1
base_nesting-Declared declared = ap base_nesting (sym (base.rolls-Declared declared)) ∙ base_nesting-roll (BaseMirror-F.Declared declared)

pub base_nesting-Error : (text : List ℕ) → base_nesting (base.Error text) ≡ 1
base_nesting-Error text = ap base_nesting (sym (base.rolls-Error text)) ∙ base_nesting-roll (BaseMirror-F.Error text)

pub base_nesting-Variable : (element : ElementRef) → base_nesting (base.Variable element) ≡ 1
base_nesting-Variable element = ap base_nesting (sym (base.rolls-Variable element)) ∙ base_nesting-roll (BaseMirror-F.Variable element)

pub base_nesting-Wildcard : base_nesting base.Wildcard ≡ 1
base_nesting-Wildcard = ap base_nesting (sym base.rolls-Wildcard) ∙ base_nesting-roll BaseMirror-F.Wildcard

pub base_nesting-Executable : (executable : ExecutableMirror) → base_nesting (base.Executable executable) ≡ deepest (executable_nestings executable) + 1
base_nesting-Executable executable = ap base_nesting (sym (base.rolls-Executable executable)) ∙ base_nesting-roll (BaseMirror-F.Executable executable)

pub base_nesting-Nothing : base_nesting base.Nothing ≡ 1
base_nesting-Nothing = ap base_nesting (sym base.rolls-Nothing) ∙ base_nesting-roll BaseMirror-F.Nothing

pub base_nesting-Void : base_nesting base.Void ≡ 1
base_nesting-Void = ap base_nesting (sym base.rolls-Void) ∙ base_nesting-roll BaseMirror-F.Void

pub base_nesting-Null : base_nesting base.Null ≡ 1
base_nesting-Null = ap base_nesting (sym base.rolls-Null) ∙ base_nesting-roll BaseMirror-F.Null

pub base_nesting-Package : (name : List ℕ) → base_nesting (base.Package name) ≡ 1
base_nesting-Package name = ap base_nesting (sym (base.rolls-Package name)) ∙ base_nesting-roll (BaseMirror-F.Package name)

-- ---- types with arguments, and executables

declared_nestings-None : (element : ElementRef) (enclosing : Option Mirror) (arguments : List Mirror) → enclosing ≡ None
    → declared_nestings (roll-DeclaredMirror (record { element = element; enclosing = enclosing; arguments = arguments })) ≡ map nesting arguments
unfolding nesting declared_nestings
declared_nestings-None element enclosing arguments e =
    ap (λ (o : Option Mirror). declared_nestings (roll-DeclaredMirror (record { element = element; enclosing = o; arguments = arguments }))) e
    ∙ fold-roll-DeclaredMirror ℕ (List ℕ) (List ℕ) ℕ base_step declared_parts executable_parts mirror_step (record { element = element; enclosing = None; arguments = arguments })

declared_nestings-Some : (element : ElementRef) (enclosing : Option Mirror) (arguments : List Mirror) (m : Mirror) → enclosing ≡ Some m
    → declared_nestings (roll-DeclaredMirror (record { element = element; enclosing = enclosing; arguments = arguments })) ≡ nesting m ∷ map nesting arguments
unfolding nesting declared_nestings
declared_nestings-Some element enclosing arguments m e =
    ap (λ (o : Option Mirror). declared_nestings (roll-DeclaredMirror (record { element = element; enclosing = o; arguments = arguments }))) e
    ∙ fold-roll-DeclaredMirror ℕ (List ℕ) (List ℕ) ℕ base_step declared_parts executable_parts mirror_step (record { element = element; enclosing = Some m; arguments = arguments })

pub deepest-declared-None : (d : DeclaredMirror) → (out-DeclaredMirror d).enclosing ≡ None → deepest (declared_nestings d) ≡ deepest (map nesting (out-DeclaredMirror d).arguments)
deepest-declared-None d e =
    let o = out-DeclaredMirror d in
    ap (λ (x : DeclaredMirror). deepest (declared_nestings x)) (sym (roll-out-DeclaredMirror d)) ∙ ap deepest (declared_nestings-None o.element o.enclosing o.arguments e)

pub deepest-declared-Some : (d : DeclaredMirror) (m : Mirror) → (out-DeclaredMirror d).enclosing ≡ Some m
    → deepest (declared_nestings d) ≡ max (nesting m) (deepest (map nesting (out-DeclaredMirror d).arguments))
deepest-declared-Some d m e =
    let o = out-DeclaredMirror d in
    ap (λ (x : DeclaredMirror). deepest (declared_nestings x)) (sym (roll-out-DeclaredMirror d)) ∙ ap deepest (declared_nestings-Some o.element o.enclosing o.arguments m e)

executable_nestings-is : (x : ExecutableMirror) → executable_nestings x
    ≡ map nesting (out-ExecutableMirror x).parameters ++ (nesting (out-ExecutableMirror x).result ∷ map nesting (out-ExecutableMirror x).thrown)
unfolding nesting executable_nestings
executable_nestings-is x =
    ap executable_nestings (sym (roll-out-ExecutableMirror x))
    ∙ fold-roll-ExecutableMirror ℕ (List ℕ) (List ℕ) ℕ base_step declared_parts executable_parts mirror_step (out-ExecutableMirror x)

pub deepest-executable : (x : ExecutableMirror) → deepest (executable_nestings x)
    ≡ max (deepest (map nesting (out-ExecutableMirror x).parameters)) (max (nesting (out-ExecutableMirror x).result) (deepest (map nesting (out-ExecutableMirror x).thrown)))
deepest-executable x =
    ap deepest (executable_nestings-is x)
    ∙ deepest-append (map nesting (out-ExecutableMirror x).parameters) (nesting (out-ExecutableMirror x).result ∷ map nesting (out-ExecutableMirror x).thrown)

pub ruleset nestings = (
  nesting-is,
  base_nesting-Primitive,
  base_nesting-Declared,
  base_nesting-Error,
  base_nesting-Variable,
  base_nesting-Wildcard,
  base_nesting-Executable,
  base_nesting-Nothing,
  base_nesting-Void,
  base_nesting-Null,
  base_nesting-Package,
  deepest-declared-None,
  deepest-declared-Some,
  deepest-executable,
)
