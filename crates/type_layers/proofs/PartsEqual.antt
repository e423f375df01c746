-- Class types and the types of methods are equal where their parts are.
use Rattle.std.proofs.Common.{◌≡◌, ◌↔◌, IsTrue, Bool, List, Option, sym, ap, ◌∙◌}
use Rattle.apt_base.specs.declared.element.ElementRef.{ElementRef}
use Rattle.type_mirror.specs.declared.mirror.BaseMirror.{BaseMirror}
use Rattle.type_mirror.specs.declared.mirror.BaseMirror.TheOpen.{DeclaredMirror-F, ExecutableMirror-F}
use Rattle.type_mirror.specs.declared.mirror.Mirror.{Mirror}
use Rattle.type_mirror.specs.declared.mirror.DeclaredMirror.{DeclaredMirror, roll-DeclaredMirror, out-DeclaredMirror, roll-out-DeclaredMirror}
use Rattle.type_mirror.specs.declared.mirror.ExecutableMirror.{ExecutableMirror, roll-ExecutableMirror, out-ExecutableMirror, roll-out-ExecutableMirror}

abbrev DeclaredLayer : Type 0
DeclaredLayer = DeclaredMirror-F BaseMirror DeclaredMirror ExecutableMirror Mirror

abbrev ExecutableLayer : Type 0
ExecutableLayer = ExecutableMirror-F BaseMirror DeclaredMirror ExecutableMirror Mirror

declared_of : ElementRef → Option Mirror → List Mirror → DeclaredMirror
declared_of at enclosing arguments = roll-DeclaredMirror (record { element = at; enclosing = enclosing; arguments = arguments })

declared_from : (d e : DeclaredMirror) → (out-DeclaredMirror d).element ≡ (out-DeclaredMirror e).element → (out-DeclaredMirror d).enclosing ≡ (out-DeclaredMirror e).enclosing
    → (out-DeclaredMirror d).arguments ≡ (out-DeclaredMirror e).arguments → d ≡ e
unfolding declared_of
declared_from d e element enclosing arguments =
    let o = out-DeclaredMirror d in
    let p = out-DeclaredMirror e in
    sym (roll-out-DeclaredMirror d)
    ∙ ap (λ (x : ElementRef). declared_of x o.enclosing o.arguments) element
    ∙ ap (λ (x : Option Mirror). declared_of p.element x o.arguments) enclosing
    ∙ ap (λ (x : List Mirror). declared_of p.element p.enclosing x) arguments
    ∙ roll-out-DeclaredMirror e

-- by the last part, once the others are equal
pub declared_by_arguments : (d e : DeclaredMirror) (r : Bool) → (out-DeclaredMirror d).element ≡ (out-DeclaredMirror e).element
    → (out-DeclaredMirror d).enclosing ≡ (out-DeclaredMirror e).enclosing → (IsTrue r ↔ (out-DeclaredMirror d).arguments ≡ (out-DeclaredMirror e).arguments)
    → IsTrue r ↔ d ≡ e
declared_by_arguments d e r element enclosing arguments =
    (λ h. declared_from d e element enclosing (arguments.0 h), λ same. arguments.1 (ap (λ (x : DeclaredMirror). (out-DeclaredMirror x).arguments) same))

executable_of : List ElementRef → List Mirror → Mirror → List Mirror → ExecutableMirror
executable_of variables parameters outcome thrown = roll-ExecutableMirror (record { variables = variables; parameters = parameters; result = outcome; thrown = thrown })

executable_from : (d e : ExecutableMirror) → (out-ExecutableMirror d).variables ≡ (out-ExecutableMirror e).variables
    → (out-ExecutableMirror d).parameters ≡ (out-ExecutableMirror e).parameters → (out-ExecutableMirror d).result ≡ (out-ExecutableMirror e).result
    → (out-ExecutableMirror d).thrown ≡ (out-ExecutableMirror e).thrown → d ≡ e
unfolding executable_of
executable_from d e variables parameters outcome thrown =
    let o = out-ExecutableMirror d in
    let p = out-ExecutableMirror e in
    sym (roll-out-ExecutableMirror d)
    ∙ ap (λ (x : List ElementRef). executable_of x o.parameters o.result o.thrown) variables
    ∙ ap (λ (x : List Mirror). executable_of p.variables x o.result o.thrown) parameters
    ∙ ap (λ (x : Mirror). executable_of p.variables p.parameters x o.thrown) outcome
    ∙ ap (λ (x : List Mirror). executable_of p.variables p.parameters p.result x) thrown
    ∙ roll-out-ExecutableMirror e

pub executable_by_thrown : (d e : ExecutableMirror) (r : Bool) → (out-ExecutableMirror d).variables ≡ (out-ExecutableMirror e).variables
    → (out-ExecutableMirror d).parameters ≡ (out-ExecutableMirror e).parameters → (out-ExecutableMirror d).result ≡ (out-ExecutableMirror e).result
    → (IsTrue r ↔ (out-ExecutableMirror d).thrown ≡ (out-ExecutableMirror e).thrown) → IsTrue r ↔ d ≡ e
executable_by_thrown d e r variables parameters outcome thrown =
    (λ h. executable_from d e variables parameters outcome (thrown.0 h), λ same. thrown.1 (ap (λ (x : ExecutableMirror). (out-ExecutableMirror x).thrown) same))
