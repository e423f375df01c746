-- A mirror by its outermost layer, and what is defined of a mirror layer by layer, from the inside out.
use Rattle.std.specs.Prelude.{ℕ, List, [], ◌∷◌, ◌++◌, map, Option}
use Rattle.std.specs.Option.{option_map, option_to_list}
use Rattle.apt_base.specs.declared.element.ElementRef.{ElementRef}
use Rattle.type_mirror.specs.declared.mirror.PrimitiveKind.{PrimitiveKind}
use Rattle.apt_base.specs.declared.around.Around.{Around}
use Rattle.apt_base.specs.declared.around.Around.TheVariants as around
use Rattle.type_mirror.specs.declared.mirror.Mirror.{Mirror, roll-Mirror, out-Mirror}
use Rattle.type_mirror.specs.declared.mirror.BaseMirror.{BaseMirror, out-BaseMirror}
use Rattle.type_mirror.specs.declared.mirror.BaseMirror.TheVariants as base
use Rattle.type_mirror.specs.declared.mirror.BaseMirror.TheOpen.{BaseMirror-F, Mirror-F, DeclaredMirror-F, ExecutableMirror-F}
use Rattle.type_mirror.specs.declared.mirror.BaseMirror.TheFolds.{fold-Mirror}
use Rattle.type_mirror.specs.declared.mirror.DeclaredMirror.{DeclaredMirror, roll-DeclaredMirror, out-DeclaredMirror}
use Rattle.type_mirror.specs.declared.mirror.ExecutableMirror.{ExecutableMirror, roll-ExecutableMirror, out-ExecutableMirror}
use Rattle.type_mirror.specs.Parts.{plain, wrapped}

-- what stands outermost, and what it holds directly
pub data Layer (M : Type 0) : Type 0 where
  Primitive : (kind : PrimitiveKind) → Layer M
  Declared : (element : ElementRef) (enclosing : Option M) (arguments : List M) → Layer M
  Error : (text : List ℕ) → Layer M
  Variable : (element : ElementRef) → Layer M
  Array : (item : M) → Layer M
  -- the three wildcards
  Unbounded : Layer M
  Extends : (bound : M) → Layer M
  Super : (bound : M) → Layer M
  Executable : (variables : List ElementRef) (parameters : List M) (outcome : M) (thrown : List M) → Layer M
  Nothing : Layer M
  Void : Layer M
  Null : Layer M
  Package : (name : List ℕ) → Layer M

-- ---- from mirrors to layers and back

abbrev pub declared_layer : DeclaredMirror → Layer Mirror
declared_layer d = let o = out-DeclaredMirror d in Declared o.element o.enclosing o.arguments

abbrev pub executable_layer : ExecutableMirror → Layer Mirror
executable_layer e = let o = out-ExecutableMirror e in Executable o.variables o.parameters o.result o.thrown

abbrev pub base_layer : BaseMirror-F BaseMirror DeclaredMirror ExecutableMirror Mirror → Layer Mirror
base_layer (BaseMirror-F.Primitive kind) = Primitive kind
base_layer (BaseMirror-F.Declared d) = declared_layer d
base_layer (BaseMirror-F.Error text) = Error text
base_layer (BaseMirror-F.Variable at) = Variable at
base_layer BaseMirror-F.Wildcard = Unbounded
base_layer (BaseMirror-F.Executable e) = executable_layer e
base_layer BaseMirror-F.Nothing = Nothing
base_layer BaseMirror-F.Void = Void
base_layer BaseMirror-F.Null = Null
base_layer (BaseMirror-F.Package name) = Package name

-- what stands around a base is further out than the base
abbrev pub layer_in : List Around → BaseMirror → Layer Mirror
layer_in [] b = base_layer (out-BaseMirror b)
layer_in (around.Array ∷ inner) b = Array (roll-Mirror (record { around = inner; base = b }))
layer_in (around.Extends ∷ inner) b = Extends (roll-Mirror (record { around = inner; base = b }))
layer_in (around.Super ∷ inner) b = Super (roll-Mirror (record { around = inner; base = b }))

unfoldable pub layer : Mirror → Layer Mirror
layer m = layer_in (out-Mirror m).around (out-Mirror m).base

abbrev pub array_of : Mirror → Mirror
array_of = wrapped (around.Array ∷ [])

abbrev pub declared_mirror : ElementRef → Option Mirror → List Mirror → Mirror
declared_mirror at enclosing arguments = plain (base.Declared (roll-DeclaredMirror (record { element = at; enclosing = enclosing; arguments = arguments })))

abbrev pub executable_mirror : List ElementRef → List Mirror → Mirror → List Mirror → Mirror
executable_mirror variables parameters outcome thrown =
    plain (base.Executable (roll-ExecutableMirror (record { variables = variables; parameters = parameters; result = outcome; thrown = thrown })))

-- the mirror with that outermost layer
unfoldable pub mirror_of : Layer Mirror → Mirror
mirror_of (Primitive kind) = plain (base.Primitive kind)
mirror_of (Declared at enclosing arguments) = declared_mirror at enclosing arguments
mirror_of (Error text) = plain (base.Error text)
mirror_of (Variable at) = plain (base.Variable at)
mirror_of (Array item) = array_of item
mirror_of Unbounded = plain base.Wildcard
mirror_of (Extends bound) = wrapped (around.Extends ∷ []) bound
mirror_of (Super bound) = wrapped (around.Super ∷ []) bound
mirror_of (Executable variables parameters outcome thrown) = executable_mirror variables parameters outcome thrown
mirror_of Nothing = plain base.Nothing
mirror_of Void = plain base.Void
mirror_of Null = plain base.Null
mirror_of (Package name) = plain (base.Package name)

-- a layer with something else in the place of each mirror that it holds
abbrev pub map_layer : {A B : Type 0} → (A → B) → Layer A → Layer B
map_layer f (Primitive kind) = Primitive kind
map_layer f (Declared at enclosing arguments) = Declared at (option_map f enclosing) (map f arguments)
map_layer f (Error text) = Error text
map_layer f (Variable at) = Variable at
map_layer f (Array item) = Array (f item)
map_layer f Unbounded = Unbounded
map_layer f (Extends bound) = Extends (f bound)
map_layer f (Super bound) = Super (f bound)
map_layer f (Executable variables parameters outcome thrown) = Executable variables (map f parameters) (f outcome) (map f thrown)
map_layer f Nothing = Nothing
map_layer f Void = Void
map_layer f Null = Null
map_layer f (Package name) = Package name

-- what a layer holds directly, from left to right
abbrev pub parts_of : {A : Type 0} → Layer A → List A
parts_of (Declared at enclosing arguments) = option_to_list enclosing ++ arguments
parts_of (Array item) = item ∷ []
parts_of (Extends bound) = bound ∷ []
parts_of (Super bound) = bound ∷ []
parts_of (Executable variables parameters outcome thrown) = parameters ++ outcome ∷ thrown
parts_of _ = []

-- ---- layer by layer

abbrev pub base_step : {A : Type 0} → BaseMirror-F (Layer A) (Layer A) (Layer A) A → Layer A
base_step (BaseMirror-F.Primitive kind) = Primitive kind
base_step (BaseMirror-F.Declared d) = d
base_step (BaseMirror-F.Error text) = Error text
base_step (BaseMirror-F.Variable at) = Variable at
base_step BaseMirror-F.Wildcard = Unbounded
base_step (BaseMirror-F.Executable e) = e
base_step BaseMirror-F.Nothing = Nothing
base_step BaseMirror-F.Void = Void
base_step BaseMirror-F.Null = Null
base_step (BaseMirror-F.Package name) = Package name

abbrev pub declared_step : {A : Type 0} → DeclaredMirror-F (Layer A) (Layer A) (Layer A) A → Layer A
declared_step d = Declared d.element d.enclosing d.arguments

abbrev pub executable_step : {A : Type 0} → ExecutableMirror-F (Layer A) (Layer A) (Layer A) A → Layer A
executable_step e = Executable e.variables e.parameters e.result e.thrown

abbrev pub around_step : {A : Type 0} → (Layer A → A) → List Around → A → A
around_step step [] inner = inner
around_step step (around.Array ∷ more) inner = step (Array (around_step step more inner))
around_step step (around.Extends ∷ more) inner = step (Extends (around_step step more inner))
around_step step (around.Super ∷ more) inner = step (Super (around_step step more inner))

abbrev pub mirror_step : {A : Type 0} → (Layer A → A) → Mirror-F (Layer A) (Layer A) (Layer A) A → A
mirror_step step m = around_step step m.around (step m.base)

-- what a step gives of each layer, once it gave something of all that the layer holds
unfoldable pub by_layers : {A : Type 0} → (Layer A → A) → Mirror → A
by_layers {A} step = fold-Mirror (Layer A) (Layer A) (Layer A) A base_step declared_step executable_step (mirror_step step)

-- a mirror that a layer holds, and what a step gave of it
pub record Held (B : Type 0) : Type 0 where
  pub mirror : Mirror
  pub value : B

abbrev pub with_mirror : {B : Type 0} → (Layer (Held B) → B) → Layer (Held B) → Held B
with_mirror step l = record { mirror = mirror_of (map_layer (λ h. h.mirror) l); value = step l }

-- the same where a step also looks at the mirrors that a layer holds
unfoldable pub by_parts : {B : Type 0} → (Layer (Held B) → B) → Mirror → B
by_parts step m = (by_layers (with_mirror step) m).value
