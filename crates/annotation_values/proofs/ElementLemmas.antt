-- What is asked of an element, by what stands there.
use Rattle.std.proofs.Common.{◌≡◌, ℕ, List, [], ◌∷◌, Option, None, Some, refl, sym, ap, ◌∙◌}
use Rattle.std.proofs.Common.{option_map, option_and_then, slice_get}
use Rattle.std.specs.Option.{option_map_or}
use Rattle.apt_base.specs.declared.element.ElementRef.{ElementRef}
use Rattle.decl_elements.specs.Nodes.{Node, children, down, root}
use Rattle.decl_elements.specs.Modifiers.{modifiers}
use Rattle.element_table.specs.declared.part.Part.{Part}
use Rattle.element_table.specs.TypeTable.{TypeTable, unit_of}
use Rattle.type_mirror.specs.declared.value.Value.{Value}
use Rattle.name_resolve.specs.Ways.{node_at}
use Rattle.name_resolve.specs.Finds.{Find}
use Rattle.name_resolve.specs.Placed.{bare_unit}
use Rattle.type_resolve.specs.Scopes.{find_in}
use Rattle.expression_names.proofs.FieldSteps.{find-free}
use Rattle.annotation_presence.specs.Carried.{Carried, present}
use Rattle.annotation_values.specs.ElementValues.{Named, constant_at, constant_of, default_at, default_of}
use Rattle.annotation_values.specs.ElementValues.{node_defaults, defaults_in, defaults}
use Rattle.annotation_values.specs.ElementValues.{with_defaults, values_with_defaults}
use Rattle.annotation_values.specs.Remembered.{StandsIn}

module _ (table : TypeTable) where
  abbrev bare : Part → List ℕ → List ℕ → Find
  bare part «package» path = record { part = part; unit = bare_unit «package»; path = path }

  -- ---- constants

  abbrev constant_in : Find → Option Value
  constant_in f = option_and_then (constant_at table f) (node_at f.unit f.path)

  constant-is : (at : ElementRef) → constant_of table at ≡ constant_in (find_in table at)
  unfolding constant_of
  constant-is at = refl

  constant-bare : (part : Part) («package» path : List ℕ) → constant_in (bare part «package» path) ≡ None
  unfolding node_at root children modifiers
  constant-bare part «package» [] = refl
  constant-bare part «package» (step ∷ path) = refl

  pub constant-free : (at : ElementRef) → unit_of table at.unit ≡ None → constant_of table at ≡ None
  constant-free at e = constant-is at ∙ ap constant_in (find-free table at e) ∙ constant-bare _ _ at.path

  -- ---- defaults

  abbrev default_in : Find → Option Value
  default_in f = default_at table f (node_at f.unit f.path)

  default-is : (at : ElementRef) → default_of table at ≡ default_in (find_in table at)
  unfolding default_of
  default-is at = refl

  default-bare : (part : Part) («package» path : List ℕ) → default_in (bare part «package» path) ≡ None
  unfolding node_at root children
  default-bare part «package» [] = refl
  default-bare part «package» (step ∷ path) = refl

  pub default-free : (at : ElementRef) → unit_of table at.unit ≡ None → default_of table at ≡ None
  default-free at e = default-is at ∙ ap default_in (find-free table at e) ∙ default-bare _ _ at.path

  defaults-bare : (part : Part) («package» path : List ℕ) → defaults_in table (bare part «package» path) ≡ []
  unfolding node_at root children
  defaults-bare part «package» [] = refl
  defaults-bare part «package» (step ∷ path) = refl

  pub defaults-free : (at : ElementRef) → unit_of table at.unit ≡ None → defaults table (Some at) ≡ []
  defaults-free at e = ap (defaults_in table) (find-free table at e) ∙ defaults-bare _ _ at.path

  -- ---- values with defaults

  pub values-numbered : (at : ElementRef) (number : ℕ) (c : Carried)
      → slice_get (present table (find_in table at)) number ≡ Some c
      → values_with_defaults table at number ≡ Some (with_defaults table c)
  unfolding values_with_defaults
  values-numbered at number c e = ap (option_map (with_defaults table)) e

  -- ---- what stands there

  module _ (at : ElementRef) (f : Find) (path : List ℕ) (stands : StandsIn table at f) (same : path ≡ f.path) where
    node-is : (o : Option Node) → o ≡ down path (root f.unit) → node_at f.unit f.path ≡ o
    unfolding node_at
    node-is o e = ap (λ p. down p (root f.unit)) (sym same) ∙ sym e

    abbrev constant_by : Option Node → Option Value
    constant_by o = option_and_then (constant_at table f) o

    constant-there : (o : Option Node) → o ≡ down path (root f.unit) → constant_of table at ≡ constant_by o
    constant-there o e = constant-is at ∙ ap constant_in (sym stands.is) ∙ ap constant_by (node-is o e)

    pub constant-none : None ≡ down path (root f.unit) → constant_of table at ≡ None
    constant-none e = constant-there None e

    pub constant-some : (node : Node) → Some node ≡ down path (root f.unit)
        → constant_of table at ≡ constant_at table f node
    constant-some node e = constant-there (Some node) e

    default-there : (o : Option Node) → o ≡ down path (root f.unit) → default_of table at ≡ default_at table f o
    default-there o e = default-is at ∙ ap default_in (sym stands.is) ∙ ap (default_at table f) (node-is o e)

    pub default-none : None ≡ down path (root f.unit) → default_of table at ≡ None
    default-none e = default-there None e

    pub default-some : (node : Node) → Some node ≡ down path (root f.unit)
        → default_of table at ≡ default_at table f (Some node)
    default-some node e = default-there (Some node) e

    abbrev defaults_by : Option Node → List Named
    defaults_by o = option_map_or (node_defaults table f) o []

    defaults-there : (o : Option Node) → o ≡ down path (root f.unit) → defaults table (Some at) ≡ defaults_by o
    defaults-there o e = ap (defaults_in table) (sym stands.is) ∙ ap defaults_by (node-is o e)

    pub defaults-none : None ≡ down path (root f.unit) → defaults table (Some at) ≡ []
    defaults-none e = defaults-there None e

    pub defaults-some : (node : Node) → Some node ≡ down path (root f.unit)
        → defaults table (Some at) ≡ node_defaults table f node
    defaults-some node e = defaults-there (Some node) e

pub ruleset constants = (constant-free, constant-none, constant-some)

pub ruleset method_defaults = (default-free, default-none, default-some)

pub ruleset element_defaults = (defaults-free, defaults-none, defaults-some)
