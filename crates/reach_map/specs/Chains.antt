-- The name chains that are written in a unit, imports left out: the names of each class type, also of those in type arguments, of each annotation and of each
-- chain that is a value.
use Rattle.std.specs.Prelude.{ℕ, List, [], ◌∷◌, ◌++◌, map, Option, None, Some}
use Rattle.std.specs.List.{flat_map}
use Rattle.apt_base.specs.Identifiers.{parts}
use Rattle.decl_tree.specs.declared.type_text.TypeText.{TypeText}
use Rattle.decl_tree.specs.declared.type_text.NamedPart.{NamedPart, out-NamedPart}
use Rattle.decl_tree.specs.declared.type_text.BaseType.TheOpen.{BaseType-F, NamedPart-F, TypeText-F}
use Rattle.decl_tree.specs.declared.type_text.BaseType.TheFolds.{fold-TypeText}
use Rattle.decl_tree.specs.declared.annotation.ValueText.{ValueText}
use Rattle.decl_tree.specs.declared.annotation.AnnotationText.{AnnotationText}
use Rattle.decl_tree.specs.declared.annotation.ElementValuePair.{ElementValuePair}
use Rattle.decl_tree.specs.declared.annotation.ValueText.TheOpen.{ValueText-F, AnnotationText-F, ElementValuePair-F}
use Rattle.decl_tree.specs.declared.annotation.ValueText.TheFolds.{fold-ValueText, fold-AnnotationText}
use Rattle.decl_tree.specs.declared.compilation.UnitText.{UnitText}
use Rattle.decl_elements.specs.Nodes.{Node}
use Rattle.decl_elements.specs.Walk.{places}
use Rattle.decl_elements.specs.Written.{annotations, types, values}
use Rattle.name_resolve.specs.Supertypes.{part_name}

abbrev pub Chains : Type 0
Chains = List (List (List ℕ))

abbrev pub of_option : {A : Type 0} → (A → Chains) → Option A → Chains
of_option chains None = []
of_option chains (Some x) = chains x

-- the identity, for chains that a fold has gathered already
abbrev pub gathered : Chains → Chains
gathered chains = chains

-- ---- types: of each named part its name and the chains of its arguments

abbrev pub base_step : BaseType-F Chains (List ℕ × Chains) Chains → Chains
base_step (BaseType-F.Primitive kind) = []
base_step (BaseType-F.Named parts) = map (λ p. p.0) parts ∷ flat_map (λ p. p.1) parts
base_step BaseType-F.Wildcard = []

abbrev pub part_step : NamedPart-F Chains (List ℕ × Chains) Chains → List ℕ × Chains
part_step part = (part.name, of_option (flat_map gathered) part.arguments)

abbrev pub type_step : TypeText-F Chains (List ℕ × Chains) Chains → Chains
type_step text = text.base

unfoldable pub type_chains : TypeText → Chains
type_chains = fold-TypeText Chains (List ℕ × Chains) Chains base_step part_step type_step

-- of the type arguments of a part, and of all parts of a class type
abbrev pub argument_chains : NamedPart → Chains
argument_chains p = of_option (flat_map type_chains) (out-NamedPart p).arguments

abbrev pub named_chains : List NamedPart → Chains
named_chains parts = map part_name parts ∷ flat_map argument_chains parts

-- ---- values and annotations

abbrev pub value_step : ValueText-F Chains Chains Chains → Chains
value_step (ValueText-F.Literal text) = []
value_step (ValueText-F.Negated text) = []
value_step (ValueText-F.Joined items) = flat_map gathered items
value_step (ValueText-F.Class of) = type_chains of
value_step (ValueText-F.Chain text) = parts text ∷ []
value_step (ValueText-F.Array items) = flat_map gathered items
value_step (ValueText-F.Nested annotation) = annotation
-- its text may have names, but no look-up reads it
value_step (ValueText-F.Other text) = []

abbrev pub annotation_step : AnnotationText-F Chains Chains Chains → Chains
annotation_step annotation = parts annotation.name ∷ flat_map gathered annotation.values

abbrev pub pair_step : ElementValuePair-F Chains Chains Chains → Chains
pair_step pair = pair.value

unfoldable pub value_chains : ValueText → Chains
value_chains = fold-ValueText Chains Chains Chains value_step annotation_step pair_step

unfoldable pub annotation_chains : AnnotationText → Chains
annotation_chains = fold-AnnotationText Chains Chains Chains value_step annotation_step pair_step

abbrev pub pair_chains : ElementValuePair → Chains
pair_chains pair = value_chains pair.value

-- ---- units

-- what is written at one place
abbrev pub node_chains : Node → Chains
node_chains node = flat_map annotation_chains (annotations node) ++ flat_map type_chains (types node) ++ flat_map value_chains (values node)

-- at each place
unfoldable pub unit_chains : UnitText → Chains
unit_chains u = flat_map (λ at. node_chains at.node) (places u)
