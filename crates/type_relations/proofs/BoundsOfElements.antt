-- The bounds of a type parameter, by what stands there.
use Rattle.std.proofs.Common.{◌≡◌, true, is_some, Option, None, Some, sym, ap}
use Rattle.apt_base.specs.declared.element.ElementRef.{ElementRef}
use Rattle.decl_elements.specs.Nodes.{Node}
use Rattle.element_table.specs.TypeTable.{TypeTable}
use Rattle.element_table.specs.TableElements.{node_at}
use Rattle.type_relations.specs.Named.{bounds, first_bound, first_of, bounds_or_object, only_object, object_at, written_bounds}

module _ (table : TypeTable) (at : ElementRef) where
  pub bounds-none : None ≡ node_at table at → only_object table at ≡ bounds table at
  unfolding bounds
  bounds-none e = ap (λ (o : Option Node). bounds_or_object table at (written_bounds o)) e

  pub bounds-some : (node : Node) → Some node ≡ node_at table at → bounds_or_object table at (written_bounds (Some node)) ≡ bounds table at
  unfolding bounds
  bounds-some node e = ap (λ (o : Option Node). bounds_or_object table at (written_bounds o)) e

  pub first-none : None ≡ node_at table at → object_at table at ≡ first_bound table at
  unfolding first_bound
  first-none e = ap (λ (o : Option Node). first_of table at (written_bounds o)) e

  pub first-some : (node : Node) → Some node ≡ node_at table at → first_of table at (written_bounds (Some node)) ≡ first_bound table at
  unfolding first_bound
  first-some node e = ap (λ (o : Option Node). first_of table at (written_bounds o)) e

  pub element-some : (node : Node) → Some node ≡ node_at table at → is_some (node_at table at) ≡ true
  element-some node e = sym (ap is_some e)

pub ruleset bounds_found = (bounds-none, bounds-some, first-none, first-some, element-some)
