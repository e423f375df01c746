-- The type of an element, by what stands there.
use Rattle.std.proofs.Common.{◌≡◌, None, Some, ap}
use Rattle.apt_base.specs.declared.element.ElementRef.{ElementRef}
use Rattle.decl_elements.specs.Nodes.{Node}
use Rattle.element_table.specs.TypeTable.{TypeTable}
use Rattle.element_table.specs.TableElements.{node_at}
use Rattle.type_mirror.specs.declared.mirror.BaseMirror.TheVariants as base
use Rattle.type_mirror.specs.Parts.{plain}
use Rattle.type_layers.specs.Layers.{mirror_of}
use Rattle.type_elements.specs.TypeOf.{node_type, type_at, type_of}

module _ (table : TypeTable) (at : ElementRef) where
  pub type_of-none : node_at table at ≡ None → type_of table at ≡ plain base.Nothing
  unfolding type_of mirror_of
  type_of-none e = ap (type_at table at) e

  pub type_of-some : (node : Node) → node_at table at ≡ Some node → type_of table at ≡ node_type table at node
  unfolding type_of
  type_of-some node e = ap (type_at table at) e

pub ruleset typed = (type_of-none, type_of-some)
