-- Two tables that have one cut agree on what a question on types reads there, since each agrees with the cut.
use Rattle.std.proofs.Common.{◌≡◌, ℕ, List, Option, None, Some, sym, ap₂, subst, ◌∙◌}
use Rattle.std.specs.List.{AllByRecursion}
use Rattle.apt_base.specs.declared.element.ElementRef.{ElementRef}
use Rattle.decl_elements.specs.Nodes.{Node}
use Rattle.element_table.specs.TypeTable.{TypeTable, Units, table_of}
use Rattle.element_table.specs.TableElements.{node_at}
use Rattle.reach_map.specs.ClosedCuts.{NameSet, cut}
use Rattle.decl_elements.proofs.Everywhere.{each_both}
use Rattle.closed_cuts.specs.Kept.{IfAny}
use Rattle.closed_cuts.specs.CutElements.{HasUnit, HaveOneCut}
use Rattle.closed_cuts.specs.NodeTexts.{node_texts}
use Rattle.closed_cuts.proofs.Keeping.{Kept}
use Rattle.closed_cuts.proofs.AgreeingReads.{Lies, Good, SameText, SameUnit, SameReads, node-same}
use Rattle.closed_cuts.proofs.CutReads.{cut_reads}

-- two that are the same as a third one
pub joined : {A : Type 0} (G : A → Type 0) (x y z : A) → Kept G x z → Kept G y z → Kept G x y
joined G x y z k l = record { equal = k.equal ∙ sym l.equal; good = k.good }

module _ (one other third : TypeTable) (Has : List ℕ → Type 0) (r : SameReads one third Has) (s : SameReads other third Has) where
  texts_of : (at : ElementRef) (o : Option Node) → IfAny (λ node. AllByRecursion (SameText one third Has at) (node_texts node)) o
      → IfAny (λ node. AllByRecursion (SameText other third Has at) (node_texts node)) o → IfAny (λ node. AllByRecursion (SameText one other Has at) (node_texts node)) o
  texts_of at None a b = tt
  texts_of at (Some node) a b =
      each_both (SameText one third Has at) (SameText other third Has at) (SameText one other Has at) (λ text k l. joined (Good one third Has) _ _ _ k l) (node_texts node) a b

  same_nodes : (at : ElementRef) → Lies one third Has at → node_at other at ≡ node_at one at
  same_nodes at l = node-same other third Has s at l ∙ sym (node-same one third Has r at l)

  units_of : (name : List ℕ) → Has name → SameUnit one other Has name
  units_of name q =
      let u = r.units name q in
      let v = s.units name q in
      record {
        unit = u.unit;
        one_has = u.one_has;
        other_has = v.one_has ∙ sym v.other_has ∙ u.other_has;
      }

  pub joined_reads : SameReads one other Has
  joined_reads = record {
    units = units_of;
    texts = λ at l. texts_of at (node_at one at) (r.texts at l) (subst (IfAny (λ node. AllByRecursion (SameText other third Has at) (node_texts node))) (same_nodes at l) (s.texts at l));
    superclasses = λ at l. joined _ _ _ _ (r.superclasses at l) (s.superclasses at l);
    interfaces = λ at l. joined _ _ _ _ (r.interfaces at l) (s.interfaces at l);
    object_at = λ at l. joined _ _ _ _ (r.object_at at l) (s.object_at at l);
    string = joined _ _ _ _ r.string s.string;
    object = joined _ _ _ _ r.object s.object;
    cloneable = joined _ _ _ _ r.cloneable s.cloneable;
    serializable = joined _ _ _ _ r.serializable s.serializable;
    boxes = λ kind. joined _ _ _ _ (r.boxes kind) (s.boxes kind);
  }

pub one_cut : (one other : TypeTable) (names : NameSet) → HaveOneCut one other names → cut other names ≡ cut one names
unfolding cut
one_cut one other names same = ap₂ (λ (s : Units) (t : Units). table_of s t) (sym same.sources) (sym same.stubs)

pub agree_reads : (one other : TypeTable) (names : NameSet) → HaveOneCut one other names → SameReads one other (HasUnit (cut one names))
agree_reads one other names same =
    joined_reads one other (cut one names) (HasUnit (cut one names)) (cut_reads one names same.one_rooted)
    (subst (λ (t : TypeTable). SameReads other t (HasUnit t)) (one_cut one other names same) (cut_reads other names same.other_rooted))
