-- How many annotations are present on an element: as many as have a mirror.
use Rattle.std.proofs.Common.{◌≡◌, List, map, length, sym, ap, ◌∙◌}
use Rattle.std.proofs.lemmas.List.{length-map}
use Rattle.apt_base.specs.declared.element.ElementRef.{ElementRef}
use Rattle.element_table.specs.TypeTable.{TypeTable}
use Rattle.type_resolve.specs.Scopes.{find_in}
use Rattle.annotation_presence.specs.declared.carried.Carried.{Carried}
use Rattle.annotation_presence.specs.Carried.{present}
use Rattle.annotation_presence.specs.Shown.{carried_of, carried_in}
use Rattle.annotation_values.specs.ElementValues.{mirror_of, all_mirrors}

pub counted : (table : TypeTable) (at : ElementRef) (list : List Carried)
    → carried_in list ≡ present table (find_in table at) → length list ≡ length (all_mirrors table at)
unfolding all_mirrors
counted table at list are =
    sym (length-map list carried_of) ∙ ap length are
    ∙ sym (length-map (present table (find_in table at)) (mirror_of table))
