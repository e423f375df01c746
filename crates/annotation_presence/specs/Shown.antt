-- An annotation in memory, for contracts.
use Rattle.std.specs.Prelude.{List, map}
use Rattle.name_resolve.specs.Shown.{find_of}
use Rattle.annotation_presence.specs.declared.carried.Carried.{Carried}
use Rattle.annotation_presence.specs.Carried as meant

abbrev pub carried_of : Carried → meant.Carried
carried_of c = record { at = find_of c.at; text = c.text.now; annotation_type = c.annotation_type }

abbrev pub carried_in : List Carried → List meant.Carried
carried_in list = map carried_of list
