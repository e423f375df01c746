use Rattle.std.proofs.Common.{◌≡◌, map, take, string_bytes}
use Rattle.name_resolve.specs.Shown.{find_of}
use Rattle.annotation_values.specs.Values.{all_texts, meant_in, value_in, meanings_within}
use Rattle.annotation_values.specs.Remembered.{pair_in}
use Rattle.annotation_values.proofs.JoinedTexts.{texts_from}
use Rattle.annotation_values.proofs.values.Values.+value.Given as goal

-- the texts so far with those that are left are all, over the same table
abbrev pub invariant-all_texts-loop-form : goal.invariant-all_texts-loop-form
invariant-all_texts-loop-form l =
    (l.self ≡ l.fn.self)
    × (texts_from (meanings_within l.fn.self l.names (find_of l.at)) l.forms (string_bytes l.text) l.form-index
    ≡ all_texts (map (meant_in (meanings_within l.fn.self l.names (find_of l.at))) l.forms))

-- the values so far, over the same table
abbrev pub invariant-values-loop-form : goal.invariant-values-loop-form
invariant-values-loop-form l =
    (l.self ≡ l.fn.self)
    × (l.list ≡ map (value_in (meanings_within l.fn.self l.names (find_of l.at))) (take l.form-index l.forms))

abbrev pub invariant-named_values-loop-pair : goal.invariant-named_values-loop-pair
invariant-named_values-loop-pair l =
    (l.self ≡ l.fn.self)
    × (l.list ≡ map (pair_in (meanings_within l.fn.self l.names (find_of l.at))) (take l.pair-index l.pairs))
