use Rattle.std.proofs.Common.{◌≡◌, ◌++◌, codes, flat_map, take, string_bytes}
use Rattle.decl_tree.specs.declared.annotation.ValueText.{out-ValueText}
use Rattle.annotation_values.specs.Remembered.{joinable_text}
use Rattle.annotation_values.proofs.texts.sum_text.Given as goal

-- the first text, and those so far behind it
abbrev pub invariant-loop-form : goal.invariant-loop-form
invariant-loop-form l =
    string_bytes l.text
    ≡ string_bytes l.initial.text
    ++ flat_map (λ form. codes " + " ++ joinable_text (out-ValueText form)) (take l.form-index l.others)
