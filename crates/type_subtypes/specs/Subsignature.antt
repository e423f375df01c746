-- Subsignatures of methods and constructors (JLS 8.4.2), within a number of steps for the erasures.
use Rattle.std.specs.Prelude.{ℕ, Bool, false, eqb, length, ◌&&◌, true, List, [], ◌∷◌, map, Option, None, Some, if◌then◌else◌}
use Rattle.std.specs.List.{zip}
use Rattle.apt_base.specs.declared.element.ElementRef.{ElementRef}
use Rattle.element_table.specs.TypeTable.{TypeTable}
use Rattle.type_mirror.specs.declared.mirror.Mirror.{Mirror}
use Rattle.type_mirror.specs.declared.mirror.ExecutableMirror.{ExecutableMirror}
use Rattle.type_mirror.specs.Substitution.{Replacements, substituted}
use Rattle.type_layers.specs.Layers.{Layer, Executable, Variable, executable_layer, layer, mirror_of}
use Rattle.type_layers.specs.Same.{same}
use Rattle.type_levels.specs.Answers.{of_test, either, both}
use Rattle.type_levels.specs.declared.answer.Answer.{Answer}
use Rattle.type_levels.specs.declared.answer.Answer.TheVariants.{Yes, Open, No}
use Rattle.type_relations.specs.Erasure.{erasure}
use Rattle.type_relations.specs.RawTypes.{once_behind}

-- ---- the same parameters

-- each of the first list is the same as that of the second one at its place
abbrev pub all_same : List Mirror → List Mirror → Bool
all_same [] [] = true
all_same (a ∷ as') (b ∷ bs) = same a b && all_same as' bs
all_same _ _ = false

abbrev pub as_types : List ElementRef → List Mirror
as_types variables = map (λ variable. mirror_of (Variable variable)) variables

-- the variables of the second list are renamed to those of the first one, in order; the first entry for a variable counts
unfoldable pub renamed : List ElementRef → List ElementRef → Replacements
renamed ones others = once_behind [] (zip others (as_types ones))

-- the same parameters after that; with different numbers of variables none are
unfoldable pub same_renamed : List ElementRef → List Mirror → List ElementRef → List Mirror → Bool
same_renamed ones as' others bs = if eqb (length ones) (length others) then all_same as' (map (substituted (renamed ones others)) bs) else false

-- ---- erased parameters

-- a type is the erased other one; open where that is
unfoldable pub is_erased : Mirror → Option Mirror → Answer
is_erased a None = Open
is_erased a (Some b) = of_test (same a b)

-- the first ones are the erased second ones
abbrev pub same_erased : TypeTable → ℕ → List Mirror → List Mirror → Answer
same_erased table n [] [] = Yes
same_erased table n (a ∷ as') (b ∷ bs) = both (is_erased a (erasure table n b)) (same_erased table n as' bs)
same_erased table n _ _ = No

-- ---- signatures

abbrev pub of_executables : TypeTable → ℕ → Layer Mirror → Layer Mirror → Answer
of_executables table n (Executable ones as' outcome thrown) (Executable others bs outcome' thrown') =
    either (of_test (same_renamed ones as' others bs)) (same_erased table n as' bs)
of_executables table n _ _ = No

-- of a method or a constructor and of what has this type
abbrev pub signature_beside : TypeTable → ℕ → ExecutableMirror → Mirror → Answer
signature_beside table n one b = of_executables table n (executable_layer one) (layer b)

-- of two methods or constructors by their types
unfoldable pub of_signatures : TypeTable → ℕ → ExecutableMirror → ExecutableMirror → Answer
of_signatures table n one other = of_executables table n (executable_layer one) (executable_layer other)

-- whether the signature of `a` is a subsignature of that of `b`
unfoldable pub subsignature : TypeTable → ℕ → Mirror → Mirror → Answer
subsignature table n a b = of_executables table n (layer a) (layer b)

-- the same where it is computed: what stands outermost in the types of a method or a constructor
abbrev pub executable_in : Layer Mirror → Option (Layer Mirror)
executable_in (Executable variables parameters outcome thrown) = Some (Executable variables parameters outcome thrown)
executable_in _ = None
