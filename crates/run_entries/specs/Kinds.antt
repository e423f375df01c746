-- The kind that a processor has: a dynamic one has the kind that its Hello names by exactly one of two options (Gradle, incremental annotation processing).
use Rattle.std.specs.Prelude.{ℕ, Bool, true, false, List, codes}
use Rattle.std.specs.List.{list_any}
use Rattle.std.specs.Str.{bytes_eq}
use Rattle.apt_base.specs.declared.kinds.Kind.{Kind}
use Rattle.apt_base.specs.declared.kinds.Kind.TheVariants.{Isolating, Aggregating, Dynamic, Undeclared}

abbrev pub names : List (List ℕ) → List ℕ → Bool
names options option = list_any (bytes_eq option) options

-- it names the isolating option or not, and the aggregating one or not
abbrev pub kind_by : Bool → Bool → Kind
kind_by true false = Isolating
kind_by false true = Aggregating
kind_by true true = Dynamic
kind_by false false = Dynamic

-- where a dynamic one names neither or both it stays without a kind
unfoldable pub settled_kind : Kind → List (List ℕ) → Kind
settled_kind Dynamic options =
    kind_by
    (names options (codes "org.gradle.annotation.processing.isolating"))
    (names options (codes "org.gradle.annotation.processing.aggregating"))
settled_kind Isolating options = Isolating
settled_kind Aggregating options = Aggregating
settled_kind Undeclared options = Undeclared

abbrev pub is_isolating : Kind → Bool
is_isolating Isolating = true
is_isolating Aggregating = false
is_isolating Dynamic = false
is_isolating Undeclared = false
