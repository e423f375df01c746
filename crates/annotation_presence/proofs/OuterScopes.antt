-- The name of an annotation means at an element what it means at the one around it, where the element is no type and declares nothing of the name.
use Rattle.std.proofs.Common.{◌≡◌, ℕ, Bool, true, false, not, ◌&&◌, List, [], ◌∷◌, ◌++◌, Option, None, Some, is_some, refl, sym, ap, ◌∙◌}
use Rattle.apt_base.specs.Limits.{max_type_steps}
use Rattle.element_table.specs.TypeTable.{TypeTable}
use Rattle.name_resolve.specs.Ways.{node_at, type_at}
use Rattle.name_resolve.specs.Finds.{Find, Finds, Nothing, One, Several, first_of, declared_types}
use Rattle.name_resolve.specs.Supertypes.{is_object, supertypes_in, supertypes}
use Rattle.name_resolve.specs.QualifiedNames.{prefixes}
use Rattle.name_resolve.specs.Meaning.{Within, tops_of, members, in_unit, by_prefix, along_or, simple, qualifier, found, meaning}
use Rattle.name_resolve.specs.Remembered.{IsWay}
use Rattle.name_resolve.specs.Parts.{declared_parameters, element_finds, enclosing_finds, at_path}
use Rattle.name_resolve.proofs.FirstPlaces.{third_of}
use Rattle.name_resolve.proofs.Enclosing.{further-out}
use Rattle.name_resolve.proofs.Settled.{within-way}
use Rattle.annotation_presence.specs.Remembered.{is_nothing, declares_nothing, IsScope}

members-way : (table : TypeTable) → IsWay (members table)
unfolding members
members-way table = within-way (tops_of table) max_type_steps

no-supertypes : (f : Find) → type_at f.unit f.path ≡ None → supertypes f ≡ []
unfolding supertypes
no-supertypes f e = ap (supertypes_in (is_object f)) e

nothing-is : (x : Finds) → is_nothing x ≡ true → x ≡ Nothing
nothing-is Nothing e = refl
nothing-is (One f) e = absurd (cc)
nothing-is Several e = absurd (cc)

none-is : {A : Type 0} (o : Option A) → not (is_some o) ≡ true → o ≡ None
none-is None e = refl
none-is (Some x) e = absurd (cc)

all-three : (a b c : Bool) → (a && b && c) ≡ true → (a ≡ true) × ((b ≡ true) × (c ≡ true))
all-three true true true e = (refl, (refl, refl))
all-three true true false e = absurd (cc)
all-three true false c e = absurd (cc)
all-three false b c e = absurd (cc)

module _ (table : TypeTable) (f : Find) (name : List ℕ) (silent : declares_nothing f name ≡ true) where
  nothing-here : element_finds (members table) f name ≡ Nothing
  nothing-here =
      let parts = all-three (not (is_some (type_at f.unit f.path))) (is_nothing (declared_types f name)) (is_nothing (declared_parameters f name)) silent in
      let types : declared_types f name ≡ Nothing = nothing-is (declared_types f name) parts.1.0 in
      let parameters : declared_parameters f name ≡ Nothing = nothing-is (declared_parameters f name) parts.1.1 in
      third_of (declared_types f name) (declared_parameters f name) (members table f name) types parameters
      ∙ (members-way table).alone f name types (no-supertypes f (none-is (type_at f.unit f.path) parts.0))

  module _ (there : is_some (node_at f.unit f.path) ≡ true) (front : List ℕ) (step : ℕ) (split : f.path ≡ front ++ step ∷ []) where
    simple-out : simple (tops_of table) (members table) (Within f) name ≡ simple (tops_of table) (members table) (Within (at_path f front)) name
    unfolding simple
    simple-out =
        ap (λ x. first_of (x ∷ in_unit (tops_of table) (members table) f.part f.unit name ∷ []))
        (further-out (members table) f name there front step split nothing-here)

    meaning-out : (more : List (List ℕ)) → meaning table (Within f) (name ∷ more) ≡ meaning table (Within (at_path f front)) (name ∷ more)
    unfolding meaning found qualifier
    meaning-out [] = simple-out
    meaning-out (next ∷ more) =
        ap (along_or (members table) (next ∷ more) (by_prefix (tops_of table) (members table) f.part (prefixes (name ∷ next ∷ more)))) simple-out

pub scope_itself : (f : Find) (name : List ℕ) → IsScope f name f
scope_itself f name = record { part = refl; unit = refl; same = λ table more. refl }

-- one element further out
pub scope-out : (f : Find) (name : List ℕ) (g : Find) (front : List ℕ) (step : ℕ) → IsScope f name g → is_some (node_at g.unit g.path) ≡ true
    → declares_nothing g name ≡ true → g.path ≡ front ++ step ∷ [] → IsScope f name (at_path g front)
scope-out f name g front step is there silent split = record {
  part = is.part;
  unit = is.unit;
  same = λ table more. sym (meaning-out table g name silent there front step split more) ∙ is.same table more;
}
