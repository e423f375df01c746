-- The types of a header with what a class type puts in the place of type parameters, by numbers.
use Rattle.std.proofs.Common.{◌≡◌, ℕ, List, [], ◌∷◌, map, Result, IfOk, refl, sym, ap, subst, ◌∙◌}
use Rattle.apt_base.specs.declared.element.ElementRef.{ElementRef}
use Rattle.element_table.specs.TypeTable.{TypeTable}
use Rattle.type_mirror.specs.declared.mirror.Mirror.{Mirror}
use Rattle.type_mirror.specs.Substitution.{Replacements, substituted}
use Rattle.type_numbers.specs.Numbers.{at, AreKnown, Stands, AllStand, Grows}
use Rattle.type_relations.specs.Named.{declared_supertypes}
use Rattle.type_relations.specs.RawTypes.{replacements}
use Rattle.type_numbers.specs.Replaced.{Numbered, AreKnownIn, replacements_in, replaced_at, all_replaced}
use Rattle.type_numbers.proofs.ReplacedSteps.{grown-known_in, grown-replacements}
use Rattle.type_steps.specs.Entries.{Replaces, in_class}
use Rattle.type_steps.specs.Supertypes.{header_at}

maps_through : (f : Mirror → Mirror) (g : ℕ → Mirror) (xs : List ℕ) → map (λ x. f (g x)) xs ≡ map f (map g xs)
maps_through f g [] = refl
maps_through f g (x ∷ xs) = ap (λ (ms : List Mirror). f (g x) ∷ ms) (maps_through f g xs)

-- what the calls one after the other ask for
pub header-known : (t t' : List Mirror) (by by' : Numbered) (numbers numbers' : List ℕ) (header : List Mirror) → Grows t t' → AreKnownIn t by → by' ≡ by
    → AllStand t' numbers header → numbers' ≡ numbers → AreKnown t' numbers' × AreKnownIn t' by'
header-known t t' by by' numbers numbers' header g known same stand alike =
    (subst (AreKnown t') (sym alike) stand.known, subst (AreKnownIn t') (sym same) (grown-known_in t t' by g known))

pub header-stands : {E : Type 0} (r : Result (List ℕ) E) (table : TypeTable) (t t' t'' : List Mirror) (by by' : Numbered) (numbers numbers' : List ℕ) (header : List Mirror)
    (element : ElementRef) (number : ℕ) → Grows t t' → AreKnownIn t by → Replaces table t by number → by' ≡ by → AllStand t' numbers header
    → header ≡ declared_supertypes table element → numbers' ≡ numbers → IfOk r (λ n. AllStand t'' n (all_replaced t' by' numbers'))
    → IfOk r (λ n. AllStand t'' n (header_at table t element number))
header-stands r table t t' t'' by by' numbers numbers' header element number g known replaces same stand written alike h =
    let put : replacements_in t' by' ≡ replacements table (at t number) = ap (replacements_in t') same ∙ grown-replacements t t' by g known ∙ replaces in
    let types : map (at t') numbers' ≡ declared_supertypes table element = ap (map (at t')) alike ∙ stand.types ∙ written in
    let all : all_replaced t' by' numbers' ≡ header_at table t element number =
    maps_through (substituted (replacements_in t' by')) (at t') numbers'
    ∙ ap (λ (rs : Replacements). map (substituted rs) (map (at t') numbers')) put
    ∙ ap (map (substituted (replacements table (at t number)))) types in
    subst (λ (ms : List Mirror). IfOk r (λ n. AllStand t'' n ms)) all h

pub class-stands : {E : Type 0} (r : Result ℕ E) (table : TypeTable) (t t' : List Mirror) (by by' : Numbered) (owner number : ℕ) → Replaces table t by owner → by' ≡ by
    → IfOk r (λ n. Stands t' n (replaced_at t by' number)) → IfOk r (λ n. Stands t' n (in_class table t owner number))
class-stands r table t t' by by' owner number replaces same h =
    let put : replacements_in t by' ≡ replacements table (at t owner) = ap (replacements_in t) same ∙ replaces in
    subst (λ (rs : Replacements). IfOk r (λ n. Stands t' n (substituted rs (at t number)))) put h
