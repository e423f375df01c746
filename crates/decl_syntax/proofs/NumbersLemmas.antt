-- The numbers of the small kinds: each kind has its own.
use Rattle.std.proofs.Common.{◌≡◌, ℕ, Bool, true, false, cond, eqb, Option, Some, None, refl, ap, ◌∙◌}
use Rattle.std.proofs.lemmas.Bool.{eqb-true}
use Rattle.decl_syntax.specs.Numbers.{primitive_number, primitive_of, kind_number, kind_of, import_number, import_of}
use Rattle.decl_tree.specs.declared.type_text.PrimitiveKind.{PrimitiveKind}
use Rattle.decl_tree.specs.declared.type_text.PrimitiveKind.TheVariants as primitive
use Rattle.decl_tree.specs.declared.declaration.TypeKind.{TypeKind}
use Rattle.decl_tree.specs.declared.declaration.TypeKind.TheVariants as kind
use Rattle.decl_tree.specs.declared.compilation.ImportKind.{ImportKind}
use Rattle.decl_tree.specs.declared.compilation.ImportKind.TheVariants as import

-- what a chain of tests gives has the number that was tested
abbrev IsNumbered : {K : Type 0} → (K → ℕ) → ℕ → Option K → Type 0
IsNumbered {K} number n found = (k : K) → found ≡ Some k → n ≡ number k

or_none : {K : Type 0} (number : K → ℕ) (n : ℕ) → IsNumbered number n None
or_none number n k e = absurd cc

or_else : {K : Type 0} (number : K → ℕ) (n : ℕ) (a : K) (other : Option K) → IsNumbered number n other → IsNumbered number n (cond (eqb n (number a)) (Some a) other)
or_else {K} number n a other rest =
    let M : Bool → Type 0 = λ v. eqb n (number a) ≡ v → IsNumbered number n (cond v (Some a) other) in
    let chosen : M (eqb n (number a)) = elim (eqb n (number a)) as M [
      | true ↦ λ is. λ k e. eqb-true n (number a) is ∙ ap number cc
      | false ↦ λ is. rest
    ] in
    chosen refl

pub primitive_back : (k : PrimitiveKind) → primitive_of (primitive_number k) ≡ Some k
primitive_back primitive.Boolean = refl
primitive_back primitive.Byte = refl
primitive_back primitive.Short = refl
primitive_back primitive.Int = refl
primitive_back primitive.Long = refl
primitive_back primitive.Char = refl
primitive_back primitive.Float = refl
primitive_back primitive.Double = refl
primitive_back primitive.Void = refl

pub primitive_on : (n : ℕ) (k : PrimitiveKind) → primitive_of n ≡ Some k → n ≡ primitive_number k
primitive_on n =
    or_else primitive_number n primitive.Boolean _ (or_else primitive_number n primitive.Byte _ (or_else primitive_number n primitive.Short _
    (or_else primitive_number n primitive.Int _ (or_else primitive_number n primitive.Long _ (or_else primitive_number n primitive.Char _
    (or_else primitive_number n primitive.Float _ (or_else primitive_number n primitive.Double _ (or_else primitive_number n primitive.Void _
    (or_none primitive_number n)))))))))

pub kind_back : (k : TypeKind) → kind_of (kind_number k) ≡ Some k
kind_back kind.Enum = refl
kind_back kind.Class = refl
kind_back kind.AnnotationType = refl
kind_back kind.Interface = refl

pub kind_on : (n : ℕ) (k : TypeKind) → kind_of n ≡ Some k → n ≡ kind_number k
kind_on n =
    or_else kind_number n kind.Enum _ (or_else kind_number n kind.Class _ (or_else kind_number n kind.AnnotationType _
    (or_else kind_number n kind.Interface _ (or_none kind_number n))))

pub import_back : (k : ImportKind) → import_of (import_number k) ≡ Some k
import_back import.Single = refl
import_back import.OnDemand = refl
import_back import.StaticSingle = refl
import_back import.StaticOnDemand = refl

pub import_on : (n : ℕ) (k : ImportKind) → import_of n ≡ Some k → n ≡ import_number k
import_on n =
    or_else import_number n import.Single _ (or_else import_number n import.OnDemand _ (or_else import_number n import.StaticSingle _
    (or_else import_number n import.StaticOnDemand _ (or_none import_number n))))
