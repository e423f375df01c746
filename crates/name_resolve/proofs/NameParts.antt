-- The parts of a text one after another, and the names of a class type.
use Rattle.std.proofs.Common.{◌≡◌, ℕ, ◌==◌, true, false, List, [], ◌∷◌, ◌++◌, length, map, refl, sym, ap, ◌∙◌, append_assoc, arith}
use Rattle.std.proofs.lemmas.Bool.{eqb-true}
use Rattle.apt_base.specs.Identifiers.{parts, HasNoDot}
use Rattle.apt_base.proofs.Dotted.{parts-without, parts-split}
use Rattle.decl_tree.specs.declared.type_text.PrimitiveKind.{PrimitiveKind}
use Rattle.apt_base.specs.declared.around.Around.{Around}
use Rattle.decl_tree.specs.declared.type_text.BaseType.{BaseType, out-BaseType, out-roll-BaseType}
use Rattle.decl_tree.specs.declared.type_text.BaseType.TheVariants as base
use Rattle.decl_tree.specs.declared.type_text.BaseType.TheOpen.{BaseType-F}
use Rattle.decl_tree.specs.declared.type_text.NamedPart.{NamedPart}
use Rattle.decl_tree.specs.declared.type_text.TypeText.{TypeText, out-TypeText}
use Rattle.name_resolve.specs.Supertypes.{part_name, base_names, bare, names_in}
use Rattle.name_resolve.specs.Parts.{lent}
use Rattle.std.specs.Str.{bytes_eq}
use Rattle.name_resolve.specs.Meaning.{ends_in, but_last}
use Rattle.name_resolve.proofs.LookSteps.{ends_last, but_last-is}
use denote.Ref.{Bor}

pub texts_of-more : (names : List (Bor (List ℕ))) (name : Bor (List ℕ)) → lent (names ++ name ∷ []) ≡ lent names ++ name.now ∷ []
texts_of-more [] name = refl
texts_of-more (first ∷ more) name = ap (λ xs. first.now ∷ xs) (texts_of-more more name)

-- a part more of what is left
pub part_more : (text rest first after : List ℕ) (before : List (List ℕ)) → rest ≡ first ++ 46 ∷ after → HasNoDot first → before ++ parts rest ≡ parts text
    → (before ++ first ∷ []) ++ parts after ≡ parts text
part_more text rest first after before e none so_far =
    append_assoc before (first ∷ []) (parts after) ∙ ap (λ ps. before ++ ps) (sym (ap parts e ∙ parts-split first after none)) ∙ so_far

-- the last part
pub part_last : (text rest : List ℕ) (before : List (List ℕ)) → HasNoDot rest → before ++ parts rest ≡ parts text → before ++ rest ∷ [] ≡ parts text
part_last text rest before none so_far = ap (λ ps. before ++ ps) (sym (parts-without rest none)) ∙ so_far

-- ---- the names of a type, by its base

names-of : (b c : BaseType) (by : BaseType-F BaseType NamedPart TypeText) → b ≡ c → out-BaseType c ≡ by → base_names (out-BaseType b) ≡ base_names by
names-of b c by e o = ap (λ x. base_names (out-BaseType x)) e ∙ ap base_names o

pub names-Named : (b : BaseType) (parts : List NamedPart) → b ≡ base.Named parts → map part_name parts ≡ base_names (out-BaseType b)
names-Named b parts e = sym (names-of b (base.Named parts) (BaseType-F.Named parts) e (ap out-BaseType (sym (base.rolls-Named parts)) ∙ out-roll-BaseType (BaseType-F.Named parts)))

pub names-Primitive : (b : BaseType) (kind : PrimitiveKind) → b ≡ base.Primitive kind → [] ≡ base_names (out-BaseType b)
names-Primitive b kind e =
    sym (names-of b (base.Primitive kind) (BaseType-F.Primitive kind) e (ap out-BaseType (sym (base.rolls-Primitive kind)) ∙ out-roll-BaseType (BaseType-F.Primitive kind)))

pub names-Wildcard : (b : BaseType) → b ≡ base.Wildcard → [] ≡ base_names (out-BaseType b)
names-Wildcard b e = sym (names-of b base.Wildcard BaseType-F.Wildcard e (ap out-BaseType (sym base.rolls-Wildcard) ∙ out-roll-BaseType BaseType-F.Wildcard))

bare-empty : (around : List Around) (names : List (List ℕ)) → true ≡ (length around == 0) → names ≡ bare around names
bare-empty [] names e = refl
bare-empty (first ∷ more) names e = let none : length (first ∷ more) ≡ 0 = eqb-true (length (first ∷ more)) 0 (sym e) in absurd (omega arith)

bare-some : (around : List Around) (names : List (List ℕ)) → false ≡ (length around == 0) → [] ≡ bare around names
bare-some [] names e = absurd (cc)
bare-some (first ∷ more) names e = refl

pub names-bare : (text : TypeText) → true ≡ (length (out-TypeText text).around == 0) → base_names (out-BaseType (out-TypeText text).base) ≡ names_in text
unfolding names_in
names-bare text e = bare-empty (out-TypeText text).around (base_names (out-BaseType (out-TypeText text).base)) e

pub names-around : (text : TypeText) → false ≡ (length (out-TypeText text).around == 0) → [] ≡ names_in text
unfolding names_in
names-around text e = bare-some (out-TypeText text).around (base_names (out-BaseType (out-TypeText text).base)) e

-- ---- the last of some names, and those before it

module _ (names front : List (Bor (List ℕ))) (last : Bor (List ℕ)) (split : names ≡ front ++ last ∷ []) where
  texts : lent names ≡ lent front ++ last.now ∷ []
  texts = ap lent split ∙ texts_of-more front last

  pub ends-split : (name : List ℕ) → bytes_eq last.now name ≡ ends_in name (lent names)
  ends-split name = sym (ap (ends_in name) texts ∙ ends_last name last.now (lent front))

  pub front-split : lent front ≡ but_last (lent names)
  front-split = sym (ap but_last texts ∙ but_last-is last.now (lent front))
