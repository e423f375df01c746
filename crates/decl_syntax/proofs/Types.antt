-- The spelling of types, by equations, and that their reader reads it.
use Rattle.std.proofs.Common.{◌≡◌, ℕ, zero, suc, ◌-◌, arith, Bool, true, List, [], ◌∷◌, ◌++◌, length, map, Option, Some, None, refl, sym, ap, subst, ◌∙◌, append_assoc}
use Rattle.std.specs.List.{flat_map}
use Rattle.apt_base.specs.Fields.{◌>>=◌}
use Rattle.apt_base.specs.Forms.{Reader, name_form, list_form, opt_form, all_fit, numbered, list_next}
use Rattle.apt_base.proofs.FieldsLemmas.{IsBytes, IsBytes-rest, bind_some, some_is}
use Rattle.apt_base.proofs.Readers.{Reads, Reads-none, Reads-text, Reads-numbered, Spells-variant, and_reads, opt_reads, list_reads, map_reads, same_reads}
use Rattle.decl_tree.specs.Legal.{part_fits, base_fits, inside_type, is_legal_type}
use Rattle.decl_tree.specs.declared.type_text.PrimitiveKind.{PrimitiveKind}
use Rattle.apt_base.specs.declared.around.Around.{Around}
use Rattle.decl_tree.specs.declared.type_text.BaseType.{BaseType, out-BaseType, roll-BaseType, roll-out-BaseType}
use Rattle.decl_tree.specs.declared.type_text.BaseType.TheVariants as base
use Rattle.decl_tree.specs.declared.type_text.BaseType.TheOpen.{BaseType-F}
use Rattle.decl_tree.specs.declared.type_text.BaseType.TheFolds.{fold-roll-BaseType, fold-roll-NamedPart, fold-roll-TypeText}
use Rattle.decl_tree.specs.declared.type_text.NamedPart.{NamedPart, out-NamedPart, roll-out-NamedPart, out-roll-NamedPart}
use Rattle.decl_tree.specs.declared.type_text.TypeText.{TypeText, out-TypeText, roll-TypeText, roll-out-TypeText, out-roll-TypeText}
use Rattle.decl_syntax.specs.declared.type_reading.BaseKind.{BaseKind}
use Rattle.decl_syntax.specs.declared.type_reading.BaseKind.TheVariants as of
use Rattle.decl_syntax.specs.Numbers.{primitive_number, primitive_of}
use Rattle.decl_syntax.specs.Shape.{spelled, around_form, base_step, part_step, type_step, base_form, part_form, type_form}
use Rattle.decl_syntax.specs.Reading.{opening_next, part_of, part_in, base_in, type_with, type_in, inside_next, type_next}
use Rattle.decl_syntax.proofs.NumbersLemmas.{primitive_back, primitive_on}
use Rattle.decl_syntax.proofs.Openings.{kind_form, opening-again, opening-spelled}

-- a list of spellings is spelled as the list of what they spell
pub list_form-spelled : {A : Type 0} (form : A → List ℕ) (xs : List A) → list_form spelled (map form xs) ≡ list_form form xs
list_form-spelled form xs = rw (lengths form xs, joins form xs) refl
  where
    lengths : {A : Type 0} (form : A → List ℕ) (xs : List A) → length (map form xs) ≡ length xs
    lengths form [] = refl
    lengths form (x ∷ xs) = ap suc (lengths form xs)

    joins : {A : Type 0} (form : A → List ℕ) (xs : List A) → flat_map spelled (map form xs) ≡ flat_map form xs
    joins form [] = refl
    joins form (x ∷ xs) = ap (λ (t : List ℕ). form x ++ t) (joins form xs)

-- ---- equations

pub base_form-Primitive : (kind : PrimitiveKind) → base_form (base.Primitive kind) ≡ 0 ∷ primitive_number kind ∷ []
unfolding base_form part_form type_form
base_form-Primitive kind = ap base_form (sym (base.rolls-Primitive kind)) ∙ fold-roll-BaseType (List ℕ) (List ℕ) (List ℕ) base_step part_step type_step (BaseType-F.Primitive kind)

pub base_form-Named : (parts : List NamedPart) → base_form (base.Named parts) ≡ 1 ∷ list_form part_form parts
unfolding base_form part_form type_form
base_form-Named parts =
    ap base_form (sym (base.rolls-Named parts)) ∙ fold-roll-BaseType (List ℕ) (List ℕ) (List ℕ) base_step part_step type_step (BaseType-F.Named parts)
    ∙ ap (λ (t : List ℕ). 1 ∷ t) (list_form-spelled part_form parts)

pub base_form-Wildcard : base_form base.Wildcard ≡ 3 ∷ 0 ∷ 0 ∷ []
unfolding base_form part_form type_form
base_form-Wildcard = ap base_form (sym base.rolls-Wildcard) ∙ fold-roll-BaseType (List ℕ) (List ℕ) (List ℕ) base_step part_step type_step BaseType-F.Wildcard

part_form-at : (name : List ℕ) (arguments : Option (List TypeText)) → part_form (part_of (name, arguments)) ≡ name_form name ++ opt_form (list_form type_form) arguments
unfolding base_form part_form type_form
part_form-at name None = fold-roll-NamedPart (List ℕ) (List ℕ) (List ℕ) base_step part_step type_step (record { name = name; arguments = None })
part_form-at name (Some types) =
    fold-roll-NamedPart (List ℕ) (List ℕ) (List ℕ) base_step part_step type_step (record { name = name; arguments = Some types })
    ∙ ap (λ (t : List ℕ). name_form name ++ (1 ∷ t)) (list_form-spelled type_form types)

pub part_form-is : (part : NamedPart) → part_form part ≡ name_form (out-NamedPart part).name ++ opt_form (list_form type_form) (out-NamedPart part).arguments
part_form-is part = ap part_form (sym (roll-out-NamedPart part)) ∙ part_form-at (out-NamedPart part).name (out-NamedPart part).arguments

type_form-at : (around : List Around) (of : BaseType) → type_form (roll-TypeText (record { around = around; base = of })) ≡ flat_map around_form around ++ base_form of
unfolding base_form part_form type_form
type_form-at around of = fold-roll-TypeText (List ℕ) (List ℕ) (List ℕ) base_step part_step type_step (record { around = around; base = of })

pub type_form-is : (text : TypeText) → type_form text ≡ flat_map around_form (out-TypeText text).around ++ base_form (out-TypeText text).base
type_form-is text = ap type_form (sym (roll-out-TypeText text)) ∙ type_form-at (out-TypeText text).around (out-TypeText text).base

-- ---- cases

pub base_cases : (Q : BaseType → Type 0) → ((kind : PrimitiveKind) → Q (base.Primitive kind)) → ((parts : List NamedPart) → Q (base.Named parts)) → Q base.Wildcard → (of : BaseType) → Q of
base_cases Q primitive named wildcard of =
    let M : BaseType-F BaseType NamedPart TypeText → Type 0 = λ x. Q (roll-BaseType x) in
    let at : M (out-BaseType of) = elim (out-BaseType of) as M [
      | BaseType-F.Primitive kind ↦ subst Q (sym (base.rolls-Primitive kind)) (primitive kind)
      | BaseType-F.Named parts ↦ subst Q (sym (base.rolls-Named parts)) (named parts)
      | BaseType-F.Wildcard ↦ subst Q (sym base.rolls-Wildcard) wildcard
    ] in
    subst Q (roll-out-BaseType of) at

-- ---- readers

module _ (inside : Reader TypeText) (fits : TypeText → Bool) where
  pub Reads-part : Reads inside type_form fits → Reads (part_in inside) part_form (part_fits fits)
  unfolding part_in
  Reads-part r =
      same_reads part_form (part_fits fits) (λ part. sym (part_form-is part)) (λ part. refl)
      (map_reads part_of (λ part. ((out-NamedPart part).name, (out-NamedPart part).arguments))
      (λ part. roll-out-NamedPart part) (λ x. ap (λ p. (p.name, p.arguments)) (out-roll-NamedPart (record { name = x.0; arguments = x.1 })))
      (and_reads Reads-text (opt_reads (list_reads r))))

  abbrev base_test : BaseType → Bool
  base_test of = base_fits fits (out-BaseType of)

  abbrev test : TypeText → Bool
  test text = base_test (out-TypeText text).base

  Reads-primitive : Reads (numbered primitive_of) (λ k. primitive_number k ∷ []) (λ k. true)
  Reads-primitive = Reads-numbered primitive_of primitive_number primitive_back primitive_on

  -- a base of this kind, and what follows its kind
  again_at : (kind : BaseKind) (of : BaseType) (tail : List ℕ) (around : List Around) (rest : List ℕ) → base_form of ≡ kind_form kind ++ tail → base_in inside kind (tail ++ rest) ≡ Some (of, rest)
      → type_in inside ((flat_map around_form around ++ base_form of) ++ rest) ≡ Some (roll-TypeText (record { around = around; base = of }), rest)
  unfolding type_in
  again_at kind of tail around rest e read =
      let front = flat_map around_form around in
      let whole : (front ++ base_form of) ++ rest ≡ front ++ (kind_form kind ++ (tail ++ rest)) =
      ap (λ (t : List ℕ). (front ++ t) ++ rest) e ∙ append_assoc front (kind_form kind ++ tail) rest ∙ ap (λ (t : List ℕ). front ++ t) (append_assoc (kind_form kind) tail rest) in
      ap (type_in inside) whole ∙ rw (opening-again around kind (tail ++ rest), read) refl

  again_base : Reads inside type_form fits → (of : BaseType) (around : List Around) (rest : List ℕ) → base_test of ≡ true
      → type_in inside ((flat_map around_form around ++ base_form of) ++ rest) ≡ Some (roll-TypeText (record { around = around; base = of }), rest)
  unfolding base_in
  again_base r = base_cases (λ of. (around : List Around) (rest : List ℕ) → base_test of ≡ true
      → type_in inside ((flat_map around_form around ++ base_form of) ++ rest) ≡ Some (roll-TypeText (record { around = around; base = of }), rest))
      (λ kind around rest h. again_at of.Primitive (base.Primitive kind) (primitive_number kind ∷ []) around rest (base_form-Primitive kind) (rw (Reads-primitive.again kind rest refl) refl))
      (λ parts around rest h. again_at of.Named (base.Named parts) (list_form part_form parts) around rest (base_form-Named parts)
      (rw ((list_reads (Reads-part r)).again parts rest (sym (ap (base_fits fits) (base.outs-Named parts)) ∙ h)) refl))
      (λ around rest h. again_at of.Wildcard base.Wildcard [] around rest base_form-Wildcard refl)

  spelled_base : Reads inside type_form fits → (kind : BaseKind) (bytes : List ℕ) (of : BaseType) (rest : List ℕ) → IsBytes bytes → base_in inside kind bytes ≡ Some (of, rest)
      → (kind_form kind ++ bytes ≡ base_form of ++ rest) × (base_test of ≡ true)
  unfolding base_in
  spelled_base r of.Primitive bytes of rest bs e =
      Spells-variant base_form base_test 0 base.Primitive (numbered primitive_of) (λ k. primitive_number k ∷ []) (λ k. true) base_form-Primitive (λ k. ap (base_fits fits) (base.outs-Primitive k)) Reads-primitive bytes of rest bs e
  spelled_base r of.Named bytes of rest bs e =
      Spells-variant base_form base_test 1 base.Named (list_next (part_in inside)) (list_form part_form) (all_fit (part_fits fits)) base_form-Named (λ parts. ap (base_fits fits) (base.outs-Named parts)) (list_reads (Reads-part r)) bytes of rest bs e
  spelled_base r of.Wildcard bytes of rest bs e =
      subst (λ (y : BaseType × List ℕ). (3 ∷ 0 ∷ 0 ∷ bytes ≡ base_form y.0 ++ y.1) × (base_test y.0 ≡ true)) (some_is (base.Wildcard, bytes) (of, rest) e)
      (ap (λ (t : List ℕ). t ++ bytes) (sym base_form-Wildcard), ap (base_fits fits) base.outs-Wildcard)

  spelled_type : Reads inside type_form fits → (bytes : List ℕ) (text : TypeText) (rest : List ℕ) → IsBytes bytes → type_in inside bytes ≡ Some (text, rest) → (bytes ≡ type_form text ++ rest) × (test text ≡ true)
  unfolding type_in
  spelled_type r bytes text rest bs e =
      let b = bind_some (opening_next bytes) (λ o. base_in inside o.0.kind o.1 >>= λ x. Some (type_with o.0 x.0, x.1)) (text, rest) e in
      let c = bind_some (base_in inside b.0.0.kind b.0.1) (λ x. Some (type_with b.0.0 x.0, x.1)) (text, rest) b.2 in
      let front = flat_map around_form b.0.0.around in
      let kind = kind_form b.0.0.kind in
      let one = opening-spelled bytes b.0.0 b.0.1 b.1 in
      let two = spelled_base r b.0.0.kind b.0.1 c.0.0 c.0.1 (IsBytes-rest (kind ++ b.0.1) kind b.0.1 refl (IsBytes-rest bytes front (kind ++ b.0.1) one bs)) c.1 in
      let whole : bytes ≡ type_form (type_with b.0.0 c.0.0) ++ c.0.1 =
      one ∙ ap (λ (t : List ℕ). front ++ t) two.0 ∙ sym (append_assoc front (base_form c.0.0) c.0.1) ∙ ap (λ (t : List ℕ). t ++ c.0.1) (sym (type_form-at b.0.0.around c.0.0)) in
      let legal : test (type_with b.0.0 c.0.0) ≡ true = ap (λ t. base_test t.base) (out-roll-TypeText (record { around = b.0.0.around; base = c.0.0 })) ∙ two.1 in
      subst (λ (y : TypeText × List ℕ). (bytes ≡ type_form y.0 ++ y.1) × (test y.0 ≡ true)) (some_is (type_with b.0.0 c.0.0, c.0.1) (text, rest) c.2) (whole, legal)

  pub Reads-type : Reads inside type_form fits → Reads (type_in inside) type_form test
  Reads-type r = record {
    again = λ text rest h. ap (λ (t : List ℕ). type_in inside (t ++ rest)) (type_form-is text) ∙ again_base r (out-TypeText text).base (out-TypeText text).around rest h
        ∙ ap (λ (x : TypeText). Some (x, rest)) (roll-out-TypeText text);
    spelled = spelled_type r;
  }

pub Reads-inside : (room : ℕ) → Reads (inside_next room) type_form (inside_type room)
unfolding inside_next inside_type
Reads-inside zero = Reads-none type_form
Reads-inside (suc room) = Reads-type (inside_next room) (inside_type room) (Reads-inside room)

pub Reads-type_next : (room : ℕ) → Reads (type_next room) type_form (is_legal_type room)
unfolding type_next is_legal_type
Reads-type_next room = Reads-type (inside_next room) (inside_type room) (Reads-inside room)

-- ---- how much may open

pub inside_next-none : (room : ℕ) (bytes : List ℕ) → room ≡ 0 → inside_next room bytes ≡ None
unfolding inside_next
inside_next-none room bytes e = ap (λ (n : ℕ). inside_next n bytes) e

pub inside_next-more : (room : ℕ) (bytes : List ℕ) → (room ≡ 0 → ⊥) → inside_next room bytes ≡ type_next (room - 1) bytes
unfolding inside_next type_next
inside_next-more zero bytes more = absurd (more refl)
inside_next-more (suc room) bytes more =
    let k : suc room - 1 ≡ room = omega arith in
    ap (λ (n : ℕ). type_in (inside_next n) bytes) (sym k)
