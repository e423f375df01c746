-- A member hides and overrides none of another name.
use Rattle.std.proofs.Common.{◌≡◌, ℕ, Bool, true, false, not, ◌&&◌, ◌||◌, refl, ap, ◌∙◌}
use Rattle.std.specs.Str.{bytes_eq}
use Rattle.apt_base.specs.Elements.{same_element}
use Rattle.apt_base.specs.declared.element.ElementRef.{ElementRef}
use Rattle.apt_base.specs.Limits.{max_type_steps}
use Rattle.element_table.specs.TypeTable.{TypeTable}
use Rattle.type_levels.specs.Answers.{of_test, either, both}
use Rattle.type_levels.specs.declared.answer.Answer.TheVariants.{No}
use Rattle.type_elements.specs.MemberElements.{MemberName, FieldName, TypeName, MethodName, OfConstructor, NoName, member_name, same_method_name, are_namesakes, is_static, is_private, package_allows}
use Rattle.type_listing.specs.Namesakes.{name_key, OthersAreNotDisplaced}
use Rattle.type_overriding.specs.Overrides.{is_of_interface, is_below_both, has_subsignature, overrides}
use Rattle.type_listing.specs.Members.{hides_by_name, hides_method, displaces}

and_false : (b : Bool) → (b && false) ≡ false
and_false true = refl
and_false false = refl

hides_no_other : (m c : MemberName) → bytes_eq (name_key m) (name_key c) ≡ false → hides_by_name m c ≡ false
hides_no_other (FieldName x) (FieldName y) e = e
hides_no_other (TypeName x) (TypeName y) e = e
hides_no_other (FieldName x) (TypeName y) e = refl
hides_no_other (FieldName x) (MethodName y) e = refl
hides_no_other (FieldName x) OfConstructor e = refl
hides_no_other (FieldName x) NoName e = refl
hides_no_other (TypeName x) (FieldName y) e = refl
hides_no_other (TypeName x) (MethodName y) e = refl
hides_no_other (TypeName x) OfConstructor e = refl
hides_no_other (TypeName x) NoName e = refl
hides_no_other (MethodName x) c e = refl
hides_no_other OfConstructor c e = refl
hides_no_other NoName c e = refl

no_method_of_it : (m c : MemberName) → bytes_eq (name_key m) (name_key c) ≡ false → same_method_name m c ≡ false
no_method_of_it (MethodName x) (MethodName y) e = e
no_method_of_it (MethodName x) (FieldName y) e = refl
no_method_of_it (MethodName x) (TypeName y) e = refl
no_method_of_it (MethodName x) OfConstructor e = refl
no_method_of_it (MethodName x) NoName e = refl
no_method_of_it (FieldName x) c e = refl
no_method_of_it (TypeName x) c e = refl
no_method_of_it OfConstructor c e = refl
no_method_of_it NoName c e = refl

module _ (table : TypeTable) (t m c : ElementRef) (other : bytes_eq (name_key (member_name table m)) (name_key (member_name table c)) ≡ false) where
  no_namesakes : are_namesakes table m c ≡ false
  no_namesakes =
      ap (λ b. not (same_element m c) && b) (no_method_of_it (member_name table m) (member_name table c) other)
      ∙ and_false (not (same_element m c))

  hides_no_method : hides_method table t m c ≡ No
  hides_no_method =
      let e : (is_static table m && are_namesakes table m c) ≡ false = ap (λ b. is_static table m && b) no_namesakes ∙ and_false (is_static table m) in
      λ i. both (of_test (e i)) (has_subsignature table max_type_steps t m c)

  overrides_none : (n : ℕ) → overrides table n m c t ≡ No
  unfolding overrides
  overrides_none n =
      λ i. both (of_test (no_namesakes i && not (is_static table m) && not (is_static table c)
      && not (is_private table c) && package_allows table m c
      && (not (is_of_interface table m) || is_of_interface table c)))
      (both (is_below_both table n t m c) (has_subsignature table n t m c))

pub others_stay : OthersAreNotDisplaced
unfolding displaces
others_stay table t m c other =
    λ i. either (of_test (hides_no_other (member_name table m) (member_name table c) other i))
    (either (hides_no_method table t m c other i) (overrides_none table t m c other max_type_steps i))
