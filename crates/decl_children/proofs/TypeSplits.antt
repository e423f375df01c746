-- A type behind its modifiers is a heading and the members behind it, up to their `}`.
use Rattle.std.proofs.Common.{◌≡◌, ℕ, ◌+◌, List, [], ◌∷◌, ◌++◌, map, length, Option, Some, None, ◌⊎◌, inl, inr, refl, sym, ap, subst, ◌∙◌, append_assoc, arith}
use Rattle.std.proofs.lemmas.List.{length-map}
use Rattle.decl_tree.specs.declared.declaration.TypeKind.{TypeKind}
use Rattle.decl_tree.specs.declared.declaration.TypeKind.TheVariants as kind
use Rattle.decl_tree.specs.declared.type_text.TypeText.{TypeText}
use Rattle.decl_grammar.specs.declared.symbol.Symbol.{Symbol}
use Rattle.decl_grammar.specs.declared.written.MemberAt.{MemberAt}
use Rattle.decl_grammar.specs.declared.written.NameAt.{NameAt}
use Rattle.decl_grammar.specs.declared.written.TypeParamAt.{TypeParamAt}
use Rattle.decl_grammar.specs.declared.written.TypeRest.{TypeRest}
use Rattle.decl_grammar.specs.Form.{Form, names, terminal}
use Rattle.decl_grammar.specs.Types.{name, name_at, text_of, placed_name}
use Rattle.decl_grammar.specs.Grammar.{rest_of, class_form, interface_form, annotation_form, type_rest}
use Rattle.decl_limits.specs.Children.{no_children, declared_children, class_heading, interface_heading, annotation_heading}
use Rattle.decl_children.specs.Members.{closed_members}
use Rattle.decl_children.specs.TypeWalks.{has_constructor, added_to}
use Rattle.decl_children.proofs.Phrases.{Phrase, paired, turned, put-behind, put-before, moved, un-pair, un-turn, un-behind, un-before}
use Rattle.decl_children.proofs.Passages.{onto, under}

-- this many children, behind a heading with this many
pub record Split (k : TypeKind) (head : Form ℕ) (tail : Form (List MemberAt)) (us : List Symbol) (children : ℕ) : Type 0 where
  pub front : List Symbol
  pub back : List Symbol
  pub count : ℕ
  pub members : List MemberAt
  pub parts : us ≡ front ++ back
  pub heading : Phrase head front count
  pub others : Phrase tail back members
  pub total : children ≡ count + length members + added_to k (has_constructor members)

-- a type of these symbols, with this many children
pub record Joined (f : Form TypeRest) (us : List Symbol) (children : ℕ) : Type 0 where
  pub value : TypeRest
  pub whole : Phrase f us value
  pub total : declared_children value ≡ children

pub children-are : (k : TypeKind) (n : NameAt) (ps : List TypeParamAt) (above : Option TypeText) (types : List TypeText) (ms : List MemberAt)
    → declared_children (rest_of k n ps above types ms) ≡ length ps + length ms + added_to k (has_constructor ms)
children-are kind.Enum n ps above types ms = omega (arith, length-map ps (λ (p : TypeParamAt). p.param), length-map ms (λ (x : MemberAt). x.member))
children-are kind.Class n ps above types ms = omega (arith, length-map ps (λ (p : TypeParamAt). p.param), length-map ms (λ (x : MemberAt). x.member))
children-are kind.AnnotationType n ps above types ms = omega (arith, length-map ps (λ (p : TypeParamAt). p.param), length-map ms (λ (x : MemberAt). x.member))
children-are kind.Interface n ps above types ms = omega (arith, length-map ps (λ (p : TypeParamAt). p.param), length-map ms (λ (x : MemberAt). x.member))

-- a name, with its line or without
pub name-plain : {us : List Symbol} {n : NameAt} → Phrase name_at us n → Phrase name us n.name
unfolding name
name-plain {us = us} p =
    let t = un-turn p in
    subst (λ (x : List ℕ). Phrase name us x) (sym (ap (λ (n : NameAt). n.name) t.is_value)) (turned text_of t.whole)

pub record Placed (us : List Symbol) : Type 0 where
  pub value : NameAt
  pub whole : Phrase name_at us value

pub name-placed : {us : List Symbol} {n : List ℕ} → Phrase name us n → Placed us
unfolding name
name-placed p =
    let t = un-turn p in
    record { value = placed_name t.value; whole = turned placed_name t.whole }

-- ---- classes

pub class-out : (us : List Symbol) (x : TypeRest) → Phrase class_form us x → Split kind.Class class_heading (closed_members kind.Class) us (declared_children x)
unfolding class_form class_heading
class-out us x p =
    let t = un-turn p in
    let a = un-behind t.whole in
    let b = un-pair a.second in
    let c = un-pair b.second in
    let d = un-pair c.second in
    let e = un-pair d.second in
    let f = un-behind e.second in
    let v = t.value in
    record {
      front = a.front ++ (b.front ++ (c.front ++ (d.front ++ (e.front ++ f.front))));
      back = f.back;
      count = length v.1.0;
      members = v.1.1.1.1;
      parts = onto a.front _ f.back a.parts (onto b.front _ f.back b.parts (onto c.front _ f.back c.parts (onto d.front _ f.back d.parts (onto e.front _ f.back e.parts f.parts))));
      heading = turned length (put-behind a.first (put-behind (name-plain b.first) (put-before c.first (paired d.first (put-before e.first f.first)))));
      others = f.second;
      total = ap declared_children t.is_value ∙ children-are kind.Class v.0 v.1.0 v.1.1.0 v.1.1.1.0 v.1.1.1.1;
    }

pub class-in : (front back : List Symbol) (n : ℕ) (ms : List MemberAt) → Phrase class_heading front n → Phrase (closed_members kind.Class) back ms → Joined class_form (front ++ back) (n + length ms + added_to kind.Class (has_constructor ms))
unfolding class_form class_heading
class-in front back n ms p q =
    let t = un-turn p in
    let a = un-behind t.whole in
    let b = un-behind a.second in
    let c = un-before b.second in
    let d = un-pair c.second in
    let e = un-before d.second in
    let m = name-placed b.first in
    let g : NameAt × (List TypeParamAt × (Option TypeText × (List TypeText × List MemberAt))) → TypeRest = λ x. rest_of kind.Class x.0 x.1.0 x.1.1.0 x.1.1.1.0 x.1.1.1.1 in
    let whole = turned g (put-behind a.first (paired m.whole (paired c.first (paired d.first (paired e.first (put-behind e.second q)))))) in
    let parts : front ++ back ≡ a.front ++ (b.front ++ (c.front ++ (d.front ++ (e.front ++ (e.back ++ back))))) =
    under a.front _ back refl a.parts ∙ ap (λ (zs : List Symbol). a.front ++ zs) (under b.front _ back refl b.parts ∙ ap (λ (zs : List Symbol). b.front ++ zs) (under c.front _ back refl c.parts
    ∙ ap (λ (zs : List Symbol). c.front ++ zs) (under d.front _ back refl d.parts ∙ ap (λ (zs : List Symbol). d.front ++ zs) (under e.front _ back refl e.parts)))) in
    record {
      value = rest_of kind.Class m.value t.value c.value.0 c.value.1 ms;
      whole = moved (front ++ back) (sym parts) whole;
      total = children-are kind.Class m.value t.value c.value.0 c.value.1 ms ∙ ap (λ (j : ℕ). j + length ms + added_to kind.Class (has_constructor ms)) (sym t.is_value);
    }

-- ---- interfaces

pub interface-out : (us : List Symbol) (x : TypeRest) → Phrase interface_form us x → Split kind.Interface interface_heading (closed_members kind.Interface) us (declared_children x)
unfolding interface_form interface_heading
interface-out us x p =
    let t = un-turn p in
    let a = un-behind t.whole in
    let b = un-pair a.second in
    let c = un-pair b.second in
    let d = un-pair c.second in
    let e = un-behind d.second in
    let v = t.value in
    record {
      front = a.front ++ (b.front ++ (c.front ++ (d.front ++ e.front)));
      back = e.back;
      count = length v.1.0;
      members = v.1.1.1;
      parts = onto a.front _ e.back a.parts (onto b.front _ e.back b.parts (onto c.front _ e.back c.parts (onto d.front _ e.back d.parts e.parts)));
      heading = turned length (put-behind a.first (put-behind (name-plain b.first) (put-before c.first (put-before d.first e.first))));
      others = e.second;
      total = ap declared_children t.is_value ∙ children-are kind.Interface v.0 v.1.0 None v.1.1.0 v.1.1.1;
    }

pub interface-in : (front back : List Symbol) (n : ℕ) (ms : List MemberAt) → Phrase interface_heading front n → Phrase (closed_members kind.Interface) back ms → Joined interface_form (front ++ back) (n + length ms + added_to kind.Interface (has_constructor ms))
unfolding interface_form interface_heading
interface-in front back n ms p q =
    let t = un-turn p in
    let a = un-behind t.whole in
    let b = un-behind a.second in
    let c = un-before b.second in
    let d = un-before c.second in
    let m = name-placed b.first in
    let g : NameAt × (List TypeParamAt × (List TypeText × List MemberAt)) → TypeRest = λ x. rest_of kind.Interface x.0 x.1.0 None x.1.1.0 x.1.1.1 in
    let whole = turned g (put-behind a.first (paired m.whole (paired c.first (paired d.first (put-behind d.second q))))) in
    let parts : front ++ back ≡ a.front ++ (b.front ++ (c.front ++ (d.front ++ (d.back ++ back)))) =
    under a.front _ back refl a.parts ∙ ap (λ (zs : List Symbol). a.front ++ zs) (under b.front _ back refl b.parts ∙ ap (λ (zs : List Symbol). b.front ++ zs) (under c.front _ back refl c.parts
    ∙ ap (λ (zs : List Symbol). c.front ++ zs) (under d.front _ back refl d.parts))) in
    record {
      value = rest_of kind.Interface m.value t.value None c.value ms;
      whole = moved (front ++ back) (sym parts) whole;
      total = children-are kind.Interface m.value t.value None c.value ms ∙ ap (λ (j : ℕ). j + length ms + added_to kind.Interface (has_constructor ms)) (sym t.is_value);
    }

-- ---- annotation interfaces

pub annotation-out : (us : List Symbol) (x : TypeRest) → Phrase annotation_form us x → Split kind.AnnotationType annotation_heading (closed_members kind.AnnotationType) us (declared_children x)
unfolding annotation_form annotation_heading
annotation-out us x p =
    let t = un-turn p in
    let a = un-behind t.whole in
    let b = un-behind a.second in
    let c = un-pair b.second in
    let d = un-behind c.second in
    let v = t.value in
    record {
      front = a.front ++ (b.front ++ (c.front ++ d.front));
      back = d.back;
      count = 0;
      members = v.1;
      parts = onto a.front _ d.back a.parts (onto b.front _ d.back b.parts (onto c.front _ d.back c.parts d.parts));
      heading = turned no_children (put-behind a.first (put-behind b.first (put-before (name-plain c.first) d.first)));
      others = d.second;
      total = ap declared_children t.is_value ∙ children-are kind.AnnotationType v.0 [] None [] v.1;
    }

pub annotation-in : (front back : List Symbol) (n : ℕ) (ms : List MemberAt) → Phrase annotation_heading front n → Phrase (closed_members kind.AnnotationType) back ms
    → Joined annotation_form (front ++ back) (n + length ms + added_to kind.AnnotationType (has_constructor ms))
unfolding annotation_form annotation_heading
annotation-in front back n ms p q =
    let t = un-turn p in
    let a = un-behind t.whole in
    let b = un-behind a.second in
    let c = un-before b.second in
    let m = name-placed c.first in
    let g : NameAt × List MemberAt → TypeRest = λ x. rest_of kind.AnnotationType x.0 [] None [] x.1 in
    let whole = turned g (put-behind a.first (put-behind b.first (paired m.whole (put-behind c.second q)))) in
    let parts : front ++ back ≡ a.front ++ (b.front ++ (c.front ++ (c.back ++ back))) =
    under a.front _ back refl a.parts ∙ ap (λ (zs : List Symbol). a.front ++ zs) (under b.front _ back refl b.parts ∙ ap (λ (zs : List Symbol). b.front ++ zs) (under c.front _ back refl c.parts)) in
    record {
      value = rest_of kind.AnnotationType m.value [] None [] ms;
      whole = moved (front ++ back) (sym parts) whole;
      total = children-are kind.AnnotationType m.value [] None [] ms ∙ ap (λ (j : ℕ). j + length ms + added_to kind.AnnotationType (has_constructor ms)) (sym t.is_value);
    }
