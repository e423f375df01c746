-- A member is full since it begins one too many, by its fields, by its own children, or behind its modifiers.
use Rattle.std.proofs.Common.{◌≡◌, ℕ, ◌*◌, ◌≤◌, ◌<◌, Bool, true, false, eqb, List, [], ◌∷◌, ◌++◌, length, Option, Some, None, ◌⊎◌, inl, inr, refl, sym, ap, subst, ◌∙◌, append_assoc, ⊎_elim}
use Rattle.std.proofs.lemmas.Bool.{eqb-true}
use Rattle.apt_base.specs.Limits.{max_children}
use Rattle.decl_tree.specs.declared.annotation.AnnotationText.{AnnotationText}
use Rattle.decl_tree.specs.declared.declaration.TypeKind.{TypeKind}
use Rattle.decl_grammar.specs.declared.symbol.Symbol.{Symbol}
use Rattle.decl_grammar.specs.declared.written.MemberAt.{MemberAt}
use Rattle.decl_grammar.specs.declared.written.Modifiers.{Modifiers}
use Rattle.decl_grammar.specs.declared.written.TypeParamAt.{TypeParamAt}
use Rattle.decl_grammar.specs.Symbols.{numbers}
use Rattle.decl_grammar.specs.Reading.{has, starts, done}
use Rattle.decl_grammar.specs.Form.{Form, ats, pair, turn, many, terminal, modifier_words, nullable, first}
use Rattle.decl_grammar.specs.Types.{Mark, bit_mark, marked, with_marks, no_modifiers, list_or_none, annotation_body, annotation, annotations, modifier_annotation, modifier, type_modifiers, optional_params, type_params, name, type_form, base_type, primitive_type, class_type, named_part, named_text, dot_name, name_chain, first_pair, next_pair, pairs_or_value, annotation_arguments}
use Rattle.decl_grammar.specs.Grammar.{modified_form, member_form}
use Rattle.decl_grammar.specs.Rule.{reads}
use Rattle.decl_grammar.proofs.OneToken.{more, disjoint, one_or, not_both}
use Rattle.decl_limits.specs.Children.{Then, IsFull, NextParam, member_children, executable_heading, ExecutableFull}
use Rattle.decl_children.specs.Fronts.{SomeFront}
use Rattle.decl_children.specs.Members.{InType, MemberCrowds, TypeCrowds, FieldsFull, OwnFull, InnerFull}
use Rattle.decl_children.specs.Results.{result_form, ExecutableCrowds}
use Rattle.decl_crossings.proofs.PhraseReads.{whole-reads}
use Rattle.decl_children.proofs.CommaRows.{item-starts, opens-has, has-opens}
use Rattle.decl_children.proofs.Phrases.{Phrase, paired, turned, put-behind, put-before, at-right, none-there, row-nil, row-cons, moved, un-pair, un-turn, un-behind, un-before, un-maybe, un-cons, un-nil}
use Rattle.decl_children.proofs.ParamEnds.{starts-apart}
use Rattle.decl_children.proofs.Thens.{Behind-read, then-back}
use Rattle.decl_children.proofs.MemberRows.{member-reads}
use Rattle.decl_children.proofs.FileRows.{modifiers-sound, marked-goes}

-- ---- the cases

pub data MemberCase (k : TypeKind) (n : ℕ) (ts : List Symbol) : Type 0 where
  one_more : max_children ≤ n → starts (first (modified_form k)) ts ≡ true → MemberCase k n ts
  by_fields : SomeFront (FieldsFull k n) ts → MemberCase k n ts
  by_own : SomeFront (OwnFull k) ts → MemberCase k n ts
  by_inner : SomeFront (Then type_modifiers (λ (m : Modifiers) us. InnerFull us)) ts → MemberCase k n ts

pub member-case : (k : TypeKind) (n : ℕ) (ts : List Symbol) → MemberCrowds k n ts → MemberCase k n ts
member-case k n ts (us, vs, e, inl (t, one, opens, le)) =
    one_more le (ap (λ (zs : List Symbol). starts (first (modified_form k)) zs) (e ∙ ap (λ (zs : List Symbol). zs ++ vs) one) ∙ opens-has (modified_form k) t opens)
member-case k n ts (us, vs, e, inr (inl full)) = by_fields (us, vs, e, full)
member-case k n ts (us, vs, e, inr (inr (inl full))) = by_own (us, vs, e, full)
member-case k n ts (us, vs, e, inr (inr (inr full))) = by_inner (us, vs, e, full)

pub case-member : (k : TypeKind) (n : ℕ) (ts : List Symbol) → MemberCase k n ts → MemberCrowds k n ts
case-member k n [] (one_more le s) = absurd cc
case-member k n (t ∷ ts) (one_more le s) = (t ∷ [], ts, refl, inl (t, refl, has-opens (modified_form k) t s, le))
case-member k n ts (by_fields (us, vs, e, full)) = (us, vs, e, inr (inl full))
case-member k n ts (by_own (us, vs, e, full)) = (us, vs, e, inr (inr (inl full)))
case-member k n ts (by_inner (us, vs, e, full)) = (us, vs, e, inr (inr (inr full)))

-- its own children are those of the member that is read
pub own-reads : (k : TypeKind) (room : ℕ) (ts : List Symbol) → 3 * length ts ≤ room → SomeFront (OwnFull k) ts → (m : MemberAt) × (rest : List Symbol) × (reads room (member_form k) ts ≡ done (m ∷ []) rest) × (max_children < member_children m)
own-reads k room ts fits (us, vs, e, (m, is, lt)) =
    (m, vs, ap (λ (zs : List Symbol). reads room (member_form k) zs) e ∙ member-reads k room us vs (m ∷ []) (subst (λ (zs : List Symbol). 3 * length zs ≤ room) e fits) (record { is = is }), lt)

-- ---- annotations that may be modifiers

-- a modifier, and more of them
rows-joined : {A : Type 0} (f : Form A) (us vs : List Symbol) (xs ys : List A) → Phrase (many f) us xs → Phrase (many f) vs ys → Phrase (many f) (us ++ vs) (xs ++ ys)
rows-joined f us vs [] ys p q = moved (us ++ vs) (ap (λ (zs : List Symbol). zs ++ vs) (sym (un-nil p))) q
rows-joined f us vs (x ∷ xs) ys p q =
    let r = un-cons p in
    moved (us ++ vs) (sym (ap (λ (zs : List Symbol). zs ++ vs) r.parts ∙ append_assoc r.front r.back vs)) (row-cons r.first (rows-joined f r.back vs xs ys r.second q))

-- Annotations, the first of which are modifiers; what stands first of the others is none.
record Marks (us : List Symbol) : Type 0 where
  front : List Symbol
  back : List Symbol
  marks : List Mark
  others : List AnnotationText
  parts : us ≡ front ++ back
  are_marks : Phrase (many modifier) front marks
  are_others : Phrase annotations back others
  begins : (ks : List ℕ) → has ks 9 ≡ false → (vs : List Symbol) → starts ks vs ≡ false → starts ks (back ++ vs) ≡ false

as-mark : (t : Symbol) (us : List Symbol) (x : AnnotationText) → has (71 ∷ []) t.sort ≡ true → Phrase annotation_body us x → Phrase modifier (t ∷ us) (marked x)
unfolding modifier modifier_annotation
as-mark t us x s p =
    let sign_there : Phrase (terminal (71 ∷ [])) (t ∷ []) t = record { is = (0, (refl, s)) } in
    at-right (turn bit_mark (terminal modifier_words)) (turned marked (put-behind sign_there p))

at-nine : (n : ℕ) → has ats n ≡ true → has (71 ∷ []) n ≡ false → n ≡ 9
at-nine n a s = ⊎_elim (λ (e : eqb n 71 ≡ true). not_both (eqb n 71) e s) (λ (e : eqb n 9 ≡ true). eqb-true n 9 e) (one_or (eqb n 71) (eqb n 9) a)

split-marks : (us : List Symbol) (xs : List AnnotationText) → Phrase annotations us xs → Marks us
unfolding annotations annotation
split-marks us [] p = record { front = []; back = us; marks = []; others = []; parts = refl; are_marks = row-nil modifier; are_others = p; begins = λ ks n vs s. ap (λ (zs : List Symbol). starts ks (zs ++ vs)) (un-nil p) ∙ s }
split-marks us (x ∷ xs) p =
    let r = un-cons p in
    let b = un-behind r.first in
    let here : us ≡ b.value ∷ (b.back ++ r.back) = r.parts ∙ ap (λ (zs : List Symbol). zs ++ r.back) (b.parts ∙ ap (λ (zs : List Symbol). zs ++ b.back) b.first.is.1.0) in
    go b.value b.back r.back here b.first.is.1.1 b.second (split-marks r.back xs r.second) (has (71 ∷ []) b.value.sort) refl
  where
    go : (t : Symbol) (body later : List Symbol) → us ≡ t ∷ (body ++ later) → has ats t.sort ≡ true → Phrase annotation_body body x → Marks later → (c : Bool) → has (71 ∷ []) t.sort ≡ c → Marks us
    go t body later e a q m true s =
        record {
          front = (t ∷ body) ++ m.front;
          back = m.back;
          marks = marked x ∷ m.marks;
          others = m.others;
          parts = e ∙ (ap (λ (zs : List Symbol). (t ∷ body) ++ zs) m.parts ∙ sym (append_assoc (t ∷ body) m.front m.back));
          are_marks = row-cons (as-mark t body x s q) m.are_marks;
          are_others = m.are_others;
          begins = m.begins;
        }
    go t body later e a q m false s =
        record { front = []; back = us; marks = []; others = x ∷ xs; parts = refl; are_marks = row-nil modifier; are_others = p; begins = λ ks n vs z. ap (λ (zs : List Symbol). starts ks (zs ++ vs)) e ∙ (ap (λ (j : ℕ). has ks j) (at-nine t.sort a s) ∙ n) }

-- ---- behind the modifiers

abbrev named_form : Form (Option (Unit {0}) × List ℕ)
named_form = pair result_form name

named-never : nullable named_form ≡ false
unfolding name
named-never = refl

named-apart : disjoint (first named_form) (more type_modifiers) ≡ true
unfolding numbers name named_text dot_name name_chain first_pair next_pair pairs_or_value annotation_arguments annotation_body modifier_annotation modifier type_modifiers annotation named_part class_type primitive_type base_type type_form
named-apart = refl

less-apart : disjoint (75 ∷ []) (more type_modifiers) ≡ true
unfolding numbers name named_text dot_name name_chain first_pair next_pair pairs_or_value annotation_arguments annotation_body modifier_annotation modifier type_modifiers
less-apart = refl

nine-apart : has (more type_modifiers) 9 ≡ false
unfolding numbers name named_text dot_name name_chain first_pair next_pair pairs_or_value annotation_arguments annotation_body modifier_annotation modifier type_modifiers
nine-apart = refl

params-first : first type_params ≡ 75 ∷ []
unfolding type_params
params-first = refl

params-never : nullable type_params ≡ false
unfolding type_params
params-never = refl

-- the modifiers are read, and behind them a type, or a method or a constructor is full
pub record Inner (room : ℕ) (ts : List Symbol) : Type 0 where
  pub modifiers : Modifiers
  pub rest : List Symbol
  pub there : reads room type_modifiers ts ≡ done modifiers rest
  pub crowds : TypeCrowds rest ⊎ ExecutableCrowds rest

-- modifiers up to a symbol that goes on with none
pub modifiers-read : (room : ℕ) (ts front rest : List Symbol) (m : Modifiers) → 3 * length ts ≤ room → ts ≡ front ++ rest → Phrase type_modifiers front m → starts (more type_modifiers) rest ≡ false → reads room type_modifiers ts ≡ done m rest
modifiers-read room ts front rest m fits e p s =
    ap (λ (zs : List Symbol). reads room type_modifiers zs) e ∙ whole-reads type_modifiers modifiers-sound room front rest m (subst (λ (zs : List Symbol). 3 * length zs ≤ room) e fits) s p.is

at-less : (room : ℕ) (ts front back vs : List Symbol) (m : Modifiers) → 3 * length ts ≤ room → ts ≡ front ++ (back ++ vs) → Phrase type_modifiers front m → starts (75 ∷ []) (back ++ vs) ≡ true → ExecutableFull back → Inner room ts
at-less room ts front back vs m fits e p s full =
    record {
      modifiers = m;
      rest = back ++ vs;
      there = modifiers-read room ts front (back ++ vs) m fits e p (starts-apart (75 ∷ []) (more type_modifiers) less-apart (back ++ vs) s);
      crowds = inr (back, vs, refl, full);
    }

-- a method or a constructor without type parameters: annotations before its result are modifiers
at-marks : (room : ℕ) (ts front marks named rest vs : List Symbol) (m : Modifiers) (xs : List AnnotationText) (x : Option (Unit {0}) × List ℕ) → 3 * length ts ≤ room → ts ≡ front ++ (marks ++ (named ++ (rest ++ vs))) → Phrase type_modifiers front m
    → Phrase annotations marks xs → Phrase named_form named x → IsFull NextParam 0 rest → Inner room ts
unfolding type_modifiers executable_heading optional_params
at-marks room ts front marks named rest vs m xs x fits e p q r full =
    let k = split-marks marks xs q in
    let t = un-turn p in
    let all = rows-joined modifier front k.front t.value k.marks t.whole k.are_marks in
    let behind_all : List Symbol = k.back ++ (named ++ (rest ++ vs)) in
    let cut : ts ≡ (front ++ k.front) ++ behind_all =
    e ∙ (ap (λ (zs : List Symbol). front ++ zs) (ap (λ (zs : List Symbol). zs ++ (named ++ (rest ++ vs))) k.parts ∙ append_assoc k.front k.back (named ++ (rest ++ vs))) ∙ sym (append_assoc front k.front behind_all)) in
    let stops = k.begins (more type_modifiers) nine-apart (named ++ (rest ++ vs)) (starts-apart (first named_form) (more type_modifiers) named-apart (named ++ (rest ++ vs)) (item-starts named_form named-never named (rest ++ vs) x r.is)) in
    let heading = turned length (put-before (turned list_or_none (none-there type_params)) (paired k.are_others r)) in
    let parts : behind_all ≡ ((k.back ++ named) ++ rest) ++ vs = sym (append_assoc (k.back ++ named) rest vs ∙ append_assoc k.back named (rest ++ vs)) in
    record {
      modifiers = with_marks no_modifiers (t.value ++ k.marks);
      rest = behind_all;
      there = modifiers-read room ts (front ++ k.front) behind_all (with_marks no_modifiers (t.value ++ k.marks)) fits cut (turned (with_marks no_modifiers) all) stops;
      crowds = inr ((k.back ++ named) ++ rest, vs, parts, inr (k.back ++ named, rest, 0, refl, heading.is, full));
    }

-- the heading of a method or a constructor behind modifiers
at-heading : (room : ℕ) (ts front back vs : List Symbol) (m : Modifiers) → 3 * length ts ≤ room → ts ≡ front ++ (back ++ vs) → Phrase type_modifiers front m → Then executable_heading (IsFull NextParam) back → Inner room ts
unfolding executable_heading optional_params
at-heading room ts front back vs m fits e p (head, rest, n, cut, is, full) =
    let heading : Phrase executable_heading head n = record { is = is } in
    let t = un-turn heading in
    let b = un-before t.whole in
    let q = un-pair b.second in
    let o = un-turn b.first in
    ⊎_elim
    (λ (z : (o.value ≡ None) × (b.front ≡ [])).
    let inner : back ++ vs ≡ q.front ++ (q.back ++ (rest ++ vs)) =
    ap (λ (zs : List Symbol). zs ++ vs) (cut ∙ ap (λ (zs : List Symbol). zs ++ rest) (b.parts ∙ (ap (λ (zs : List Symbol). zs ++ b.back) z.1 ∙ q.parts))) ∙ (append_assoc (q.front ++ q.back) rest vs ∙ append_assoc q.front q.back (rest ++ vs)) in
    let count : n ≡ 0 = t.is_value ∙ ap length (o.is_value ∙ ap list_or_none z.0) in
    at-marks room ts front q.front q.back rest vs m b.value.0 b.value.1 fits (e ∙ ap (λ (zs : List Symbol). front ++ zs) inner) p q.first q.second (subst (λ (j : ℕ). IsFull NextParam j rest) count full))
    (λ (z : (ps : List TypeParamAt) × (o.value ≡ Some ps) × Phrase type_params b.front ps).
    let begun = item-starts type_params params-never b.front (b.back ++ (rest ++ vs)) z.0 z.2.is in
    let here : back ++ vs ≡ b.front ++ (b.back ++ (rest ++ vs)) =
    ap (λ (zs : List Symbol). zs ++ vs) (cut ∙ ap (λ (zs : List Symbol). zs ++ rest) b.parts) ∙ (append_assoc (b.front ++ b.back) rest vs ∙ append_assoc b.front b.back (rest ++ vs)) in
    let less : starts (75 ∷ []) (back ++ vs) ≡ true = ap (λ (zs : List Symbol). starts (75 ∷ []) zs) here ∙ (ap (λ (ks : List ℕ). starts ks (b.front ++ (b.back ++ (rest ++ vs)))) (sym params-first) ∙ begun) in
    at-less room ts front back vs m fits e p less (inr (head, rest, n, cut, is, full)))
    (un-maybe o.whole)

type-inner : (room : ℕ) (ts : List Symbol) → Behind-read room type_modifiers (λ (m : Modifiers) us. InType us) ts → Inner room ts
type-inner room ts b = record { modifiers = b.value; rest = b.rest; there = b.there; crowds = inl b.holds }

pub inner-goes : (room : ℕ) (ts : List Symbol) → 3 * length ts ≤ room → SomeFront (Then type_modifiers (λ (m : Modifiers) us. InnerFull us)) ts → Inner room ts
inner-goes room ts fits (us, vs, e, (front, back, m, cut, is, inl full)) = type-inner room ts (marked-goes room ts fits (us, vs, e, (front, back, m, cut, is, full)))
inner-goes room ts fits (us, vs, e, (front, back, m, cut, is, inr (inl params))) =
    let less : starts (75 ∷ []) (back ++ vs) ≡ true = ap (λ (zs : List Symbol). starts (75 ∷ []) (zs ++ vs)) params.1.parts ∙ ap (λ (k : ℕ). has (75 ∷ []) k) params.1.is_opening in
    at-less room ts front back vs m fits (e ∙ (ap (λ (zs : List Symbol). zs ++ vs) cut ∙ append_assoc front back vs)) (record { is = is }) less (inl params)
inner-goes room ts fits (us, vs, e, (front, back, m, cut, is, inr (inr heading))) =
    at-heading room ts front back vs m fits (e ∙ (ap (λ (zs : List Symbol). zs ++ vs) cut ∙ append_assoc front back vs)) (record { is = is }) heading

-- and the other way round
pub inner-back : (room : ℕ) (ts rest : List Symbol) (m : Modifiers) → reads room type_modifiers ts ≡ done m rest → TypeCrowds rest ⊎ ExecutableCrowds rest → SomeFront (Then type_modifiers (λ (k : Modifiers) us. InnerFull us)) ts
inner-back room ts rest m e (inl (us, vs, parts, full)) = then-back room type_modifiers (λ (k : Modifiers) zs. InnerFull zs) ts m rest e (us, vs, parts, inl full)
inner-back room ts rest m e (inr (us, vs, parts, full)) = then-back room type_modifiers (λ (k : Modifiers) zs. InnerFull zs) ts m rest e (us, vs, parts, inr full)
