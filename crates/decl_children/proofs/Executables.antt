-- The children of a method or a constructor, from behind its modifiers on.
use Rattle.std.proofs.Common.{◌≡◌, ℕ, ◌*◌, ◌≤◌, true, false, List, [], ◌∷◌, ◌++◌, Option, ◌⊎◌, length, inl, inr, refl, sym, ap, subst, ◌∙◌, append_assoc, length-append, arith}
use Rattle.decl_tree.specs.declared.annotation.AnnotationText.{AnnotationText}
use Rattle.decl_grammar.specs.declared.symbol.Symbol.{Symbol}
use Rattle.decl_grammar.specs.declared.written.TypeParamAt.{TypeParamAt}
use Rattle.decl_grammar.specs.Symbols.{numbers}
use Rattle.decl_grammar.specs.Reading.{has, starts, done}
use Rattle.decl_grammar.specs.Form.{Form, pair, nullable, first}
use Rattle.decl_grammar.specs.Types.{name, named_text, dot_name, name_chain, first_pair, next_pair, pairs_or_value, annotation_arguments, annotation_body, annotation, annotations, named_part, next_part, class_type, primitive_type, base_type, type_form, annotated_class, next_bound, bounds, type_param, next_type_param, type_params, optional_params}
use Rattle.decl_grammar.specs.Rule.{reads}
use Rattle.decl_grammar.proofs.OneToken.{ok, more, disjoint}
use Rattle.decl_grammar.proofs.Progress.{done_rest}
use Rattle.decl_grammar.proofs.Rivals.{plain}
use Rattle.decl_grammar.proofs.RuleFair.{fair}
use Rattle.decl_grammar.proofs.Knot.{IsSound, sound-plain}
use Rattle.decl_limits.specs.Children.{Then, IsFull, NextParam, executable_heading}
use Rattle.decl_children.specs.Fronts.{SomeFront}
use Rattle.decl_children.specs.Walks.{TypeParamsCrowd}
use Rattle.decl_children.specs.Results.{result_form, NamedCrowds, ExecutableCrowds}
use Rattle.decl_crossings.proofs.PhraseReads.{whole-reads, read-phrase}
use Rattle.decl_children.proofs.CommaRows.{item-starts}
use Rattle.decl_children.proofs.Phrases.{Phrase, paired, turned, put-before, un-pair, un-turn, un-before}
use Rattle.decl_children.proofs.ParamEnds.{starts-apart}

params-ok : ok optional_params ≡ true
unfolding numbers name named_text dot_name name_chain first_pair next_pair pairs_or_value annotation_arguments annotation_body annotation annotations named_part next_part class_type annotated_class next_bound bounds type_param next_type_param type_params optional_params
params-ok = refl

params-plain : plain optional_params ≡ true
unfolding numbers name named_text dot_name name_chain first_pair next_pair pairs_or_value annotation_arguments annotation_body annotation annotations named_part next_part class_type annotated_class next_bound bounds type_param next_type_param type_params optional_params
params-plain = refl

params-sound : IsSound optional_params
params-sound = sound-plain fair optional_params params-ok params-plain

marks-ok : ok annotations ≡ true
unfolding numbers name named_text dot_name name_chain first_pair next_pair pairs_or_value annotation_arguments annotation_body annotation annotations
marks-ok = refl

marks-plain : plain annotations ≡ true
unfolding numbers name named_text dot_name name_chain first_pair next_pair pairs_or_value annotation_arguments annotation_body annotation annotations
marks-plain = refl

marks-sound : IsSound annotations
marks-sound = sound-plain fair annotations marks-ok marks-plain

-- the result and the name, with annotations before them
abbrev named_form : Form (Option (Unit {0}) × List ℕ)
named_form = pair result_form name

abbrev marked_form : Form (List AnnotationText × (Option (Unit {0}) × List ℕ))
marked_form = pair annotations named_form

named-never : nullable named_form ≡ false
unfolding name
named-never = refl

marked-never : nullable marked_form ≡ false
unfolding name annotations
marked-never = refl

named-apart : disjoint (first named_form) (more annotations) ≡ true
unfolding numbers name named_text dot_name name_chain first_pair next_pair pairs_or_value annotation_arguments annotation_body annotation annotations named_part class_type primitive_type base_type type_form
named-apart = refl

marked-apart : disjoint (first marked_form) (more optional_params) ≡ true
unfolding numbers name annotation annotations named_part class_type primitive_type base_type type_form type_param type_params optional_params
marked-apart = refl

abbrev pub HeadCrowds : List Symbol → Type 0
HeadCrowds ts = SomeFront (Then executable_heading (IsFull NextParam)) ts

-- ---- in the type parameters, or behind them

pub in-params : (ts : List Symbol) → TypeParamsCrowd ts → ExecutableCrowds ts
in-params ts (us, vs, e, full) = (us, vs, e, inl full)

pub in-heading : (ts : List Symbol) → HeadCrowds ts → ExecutableCrowds ts
in-heading ts (us, vs, e, then) = (us, vs, e, inr then)

pub either-of : (ts : List Symbol) → ExecutableCrowds ts → TypeParamsCrowd ts ⊎ HeadCrowds ts
either-of ts (us, vs, e, inl full) = inl (us, vs, e, full)
either-of ts (us, vs, e, inr then) = inr (us, vs, e, then)

-- type parameters begin with `<`
pub params-open : (ts : List Symbol) → TypeParamsCrowd ts → starts (75 ∷ []) ts ≡ true
params-open ts (us, vs, e, (m, next, le)) =
    ap (λ (zs : List Symbol). starts (75 ∷ []) zs) (e ∙ ap (λ (zs : List Symbol). zs ++ vs) next.parts) ∙ ap (λ (k : ℕ). has (75 ∷ []) k) next.is_opening

-- ---- the heading is read

pub record Headed (room : ℕ) (ts : List Symbol) : Type 0 where
  pub params : List TypeParamAt
  pub marks : List AnnotationText
  pub mid : List Symbol
  pub rest : List Symbol
  pub params_read : reads room optional_params ts ≡ done params mid
  pub marks_read : reads room annotations mid ≡ done marks rest
  pub crowds : NamedCrowds (length params) rest

pub heading-goes : (room : ℕ) (ts : List Symbol) → 3 * length ts ≤ room → HeadCrowds ts → Headed room ts
unfolding executable_heading
heading-goes room ts fits (us, vs, e, (front, back, k, parts, is, full)) =
    let heading : Phrase executable_heading front k = record { is = is } in
    let t = un-turn heading in
    let b = un-before t.whole in
    let q = un-pair b.second in
    let ws = back ++ vs in
    let inner : List Symbol = q.front ++ (q.back ++ ws) in
    let all : ts ≡ b.front ++ inner =
    e ∙ (ap (λ (zs : List Symbol). zs ++ vs) parts ∙ (append_assoc front back vs ∙ (ap (λ (zs : List Symbol). zs ++ ws) b.parts
    ∙ (append_assoc b.front b.back ws ∙ ap (λ (zs : List Symbol). b.front ++ zs) (ap (λ (zs : List Symbol). zs ++ ws) q.parts ∙ append_assoc q.front q.back ws))))) in
    let begun : starts (first marked_form) inner ≡ true =
    ap (λ (zs : List Symbol). starts (first marked_form) zs) (sym (ap (λ (zs : List Symbol). zs ++ ws) q.parts ∙ append_assoc q.front q.back ws)) ∙ item-starts marked_form marked-never b.back ws b.value b.second.is in
    let fits_all : 3 * length (b.front ++ inner) ≤ room = omega (arith, fits, ap length all) in
    let fits_in : 3 * length inner ≤ room = omega (arith, fits_all, length-append b.front inner) in
    let one = whole-reads optional_params params-sound room b.front inner t.value fits_all (starts-apart (first marked_form) (more optional_params) marked-apart inner begun) b.first.is in
    let other = whole-reads annotations marks-sound room q.front (q.back ++ ws) b.value.0 fits_in
    (starts-apart (first named_form) (more annotations) named-apart (q.back ++ ws) (item-starts named_form named-never q.back ws b.value.1 q.second.is)) q.first.is in
    record {
      params = t.value;
      marks = b.value.0;
      mid = inner;
      rest = q.back ++ ws;
      params_read = ap (λ (zs : List Symbol). reads room optional_params zs) all ∙ one;
      marks_read = other;
      crowds = (q.back ++ back, vs, sym (append_assoc q.back back vs), (q.back, back, b.value.1, refl, q.second.is, subst (λ (n : ℕ). IsFull NextParam n back) t.is_value full));
    }

pub heading-back : (room : ℕ) (ts mid rest : List Symbol) (params : List TypeParamAt) (marks : List AnnotationText) → reads room optional_params ts ≡ done params mid → reads room annotations mid ≡ done marks rest → NamedCrowds (length params) rest → HeadCrowds ts
unfolding executable_heading
heading-back room ts mid rest params marks e d (us, vs, parts, (front, back, x, cut, is, full)) =
    let p = read-phrase optional_params room ts params mid e in
    let q = read-phrase annotations room mid marks rest d in
    let one : Phrase optional_params p.0 params = record { is = p.2 } in
    let two : Phrase annotations q.0 marks = record { is = q.2 } in
    let three : Phrase named_form front x = record { is = is } in
    let heading : Phrase executable_heading (p.0 ++ (q.0 ++ front)) (length params) = turned length (put-before one (paired two three)) in
    let all : ts ≡ ((p.0 ++ (q.0 ++ front)) ++ back) ++ vs =
    p.1 ∙ (ap (λ (zs : List Symbol). p.0 ++ zs) (q.1 ∙ (ap (λ (zs : List Symbol). q.0 ++ zs) (parts ∙ (ap (λ (zs : List Symbol). zs ++ vs) cut ∙ append_assoc front back vs)) ∙ sym (append_assoc q.0 front (back ++ vs))))
    ∙ (sym (append_assoc p.0 (q.0 ++ front) (back ++ vs)) ∙ sym (append_assoc (p.0 ++ (q.0 ++ front)) back vs))) in
    ((p.0 ++ (q.0 ++ front)) ++ back, vs, all, (p.0 ++ (q.0 ++ front), back, length params, refl, heading.is, full))

-- what is read is one thing
pub headed-as : (room : ℕ) (ts mid rest : List Symbol) (params : List TypeParamAt) (marks : List AnnotationText) → reads room optional_params ts ≡ done params mid → reads room annotations mid ≡ done marks rest → Headed room ts → NamedCrowds (length params) rest
headed-as room ts mid rest params marks e d h =
    let one : done h.params h.mid ≡ done params mid = sym h.params_read ∙ e in
    let same : h.mid ≡ mid = done_rest h.params params h.mid mid one in
    let other : done h.marks h.rest ≡ done marks rest = sym h.marks_read ∙ (ap (λ (zs : List Symbol). reads room annotations zs) same ∙ d) in
    let values : h.params ≡ params = values-same h.params params h.mid mid one in
    subst (λ (zs : List Symbol). NamedCrowds (length params) zs) (done_rest h.marks marks h.rest rest other) (subst (λ (ps : List TypeParamAt). NamedCrowds (length ps) h.rest) values h.crowds)
  where
    values-same : {A : Type 0} (x y : A) (a b : List Symbol) → done x a ≡ done y b → x ≡ y
    values-same x y a b same = cc
