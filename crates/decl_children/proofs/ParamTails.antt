-- One parameter is read, and the ones behind it are too many just where all of them are.
use Rattle.std.proofs.Common.{◌≡◌, ℕ, suc, ◌+◌, ◌*◌, ◌≤◌, Bool, true, false, List, [], ◌∷◌, ◌++◌, drop, length, inl, inr, refl, sym, ap, subst, ◌∙◌, append_assoc, length-append, arith, ⊎_elim}
use Rattle.decl_tree.specs.declared.annotation.AnnotationText.{AnnotationText}
use Rattle.apt_base.specs.declared.around.Around.{Around}
use Rattle.decl_tree.specs.declared.type_text.BaseType.{BaseType}
use Rattle.decl_grammar.specs.declared.symbol.Symbol.{Symbol}
use Rattle.decl_grammar.specs.declared.written.Modifiers.{Modifiers}
use Rattle.decl_grammar.specs.declared.written.ParamAt.{ParamAt}
use Rattle.decl_grammar.specs.declared.written.ParamEnd.{ParamEnd}
use Rattle.decl_grammar.specs.declared.written.ParamEnd.TheVariants as param_end
use Rattle.decl_grammar.specs.Symbols.{operator, numbers}
use Rattle.decl_grammar.specs.TokenNames as token
use Rattle.decl_grammar.specs.Reading.{has, starts}
use Rattle.decl_grammar.specs.Form.{Form, ParamRest, pair, turn, many, nullable, first}
use Rattle.decl_grammar.specs.Types.{keyword, behind, with_marks, no_modifiers, name, annotation, annotations, annotation_body, annotation_arguments, pairs_or_value, first_pair, next_pair, named_text, dot_name, name_chain, primitive_type, base_type, class_type, named_part, next_part}
use Rattle.decl_grammar.specs.Grammar.{FirstRest, based, param_of, param_modifier, param_modifiers, param_ended, apply_rest, params_from, first_from, final_and, annotated_only, final_first, plain_first, behind_annotations, first_params}
use Rattle.decl_grammar.specs.Rule.{reads}
use Rattle.decl_grammar.proofs.OneToken.{ok, more, disjoint}
use Rattle.decl_grammar.proofs.Rivals.{plain}
use Rattle.decl_grammar.proofs.RuleFair.{fair}
use Rattle.decl_grammar.proofs.Knot.{IsSound, sound-plain}
use Rattle.decl_children.specs.ParamReads.{BasedRead, ParamRead, FirstBehind, FirstRead, arguments_of, takes_any, TailWhole}
use Rattle.decl_crossings.proofs.PhraseReads.{whole-reads, read-phrase}
use Rattle.decl_children.proofs.CommaRows.{item-starts}
use Rattle.decl_children.proofs.Phrases.{Phrase, paired, turned, put-behind, at-left, at-right, moved, means, un-pair, un-turn, un-behind, un-either}
use Rattle.decl_children.proofs.ParamForms.{rest_form}
use Rattle.decl_children.proofs.ParamEnds.{starts-apart}
use Rattle.decl_children.proofs.ParamLasts.{Tail, tail-starts}
use Rattle.decl_children.proofs.ParamSplits.{splits, grows}

-- ---- modifiers, the base of a type and annotations as forms

modifiers-ok : ok param_modifiers ≡ true
unfolding numbers name named_text dot_name name_chain first_pair next_pair pairs_or_value annotation_arguments annotation_body annotation param_modifier param_modifiers
modifiers-ok = refl

modifiers-plain : plain param_modifiers ≡ true
unfolding numbers name named_text dot_name name_chain first_pair next_pair pairs_or_value annotation_arguments annotation_body annotation param_modifier param_modifiers
modifiers-plain = refl

modifiers-sound : IsSound param_modifiers
modifiers-sound = sound-plain fair param_modifiers modifiers-ok modifiers-plain

base-ok : ok base_type ≡ true
unfolding numbers name named_text dot_name name_chain first_pair next_pair pairs_or_value annotation_arguments annotation_body annotation annotations primitive_type named_part next_part class_type base_type
base-ok = refl

base-plain : plain base_type ≡ true
unfolding numbers name named_text dot_name name_chain first_pair next_pair pairs_or_value annotation_arguments annotation_body annotation annotations primitive_type named_part next_part class_type base_type
base-plain = refl

base-sound : IsSound base_type
base-sound = sound-plain fair base_type base-ok base-plain

marks-ok : ok annotations ≡ true
unfolding numbers name named_text dot_name name_chain first_pair next_pair pairs_or_value annotation_arguments annotation_body annotation annotations
marks-ok = refl

marks-plain : plain annotations ≡ true
unfolding numbers name named_text dot_name name_chain first_pair next_pair pairs_or_value annotation_arguments annotation_body annotation annotations
marks-plain = refl

marks-sound : IsSound annotations
marks-sound = sound-plain fair annotations marks-ok marks-plain

base-never : nullable base_type ≡ false
unfolding base_type class_type named_part name primitive_type
base-never = refl

base-apart : disjoint (first base_type) (more param_modifiers) ≡ true
unfolding numbers name named_text dot_name name_chain first_pair next_pair pairs_or_value annotation_arguments annotation_body annotation annotations primitive_type named_part next_part class_type base_type param_modifier param_modifiers
base-apart = refl

rest-apart : (b : Bool) → disjoint (first (rest_form b)) (more base_type) ≡ true
unfolding numbers name named_text dot_name name_chain first_pair next_pair pairs_or_value annotation_arguments annotation_body annotation annotations primitive_type named_part next_part class_type base_type
rest-apart true = refl
rest-apart false = refl

rest-never : (b : Bool) → nullable (rest_form b) ≡ false
rest-never true = refl
rest-never false = refl

behind-apart : disjoint (first behind_annotations) (more annotations) ≡ true
unfolding numbers name named_text dot_name name_chain first_pair next_pair pairs_or_value annotation_arguments annotation_body annotation annotations primitive_type named_part next_part class_type base_type behind_annotations
behind-apart = refl

behind-never : nullable behind_annotations ≡ false
unfolding base_type class_type named_part name primitive_type behind_annotations
behind-never = refl

base-final : disjoint (first base_type) (27 ∷ []) ≡ true
unfolding base_type class_type named_part name primitive_type
base-final = refl

from-never : nullable params_from ≡ false
unfolding base_type class_type named_part name primitive_type param_modifier param_modifiers params_from
from-never = refl

first-never : nullable first_params ≡ false
unfolding base_type class_type named_part name primitive_type behind_annotations annotations first_params
first-never = refl

abbrev Fits : ℕ → List Symbol → Type 0
Fits room ts = 3 * length ts ≤ room

fits-same : (room : ℕ) (ts us : List Symbol) → ts ≡ us → Fits room ts → Fits room us
fits-same room ts us e fits = subst (λ (zs : List Symbol). Fits room zs) e fits

fits-behind : (room : ℕ) (us ts : List Symbol) → Fits room (us ++ ts) → Fits room ts
fits-behind room us ts fits = omega (arith, fits, length-append us ts)

-- ---- what an end and the parameters behind it are

record EndedAs (e : ParamEnd) (ps : List ParamAt × Bool) (items : List ParamAt) : Type 0 where
  later : List ParamAt
  is : ps ≡ (later, false)
  one : takes_any e ≡ false
  count : length items ≡ arguments_of e + length later

ended-as : (e : ParamEnd) (m : Modifiers) (of : BaseType) (ds : List Around) (ps : List ParamAt × Bool) (items : List ParamAt) → (items, false) ≡ param_ended e m of ds ps → EndedAs e ps items
ended-as (param_end.Named n bs) m of ds (qs, b) items e =
    let same : items ≡ param_of n bs m of ds ∷ qs = ap (λ (z : List ParamAt × Bool). z.0) e in
    let more_of : false ≡ b = ap (λ (z : List ParamAt × Bool). z.1) e in
    record { later = qs; is = ap (λ (c : Bool). (qs, c)) (sym more_of); one = refl; count = omega (arith, ap length same) }
ended-as (param_end.AnyNumber n) m of ds (qs, b) items e = absurd (let f : false ≡ true = ap (λ (z : List ParamAt × Bool). z.1) e in cc)
ended-as param_end.Receiver m of ds ps items e = record { later = items; is = sym e; one = refl; count = omega arith }

record EndedSo (e : ParamEnd) (m : Modifiers) (of : BaseType) (ds : List Around) (later : List ParamAt) : Type 0 where
  items : List ParamAt
  is : param_ended e m of ds (later, false) ≡ (items, false)
  count : length items ≡ arguments_of e + length later

ended-so : (e : ParamEnd) (m : Modifiers) (of : BaseType) (ds : List Around) (later : List ParamAt) → takes_any e ≡ false → EndedSo e m of ds later
ended-so (param_end.Named n bs) m of ds later one = record { items = param_of n bs m of ds ∷ later; is = refl; count = omega arith }
ended-so (param_end.AnyNumber n) m of ds later one = absurd cc
ended-so param_end.Receiver m of ds later one = record { items = later; is = refl; count = omega arith }

tail-whole : (ts : List Symbol) (ps : List ParamAt × Bool) (later : List ParamAt) → ps ≡ (later, false) → Tail ts ps → TailWhole ts later
tail-whole ts ps later e (inl t) = inl (t.0, ap (λ (z : List ParamAt × Bool). z.0) (sym e ∙ t.1))
tail-whole ts ps later e (inr p) = inr (means (later, false) e p).is

-- ---- taken apart

-- the first of these parameters is read so, and the others stand behind it
pub record Apart (R : List Symbol → ParamEnd → List Symbol → Type 0) (us ws : List Symbol) (items : List ParamAt) : Type 0 where
  pub end : ParamEnd
  pub back : List Symbol
  pub later : List ParamAt
  pub there : R (us ++ ws) end (back ++ ws)
  pub one : takes_any end ≡ false
  pub tail : TailWhole back later
  pub count : length items ≡ arguments_of end + length later

abbrev Followed : List Symbol → Type 0
Followed ws = (c : Symbol) × (vs : List Symbol) × (ws ≡ c ∷ vs) × (c.sort ≡ operator token.comma)

followed-starts : (ws : List Symbol) → Followed ws → starts (68 ∷ []) ws ≡ true
followed-starts ws f = ap (λ (ts : List Symbol). starts (68 ∷ []) ts) f.2 ∙ ap (λ (n : ℕ). has (68 ∷ []) n) f.3

followed-tails : (ws : List Symbol) → Followed ws → (ts : List Symbol) (ps : List ParamAt × Bool) → Tail ts ps → starts (68 ∷ []) (ts ++ ws) ≡ true
followed-tails ws f ts ps t = ap (λ (zs : List Symbol). starts (68 ∷ []) (ts ++ zs)) f.2 ∙ tail-starts ts ps t f.0 f.1 f.3

-- from the base of the type on
based-apart : (room : ℕ) (b : Bool) (us ws : List Symbol) (x : BaseType × ParamRest) (m : Modifiers) (items : List ParamAt) → Fits room (us ++ ws) → Followed ws → Phrase (based (rest_form b)) us x → (items, false) ≡ apply_rest (m, x)
    → Apart (BasedRead room b) us ws items
based-apart room b us ws x m items fits followed p e =
    let q = un-pair p in
    let all : us ++ ws ≡ q.front ++ (q.back ++ ws) = ap (λ (ts : List Symbol). ts ++ ws) q.parts ∙ append_assoc q.front q.back ws in
    let inner = fits-same room (us ++ ws) (q.front ++ (q.back ++ ws)) all fits in
    let stops = starts-apart (first (rest_form b)) (more base_type) (rest-apart b) (q.back ++ ws) (item-starts (rest_form b) (rest-never b) q.back ws x.1 q.second.is) in
    let of_read = whole-reads base_type base-sound room q.front (q.back ++ ws) x.0 inner stops q.first.is in
    let s = splits (suc (length q.back)) room b q.back x.1 ws (omega arith) (fits-behind room q.front (q.back ++ ws) inner) (followed-starts ws followed) (followed-tails ws followed) q.second in
    let a = ended-as x.1.1.0 m x.0 x.1.0 x.1.1.1 items e in
    record {
      end = x.1.1.0;
      back = s.back;
      later = a.later;
      there = (x.0, q.back ++ ws, ap (λ (ts : List Symbol). reads room base_type ts) all ∙ of_read, s.ends);
      one = a.one;
      tail = tail-whole s.back x.1.1.1 a.later a.is s.tail;
      count = a.count;
    }

-- from its modifiers on
marked-apart : (room : ℕ) (us vs ws : List Symbol) (k : Modifiers) (x : BaseType × ParamRest) (m : Modifiers) (items : List ParamAt) → Fits room ((us ++ vs) ++ ws) → Followed ws → Phrase param_modifiers us k → Phrase (based (rest_form false)) vs x
    → (items, false) ≡ apply_rest (m, x) → Apart (ParamRead room) (us ++ vs) ws items
marked-apart room us vs ws k x m items fits followed p q e =
    let all = append_assoc us vs ws in
    let inner = fits-same room ((us ++ vs) ++ ws) (us ++ (vs ++ ws)) all fits in
    let a = based-apart room false vs ws x m items (fits-behind room us (vs ++ ws) inner) followed q e in
    let r = un-pair q in
    let begun : starts (first base_type) (vs ++ ws) ≡ true =
    ap (λ (ts : List Symbol). starts (first base_type) ts) (ap (λ (ts : List Symbol). ts ++ ws) r.parts ∙ append_assoc r.front r.back ws) ∙ item-starts base_type base-never r.front (r.back ++ ws) x.0 r.first.is in
    let there = whole-reads param_modifiers modifiers-sound room us (vs ++ ws) k inner (starts-apart (first base_type) (more param_modifiers) base-apart (vs ++ ws) begun) p.is in
    record { end = a.end; back = a.back; later = a.later; there = (k, vs ++ ws, ap (λ (ts : List Symbol). reads room param_modifiers ts) all ∙ there, a.there); one = a.one; tail = a.tail; count = a.count }

apart-moved : (R : List Symbol → ParamEnd → List Symbol → Type 0) (us vs ws : List Symbol) (items : List ParamAt) → us ≡ vs → Apart R us ws items → Apart R vs ws items
apart-moved R us vs ws items e a = subst (λ (ts : List Symbol). Apart R ts ws items) e a

pub param-apart : (room : ℕ) (us ws : List Symbol) (items : List ParamAt) → Fits room (us ++ ws) → Followed ws → Phrase params_from us (items, false) → Apart (ParamRead room) us ws items
unfolding params_from
param-apart room us ws items fits followed p =
    let t = un-turn p in
    let q = un-pair t.whole in
    apart-moved (ParamRead room) (q.front ++ q.back) us ws items (sym q.parts)
    (marked-apart room q.front q.back ws t.value.0 t.value.1 t.value.0 items (fits-same room (us ++ ws) ((q.front ++ q.back) ++ ws) (ap (λ (ts : List Symbol). ts ++ ws) q.parts) fits) followed q.first q.second t.is_value)

-- the first one, behind its annotations
behind-apart-of : (room : ℕ) (us ws : List Symbol) (found : List AnnotationText) (f : FirstRest) (items : List ParamAt) → Fits room (us ++ ws) → Followed ws → Phrase behind_annotations us f → (items, false) ≡ f found → Apart (FirstBehind room) us ws items
unfolding behind_annotations param_modifiers
behind-apart-of room us ws found f items fits followed p e =
    ⊎_elim
    (λ (l : Phrase (turn final_first (behind (keyword token.final) (pair (many param_modifier) (based (rest_form false))))) us f).
    let t = un-turn l in
    let b = un-behind t.whole in
    let q = un-pair b.second in
    let word_alone : b.front ≡ b.value ∷ [] = b.first.is.1.0 in
    let all : us ++ ws ≡ b.value ∷ ((q.front ++ q.back) ++ ws) = ap (λ (ts : List Symbol). ts ++ ws) (b.parts ∙ (ap (λ (ts : List Symbol). ts ++ b.back) word_alone ∙ ap (λ (ts : List Symbol). b.value ∷ ts) q.parts)) in
    let inner : Fits room ((q.front ++ q.back) ++ ws) = omega (arith, fits, ap length all) in
    let a = marked-apart room q.front q.back ws (with_marks no_modifiers t.value.0) t.value.1 (with_marks (final_and found) t.value.0) items inner followed (turned (with_marks no_modifiers) q.first) q.second
    (e ∙ ap (λ (g : FirstRest). g found) t.is_value) in
    let begun : starts (27 ∷ []) (us ++ ws) ≡ true = ap (λ (ts : List Symbol). starts (27 ∷ []) ts) all ∙ b.first.is.1.1 in
    let there : ParamRead room (drop 1 (us ++ ws)) a.end (a.back ++ ws) = subst (λ (ts : List Symbol). ParamRead room (drop 1 ts) a.end (a.back ++ ws)) (sym all) a.there in
    record { end = a.end; back = a.back; later = a.later; there = inl (begun, there); one = a.one; tail = a.tail; count = a.count })
    (λ (r : Phrase (turn plain_first (based (rest_form true))) us f).
    let t = un-turn r in
    let a = based-apart room true us ws t.value (annotated_only found) items fits followed t.whole (e ∙ ap (λ (g : FirstRest). g found) t.is_value) in
    let q = un-pair t.whole in
    let begun : starts (first base_type) (us ++ ws) ≡ true =
    ap (λ (ts : List Symbol). starts (first base_type) ts) (ap (λ (ts : List Symbol). ts ++ ws) q.parts ∙ append_assoc q.front q.back ws) ∙ item-starts base_type base-never q.front (q.back ++ ws) t.value.0 q.first.is in
    record { end = a.end; back = a.back; later = a.later; there = inr (starts-apart (first base_type) (27 ∷ []) base-final (us ++ ws) begun, a.there); one = a.one; tail = a.tail; count = a.count })
    (un-either p)

pub first-apart : (room : ℕ) (us ws : List Symbol) (items : List ParamAt) → Fits room (us ++ ws) → Followed ws → Phrase first_params us (items, false) → Apart (FirstRead room) us ws items
unfolding first_params
first-apart room us ws items fits followed p =
    let t = un-turn p in
    let q = un-pair t.whole in
    let all : us ++ ws ≡ q.front ++ (q.back ++ ws) = ap (λ (ts : List Symbol). ts ++ ws) q.parts ∙ append_assoc q.front q.back ws in
    let inner = fits-same room (us ++ ws) (q.front ++ (q.back ++ ws)) all fits in
    let a = behind-apart-of room q.back ws t.value.0 t.value.1 items (fits-behind room q.front (q.back ++ ws) inner) followed q.second t.is_value in
    let begun = item-starts behind_annotations behind-never q.back ws t.value.1 q.second.is in
    let there = whole-reads annotations marks-sound room q.front (q.back ++ ws) t.value.0 inner (starts-apart (first behind_annotations) (more annotations) behind-apart (q.back ++ ws) begun) q.first.is in
    record { end = a.end; back = a.back; later = a.later; there = (t.value.0, q.back ++ ws, ap (λ (ts : List Symbol). reads room annotations ts) all ∙ there, a.there); one = a.one; tail = a.tail; count = a.count }

-- ---- put together

-- with parameters behind what was read they are parameters of this form
pub record Together (f : Form (List ParamAt × Bool)) (ts : List Symbol) (e : ParamEnd) (rest vs : List Symbol) (later : List ParamAt) : Type 0 where
  pub front : List Symbol
  pub items : List ParamAt
  pub parts : ts ≡ front ++ rest
  pub whole : Phrase f (front ++ vs) (items, false)
  pub count : length items ≡ arguments_of e + length later

record BasedTogether (b : Bool) (ts : List Symbol) (e : ParamEnd) (rest vs : List Symbol) (later : List ParamAt) : Type 0 where
  front : List Symbol
  of : BaseType
  around : List Around
  parts : ts ≡ front ++ rest
  whole : Phrase (based (rest_form b)) (front ++ vs) (of, (around, (e, (later, false))))

based-together : (room : ℕ) (b : Bool) (ts : List Symbol) (e : ParamEnd) (rest vs : List Symbol) (later : List ParamAt) → BasedRead room b ts e rest → takes_any e ≡ false → TailWhole vs later → BasedTogether b ts e rest vs later
based-together room b ts e rest vs later r one tail =
    let p = read-phrase base_type room ts r.0 r.1 r.2 in
    let g = grows r.3.0 room b r.1 e rest vs later r.3.1 one tail in
    let first_part : Phrase base_type p.0 r.0 = record { is = p.2 } in
    record {
      front = p.0 ++ g.front;
      of = r.0;
      around = g.around;
      parts = p.1 ∙ (ap (λ (zs : List Symbol). p.0 ++ zs) g.parts ∙ sym (append_assoc p.0 g.front rest));
      whole = moved ((p.0 ++ g.front) ++ vs) (sym (append_assoc p.0 g.front vs)) (paired first_part g.whole);
    }

pub param-together : (room : ℕ) (ts : List Symbol) (e : ParamEnd) (rest vs : List Symbol) (later : List ParamAt) → ParamRead room ts e rest → takes_any e ≡ false → TailWhole vs later → Together params_from ts e rest vs later
unfolding params_from
param-together room ts e rest vs later r one tail =
    let p = read-phrase param_modifiers room ts r.0 r.1 r.2 in
    let g = based-together room false r.1 e rest vs later r.3 one tail in
    let s = ended-so e r.0 g.of g.around later one in
    let marks : Phrase param_modifiers p.0 r.0 = record { is = p.2 } in
    record {
      front = p.0 ++ g.front;
      items = s.items;
      parts = p.1 ∙ (ap (λ (zs : List Symbol). p.0 ++ zs) g.parts ∙ sym (append_assoc p.0 g.front rest));
      whole = moved ((p.0 ++ g.front) ++ vs) (sym (append_assoc p.0 g.front vs)) (means (s.items, false) s.is (turned apply_rest (paired marks g.whole)));
      count = s.count;
    }

record BehindTogether (found : List AnnotationText) (ts : List Symbol) (e : ParamEnd) (rest vs : List Symbol) (later : List ParamAt) : Type 0 where
  front : List Symbol
  value : FirstRest
  items : List ParamAt
  parts : ts ≡ front ++ rest
  whole : Phrase behind_annotations (front ++ vs) value
  is : value found ≡ (items, false)
  count : length items ≡ arguments_of e + length later

final-together : (room : ℕ) (found : List AnnotationText) (ts : List Symbol) (e : ParamEnd) (rest vs : List Symbol) (later : List ParamAt) → starts (27 ∷ []) ts ≡ true → ParamRead room (drop 1 ts) e rest → takes_any e ≡ false → TailWhole vs later
    → BehindTogether found ts e rest vs later
unfolding behind_annotations param_modifiers
final-together room found [] e rest vs later s r one tail = absurd cc
final-together room found (t ∷ ts) e rest vs later s r one tail =
    let p = read-phrase param_modifiers room ts r.0 r.1 r.2 in
    let g = based-together room false r.1 e rest vs later r.3 one tail in
    let marks : Phrase param_modifiers p.0 r.0 = record { is = p.2 } in
    let k = un-turn marks in
    let z = ended-so e (with_marks (final_and found) k.value) g.of g.around later one in
    let word_there : Phrase (keyword token.final) (t ∷ []) t = record { is = (0, (refl, s)) } in
    let rest_there = put-behind word_there (paired k.whole g.whole) in
    record {
      front = t ∷ (p.0 ++ g.front);
      value = final_first (k.value, (g.of, (g.around, (e, (later, false)))));
      items = z.items;
      parts = ap (λ (zs : List Symbol). t ∷ zs) (p.1 ∙ (ap (λ (zs : List Symbol). p.0 ++ zs) g.parts ∙ sym (append_assoc p.0 g.front rest)));
      whole = moved (t ∷ ((p.0 ++ g.front) ++ vs)) (ap (λ (zs : List Symbol). t ∷ zs) (sym (append_assoc p.0 g.front vs))) (at-left (turn plain_first (based (rest_form true))) (turned final_first rest_there));
      is = z.is;
      count = z.count;
    }

plain-together : (room : ℕ) (found : List AnnotationText) (ts : List Symbol) (e : ParamEnd) (rest vs : List Symbol) (later : List ParamAt) → BasedRead room true ts e rest → takes_any e ≡ false → TailWhole vs later → BehindTogether found ts e rest vs later
unfolding behind_annotations
plain-together room found ts e rest vs later r one tail =
    let g = based-together room true ts e rest vs later r one tail in
    let z = ended-so e (annotated_only found) g.of g.around later one in
    record {
      front = g.front;
      value = plain_first (g.of, (g.around, (e, (later, false))));
      items = z.items;
      parts = g.parts;
      whole = at-right (turn final_first (behind (keyword token.final) (pair (many param_modifier) (based (rest_form false))))) (turned plain_first g.whole);
      is = z.is;
      count = z.count;
    }

behind-together : (room : ℕ) (found : List AnnotationText) (ts : List Symbol) (e : ParamEnd) (rest vs : List Symbol) (later : List ParamAt) → FirstBehind room ts e rest → takes_any e ≡ false → TailWhole vs later → BehindTogether found ts e rest vs later
behind-together room found ts e rest vs later (inl r) one tail = final-together room found ts e rest vs later r.0 r.1 one tail
behind-together room found ts e rest vs later (inr r) one tail = plain-together room found ts e rest vs later r.1 one tail

pub first-together : (room : ℕ) (ts : List Symbol) (e : ParamEnd) (rest vs : List Symbol) (later : List ParamAt) → FirstRead room ts e rest → takes_any e ≡ false → TailWhole vs later → Together first_params ts e rest vs later
unfolding first_params
first-together room ts e rest vs later r one tail =
    let p = read-phrase annotations room ts r.0 r.1 r.2 in
    let g = behind-together room r.0 r.1 e rest vs later r.3 one tail in
    let marks : Phrase annotations p.0 r.0 = record { is = p.2 } in
    record {
      front = p.0 ++ g.front;
      items = g.items;
      parts = p.1 ∙ (ap (λ (zs : List Symbol). p.0 ++ zs) g.parts ∙ sym (append_assoc p.0 g.front rest));
      whole = moved ((p.0 ++ g.front) ++ vs) (sym (append_assoc p.0 g.front vs)) (means (g.items, false) g.is (turned first_from (paired marks g.whole)));
      count = g.count;
    }
