-- A top-level type with its modifiers, or a `;`: when it is full, and how far it goes.
use Rattle.std.proofs.Common.{◌≡◌, ℕ, ◌*◌, ◌≤◌, true, false, List, [], ◌∷◌, ◌++◌, drop, length, None, ◌⊎◌, ⊎_elim, refl, sym, ap, subst, ◌∙◌, append_assoc}
use Rattle.std.proofs.lemmas.Bool.{eqb-true}
use Rattle.decl_grammar.specs.declared.symbol.Symbol.{Symbol}
use Rattle.decl_grammar.specs.declared.written.Modifiers.{Modifiers}
use Rattle.decl_grammar.specs.Symbols.{numbers}
use Rattle.decl_grammar.specs.TokenNames as token
use Rattle.decl_grammar.specs.Reading.{has, starts, done}
use Rattle.decl_grammar.specs.Form.{first, first_of, nested_type, nullable, turn, seen}
use Rattle.decl_grammar.specs.Types.{sign, name, named_text, dot_name, name_chain, first_pair, next_pair, pairs_or_value, annotation_arguments, annotation_body, modifier_annotation, modifier, type_modifiers}
use Rattle.decl_grammar.specs.Grammar.{class_form, interface_form, annotation_form, enum_form, type_rest, modified_type, top_type, no_type, top_declared, first_doc}
use Rattle.decl_grammar.specs.Rule.{reads}
use Rattle.decl_grammar.proofs.Progress.{done_rest}
use Rattle.decl_grammar.proofs.OneToken.{more, disjoint, not_both, within, within-has}
use Rattle.decl_children.specs.Members.{InType, TypeCrowds}
use Rattle.decl_children.specs.TypeWalks.{TypeEnds}
use Rattle.decl_children.specs.TopSteps.{TopCrowds, TopEnds}
use Rattle.decl_crossings.proofs.PhraseReads.{read-phrase}
use Rattle.decl_children.proofs.CommaRows.{item-starts}
use Rattle.decl_children.proofs.Phrases.{Phrase, paired, turned, at-left, at-right, un-pair, un-turn, un-either}
use Rattle.decl_children.proofs.ParamEnds.{starts-apart}
use Rattle.decl_children.proofs.Thens.{then-back, then-as}
use Rattle.decl_children.proofs.FileRows.{marked-goes, then-begins, type-begins, BeginsWith}
use Rattle.decl_children.proofs.MemberCases.{modifiers-read}
use Rattle.decl_children.proofs.Passages.{seen-there, un-seen}

abbrev MarkedType : Modifiers → List Symbol → Type 0
MarkedType m us = InType us

-- ---- a `;`

abbrev top_firsts : List ℕ
top_firsts = first type_modifiers ++ first_of nested_type

marks-in : within (first type_modifiers) top_firsts ≡ true
unfolding modifier_annotation modifier type_modifiers
marks-in = refl

words-in : within (first_of nested_type) top_firsts ≡ true
unfolding modifier_annotation modifier type_modifiers
words-in = refl

firsts-semicolon : has top_firsts 67 ≡ false
unfolding modifier_annotation modifier type_modifiers
firsts-semicolon = refl

type-wider : BeginsWith top_firsts InType
type-wider us vs full = go (us ++ vs) (type-begins us vs full)
  where
    go : (ts : List Symbol) → starts (first_of nested_type) ts ≡ true → starts top_firsts ts ≡ true
    go [] s = absurd cc
    go (t ∷ ts) s = within-has (first_of nested_type) top_firsts t.sort words-in s

pub semicolon-not : (ts : List Symbol) → starts (67 ∷ []) ts ≡ true → TopCrowds ts → ⊥
semicolon-not ts s (us, vs, e, then) = go ts s (ap (λ (zs : List Symbol). starts top_firsts zs) e ∙ then-begins type_modifiers top_firsts MarkedType marks-in (λ m. type-wider) us vs then)
  where
    go : (zs : List Symbol) → starts (67 ∷ []) zs ≡ true → starts top_firsts zs ≡ true → ⊥
    go [] a b = absurd cc
    go (z ∷ zs) a b = not_both (has top_firsts z.sort) b (ap (λ (n : ℕ). has top_firsts n) (eqb-true z.sort 67 a) ∙ firsts-semicolon)

pub semicolon-end : (ts : List Symbol) → starts (67 ∷ []) ts ≡ true → TopEnds ts (drop 1 ts)
unfolding top_type
semicolon-end [] s = absurd cc
semicolon-end (t ∷ ts) s =
    let one : Phrase (sign token.semicolon) (t ∷ []) t = record { is = (0, (refl, s)) } in
    let whole = at-left (turn top_declared (seen first_doc modified_type)) (turned no_type one) in
    (None, (t ∷ [], refl, whole.is))

-- ---- a type with its modifiers

rest-words : disjoint (first_of nested_type) (more type_modifiers) ≡ true
unfolding numbers name named_text dot_name name_chain first_pair next_pair pairs_or_value annotation_arguments annotation_body modifier_annotation modifier type_modifiers
rest-words = refl

rest-first : first type_rest ≡ first_of nested_type
unfolding name class_form interface_form annotation_form enum_form type_rest
rest-first = refl

rest-never : nullable type_rest ≡ false
unfolding name class_form interface_form annotation_form enum_form type_rest
rest-never = refl

-- behind its modifiers a type ends here
pub record TopRead (room : ℕ) (ts rest : List Symbol) : Type 0 where
  pub mods : Modifiers
  pub mid : List Symbol
  pub there : reads room type_modifiers ts ≡ done mods mid
  pub ends : TypeEnds mid rest

pub top-read : (room : ℕ) (ts rest : List Symbol) → 3 * length ts ≤ room → starts (67 ∷ []) ts ≡ false → TopEnds ts rest → TopRead room ts rest
unfolding top_type modified_type
top-read room ts rest fits s (x, (us, e, is)) =
    let whole : Phrase top_type us x = record { is = is } in
    ⊎_elim
    (λ (q : Phrase (turn no_type (sign token.semicolon)) us x).
    let t = un-turn q in
    absurd (not_both (starts (67 ∷ []) ts) (ap (λ (zs : List Symbol). starts (67 ∷ []) zs) (e ∙ ap (λ (zs : List Symbol). zs ++ rest) t.whole.is.1.0) ∙ t.whole.is.1.1) s))
    (λ (q : Phrase (turn top_declared (seen first_doc modified_type)) us x).
    let t = un-turn q in
    let v = un-seen t.whole in
    let p = un-pair v.whole in
    let cut : ts ≡ p.front ++ (p.back ++ rest) = e ∙ (ap (λ (zs : List Symbol). zs ++ rest) p.parts ∙ append_assoc p.front p.back rest) in
    let begun : starts (first_of nested_type) (p.back ++ rest) ≡ true = ap (λ (ks : List ℕ). starts ks (p.back ++ rest)) (sym rest-first) ∙ item-starts type_rest rest-never p.back rest t.value.1.1 p.second.is in
    record {
      mods = t.value.1.0;
      mid = p.back ++ rest;
      there = modifiers-read room ts p.front (p.back ++ rest) t.value.1.0 fits cut p.first (starts-apart (first_of nested_type) (more type_modifiers) rest-words (p.back ++ rest) begun);
      ends = (t.value.1.1, (p.back, refl, p.second.is));
    })
    (un-either whole)

pub top-ends : (room : ℕ) (ts mid rest : List Symbol) (m : Modifiers) → reads room type_modifiers ts ≡ done m mid → TypeEnds mid rest → TopEnds ts rest
unfolding top_type modified_type
top-ends room ts mid rest m there (x, (us, e, is)) =
    let p = read-phrase type_modifiers room ts m mid there in
    let marks : Phrase type_modifiers p.0 m = record { is = p.2 } in
    let type_there : Phrase type_rest us x = record { is = is } in
    let whole = at-right (turn no_type (sign token.semicolon)) (turned top_declared (seen-there first_doc (paired marks type_there))) in
    (_, (p.0 ++ us, p.1 ∙ (ap (λ (zs : List Symbol). p.0 ++ zs) e ∙ sym (append_assoc p.0 us rest)), whole.is))

pub top-mid : (room : ℕ) (ts mid rest : List Symbol) (m : Modifiers) → reads room type_modifiers ts ≡ done m mid → TopRead room ts rest → TypeEnds mid rest
top-mid room ts mid rest m there r = subst (λ (zs : List Symbol). TypeEnds zs rest) (done_rest r.mods m r.mid mid (sym r.there ∙ there)) r.ends

pub top-full : (room : ℕ) (ts mid : List Symbol) (m : Modifiers) → reads room type_modifiers ts ≡ done m mid → TypeCrowds mid → TopCrowds ts
top-full room ts mid m there c = then-back room type_modifiers MarkedType ts m mid there c

pub full-top : (room : ℕ) (ts mid : List Symbol) (m : Modifiers) → 3 * length ts ≤ room → reads room type_modifiers ts ≡ done m mid → TopCrowds ts → TypeCrowds mid
full-top room ts mid m fits there c = then-as room type_modifiers MarkedType ts m mid there (marked-goes room ts fits c)

pub top-none : (room : ℕ) (ts : List Symbol) → 3 * length ts ≤ room → ((m : Modifiers) (mid : List Symbol) → reads room type_modifiers ts ≡ done m mid → ⊥) → TopCrowds ts → ⊥
top-none room ts fits none c = let b = marked-goes room ts fits c in none b.value b.rest b.there
