-- The end of a parameter is read step by step just where it stands in the rest of a parameter.
use Rattle.std.proofs.Common.{◌≡◌, ℕ, zero, suc, ◌*◌, ◌≤◌, Bool, true, false, cond, List, [], ◌∷◌, ◌++◌, Option, Some, None, length, refl, sym, ap, subst, ◌∙◌, arith}
use Rattle.std.proofs.lemmas.Bool.{eqb-true}
use Rattle.decl_grammar.specs.declared.symbol.Symbol.{Symbol}
use Rattle.decl_grammar.specs.declared.written.ParamEnd.{ParamEnd}
use Rattle.decl_grammar.specs.Symbols.{numbers}
use Rattle.decl_grammar.specs.Reading.{has, starts, Outcome, done, ◌>>=◌}
use Rattle.decl_grammar.specs.Form.{Form, ats, either, nullable, first}
use Rattle.decl_grammar.specs.Types.{name, annotation, annotations, annotation_body, annotation_arguments, pairs_or_value, first_pair, next_pair, named_text, dot_name, name_chain}
use Rattle.decl_grammar.specs.Grammar.{varargs}
use Rattle.decl_grammar.specs.Rule.{WholeAt, reads}
use Rattle.decl_types.specs.Params.{bracket_step, varargs_step, annotated_step}
use Rattle.decl_grammar.proofs.OneToken.{ok, more, disjoint, disjoint-has}
use Rattle.decl_grammar.proofs.Rivals.{plain}
use Rattle.decl_grammar.proofs.RuleFair.{fair}
use Rattle.decl_grammar.proofs.Knot.{IsSound, sound-plain}
use Rattle.decl_grammar.proofs.Progress.{bind_done, done_rest}
use Rattle.decl_grammar.proofs.Heads.{Is-nil}
use Rattle.decl_grammar.proofs.Heights.{full-at}
use Rattle.decl_children.specs.ParamReads.{step_form, after_step, end_read, EndRead}
use Rattle.decl_crossings.proofs.PhraseReads.{whole-reads}
use Rattle.decl_children.proofs.CommaRows.{item-starts}
use Rattle.decl_children.proofs.Phrases.{Phrase}

-- ---- tests of the next symbol

pub starts-none : (ts : List Symbol) → starts [] ts ≡ false
starts-none [] = refl
starts-none (t ∷ ts) = refl

pub comma-stops : (ks : List ℕ) → has ks 68 ≡ false → (ts : List Symbol) → starts (68 ∷ []) ts ≡ true → starts ks ts ≡ false
comma-stops ks e [] s = refl
comma-stops ks e (t ∷ ts) s = subst (λ (n : ℕ). has ks n ≡ false) (sym (eqb-true t.sort 68 s)) e

pub starts-apart : (ks ls : List ℕ) → disjoint ks ls ≡ true → (ts : List Symbol) → starts ks ts ≡ true → starts ls ts ≡ false
starts-apart ks ls d [] s = refl
starts-apart ks ls d (t ∷ ts) s = disjoint-has ks ls t.sort d s

pub read-left : {A : Type 0} (f g : Form A) (room : ℕ) (ts : List Symbol) → starts (first f) ts ≡ true → reads room (either f g) ts ≡ reads room f ts
read-left f g room ts s = ap (λ (c : Bool). cond c (reads room f ts) (reads room g ts)) s

pub read-right : {A : Type 0} (f g : Form A) (room : ℕ) (ts : List Symbol) → starts (first f) ts ≡ false → reads room (either f g) ts ≡ reads room g ts
read-right f g room ts s = ap (λ (c : Bool). cond c (reads room f ts) (reads room g ts)) s

pub nonempty : {A : Type 0} (f : Form A) → nullable f ≡ false → (us : List Symbol) (x : A) → Phrase f us x → 1 ≤ length us
nonempty f never [] x p = absurd (no-both (sym (Is-nil (WholeAt p.is.0) (full-at p.is.0) f [] x refl p.is.1) ∙ never))
  where
    no-both : true ≡ false → ⊥
    no-both same = absurd cc
nonempty f never (t ∷ us) x p = omega arith

-- ---- the steps are read

bracket-sound : IsSound bracket_step
unfolding bracket_step
bracket-sound = sound-plain fair bracket_step refl refl

varargs-sound : IsSound varargs_step
unfolding varargs_step varargs
varargs-sound = sound-plain fair varargs_step refl refl

annotated-ok : ok annotated_step ≡ true
unfolding numbers name named_text dot_name name_chain first_pair next_pair pairs_or_value annotation_arguments annotation_body annotation annotations bracket_step varargs varargs_step annotated_step
annotated-ok = refl

annotated-plain : plain annotated_step ≡ true
unfolding numbers name named_text dot_name name_chain first_pair next_pair pairs_or_value annotation_arguments annotation_body annotation annotations bracket_step varargs varargs_step annotated_step
annotated-plain = refl

annotated-more : more annotated_step ≡ []
unfolding annotations bracket_step varargs varargs_step annotated_step
annotated-more = refl

annotated-sound : IsSound annotated_step
annotated-sound = sound-plain fair annotated_step annotated-ok annotated-plain

bracket-first : first bracket_step ≡ 65 ∷ []
unfolding bracket_step
bracket-first = refl

bracket-never : nullable bracket_step ≡ false
unfolding bracket_step
bracket-never = refl

bracket-more : more bracket_step ≡ []
unfolding bracket_step
bracket-more = refl

varargs-first : first varargs_step ≡ 70 ∷ []
unfolding varargs_step varargs
varargs-first = refl

varargs-never : nullable varargs_step ≡ false
unfolding varargs_step varargs
varargs-never = refl

varargs-more : more varargs_step ≡ []
unfolding varargs_step varargs
varargs-more = refl

annotated-first : first annotated_step ≡ ats
unfolding annotated_step annotation
annotated-first = refl

annotated-never : nullable annotated_step ≡ false
unfolding annotated_step annotation
annotated-never = refl

-- a step whose last alternative is this one
abbrev stepped : Form (Option ParamEnd) → Form (Option ParamEnd)
stepped last = either bracket_step (either annotated_step (either varargs_step last))

no-more : (ks : List ℕ) → ks ≡ [] → (ts : List Symbol) → starts ks ts ≡ false
no-more ks e ts = ap (λ (ls : List ℕ). starts ls ts) e ∙ starts-none ts

bracket-reads : (room : ℕ) (us ws : List Symbol) (o : Option ParamEnd) → 3 * length (us ++ ws) ≤ room → Phrase bracket_step us o → reads room bracket_step (us ++ ws) ≡ done o ws
bracket-reads room us ws o fits p = whole-reads bracket_step bracket-sound room us ws o fits (no-more (more bracket_step) bracket-more ws) p.is

annotated-reads : (room : ℕ) (us ws : List Symbol) (o : Option ParamEnd) → 3 * length (us ++ ws) ≤ room → Phrase annotated_step us o → reads room annotated_step (us ++ ws) ≡ done o ws
annotated-reads room us ws o fits p = whole-reads annotated_step annotated-sound room us ws o fits (no-more (more annotated_step) annotated-more ws) p.is

varargs-reads : (room : ℕ) (us ws : List Symbol) (o : Option ParamEnd) → 3 * length (us ++ ws) ≤ room → Phrase varargs_step us o → reads room varargs_step (us ++ ws) ≡ done o ws
varargs-reads room us ws o fits p = whole-reads varargs_step varargs-sound room us ws o fits (no-more (more varargs_step) varargs-more ws) p.is

pub at-bracket : (last : Form (Option ParamEnd)) (room : ℕ) (us ws : List Symbol) (o : Option ParamEnd) → 3 * length (us ++ ws) ≤ room → Phrase bracket_step us o → reads room (stepped last) (us ++ ws) ≡ done o ws
at-bracket last room us ws o fits p =
    read-left bracket_step (either annotated_step (either varargs_step last)) room (us ++ ws) (item-starts bracket_step bracket-never us ws o p.is) ∙ bracket-reads room us ws o fits p

no-bracket : (ks : List ℕ) → disjoint ks (65 ∷ []) ≡ true → (ts : List Symbol) → starts ks ts ≡ true → starts (first bracket_step) ts ≡ false
no-bracket ks d ts s = ap (λ (ls : List ℕ). starts ls ts) bracket-first ∙ starts-apart ks (65 ∷ []) d ts s

no-annotated : (ks : List ℕ) → disjoint ks ats ≡ true → (ts : List Symbol) → starts ks ts ≡ true → starts (first annotated_step) ts ≡ false
no-annotated ks d ts s = ap (λ (ls : List ℕ). starts ls ts) annotated-first ∙ starts-apart ks ats d ts s

no-varargs : (ks : List ℕ) → disjoint ks (70 ∷ []) ≡ true → (ts : List Symbol) → starts ks ts ≡ true → starts (first varargs_step) ts ≡ false
no-varargs ks d ts s = ap (λ (ls : List ℕ). starts ls ts) varargs-first ∙ starts-apart ks (70 ∷ []) d ts s

pub at-annotated : (last : Form (Option ParamEnd)) (room : ℕ) (us ws : List Symbol) (o : Option ParamEnd) → 3 * length (us ++ ws) ≤ room → Phrase annotated_step us o → reads room (stepped last) (us ++ ws) ≡ done o ws
at-annotated last room us ws o fits p =
    let s = item-starts annotated_step annotated-never us ws o p.is in
    let t : starts ats (us ++ ws) ≡ true = ap (λ (ks : List ℕ). starts ks (us ++ ws)) (sym annotated-first) ∙ s in
    read-right bracket_step (either annotated_step (either varargs_step last)) room (us ++ ws) (no-bracket ats refl (us ++ ws) t)
    ∙ (read-left annotated_step (either varargs_step last) room (us ++ ws) s ∙ annotated-reads room us ws o fits p)

pub at-varargs : (last : Form (Option ParamEnd)) (room : ℕ) (us ws : List Symbol) (o : Option ParamEnd) → 3 * length (us ++ ws) ≤ room → Phrase varargs_step us o → reads room (stepped last) (us ++ ws) ≡ done o ws
at-varargs last room us ws o fits p =
    let s = item-starts varargs_step varargs-never us ws o p.is in
    let t : starts (70 ∷ []) (us ++ ws) ≡ true = ap (λ (ks : List ℕ). starts ks (us ++ ws)) (sym varargs-first) ∙ s in
    read-right bracket_step (either annotated_step (either varargs_step last)) room (us ++ ws) (no-bracket (70 ∷ []) refl (us ++ ws) t)
    ∙ (read-right annotated_step (either varargs_step last) room (us ++ ws) (no-annotated (70 ∷ []) refl (us ++ ws) t)
    ∙ (read-left varargs_step last room (us ++ ws) s ∙ varargs-reads room us ws o fits p))

-- the last alternative, where it begins with none of what begins the others
pub at-last : (last : Form (Option ParamEnd)) (room : ℕ) (us ws : List Symbol) (o : Option ParamEnd) → nullable last ≡ false → disjoint (first last) (65 ∷ []) ≡ true → disjoint (first last) ats ≡ true → disjoint (first last) (70 ∷ []) ≡ true
    → Phrase last us o → reads room last (us ++ ws) ≡ done o ws → reads room (stepped last) (us ++ ws) ≡ done o ws
at-last last room us ws o never a b c p e =
    let s = item-starts last never us ws o p.is in
    read-right bracket_step (either annotated_step (either varargs_step last)) room (us ++ ws) (no-bracket (first last) a (us ++ ws) s)
    ∙ (read-right annotated_step (either varargs_step last) room (us ++ ws) (no-annotated (first last) b (us ++ ws) s)
    ∙ (read-right varargs_step last room (us ++ ws) (no-varargs (first last) c (us ++ ws) s) ∙ e))

-- ---- from a step to the end

pub end-none : (room : ℕ) (b : Bool) (ts after : List Symbol) (e : ParamEnd) (rest : List Symbol) → reads room (step_form b) ts ≡ done None after → EndRead room b after e rest → EndRead room b ts e rest
end-none room b ts after e rest read_there r = (suc r.0, ap (λ (o : Outcome (Option ParamEnd)). o >>= after_step (end_read r.0 room b)) read_there ∙ r.1)

pub end-some : (room : ℕ) (b : Bool) (ts : List Symbol) (e : ParamEnd) (rest : List Symbol) → reads room (step_form b) ts ≡ done (Some e) rest → EndRead room b ts e rest
end-some room b ts e rest read_there = (1, ap (λ (o : Outcome (Option ParamEnd)). o >>= after_step (end_read 0 room b)) read_there)

-- what is read first
pub end-first : (room : ℕ) (b : Bool) (ts : List Symbol) (e : ParamEnd) (rest : List Symbol) → EndRead room b ts e rest
    → (o : Option ParamEnd) × (at : List Symbol) × (reads room (step_form b) ts ≡ done o at) × ((k : ℕ) × (after_step (end_read k room b) o at ≡ done e rest))
end-first room b ts e rest (zero, r) = absurd cc
end-first room b ts e rest (suc k, r) =
    let p = bind_done (reads room (step_form b) ts) (after_step (end_read k room b)) e rest r in
    (p.0, p.1, p.2, (k, p.3))

pub done-value : {A : Type 0} (x y : A) (a b : List Symbol) → done x a ≡ done y b → x ≡ y
done-value x y a b e = cc

pub end-behind : (room : ℕ) (b : Bool) (ts after : List Symbol) (e : ParamEnd) (rest : List Symbol) → reads room (step_form b) ts ≡ done None after → EndRead room b ts e rest → EndRead room b after e rest
end-behind room b ts after e rest read_there r =
    let p = end-first room b ts e rest r in
    let same : done p.0 p.1 ≡ done None after = sym p.2 ∙ read_there in (
      p.3.0,
      subst (λ (a : List Symbol). end_read p.3.0 room b a ≡ done e rest) (done_rest p.0 None p.1 after same)
          (subst (λ (o : Option ParamEnd). after_step (end_read p.3.0 room b) o p.1 ≡ done e rest) (done-value p.0 None p.1 after same) p.3.1),
    )

pub end-here : (room : ℕ) (b : Bool) (ts after : List Symbol) (d e : ParamEnd) (rest : List Symbol) → reads room (step_form b) ts ≡ done (Some d) after → EndRead room b ts e rest → done d after ≡ done e rest
end-here room b ts after d e rest read_there r =
    let p = end-first room b ts e rest r in
    let same : done p.0 p.1 ≡ done (Some d) after = sym p.2 ∙ read_there in
    let here : after_step (end_read p.3.0 room b) (Some d) p.1 ≡ done e rest = subst (λ (o : Option ParamEnd). after_step (end_read p.3.0 room b) o p.1 ≡ done e rest) (done-value p.0 (Some d) p.1 after same) p.3.1 in
    ap (λ (a : List Symbol). done d a) (sym (done_rest p.0 (Some d) p.1 after same)) ∙ here
