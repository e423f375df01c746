-- Fields that are too many, by what is read up to the brackets behind the first name.
use Rattle.std.proofs.Common.{◌≡◌, ℕ, suc, ◌+◌, ◌*◌, ◌<◌, ◌≤◌, true, false, List, [], ◌∷◌, ◌++◌, length, Option, ◌⊎◌, ⊎_elim, refl, sym, ap, subst, ◌∙◌, append_assoc, arith}
use Rattle.apt_base.specs.Limits.{max_children}
use Rattle.decl_tree.specs.declared.annotation.ValueText.{ValueText}
use Rattle.decl_tree.specs.declared.declaration.TypeKind.{TypeKind}
use Rattle.decl_grammar.specs.declared.symbol.Symbol.{Symbol}
use Rattle.decl_grammar.specs.declared.written.Declarator.{Declarator}
use Rattle.decl_grammar.specs.Symbols.{numbers, operator}
use Rattle.decl_grammar.specs.TokenNames as token
use Rattle.decl_grammar.specs.Reading.{has, starts, done}
use Rattle.decl_grammar.specs.Form.{first, nullable, nest, turn, initialiser, value_end, assigned}
use Rattle.decl_grammar.specs.Types.{behind, sign, name, named_text, dot_name, name_chain, first_pair, next_pair, pairs_or_value, annotation_arguments, annotation_body, annotation, annotations, primitive_type, named_part, next_part, class_type, dim, base_type, type_form}
use Rattle.decl_grammar.specs.Expressions.{no_declarators, without_value, assigned_end, value_or_end}
use Rattle.decl_grammar.specs.Rule.{reads}
use Rattle.decl_grammar.proofs.OneToken.{ok, more, disjoint, not_both}
use Rattle.decl_grammar.proofs.Rivals.{plain}
use Rattle.decl_grammar.proofs.RuleFair.{fair}
use Rattle.decl_grammar.proofs.Knot.{IsSound, sound-plain}
use Rattle.decl_crossings.specs.Crossings.{FieldCrosses}
use Rattle.decl_limits.specs.Children.{blank}
use Rattle.decl_children.specs.Unmodifieds.{count_of, field_front, FieldsBehind}
use Rattle.decl_crossings.proofs.PhraseReads.{whole-reads, read-phrase}
use Rattle.decl_children.proofs.CommaRows.{item-starts}
use Rattle.decl_children.proofs.Phrases.{Phrase, moved, un-turn, un-behind, un-either, un-nest}
use Rattle.decl_children.proofs.ParamEnds.{starts-apart}
use Rattle.decl_children.proofs.Passages.{LastCut, last-cut}
use Rattle.decl_children.proofs.FieldSplits.{FieldsSplit, fields-out, fields-in}

front-ok : ok field_front ≡ true
unfolding numbers name named_text dot_name name_chain first_pair next_pair pairs_or_value annotation_arguments annotation_body annotation annotations primitive_type named_part next_part class_type dim base_type type_form
front-ok = refl

front-plain : plain field_front ≡ true
unfolding numbers name named_text dot_name name_chain first_pair next_pair pairs_or_value annotation_arguments annotation_body annotation annotations primitive_type named_part next_part class_type dim base_type type_form
front-plain = refl

end-apart : disjoint (first value_or_end) (more field_front) ≡ true
unfolding numbers name named_text dot_name name_chain first_pair next_pair pairs_or_value annotation_arguments annotation_body annotation annotations primitive_type named_part next_part class_type dim base_type type_form value_or_end
end-apart = refl

end-never : nullable value_or_end ≡ false
unfolding value_or_end
end-never = refl

pub front-sound : IsSound field_front
front-sound = sound-plain fair field_front front-ok front-plain

-- a `;` alone declares no further field
not-sort : (s t : Symbol) (us : List Symbol) (n m : ℕ) → s ∷ [] ≡ t ∷ us → s.sort ≡ n → has (m ∷ []) t.sort ≡ true → has (m ∷ []) n ≡ false → ⊥
not-sort s t us n m e w h f =
    let same : s.sort ≡ t.sort = ap (λ (zs : List Symbol). first_sort zs) e in
    not_both (has (m ∷ []) n) (ap (λ (j : ℕ). has (m ∷ []) j) (sym w ∙ same) ∙ h) f
  where
    first_sort : List Symbol → ℕ
    first_sort [] = 0
    first_sort (x ∷ xs) = x.sort

end-alone : (s : Symbol) (v : Option ValueText × List Declarator) → s.sort ≡ operator token.semicolon → Phrase value_or_end (s ∷ []) v → v.1 ≡ []
unfolding value_or_end assigned_end
end-alone s v w p =
    ⊎_elim
    (λ (q : Phrase (behind (sign token.equals) (nest initialiser)) (s ∷ []) v).
    let b = un-behind q in
    absurd (not-sort s b.value b.back (operator token.semicolon) (operator token.equals) (b.parts ∙ ap (λ (zs : List Symbol). zs ++ b.back) b.first.is.1.0) w b.first.is.1.1 refl))
    (λ (q : Phrase (turn without_value (nest (value_end assigned))) (s ∷ []) v).
    let t = un-turn q in
    ap (λ (x : Option ValueText × List Declarator). x.1) t.is_value
    ∙ ⊎_elim
    (λ (r : Phrase (turn no_declarators (sign token.semicolon)) (s ∷ []) t.value). (un-turn r).is_value)
    (λ r.
    let b = un-behind r in
    absurd (not-sort s b.value b.back (operator token.semicolon) (operator token.comma) (b.parts ∙ ap (λ (zs : List Symbol). zs ++ b.back) b.first.is.1.0) w b.first.is.1.1 refl))
    (un-either (un-nest (value_end assigned) t.whole)))
    (un-either p)

-- the `;` that closes what is not closed yet
abbrev stop : Symbol
stop = blank (operator token.semicolon)

-- what is in front is read, and behind it more fields than this many begin
pub record FieldsRead (left room : ℕ) (ts : List Symbol) : Type 0 where
  pub rest : List Symbol
  pub there : reads room field_front ts ≡ done tt rest
  pub crosses : FieldCrosses left rest

pub fields-goes : (k : TypeKind) (n left room : ℕ) (ts : List Symbol) → left + suc n ≡ max_children → 3 * length ts ≤ room → FieldsBehind k n ts → FieldsRead left room ts
fields-goes k n left room ts eq fits (us, vs, e, (u, is, lt)) =
    ⊎_elim (λ (one : count_of u ≡ 1). absurd (omega (arith, one, lt, eq))) (λ (f : FieldsSplit (us ++ stop ∷ []) (count_of u)). split f) (fields-out k (us ++ stop ∷ []) u (record { is = is }))
  where
    many_more : (v : Option ValueText × List Declarator) → count_of u ≡ suc (length v.1) → left < length v.1
    many_more v total = omega (arith, total, lt, eq)

    at : (f : FieldsSplit (us ++ stop ∷ []) (count_of u)) (inner : List Symbol) → f.back ≡ inner ++ stop ∷ [] → us ≡ f.front ++ inner → FieldsRead left room ts
    at f [] b c =
        let none = end-alone stop f.value refl (moved (stop ∷ []) b f.others) in
        absurd (omega (arith, many_more f.value f.total, ap length none))
    at f (i ∷ is) b c =
        let all : ts ≡ f.front ++ ((i ∷ is) ++ vs) = e ∙ (ap (λ (zs : List Symbol). zs ++ vs) c ∙ append_assoc f.front (i ∷ is) vs) in
        let whole = moved ((i ∷ is) ++ stop ∷ []) b f.others in
        let begun : starts (first value_or_end) ((i ∷ is) ++ vs) ≡ true = item-starts value_or_end end-never ((i ∷ is) ++ stop ∷ []) [] f.value whole.is in
        let there = whole-reads field_front front-sound room f.front ((i ∷ is) ++ vs) tt (subst (λ (zs : List Symbol). 3 * length zs ≤ room) all fits) (starts-apart (first value_or_end) (more field_front) end-apart ((i ∷ is) ++ vs) begun) f.heading.is in
        record {
          rest = (i ∷ is) ++ vs;
          there = ap (λ (zs : List Symbol). reads room field_front zs) all ∙ there;
          crosses = (i ∷ is, vs, refl, (f.value, whole.is, many_more f.value f.total));
        }

    split : FieldsSplit (us ++ stop ∷ []) (count_of u) → FieldsRead left room ts
    split f =
        ⊎_elim
        (λ (n : f.back ≡ []).
        let whole = moved [] n f.others in
        let begun : starts (first value_or_end) [] ≡ true = item-starts value_or_end end-never [] [] f.value whole.is in
        absurd cc)
        (λ (c : LastCut us stop f.front f.back). at f c.inner c.back_is c.us_is)
        (last-cut us stop f.front f.back f.parts)

pub fields-back : (k : TypeKind) (n left room : ℕ) (ts rest : List Symbol) → left + suc n ≡ max_children → reads room field_front ts ≡ done tt rest → FieldCrosses left rest → FieldsBehind k n ts
fields-back k n left room ts rest eq there (us, vs, e, (v, is, lt)) =
    let p = read-phrase field_front room ts tt rest there in
    let made = fields-in k p.0 (us ++ stop ∷ []) v (record { is = p.2 }) (record { is = is }) in
    let whole = moved ((p.0 ++ us) ++ stop ∷ []) (sym (append_assoc p.0 us (stop ∷ []))) made.whole in
    (p.0 ++ us, vs, p.1 ∙ (ap (λ (zs : List Symbol). p.0 ++ zs) e ∙ sym (append_assoc p.0 us vs)), (made.value, whole.is, omega (arith, made.total, lt, eq)))
