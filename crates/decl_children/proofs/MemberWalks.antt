-- When a member is full, and how far it goes, by what stands behind its modifiers.
use Rattle.std.proofs.Common.{◌≡◌, ℕ, ◌+◌, ◌*◌, ◌<◌, ◌≤◌, Bool, true, false, List, [], ◌∷◌, ◌++◌, map, length, Option, ◌⊎◌, inl, inr, ⊎_elim, refl, sym, ap, subst, ◌∙◌, append_assoc, arith}
use Rattle.std.proofs.lemmas.List.{append-nil, length-map}
use Rattle.std.proofs.Math.Nat.{eq-or-lt_of_le}
use Rattle.apt_base.specs.Limits.{max_children}
use Rattle.decl_tree.specs.declared.declaration.TypeKind.{TypeKind}
use Rattle.decl_tree.specs.declared.declaration.TypeKind.TheVariants as kind
use Rattle.decl_tree.specs.declared.declaration.Member.TheVariants as member
use Rattle.decl_grammar.specs.declared.symbol.Symbol.{Symbol}
use Rattle.decl_grammar.specs.declared.written.MemberAt.{MemberAt}
use Rattle.decl_grammar.specs.declared.written.MemberRest.TheVariants as rest_kind
use Rattle.decl_grammar.specs.declared.written.Modifiers.{Modifiers}
use Rattle.decl_grammar.specs.declared.written.TypeRest.{TypeRest}
use Rattle.decl_grammar.specs.declared.written.Unmodified.{Unmodified}
use Rattle.decl_grammar.specs.declared.written.Unmodified.TheVariants as unmodified
use Rattle.decl_grammar.specs.Symbols.{numbers, operator}
use Rattle.decl_grammar.specs.TokenNames as token
use Rattle.decl_grammar.specs.Reading.{has, starts, done}
use Rattle.decl_grammar.specs.Form.{Form, first, first_of, nullable, either, turn, nested_type}
use Rattle.decl_grammar.specs.Types.{name, named_text, dot_name, name_chain, first_pair, next_pair, pairs_or_value, annotation_arguments, annotation_body, modifier_annotation, modifier, type_modifiers, optional_modifiers, primitive_type, named_part, class_type, base_type, type_form, type_params, sign}
use Rattle.decl_grammar.specs.Grammar.{field_of, method_of, constructor_of, declaration_of, member_at, type_lines, members_of, doc_of, Modified, block, no_member, member_from, or_block, plain_modified, type_rest, modified_form, member_form, nested_member, void_method, primitive_member, named_member, generic, unmodified_of, annotation_unmodified}
use Rattle.decl_grammar.specs.Rule.{reads}
use Rattle.decl_grammar.proofs.Progress.{done_rest}
use Rattle.decl_grammar.proofs.OneToken.{more, disjoint, disjoint-has, not_both}
use Rattle.decl_limits.specs.Children.{blank, member_children, Then}
use Rattle.decl_children.specs.Fronts.{SomeFront, Passes}
use Rattle.decl_children.specs.Members.{MemberCrowds, TypeCrowds, FieldsFull, OwnFull, InnerFull}
use Rattle.decl_children.specs.Results.{ExecutableCrowds}
use Rattle.decl_children.specs.TypeWalks.{has_constructor, unmodified_form, nothing_form}
use Rattle.decl_children.specs.WalkSteps.{OneMore}
use Rattle.decl_children.specs.Unmodifieds.{count_of, constructs_one, own_of, field_front, FieldsBehind, OwnBehind}
use Rattle.decl_crossings.proofs.PhraseReads.{read-phrase}
use Rattle.decl_children.proofs.CommaRows.{item-starts}
use Rattle.decl_children.proofs.Phrases.{Phrase, turned, at-left, moved, means, nested, un-turn, un-either, un-nest}
use Rattle.decl_children.proofs.ParamEnds.{starts-apart}
use Rattle.decl_children.proofs.MemberCases.{MemberCase, one_more, by_fields, by_own, by_inner, member-case, case-member, modifiers-read, inner-goes, inner-back}
use Rattle.decl_children.proofs.Passages.{LastCut, last-cut, un-seen}
use Rattle.decl_children.proofs.FieldSplits.{FieldsSplit, fields-out}
use Rattle.decl_children.proofs.MemberShapes.{field-own, fields-construct, method-own, method-constructs, constructor-own, constructor-constructs, nested-own, nested-constructs}
use Rattle.decl_children.proofs.ModifiedMembers.{Declared, NothingAt, member-out, member-in, nothing-in}

-- ---- what a member gives

pub gives-count : (doc : Option (List ℕ)) (m : Modifiers) (u : Unmodified) → length (members_of doc m u) ≡ count_of u
gives-count doc m unmodified.Nothing = refl
gives-count doc m (unmodified.Fields of ds) = length-map ds (field_of (doc_of doc) m of)
gives-count doc m (unmodified.Method ps of n s) = refl
gives-count doc m (unmodified.Constructor line ps s) = refl
gives-count doc m (unmodified.Nested rest) = refl

pub gives-constructor : (doc : Option (List ℕ)) (m : Modifiers) (u : Unmodified) → has_constructor (members_of doc m u) ≡ constructs_one u
gives-constructor doc m unmodified.Nothing = refl
gives-constructor doc m (unmodified.Fields of ds) = fields-construct (doc_of doc) m of ds
gives-constructor doc m (unmodified.Method ps of n s) = method-constructs (doc_of doc) m ps of n s
gives-constructor doc m (unmodified.Constructor line ps s) = constructor-constructs (doc_of doc) m line ps s
gives-constructor doc m (unmodified.Nested rest) = nested-constructs (doc_of doc) m rest

one-of : (x y : MemberAt) (xs : List MemberAt) → x ∷ [] ≡ y ∷ xs → x ≡ y
one-of x y xs e = cc

-- where it gives one, the children of that are its own
pub gives-own : (doc : Option (List ℕ)) (m : Modifiers) (u : Unmodified) (x : MemberAt) → x ∷ [] ≡ members_of doc m u → member_children x ≡ own_of u
gives-own doc m unmodified.Nothing x e = absurd cc
gives-own doc m (unmodified.Fields of []) x e = absurd cc
gives-own doc m (unmodified.Fields of (d ∷ ds)) x e = ap member_children (one-of x (field_of (doc_of doc) m of d) (map (field_of (doc_of doc) m of) ds) e) ∙ field-own (doc_of doc) m of d
gives-own doc m (unmodified.Method ps of n s) x e = ap member_children (one-of x (method_of (doc_of doc) m ps of n s) [] e) ∙ method-own (doc_of doc) m ps of n s
gives-own doc m (unmodified.Constructor line ps s) x e = ap member_children (one-of x (constructor_of (doc_of doc) m line ps s) [] e) ∙ constructor-own (doc_of doc) m line ps s
gives-own doc m (unmodified.Nested rest) x e = ap member_children (one-of x (member_at (member.Nested (declaration_of (doc_of doc) m rest)) (type_lines rest)) [] e) ∙ nested-own (doc_of doc) m rest

-- what has children of its own is one member
pub own-gives : (doc : Option (List ℕ)) (m : Modifiers) (u : Unmodified) → 0 < own_of u → (x : MemberAt) × (members_of doc m u ≡ x ∷ [])
own-gives doc m unmodified.Nothing lt = absurd (omega (arith, lt))
own-gives doc m (unmodified.Fields of ds) lt = absurd (omega (arith, lt))
own-gives doc m (unmodified.Method ps of n s) lt = (_, refl)
own-gives doc m (unmodified.Constructor line ps s) lt = (_, refl)
own-gives doc m (unmodified.Nested rest) lt = absurd (omega (arith, lt))

-- ---- what begins a member behind its modifiers

unmodified-never : (k : TypeKind) → nullable (unmodified_form k) ≡ false
unfolding name primitive_type type_params nested_member void_method primitive_member named_member generic unmodified_of annotation_unmodified
unmodified-never kind.Enum = refl
unmodified-never kind.Class = refl
unmodified-never kind.AnnotationType = refl
unmodified-never kind.Interface = refl

unmodified-apart : (k : TypeKind) → disjoint (first (unmodified_form k)) (more type_modifiers) ≡ true
unfolding numbers name named_text dot_name name_chain first_pair next_pair pairs_or_value annotation_arguments annotation_body modifier_annotation modifier type_modifiers primitive_type type_params nested_member void_method primitive_member named_member generic unmodified_of annotation_unmodified
unmodified-apart kind.Enum = refl
unmodified-apart kind.Class = refl
unmodified-apart kind.AnnotationType = refl
unmodified-apart kind.Interface = refl

unmodified-semicolon : (k : TypeKind) → has (first (unmodified_form k)) 67 ≡ false
unfolding name primitive_type type_params nested_member void_method primitive_member named_member generic unmodified_of annotation_unmodified
unmodified-semicolon kind.Enum = refl
unmodified-semicolon kind.Class = refl
unmodified-semicolon kind.AnnotationType = refl
unmodified-semicolon kind.Interface = refl

-- ---- behind modifiers

-- the `;` that closes what is not closed yet
abbrev stop : Symbol
stop = blank (operator token.semicolon)

-- in what a member is full, behind its modifiers
pub data BehindCase (k : TypeKind) (n : ℕ) (ts : List Symbol) : Type 0 where
  in_type : TypeCrowds ts → BehindCase k n ts
  in_executable : ExecutableCrowds ts → BehindCase k n ts
  in_fields : n < max_children → FieldsBehind k n ts → BehindCase k n ts
  in_own : OwnBehind k ts → BehindCase k n ts

pub record BehindMarks (k : TypeKind) (n room : ℕ) (ts : List Symbol) : Type 0 where
  pub mods : Modifiers
  pub rest : List Symbol
  pub there : reads room type_modifiers ts ≡ done mods rest
  pub full : BehindCase k n rest

-- what stands behind modifiers is read behind them
pub marks-there : (k : TypeKind) (room : ℕ) (ts front back vs : List Symbol) (m : Modifiers) (t : Symbol) (us : List Symbol) (u : Unmodified) → 3 * length ts ≤ room → ts ≡ front ++ (back ++ vs) → Phrase type_modifiers front m → back ≡ t ∷ us
    → (ws : List Symbol) → Phrase (unmodified_form k) (back ++ ws) u → reads room type_modifiers ts ≡ done m (back ++ vs)
marks-there k room ts front back vs m t us u fits e p b ws q =
    let begun : starts (first (unmodified_form k)) ((back ++ ws) ++ []) ≡ true = item-starts (unmodified_form k) (unmodified-never k) (back ++ ws) [] u q.is in
    let there : has (first (unmodified_form k)) t.sort ≡ true = ap (λ (zs : List Symbol). starts (first (unmodified_form k)) ((zs ++ ws) ++ [])) (sym b) ∙ begun in
    let here : starts (first (unmodified_form k)) (back ++ vs) ≡ true = ap (λ (zs : List Symbol). starts (first (unmodified_form k)) (zs ++ vs)) b ∙ there in
    modifiers-read room ts front (back ++ vs) m fits e p (starts-apart (first (unmodified_form k)) (more type_modifiers) (unmodified-apart k) (back ++ vs) here)

no-member : (k : TypeKind) (u : Unmodified) → Phrase (unmodified_form k) [] u → ⊥
no-member k u p =
    let begun : starts (first (unmodified_form k)) [] ≡ true = item-starts (unmodified_form k) (unmodified-never k) [] [] u p.is in
    absurd cc

no-semicolon : (k : TypeKind) (s : Symbol) (u : Unmodified) → s.sort ≡ operator token.semicolon → Phrase (unmodified_form k) (s ∷ []) u → ⊥
no-semicolon k s u e p =
    let begun : starts (first (unmodified_form k)) (s ∷ []) ≡ true = item-starts (unmodified_form k) (unmodified-never k) (s ∷ []) [] u p.is in
    not_both (has (first (unmodified_form k)) s.sort) begun (ap (λ (j : ℕ). has (first (unmodified_form k)) j) e ∙ unmodified-semicolon k)

fields-behind : (k : TypeKind) (n room : ℕ) (ts : List Symbol) → n < max_children → 3 * length ts ≤ room → SomeFront (FieldsFull k n) ts → BehindMarks k n room ts
fields-behind k n room ts le fits (us, vs, e, (ms, is, lt)) = ⊎_elim nothing declared (member-out k (us ++ stop ∷ []) ms (record { is = is }))
  where
    nothing : NothingAt k (us ++ stop ∷ []) ms → BehindMarks k n room ts
    nothing z = absurd (omega (arith, le, lt, ap length z.1))

    at : (d : Declared k (us ++ stop ∷ []) ms) (inner : List Symbol) → d.back ≡ inner ++ stop ∷ [] → us ≡ d.front ++ inner → BehindMarks k n room ts
    at d [] b c = absurd (no-semicolon k stop d.value refl (moved (stop ∷ []) b d.member))
    at d (i ∷ is) b c =
        let all : ts ≡ d.front ++ ((i ∷ is) ++ vs) = e ∙ (ap (λ (zs : List Symbol). zs ++ vs) c ∙ append_assoc d.front (i ∷ is) vs) in
        let whole = moved ((i ∷ is) ++ stop ∷ []) b d.member in
        record {
          mods = d.mods;
          rest = (i ∷ is) ++ vs;
          there = marks-there k room ts d.front (i ∷ is) vs d.mods i is d.value fits all d.modifiers_there refl (stop ∷ []) whole;
          full = in_fields le (i ∷ is, vs, refl, (d.value, whole.is, omega (arith, lt, ap length d.items, gives-count d.doc d.marks d.value)));
        }

    declared : Declared k (us ++ stop ∷ []) ms → BehindMarks k n room ts
    declared d =
        ⊎_elim (λ (n : d.back ≡ []). absurd (no-member k d.value (moved [] n d.member)))
        (λ (c : LastCut us stop d.front d.back). at d c.inner c.back_is c.us_is)
        (last-cut us stop d.front d.back d.parts)

own-behind : (k : TypeKind) (n room : ℕ) (ts : List Symbol) → 3 * length ts ≤ room → SomeFront (OwnFull k) ts → BehindMarks k n room ts
own-behind k n room ts fits (us, vs, e, (x, is, lt)) = ⊎_elim nothing declared (member-out k us (x ∷ []) (record { is = is }))
  where
    nothing : NothingAt k us (x ∷ []) → BehindMarks k n room ts
    nothing z = absurd (let q = z.1 in cc)

    at : (d : Declared k us (x ∷ [])) (back : List Symbol) → d.back ≡ back → BehindMarks k n room ts
    at d [] b = absurd (no-member k d.value (moved [] b d.member))
    at d (i ∷ is) b =
        let all : ts ≡ d.front ++ ((i ∷ is) ++ vs) = e ∙ (ap (λ (zs : List Symbol). zs ++ vs) (d.parts ∙ ap (λ (zs : List Symbol). d.front ++ zs) b) ∙ append_assoc d.front (i ∷ is) vs) in
        let whole = moved (i ∷ is) b d.member in
        record {
          mods = d.mods;
          rest = (i ∷ is) ++ vs;
          there = marks-there k room ts d.front (i ∷ is) vs d.mods i is d.value fits all d.modifiers_there refl [] (moved ((i ∷ is) ++ []) (sym (append-nil (i ∷ is))) whole);
          full = in_own (i ∷ is, vs, refl, (d.value, whole.is, omega (arith, lt, gives-own d.doc d.marks d.value x d.items)));
        }

    declared : Declared k us (x ∷ []) → BehindMarks k n room ts
    declared d = at d d.back refl

inner-behind : (k : TypeKind) (n room : ℕ) (ts : List Symbol) → 3 * length ts ≤ room → SomeFront (Then type_modifiers (λ (m : Modifiers) us. InnerFull us)) ts → BehindMarks k n room ts
inner-behind k n room ts fits c =
    let i = inner-goes room ts fits c in
    record { mods = i.modifiers; rest = i.rest; there = i.there; full = ⊎_elim (λ (t : TypeCrowds i.rest). in_type t) (λ (t : ExecutableCrowds i.rest). in_executable t) i.crowds }

modified-never : (k : TypeKind) → nullable (modified_form k) ≡ false
unfolding name primitive_type type_params nested_member void_method primitive_member named_member generic unmodified_of annotation_unmodified plain_modified optional_modifiers modified_form
modified-never kind.Enum = refl
modified-never kind.Class = refl
modified-never kind.AnnotationType = refl
modified-never kind.Interface = refl

modified-semicolon : (k : TypeKind) → has (first (modified_form k)) 67 ≡ false
unfolding name primitive_type type_params nested_member void_method primitive_member named_member generic unmodified_of annotation_unmodified plain_modified optional_modifiers modified_form
modified-semicolon kind.Enum = refl
modified-semicolon kind.Class = refl
modified-semicolon kind.AnnotationType = refl
modified-semicolon kind.Interface = refl

from-starts : (f : Form Modified) → nullable f ≡ false → (us : List Symbol) (ms : List MemberAt) → Phrase (member_from f) us ms → starts (first f) us ≡ true
from-starts f never us ms p =
    let t = un-turn p in
    let s = un-seen t.whole in
    ap (λ (zs : List Symbol). starts (first f) zs) (sym (append-nil us)) ∙ item-starts f never us [] t.value.1 s.whole.is

block-starts : (f : Form Modified) → nullable f ≡ false → (us : List Symbol) (ms : List MemberAt) → 0 < length ms → Phrase (either (turn no_member block) (member_from f)) us ms → starts (first f) us ≡ true
block-starts f never us ms lt p =
    ⊎_elim (λ (q : Phrase (turn no_member block) us ms). let t = un-turn q in absurd (omega (arith, lt, ap length t.is_value))) (λ (q : Phrase (member_from f) us ms). from-starts f never us ms q) (un-either p)

-- what gives a member begins as such
some-starts : (k : TypeKind) (us : List Symbol) (ms : List MemberAt) → 0 < length ms → Phrase (member_form k) us ms → starts (first (modified_form k)) us ≡ true
unfolding member_form
some-starts k us ms lt p =
    ⊎_elim (λ (q : Phrase (turn no_member (sign token.semicolon)) us ms). let t = un-turn q in absurd (omega (arith, lt, ap length t.is_value))) (λ (q : Phrase (or_block k (member_from (modified_form k))) us ms). go k q) (un-either p)
  where
    go : (j : TypeKind) → Phrase (or_block j (member_from (modified_form j))) us ms → starts (first (modified_form j)) us ≡ true
    go kind.Enum q = block-starts (modified_form kind.Enum) (modified-never kind.Enum) us ms lt q
    go kind.Class q = block-starts (modified_form kind.Class) (modified-never kind.Class) us ms lt q
    go kind.AnnotationType q = from-starts (modified_form kind.AnnotationType) (modified-never kind.AnnotationType) us ms q
    go kind.Interface q = from-starts (modified_form kind.Interface) (modified-never kind.Interface) us ms q

fields-start : (k : TypeKind) (n : ℕ) (ts : List Symbol) → n ≤ max_children → SomeFront (FieldsFull k n) ts → starts (first (modified_form k)) ts ≡ true
fields-start k n ts le (us, vs, e, (ms, is, lt)) = at us e (some-starts k (us ++ stop ∷ []) ms (omega (arith, le, lt)) (record { is = is }))
  where
    at : (ws : List Symbol) → ts ≡ ws ++ vs → starts (first (modified_form k)) (ws ++ stop ∷ []) ≡ true → starts (first (modified_form k)) ts ≡ true
    at [] d b = not_both (has (first (modified_form k)) (operator token.semicolon)) b (modified-semicolon k)
    at (w ∷ ws) d b = ap (λ (zs : List Symbol). starts (first (modified_form k)) zs) d ∙ b

-- a member is full since it begins one too many, or its modifiers are read and it is full behind them
pub member-goes : (k : TypeKind) (n room : ℕ) (ts : List Symbol) → n ≤ max_children → 3 * length ts ≤ room → MemberCrowds k n ts → OneMore k n ts ⊎ BehindMarks k n room ts
member-goes k n room ts le fits c = go (member-case k n ts c)
  where
    go : MemberCase k n ts → OneMore k n ts ⊎ BehindMarks k n room ts
    go (one_more m s) = inl (m, s)
    go (by_fields f) = ⊎_elim (λ (same : n ≡ max_children). inl (omega (arith, same), fields-start k n ts le f)) (λ (less : n < max_children). inr (fields-behind k n room ts less fits f)) (eq-or-lt_of_le le)
    go (by_own f) = inr (own-behind k n room ts fits f)
    go (by_inner f) = inr (inner-behind k n room ts fits f)

-- and the other way round
pub member-back : (k : TypeKind) (n room : ℕ) (ts rest : List Symbol) (m : Modifiers) → reads room type_modifiers ts ≡ done m rest → BehindCase k n rest → MemberCrowds k n ts
member-back k n room ts rest m there (in_type c) = case-member k n ts (by_inner (inner-back room ts rest m there (inl c)))
member-back k n room ts rest m there (in_executable c) = case-member k n ts (by_inner (inner-back room ts rest m there (inr c)))
member-back k n room ts rest m there (in_fields less (us, vs, e, (u, is, lt))) =
    let p = read-phrase type_modifiers room ts m rest there in
    let made = member-in k p.0 (us ++ stop ∷ []) m u (record { is = p.2 }) (record { is = is }) in
    let whole = moved ((p.0 ++ us) ++ stop ∷ []) (sym (append_assoc p.0 us (stop ∷ []))) made.whole in
    let cut : ts ≡ (p.0 ++ us) ++ vs = p.1 ∙ (ap (λ (zs : List Symbol). p.0 ++ zs) e ∙ sym (append_assoc p.0 us vs)) in
    case-member k n ts (by_fields (p.0 ++ us, vs, cut, (made.items, whole.is, omega (arith, lt, ap length made.are, gives-count made.doc made.marks u))))
member-back k n room ts rest m there (in_own (us, vs, e, (u, is, lt))) =
    let p = read-phrase type_modifiers room ts m rest there in
    let made = member-in k p.0 us m u (record { is = p.2 }) (record { is = is }) in
    let g = own-gives made.doc made.marks u (omega (arith, lt)) in
    let whole = means (g.0 ∷ []) (made.are ∙ g.1) made.whole in
    let cut : ts ≡ (p.0 ++ us) ++ vs = p.1 ∙ (ap (λ (zs : List Symbol). p.0 ++ zs) e ∙ sym (append_assoc p.0 us vs)) in
    case-member k n ts (by_own (p.0 ++ us, vs, cut, (g.0, whole.is, omega (arith, lt, gives-own made.doc made.marks u g.0 (sym g.1)))))

-- what is read is one thing
pub member-behind : (k : TypeKind) (n room : ℕ) (ts rest : List Symbol) (m : Modifiers) → n ≤ max_children → 3 * length ts ≤ room → reads room type_modifiers ts ≡ done m rest → MemberCrowds k n ts → OneMore k n ts ⊎ BehindCase k n rest
member-behind k n room ts rest m le fits there c =
    ⊎_elim (λ (o : OneMore k n ts). inl o)
    (λ (b : BehindMarks k n room ts). inr (subst (λ (zs : List Symbol). BehindCase k n zs) (done_rest b.mods m b.rest rest (sym b.there ∙ there)) b.full))
    (member-goes k n room ts le fits c)

-- ---- how far a member goes

-- it gives this behind its modifiers
pub record DeclaredTo (k : TypeKind) (room : ℕ) (ts rest : List Symbol) : Type 0 where
  pub mods : Modifiers
  pub mid : List Symbol
  pub value : Unmodified
  pub there : reads room type_modifiers ts ≡ done mods mid
  pub member : Passes (unmodified_form k) mid value rest

pub member-ends : (k : TypeKind) (room : ℕ) (ts : List Symbol) (ms : List MemberAt) (rest : List Symbol) → 3 * length ts ≤ room → Passes (member_form k) ts ms rest → Passes (nothing_form k) ts tt rest ⊎ DeclaredTo k room ts rest
member-ends k room ts ms rest fits (us, e, is) = ⊎_elim nothing declared (member-out k us ms (record { is = is }))
  where
    nothing : NothingAt k us ms → Passes (nothing_form k) ts tt rest ⊎ DeclaredTo k room ts rest
    nothing z = inl (us, e, z.0.is)

    at : (d : Declared k us ms) (back : List Symbol) → d.back ≡ back → Passes (nothing_form k) ts tt rest ⊎ DeclaredTo k room ts rest
    at d [] b = absurd (no-member k d.value (moved [] b d.member))
    at d (i ∷ is) b =
        let all : ts ≡ d.front ++ ((i ∷ is) ++ rest) = e ∙ (ap (λ (zs : List Symbol). zs ++ rest) (d.parts ∙ ap (λ (zs : List Symbol). d.front ++ zs) b) ∙ append_assoc d.front (i ∷ is) rest) in
        let whole = moved (i ∷ is) b d.member in
        inr (record {
          mods = d.mods;
          mid = (i ∷ is) ++ rest;
          value = d.value;
          there = marks-there k room ts d.front (i ∷ is) rest d.mods i is d.value fits all d.modifiers_there refl [] (moved ((i ∷ is) ++ []) (sym (append-nil (i ∷ is))) whole);
          member = (i ∷ is, refl, whole.is);
        })

    declared : Declared k us ms → Passes (nothing_form k) ts tt rest ⊎ DeclaredTo k room ts rest
    declared d = at d d.back refl

pub record MemberTo (k : TypeKind) (ts rest : List Symbol) (count : ℕ) (constructor_there : Bool) : Type 0 where
  pub items : List MemberAt
  pub there : Passes (member_form k) ts items rest
  pub are : count ≡ length items
  pub constructs_is : constructor_there ≡ has_constructor items

pub ends-member : (k : TypeKind) (room : ℕ) (ts mid rest : List Symbol) (m : Modifiers) (u : Unmodified) → reads room type_modifiers ts ≡ done m mid → Passes (unmodified_form k) mid u rest → MemberTo k ts rest (count_of u) (constructs_one u)
ends-member k room ts mid rest m u there (us, e, is) =
    let p = read-phrase type_modifiers room ts m mid there in
    let made = member-in k p.0 us m u (record { is = p.2 }) (record { is = is }) in
    record {
      items = made.items;
      there = (p.0 ++ us, p.1 ∙ (ap (λ (zs : List Symbol). p.0 ++ zs) e ∙ sym (append_assoc p.0 us rest)), made.whole.is);
      are = sym (ap length made.are ∙ gives-count made.doc made.marks u);
      constructs_is = sym (ap has_constructor made.are ∙ gives-constructor made.doc made.marks u);
    }

pub nothing-ends : (k : TypeKind) (ts rest : List Symbol) → Passes (nothing_form k) ts tt rest → MemberTo k ts rest 0 false
nothing-ends k ts rest (us, e, is) = let p = nothing-in k us (record { is = is }) in record { items = []; there = (us, e, p.is); are = refl; constructs_is = refl }

-- ---- a type as a member

pub type-member : (k : TypeKind) (ts rest : List Symbol) (x : TypeRest) → Passes type_rest ts x rest → Passes (unmodified_form k) ts (unmodified.Nested x) rest
unfolding nested_member unmodified_of annotation_unmodified
type-member kind.Enum ts rest x (us, e, is) =
    let p = at-left (either void_method (either (primitive_member rest_kind.Any) (either (named_member true rest_kind.Any) (generic true)))) (turned unmodified.Nested (nested nested_type (record { is = is }))) in
    (us, e, p.is)
type-member kind.Class ts rest x (us, e, is) =
    let p = at-left (either void_method (either (primitive_member rest_kind.Any) (either (named_member true rest_kind.Any) (generic true)))) (turned unmodified.Nested (nested nested_type (record { is = is }))) in
    (us, e, p.is)
type-member kind.AnnotationType ts rest x (us, e, is) =
    let p = at-left (either (primitive_member rest_kind.Element) (named_member false rest_kind.Element)) (turned unmodified.Nested (nested nested_type (record { is = is }))) in
    (us, e, p.is)
type-member kind.Interface ts rest x (us, e, is) =
    let p = at-left (either void_method (either (primitive_member rest_kind.Any) (either (named_member false rest_kind.Any) (generic false)))) (turned unmodified.Nested (nested nested_type (record { is = is }))) in
    (us, e, p.is)

abbrev NestedAt : List Symbol → Unmodified → Type 0
NestedAt us u = (x : TypeRest) × Phrase type_rest us x × (u ≡ unmodified.Nested x)

nested-at : (us : List Symbol) (u : Unmodified) → Phrase nested_member us u → NestedAt us u
unfolding nested_member
nested-at us u p = let t = un-turn p in (t.value, un-nest nested_type t.whole, t.is_value)

class-others : (c : Bool) → disjoint (first (either void_method (either (primitive_member rest_kind.Any) (either (named_member c rest_kind.Any) (generic c))))) (first_of nested_type) ≡ true
unfolding name primitive_type type_params void_method primitive_member named_member generic
class-others c = refl

class-never : (c : Bool) → nullable (either void_method (either (primitive_member rest_kind.Any) (either (named_member c rest_kind.Any) (generic c)))) ≡ false
unfolding name primitive_type type_params void_method primitive_member named_member generic
class-never c = refl

element-others : disjoint (first (either (primitive_member rest_kind.Element) (named_member false rest_kind.Element))) (first_of nested_type) ≡ true
unfolding name primitive_type primitive_member named_member
element-others = refl

element-never : nullable (either (primitive_member rest_kind.Element) (named_member false rest_kind.Element)) ≡ false
unfolding name primitive_type primitive_member named_member
element-never = refl

-- other members begin with no word of a type
other-begins : (f : Form Unmodified) → nullable f ≡ false → disjoint (first f) (first_of nested_type) ≡ true → (us rest : List Symbol) (u : Unmodified) → starts (first_of nested_type) (us ++ rest) ≡ true → Phrase f us u → ⊥
other-begins f never apart us rest u s p =
    not_both (starts (first_of nested_type) (us ++ rest)) s (starts-apart (first f) (first_of nested_type) apart (us ++ rest) (item-starts f never us rest u p.is))

class-nested : (c : Bool) (us rest : List Symbol) (u : Unmodified) → starts (first_of nested_type) (us ++ rest) ≡ true → Phrase (unmodified_of c) us u → NestedAt us u
unfolding unmodified_of
class-nested c us rest u s p =
    ⊎_elim (nested-at us u)
    (λ (q : Phrase (either void_method (either (primitive_member rest_kind.Any) (either (named_member c rest_kind.Any) (generic c)))) us u).
    absurd (other-begins (either void_method (either (primitive_member rest_kind.Any) (either (named_member c rest_kind.Any) (generic c)))) (class-never c) (class-others c) us rest u s q))
    (un-either p)

element-nested : (us rest : List Symbol) (u : Unmodified) → starts (first_of nested_type) (us ++ rest) ≡ true → Phrase annotation_unmodified us u → NestedAt us u
unfolding annotation_unmodified
element-nested us rest u s p =
    ⊎_elim (nested-at us u)
    (λ (q : Phrase (either (primitive_member rest_kind.Element) (named_member false rest_kind.Element)) us u).
    absurd (other-begins (either (primitive_member rest_kind.Element) (named_member false rest_kind.Element)) element-never element-others us rest u s q))
    (un-either p)

nested-in : (k : TypeKind) (us rest : List Symbol) (u : Unmodified) → starts (first_of nested_type) (us ++ rest) ≡ true → Phrase (unmodified_form k) us u → NestedAt us u
nested-in kind.Enum us rest u s p = class-nested true us rest u s p
nested-in kind.Class us rest u s p = class-nested true us rest u s p
nested-in kind.AnnotationType us rest u s p = element-nested us rest u s p
nested-in kind.Interface us rest u s p = class-nested false us rest u s p

pub member-type : (k : TypeKind) (ts rest : List Symbol) (u : Unmodified) → starts (first_of nested_type) ts ≡ true → Passes (unmodified_form k) ts u rest → (x : TypeRest) × Passes type_rest ts x rest
member-type k ts rest u s (us, e, is) =
    let z = nested-in k us rest u (subst (λ (zs : List Symbol). starts (first_of nested_type) zs ≡ true) e s) (record { is = is }) in
    (z.0, (us, e, z.1.is))

-- where a word of a type stands, no member has children of its own that are too many, and no fields are
pub no-own : (k : TypeKind) (ts : List Symbol) → starts (first_of nested_type) ts ≡ true → OwnBehind k ts → ⊥
no-own k ts s (us, vs, e, (u, is, lt)) =
    let z = nested-in k us vs u (subst (λ (zs : List Symbol). starts (first_of nested_type) zs ≡ true) e s) (record { is = is }) in
    omega (arith, lt, ap own_of z.2)

front-never : nullable field_front ≡ false
unfolding name primitive_type named_part class_type base_type type_form
front-never = refl

front-words : disjoint (first field_front) (first_of nested_type) ≡ true
unfolding name primitive_type named_part class_type base_type type_form
front-words = refl

front-semicolon : has (first field_front) 67 ≡ false
unfolding name primitive_type named_part class_type base_type type_form
front-semicolon = refl

pub no-fields : (k : TypeKind) (n : ℕ) (ts : List Symbol) → n < max_children → starts (first_of nested_type) ts ≡ true → FieldsBehind k n ts → ⊥
no-fields k n ts lt s (us, vs, e, (u, is, more_than)) =
    ⊎_elim (λ (one : count_of u ≡ 1). omega (arith, one, lt, more_than))
    (λ (f : FieldsSplit (us ++ stop ∷ []) (count_of u)).
    at us e (ap (λ (zs : List Symbol). starts (first field_front) zs) f.parts ∙ item-starts field_front front-never f.front f.back tt f.heading.is))
    (fields-out k (us ++ stop ∷ []) u (record { is = is }))
  where
    at : (ws : List Symbol) → ts ≡ ws ++ vs → starts (first field_front) (ws ++ stop ∷ []) ≡ true → ⊥
    at [] d b = not_both (has (first field_front) (operator token.semicolon)) b front-semicolon
    at (w ∷ ws) d b = not_both (has (first_of nested_type) w.sort) (ap (λ (zs : List Symbol). starts (first_of nested_type) zs) (sym d) ∙ s) (disjoint-has (first field_front) (first_of nested_type) w.sort front-words b)
