-- Members up to the `}` of their type, and what the language adds, step by step.
use Rattle.std.proofs.Common.{◌≡◌, ℕ, ◌+◌, ◌*◌, ◌<◌, ◌≤◌, Bool, true, false, ◌||◌, List, [], ◌∷◌, ◌++◌, drop, length, ◌⊎◌, inl, inr, ⊎_elim, refl, sym, ap, subst, ◌∙◌, length-append, arith}
use Rattle.std.proofs.Math.Bool.{or_assoc}
use Rattle.apt_base.specs.Limits.{max_children}
use Rattle.decl_tree.specs.declared.declaration.TypeKind.{TypeKind}
use Rattle.decl_grammar.specs.declared.symbol.Symbol.{Symbol}
use Rattle.decl_grammar.specs.declared.written.MemberAt.{MemberAt}
use Rattle.decl_grammar.specs.Symbols.{operator}
use Rattle.decl_grammar.specs.TokenNames as token
use Rattle.decl_grammar.specs.Reading.{starts, done}
use Rattle.decl_grammar.specs.Form.{first}
use Rattle.decl_grammar.specs.Types.{sign}
use Rattle.decl_grammar.specs.Grammar.{member_form, modified_form, member_from, or_block, no_member}
use Rattle.decl_grammar.proofs.OneToken.{not_both}
use Rattle.decl_limits.specs.Children.{blank}
use Rattle.decl_children.specs.Fronts.{Passes}
use Rattle.decl_children.specs.Members.{MemberCrowds, MembersCrowd, closed_members}
use Rattle.decl_children.specs.TypeWalks.{has_constructor, added_to, MembersOver, MembersEnd}
use Rattle.decl_crossings.proofs.PhraseReads.{read-phrase}
use Rattle.decl_children.proofs.CommaRows.{item-starts}
use Rattle.decl_children.proofs.Phrases.{Phrase, turned, at-left}
use Rattle.decl_children.proofs.Thens.{values-same}
use Rattle.decl_children.proofs.ThenRows.{HasEnd}
use Rattle.decl_children.proofs.MemberRows.{Later, member-sound, member-more, members-cases, members-here, members-later}
use Rattle.decl_children.proofs.MemberCases.{by_fields, case-member}
use Rattle.decl_children.proofs.MemberEnds.{NextMember, closed-ends, closed-here, closed-later, closed-cases, brace-members, not-brace, member-brace, member-never}
use Rattle.decl_children.proofs.Passages.{passes-reads, passes-value, passes-rest}
use Rattle.decl_children.proofs.EnumSplits.{constructors-joined}

pub member-ends : (k : TypeKind) → HasEnd (member_form k)
member-ends k = record { sound = member-sound k; ends = member-more k }

or-false : (b : Bool) → (b || false) ≡ b
or-false true = refl
or-false false = refl

-- ---- where there are too many already

-- a `;` more is a member that gives none
pub most-full : (k : TypeKind) (n : ℕ) (ts : List Symbol) → max_children < n → MemberCrowds k n ts
unfolding member_form
most-full k n ts lt =
    let stop : Symbol = blank (operator token.semicolon) in
    let semi : Phrase (sign token.semicolon) (stop ∷ []) stop = record { is = (0, (refl, refl)) } in
    let whole : Phrase (member_form k) (stop ∷ []) [] = at-left (or_block k (member_from (modified_form k))) (turned no_member semi) in
    case-member k n ts (by_fields ([], ts, refl, ([], whole.is, omega (arith, lt))))

-- ---- at the `}`

pub brace-over : (k : TypeKind) (n : ℕ) (c : Bool) (ts : List Symbol) → n ≤ max_children → starts (64 ∷ []) ts ≡ true → MembersOver k n c ts → max_children < n + added_to k c
brace-over k n c ts le b (inl crowd) = absurd (brace-members k n ts le b crowd)
brace-over k n c ts le b (inr (ms, rest, p, lt)) =
    let same : done ms rest ≡ done [] (drop 1 ts) = sym (passes-reads (closed_members k) (closed-ends k) (3 * length ts) ts ms rest (omega arith) p) ∙ closed-here k (3 * length ts) ts (omega arith) b in
    let none : ms ≡ [] = values-same ms [] rest (drop 1 ts) same in
    omega (arith, lt, ap length none, ap (λ (xs : List MemberAt). added_to k (c || has_constructor xs)) none, ap (λ (x : Bool). added_to k x) (or-false c))

pub brace-end : (k : TypeKind) (ts : List Symbol) → starts (64 ∷ []) ts ≡ true → MembersEnd k ts (drop 1 ts)
brace-end k ts b = ([], read-phrase (closed_members k) (3 * length ts) ts [] (drop 1 ts) (closed-here k (3 * length ts) ts (omega arith) b))

pub over-brace : (k : TypeKind) (n : ℕ) (c : Bool) (ts : List Symbol) → starts (64 ∷ []) ts ≡ true → max_children < n + added_to k c → MembersOver k n c ts
over-brace k n c ts b lt =
    inr ([], drop 1 ts, read-phrase (closed_members k) (3 * length ts) ts [] (drop 1 ts) (closed-here k (3 * length ts) ts (omega arith) b), omega (arith, lt, ap (λ (x : Bool). added_to k x) (or-false c)))

-- ---- a member, and others behind it

pub over-here : (k : TypeKind) (n : ℕ) (c : Bool) (ts : List Symbol) → MemberCrowds k n ts → MembersOver k n c ts
over-here k n c ts m = inl (members-here k n ts m)

closed-joined : (k : TypeKind) (ts mid rest : List Symbol) (ms others : List MemberAt) → Passes (member_form k) ts ms mid → Passes (closed_members k) mid others rest → Passes (closed_members k) ts (ms ++ others) rest
closed-joined k ts mid rest ms others (us, e, is) q =
    let less : length mid ≤ length ts = omega (arith, ap length e, length-append us mid) in
    let one = passes-reads (member_form k) (member-ends k) (3 * length ts) ts ms mid (omega arith) (us, e, is) in
    let two = passes-reads (closed_members k) (closed-ends k) (3 * length ts) mid others rest (omega (arith, less)) q in
    read-phrase (closed_members k) (3 * length ts) ts (ms ++ others) rest (closed-later k (3 * length ts) ts mid rest ms others (omega arith) one two)

pub over-later : (k : TypeKind) (n : ℕ) (c : Bool) (ts mid : List Symbol) (ms : List MemberAt) → Passes (member_form k) ts ms mid → MembersOver k (n + length ms) (c || has_constructor ms) mid → MembersOver k n c ts
over-later k n c ts mid ms p (inl crowd) = inl (members-later k n (3 * length ts) ts mid ms (passes-reads (member_form k) (member-ends k) (3 * length ts) ts ms mid (omega arith) p) crowd)
over-later k n c ts mid ms p (inr (others, rest, q, lt)) =
    let same : (c || has_constructor (ms ++ others)) ≡ ((c || has_constructor ms) || has_constructor others) =
    ap (λ (x : Bool). c || x) (constructors-joined ms others) ∙ sym (or_assoc c (has_constructor ms) (has_constructor others)) in
    inr (ms ++ others, rest, closed-joined k ts mid rest ms others p q, omega (arith, lt, length-append ms others, ap (λ (x : Bool). added_to k x) same))

pub end-later : (k : TypeKind) (ts mid rest : List Symbol) (ms : List MemberAt) → Passes (member_form k) ts ms mid → MembersEnd k mid rest → MembersEnd k ts rest
end-later k ts mid rest ms p (others, q) = (ms ++ others, closed-joined k ts mid rest ms others p q)

-- the first member of members that are closed
record Nexts (k : TypeKind) (ts : List Symbol) (all : List MemberAt) (rest : List Symbol) : Type 0 where
  items : List MemberAt
  others : List MemberAt
  mid : List Symbol
  item : Passes (member_form k) ts items mid
  later : Passes (closed_members k) mid others rest
  is_all : all ≡ items ++ others

at-brace : (k : TypeKind) (ts mid : List Symbol) (ms : List MemberAt) → starts (64 ∷ []) ts ≡ true → Passes (member_form k) ts ms mid → ⊥
at-brace k ts mid ms b (us, e, is) =
    not-brace (first (member_form k)) (member-brace k) ts b (ap (λ (zs : List Symbol). starts (first (member_form k)) zs) e ∙ item-starts (member_form k) (member-never k) us mid ms is)

closed-next : (k : TypeKind) (ts : List Symbol) (all : List MemberAt) (rest : List Symbol) → Passes (closed_members k) ts all rest → (starts (64 ∷ []) ts ≡ true) ⊎ Nexts k ts all rest
closed-next k ts all rest p =
    ⊎_elim (λ (z : (starts (64 ∷ []) ts ≡ true) × (all ≡ []) × (rest ≡ drop 1 ts)). inl z.0)
    (λ (z : NextMember k (3 * length ts) ts all rest).
    inr (record {
      items = z.items;
      others = z.others;
      mid = z.mid;
      item = read-phrase (member_form k) (3 * length ts) ts z.items z.mid z.first_read;
      later = read-phrase (closed_members k) (3 * length ts) z.mid z.others rest z.others_read;
      is_all = z.is_all;
    }))
    (closed-cases k (3 * length ts) ts all rest (omega arith) (passes-reads (closed_members k) (closed-ends k) (3 * length ts) ts all rest (omega arith) p))

pub end-goes : (k : TypeKind) (ts mid rest : List Symbol) (ms : List MemberAt) → Passes (member_form k) ts ms mid → MembersEnd k ts rest → MembersEnd k mid rest
end-goes k ts mid rest ms p (all, q) =
    ⊎_elim (λ (b : starts (64 ∷ []) ts ≡ true). absurd (at-brace k ts mid ms b p))
    (λ (z : Nexts k ts all rest).
    let same = passes-rest (member_form k) (member-ends k) ts z.items ms z.mid mid z.item p in
    (z.others, subst (λ (zs : List Symbol). Passes (closed_members k) zs z.others rest) same z.later))
    (closed-next k ts all rest q)

pub over-goes : (k : TypeKind) (n : ℕ) (c : Bool) (ts mid : List Symbol) (ms : List MemberAt) → (MemberCrowds k n ts → ⊥) → Passes (member_form k) ts ms mid → MembersOver k n c ts → MembersOver k (n + length ms) (c || has_constructor ms) mid
over-goes k n c ts mid ms none p (inl crowd) =
    ⊎_elim (λ (m : MemberCrowds k n ts). absurd (none m))
    (λ (l : Later k n (3 * length ts) ts).
    let there = read-phrase (member_form k) (3 * length ts) ts l.items l.rest l.there in
    let value = passes-value (member_form k) (member-ends k) ts l.items ms l.rest mid there p in
    let same = passes-rest (member_form k) (member-ends k) ts l.items ms l.rest mid there p in
    inl (subst (λ (zs : List Symbol). MembersCrowd k (n + length ms) zs) same (subst (λ (xs : List MemberAt). MembersCrowd k (n + length xs) l.rest) value l.crowds)))
    (members-cases k n (3 * length ts) ts (omega arith) crowd)
over-goes k n c ts mid ms none p (inr (all, rest, q, lt)) =
    ⊎_elim (λ (b : starts (64 ∷ []) ts ≡ true). absurd (at-brace k ts mid ms b p))
    (λ (z : Nexts k ts all rest).
    let value = passes-value (member_form k) (member-ends k) ts z.items ms z.mid mid z.item p in
    let same = passes-rest (member_form k) (member-ends k) ts z.items ms z.mid mid z.item p in
    let all_is : all ≡ ms ++ z.others = z.is_all ∙ ap (λ (xs : List MemberAt). xs ++ z.others) value in
    let constructs_is : (c || has_constructor all) ≡ ((c || has_constructor ms) || has_constructor z.others) =
    ap (λ (xs : List MemberAt). c || has_constructor xs) all_is ∙ (ap (λ (x : Bool). c || x) (constructors-joined ms z.others) ∙ sym (or_assoc c (has_constructor ms) (has_constructor z.others))) in
    inr (z.others, rest, subst (λ (zs : List Symbol). Passes (closed_members k) zs z.others rest) same z.later, omega (arith, lt, ap length all_is, length-append ms z.others, ap (λ (x : Bool). added_to k x) constructs_is)))
    (closed-next k ts all rest q)

-- neither a `}` nor a whole member stands here
pub over-stuck : (k : TypeKind) (n : ℕ) (c : Bool) (ts : List Symbol) → starts (64 ∷ []) ts ≡ false → (MemberCrowds k n ts → ⊥) → ((ms : List MemberAt) (mid : List Symbol) → Passes (member_form k) ts ms mid → ⊥) → MembersOver k n c ts → ⊥
over-stuck k n c ts b none stuck (inl crowd) =
    ⊎_elim none (λ (l : Later k n (3 * length ts) ts). stuck l.items l.rest (read-phrase (member_form k) (3 * length ts) ts l.items l.rest l.there)) (members-cases k n (3 * length ts) ts (omega arith) crowd)
over-stuck k n c ts b none stuck (inr (all, rest, q, lt)) =
    ⊎_elim (λ (s : starts (64 ∷ []) ts ≡ true). not_both (starts (64 ∷ []) ts) s b) (λ (z : Nexts k ts all rest). stuck z.items z.mid z.item) (closed-next k ts all rest q)

pub end-stuck : (k : TypeKind) (ts rest : List Symbol) → starts (64 ∷ []) ts ≡ false → ((ms : List MemberAt) (mid : List Symbol) → Passes (member_form k) ts ms mid → ⊥) → MembersEnd k ts rest → ⊥
end-stuck k ts rest b stuck (all, q) =
    ⊎_elim (λ (s : starts (64 ∷ []) ts ≡ true). not_both (starts (64 ∷ []) ts) s b) (λ (z : Nexts k ts all rest). stuck z.items z.mid z.item) (closed-next k ts all rest q)
