-- What the functions of the walk that call one another answer, from what their calls answered.
use Rattle.std.proofs.Common.{◌≡◌, ℕ, ◌+◌, ◌*◌, ◌<◌, ◌≤◌, Bool, true, false, ◌||◌, List, [], ◌∷◌, drop, length, Result, Ok, ◌⊎◌, inl, inr, ⊎_elim, refl, sym, ap, subst, ◌∙◌, arith}
use Rattle.std.proofs.lemmas.Bool.{eqb-true}
use Rattle.apt_base.specs.declared.memory.NoMemory.{NoMemory}
use Rattle.apt_base.specs.Limits.{max_children}
use Rattle.decl_tree.specs.declared.declaration.TypeKind.{TypeKind}
use Rattle.decl_tree.specs.declared.declaration.TypeKind.TheVariants as kind
use Rattle.decl_grammar.specs.declared.symbol.Symbol.{Symbol}
use Rattle.decl_grammar.specs.declared.written.MemberAt.{MemberAt}
use Rattle.decl_grammar.specs.declared.written.Modifiers.{Modifiers}
use Rattle.decl_grammar.specs.Reading.{has, starts, done}
use Rattle.decl_grammar.specs.Form.{first_of, nested_type}
use Rattle.decl_grammar.specs.Types.{type_modifiers}
use Rattle.decl_grammar.specs.Grammar.{member_form}
use Rattle.decl_grammar.specs.Rule.{reads}
use Rattle.decl_grammar.proofs.OneToken.{not_both, one_or}
use Rattle.decl_children.specs.Fronts.{Passes}
use Rattle.decl_children.specs.Members.{MemberCrowds, TypeCrowds, heading_of}
use Rattle.decl_children.specs.Results.{ExecutableCrowds}
use Rattle.decl_children.specs.KindWords.{front_word, is_enum}
use Rattle.decl_children.specs.TypeWalks.{Walks, Steps, has_constructor, MembersOver, MembersEnd, TypeEnds, ParamsOver, ConstantsOver, EnumOver, EnumEnd, enum_front}
use Rattle.decl_children.specs.WalkSteps.{OneMore, NothingSteps, MembersSame}
use Rattle.decl_children.specs.declared.walks.Walk.{Walk}
use Rattle.decl_children.specs.declared.walks.Passed.{Passed}
use Rattle.decl_children.specs.declared.walks.Step.{Step}
use Rattle.decl_children.specs.declared.walks.Step.TheVariants as step
use Rattle.decl_crossings.proofs.PhraseReads.{read-phrase}
use Rattle.decl_children.proofs.FileRows.{type-begins}
use Rattle.decl_children.proofs.TypeReads.{heading-ends}
use Rattle.decl_children.proofs.Passages.{passes-reads}
use Rattle.decl_children.proofs.MemberEnds.{member-never}
use Rattle.decl_children.proofs.MemberWalks.{in_type, in_executable, member-back}
use Rattle.decl_children.proofs.MembersWalks.{most-full, over-here}
use Rattle.decl_children.proofs.KindWalks.{HeadedOver, walks-as, headed-goes, headed-back, headed-as, headed-ends, ends-headed, end-as, rest-out, form-first, form-never, form_of, starts-as}
use Rattle.decl_children.proofs.EnumWalks.{EnumRead, enum-goes, enum-back, enum-ends, ends-enum, enum-as}
use Rattle.decl_children.proofs.WalkSteps.{passes-falls, steps-of, marks-not, type-not, type-none, type-to, same-most, same-goes}

-- ---- one member

pub none-steps : (k : TypeKind) (n room : ℕ) (ts : List Symbol) (r : Result Step NoMemory) → n ≤ max_children → 3 * length ts ≤ room → (OneMore k n ts → ⊥) → ((m : Modifiers) (rest : List Symbol) → reads room type_modifiers ts ≡ done m rest → ⊥) → NothingSteps k ts r → Steps k n ts r
none-steps k n room ts r le fits one none w = steps-of k n room ts r fits (marks-not k n room ts le fits one none) (λ rest d. none d.mods d.mid d.there) w

pub executable-member : (k : TypeKind) (n room : ℕ) (ts rest : List Symbol) (m : Modifiers) → reads room type_modifiers ts ≡ done m rest → ExecutableCrowds rest → MemberCrowds k n ts
executable-member k n room ts rest m there c = member-back k n room ts rest m there (in_executable c)

pub type-member-full : (k : TypeKind) (n room : ℕ) (ts rest : List Symbol) (m : Modifiers) → reads room type_modifiers ts ≡ done m rest → TypeCrowds rest → MemberCrowds k n ts
type-member-full k n room ts rest m there c = member-back k n room ts rest m there (in_type c)

pub type-member-ended : (k : TypeKind) (n room : ℕ) (ts rest : List Symbol) (m : Modifiers) (r : Result Step NoMemory) → n ≤ max_children → 3 * length ts ≤ room → (OneMore k n ts → ⊥) → reads room type_modifiers ts ≡ done m rest → starts (first_of nested_type) rest ≡ true
    → (ExecutableCrowds rest → ⊥) → (TypeCrowds rest → ⊥) × ((end : List Symbol) → TypeEnds rest end → ⊥) → NothingSteps k ts r → Steps k n ts r
type-member-ended k n room ts rest m r le fits one there s a w steps =
    steps-of k n room ts r fits (type-not k n room ts rest m le fits one there s w.0 a) (type-none k room ts rest m there s w.1) steps

pub type-member-behind : (k : TypeKind) (n room : ℕ) (ts rest end : List Symbol) (m : Modifiers) → n ≤ max_children → 3 * length ts ≤ room → (OneMore k n ts → ⊥) → reads room type_modifiers ts ≡ done m rest → starts (first_of nested_type) rest ≡ true
    → (ExecutableCrowds rest → ⊥) → (TypeCrowds rest → ⊥) × TypeEnds rest end → (MemberCrowds k n ts → ⊥) × ((ms : List MemberAt) × Passes (member_form k) ts ms end × (1 ≡ length ms) × (false ≡ has_constructor ms))
type-member-behind k n room ts rest end m le fits one there s a w =
    let t = type-to k room ts rest end m there w.1 in
    (type-not k n room ts rest m le fits one there s w.0 a, (t.items, t.there, t.are, t.constructs_is))

-- ---- members up to the `}`

pub row-most : (k : TypeKind) (b : ℕ) (symbols : List Symbol) (n : ℕ) (c : Bool) (ts : List Symbol) (p : Passed) → MembersSame k b symbols n c ts → Steps k n ts (Ok (step.Behind p)) → max_children < n + p.count → MembersOver k b false symbols
row-most k b symbols n c ts p same (none, (ms, there, are, constructs_is)) lt = same-most k b symbols n c ts p.rest.now ms same there (omega (arith, lt, are))

pub row-goes : (k : TypeKind) (b : ℕ) (symbols : List Symbol) (n : ℕ) (c d : Bool) (ts after : List Symbol) (p : Passed) → MembersSame k b symbols n c ts → Steps k n ts (Ok (step.Behind p)) → n + p.count ≤ max_children → d ≡ (c || p.constructor) → after ≡ p.rest.now
    → MembersSame k b symbols (n + p.count) d after
row-goes k b symbols n c d ts after p same (none, (ms, there, are, constructs_is)) le e at =
    subst (λ (zs : List Symbol). MembersSame k b symbols (n + p.count) d zs) (sym at)
    (subst (λ (j : ℕ). MembersSame k b symbols (n + j) d p.rest.now) (sym are)
    (subst (λ (i : Bool). MembersSame k b symbols (n + length ms) i p.rest.now) (sym (e ∙ ap (λ (i : Bool). c || i) constructs_is))
    (same-goes k b symbols n c ts p.rest.now ms same none there (omega (arith, le, are)))))

pub row-falls : (k : TypeKind) (n : ℕ) (ts after : List Symbol) (p : Passed) → Steps k n ts (Ok (step.Behind p)) → after ≡ p.rest.now → length after < length ts
row-falls k n ts after p (none, (ms, there, are, constructs_is)) at = subst (λ (zs : List Symbol). length zs < length ts) (sym at) (passes-falls (member_form k) (member-never k) ts ms p.rest.now there)

-- ---- a class, an interface, an annotation interface

pub headed-none : (k : TypeKind) (room : ℕ) (ts : List Symbol) → is_enum k ≡ false → starts (front_word k ∷ []) ts ≡ true → 3 * length ts ≤ room → (ParamsOver ts → ⊥) → ((n : ℕ) (mid : List Symbol) → reads room (heading_of k) ts ≡ done n mid → ⊥)
    → (TypeCrowds ts → ⊥) × ((rest : List Symbol) → TypeEnds ts rest → ⊥)
headed-none k room ts e s fits params none = (
  λ c. ⊎_elim params (λ (h : HeadedOver k ts). none h.0 h.1 (passes-reads (heading_of k) (heading-ends k) room ts h.0 h.1 fits h.2)) (headed-goes k e ts s c),
  λ rest t. let h = headed-ends k e ts rest s t in none h.0 h.1 (passes-reads (heading_of k) (heading-ends k) room ts h.0 h.1 fits h.2),
)

pub headed-most : (k : TypeKind) (room : ℕ) (ts mid : List Symbol) (n : ℕ) → is_enum k ≡ false → reads room (heading_of k) ts ≡ done n mid → max_children < n → TypeCrowds ts
headed-most k room ts mid n e there lt = headed-back k e ts mid n (read-phrase (heading_of k) room ts n mid there) (over-here k n false mid (most-full k n mid lt))

pub headed-walks : (k : TypeKind) (room : ℕ) (ts mid : List Symbol) (n : ℕ) (r : Result Walk NoMemory) → is_enum k ≡ false → starts (front_word k ∷ []) ts ≡ true → (ParamsOver ts → ⊥) → reads room (heading_of k) ts ≡ done n mid
    → Walks (MembersOver k n false mid) (MembersEnd k mid) r → Walks (TypeCrowds ts) (TypeEnds ts) r
headed-walks k room ts mid n r e s params there w =
    let p = read-phrase (heading_of k) room ts n mid there in
    walks-as (MembersOver k n false mid) (TypeCrowds ts) (MembersEnd k mid) (TypeEnds ts) r (headed-back k e ts mid n p)
    (λ c. ⊎_elim (λ (o : ParamsOver ts). absurd (params o)) (λ (h : HeadedOver k ts). headed-as k ts mid n p h) (headed-goes k e ts s c))
    (λ rest m. ends-headed k e ts mid rest n p m) (λ rest t. end-as k ts mid rest n p (headed-ends k e ts rest s t)) w

-- ---- an enum

pub enum-none : (room : ℕ) (ts : List Symbol) → starts (25 ∷ []) ts ≡ true → 3 * length ts ≤ room → (ConstantsOver ts → ⊥) → ((n : ℕ) (mid : List Symbol) → reads room enum_front ts ≡ done n mid → ⊥) → (TypeCrowds ts → ⊥) × ((rest : List Symbol) → TypeEnds ts rest → ⊥)
enum-none room ts s fits constants none = (
  λ c. ⊎_elim constants (λ (h : EnumRead room ts EnumOver). none h.count h.mid h.there) (enum-goes room ts fits s c),
  λ rest t. let h = enum-ends room ts rest fits s t in none h.count h.mid h.there,
)

pub enum-walks : (room : ℕ) (ts mid : List Symbol) (n : ℕ) (r : Result Walk NoMemory) → starts (25 ∷ []) ts ≡ true → 3 * length ts ≤ room → (ConstantsOver ts → ⊥) → reads room enum_front ts ≡ done n mid → Walks (EnumOver n mid) (EnumEnd mid) r → Walks (TypeCrowds ts) (TypeEnds ts) r
enum-walks room ts mid n r s fits constants there w =
    walks-as (EnumOver n mid) (TypeCrowds ts) (EnumEnd mid) (TypeEnds ts) r (enum-back room ts mid n there)
    (λ c. ⊎_elim (λ (o : ConstantsOver ts). absurd (constants o)) (λ (h : EnumRead room ts EnumOver). enum-as room ts mid n EnumOver there h) (enum-goes room ts fits s c))
    (λ rest m. ends-enum room ts mid rest n there m) (λ rest t. enum-as room ts mid n (λ (j : ℕ) (zs : List Symbol). EnumEnd zs rest) there (enum-ends room ts rest fits s t)) w

both-sorts : (ts : List Symbol) → starts (67 ∷ []) ts ≡ true → starts (64 ∷ []) ts ≡ true → ⊥
both-sorts [] a b = absurd cc
both-sorts (t ∷ ts) a b = not_both (has (67 ∷ []) t.sort) a (ap (λ (n : ℕ). has (67 ∷ []) n) (eqb-true t.sort 64 b))

pub constants-most : (n : ℕ) (ts : List Symbol) → starts (67 ∷ []) ts ≡ true → max_children < n → EnumOver n ts
constants-most n ts s lt = inl (s, over-here kind.Enum n false (drop 1 ts) (most-full kind.Enum n (drop 1 ts) lt))

pub constants-walks : (n : ℕ) (ts : List Symbol) (r : Result Walk NoMemory) → starts (67 ∷ []) ts ≡ true → Walks (MembersOver kind.Enum n false (drop 1 ts)) (MembersEnd kind.Enum (drop 1 ts)) r → Walks (EnumOver n ts) (EnumEnd ts) r
constants-walks n ts r s w =
    walks-as (MembersOver kind.Enum n false (drop 1 ts)) (EnumOver n ts) (MembersEnd kind.Enum (drop 1 ts)) (EnumEnd ts) r (λ o. inl (s, o)) over (λ rest m. inl (s, m)) end w
  where
    over : EnumOver n ts → MembersOver kind.Enum n false (drop 1 ts)
    over (inl o) = o.1
    over (inr o) = absurd (both-sorts ts s o.0)

    end : (rest : List Symbol) → EnumEnd ts rest → MembersEnd kind.Enum (drop 1 ts) rest
    end rest (inl m) = m.1
    end rest (inr m) = absurd (both-sorts ts s m.0)

pub constants-stuck : (n : ℕ) (ts : List Symbol) → starts (67 ∷ []) ts ≡ false → starts (64 ∷ []) ts ≡ false → (EnumOver n ts → ⊥) × ((rest : List Symbol) → EnumEnd ts rest → ⊥)
constants-stuck n ts a b = (over, end)
  where
    over : EnumOver n ts → ⊥
    over (inl o) = not_both (starts (67 ∷ []) ts) o.0 a
    over (inr o) = not_both (starts (64 ∷ []) ts) o.0 b

    end : (rest : List Symbol) → EnumEnd ts rest → ⊥
    end rest (inl m) = not_both (starts (67 ∷ []) ts) m.0 a
    end rest (inr m) = not_both (starts (64 ∷ []) ts) m.0 b

pub constants-over : (n : ℕ) (ts : List Symbol) → starts (64 ∷ []) ts ≡ true → max_children < n + 3 → EnumOver n ts
constants-over n ts s lt = inr (s, omega (arith, lt))

pub constants-end : (n : ℕ) (ts : List Symbol) → starts (67 ∷ []) ts ≡ false → starts (64 ∷ []) ts ≡ true → n + 3 ≤ max_children → (EnumOver n ts → ⊥) × EnumEnd ts (drop 1 ts)
constants-end n ts a s le = (over, inr (s, refl))
  where
    over : EnumOver n ts → ⊥
    over (inl o) = not_both (starts (67 ∷ []) ts) o.0 a
    over (inr o) = omega (arith, le, o.1)

-- ---- no type begins here

no-words : (ts : List Symbol) → starts (25 ∷ []) ts ≡ false → starts (18 ∷ []) ts ≡ false → starts (37 ∷ []) ts ≡ false → starts (9 ∷ []) ts ≡ false → (k : TypeKind) → starts (front_word k ∷ []) ts ≡ true → ⊥
no-words ts a b c d kind.Enum s = not_both (starts (25 ∷ []) ts) s a
no-words ts a b c d kind.Class s = not_both (starts (18 ∷ []) ts) s b
no-words ts a b c d kind.Interface s = not_both (starts (37 ∷ []) ts) s c
no-words ts a b c d kind.AnnotationType s = not_both (starts (9 ∷ []) ts) s d

word-of : (ts : List Symbol) → starts (first_of nested_type) ts ≡ true → (k : TypeKind) × (starts (front_word k ∷ []) ts ≡ true)
word-of [] s = absurd cc
word-of (t ∷ ts) s =
    ⊎_elim (λ (a : has (18 ∷ []) t.sort ≡ true). (kind.Class, a))
    (λ (r : has (37 ∷ 9 ∷ 25 ∷ []) t.sort ≡ true).
    ⊎_elim (λ (a : has (37 ∷ []) t.sort ≡ true). (kind.Interface, a))
    (λ (q : has (9 ∷ 25 ∷ []) t.sort ≡ true). ⊎_elim (λ (a : has (9 ∷ []) t.sort ≡ true). (kind.AnnotationType, a)) (λ (a : has (25 ∷ []) t.sort ≡ true). (kind.Enum, a)) (one_or (has (9 ∷ []) t.sort) (has (25 ∷ []) t.sort) q))
    (one_or (has (37 ∷ []) t.sort) (has (9 ∷ 25 ∷ []) t.sort) r))
    (one_or (has (18 ∷ []) t.sort) (has (37 ∷ 9 ∷ 25 ∷ []) t.sort) s)

pub type-stuck : (ts : List Symbol) → starts (25 ∷ []) ts ≡ false → starts (18 ∷ []) ts ≡ false → starts (37 ∷ []) ts ≡ false → starts (9 ∷ []) ts ≡ false → (TypeCrowds ts → ⊥) × ((rest : List Symbol) → TypeEnds ts rest → ⊥)
type-stuck ts a b c d = (over, end)
  where
    over : TypeCrowds ts → ⊥
    over (us, vs, e, full) = let w = word-of ts (ap (λ (zs : List Symbol). starts (first_of nested_type) zs) e ∙ type-begins us vs full) in no-words ts a b c d w.0 w.1

    end : (rest : List Symbol) → TypeEnds ts rest → ⊥
    end rest (x, (us, e, is)) =
        let o = rest-out us x (record { is = is }) in
        no-words ts a b c d o.0 (starts-as (form_of o.0) (front_word o.0) (form-first o.0) (form-never o.0) ts us rest x e o.1)
