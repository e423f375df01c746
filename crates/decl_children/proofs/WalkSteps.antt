-- What the steps of a walk over members answer, from what their calls answered.
use Rattle.std.proofs.Common.{◌≡◌, ◌==◌, ℕ, ◌+◌, ◌*◌, ◌<◌, ◌≤◌, Bool, true, false, ◌||◌, List, [], ◌∷◌, ◌++◌, drop, length, Result, Ok, Err, ◌⊎◌, inl, inr, ⊎_elim, refl, sym, ap, subst, ◌∙◌, length-append, arith}
use Rattle.apt_base.specs.declared.memory.NoMemory.{NoMemory}
use Rattle.apt_base.specs.Limits.{max_children}
use Rattle.decl_tree.specs.declared.declaration.TypeKind.{TypeKind}
use Rattle.decl_tree.specs.declared.declaration.TypeKind.TheVariants as kind
use Rattle.decl_grammar.specs.declared.symbol.Symbol.{Symbol}
use Rattle.decl_grammar.specs.declared.written.MemberAt.{MemberAt}
use Rattle.decl_grammar.specs.declared.written.Modifiers.{Modifiers}
use Rattle.decl_grammar.specs.declared.written.TypeRest.{TypeRest}
use Rattle.decl_grammar.specs.declared.written.Unmodified.{Unmodified}
use Rattle.decl_grammar.specs.declared.written.Unmodified.TheVariants as unmodified
use Rattle.decl_grammar.specs.Reading.{has, starts, done}
use Rattle.decl_grammar.specs.Form.{Form, first, first_of, nullable, nested_type}
use Rattle.decl_grammar.specs.Types.{type_modifiers}
use Rattle.decl_grammar.specs.Grammar.{type_rest, modified_form, member_form}
use Rattle.decl_grammar.specs.Rule.{reads}
use Rattle.decl_grammar.proofs.Progress.{done_rest}
use Rattle.decl_grammar.proofs.OneToken.{not_both}
use Rattle.decl_children.specs.Fronts.{SomeFront, Passes}
use Rattle.decl_children.specs.Members.{InType, MemberCrowds, TypeCrowds}
use Rattle.decl_children.specs.Results.{ExecutableCrowds}
use Rattle.decl_children.specs.TypeWalks.{Walks, Steps, has_constructor, added_to, unmodified_form, nothing_form, MembersOver, MembersEnd, TypeEnds}
use Rattle.decl_children.specs.Unmodifieds.{count_of, constructs_one, own_of, FieldsBehind, OwnBehind}
use Rattle.decl_children.specs.WalkSteps.{OneMore, NothingSteps, MembersSame}
use Rattle.decl_children.specs.declared.walks.Walk.{Walk}
use Rattle.decl_children.specs.declared.walks.Walk.TheVariants as walk
use Rattle.decl_children.specs.declared.walks.Step.{Step}
use Rattle.decl_children.specs.declared.walks.Step.TheVariants as step
use Rattle.decl_children.proofs.CommaRows.{item-starts}
use Rattle.decl_children.proofs.FileRows.{type-begins}
use Rattle.decl_children.proofs.MemberCases.{one_more, case-member}
use Rattle.decl_children.proofs.MemberEnds.{member-never}
use Rattle.decl_children.proofs.MemberWalks.{BehindCase, in_type, in_executable, in_fields, in_own, DeclaredTo, MemberTo, member-behind, member-back, member-goes, BehindMarks, member-ends, ends-member, nothing-ends, type-member, member-type, no-own, no-fields}
use Rattle.decl_children.proofs.MembersWalks.{most-full, over-here, over-later, over-goes, over-stuck, over-brace, brace-over, brace-end, end-later, end-goes, end-stuck}

pub passes-falls : {A : Type 0} (f : Form A) → nullable f ≡ false → (ts : List Symbol) (x : A) (rest : List Symbol) → Passes f ts x rest → length rest < length ts
passes-falls f never ts x rest ([], e, is) =
    let begun : starts (first f) [] ≡ true = item-starts f never [] [] x is in
    absurd cc
passes-falls f never ts x rest (u ∷ us, e, is) = omega (arith, ap length e, length-append us rest)

-- ---- one member

pub one-full : (k : TypeKind) (n : ℕ) (ts : List Symbol) → OneMore k n ts → MemberCrowds k n ts
one-full k n ts o = case-member k n ts (one_more o.0 o.1)

-- a member that is not full in any way
pub member-not : (k : TypeKind) (n room : ℕ) (ts rest : List Symbol) (m : Modifiers) → n ≤ max_children → 3 * length ts ≤ room → (OneMore k n ts → ⊥) → reads room type_modifiers ts ≡ done m rest
    → (TypeCrowds rest → ⊥) → (ExecutableCrowds rest → ⊥) → (n < max_children → FieldsBehind k n rest → ⊥) → (OwnBehind k rest → ⊥) → MemberCrowds k n ts → ⊥
member-not k n room ts rest m le fits one there a b c d crowd = ⊎_elim one go (member-behind k n room ts rest m le fits there crowd)
  where
    go : BehindCase k n rest → ⊥
    go (in_type x) = a x
    go (in_executable x) = b x
    go (in_fields lt x) = c lt x
    go (in_own x) = d x

-- its modifiers are not read
pub marks-not : (k : TypeKind) (n room : ℕ) (ts : List Symbol) → n ≤ max_children → 3 * length ts ≤ room → (OneMore k n ts → ⊥) → ((m : Modifiers) (rest : List Symbol) → reads room type_modifiers ts ≡ done m rest → ⊥) → MemberCrowds k n ts → ⊥
marks-not k n room ts le fits one none crowd = ⊎_elim one (λ (b : BehindMarks k n room ts). none b.mods b.rest b.there) (member-goes k n room ts le fits crowd)

pub steps-of : (k : TypeKind) (n room : ℕ) (ts : List Symbol) (r : Result Step NoMemory) → 3 * length ts ≤ room → (MemberCrowds k n ts → ⊥) → ((rest : List Symbol) → DeclaredTo k room ts rest → ⊥) → NothingSteps k ts r → Steps k n ts r
steps-of k n room ts (Ok step.Full) fits not none w = absurd w
steps-of k n room ts (Ok step.Ended) fits not none w =
    (not, λ ms rest p. ⊎_elim (λ (q : Passes (nothing_form k) ts tt rest). w rest q) (λ (q : DeclaredTo k room ts rest). none rest q) (member-ends k room ts ms rest fits p))
steps-of k n room ts (Ok (step.Behind p)) fits not none w =
    let t = nothing-ends k ts p.rest.now w.2 in
    (not, (t.items, t.there, w.0 ∙ t.are, w.1 ∙ t.constructs_is))
steps-of k n room ts (Err e) fits not none w = tt

-- ---- a type as a member

pub type-not : (k : TypeKind) (n room : ℕ) (ts rest : List Symbol) (m : Modifiers) → n ≤ max_children → 3 * length ts ≤ room → (OneMore k n ts → ⊥) → reads room type_modifiers ts ≡ done m rest → starts (first_of nested_type) rest ≡ true
    → (TypeCrowds rest → ⊥) → (ExecutableCrowds rest → ⊥) → MemberCrowds k n ts → ⊥
type-not k n room ts rest m le fits one there s a b crowd = member-not k n room ts rest m le fits one there a b (λ lt f. no-fields k n rest lt s f) (λ o. no-own k rest s o) crowd

pub type-none : (k : TypeKind) (room : ℕ) (ts rest : List Symbol) (m : Modifiers) → reads room type_modifiers ts ≡ done m rest → starts (first_of nested_type) rest ≡ true → ((end : List Symbol) → TypeEnds rest end → ⊥) → (end : List Symbol) → DeclaredTo k room ts end → ⊥
type-none k room ts rest m there s none end d =
    let same : d.mid ≡ rest = done_rest d.mods m d.mid rest (sym d.there ∙ there) in
    none end (member-type k rest end d.value s (subst (λ (zs : List Symbol). Passes (unmodified_form k) zs d.value end) same d.member))

pub type-to : (k : TypeKind) (room : ℕ) (ts rest end : List Symbol) (m : Modifiers) → reads room type_modifiers ts ≡ done m rest → TypeEnds rest end → MemberTo k ts end 1 false
type-to k room ts rest end m there (x, p) = ends-member k room ts rest end m (unmodified.Nested x) there (type-member k rest end x p)

-- no type is full where none begins
pub no-type : (ts : List Symbol) → starts (first_of nested_type) ts ≡ false → TypeCrowds ts → ⊥
no-type ts s (us, vs, e, full) = not_both (starts (first_of nested_type) ts) (ap (λ (zs : List Symbol). starts (first_of nested_type) zs) e ∙ type-begins us vs full) s

-- ---- members up to the `}`

pub same-begins : (k : TypeKind) (n : ℕ) (symbols ts : List Symbol) → n ≤ max_children → ts ≡ symbols → MembersSame k n symbols n false ts
same-begins k n symbols ts le e = subst (λ (zs : List Symbol). MembersSame k n symbols n false zs) (sym e) (omega arith, le, λ o. o, λ o. o, λ r m. m, λ r m. m)

pub same-full : (k : TypeKind) (b : ℕ) (symbols : List Symbol) (n : ℕ) (c : Bool) (ts : List Symbol) → MembersSame k b symbols n c ts → MemberCrowds k n ts → MembersOver k b false symbols
same-full k b symbols n c ts same m = same.3 (over-here k n c ts m)

pub same-ended : (k : TypeKind) (b : ℕ) (symbols : List Symbol) (n : ℕ) (c : Bool) (ts : List Symbol) → MembersSame k b symbols n c ts → starts (64 ∷ []) ts ≡ false → (MemberCrowds k n ts → ⊥) → ((ms : List MemberAt) (mid : List Symbol) → Passes (member_form k) ts ms mid → ⊥)
    → (MembersOver k b false symbols → ⊥) × ((rest : List Symbol) → MembersEnd k symbols rest → ⊥)
same-ended k b symbols n c ts same s none stuck = (λ o. over-stuck k n c ts s none stuck (same.2 o), λ rest m. end-stuck k ts rest s stuck (same.4 rest m))

pub same-most : (k : TypeKind) (b : ℕ) (symbols : List Symbol) (n : ℕ) (c : Bool) (ts mid : List Symbol) (ms : List MemberAt) → MembersSame k b symbols n c ts → Passes (member_form k) ts ms mid → max_children < n + length ms → MembersOver k b false symbols
same-most k b symbols n c ts mid ms same p lt = same.3 (over-later k n c ts mid ms p (over-here k (n + length ms) (c || has_constructor ms) mid (most-full k (n + length ms) mid lt)))

pub same-goes : (k : TypeKind) (b : ℕ) (symbols : List Symbol) (n : ℕ) (c : Bool) (ts mid : List Symbol) (ms : List MemberAt) → MembersSame k b symbols n c ts → (MemberCrowds k n ts → ⊥) → Passes (member_form k) ts ms mid → n + length ms ≤ max_children
    → MembersSame k b symbols (n + length ms) (c || has_constructor ms) mid
same-goes k b symbols n c ts mid ms same none p le = (
  omega (arith, same.0, passes-falls (member_form k) (member-never k) ts ms mid p),
  le,
  λ o. over-goes k n c ts mid ms none p (same.2 o),
  λ o. same.3 (over-later k n c ts mid ms p o),
  λ r m. end-goes k ts mid r ms p (same.4 r m),
  λ r m. same.5 r (end-later k ts mid r ms p m),
)

pub same-over : (k : TypeKind) (b : ℕ) (symbols : List Symbol) (n : ℕ) (c : Bool) (ts : List Symbol) → MembersSame k b symbols n c ts → starts (64 ∷ []) ts ≡ true → max_children < n + added_to k c → MembersOver k b false symbols
same-over k b symbols n c ts same s lt = same.3 (over-brace k n c ts s lt)

pub same-brace : (k : TypeKind) (b : ℕ) (symbols : List Symbol) (n : ℕ) (c : Bool) (ts : List Symbol) → MembersSame k b symbols n c ts → starts (64 ∷ []) ts ≡ true → n + added_to k c ≤ max_children
    → (MembersOver k b false symbols → ⊥) × MembersEnd k symbols (drop 1 ts)
same-brace k b symbols n c ts same s le = (λ o. omega (arith, le, brace-over k n c ts same.1 s (same.2 o)), same.5 (drop 1 ts) (brace-end k ts s))
