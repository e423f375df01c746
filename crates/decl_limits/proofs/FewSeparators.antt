-- Of the children of a type those but the first ones have a separator each: a type parameter in what stands around the type, and a member in its braces; and the language adds at most three.
-- Of those of a method or a constructor each but the first type parameter and the first parameter has one in what stands around it. So symbols in which a child list is too long have braces within
-- which at least half as many separate, but for two.
use Rattle.std.proofs.Common.{◌≡◌, ℕ, zero, suc, ◌+◌, ◌*◌, ◌≤◌, Bool, true, false, cond, List, [], ◌∷◌, ◌++◌, ◌⊎◌, length, inl, inr, refl, sym, ap, ◌∙◌, append_assoc, arith, length-append}
use Rattle.std.proofs.lemmas.List.{length-map}
use Rattle.std.proofs.lemmas.List.Sums.{sum_by-cons}
use Rattle.std.specs.List.{list_any}
use Rattle.apt_base.specs.Limits.{max_children}
use Rattle.decl_tree.specs.declared.declaration.Member.{Member, out-Member}
use Rattle.decl_tree.specs.declared.declaration.TypeKind.{TypeKind}
use Rattle.decl_tree.specs.declared.declaration.TypeKind.TheVariants as kind
use Rattle.decl_tree.specs.Legal.{constructs, default_constructors, enum_methods}
use Rattle.decl_grammar.specs.declared.symbol.Symbol.{Symbol}
use Rattle.decl_grammar.specs.declared.written.MemberAt.{MemberAt}
use Rattle.decl_grammar.specs.declared.written.TypeParamAt.{TypeParamAt}
use Rattle.decl_grammar.specs.declared.written.TypeRest.{TypeRest}
use Rattle.decl_grammar.specs.Symbols.{operator, at_interface}
use Rattle.decl_grammar.specs.TokenNames as token
use Rattle.decl_grammar.specs.Form.{Form, terminal, pair, turn, maybe, many, either, Is}
use Rattle.decl_grammar.specs.Types.{keyword, sign, behind, before, list_or_none, silently, name, name_at, annotations, type_form, type_param, optional_params}
use Rattle.decl_grammar.specs.Grammar.{plain_members, constant, constants, joined_lists, member_form, members_in, superclass, implemented, extended, class_form, interface_form, annotation_form, enum_members, enum_form, type_rest}
use Rattle.decl_grammar.specs.Rule.{WholeAt}
use Rattle.decl_grammar.specs.File.{IsPhrase}
use Rattle.decl_grammar.specs.Reading.{has}
use Rattle.decl_limits.specs.Separators.{Scan, unscanned, scan_next, scanned}
use Rattle.decl_limits.specs.Children.{blank, NextItem, FurtherParam, NextParam, class_heading, interface_heading, annotation_heading, enum_heading, whole_members, whole_constants, both, open_type, executable_heading, member_children, declared_children, ExecutableFull, MemberFull, TypeFull, FileFull, IsCrowded}
use Rattle.decl_limits.proofs.Scans.{whole-count, whole-most, first-scanned, one-scanned, more-most, bounded, Adds, adds-less, adds-both, mark-adds}
use Rattle.decl_limits.proofs.Braces.{level, effect}
use Rattle.decl_limits.proofs.EvenForms.{even}
use Rattle.decl_limits.proofs.Counted.{AtLeast, none, one, in-turn, in-behind, in-before, in-maybe, in-row}
use Rattle.decl_limits.proofs.Reached.{Reaches, reach-added, reach-least, reach-second, reach-turn, reach-behind, reach-before, reach-either}
use Rattle.decl_limits.proofs.FewMembers.{weight, items-few, own-few, member-least, members-least}
use Rattle.decl_limits.proofs.FewParams.{listed, further, further-few, further-less, optional-least, first-params-least, constants-least}
use Rattle.decl_limits.proofs.ClosedTypes.{rest-closed}

-- ---- whole types

-- the members but the first one
abbrev further_members : TypeRest → ℕ
further_members x = further x.members

members-reached : (h : ℕ) (k : TypeKind) → Reaches h (members_in k) length
members-reached h k =
    reach-behind (sign token.open_brace) (reach-before (sign token.close_brace) (reach-turn joined_lists length (reach-least (members-least h k)) (λ ms. omega arith)))

class-reached : (h : ℕ) (ts : List Symbol) (x : TypeRest) → Is (WholeAt h) class_form ts x → (s : Scan) → s.count ≤ s.most → further_members x ≤ (scanned s ts).most
unfolding class_form
class-reached h ts x is s le =
    let heading = reach-second optional_params (reach-second superclass (reach-second implemented (members-reached h kind.Class))) in
    let p = reach-behind (keyword token.class) (reach-second name_at heading) in
    omega (arith, p.there ts is.0 is.1 s le, ap further_members is.2, further-less is.0.1.1.1.1)

interface-reached : (h : ℕ) (ts : List Symbol) (x : TypeRest) → Is (WholeAt h) interface_form ts x → (s : Scan) → s.count ≤ s.most → further_members x ≤ (scanned s ts).most
unfolding interface_form
interface-reached h ts x is s le =
    let heading = reach-second optional_params (reach-second extended (members-reached h kind.Interface)) in
    let p = reach-behind (keyword token.interface) (reach-second name_at heading) in
    omega (arith, p.there ts is.0 is.1 s le, ap further_members is.2, further-less is.0.1.1.1)

annotation-reached : (h : ℕ) (ts : List Symbol) (x : TypeRest) → Is (WholeAt h) annotation_form ts x → (s : Scan) → s.count ≤ s.most → further_members x ≤ (scanned s ts).most
unfolding annotation_form
annotation-reached h ts x is s le =
    let p = reach-behind (terminal (at_interface ∷ [])) (reach-behind (keyword token.interface) (reach-second name_at (members-reached h kind.AnnotationType))) in
    omega (arith, p.there ts is.0 is.1 s le, ap further_members is.2, further-less is.0.1)

enum-members-least : (h : ℕ) → AtLeast h enum_members length
unfolding enum_members
enum-members-least h =
    in-turn (list_or_none {A = MemberAt}) length
    (in-maybe (listed {A = MemberAt}) (in-behind 0 (none h (sign token.semicolon) refl) (in-turn joined_lists length (members-least h kind.Enum) (λ ms. omega arith))) refl (λ ms. omega arith))
    (λ o. omega arith)

further-both : {A : Type 0} (xs ys : List A) → further (xs ++ ys) ≤ further xs + length ys
further-both [] ys = omega (arith, further-less ys)
further-both (x ∷ xs) ys = omega (arith, length-append xs ys)

-- the constants but the first one, and the members behind them, in the same braces
abbrev in_enum : List MemberAt × List MemberAt → ℕ
in_enum x = further x.0 + length x.1

enum-braces : (h : ℕ) (ts : List Symbol) (x : List MemberAt × List MemberAt) → Is (WholeAt h) (pair constants (before enum_members (sign token.close_brace))) ts x
    → (s : Scan) → s.count ≤ s.most → in_enum x ≤ (scanned s ts).most
enum-braces h ts x is s le =
    let behind = is.4 in
    let parts = behind.1 in
    let after = scanned s is.0 in
    let first = ((constants-least h).added is.0 x.0 is.3).adds s in
    let second = ((enum-members-least h).added parts.0 behind.0.0 parts.3).adds after in
    let within = bounded parts.0 after (bounded is.0 s le) in
    let whole = ap (λ (ms : List MemberAt). length ms) behind.2 in
    omega (arith, first, second, within, whole, more-most parts.1 (scanned after parts.0), whole-most parts.0 parts.1 parts.2 after, whole-most is.0 is.1 is.2 s)

enum-reached : (h : ℕ) (ts : List Symbol) (x : TypeRest) → Is (WholeAt h) enum_form ts x → (s : Scan) → s.count ≤ s.most → further_members x ≤ (scanned s ts).most
unfolding enum_form
enum-reached h ts x is s le =
    let braced : Reaches h (pair constants (before enum_members (sign token.close_brace))) in_enum = record { there = enum-braces h } in
    let p = reach-behind (keyword token.enum) (reach-second name_at (reach-second implemented (reach-behind (sign token.open_brace) braced))) in
    omega (arith, p.there ts is.0 is.1 s le, ap further_members is.2, further-both is.0.1.1.0 is.0.1.1.1)

type-reached : (h : ℕ) → Reaches h type_rest further_members
unfolding type_rest
type-reached h =
    reach-either (record { there = class-reached h })
    (reach-either (record { there = interface-reached h }) (reach-either (record { there = annotation-reached h }) (record { there = enum-reached h })))

-- the language adds at most three
constructor-few : (k : TypeKind) (ms : List Member) → default_constructors k ms ≤ 1
constructor-few kind.Enum ms = go (list_any (λ m. constructs (out-Member m)) ms)
  where
    go : (c : Bool) → cond c 0 1 ≤ 1
    go true = omega arith
    go false = omega arith
constructor-few kind.Class ms = go (list_any (λ m. constructs (out-Member m)) ms)
  where
    go : (c : Bool) → cond c 0 1 ≤ 1
    go true = omega arith
    go false = omega arith
constructor-few kind.AnnotationType ms = omega arith
constructor-few kind.Interface ms = omega arith

methods-few : (k : TypeKind) → enum_methods k ≤ 2
methods-few kind.Enum = omega arith
methods-few kind.Class = omega arith
methods-few kind.AnnotationType = omega arith
methods-few kind.Interface = omega arith

-- what is counted up to the end is no more than the most
closed-reached : {ts : List Symbol} {k : ℕ} → Adds ts k → (s : Scan) → s.count ≤ s.most → k ≤ (scanned s ts).most
closed-reached p s le = omega (arith, reach-added p s le)

type-few : (ts : List Symbol) (x : TypeRest) → IsPhrase type_rest ts x → (s : Scan) → s.count ≤ s.most → declared_children x ≤ 4 + 2 * (scanned s ts).most
type-few ts x is s le =
    omega (arith, closed-reached ((rest-closed is.0).added ts x is.1) s le, (type-reached is.0).there ts x is.1 s le, further-few x.parameters, further-few x.members, constructor-few x.kind (plain_members x.members), methods-few x.kind, length-map x.parameters (λ (p : TypeParamAt). p.param), length-map x.members (λ (m : MemberAt). m.member))

-- ---- types that are open, and headings

-- behind a heading with this many children before its members
abbrev Heads : ℕ → Form ℕ → Type 0
Heads h f = (ts : List Symbol) (n : ℕ) → Is (WholeAt h) f ts n → (s : Scan) → s.count ≤ s.most → n ≤ suc (scanned s ts).most

class-heads : (h : ℕ) → Heads h class_heading
unfolding class_heading
class-heads h ts n is s le =
    let p = reach-behind (keyword token.class) (reach-behind name (reach-before (pair superclass (before implemented (sign token.open_brace))) (reach-least (optional-least h)))) in
    omega (arith, p.there ts is.0 is.1 s le, is.2, further-few is.0)

interface-heads : (h : ℕ) → Heads h interface_heading
unfolding interface_heading
interface-heads h ts n is s le =
    let p = reach-behind (keyword token.interface) (reach-behind name (reach-before (before extended (sign token.open_brace)) (reach-least (optional-least h)))) in
    omega (arith, p.there ts is.0 is.1 s le, is.2, further-few is.0)

annotation-heads : (h : ℕ) → Heads h annotation_heading
unfolding annotation_heading
annotation-heads h ts n is s le = omega (arith, is.2)

constants-head : (h : ℕ) → Heads h whole_constants
unfolding whole_constants
constants-head h ts n is s le =
    let p = reach-behind enum_heading (reach-behind (sign token.open_brace) (reach-before (sign token.semicolon) (reach-least (constants-least h)))) in
    omega (arith, p.there ts is.0 is.1 s le, is.2, further-few is.0)

members-added : (h : ℕ) (k : TypeKind) (ts : List Symbol) (n : ℕ) → Is (WholeAt h) (whole_members k) ts n → Adds ts n
unfolding whole_members
members-added h k ts n is = adds-less ((members-least h k).added ts is.0 is.1) (omega (arith, is.2))

-- a heading, and whole members behind it
abbrev Stands : ℕ → Form ℕ → Type 0
Stands h f = (ts : List Symbol) (n : ℕ) → Is (WholeAt h) f ts n → (s : Scan) → s.count ≤ s.most → n ≤ suc (scanned s ts).most + (scanned s ts).count

open-from : (h : ℕ) (k : TypeKind) (f : Form ℕ) → Heads h f → Stands h (turn both (pair f (whole_members k)))
open-from h k f few ts n is s le =
    let p = is.1 in
    let head = few p.0 is.0.0 p.3 s le in
    let members = (members-added h k p.1 is.0.1 p.4).adds (scanned s p.0) in
    omega (arith, head, members, more-most p.1 (scanned s p.0), is.2, whole-count p.0 p.1 p.2 s, whole-most p.0 p.1 p.2 s)

open-there : (h : ℕ) (k : TypeKind) → Stands h (open_type k)
unfolding open_type
open-there h kind.Class = open-from h kind.Class class_heading (class-heads h)
open-there h kind.Interface = open-from h kind.Interface interface_heading (interface-heads h)
open-there h kind.AnnotationType = open-from h kind.AnnotationType annotation_heading (annotation-heads h)
open-there h kind.Enum = open-from h kind.Enum whole_constants (constants-head h)

-- a method or a constructor up to its parameters, with this many type parameters
heading-few : (ts : List Symbol) (n : ℕ) → IsPhrase executable_heading ts n → (s : Scan) → s.count + n ≤ suc (scanned s ts).count
unfolding executable_heading
heading-few ts n is s =
    let h = is.0 in
    let rest = pair annotations (pair (maybe (either (turn silently (keyword token.void)) (turn silently type_form))) name) in
    let p = in-before 0 (optional-least h) (none h rest even.behind_params_even) in
    omega (arith, (p.added ts is.1.0 is.1.1).adds s, is.1.2, further-few is.1.0)

-- items with a comma behind each
listed-least : (h : ℕ) {A : Type 0} (item : Form A) → effect item ≡ level → AtLeast h (many (before item (sign token.comma))) length
listed-least h {A} item level_there = in-row (length {A = A}) (in-before 1 (none h item level_there) (one h 7 refl)) refl (λ x xs. omega arith)

-- ---- the same of phrases

members-few : (k : TypeKind) (ts : List Symbol) (ms : List MemberAt) → IsPhrase (member_form k) ts ms → Adds ts (length ms)
members-few k ts ms is = adds-less ((member-least is.0 k).added ts ms is.1) (items-few ms)

member-few : (k : TypeKind) (ts : List Symbol) (m : MemberAt) → IsPhrase (member_form k) ts (m ∷ []) → (s : Scan) → s.count ≤ s.most → member_children m ≤ suc (scanned s ts).most
member-few k ts m is s le =
    omega (arith, own-few (out-Member m.member), sum_by-cons weight m [], reach-added ((member-least is.0 k).added ts (m ∷ []) is.1) s le)

-- ---- full symbols

-- behind one symbol some that add this many, and others
front-reached : (t : Symbol) (ts us vs : List Symbol) (k : ℕ) → ts ≡ t ∷ (us ++ vs) → Adds us k → (s : Scan) → s.count ≤ s.most → (scan_next s t).count + k ≤ (scanned s ts).most
front-reached t ts us vs k e p s le =
    let first = bounded (t ∷ []) s le in
    let next = ap (λ (x : Scan). x.count) (one-scanned s t) in
    let behind = ap (λ (x : Scan). x.most) (one-scanned s t) in
    let reached = reach-added p (scan_next s t) (omega (arith, first, next, behind)) in
    let whole = ap (λ (ss : List Symbol). (scanned s ss).most) e in
    omega (arith, reached, whole, ap (λ (x : Scan). x.most) (first-scanned s t (us ++ vs)), whole-most us vs refl (scan_next s t), more-most vs (scanned (scan_next s t) us))

-- a further item: the items before it have a comma each
next-few : {A : Type 0} (opens : ℕ) (item : Form A) → effect item ≡ level → (ts : List Symbol) (n : ℕ) → NextItem opens item ts n → (s : Scan) → s.count ≤ s.most → n ≤ (scanned s ts).most
next-few opens item level_there ts n f s le =
    let front = (listed-least f.whole.0 item level_there).added f.front f.items f.whole.1 in
    omega (arith, f.count, front-reached f.opening ts f.front (f.next ∷ []) (length f.items) f.parts front s le)

-- a `(` opens no braces and does not count
at-round : (s : Scan) (t : Symbol) → t.sort ≡ operator token.open_parenthesis → (scan_next s t).count ≡ s.count
at-round s t e = ap (λ (n : ℕ). (scan_next s (record { sort = n; further = t.further; start = t.start; line = t.line; text = t.text; doc = t.doc })).count) e

further-param-few : (ts : List Symbol) (n : ℕ) → FurtherParam ts n → (s : Scan) → s.count ≤ s.most → s.count + n ≤ (scanned s ts).most
further-param-few ts n f s le =
    let front = (first-params-least f.whole.0).added f.front (f.items, false) f.whole.1 in
    let comma = mark-adds f.comma (ap (has (67 ∷ 68 ∷ [])) f.is_comma) in
    let both = adds-both refl front comma in
    let parts = f.parts ∙ ap (λ (us : List Symbol). f.opening ∷ us) (sym (append_assoc f.front (f.comma ∷ []) (f.next ∷ []))) in
    omega (arith, further-few f.items, f.count, at-round s f.opening f.is_opening, front-reached f.opening ts (f.front ++ f.comma ∷ []) (f.next ∷ []) (further f.items + 1) parts both s le)

next-param-few : (ts : List Symbol) (n : ℕ) → NextParam ts n → (s : Scan) → s.count ≤ s.most → s.count + n ≤ (scanned s ts).most
next-param-few ts n (inl f) s le = omega (arith, f.5, le, more-most ts s)
next-param-few ts n (inr f) s le = further-param-few ts n f s le

executable-full-few : (ts : List Symbol) → ExecutableFull ts → (s : Scan) → s.count ≤ s.most → max_children ≤ suc (scanned s ts).most
executable-full-few ts (inl f) s le = omega (arith, next-few 14 type_param even.type_param_even ts f.0 f.1 s le, f.2)
executable-full-few ts (inr f) s le =
    let g = f.5 in
    let within = bounded f.0 s le in
    omega (arith, heading-few f.0 f.2 f.4 s, next-param-few f.1 g.0 g.1 (scanned s f.0) within, g.2, whole-most f.0 f.1 f.3 s)

-- with one `;` more
one-more : (ts : List Symbol) (s : Scan) → (scanned s (ts ++ blank (operator token.semicolon) ∷ [])).count ≡ suc (scanned s ts).count
one-more ts s = whole-count ts (blank (operator token.semicolon) ∷ []) refl s ∙ ap (λ (x : Scan). x.count) (one-scanned (scanned s ts) (blank (operator token.semicolon)))

-- what is full within others
abbrev Few : (List Symbol → Type 0) → Type 0
Few full = (ts : List Symbol) → full ts → (s : Scan) → s.count ≤ s.most → max_children ≤ 3 + 2 * (scanned s ts).most

member-full-few : (inside : List Symbol → Type 0) → Few inside → (k : TypeKind) (ts : List Symbol) (n : ℕ) → MemberFull inside k n ts
    → (s : Scan) → s.count ≤ s.most → n ≤ suc s.most + s.count → max_children ≤ 3 + 2 * (scanned s ts).most
member-full-few inside few k ts n (inl f) s le there = omega (arith, there, f.3, le, more-most ts s)
member-full-few inside few k ts n (inr (inl f)) s le there =
    let added = (members-few k (ts ++ blank (operator token.semicolon) ∷ []) f.0 f.1).adds s in
    omega (arith, there, added, one-more ts s, f.2, more-most ts s, bounded ts s le)
member-full-few inside few k ts n (inr (inr (inl f))) s le there = omega (arith, member-few k ts f.0 f.1 s le, f.2)
member-full-few inside few k ts n (inr (inr (inr f))) s le there = go f.5
  where
    go : inside f.1 ⊎ ExecutableFull f.1 → max_children ≤ 3 + 2 * (scanned s ts).most
    go (inl g) = omega (arith, few f.1 g (scanned s f.0) (bounded f.0 s le), whole-most f.0 f.1 f.3 s)
    go (inr g) = omega (arith, executable-full-few f.1 g (scanned s f.0) (bounded f.0 s le), whole-most f.0 f.1 f.3 s)

type-full-few : (h : ℕ) → Few (TypeFull h)
unfolding TypeFull
type-full-few zero ts f s le = absurd f
type-full-few (suc h) ts (inl f) s le =
    let g = f.5 in
    omega (arith, next-few 14 type_param even.type_param_even f.1 g.0 g.1 (scanned s f.0) (bounded f.0 s le), g.2, whole-most f.0 f.1 f.3 s)
type-full-few (suc h) ts (inr (inl f)) s le =
    let g = f.5 in
    omega (arith, next-few 2 constant even.constant_even f.1 g.0 g.1 (scanned s f.0) (bounded f.0 s le), g.2, whole-most f.0 f.1 f.3 s)
type-full-few (suc h) ts (inr (inr (inl f))) s le =
    let g = f.1 in
    let there = open-there g.4.0 f.0 g.0 g.2 g.4.1 s le in
    omega (arith, member-full-few (TypeFull h) (type-full-few h) f.0 g.1 g.2 g.5 (scanned s g.0) (bounded g.0 s le) there, whole-most g.0 g.1 g.3 s)
type-full-few (suc h) ts (inr (inr (inr f))) s le = omega (arith, type-few ts f.0 f.1 s le, f.2)

full-few : Few FileFull
full-few ts f s le =
    let g = f.5 in
    let types = bounded f.0 s le in
    let within = bounded g.0 (scanned s f.0) types in
    omega (arith, type-full-few g.5.0 g.1 g.5.1 (scanned (scanned s f.0) g.0) within, whole-most g.0 g.1 g.3 (scanned s f.0), whole-most f.0 f.1 f.3 s)

pub crowded-few : (ts : List Symbol) → IsCrowded ts → max_children ≤ 3 + 2 * (scanned unscanned ts).most
crowded-few ts c =
    omega (arith, full-few c.0 c.3 unscanned (omega arith), more-most c.1 (scanned unscanned c.0), whole-most c.0 c.1 c.2 unscanned)
