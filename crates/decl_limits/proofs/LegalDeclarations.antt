-- Types that are read are legal where their names are short enough and no child list is too long: each member stands behind what opens its type, so a child list that is too long in it makes the type full.
use Rattle.std.proofs.Common.{◌≡◌, ◌+◌, ◌≤◌, ℕ, zero, suc, Bool, true, false, List, [], ◌∷◌, ◌++◌, Option, None, Some, nat_le, inl, inr, refl, sym, ap, subst, ◌∙◌, arith, append_assoc}
use Rattle.std.specs.List.{list_all}
use Rattle.std.proofs.lemmas.Bool.{leb-true}
use Rattle.apt_base.specs.Forms.{is_name, fits_if_some}
use Rattle.apt_base.specs.Limits.{max_name_bytes}
use Rattle.decl_tree.specs.Legal.{inside_declaration}
use Rattle.decl_tree.specs.declared.declaration.Member.TheOpen.{Member-F}
use Rattle.decl_tree.specs.declared.declaration.Member.TheVariants as member
use Rattle.decl_tree.specs.declared.declaration.TypeKind.{TypeKind}
use Rattle.decl_tree.specs.declared.declaration.TypeKind.TheVariants as kind
use Rattle.decl_grammar.specs.declared.symbol.Symbol.{Symbol}
use Rattle.decl_grammar.specs.declared.written.MemberAt.{MemberAt}
use Rattle.decl_grammar.specs.declared.written.MemberRest.TheVariants as rest_kind
use Rattle.decl_grammar.specs.declared.written.Modifiers.{Modifiers}
use Rattle.decl_grammar.specs.declared.written.TypeRest.{TypeRest}
use Rattle.decl_grammar.specs.declared.written.Unmodified.{Unmodified}
use Rattle.decl_grammar.specs.declared.written.Unmodified.TheVariants as unmodified
use Rattle.decl_grammar.specs.Symbols.{word}
use Rattle.decl_grammar.specs.TokenNames as token
use Rattle.decl_grammar.specs.Reading.{has}
use Rattle.decl_grammar.specs.Form.{Form, nested_type, modifiers, plain_modifiers, static_word, plain_words, modifier_words, turn, maybe, nest, Is}
use Rattle.decl_grammar.specs.Types.{sign, Mark, no_modifiers, with_marks, bit_mark, modifier, plain_modifier, modifiers_or_none, optional_modifiers, type_modifiers}
use Rattle.decl_grammar.specs.Grammar.{block, doc_of, first_doc, declaration_of, type_lines, member_at, members_with, Modified, bare, nothing_here, with_static, static_rest, plain_modified, class_modified, modified, no_member, documented_members, member_from, nested_member, unmodified_of, annotation_unmodified, modified_form, or_block, member_form}
use Rattle.decl_grammar.specs.Rule.{WholeAt}
use Rattle.decl_grammar.specs.File.{IsPhrase, IsShallow}
use Rattle.decl_grammar.proofs.OneToken.{both, within-has}
use Rattle.decl_grammar.proofs.Firsts.{modifier_full, plain_modifier_full}
use Rattle.decl_limits.specs.Texts.{AreTexts}
use Rattle.decl_limits.specs.Names.{longest, longest_member}
use Rattle.decl_limits.specs.Children.{TypeFull}
use Rattle.decl_limits.proofs.NameRows.{longest_member-Nested}
use Rattle.decl_limits.proofs.LegalTexts.{and-true}
use Rattle.decl_limits.proofs.LegalDocs.{doc-fits}
use Rattle.decl_limits.proofs.LegalForms.{Has, anything, has-more, has-turn, has-pair, has-either, has-seen, has-lowest, has-no-room, has-counted}
use Rattle.decl_limits.proofs.LegalParams.{some-marks, modifier-has, plain-modifier-has, modified-is, or-fits, ModifiersFit}
use Rattle.decl_limits.proofs.LegalParams as legal
use Rattle.decl_limits.proofs.LegalMembers.{UnmodifiedFits, void-has, primitive-has, named-member-has, generic-has}
use Rattle.decl_limits.proofs.LegalItems.{member_test, SingleFew, below, test-is, items-legal}

-- ---- no child list is too long

-- no front of the symbols is full as a type behind its modifiers
abbrev pub TypeSafe : List Symbol → Type 0
TypeSafe ts = (us vs : List Symbol) (h : ℕ) → ts ≡ us ++ vs → TypeFull h us → ⊥

-- the same behind modifiers that stand here
abbrev pub InsideSafe : List Symbol → Type 0
InsideSafe ts = (us vs : List Symbol) (m : Modifiers) → IsPhrase type_modifiers us m → ts ≡ us ++ vs → TypeSafe vs

no-marks : IsPhrase type_modifiers [] no_modifiers
unfolding type_modifiers
no-marks = (0, ([], refl, refl))

bare-safe : (ts : List Symbol) → InsideSafe ts → TypeSafe ts
bare-safe ts safe = safe [] ts no_modifiers no-marks refl

-- ---- what is said of types and members

-- the names in some members, in a type whose canonical name has this many bytes
abbrev pub member_named : ℕ → MemberAt → Bool
member_named start x = nat_le (start + longest_member x.member) max_name_bytes

abbrev pub AllNamed : ℕ → List MemberAt → Type 0
AllNamed start ms = list_all (member_named start) ms ≡ true

abbrev pub AllLegal : ℕ → ℕ → List MemberAt → Type 0
AllLegal room start ms = list_all (member_test room start) ms ≡ true

-- a type in a type, whatever legal modifiers and doc comment it has
abbrev pub NestedLegal : ℕ → List Symbol → TypeRest → Type 0
NestedLegal room ts rest =
    TypeSafe ts → (doc : Option (List ℕ)) → fits_if_some is_name doc ≡ true → (m : Modifiers) → legal.Modified (below room) m → (start : ℕ) → start + longest (declaration_of doc m rest) ≤ max_name_bytes
    → inside_declaration room start (declaration_of doc m rest) ≡ true

abbrev pub NestedRows : ℕ → Type 0
NestedRows h = (room : ℕ) → Has h room (nest nested_type) (NestedLegal room)

-- a member behind its modifiers
abbrev UnmodifiedLegal : ℕ → List Symbol → Unmodified → Type 0
UnmodifiedLegal room ts u =
    TypeSafe ts → (doc : Option (List ℕ)) → fits_if_some is_name doc ≡ true → (m : Modifiers) → legal.Modified (below room) m → (start : ℕ) → AllNamed start (members_with doc m u) → SingleFew (members_with doc m u)
    → AllLegal room start (members_with doc m u)

-- a member with its modifiers
abbrev ModifiedLegal : ℕ → List Symbol → Modified → Type 0
ModifiedLegal room ts x =
    InsideSafe ts → (doc : Option (List ℕ)) → fits_if_some is_name doc ≡ true → (start : ℕ) → AllNamed start (members_with doc x.0 x.1) → SingleFew (members_with doc x.0 x.1) → AllLegal room start (members_with doc x.0 x.1)

abbrev pub MemberLegal : ℕ → List Symbol → List MemberAt → Type 0
MemberLegal room ts ms = InsideSafe ts → (start : ℕ) → AllNamed start ms → SingleFew ms → AllLegal room start ms

-- ---- members behind their modifiers

plain-legal : {h room : ℕ} {f : Form Unmodified} → Has h room f (UnmodifiedFits room) → Has h room f (UnmodifiedLegal room)
plain-legal {h} {room} p = has-more (UnmodifiedLegal room) p (λ ts u a fit. λ safe doc d m q start named few. items-legal room start doc m u ts d q fit few)

nested-legal : (room start : ℕ) (doc : Option (List ℕ)) (m : Modifiers) (rest : TypeRest) → AllNamed start (members_with doc m (unmodified.Nested rest)) → inside_declaration room (start + 1) (declaration_of doc m rest) ≡ true
    → AllLegal room start (members_with doc m (unmodified.Nested rest))
nested-legal room start doc m rest named fit =
    let d = declaration_of doc m rest in
    and-true (test-is room start (Member-F.Nested d) (member_at (member.Nested d) (type_lines rest)) (member.rolls-Nested d) fit) refl

nested-named : (start : ℕ) (doc : Option (List ℕ)) (m : Modifiers) (rest : TypeRest) → AllNamed start (members_with doc m (unmodified.Nested rest)) → (start + 1) + longest (declaration_of doc m rest) ≤ max_name_bytes
nested-named start doc m rest named =
    let d = declaration_of doc m rest in
    let z = both (nat_le (start + longest_member (member.Nested d)) max_name_bytes) true named in
    omega (arith, leb-true (start + longest_member (member.Nested d)) max_name_bytes z.0, longest_member-Nested d)

nested-has : (h room : ℕ) → NestedRows h → Has h room nested_member (UnmodifiedLegal room)
unfolding nested_member
nested-has h room rows =
    has-turn unmodified.Nested (UnmodifiedLegal room) (rows room)
    (λ ts rest a p. λ safe doc d m q start named few. nested-legal room start doc m rest named (p safe doc d m q (start + 1) (nested-named start doc m rest named)))

unmodified-has : (h room : ℕ) → NestedRows h → (constructors : Bool) → Has h room (unmodified_of constructors) (UnmodifiedLegal room)
unfolding unmodified_of
unmodified-has h room rows constructors =
    has-either (nested-has h room rows)
    (has-either (plain-legal (void-has h room))
    (has-either (plain-legal (primitive-has h room rest_kind.Any))
    (has-either (plain-legal (named-member-has h room constructors rest_kind.Any)) (plain-legal (generic-has h room constructors)))))

annotation-unmodified-has : (h room : ℕ) → NestedRows h → Has h room annotation_unmodified (UnmodifiedLegal room)
unfolding annotation_unmodified
annotation-unmodified-has h room rows =
    has-either (nested-has h room rows) (has-either (plain-legal (primitive-has h room rest_kind.Element)) (plain-legal (named-member-has h room false rest_kind.Element)))

-- ---- modifiers of members

-- legal, and modifiers of a type as well
abbrev Marked : ℕ → List Symbol → Modifiers → Type 0
Marked room ts m = legal.Modified (below room) m × ((k : Modifiers) × IsPhrase type_modifiers ts k)

plain-mark : (h : ℕ) (ts : List Symbol) (k : Mark) → Is (WholeAt h) plain_modifier ts k → Is (WholeAt h) modifier ts k
unfolding plain_modifier modifier
plain-mark h ts k (inl is) = inl (is.0, (is.1.0, within-has plain_words modifier_words is.0.sort refl is.1.1), is.2)
plain-mark h ts k (inr is) = inr is

plain-phrase : (h : ℕ) (ts : List Symbol) (m : Modifiers) → WholeAt h plain_modifiers ts m → (k : Modifiers) × IsPhrase type_modifiers ts k
unfolding type_modifiers
plain-phrase zero ts m is = absurd is
plain-phrase (suc h) ts m is =
    let p = is.1 in
    (m, (h, (is.0.0 ∷ is.0.1, (p.0, p.1, p.2, plain-mark h p.0 is.0.0 p.3, p.4), is.2)))

any-phrase : (h : ℕ) (ts : List Symbol) (m : Modifiers) → WholeAt h modifiers ts m → (k : Modifiers) × IsPhrase type_modifiers ts k
unfolding type_modifiers
any-phrase zero ts m is = absurd is
any-phrase (suc h) ts m is =
    let p = is.1 in
    (m, (h, (is.0.0 ∷ is.0.1, (p.0, p.1, p.2, p.3, p.4), is.2)))

plain-fit : (h room : ℕ) → Has h room (nest plain_modifiers) (ModifiersFit (below room))
plain-fit zero room = has-lowest room plain_modifiers (ModifiersFit (below room))
plain-fit (suc h) zero = has-no-room (suc h) plain_modifiers refl (ModifiersFit zero)
plain-fit (suc h) (suc room) = has-counted h room plain_modifiers refl (ModifiersFit room) (some-marks h room plain_modifier plain_modifier_full (plain-modifier-has h room))

any-fit : (h room : ℕ) → Has h room (nest modifiers) (ModifiersFit (below room))
any-fit zero room = has-lowest room modifiers (ModifiersFit (below room))
any-fit (suc h) zero = has-no-room (suc h) modifiers refl (ModifiersFit zero)
any-fit (suc h) (suc room) = has-counted h room modifiers refl (ModifiersFit room) (some-marks h room modifier modifier_full (modifier-has h room))

plain-marked : (h room : ℕ) → Has h room (nest plain_modifiers) (Marked room)
plain-marked h room = record { there = λ ts m a sh is. (modified-is (below room) ts m a ((plain-fit h room).there ts m a sh is), plain-phrase h ts m is) }

optional-there : (h room : ℕ) (ts : List Symbol) (o : Option Modifiers) → AreTexts ts → IsShallow (maybe (nest modifiers)) room ts → Is (WholeAt h) (maybe (nest modifiers)) ts o → Marked room ts (modifiers_or_none o)
optional-there h room ts None a sh is = ((refl, refl), subst (λ (us : List Symbol). (k : Modifiers) × IsPhrase type_modifiers us k) (sym is) (no_modifiers, no-marks))
optional-there h room ts (Some m) a sh is = (modified-is (below room) ts m a ((any-fit h room).there ts m a sh is), any-phrase h ts m is)

optional-marked : (h room : ℕ) → Has h room optional_modifiers (Marked room)
unfolding optional_modifiers
optional-marked h room = has-turn modifiers_or_none (Marked room) (record { there = optional-there h room }) (λ ts o a p. p)

-- modifiers, and a member behind them
marked-join : (room : ℕ) (us vs : List Symbol) (x : Modified) → Marked room us x.0 → UnmodifiedLegal room vs x.1 → ModifiedLegal room (us ++ vs) x
marked-join room us vs x p q = λ safe doc d start named few. q (safe us vs p.1.0 p.1.1 refl) doc d x.0 p.0 start named few

modified-has : (h room : ℕ) (f : Form Unmodified) → Has h room f (UnmodifiedLegal room) → Has h room (modified f) (ModifiedLegal room)
modified-has h room f p = has-pair (ModifiedLegal room) (optional-marked h room) p (λ us vs x a q r. marked-join room us vs x q r)

plain-modified-has : (h room : ℕ) (f : Form Unmodified) → Has h room f (UnmodifiedLegal room) → Has h room (plain_modified f) (ModifiedLegal room)
unfolding plain_modified
plain-modified-has h room f p = has-pair (ModifiedLegal room) (plain-marked h room) p (λ us vs x a q r. marked-join room us vs x q r)

-- behind a first `static`
abbrev StaticAt : List Symbol → Symbol → Type 0
StaticAt ts s = (ts ≡ s ∷ []) × (has (word token.static ∷ []) s.sort ≡ true)

static-there : (h : ℕ) (ts : List Symbol) (s : Symbol) → WholeAt h static_word ts s → StaticAt ts s
static-there zero ts s is = absurd is
static-there (suc h) ts s is = is

abbrev BehindStatic : ℕ → List Symbol → Modified → Type 0
BehindStatic room ts x = (us : List Symbol) (s : Symbol) → StaticAt us s → ModifiedLegal room (us ++ ts) x

-- `static` and modifiers of a type
static-phrase : (us vs : List Symbol) (s : Symbol) (k : Modifiers) → StaticAt us s → IsPhrase type_modifiers vs k → (m : Modifiers) × IsPhrase type_modifiers (us ++ vs) m
unfolding type_modifiers modifier
static-phrase us vs s k at is =
    let marks = bit_mark s ∷ is.1.0 in
    (with_marks no_modifiers marks, (is.0, (marks, (us, vs, refl, inl (s, (at.0, within-has (word token.static ∷ []) modifier_words s.sort refl at.1), refl), is.1.1), refl)))

static-join : (room : ℕ) (us vs : List Symbol) (x : Modified) → Marked room us x.0 → UnmodifiedLegal room vs x.1 → BehindStatic room (us ++ vs) (with_static x)
static-join room us vs x p q = λ ss s at safe doc d start named few.
    let k = static-phrase ss us s p.1.0 at p.1.1 in
    q (safe (ss ++ us) vs k.0 k.1 (sym (append_assoc ss us vs))) doc d (with_static x).0 (or-fits 32 x.0.bits refl p.0.0, p.0.1) start named few

static-rest-has : (h room : ℕ) (f : Form Unmodified) → Has h room f (UnmodifiedLegal room) → Has h room (static_rest f) (BehindStatic room)
unfolding static_rest
static-rest-has h room f p =
    has-either (has-turn nothing_here (BehindStatic room) (anything h room block) (λ ts x a q. λ us s at safe doc d start named few. refl))
    (has-turn with_static (BehindStatic room)
    (has-pair (λ ts x. BehindStatic room ts (with_static x)) (optional-marked h room) p (λ us vs x a q r. static-join room us vs x q r)) (λ ts x a q. q))

class-modified-has : (h room : ℕ) (f : Form Unmodified) → Has h room f (UnmodifiedLegal room) → Has h room (class_modified f) (ModifiedLegal room)
class-modified-has h room f p =
    has-either (has-turn bare (ModifiedLegal room) p (λ ts u a q. λ safe doc d start named few. q (bare-safe ts safe) doc d no_modifiers (refl, refl) start named few))
    (has-either (plain-modified-has h room f p)
    (has-turn (λ (x : Symbol × Modified). x.1) (ModifiedLegal room)
    (has-pair (λ ts x. ModifiedLegal room ts x.1) (record { there = λ ts s a sh is. static-there h ts s is }) (static-rest-has h room f p) (λ us vs x a at q. q us x.0 at))
    (λ ts x a q. q)))

-- ---- members

modified-form-has : (h room : ℕ) → NestedRows h → (k : TypeKind) → Has h room (modified_form k) (ModifiedLegal room)
unfolding modified_form
modified-form-has h room rows kind.Enum = class-modified-has h room (unmodified_of true) (unmodified-has h room rows true)
modified-form-has h room rows kind.Class = class-modified-has h room (unmodified_of true) (unmodified-has h room rows true)
modified-form-has h room rows kind.AnnotationType = modified-has h room annotation_unmodified (annotation-unmodified-has h room rows)
modified-form-has h room rows kind.Interface = modified-has h room (unmodified_of false) (unmodified-has h room rows false)

documented-has : (h room : ℕ) → NestedRows h → (k : TypeKind) → Has h room (member_from (modified_form k)) (MemberLegal room)
documented-has h room rows k =
    has-turn documented_members (MemberLegal room) (has-seen first_doc (modified-form-has h room rows k))
    (λ ts x a p. λ safe start named few. p.1 safe (doc_of x.0) (ap (λ raw. fits_if_some is_name (doc_of raw)) p.0 ∙ doc-fits ts a) start named few)

block-has : (h room : ℕ) → Has h room (turn no_member block) (MemberLegal room)
block-has h room = has-turn no_member (MemberLegal room) (anything h room block) (λ ts v a p. λ safe start named few. refl)

or-block-has : (h room : ℕ) → NestedRows h → (k : TypeKind) → Has h room (or_block k (member_from (modified_form k))) (MemberLegal room)
or-block-has h room rows kind.Enum = has-either (block-has h room) (documented-has h room rows kind.Enum)
or-block-has h room rows kind.Class = has-either (block-has h room) (documented-has h room rows kind.Class)
or-block-has h room rows kind.AnnotationType = documented-has h room rows kind.AnnotationType
or-block-has h room rows kind.Interface = documented-has h room rows kind.Interface

pub member-has : (h room : ℕ) → NestedRows h → (k : TypeKind) → Has h room (member_form k) (MemberLegal room)
unfolding member_form
member-has h room rows k =
    has-either (has-turn no_member (MemberLegal room) (anything h room (sign token.semicolon)) (λ ts s a p. λ safe start named few. refl)) (or-block-has h room rows k)
