-- The constants and the members of an enum are legal, and so is each form of a type.
use Rattle.std.proofs.Common.{◌≡◌, ◌+◌, ◌≤◌, ℕ, zero, suc, Bool, true, false, List, [], ◌∷◌, ◌++◌, length, map, Option, None, Some, inr, refl, sym, ap, subst, ◌∙◌, arith, append_assoc}
use Rattle.std.specs.Prelude.{nat_le}
use Rattle.std.proofs.lemmas.Bool.{le-leb, leb-true, leb-false}
use Rattle.std.proofs.lemmas.List.{length-map, append-nil}
use Rattle.apt_base.specs.Forms.{is_name, all_fit, fits_if_some}
use Rattle.apt_base.specs.Limits.{max_children, max_name_bytes}
use Rattle.decl_tree.specs.Legal.{is_legal_annotation, is_legal_constant, is_legal_type_param, member_fits, declaration_fits, inside_declaration}
use Rattle.decl_tree.specs.declared.declaration.Member.{out-Member}
use Rattle.decl_tree.specs.declared.declaration.Member.TheOpen.{Member-F}
use Rattle.decl_tree.specs.declared.declaration.Member.TheVariants as member
use Rattle.decl_tree.specs.declared.declaration.TypeKind.TheVariants as kind
use Rattle.decl_tree.specs.declared.member.ConstantDecl.{ConstantDecl}
use Rattle.decl_grammar.specs.declared.symbol.Symbol.{Symbol}
use Rattle.decl_grammar.specs.declared.written.MemberAt.{MemberAt}
use Rattle.decl_grammar.specs.declared.written.Modifiers.{Modifiers}
use Rattle.decl_grammar.specs.declared.written.TypeParamAt.{TypeParamAt}
use Rattle.decl_grammar.specs.declared.written.TypeRest.{TypeRest}
use Rattle.decl_grammar.specs.Symbols.{operator}
use Rattle.decl_grammar.specs.TokenNames as token
use Rattle.decl_grammar.specs.Form.{Form, enum_rest, nested_type, pair, turn, maybe, many, nest, Is}
use Rattle.decl_grammar.specs.Types.{keyword, sign, behind, before, list_or_none, name, name_at, one_and_rest, no_values}
use Rattle.decl_grammar.specs.Grammar.{doc_of, first_doc, declaration_of, plain_members, implemented, class_form, interface_form, annotation_form, member_form, joined_lists, optional_over, ConstantPart, constant_part_of, constant_part, constant_of, constant, some_constants, enum_rest_form, constant_list, constants, enum_members, enum_form, type_rest}
use Rattle.decl_grammar.specs.Rule.{WholeAt}
use Rattle.decl_grammar.specs.File.{IsShallow}
use Rattle.decl_limits.specs.Texts.{AreTexts}
use Rattle.decl_limits.specs.Children.{enum_heading, whole_constants, declared_children, TypeFull}
use Rattle.decl_limits.specs.Names.{greatest, longest, longest_member}
use Rattle.decl_limits.proofs.NameRows.{greatest-first, greatest-rest, longest-is}
use Rattle.decl_limits.proofs.LegalTexts.{and-true, items-fit}
use Rattle.decl_limits.proofs.LegalDocs.{doc-fits}
use Rattle.decl_limits.proofs.LegalForms.{Has, anything, has-more, has-turn, has-pair, has-behind, has-maybe, has-either, has-seen, has-lowest, has-no-room, has-counted, has-free, split-in}
use Rattle.decl_limits.proofs.LegalParts.{Fine, found, two-parts, turned-part, behind-part, before-part, behind-is, before-is}
use Rattle.decl_limits.proofs.LegalFields.{name-at-has}
use Rattle.decl_limits.proofs.LegalParams.{annotations-have}
use Rattle.decl_limits.proofs.LegalParams as legal
use Rattle.decl_limits.proofs.LegalItems.{member_test, test-is, few-fit}
use Rattle.decl_limits.proofs.LegalDeclarations.{TypeSafe, member_named, AllNamed, AllLegal, NestedLegal, NestedRows}
use Rattle.decl_limits.proofs.LegalBodies.{heading-parts, all-back, all-both}
use Rattle.decl_limits.proofs.LegalTypeForms.{TypeParts, PartsLegal, implemented-has, plain-name, body-legal, class-there, interface-there, annotation-there}

-- ---- constants

abbrev ConstantLegal : ℕ → List Symbol → MemberAt → Type 0
ConstantLegal room ts x = (start : ℕ) → member_test room start x ≡ true

abbrev ConstantsLegal : ℕ → List Symbol → List MemberAt → Type 0
ConstantsLegal room ts ms = (start : ℕ) → AllLegal room start ms

abbrev PartLegal : ℕ → List Symbol → ConstantPart → Type 0
PartLegal room ts x = (all_fit (is_legal_annotation room) x.0 ≡ true) × (is_name x.1.0.name ≡ true)

part-has : (h room : ℕ) → Has h room constant_part (PartLegal room)
unfolding constant_part
part-has h room =
    has-turn constant_part_of (PartLegal room)
    (has-pair (λ ts x. (all_fit (is_legal_annotation room) x.0 ≡ true) × (is_name x.1.0.name ≡ true))
    (has-more (λ ts xs. all_fit (is_legal_annotation room) xs ≡ true) (annotations-have h room) (λ ts xs a i. items-fit (is_legal_annotation room) ts xs a i))
    (has-pair (λ ts x. is_name x.0.name ≡ true) (name-at-has h room) (anything h room (pair (optional_over (operator token.open_parenthesis)) (optional_over (operator token.open_brace)))) (λ us vs x a p q. p))
    (λ us vs x a p q. (p, q)))
    (λ ts x a p. p)

constant-legal : (room start : ℕ) (x : Option (List ℕ) × ConstantPart) → fits_if_some is_name (doc_of x.0) ≡ true → PartLegal room [] x.1 → member_test room start (constant_of x) ≡ true
unfolding is_legal_constant
constant-legal room start x d p =
    let c : ConstantDecl = record { name = x.1.1.0.name; annotations = x.1.0; doc = doc_of x.0; body = x.1.1.1 } in
    test-is room start (Member-F.Constant c) (constant_of x) (member.rolls-Constant c) (and-true (and-true (and-true p.1 p.0) d) refl)

constant-has : (h room : ℕ) → Has h room constant (ConstantLegal room)
unfolding constant
constant-has h room =
    has-turn constant_of (ConstantLegal room) (has-seen first_doc (part-has h room))
    (λ ts x a p. λ start. constant-legal room start x (ap (λ raw. fits_if_some is_name (doc_of raw)) p.0 ∙ doc-fits ts a) p.1)

some-has : (h room : ℕ) → Has h room (nest enum_rest) (ConstantsLegal room) → Has h room some_constants (ConstantsLegal room)
unfolding some_constants
some-has h room rest =
    has-turn (one_and_rest {A = MemberAt}) (ConstantsLegal room)
    (has-pair (λ ts x. ConstantsLegal room ts (one_and_rest x)) (constant-has h room)
    (has-maybe (λ ts o. ConstantsLegal room ts (list_or_none o)) rest (λ ts. λ start. refl) (λ ts ms a p. p))
    (λ us vs x a p q. λ start. and-true (p start) (q start)))
    (λ ts x a p. p)

rest-rule : (h room : ℕ) → Has h room (nest enum_rest) (ConstantsLegal room) → Has h room enum_rest_form (ConstantsLegal room)
unfolding enum_rest_form
rest-rule h room rest =
    has-behind
    (has-turn (list_or_none {A = MemberAt}) (ConstantsLegal room) (has-maybe (λ ts o. ConstantsLegal room ts (list_or_none o)) (some-has h room rest) (λ ts. λ start. refl) (λ ts ms a p. p)) (λ ts o a p. p))
    (λ us vs ms p. p)

enum-rest-has : (h room : ℕ) → Has h room (nest enum_rest) (ConstantsLegal room)
enum-rest-has zero room = has-lowest room enum_rest (ConstantsLegal room)
enum-rest-has (suc h) room = has-free h room enum_rest refl (ConstantsLegal room) (rest-rule h room (enum-rest-has h room))

constants-have : (h room : ℕ) → Has h room constants (ConstantsLegal room)
unfolding constants constant_list
constants-have h room =
    has-turn (list_or_none {A = MemberAt}) (ConstantsLegal room)
    (has-maybe (λ ts o. ConstantsLegal room ts (list_or_none o))
    (has-either (some-has h room (enum-rest-has h room)) (has-turn (no_values {A = MemberAt}) (ConstantsLegal room) (anything h room (sign token.comma)) (λ ts s a p. λ start. refl)))
    (λ ts. λ start. refl) (λ ts ms a p. p))
    (λ ts o a p. p)

-- ---- enums

abbrev Bodies : Form (List MemberAt)
Bodies = turn joined_lists (many (member_form kind.Enum))

-- the members behind the constants, with a `;` between them
members-there : (h room : ℕ) → NestedRows h → (whole heading middle us back : List Symbol) (count : List MemberAt) (o : Option (List MemberAt)) → whole ≡ heading ++ (middle ++ (us ++ back)) → TypeSafe whole
    → Is (WholeAt h) enum_heading heading tt → ((s : Symbol) (ss : List Symbol) → Is (WholeAt h) (sign token.semicolon) ss s → Is (WholeAt h) (behind (sign token.open_brace) (before constants (sign token.semicolon))) (middle ++ ss) count)
    → Fine h room (maybe (behind (sign token.semicolon) Bodies)) us o → (start : ℕ) → AllNamed start (list_or_none o) → AllLegal room start (list_or_none o)
unfolding whole_constants
members-there h room rows whole heading middle us back count None e safe opening constants-there fine start named = refl
members-there h room rows whole heading middle us back count (Some ms) e safe opening constants-there fine start named =
    let semi = behind-part h room (sign token.semicolon) Bodies us ms (record { texts = fine.texts; shallow = fine.shallow; whole = fine.whole }) in
    let inner : us ++ back ≡ semi.0 ++ (semi.1 ++ back) = ap (λ (ss : List Symbol). ss ++ back) semi.3 ∙ append_assoc semi.0 semi.1 back in
    let behind_heading : middle ++ (us ++ back) ≡ (middle ++ semi.0) ++ (semi.1 ++ back) = ap (λ (ss : List Symbol). middle ++ ss) inner ∙ sym (append_assoc middle semi.0 (semi.1 ++ back)) in
    let split : whole ≡ (heading ++ (middle ++ semi.0)) ++ (semi.1 ++ back) = split-in whole heading (middle ++ (us ++ back)) (middle ++ semi.0) (semi.1 ++ back) e behind_heading in
    let all = behind-is (WholeAt h) enum_heading (behind (sign token.open_brace) (before constants (sign token.semicolon))) heading (middle ++ semi.0) tt count opening (constants-there semi.2 semi.0 semi.4) in
    let begun = heading-parts h kind.Enum (heading ++ (middle ++ semi.0)) (length count) (count, all, refl) in
    body-legal h room rows kind.Enum whole (heading ++ (middle ++ semi.0)) semi.1 back ms split safe begun semi.5 start named

enum-there : (h room : ℕ) → NestedRows h → (ts : List Symbol) (rest : TypeRest) → AreTexts ts → IsShallow enum_form room ts → Is (WholeAt h) enum_form ts rest → PartsLegal room ts rest
unfolding enum_form enum_heading enum_members
enum-there h room rows ts rest a sh is safe =
    let w = WholeAt h in
    let ends = before enum_members (sign token.close_brace) in
    let all = behind-part h room (keyword token.enum) (pair name_at (pair implemented (behind (sign token.open_brace) (pair constants ends)))) ts is.0 (record { texts = a; shallow = sh; whole = is.1 }) in
    let n = two-parts h room name_at (pair implemented (behind (sign token.open_brace) (pair constants ends))) all.1 is.0 all.5 in
    let i = two-parts h room implemented (behind (sign token.open_brace) (pair constants ends)) n.1 is.0.1 n.4 in
    let brace = behind-part h room (sign token.open_brace) (pair constants ends) i.1 is.0.1.1 i.4 in
    let c = two-parts h room constants ends brace.1 is.0.1.1 brace.5 in
    let m = before-part h room enum_members (sign token.close_brace) c.1 is.0.1.1.1 c.4 in
    let o = turned-part h room (list_or_none {A = MemberAt}) (maybe (behind (sign token.semicolon) Bodies)) m.0 is.0.1.1.1 m.4 in
    let plain = plain-name h n.0 is.0.0 n.3.whole in
    let titled = behind-is w name implemented n.0 i.0 plain.0 is.0.1.0 plain.1 i.3.whole in
    let opening : Is w enum_heading (all.0 ++ (n.0 ++ i.0)) tt = (is.0.1.0, behind-is w (keyword token.enum) (behind name implemented) all.0 (n.0 ++ i.0) all.2 is.0.1.0 all.4 titled, refl) in
    let heading : ts ≡ (all.0 ++ (n.0 ++ i.0)) ++ i.1 = split-in ts all.0 all.1 (n.0 ++ i.0) i.1 all.3 (split-in all.1 n.0 n.1 i.0 i.1 n.2 i.2) in
    let middle : i.1 ≡ (brace.0 ++ c.0) ++ c.1 = split-in i.1 brace.0 brace.1 c.0 c.1 brace.3 c.2 in
    let split : ts ≡ (all.0 ++ (n.0 ++ i.0)) ++ ((brace.0 ++ c.0) ++ (m.0 ++ m.1)) =
    heading ∙ ap (λ (ss : List Symbol). (all.0 ++ (n.0 ++ i.0)) ++ ss) (middle ∙ ap (λ (ss : List Symbol). (brace.0 ++ c.0) ++ ss) m.3) in
    let closed : (s : Symbol) (ss : List Symbol) → Is w (sign token.semicolon) ss s → Is w (behind (sign token.open_brace) (before constants (sign token.semicolon))) ((brace.0 ++ c.0) ++ ss) is.0.1.1.0 =
    λ s ss semi. subst (λ (us : List Symbol). Is w (behind (sign token.open_brace) (before constants (sign token.semicolon))) us is.0.1.1.0) (sym (append_assoc brace.0 c.0 ss))
    (behind-is w (sign token.open_brace) (before constants (sign token.semicolon)) brace.0 (c.0 ++ ss) brace.2 is.0.1.1.0 brace.4 (before-is w constants (sign token.semicolon) c.0 ss is.0.1.1.0 s c.3.whole semi)) in
    subst (λ (r : TypeRest). TypeParts room r) (sym is.2)
    (record {
      named = found (name-at-has h room) n.3;
      parameters = refl;
      above = refl;
      interfaces = found (implemented-has h room) i.3;
      members = λ start named.
          let later = members-there h room rows ts (all.0 ++ (n.0 ++ i.0)) (brace.0 ++ c.0) m.0 m.1 is.0.1.1.0 o.0 split safe opening closed o.1 start
          (subst (λ (ms : List MemberAt). AllNamed start ms) o.2 (all-back (member_named start) is.0.1.1.0 is.0.1.1.1 named)) in
          all-both (member_test room start) is.0.1.1.0 is.0.1.1.1 (found (constants-have h room) c.3 start) (subst (λ (ms : List MemberAt). AllLegal room start ms) (sym o.2) later);
    })

-- ---- types of each kind

types-have : (h room : ℕ) → NestedRows h → Has h room type_rest (PartsLegal room)
unfolding type_rest
types-have h room rows =
    let class : Has h room class_form (PartsLegal room) = record { there = class-there h room rows } in
    let interface : Has h room interface_form (PartsLegal room) = record { there = interface-there h room rows } in
    let annotation : Has h room annotation_form (PartsLegal room) = record { there = annotation-there h room rows } in
    let enum : Has h room enum_form (PartsLegal room) = record { there = enum-there h room rows } in
    has-either class (has-either interface (has-either annotation enum))

-- a type whose child list is not too long
declared-few : (h : ℕ) (ts : List Symbol) (rest : TypeRest) → TypeSafe ts → Is (WholeAt h) type_rest ts rest → declared_children rest ≤ max_children
unfolding TypeFull
declared-few h ts rest safe is = go (nat_le (declared_children rest) max_children) refl
  where
    go : (c : Bool) → nat_le (declared_children rest) max_children ≡ c → declared_children rest ≤ max_children
    go true few = leb-true (declared_children rest) max_children few
    go false many_more = absurd (safe ts [] (suc zero) (sym (append-nil ts)) (inr (inr (inr (rest, (h, is), leb-false (declared_children rest) max_children many_more)))))

-- names that are short enough all together are so one by one
names-each : (start : ℕ) (ms : List MemberAt) → start + greatest (map longest_member (plain_members ms)) ≤ max_name_bytes → AllNamed start ms
names-each start [] le = refl
names-each start (m ∷ ms) le =
    let ns = map longest_member (plain_members ms) in
    and-true (le-leb (start + longest_member m.member) max_name_bytes (omega (arith, le, greatest-first (longest_member m.member) ns)))
    (names-each start ms (omega (arith, le, greatest-rest (longest_member m.member) ns)))

abbrev pub TypeLegal : ℕ → List Symbol → TypeRest → Type 0
TypeLegal room ts rest =
    TypeSafe ts → (doc : Option (List ℕ)) → fits_if_some is_name doc ≡ true → (m : Modifiers) → legal.Modified room m → (start : ℕ) → start + longest (declaration_of doc m rest) ≤ max_name_bytes
    → declaration_fits (inside_declaration room) room start (declaration_of doc m rest) ≡ true

-- the declaration of legal parts
parts-declare : (room : ℕ) (rest : TypeRest) → TypeParts room rest → declared_children rest ≤ max_children → (doc : Option (List ℕ)) → fits_if_some is_name doc ≡ true → (m : Modifiers) → legal.Modified room m → (start : ℕ) → start + longest (declaration_of doc m rest) ≤ max_name_bytes
    → declaration_fits (inside_declaration room) room start (declaration_of doc m rest) ≡ true
parts-declare room rest p few doc d m q start short =
    let t = declaration_of doc m rest in
    let name_bytes = length rest.name.name in
    let long = longest-is t in
    let some : length rest.parameters ≤ max_children = omega (arith, few, length-map rest.parameters (λ (x : TypeParamAt). x.param)) in
    let given : length rest.members ≤ max_children = omega (arith, few, length-map rest.members (λ (x : MemberAt). x.member)) in
    let canonical = and-true p.named (le-leb (start + name_bytes) max_name_bytes (omega (arith, short, long))) in
    let params = few-fit (is_legal_type_param room) (λ (x : TypeParamAt). x.param) rest.parameters some p.parameters in
    let legal_members = p.members (start + name_bytes) (names-each (start + name_bytes) rest.members (omega (arith, short, long))) in
    let members = few-fit (λ y. member_fits room (inside_declaration room (start + name_bytes + 1)) (out-Member y)) (λ (x : MemberAt). x.member) rest.members given legal_members in
    let heading = and-true (and-true (and-true (and-true (and-true (and-true canonical q.0) q.1) d) params) p.above) p.interfaces in
    and-true (and-true heading members) (le-leb (declared_children rest) max_children few)

there-legal : (h room : ℕ) → NestedRows h → (ts : List Symbol) (rest : TypeRest) → AreTexts ts → IsShallow type_rest room ts → Is (WholeAt h) type_rest ts rest → TypeLegal room ts rest
there-legal h room rows ts rest a sh is safe doc d m q start short =
    parts-declare room rest ((types-have h room rows).there ts rest a sh is safe) (declared-few h ts rest safe is) doc d m q start short

type-rule : (h room : ℕ) → NestedRows h → Has h room type_rest (TypeLegal room)
type-rule h room rows = record { there = there-legal h room rows }

nested-there : (room : ℕ) (ts : List Symbol) (rest : TypeRest) → TypeLegal room ts rest → NestedLegal (suc room) ts rest
unfolding inside_declaration
nested-there room ts rest legal_type safe doc d m q start short = legal_type safe doc d m q start short

nested-rows : (h : ℕ) → NestedRows h
nested-rows zero room = has-lowest room nested_type (NestedLegal room)
nested-rows (suc h) zero = has-no-room (suc h) nested_type refl (NestedLegal zero)
nested-rows (suc h) (suc room) =
    has-counted h room nested_type refl (NestedLegal (suc room)) (has-more (NestedLegal (suc room)) (type-rule h room (nested-rows h)) (λ ts rest a p. nested-there room ts rest p))

pub type-has : (h room : ℕ) → Has h room type_rest (TypeLegal room)
type-has h room = type-rule h room (nested-rows h)

-- its name
pub type-named-has : (h room : ℕ) → Has h room type_rest (λ ts rest. TypeSafe ts → is_name rest.name.name ≡ true)
type-named-has h room = has-more (λ ts rest. TypeSafe ts → is_name rest.name.name ≡ true) (types-have h room (nested-rows h)) (λ ts rest a p. λ safe. (p safe).named)
