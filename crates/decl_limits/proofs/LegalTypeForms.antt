-- Each form of a type gives legal parts, where no child list in it is too long.
use Rattle.std.proofs.Common.{◌≡◌, ℕ, true, List, [], ◌∷◌, ◌++◌, length, refl, sym, ap, subst, ◌∙◌}
use Rattle.std.specs.List.{list_all}
use Rattle.apt_base.specs.Forms.{is_name, all_fit, fits_if_some}
use Rattle.decl_tree.specs.Legal.{is_legal_type}
use Rattle.decl_tree.specs.declared.declaration.TypeKind.{TypeKind}
use Rattle.decl_tree.specs.declared.declaration.TypeKind.TheVariants as kind
use Rattle.decl_tree.specs.declared.type_text.TypeText.{TypeText}
use Rattle.decl_grammar.specs.declared.symbol.Symbol.{Symbol}
use Rattle.decl_grammar.specs.declared.written.MemberAt.{MemberAt}
use Rattle.decl_grammar.specs.declared.written.NameAt.{NameAt}
use Rattle.decl_grammar.specs.declared.written.TypeRest.{TypeRest}
use Rattle.decl_grammar.specs.Symbols.{at_interface}
use Rattle.decl_grammar.specs.TokenNames as token
use Rattle.decl_grammar.specs.Form.{terminal, pair, turn, maybe, many, Is}
use Rattle.decl_grammar.specs.Types.{keyword, sign, behind, before, list_or_none, name, name_at, text_of, classes, optional_params}
use Rattle.decl_grammar.specs.Grammar.{superclass, implemented, extended, members_in, member_form, joined_lists, class_form, interface_form, annotation_form}
use Rattle.decl_grammar.specs.Rule.{WholeAt}
use Rattle.decl_grammar.specs.File.{IsShallow}
use Rattle.decl_limits.specs.Texts.{AreTexts}
use Rattle.decl_limits.specs.Children.{class_heading, interface_heading, annotation_heading}
use Rattle.decl_limits.proofs.LegalTexts.{items-fit, items-grow}
use Rattle.decl_limits.proofs.LegalForms.{Has, has-turn, has-behind, has-maybe, split-in}
use Rattle.decl_limits.proofs.LegalParts.{Fine, found, two-parts, turned-part, behind-part, before-part, pair-is, behind-is, before-is}
use Rattle.decl_limits.proofs.LegalTypes.{class-has, classes-has}
use Rattle.decl_limits.proofs.LegalFields.{name-at-has}
use Rattle.decl_limits.proofs.LegalParams.{type_param_fits, optional-params-have}
use Rattle.decl_limits.proofs.LegalDeclarations.{TypeSafe, AllNamed, AllLegal, NestedRows}
use Rattle.decl_limits.proofs.LegalBodies.{OpenParts, heading-parts, members-legal}

-- the parts of a type
pub record TypeParts (room : ℕ) (rest : TypeRest) : Type 0 where
  pub named : is_name rest.name.name ≡ true
  pub parameters : list_all (type_param_fits room) rest.parameters ≡ true
  pub above : fits_if_some (is_legal_type room) rest.superclass ≡ true
  pub interfaces : all_fit (is_legal_type room) rest.interfaces ≡ true
  pub members : (start : ℕ) → AllNamed start rest.members → AllLegal room start rest.members

abbrev pub PartsLegal : ℕ → List Symbol → TypeRest → Type 0
PartsLegal room ts rest = TypeSafe ts → TypeParts room rest

-- ---- headings

abbrev TypesFit : ℕ → List Symbol → List TypeText → Type 0
TypesFit room ts xs = all_fit (is_legal_type room) xs ≡ true

superclass-has : (h room : ℕ) → Has h room superclass (λ ts o. fits_if_some (is_legal_type room) o ≡ true)
unfolding superclass
superclass-has h room =
    has-maybe (λ ts o. fits_if_some (is_legal_type room) o ≡ true) (has-behind (class-has h room) (λ us vs x p. p)) (λ ts. refl) (λ ts x a p. p)

listed-types : (h room n : ℕ) → Has h room (turn list_or_none (maybe (behind (keyword n) classes))) (TypesFit room)
listed-types h room n =
    has-turn (list_or_none {A = TypeText}) (TypesFit room)
    (has-maybe (λ ts o. TypesFit room ts (list_or_none o)) (has-behind (classes-has h room) (items-grow (is_legal_type room))) (λ ts. refl) (λ ts xs a i. items-fit (is_legal_type room) ts xs a i))
    (λ ts o a p. p)

pub implemented-has : (h room : ℕ) → Has h room implemented (TypesFit room)
unfolding implemented
implemented-has h room = listed-types h room 23

extended-has : (h room : ℕ) → Has h room extended (TypesFit room)
unfolding extended
extended-has h room = listed-types h room 16

-- a name is one with its line
pub plain-name : (h : ℕ) (ts : List Symbol) (n : NameAt) → Is (WholeAt h) name_at ts n → (t : List ℕ) × Is (WholeAt h) name ts t
unfolding name
plain-name h ts n is = (text_of is.0, (is.0, is.1, refl))

-- ---- the members of a type in their braces

pub body-legal : (h room : ℕ) → NestedRows h → (k : TypeKind) (whole pre ts back : List Symbol) (ms : List MemberAt) → whole ≡ pre ++ (ts ++ back) → TypeSafe whole → OpenParts h k pre → Fine h room (turn joined_lists (many (member_form k))) ts ms
    → (start : ℕ) → AllNamed start ms → AllLegal room start ms
body-legal h room rows k whole pre ts back ms e safe begun fine start named =
    let b = turned-part h room joined_lists (many (member_form k)) ts ms fine in
    let legal = members-legal h room rows k whole pre back b.0 ts e safe begun b.1.texts b.1.shallow b.1.whole start (subst (λ (xs : List MemberAt). AllNamed start xs) b.2 named) in
    subst (λ (xs : List MemberAt). AllLegal room start xs) (sym b.2) legal

-- ---- classes, interfaces and annotation interfaces

pub class-there : (h room : ℕ) → NestedRows h → (ts : List Symbol) (rest : TypeRest) → AreTexts ts → IsShallow class_form room ts → Is (WholeAt h) class_form ts rest → PartsLegal room ts rest
unfolding class_form class_heading
class-there h room rows ts rest a sh is safe =
    let w = WholeAt h in
    let all = behind-part h room (keyword token.class) (pair name_at (pair optional_params (pair superclass (pair implemented (members_in kind.Class))))) ts is.0 (record { texts = a; shallow = sh; whole = is.1 }) in
    let n = two-parts h room name_at (pair optional_params (pair superclass (pair implemented (members_in kind.Class)))) all.1 is.0 all.5 in
    let ps = two-parts h room optional_params (pair superclass (pair implemented (members_in kind.Class))) n.1 is.0.1 n.4 in
    let s = two-parts h room superclass (pair implemented (members_in kind.Class)) ps.1 is.0.1.1 ps.4 in
    let i = two-parts h room implemented (members_in kind.Class) s.1 is.0.1.1.1 s.4 in
    let brace = behind-part h room (sign token.open_brace) (before (turn joined_lists (many (member_form kind.Class))) (sign token.close_brace)) i.1 is.0.1.1.1.1 i.4 in
    let body = before-part h room (turn joined_lists (many (member_form kind.Class))) (sign token.close_brace) brace.1 is.0.1.1.1.1 brace.5 in
    let plain = plain-name h n.0 is.0.0 n.3.whole in
    let last = before-is w implemented (sign token.open_brace) i.0 brace.0 is.0.1.1.1.0 brace.2 i.3.whole brace.4 in
    let ends = pair-is w superclass (before implemented (sign token.open_brace)) s.0 (i.0 ++ brace.0) is.0.1.1.0 is.0.1.1.1.0 s.3.whole last in
    let typed = before-is w optional_params (pair superclass (before implemented (sign token.open_brace))) ps.0 (s.0 ++ (i.0 ++ brace.0)) is.0.1.0 (is.0.1.1.0, is.0.1.1.1.0) ps.3.whole ends in
    let titled = behind-is w name (before optional_params (pair superclass (before implemented (sign token.open_brace)))) n.0 (ps.0 ++ (s.0 ++ (i.0 ++ brace.0))) plain.0 is.0.1.0 plain.1 typed in
    let opening = behind-is w (keyword token.class) (behind name (before optional_params (pair superclass (before implemented (sign token.open_brace))))) all.0 (n.0 ++ (ps.0 ++ (s.0 ++ (i.0 ++ brace.0)))) all.2 is.0.1.0 all.4 titled in
    let pre : List Symbol = all.0 ++ (n.0 ++ (ps.0 ++ (s.0 ++ (i.0 ++ brace.0)))) in
    let split = split-in ts all.0 all.1 (n.0 ++ (ps.0 ++ (s.0 ++ (i.0 ++ brace.0)))) brace.1 all.3
    (split-in all.1 n.0 n.1 (ps.0 ++ (s.0 ++ (i.0 ++ brace.0))) brace.1 n.2
    (split-in n.1 ps.0 ps.1 (s.0 ++ (i.0 ++ brace.0)) brace.1 ps.2
    (split-in ps.1 s.0 s.1 (i.0 ++ brace.0) brace.1 s.2 (split-in s.1 i.0 i.1 brace.0 brace.1 i.2 brace.3)))) in
    let whole : ts ≡ pre ++ (body.0 ++ body.1) = split ∙ ap (λ (xs : List Symbol). pre ++ xs) body.3 in
    let begun = heading-parts h kind.Class pre (length is.0.1.0) (is.0.1.0, opening, refl) in
    subst (λ (r : TypeRest). TypeParts room r) (sym is.2)
    (record {
      named = found (name-at-has h room) n.3;
      parameters = found (optional-params-have h room) ps.3;
      above = found (superclass-has h room) s.3;
      interfaces = found (implemented-has h room) i.3;
      members = body-legal h room rows kind.Class ts pre body.0 body.1 is.0.1.1.1.1 whole safe begun body.4;
    })

pub interface-there : (h room : ℕ) → NestedRows h → (ts : List Symbol) (rest : TypeRest) → AreTexts ts → IsShallow interface_form room ts → Is (WholeAt h) interface_form ts rest → PartsLegal room ts rest
unfolding interface_form interface_heading
interface-there h room rows ts rest a sh is safe =
    let w = WholeAt h in
    let all = behind-part h room (keyword token.interface) (pair name_at (pair optional_params (pair extended (members_in kind.Interface)))) ts is.0 (record { texts = a; shallow = sh; whole = is.1 }) in
    let n = two-parts h room name_at (pair optional_params (pair extended (members_in kind.Interface))) all.1 is.0 all.5 in
    let ps = two-parts h room optional_params (pair extended (members_in kind.Interface)) n.1 is.0.1 n.4 in
    let i = two-parts h room extended (members_in kind.Interface) ps.1 is.0.1.1 ps.4 in
    let brace = behind-part h room (sign token.open_brace) (before (turn joined_lists (many (member_form kind.Interface))) (sign token.close_brace)) i.1 is.0.1.1.1 i.4 in
    let body = before-part h room (turn joined_lists (many (member_form kind.Interface))) (sign token.close_brace) brace.1 is.0.1.1.1 brace.5 in
    let plain = plain-name h n.0 is.0.0 n.3.whole in
    let last = before-is w extended (sign token.open_brace) i.0 brace.0 is.0.1.1.0 brace.2 i.3.whole brace.4 in
    let typed = before-is w optional_params (before extended (sign token.open_brace)) ps.0 (i.0 ++ brace.0) is.0.1.0 is.0.1.1.0 ps.3.whole last in
    let titled = behind-is w name (before optional_params (before extended (sign token.open_brace))) n.0 (ps.0 ++ (i.0 ++ brace.0)) plain.0 is.0.1.0 plain.1 typed in
    let opening = behind-is w (keyword token.interface) (behind name (before optional_params (before extended (sign token.open_brace)))) all.0 (n.0 ++ (ps.0 ++ (i.0 ++ brace.0))) all.2 is.0.1.0 all.4 titled in
    let pre : List Symbol = all.0 ++ (n.0 ++ (ps.0 ++ (i.0 ++ brace.0))) in
    let split = split-in ts all.0 all.1 (n.0 ++ (ps.0 ++ (i.0 ++ brace.0))) brace.1 all.3
    (split-in all.1 n.0 n.1 (ps.0 ++ (i.0 ++ brace.0)) brace.1 n.2 (split-in n.1 ps.0 ps.1 (i.0 ++ brace.0) brace.1 ps.2 (split-in ps.1 i.0 i.1 brace.0 brace.1 i.2 brace.3))) in
    let whole : ts ≡ pre ++ (body.0 ++ body.1) = split ∙ ap (λ (xs : List Symbol). pre ++ xs) body.3 in
    let begun = heading-parts h kind.Interface pre (length is.0.1.0) (is.0.1.0, opening, refl) in
    subst (λ (r : TypeRest). TypeParts room r) (sym is.2)
    (record {
      named = found (name-at-has h room) n.3;
      parameters = found (optional-params-have h room) ps.3;
      above = refl;
      interfaces = found (extended-has h room) i.3;
      members = body-legal h room rows kind.Interface ts pre body.0 body.1 is.0.1.1.1 whole safe begun body.4;
    })

pub annotation-there : (h room : ℕ) → NestedRows h → (ts : List Symbol) (rest : TypeRest) → AreTexts ts → IsShallow annotation_form room ts → Is (WholeAt h) annotation_form ts rest → PartsLegal room ts rest
unfolding annotation_form annotation_heading
annotation-there h room rows ts rest a sh is safe =
    let w = WholeAt h in
    let sort = terminal (at_interface ∷ []) in
    let all = behind-part h room sort (behind (keyword token.interface) (pair name_at (members_in kind.AnnotationType))) ts is.0 (record { texts = a; shallow = sh; whole = is.1 }) in
    let next = behind-part h room (keyword token.interface) (pair name_at (members_in kind.AnnotationType)) all.1 is.0 all.5 in
    let n = two-parts h room name_at (members_in kind.AnnotationType) next.1 is.0 next.5 in
    let brace = behind-part h room (sign token.open_brace) (before (turn joined_lists (many (member_form kind.AnnotationType))) (sign token.close_brace)) n.1 is.0.1 n.4 in
    let body = before-part h room (turn joined_lists (many (member_form kind.AnnotationType))) (sign token.close_brace) brace.1 is.0.1 brace.5 in
    let plain = plain-name h n.0 is.0.0 n.3.whole in
    let titled = before-is w name (sign token.open_brace) n.0 brace.0 plain.0 brace.2 plain.1 brace.4 in
    let later = behind-is w (keyword token.interface) (before name (sign token.open_brace)) next.0 (n.0 ++ brace.0) next.2 plain.0 next.4 titled in
    let opening = behind-is w sort (behind (keyword token.interface) (before name (sign token.open_brace))) all.0 (next.0 ++ (n.0 ++ brace.0)) all.2 plain.0 all.4 later in
    let pre : List Symbol = all.0 ++ (next.0 ++ (n.0 ++ brace.0)) in
    let split = split-in ts all.0 all.1 (next.0 ++ (n.0 ++ brace.0)) brace.1 all.3 (split-in all.1 next.0 next.1 (n.0 ++ brace.0) brace.1 next.3 (split-in next.1 n.0 n.1 brace.0 brace.1 n.2 brace.3)) in
    let whole : ts ≡ pre ++ (body.0 ++ body.1) = split ∙ ap (λ (xs : List Symbol). pre ++ xs) body.3 in
    let begun = heading-parts h kind.AnnotationType pre 0 (plain.0, opening, refl) in
    subst (λ (r : TypeRest). TypeParts room r) (sym is.2)
    (record {
      named = found (name-at-has h room) n.3;
      parameters = refl;
      above = refl;
      interfaces = refl;
      members = body-legal h room rows kind.AnnotationType ts pre body.0 body.1 is.0.1 whole safe begun body.4;
    })
