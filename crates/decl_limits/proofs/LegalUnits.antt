-- The units of a file within its limits are legal: its texts are those of its symbols, what is open is within the limit, its names are short enough, and no child list is too long.
use Rattle.std.proofs.Common.{◌≡◌, ◌+◌, ◌≤◌, ℕ, true, false, List, [], ◌∷◌, ◌++◌, length, Option, None, Some, refl, sym, ap, ◌∙◌, arith, append_assoc}
use Rattle.std.specs.Prelude.{nat_le}
use Rattle.std.specs.List.{list_all}
use Rattle.std.proofs.lemmas.Bool.{le-leb, leb-true}
use Rattle.std.proofs.lemmas.List.{append-nil}
use Rattle.std.proofs.lemmas.Str.{is_utf8-from_IsUtf8, IsUtf8-nil}
use Rattle.apt_base.specs.Forms.{is_name, all_fit, fits_if_some}
use Rattle.apt_base.specs.Limits.{max_depth, max_name_bytes}
use Rattle.decl_tree.specs.Legal.{is_canonical, is_legal_annotation, is_legal_declaration, is_legal_import, package_start, is_legal_body, is_legal}
use Rattle.decl_tree.specs.declared.compilation.Import.{Import}
use Rattle.decl_tree.specs.declared.declaration.TypeDecl.{TypeDecl}
use Rattle.decl_grammar.specs.declared.symbol.Symbol.{Symbol}
use Rattle.decl_grammar.specs.declared.written.Modifiers.{Modifiers}
use Rattle.decl_grammar.specs.declared.written.NameAt.{NameAt}
use Rattle.decl_grammar.specs.declared.written.TypeAt.{TypeAt}
use Rattle.decl_grammar.specs.declared.written.TypeRest.{TypeRest}
use Rattle.decl_grammar.specs.Form.{Form, pair, turn, maybe, many, Each, Is, nullable}
use Rattle.decl_grammar.specs.Types.{sign, silently, type_modifiers}
use Rattle.decl_grammar.specs.Grammar.{doc_of, first_doc, declaration_of, package_form, import_form, no_type, top_declared, modified_type, top_type, class_form, interface_form, annotation_form, enum_form, type_rest, Ordinary, ordinary, Info, package_part, documented_package, annotated_package, semicolon, package_info}
use Rattle.decl_grammar.specs.Rule.{WholeAt}
use Rattle.decl_grammar.specs.File.{IsPhrase, IsShallow}
use Rattle.decl_grammar.proofs.OneToken.{both}
use Rattle.decl_limits.specs.Children.{IsCrowded}
use Rattle.decl_limits.specs.Names.{longest, fits_behind, type_named, named_package}
use Rattle.decl_limits.specs.Units.{package_name, names_in, unit_of, units_from, PackagePart, info_of}
use Rattle.decl_limits.specs.Texts.{AreTexts}
use Rattle.decl_limits.specs.Limits.{IsWhole, AreLegal, AllLegal, IsLegalInfo}
use Rattle.decl_limits.proofs.LegalTexts.{and-true, texts-front, texts-back, list-short, items-fit}
use Rattle.decl_limits.proofs.LegalDocs.{doc-fits}
use Rattle.decl_limits.proofs.LegalForms.{Has, anything, has-more, has-turn, has-pair, has-maybe, has-either, has-both, has-seen, shallow-first, shallow-rest}
use Rattle.decl_limits.proofs.LegalParts.{Fine, found, two-parts}
use Rattle.decl_limits.proofs.LegalParams.{Modified, modified-is, type-modifiers-have, annotations-have}
use Rattle.decl_limits.proofs.LegalDeclarations.{InsideSafe}
use Rattle.decl_limits.proofs.LegalBodies.{place-on, one-more}
use Rattle.decl_limits.proofs.LegalEnums.{type-has, type-named-has}
use Rattle.decl_limits.proofs.LegalImports.{package-has, imports-have}
use Rattle.decl_limits.proofs.FullForms.{row-symbols}
use Rattle.decl_grammar.specs.TokenNames as token

-- ---- packages

abbrev PackageFits : List Symbol → Option NameAt → Type 0
PackageFits ts o = is_name (package_name o) ≡ true

empty-name : is_name [] ≡ true
empty-name = and-true (is_utf8-from_IsUtf8 [] IsUtf8-nil) refl

optional-package : (h room : ℕ) → Has h room (maybe package_form) PackageFits
optional-package h room = has-maybe PackageFits (package-has h room) (λ ts. empty-name) (λ ts n a p. p)

-- ---- types

-- a type of a file, whatever names stand before its own
abbrev DeclarationLegal : TypeDecl → Type 0
DeclarationLegal d = (is_name d.name ≡ true) × ((start : ℕ) → start + longest d ≤ max_name_bytes → is_legal_declaration max_depth start d ≡ true)

-- where its symbols, behind its modifiers, are not full
abbrev TopLegal : List Symbol → Option TypeAt → Type 0
TopLegal ts None = Unit {0}
TopLegal ts (Some d) = InsideSafe ts → DeclarationLegal d.declaration

abbrev ModifiedLegal : List Symbol → Modifiers × TypeRest → Type 0
ModifiedLegal ts x = InsideSafe ts → (doc : Option (List ℕ)) → fits_if_some is_name doc ≡ true → DeclarationLegal (declaration_of doc x.0 x.1)

modifiers-have : (h : ℕ) → Has h max_depth type_modifiers (λ ts m. Modified max_depth m × IsPhrase type_modifiers ts m)
modifiers-have h = record { there = λ ts m a sh is. (modified-is max_depth ts m a ((type-modifiers-have h max_depth).there ts m a sh is), (h, is)) }

modified-has : (h : ℕ) → Has h max_depth modified_type ModifiedLegal
unfolding modified_type is_legal_declaration
modified-has h =
    has-pair ModifiedLegal (modifiers-have h) (has-both (type-has h max_depth) (type-named-has h max_depth))
    (λ us vs x a p q. λ safe doc d.
    let inside = safe us vs x.0 p.1 refl in
    (q.1 inside, λ start short. q.0 inside doc d x.0 p.0 start short))

top-has : (h : ℕ) → Has h max_depth top_type TopLegal
unfolding top_type
top-has h =
    has-either (has-turn no_type TopLegal (anything h max_depth (sign token.semicolon)) (λ ts s a p. tt))
    (has-turn top_declared TopLegal (has-seen first_doc (modified-has h))
    (λ ts x a p. λ safe. p.1 safe (doc_of x.0) (ap (λ raw. fits_if_some is_name (doc_of raw)) p.0 ∙ doc-fits ts a)))

-- ---- all types of a file

abbrev AllTypes : List (Option TypeAt) → Type 0
AllTypes [] = Unit {0}
AllTypes (None ∷ ds) = AllTypes ds
AllTypes (Some d ∷ ds) = DeclarationLegal d.declaration × AllTypes ds

-- a file up to a place where a further type may stand
record FileParts (h : ℕ) (ts : List Symbol) : Type 0 where
  front : List Symbol
  imports : List Symbol
  types : List Symbol
  named : Option NameAt
  imported : List Import
  declared : List (Option TypeAt)
  parts : ts ≡ front ++ (imports ++ types)
  package_is : Is (WholeAt h) (maybe package_form) front named
  imports_are : Is (WholeAt h) (many import_form) imports imported
  types_are : Each (Is (WholeAt h) top_type) types declared

file-phrase : (h : ℕ) (ts : List Symbol) (p : FileParts h ts) → IsPhrase ordinary ts (p.named, (p.imported, p.declared))
unfolding ordinary
file-phrase h ts p = (h, (p.front, p.imports ++ p.types, p.parts, p.package_is, (p.imports, p.types, refl, p.imports_are, p.types_are)))

one-type : (h : ℕ) (ts us : List Symbol) (x : Option TypeAt) → FileParts h ts → Is (WholeAt h) top_type us x → FileParts h (ts ++ us)
one-type h ts us x p is = record {
  front = p.front;
  imports = p.imports;
  types = p.types ++ us;
  named = p.named;
  imported = p.imported;
  declared = p.declared ++ x ∷ [];
  parts = ap (λ (ss : List Symbol). ss ++ us) p.parts ∙ (append_assoc p.front (p.imports ++ p.types) us ∙ ap (λ (ss : List Symbol). p.front ++ ss) (append_assoc p.imports p.types us));
  package_is = p.package_is;
  imports_are = p.imports_are;
  types_are = one-more (Is (WholeAt h) top_type) p.types us p.declared x p.types_are is;
}

-- where the file is not crowded, a type behind such a front is not full
type-safe : (h : ℕ) (whole pre us rest : List Symbol) → whole ≡ pre ++ (us ++ rest) → (IsCrowded whole → ⊥) → FileParts h pre → InsideSafe us
type-safe h whole pre us rest e few p a b m phrase q c d g r full =
    few (
      pre ++ (a ++ c),
      d ++ rest,
      place-on whole pre us rest a b c d e q r,
      (pre, a ++ c, (p.named, (p.imported, p.declared)), refl, file-phrase h pre p, (a, c, m, refl, phrase, (g, full))),
    )

keep-one : (ts : List Symbol) (o : Option TypeAt) (ds : List (Option TypeAt)) → TopLegal ts o → InsideSafe ts → AllTypes ds → AllTypes (o ∷ ds)
keep-one ts None ds p safe rest = rest
keep-one ts (Some d) ds p safe rest = (p safe, rest)

types-legal : (h : ℕ) (whole pre : List Symbol) (ds : List (Option TypeAt)) (ts : List Symbol) → whole ≡ pre ++ ts → (IsCrowded whole → ⊥) → FileParts h pre → AreTexts ts → IsShallow (many top_type) max_depth ts → Each (Is (WholeAt h) top_type) ts ds → AllTypes ds
types-legal h whole pre [] ts e few p a sh each = tt
types-legal h whole pre (x ∷ ds) ts e few p a sh each =
    let us = each.0 in
    let vs = each.1 in
    let here : whole ≡ pre ++ (us ++ vs) = e ∙ ap (λ (ss : List Symbol). pre ++ ss) each.2 in
    let rest = types-legal h whole (pre ++ us) ds vs (here ∙ sym (append_assoc pre us vs)) few (one-type h pre us x p each.3) (texts-back ts us vs each.2 a) (shallow-rest top_type max_depth h ts us vs x each.2 each.3 sh) each.4 in
    keep-one us x ds ((top-has h).there us x (texts-front ts us vs each.2 a) (shallow-first top_type max_depth ts us vs each.2 sh) each.3) (type-safe h whole pre us vs here few p) rest

-- ---- their units

top-full : nullable top_type ≡ false
unfolding top_type modified_type type_modifiers type_rest class_form interface_form annotation_form enum_form
top-full = refl

names-fit : (ds : List (Option TypeAt)) → AllTypes ds → (list_all is_name (names_in ds) ≡ true) × (length (names_in ds) ≤ length ds)
names-fit [] all = (refl, omega arith)
names-fit (None ∷ ds) all = let r = names-fit ds all in (r.0, omega (arith, r.1))
names-fit (Some d ∷ ds) all = let r = names-fit ds all.1 in (and-true all.0.0 r.0, omega (arith, r.1))

unit-legal : (pkg : List ℕ) (imports : List Import) (siblings : List (List ℕ)) (d : TypeDecl) → is_canonical 0 pkg ≡ true → all_fit is_legal_import imports ≡ true → all_fit is_name siblings ≡ true
    → is_legal_declaration max_depth (package_start pkg) d ≡ true → is_legal (unit_of pkg imports siblings d) ≡ true
unfolding is_legal is_legal_body
unit-legal pkg imports siblings d p q r s = and-true (and-true (and-true p q) r) s

units-legal : (pkg : List ℕ) (imports : List Import) (siblings : List (List ℕ)) (ds : List (Option TypeAt)) → is_canonical 0 pkg ≡ true → all_fit is_legal_import imports ≡ true → all_fit is_name siblings ≡ true
    → AllTypes ds → list_all (type_named (package_start pkg)) ds ≡ true → AllLegal (units_from pkg imports siblings ds)
units-legal pkg imports siblings [] p q r all named = tt
units-legal pkg imports siblings (None ∷ ds) p q r all named = units-legal pkg imports siblings ds p q r all named
units-legal pkg imports siblings (Some d ∷ ds) p q r all named =
    let z = both (fits_behind (package_start pkg) d.declaration) (list_all (type_named (package_start pkg)) ds) named in
    let short = leb-true (package_start pkg + longest d.declaration) max_name_bytes z.0 in
    (unit-legal pkg imports siblings d.declaration p q r (all.0.1 (package_start pkg) short), units-legal pkg imports siblings ds p q r all.1 z.1)

-- ---- files

canonical : (name : List ℕ) → is_name name ≡ true → nat_le (length name) max_name_bytes ≡ true → is_canonical 0 name ≡ true
canonical name p q = and-true p (le-leb (0 + length name) max_name_bytes (omega (arith, leb-true (length name) max_name_bytes q)))

whole-fine : {A : Type 0} (f : Form A) (h : ℕ) (ts : List Symbol) (x : A) → AreTexts ts → IsShallow f max_depth ts → Is (WholeAt h) f ts x → Fine h max_depth f ts x
whole-fine f h ts x a sh is = record { texts = a; shallow = sh; whole = is }

-- an ordinary file within its limits
pub ordinary-legal : (ts : List Symbol) (x : Ordinary) → AreTexts ts → IsWhole ordinary ts x → (IsCrowded ts → ⊥) → AreLegal x
unfolding ordinary
ordinary-legal ts x a whole few named =
    let h = whole.0.0 in
    let p = two-parts h max_depth (maybe package_form) (pair (many import_form) (many top_type)) ts x (whole-fine ordinary h ts x a whole.1 whole.0.1) in
    let i = two-parts h max_depth (many import_form) (many top_type) p.1 x.1 p.4 in
    let heading : ts ≡ (p.0 ++ (i.0 ++ [])) ++ i.1 = p.2 ∙ (ap (λ (ss : List Symbol). p.0 ++ ss) (i.2 ∙ ap (λ (ss : List Symbol). ss ++ i.1) (sym (append-nil i.0))) ∙ sym (append_assoc p.0 (i.0 ++ []) i.1)) in
    let begun : FileParts h (p.0 ++ (i.0 ++ [])) = record {
      front = p.0;
      imports = i.0;
      types = [];
      named = x.0;
      imported = x.1.0;
      declared = [];
      parts = refl;
      package_is = p.3.whole;
      imports_are = i.3.whole;
      types_are = refl;
    } in
    let all = types-legal h ts (p.0 ++ (i.0 ++ [])) x.1.1 i.1 heading few begun i.4.texts i.4.shallow i.4.whole in
    let n = both (nat_le (length (package_name x.0)) max_name_bytes) (list_all (type_named (package_start (package_name x.0))) x.1.1) named in
    let siblings = names-fit x.1.1 all in
    let count = row-symbols h top_type top-full x.1.1 i.1 i.4.whole in
    units-legal (package_name x.0) x.1.0 (names_in x.1.1) x.1.1 (canonical (package_name x.0) (found (optional-package h max_depth) p.3) n.0)
    (items-fit is_legal_import i.0 x.1.0 i.3.texts (found (imports-have h max_depth) i.3))
    (and-true (list-short i.1 (names_in x.1.1) i.4.texts (omega (arith, siblings.1, count))) siblings.0) all n.1

-- ---- files `package-info.java`

abbrev PartFits : List Symbol → PackagePart → Type 0
PartFits ts x = (fits_if_some is_name x.0 ≡ true) × ((all_fit (is_legal_annotation max_depth) x.1.0 ≡ true) × (is_name x.1.1.name ≡ true))

part-has : (h : ℕ) → Has h max_depth annotated_package PartFits
unfolding annotated_package package_part
part-has h =
    has-turn documented_package PartFits
    (has-seen first_doc
    (has-pair (λ ts x. (all_fit (is_legal_annotation max_depth) x.0 ≡ true) × (is_name x.1.name ≡ true))
    (has-more (λ ts xs. all_fit (is_legal_annotation max_depth) xs ≡ true) (annotations-have h max_depth) (λ ts xs a i. items-fit (is_legal_annotation max_depth) ts xs a i))
    (package-has h max_depth) (λ us vs x a p q. (p, q))))
    (λ ts x a p. (ap (λ raw. fits_if_some is_name (doc_of raw)) p.0 ∙ doc-fits ts a, p.1))

abbrev OptionalFits : List Symbol → Option PackagePart → Type 0
OptionalFits ts None = Unit {0}
OptionalFits ts (Some p) = PartFits ts p

info-unit-legal : (ts : List Symbol) (o : Option PackagePart) (imports : List Import) → OptionalFits ts o → nat_le (length (named_package o)) max_name_bytes ≡ true → all_fit is_legal_import imports ≡ true → is_legal (info_of o imports) ≡ true
unfolding is_legal is_legal_body
info-unit-legal ts None imports p named q = and-true (and-true (and-true (canonical [] empty-name refl) q) refl) refl
info-unit-legal ts (Some x) imports p named q = and-true (and-true (and-true (canonical x.1.1.name p.1.1 named) q) refl) (and-true p.1.0 p.0)

pub info-legal : (ts : List Symbol) (x : Info) → AreTexts ts → IsWhole package_info ts x → IsLegalInfo x
unfolding package_info
info-legal ts x a whole named =
    let h = whole.0.0 in
    let p = two-parts h max_depth (maybe annotated_package) (pair (many import_form) (turn silently (many semicolon))) ts x (whole-fine package_info h ts x a whole.1 whole.0.1) in
    let i = two-parts h max_depth (many import_form) (turn silently (many semicolon)) p.1 x.1 p.4 in
    let part = found (has-maybe OptionalFits (part-has h) (λ us. tt) (λ us y b q. q)) p.3 in
    (info-unit-legal p.0 x.0 x.1.0 part named (items-fit is_legal_import i.0 x.1.0 i.3.texts (found (imports-have h max_depth) i.3)), tt)
