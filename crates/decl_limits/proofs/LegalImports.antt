-- Packages and imports that are read have legal names.
use Rattle.std.proofs.Common.{◌≡◌, ℕ, zero, suc, ◌≤◌, true, false, List, ◌++◌, length, codes, Option, refl, ap, subst, ◌∙◌, arith, append_assoc, length-append}
use Rattle.std.proofs.lemmas.List.Sums.{sum_by-append}
use Rattle.std.proofs.lemmas.Str.{IsUtf8-append}
use Rattle.apt_base.specs.Forms.{is_name}
use Rattle.decl_tree.specs.declared.compilation.Import.{Import}
use Rattle.decl_tree.specs.Legal.{is_legal_import}
use Rattle.decl_grammar.specs.declared.symbol.Symbol.{Symbol}
use Rattle.decl_grammar.specs.Form.{ImportRest, import_rest, maybe, many, nest, nullable}
use Rattle.decl_grammar.specs.Types.{keyword, sign, name}
use Rattle.decl_grammar.specs.Grammar.{static_import, with_dot, single_or, deeper_import, on_demand, import_rest_form, import_named, import_static, import_form, package_named, package_form}
use Rattle.decl_limits.specs.Texts.{bytes_of}
use Rattle.decl_limits.proofs.LegalTexts.{dot-utf8, symbols-few, Items, Made, made-fits, made-grow, made-before, name-made, chain-made}
use Rattle.decl_limits.proofs.LegalForms.{Has, anything, has-more, has-turn, has-pair, has-behind, has-behind-one, has-before, has-maybe, has-either, has-row, has-lowest, has-free}
use Rattle.decl_limits.proofs.LegalFields.{NameFits}
use Rattle.decl_grammar.specs.TokenNames as token

-- ---- packages

pub package-has : (h room : ℕ) → Has h room package_form NameFits
unfolding package_form
package-has h room =
    has-turn package_named NameFits
    (has-pair (λ ts x. is_name x.1 ≡ true) (anything h room (keyword token.«package»))
    (has-before (record { there = λ ts t a sh is. made-fits ts t a (chain-made h ts t a is) }) (λ us vs t p. p))
    (λ us vs x a p q. q))
    (λ ts x a p. p)

-- ---- imports: a name grows by a dot and a name

-- the rest of an import behind symbols of which its name so far is made
abbrev RestMade : List Symbol → ImportRest → Type 0
RestMade ts g = (us : List Symbol) (n : List ℕ) → Made us n → Made (us ++ ts) (g n).name

name-has : (h room : ℕ) → Has h room name Made
name-has h room = record { there = λ ts t a sh is. name-made h ts t a is }

-- a dot stands before a further name
dotted : (us vs ws : List Symbol) (n m : List ℕ) → Made us n → 1 ≤ length vs → Made ws m → Made (us ++ (vs ++ ws)) (with_dot n m)
dotted us vs ws n m p one q = record {
  utf8 = IsUtf8-append (n ++ codes ".") m (IsUtf8-append n (codes ".") p.utf8 dot-utf8) q.utf8;
  short = omega (arith, p.short, q.short, one, symbols-few vs, length-append (n ++ codes ".") m, length-append n (codes "."), sum_by-append bytes_of us (vs ++ ws), sum_by-append bytes_of vs ws);
}

-- a further name with what stands behind it, where a dot stands before
abbrev DeeperMade : List Symbol → ImportRest → Type 0
DeeperMade ts g = (us vs : List Symbol) (n : List ℕ) → Made us n → 1 ≤ length vs → Made (us ++ (vs ++ ts)) (g n).name

deeper : (us vs : List Symbol) (x : List ℕ × Option ImportRest) → Made us x.0 → ((ws : List Symbol) (n : List ℕ) → Made ws n → Made (ws ++ vs) (single_or x.1 n).name) → DeeperMade (us ++ vs) (deeper_import x)
deeper us vs x p q = λ ks bs n m one.
    let all = q (ks ++ (bs ++ us)) (with_dot n x.0) (dotted ks bs us n x.0 m one p) in
    subst (λ (ss : List Symbol). Made ss (single_or x.1 (with_dot n x.0)).name) (append_assoc ks (bs ++ us) vs ∙ ap (λ (ss : List Symbol). ks ++ ss) (append_assoc bs us vs)) all

abbrev SingleMade : List Symbol → Option ImportRest → Type 0
SingleMade ts o = (us : List Symbol) (n : List ℕ) → Made us n → Made (us ++ ts) (single_or o n).name

single-has : (h room : ℕ) → Has h room (nest import_rest) RestMade → Has h room (maybe (nest import_rest)) SingleMade
single-has h room rest = has-maybe SingleMade rest (λ ts. λ us n m. made-before us ts n m) (λ ts g a p. p)

rest-rule : (h room : ℕ) → Has h room (nest import_rest) RestMade → Has h room import_rest_form RestMade
unfolding import_rest_form
rest-rule h room rest =
    has-behind-one RestMade refl
    (has-either
    (has-turn deeper_import DeeperMade (has-pair (λ ts x. DeeperMade ts (deeper_import x)) (name-has h room) (single-has h room rest) (λ us vs x a p q. deeper us vs x p q)) (λ ts x a p. p))
    (has-turn on_demand DeeperMade (anything h room (sign token.star)) (λ ts s a p. λ us vs n m one. made-before us (vs ++ ts) n m)))
    (λ vs ws g one p. λ us n m. p us vs n m one)

rest-has : (h room : ℕ) → Has h room (nest import_rest) RestMade
rest-has zero room = has-lowest room import_rest RestMade
rest-has (suc h) room = has-free h room import_rest refl RestMade (rest-rule h room (rest-has h room))

abbrev ImportMade : List Symbol → Import → Type 0
ImportMade ts i = Made ts i.name

named-has : (h room : ℕ) → Has h room import_named ImportMade
unfolding import_named
named-has h room =
    has-turn (λ (x : List ℕ × Option ImportRest). single_or x.1 x.0) ImportMade
    (has-pair (λ ts x. ImportMade ts (single_or x.1 x.0)) (name-has h room) (single-has h room (rest-has h room)) (λ us vs x a p q. q us x.0 p))
    (λ ts x a p. p)

static-has : (h room : ℕ) → Has h room import_static ImportMade
unfolding import_static
static-has h room =
    has-behind
    (has-turn (λ (x : List ℕ × ImportRest). static_import (x.1 x.0)) ImportMade
    (has-pair (λ ts x. ImportMade ts (x.1 x.0)) (name-has h room) (rest-has h room) (λ us vs x a p q. q us x.0 p))
    (λ ts x a p. p))
    (λ us vs i m. made-grow us vs i.name m)

import-has : (h room : ℕ) → Has h room import_form (λ ts i. is_legal_import i ≡ true)
unfolding import_form is_legal_import
import-has h room =
    has-more (λ ts i. is_legal_import i ≡ true)
    (has-behind (has-before (has-either (named-has h room) (static-has h room)) (λ us vs i m. made-before us vs i.name m)) (λ us vs i m. made-grow us vs i.name m))
    (λ ts i a m. made-fits ts i.name a m)

import-full : nullable import_form ≡ false
unfolding import_form
import-full = refl

pub imports-have : (h room : ℕ) → Has h room (many import_form) (Items is_legal_import)
imports-have h room = has-row is_legal_import import-full (import-has h room)
