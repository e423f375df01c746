-- What the functions of the walk over a file answer, from what their calls answered.
use Rattle.std.proofs.Common.{◌≡◌, ℕ, ◌*◌, ◌<◌, ◌≤◌, Bool, true, false, List, [], ◌∷◌, drop, length, Result, Option, ⊎_elim, refl, sym, subst, ◌∙◌, arith}
use Rattle.apt_base.specs.declared.memory.NoMemory.{NoMemory}
use Rattle.decl_tree.specs.declared.compilation.Import.{Import}
use Rattle.decl_grammar.specs.declared.symbol.Symbol.{Symbol}
use Rattle.decl_grammar.specs.declared.written.Modifiers.{Modifiers}
use Rattle.decl_grammar.specs.declared.written.NameAt.{NameAt}
use Rattle.decl_grammar.specs.declared.written.TypeAt.{TypeAt}
use Rattle.decl_grammar.specs.Reading.{starts, done}
use Rattle.decl_grammar.specs.Form.{nullable, maybe, many}
use Rattle.decl_grammar.specs.Types.{name, modifier_annotation, modifier, type_modifiers}
use Rattle.decl_grammar.specs.Grammar.{class_form, interface_form, annotation_form, enum_form, type_rest, modified_type, top_type, import_form, package_form}
use Rattle.decl_grammar.specs.Rule.{reads}
use Rattle.decl_grammar.proofs.Progress.{done_rest}
use Rattle.decl_limits.specs.Children.{Then, IsCrowded}
use Rattle.decl_children.specs.Fronts.{Tells}
use Rattle.decl_children.specs.Members.{InType, TypeCrowds, TypesCrowd}
use Rattle.decl_children.specs.TypeWalks.{Walks, TypeEnds}
use Rattle.decl_children.specs.TopSteps.{TopCrowds, TopEnds, TypesSame}
use Rattle.decl_children.specs.declared.walks.Walk.{Walk}
use Rattle.decl_crossings.proofs.PhraseReads.{read-phrase}
use Rattle.decl_children.proofs.ThenRows.{One}
use Rattle.decl_children.proofs.Passages.{passes-reads}
use Rattle.decl_children.proofs.WalkAnswers.{tells-as}
use Rattle.decl_children.proofs.KindWalks.{walks-as}
use Rattle.decl_children.proofs.WalkSteps.{passes-falls}
use Rattle.decl_children.proofs.FileRows.{top-ends, types-cases, types-here, types-later, crowded-goes, crowded-back, opened-as}
use Rattle.decl_children.proofs.TopWalks as top

-- ---- one of the types

-- none stands where no modifiers are read
pub top-stuck : (room : ℕ) (ts : List Symbol) → 3 * length ts ≤ room → starts (67 ∷ []) ts ≡ false → ((m : Modifiers) (mid : List Symbol) → reads room type_modifiers ts ≡ done m mid → ⊥) → (TopCrowds ts → ⊥) × ((rest : List Symbol) → TopEnds ts rest → ⊥)
top-stuck room ts fits s none = (λ c. top.top-none room ts fits none c, λ rest e. let r = top.top-read room ts rest fits s e in none r.mods r.mid r.there)

-- a `;`
pub top-semicolon : (ts next : List Symbol) → starts (67 ∷ []) ts ≡ true → next ≡ drop 1 ts → (TopCrowds ts → ⊥) × TopEnds ts next
top-semicolon ts next s e = (λ c. top.semicolon-not ts s c, subst (λ (zs : List Symbol). TopEnds ts zs) (sym e) (top.semicolon-end ts s))

-- a type behind its modifiers
pub top-walks : (room : ℕ) (ts mid : List Symbol) (m : Modifiers) (r : Result Walk NoMemory) → 3 * length ts ≤ room → starts (67 ∷ []) ts ≡ false → reads room type_modifiers ts ≡ done m mid
    → Walks (TypeCrowds mid) (TypeEnds mid) r → Walks (TopCrowds ts) (TopEnds ts) r
top-walks room ts mid m r fits s there w =
    walks-as (TypeCrowds mid) (TopCrowds ts) (TypeEnds mid) (TopEnds ts) r (λ c. top.top-full room ts mid m there c) (λ c. top.full-top room ts mid m fits there c)
    (λ rest e. top.top-ends room ts mid rest m there e) (λ rest e. top.top-mid room ts mid rest m there (top.top-read room ts rest fits s e)) w

-- ---- all of them

abbrev full_behind : List (Option TypeAt) → List Symbol → Type 0
full_behind tops us = Then type_modifiers (λ (m : Modifiers) vs. InType vs) us

top-never : nullable top_type ≡ false
unfolding modifier_annotation modifier type_modifiers name class_form interface_form annotation_form enum_form type_rest modified_type top_type
top-never = refl

top-reads : (ts rest : List Symbol) (t : TopEnds ts rest) → reads (3 * length ts) top_type ts ≡ done t.0 rest
top-reads ts rest t = passes-reads top_type top-ends (3 * length ts) ts t.0 rest (omega arith) t.1

types-stuck : (ts : List Symbol) → (TopCrowds ts → ⊥) → ((rest : List Symbol) → TopEnds ts rest → ⊥) → TypesCrowd ts → ⊥
types-stuck ts none stuck c =
    ⊎_elim none (λ (o : One (3 * length ts) top_type full_behind ts). stuck o.rest (o.value, read-phrase top_type (3 * length ts) ts o.value o.rest o.there)) (types-cases (3 * length ts) ts (omega arith) c)

types-goes : (ts rest : List Symbol) → (TopCrowds ts → ⊥) → TopEnds ts rest → TypesCrowd ts → TypesCrowd rest
types-goes ts rest none t c =
    ⊎_elim (λ (h : TopCrowds ts). absurd (none h))
    (λ (o : One (3 * length ts) top_type full_behind ts). subst (λ (zs : List Symbol). TypesCrowd zs) (done_rest o.value t.0 o.rest rest (sym o.there ∙ top-reads ts rest t)) o.holds) (types-cases (3 * length ts) ts (omega arith) c)

pub same-begins : (symbols ts : List Symbol) → ts ≡ symbols → TypesSame symbols ts
same-begins symbols ts e = subst (λ (zs : List Symbol). TypesSame symbols zs) (sym e) (omega arith, λ c. c, λ c. c)

pub same-full : (symbols ts : List Symbol) → TypesSame symbols ts → TopCrowds ts → TypesCrowd symbols
same-full symbols ts same c = same.2 (types-here ts c)

pub same-ended : (symbols ts : List Symbol) → TypesSame symbols ts → (TopCrowds ts → ⊥) × ((rest : List Symbol) → TopEnds ts rest → ⊥) → TypesCrowd symbols → ⊥
same-ended symbols ts same w c = types-stuck ts w.0 w.1 (same.1 c)

pub same-falls : (ts rest next : List Symbol) → next ≡ rest → (TopCrowds ts → ⊥) × TopEnds ts rest → length next < length ts
same-falls ts rest next e w = subst (λ (zs : List Symbol). length zs < length ts) (sym e) (passes-falls top_type top-never ts w.1.0 rest w.1.1)

pub same-goes : (symbols ts rest next : List Symbol) → TypesSame symbols ts → next ≡ rest → (TopCrowds ts → ⊥) × TopEnds ts rest → TypesSame symbols next
same-goes symbols ts rest next same e w =
    subst (λ (zs : List Symbol). TypesSame symbols zs) (sym e) (
      omega (arith, same.0, passes-falls top_type top-never ts w.1.0 rest w.1.1),
      λ c. types-goes ts rest w.0 w.1 (same.1 c),
      λ c. same.2 (types-later (3 * length ts) ts w.1.0 rest (top-reads ts rest w.1) c),
    )

-- ---- the whole file

pub no-package : (room : ℕ) (ts : List Symbol) → 3 * length ts ≤ room → ((p : Option NameAt) (mid : List Symbol) → reads room (maybe package_form) ts ≡ done p mid → ⊥) → IsCrowded ts → ⊥
no-package room ts fits none c = let o = crowded-goes room ts fits c in none o.home o.mid o.package_read

pub no-imports : (room : ℕ) (ts mid : List Symbol) (p : Option NameAt) → 3 * length ts ≤ room → reads room (maybe package_form) ts ≡ done p mid → ((is : List Import) (rest : List Symbol) → reads room (many import_form) mid ≡ done is rest → ⊥) → IsCrowded ts → ⊥
no-imports room ts mid p fits there none c =
    let o = crowded-goes room ts fits c in
    none o.imports o.rest (subst (λ (zs : List Symbol). reads room (many import_form) zs ≡ done o.imports o.rest) (done_rest o.home p o.mid mid (sym o.package_read ∙ there)) o.imports_read)

pub file-tells : (room : ℕ) (ts mid rest : List Symbol) (p : Option NameAt) (is : List Import) (r : Result Bool NoMemory) → 3 * length ts ≤ room → reads room (maybe package_form) ts ≡ done p mid → reads room (many import_form) mid ≡ done is rest
    → Tells (TypesCrowd rest) r → Tells (IsCrowded ts) r
file-tells room ts mid rest p is r fits e d t =
    tells-as (TypesCrowd rest) (IsCrowded ts) r (λ c. crowded-back room ts mid rest p is e d c) (λ c. opened-as room ts mid rest p is e d (crowded-goes room ts fits c)) t
