-- Where a variable stands several times in a list of replacements its first entry counts, so that the others may be left out.
use Rattle.std.proofs.Common.{◌≡◌, Bool, true, false, cond, ◌||◌, [], ◌∷◌, ◌++◌, find, unwrap_or, Option, Some, option_map, refl, sym, ap, append_assoc, append-nil, ◌∙◌}
use Rattle.apt_base.specs.Elements.{same_element}
use Rattle.apt_base.specs.declared.element.ElementRef.{ElementRef}
use Rattle.type_mirror.specs.declared.mirror.BaseMirror.TheVariants as base
use Rattle.type_mirror.specs.declared.mirror.BaseMirror.TheOpen.{BaseMirror-F}
use Rattle.type_mirror.specs.declared.mirror.BaseMirror.TheFolds.{fold-Mirror}
use Rattle.type_mirror.specs.declared.mirror.DeclaredMirror.{DeclaredMirror}
use Rattle.type_mirror.specs.declared.mirror.ExecutableMirror.{ExecutableMirror}
use Rattle.type_mirror.specs.declared.mirror.Mirror.{Mirror}
use Rattle.type_mirror.specs.Parts.{plain}
use Rattle.type_mirror.specs.Substitution.{Replacements, in_place, replaced_base, replaced_declared, replaced_executable, replaced_mirror, substituted}
use Rattle.type_mirror.proofs.Replacements.{same_element-true}
use Rattle.type_relations.specs.RawTypes.{has_entry, added, once_behind}

abbrev Entry : Type 0
Entry = ElementRef × Mirror

-- ---- the entry that is found

module _ (element : ElementRef) where
  abbrev is_for : Entry → Bool
  is_for pair = same_element pair.0 element

  abbrev found : Replacements → Option Entry
  found entries = find is_for entries

  -- an entry for another variable
  passed_over : (front : Replacements) (pair : Entry) (rest : Replacements) → is_for pair ≡ false → found (front ++ rest) ≡ found (front ++ pair ∷ rest)
  passed_over [] pair rest e = sym (ap (λ (b : Bool). cond b (Some pair) (found rest)) e)
  passed_over (first ∷ front) pair rest e = ap (λ (x : Option Entry). cond (is_for first) (Some first) x) (passed_over front pair rest e)

  by_test : (b : Bool) (first : Entry) (x y : Option Entry) → (b ≡ false → x ≡ y) → cond b (Some first) x ≡ cond b (Some first) y
  by_test true first x y h = refl
  by_test false first x y h = h refl

  there_at : (first : Entry) (front : Replacements) (pair : Entry) (rest : Replacements) (t : Bool) → same_element first.0 pair.0 ≡ t → (t || has_entry front pair.0) ≡ true
      → (has_entry front pair.0 ≡ true → found (front ++ rest) ≡ found (front ++ pair ∷ rest))
      → found (first ∷ (front ++ rest)) ≡ found (first ∷ (front ++ pair ∷ rest))
  there_at first front pair rest true same e inner =
      by_test (is_for first) first (found (front ++ rest)) (found (front ++ pair ∷ rest))
      (λ f. passed_over front pair rest (ap (λ (k : ElementRef). same_element k element) (sym (same_element-true first.0 pair.0 same)) ∙ f))
  there_at first front pair rest false same e inner = ap (λ (x : Option Entry). cond (is_for first) (Some first) x) (inner e)

  -- an entry for a variable that has one in front
  there : (front : Replacements) (pair : Entry) (rest : Replacements) → has_entry front pair.0 ≡ true → found (front ++ rest) ≡ found (front ++ pair ∷ rest)
  there [] pair rest e = absurd cc
  there (first ∷ front) pair rest e = there_at first front pair rest (same_element first.0 pair.0) refl e (there front pair rest)

  added_found : (front : Replacements) (pair : Entry) (more : Replacements) (b : Bool) → has_entry front pair.0 ≡ b
      → found (cond b front (front ++ pair ∷ []) ++ more) ≡ found (front ++ pair ∷ more)
  added_found front pair more true e = there front pair more e
  added_found front pair more false e = ap (λ (entries : Replacements). found entries) (append_assoc front (pair ∷ []) more)

  once_found : (front more : Replacements) → found (once_behind front more) ≡ found (front ++ more)
  once_found front [] = ap (λ (entries : Replacements). found entries) (sym (append-nil front))
  once_found front (pair ∷ more) = once_found (added front pair) more ∙ added_found front pair more (has_entry front pair.0) refl

once_in_place : (by : Replacements) (element : ElementRef) → in_place (once_behind [] by) element ≡ in_place by element
once_in_place by element =
    ap (λ (pair : Option Entry). unwrap_or (option_map (λ (p : Entry). p.1) pair) (plain (base.Variable element))) (once_found element [] by)

-- ---- types

module _ (by by' : Replacements) (alike : (element : ElementRef) → in_place by element ≡ in_place by' element) where
  bases_alike : (b : BaseMirror-F Mirror DeclaredMirror ExecutableMirror Mirror) → replaced_base by b ≡ replaced_base by' b
  bases_alike (BaseMirror-F.Variable element) = alike element
  bases_alike (BaseMirror-F.Primitive kind) = refl
  bases_alike (BaseMirror-F.Declared declared) = refl
  bases_alike (BaseMirror-F.Error text) = refl
  bases_alike BaseMirror-F.Wildcard = refl
  bases_alike (BaseMirror-F.Executable executable) = refl
  bases_alike BaseMirror-F.Nothing = refl
  bases_alike BaseMirror-F.Void = refl
  bases_alike BaseMirror-F.Null = refl
  bases_alike (BaseMirror-F.Package name) = refl

  all_bases_alike : replaced_base by ≡ replaced_base by'
  all_bases_alike = λ i b. bases_alike b i

  by_bases : (BaseMirror-F Mirror DeclaredMirror ExecutableMirror Mirror → Mirror) → Mirror → Mirror
  by_bases f = fold-Mirror Mirror DeclaredMirror ExecutableMirror Mirror f replaced_declared replaced_executable replaced_mirror

  -- what puts the same in the place of each variable is the same substitution
  types_alike : substituted by ≡ substituted by'
  unfolding substituted by_bases
  types_alike = ap by_bases all_bases_alike

pub first-counts : (by : Replacements) → substituted (once_behind [] by) ≡ substituted by
first-counts by = types_alike (once_behind [] by) by (once_in_place by)
