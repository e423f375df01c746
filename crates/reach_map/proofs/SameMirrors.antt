-- A type text means the same mirror where each front of each of its name chains means the same.
use Rattle.std.proofs.Common.{◌≡◌, ℕ, suc, ◌+◌, List, [], ◌∷◌, ◌++◌, length, take, map, Option, None, Some, is_some, ◌||◌, codes, if◌then◌else◌, refl, sym, ap, subst, ◌∙◌, append_assoc, arith}
use Rattle.std.specs.List.{AllByRecursion, join_with_byte}
use Rattle.decl_tree.specs.declared.type_text.TypeText.{TypeText, roll-TypeText}
use Rattle.decl_tree.specs.declared.type_text.BaseType.{BaseType, roll-BaseType}
use Rattle.decl_tree.specs.declared.type_text.BaseType.TheOpen.{BaseType-F, NamedPart-F, TypeText-F}
use Rattle.decl_tree.specs.declared.type_text.BaseType.TheFolds.{map-BaseType, map-NamedPart, map-TypeText, ind-TypeText}
use Rattle.decl_tree.specs.declared.type_text.NamedPart.{NamedPart, out-NamedPart, roll-NamedPart, roll-out-NamedPart}
use Rattle.type_mirror.specs.declared.mirror.Mirror.{Mirror}
use Rattle.name_resolve.specs.Finds.{Finds}
use Rattle.name_resolve.specs.Mirrors as means
use Rattle.name_resolve.specs.Mirrors.{Meant, MeantPart, Look, or_none, found_mirror, named_mirror, parts_mirror, meant, base_meant, part_meant}
use Rattle.name_resolve.proofs.MirrorsLemmas.{base-rolls, part-rolls, text-rolls}
use Rattle.reach_map.specs.Chains.{Chains, gathered, type_chains}
use Rattle.decl_elements.proofs.Everywhere.{each_of_map, each_of_flat_map}
use Rattle.reach_map.proofs.ChainsLemmas.{base_chains, part_chains, part_name-is, base_chains-roll, part_chains-roll, type_chains-roll}

-- the first names of a longer chain
front_of : (names : List (List ℕ)) (name : List ℕ) (more : List (List ℕ)) → take (length names + 1) (names ++ name ∷ more) ≡ names ++ name ∷ []
front_of [] name more = refl
front_of (first ∷ names) name more =
    let longer : suc (length names) + 1 ≡ suc (length names + 1) = omega arith in
    rw longer (ap (λ ns. first ∷ ns) (front_of names name more))

abbrev given : Mirror → List ℕ → Meant
given mirror text = record { mirror = mirror; text = text }

module _ (look other : Look) where
  -- these names mean the same as a whole name, and in front of another one
  abbrev pub SameNames : List (List ℕ) → Type 0
  SameNames names = (look.whole names ≡ other.whole names) × (look.front names ≡ other.front names)

  abbrev pub SameAt : List (List ℕ) → Type 0
  SameAt chain = (front : ℕ) → SameNames (take front chain)

  abbrev pub AllSame : Chains → Type 0
  AllSame chains = AllByRecursion SameAt chains

  -- ---- class types

  names_of : List MeantPart → List (List ℕ)
  names_of parts = map (λ (p : MeantPart). p.name) parts

  same_front : (names : List (List ℕ)) (name : List ℕ) (more : List (List ℕ)) → SameAt (names ++ name ∷ more) → SameNames (names ++ name ∷ [])
  same_front names name more same = subst SameNames (front_of names name more) (same (length names + 1))

  same_named : (names : List (List ℕ)) (text : List ℕ) (enclosing : Option Mirror) (part : MeantPart) (more : List MeantPart)
      → SameAt (names ++ part.name ∷ names_of more) → named_mirror look names text enclosing part more ≡ named_mirror other names text enclosing part more
  unfolding names_of
  same_named names text enclosing part [] same =
      ap (λ (f : Finds). found_mirror f (text ++ part.text) enclosing (or_none part.arguments)) (same_front names part.name [] same).0
  same_named names text enclosing part (next ∷ more) same =
      let longer : List (List ℕ) = names ++ part.name ∷ [] in
      let around : Finds → Option Mirror = λ f. if is_some enclosing || is_some part.arguments then Some (found_mirror f (text ++ part.text) enclosing (or_none part.arguments)) else None in
      ap (λ (f : Finds). named_mirror look longer (text ++ part.text ++ codes ".") (around f) next more) (same_front names part.name (next.name ∷ names_of more) same).1
      ∙ same_named longer (text ++ part.text ++ codes ".") (around (other.front longer)) next more
      (subst SameAt (sym (append_assoc names (part.name ∷ []) (next.name ∷ names_of more))) same)

  same_parts : (parts : List MeantPart) → SameAt (names_of parts) → parts_mirror look parts ≡ parts_mirror other parts
  unfolding names_of
  same_parts [] same = refl
  same_parts (part ∷ more) same = same_named [] [] None part more same

  -- ---- all types

  abbrev BaseSame : BaseType → Type 0
  BaseSame b = AllSame (base_chains b) → base_meant look b ≡ base_meant other b

  abbrev PartSame : NamedPart → Type 0
  PartSame p = AllSame (part_chains p).1 → part_meant look p ≡ part_meant other p

  abbrev TextSame : TypeText → Type 0
  TextSame t = AllSame (type_chains t) → meant look t ≡ meant other t

  abbrev KeptBase : Type 0
  KeptBase = (b : BaseType) × BaseSame b

  abbrev KeptPart : Type 0
  KeptPart = (p : NamedPart) × PartSame p

  abbrev Kept : Type 0
  Kept = (t : TypeText) × TextSame t

  abbrev base_layer : BaseType-F KeptBase KeptPart Kept → BaseType-F BaseType NamedPart TypeText
  base_layer = map-BaseType KeptBase KeptPart Kept BaseType NamedPart TypeText (λ e. e.0) (λ e. e.0) (λ e. e.0)

  abbrev part_layer : NamedPart-F KeptBase KeptPart Kept → NamedPart-F BaseType NamedPart TypeText
  part_layer = map-NamedPart KeptBase KeptPart Kept BaseType NamedPart TypeText (λ e. e.0) (λ e. e.0) (λ e. e.0)

  abbrev text_layer : TypeText-F KeptBase KeptPart Kept → TypeText-F BaseType NamedPart TypeText
  text_layer = map-TypeText KeptBase KeptPart Kept BaseType NamedPart TypeText (λ e. e.0) (λ e. e.0) (λ e. e.0)

  abbrev parts_of : List KeptPart → List NamedPart
  parts_of kept = map (λ k. k.0) kept

  abbrev texts_of : List Kept → List TypeText
  texts_of kept = map (λ k. k.0) kept

  each_part : (kept : List KeptPart) → AllByRecursion (λ p. AllSame (part_chains p).1) (parts_of kept) → map (part_meant look) (parts_of kept) ≡ map (part_meant other) (parts_of kept)
  each_part [] a = refl
  each_part (k ∷ ks) a = rw (k.1 a.0, each_part ks a.1) refl

  each_text : (kept : List Kept) → AllByRecursion (λ t. AllSame (type_chains t)) (texts_of kept) → map (meant look) (texts_of kept) ≡ map (meant other) (texts_of kept)
  each_text [] a = refl
  each_text (k ∷ ks) a = rw (k.1 a.0, each_text ks a.1) refl

  meant_name : (by : Look) (p : NamedPart) → (part_meant by p).name ≡ (part_chains p).0
  meant_name by p =
      ap (λ (q : NamedPart). (part_meant by q).name) (sym (roll-out-NamedPart p)) ∙ ap (λ (m : MeantPart). m.name) (part-rolls by (out-NamedPart p)) ∙ sym (part_name-is p)

  meant_names : (by : Look) (ps : List NamedPart) → names_of (map (part_meant by) ps) ≡ map (λ (p : List ℕ × Chains). p.0) (map part_chains ps)
  unfolding names_of
  meant_names by [] = refl
  meant_names by (p ∷ ps) = rw (meant_name by p, meant_names by ps) refl

  base_same : (y : BaseType-F KeptBase KeptPart Kept) → BaseSame (roll-BaseType (base_layer y))
  base_same (BaseType-F.Primitive kind) a = base-rolls look (BaseType-F.Primitive kind) ∙ sym (base-rolls other (BaseType-F.Primitive kind))
  base_same BaseType-F.Wildcard a = base-rolls look BaseType-F.Wildcard ∙ sym (base-rolls other BaseType-F.Wildcard)
  base_same (BaseType-F.Named kept) a =
      let ps = parts_of kept in
      let all = subst AllSame (base_chains-roll (BaseType-F.Named ps)) a in
      let same = each_part kept (each_of_map (λ c. AllSame c.1) part_chains ps (each_of_flat_map SameAt (λ p. p.1) (map part_chains ps) all.1)) in
      let named : SameAt (names_of (map (part_meant other) ps)) = subst SameAt (sym (meant_names other ps)) all.0 in
      base-rolls look (BaseType-F.Named ps)
      ∙ ap (λ (ms : List MeantPart). means.base_step look (BaseType-F.Named ms)) same
      ∙ ap (λ (m : Mirror). given m (join_with_byte 46 (map (λ (p : MeantPart). p.text) (map (part_meant other) ps)))) (same_parts (map (part_meant other) ps) named)
      ∙ sym (base-rolls other (BaseType-F.Named ps))

  part_same_with : (name : List ℕ) (arguments : Option (List Kept)) → PartSame (roll-NamedPart (part_layer (record { name = name; arguments = arguments })))
  part_same_with name None a = part-rolls look (record { name = name; arguments = None }) ∙ sym (part-rolls other (record { name = name; arguments = None }))
  part_same_with name (Some kept) a =
      let ts = texts_of kept in
      let x : NamedPart-F BaseType NamedPart TypeText = record { name = name; arguments = Some ts } in
      let all = subst (λ (c : List ℕ × Chains). AllSame c.1) (part_chains-roll x) a in
      let same = each_text kept (each_of_map AllSame type_chains ts (each_of_flat_map SameAt gathered (map type_chains ts) all)) in
      part-rolls look x ∙ ap (λ (ms : List Meant). means.part_step (record { name = name; arguments = Some ms })) same ∙ sym (part-rolls other x)

  part_same : (y : NamedPart-F KeptBase KeptPart Kept) → PartSame (roll-NamedPart (part_layer y))
  part_same y = part_same_with y.name y.arguments

  text_same : (y : TypeText-F KeptBase KeptPart Kept) → TextSame (roll-TypeText (text_layer y))
  text_same y a =
      let x = text_layer y in
      let all = subst AllSame (type_chains-roll x) a in
      text-rolls look x ∙ ap (λ (m : Meant). means.type_step (record { around = y.around; base = m })) (y.base.1 all) ∙ sym (text-rolls other x)

  -- each text whose chains mean the same
  pub same_mirror : (text : TypeText) → AllSame (type_chains text) → meant look text ≡ meant other text
  same_mirror = ind-TypeText BaseSame PartSame TextSame
      (λ x y same. subst (λ (x : BaseType-F BaseType NamedPart TypeText). BaseSame (roll-BaseType x)) same (base_same y))
      (λ x y same. subst (λ (x : NamedPart-F BaseType NamedPart TypeText). PartSame (roll-NamedPart x)) same (part_same y))
      (λ x y same. subst (λ (x : TypeText-F BaseType NamedPart TypeText). TextSame (roll-TypeText x)) same (text_same y))
