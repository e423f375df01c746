-- The bare unit of a legal unit's package is legal.
use Rattle.std.proofs.Common.{◌≡◌, ℕ, Bool, true, false, ◌&&◌, List, [], None, refl}
use Rattle.apt_base.specs.Forms.{is_name, all_fit}
use Rattle.apt_base.specs.Limits.{max_depth}
use Rattle.decl_tree.specs.declared.annotation.AnnotationText.{AnnotationText}
use Rattle.decl_tree.specs.declared.compilation.Body.TheVariants.{Info}
use Rattle.decl_tree.specs.declared.compilation.Import.{Import}
use Rattle.decl_tree.specs.declared.compilation.UnitText.{UnitText}
use Rattle.decl_tree.specs.Legal.{is_legal, is_legal_body, is_legal_import, is_canonical, package_start}
use Rattle.name_resolve.specs.Placed.{bare_unit}

first_alone : (a b c d : Bool) → (a && b && c && d) ≡ true → (a && true && true && true) ≡ true
first_alone true b c d e = refl
first_alone false b c d e = absurd (cc)

bare-legal : (u : UnitText) → is_legal u ≡ true → is_legal (bare_unit u.«package») ≡ true
unfolding is_legal is_legal_body
bare-legal u e =
    first_alone (is_canonical 0 u.«package») (all_fit is_legal_import u.imports) (all_fit is_name u.siblings)
    (is_legal_body max_depth (package_start u.«package») u.body) e

-- the same by the parts of the bare unit
pub bare_parts-legal : (u : UnitText) (name : List ℕ) (imports : List Import) (siblings : List (List ℕ)) (annotations : List AnnotationText) → is_legal u ≡ true
    → name ≡ u.«package» → imports ≡ [] → siblings ≡ [] → annotations ≡ []
    → is_legal (record { «package» = name; imports = imports; siblings = siblings; body = Info annotations None }) ≡ true
bare_parts-legal u name imports siblings annotations e n i s a = rw (n, i, s, a) (bare-legal u e)
