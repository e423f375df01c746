-- The units of types, one type more at a time.
use Rattle.std.proofs.Common.{◌≡◌, ℕ, List, [], ◌∷◌, ◌++◌, Option, Some, None, refl, ap, ◌∙◌, append_assoc}
use Rattle.decl_grammar.specs.declared.written.TypeAt.{TypeAt}
use Rattle.decl_tree.specs.declared.compilation.Import.{Import}
use Rattle.decl_tree.specs.declared.compilation.UnitText.{UnitText}
use Rattle.decl_limits.specs.Units.{units_from}
use Rattle.decl_parser.specs.Parsed.{UnitsLegal, UnitLegal}

units-first : (p : List ℕ) (is : List Import) (ns : List (List ℕ)) (x : Option TypeAt) (rest : List (Option TypeAt)) → units_from p is ns (x ∷ []) ++ units_from p is ns rest ≡ units_from p is ns (x ∷ rest)
units-first p is ns None rest = refl
units-first p is ns (Some d) rest = refl

-- the units so far and those to come are all of them, behind one type more too
pub units-turn : (p : List ℕ) (is : List Import) (ns : List (List ℕ)) (x : Option TypeAt) (rest : List (Option TypeAt)) (before after whole : List UnitText) → before ++ units_from p is ns (x ∷ rest) ≡ whole → after ≡ before ++ units_from p is ns (x ∷ [])
    → after ++ units_from p is ns rest ≡ whole
units-turn p is ns x rest before after whole so_far next =
    ap (λ (us : List UnitText). us ++ units_from p is ns rest) next
    ∙ (append_assoc before (units_from p is ns (x ∷ [])) (units_from p is ns rest) ∙ (ap (λ (us : List UnitText). before ++ us) (units-first p is ns x rest) ∙ so_far))

-- where all units are legal, so is that of the first type, and so are the others
pub first-legal : (p : List ℕ) (is : List Import) (ns : List (List ℕ)) (x : Option TypeAt) (rest : List (Option TypeAt)) → UnitsLegal p is ns (x ∷ rest) → UnitLegal p is ns x
first-legal p is ns None rest legal = tt
first-legal p is ns (Some d) rest legal = (legal.0, tt)

pub rest-legal : (p : List ℕ) (is : List Import) (ns : List (List ℕ)) (x : Option TypeAt) (rest : List (Option TypeAt)) → UnitsLegal p is ns (x ∷ rest) → UnitsLegal p is ns rest
rest-legal p is ns None rest legal = legal
rest-legal p is ns (Some d) rest legal = legal.1
