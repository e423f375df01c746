-- The lines of the types of a file, one type more at a time.
use Rattle.std.proofs.Common.{◌≡◌, List, [], ◌∷◌, ◌++◌, Option, Some, None, refl, ap, ◌∙◌, append_assoc}
use Rattle.decl_grammar.specs.declared.written.Lines.{Lines}
use Rattle.decl_grammar.specs.declared.written.TypeAt.{TypeAt}
use Rattle.decl_limits.specs.Units.{lines_from}

lines-first : (x : Option TypeAt) (rest : List (Option TypeAt)) → lines_from (x ∷ []) ++ lines_from rest ≡ lines_from (x ∷ rest)
lines-first None rest = refl
lines-first (Some d) rest = refl

-- the lines so far and those to come are all of them, behind one type more too
pub lines-turn : (x : Option TypeAt) (rest : List (Option TypeAt)) (before after whole : List Lines) → before ++ lines_from (x ∷ rest) ≡ whole → after ≡ before ++ lines_from (x ∷ []) → after ++ lines_from rest ≡ whole
lines-turn x rest before after whole so_far next =
    ap (λ (ls : List Lines). ls ++ lines_from rest) next ∙ (append_assoc before (lines_from (x ∷ [])) (lines_from rest) ∙ (ap (λ (ls : List Lines). before ++ ls) (lines-first x rest) ∙ so_far))
