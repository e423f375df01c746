-- The place of a symbol in a file.
use Rattle.std.proofs.Common.{◌≡◌, ℕ, List, [], ◌∷◌, ◌++◌, Option, length, refl, ap, ◌∙◌}
use Rattle.std.specs.Prelude.{slice_get}
use Rattle.std.specs.Option.{option_map_or}
use Rattle.decl_grammar.specs.declared.symbol.Symbol.{Symbol}
use Rattle.decl_grammar.specs.Form.{Form}
use Rattle.decl_parser.specs.Parsed.{offset_at, HasFaultAt}

get-moved : (us at : List Symbol) → slice_get (us ++ at) (length us) ≡ slice_get at 0
get-moved [] at = refl
get-moved (u ∷ us) at = get-moved us at

-- the symbol with the number of those before it is the first of the others
pub place-there : {A : Type 0} (f : Form A) (n place end : ℕ) (ts : List Symbol) (w : HasFaultAt f n ts) → place ≡ offset_at n ts end → place ≡ offset_at 0 w.1 end
place-there f n place end ts w is =
    is ∙ (ap (λ (k : ℕ). offset_at k ts end) w.2 ∙ (ap (λ (ss : List Symbol). offset_at (length w.0) ss end) w.3.parts ∙ ap (λ (o : Option Symbol). option_map_or (λ s. s.start) o end) (get-moved w.0 w.1)))
