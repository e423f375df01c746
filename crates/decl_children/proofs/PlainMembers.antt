-- What a member that is no type comes to, by its fields and by what stands behind its modifiers.
use Rattle.std.proofs.Common.{◌≡◌, ℕ, ◌*◌, ◌≤◌, true, false, List, length, Result, Ok, Err, ◌∙◌, arith}
use Rattle.apt_base.specs.declared.memory.NoMemory.{NoMemory}
use Rattle.apt_base.specs.Limits.{max_children}
use Rattle.decl_tree.specs.declared.declaration.TypeKind.{TypeKind}
use Rattle.decl_grammar.specs.declared.symbol.Symbol.{Symbol}
use Rattle.decl_grammar.specs.declared.written.Modifiers.{Modifiers}
use Rattle.decl_grammar.specs.declared.written.Unmodified.{Unmodified}
use Rattle.decl_grammar.specs.Reading.{starts, done}
use Rattle.decl_grammar.specs.Form.{first_of, nested_type}
use Rattle.decl_grammar.specs.Types.{type_modifiers}
use Rattle.decl_grammar.specs.Rule.{reads}
use Rattle.decl_children.specs.Fronts.{Passes}
use Rattle.decl_children.specs.Results.{ExecutableCrowds}
use Rattle.decl_children.specs.TypeWalks.{Steps, unmodified_form}
use Rattle.decl_children.specs.Unmodifieds.{OwnBehind}
use Rattle.decl_children.specs.WalkSteps.{OneMore, NothingSteps, PlainSteps, FieldsOver}
use Rattle.decl_children.specs.declared.walks.Passed.{Passed}
use Rattle.decl_children.specs.declared.walks.Step.{Step}
use Rattle.decl_children.specs.declared.walks.Step.TheVariants as step
use Rattle.decl_children.proofs.ParamOnes.{reads-less}
use Rattle.decl_children.proofs.MemberWalks.{ends-member}
use Rattle.decl_children.proofs.WalkSteps.{steps-of}
use Rattle.decl_children.proofs.WalkTells.{plain-not, plain-declared}

none-own : (k : TypeKind) (rest : List Symbol) → ((u : Unmodified) (end : List Symbol) → Passes (unmodified_form k) rest u end → ⊥) → OwnBehind k rest → ⊥
none-own k rest none (us, vs, e, (u, is, lt)) = none u vs (us, e, is)

-- it is not whole
pub plain-ended : (k : TypeKind) (n room : ℕ) (ts rest : List Symbol) (m : Modifiers) (r : Result Step NoMemory) → n ≤ max_children → 3 * length ts ≤ room → (OneMore k n ts → ⊥) → reads room type_modifiers ts ≡ done m rest → starts (first_of nested_type) rest ≡ false
    → (ExecutableCrowds rest → ⊥) → (FieldsOver room n rest → ⊥) → ((u : Unmodified) (end : List Symbol) → Passes (unmodified_form k) rest u end → ⊥) → NothingSteps k ts r → Steps k n ts r
plain-ended k n room ts rest m r le fits one there s a f none steps =
    steps-of k n room ts r fits
    (plain-not k n room ts rest m le fits (omega (arith, fits, reads-less type_modifiers room ts m rest there)) one there s a f (λ o. none-own k rest none o))
    (plain-declared k room ts rest m there none) steps

-- it is this many members
pub plain-behind : (k : TypeKind) (n room : ℕ) (ts rest : List Symbol) (m : Modifiers) (p : Passed) → n ≤ max_children → 3 * length ts ≤ room → (OneMore k n ts → ⊥) → reads room type_modifiers ts ≡ done m rest → starts (first_of nested_type) rest ≡ false
    → (ExecutableCrowds rest → ⊥) → (FieldsOver room n rest → ⊥) → PlainSteps k rest (Ok (step.Behind p)) → Steps k n ts (Ok (step.Behind p))
plain-behind k n room ts rest m p le fits one there s a f (own, (u, whole, counts, constructs_it)) =
    let t = ends-member k room ts rest p.rest.now m u there whole in (
      plain-not k n room ts rest m le fits (omega (arith, fits, reads-less type_modifiers room ts m rest there)) one there s a f own,
      (t.items, t.there, counts ∙ t.are, constructs_it ∙ t.constructs_is),
    )
