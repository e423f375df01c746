-- A type has the `}` that closes it, and a separator for each of its type parameters but the first one.
use Rattle.std.proofs.Common.{ℕ, zero, suc, List, [], ◌∷◌, refl, ap, arith}
use Rattle.decl_tree.specs.declared.declaration.TypeKind.{TypeKind}
use Rattle.decl_tree.specs.declared.declaration.TypeKind.TheVariants as kind
use Rattle.decl_grammar.specs.declared.symbol.Symbol.{Symbol}
use Rattle.decl_grammar.specs.declared.written.TypeRest.{TypeRest}
use Rattle.decl_grammar.specs.Symbols.{at_interface}
use Rattle.decl_grammar.specs.TokenNames as token
use Rattle.decl_grammar.specs.Form.{nested_type, terminal, pair, turn, many, nest, Is}
use Rattle.decl_grammar.specs.Types.{keyword, sign, before, name_at}
use Rattle.decl_grammar.specs.Grammar.{constants, enum_members, joined_lists, member_form, members_in, superclass, implemented, extended, class_form, interface_form, annotation_form, enum_form, type_rest}
use Rattle.decl_grammar.specs.Rule.{WholeAt}
use Rattle.decl_limits.proofs.Scans.{Adds, adds-less}
use Rattle.decl_limits.proofs.EvenForms.{even, members-close}
use Rattle.decl_limits.proofs.Counted.{AtLeast, at-least, none, weaker, in-braced, in-pair, in-behind, in-either, nest-zero, nest-suc}
use Rattle.decl_limits.proofs.FewParams.{further, optional-least}

members-closed : (h : ℕ) (k : TypeKind) → AtLeast h (members_in k) (λ ms. 1)
members-closed h k = in-braced h (before (turn joined_lists (many (member_form k))) (sign token.close_brace)) (members-close k)

abbrev pub closed : TypeRest → ℕ
closed x = suc (further x.parameters)

class-added : (h : ℕ) (ts : List Symbol) (x : TypeRest) → Is (WholeAt h) class_form ts x → Adds ts (closed x)
unfolding class_form
class-added h ts x is =
    let heading = in-pair (none h superclass even.superclass_even) (in-pair (none h implemented even.implemented_even) (members-closed h kind.Class)) in
    let p = in-behind 0 (none h (keyword token.class) refl) (in-pair (none h name_at even.name_at_even) (in-pair (optional-least h) heading)) in
    adds-less (p.added ts is.0 is.1) (omega (arith, ap closed is.2))

interface-added : (h : ℕ) (ts : List Symbol) (x : TypeRest) → Is (WholeAt h) interface_form ts x → Adds ts (closed x)
unfolding interface_form
interface-added h ts x is =
    let heading = in-pair (none h extended even.extended_even) (members-closed h kind.Interface) in
    let p = in-behind 0 (none h (keyword token.interface) refl) (in-pair (none h name_at even.name_at_even) (in-pair (optional-least h) heading)) in
    adds-less (p.added ts is.0 is.1) (omega (arith, ap closed is.2))

annotation-added : (h : ℕ) (ts : List Symbol) (x : TypeRest) → Is (WholeAt h) annotation_form ts x → Adds ts (closed x)
unfolding annotation_form
annotation-added h ts x is =
    let named = in-pair (none h name_at even.name_at_even) (members-closed h kind.AnnotationType) in
    let p = in-behind 0 (none h (terminal (at_interface ∷ [])) refl) (in-behind 0 (none h (keyword token.interface) refl) named) in
    adds-less (p.added ts is.0 is.1) (omega (arith, ap closed is.2))

enum-added : (h : ℕ) (ts : List Symbol) (x : TypeRest) → Is (WholeAt h) enum_form ts x → Adds ts (closed x)
unfolding enum_form
enum-added h ts x is =
    let braced = in-braced h (pair constants (before enum_members (sign token.close_brace))) even.enum_closes in
    let p = in-behind 0 (none h (keyword token.enum) refl) (in-pair (none h name_at even.name_at_even) (in-pair (none h implemented even.implemented_even) braced)) in
    adds-less (p.added ts is.0 is.1) (omega (arith, ap closed is.2))

pub rest-closed : (h : ℕ) → AtLeast h type_rest closed
unfolding type_rest
rest-closed h = in-either (at-least (class-added h)) (in-either (at-least (interface-added h)) (in-either (at-least (annotation-added h)) (at-least (enum-added h))))

pub type-closed : (h : ℕ) → AtLeast h (nest nested_type) (λ x. 1)
type-closed zero = nest-zero nested_type (λ x. 1)
type-closed (suc h) = nest-suc h nested_type (λ x. 1) (weaker (λ x. 1) (rest-closed h) (λ x. omega arith))
