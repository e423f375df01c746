-- Behind the type and the name of a member: where a `(` stands it is a method.
use Rattle.std.proofs.Common.{◌≡◌, ℕ, Bool, true, cond, List, [], ◌∷◌, sym, ap, subst, ◌∙◌}
use Rattle.decl_tree.specs.declared.type_text.TypeText.{TypeText}
use Rattle.decl_grammar.specs.declared.written.NameAt.{NameAt}
use Rattle.decl_grammar.specs.declared.written.Signature.{Signature}
use Rattle.decl_grammar.specs.declared.written.MemberRest.{MemberRest}
use Rattle.decl_grammar.specs.declared.written.MemberRest.TheVariants as rest_kind
use Rattle.decl_grammar.specs.declared.symbol.Symbol.{Symbol}
use Rattle.decl_grammar.specs.Reading.{starts}
use Rattle.decl_grammar.specs.Form.{Form, first, turned}
use Rattle.decl_grammar.specs.Grammar.{method_named, fields_named, field_rest, member_rest, method_signature, element_signature}
use Rattle.decl_grammar.specs.Rule.{reads}
use Rattle.decl_types.specs.Members.{named_as, method_at, rest_at}
use Rattle.decl_types.proofs.MemberFirsts.{method_signature_first, element_signature_first}
use Rattle.decl_types.proofs.MemberFolds.{turned_twice}

method-there : (f : Form Signature) → first f ≡ 61 ∷ [] → (of : TypeText) (n : NameAt) (room : ℕ) (ts : List Symbol) → starts (61 ∷ []) ts ≡ true → turned (named_as of n) (reads room (member_rest f) ts) ≡ method_at of n room f ts
method-there f firsts of n room ts s =
    ap (λ (c : Bool). turned (named_as of n) (cond c (turned method_named (reads room f ts)) (turned fields_named (reads room field_rest ts)))) (ap (λ (ks : List ℕ). starts ks ts) firsts ∙ s)
    ∙ sym (turned_twice (named_as of n) method_named (reads room f ts))

pub any-method : (of : TypeText) (n : NameAt) (room : ℕ) (k : MemberRest) (ts : List Symbol) → k ≡ rest_kind.Any → starts (61 ∷ []) ts ≡ true → rest_at of n room k ts ≡ method_at of n room method_signature ts
any-method of n room k ts is s =
    subst (λ (m : MemberRest). rest_at of n room m ts ≡ method_at of n room method_signature ts) (sym is) (method-there method_signature method_signature_first of n room ts s)

pub element-method : (of : TypeText) (n : NameAt) (room : ℕ) (k : MemberRest) (ts : List Symbol) → k ≡ rest_kind.Element → starts (61 ∷ []) ts ≡ true → rest_at of n room k ts ≡ method_at of n room element_signature ts
element-method of n room k ts is s =
    subst (λ (m : MemberRest). rest_at of n room m ts ≡ method_at of n room element_signature ts) (sym is) (method-there element_signature element_signature_first of n room ts s)
