-- What a member that was made is: its own children, and whether it is a constructor.
use Rattle.std.proofs.Common.{◌≡◌, ℕ, ◌+◌, ◌||◌, Bool, true, false, List, [], ◌∷◌, map, length, Option, refl, sym, ap, ◌∙◌, arith}
use Rattle.std.proofs.lemmas.List.{length-map}
use Rattle.decl_tree.specs.Legal.{constructs}
use Rattle.decl_tree.specs.declared.member.ConstantDecl.{ConstantDecl}
use Rattle.decl_tree.specs.declared.declaration.Member.{Member, roll-Member, out-Member, out-roll-Member}
use Rattle.decl_tree.specs.declared.declaration.Member.TheOpen.{Member-F}
use Rattle.decl_tree.specs.declared.declaration.Member.TheVariants as member
use Rattle.decl_tree.specs.declared.declaration.TypeDecl.{TypeDecl}
use Rattle.decl_tree.specs.declared.member.ConstructorDecl.{ConstructorDecl}
use Rattle.decl_tree.specs.declared.member.FieldDecl.{FieldDecl}
use Rattle.decl_tree.specs.declared.member.MethodDecl.{MethodDecl}
use Rattle.decl_tree.specs.declared.type_text.TypeText.{TypeText}
use Rattle.decl_grammar.specs.declared.written.Declarator.{Declarator}
use Rattle.decl_grammar.specs.declared.written.MemberAt.{MemberAt}
use Rattle.decl_grammar.specs.declared.written.Modifiers.{Modifiers}
use Rattle.decl_grammar.specs.declared.written.NameAt.{NameAt}
use Rattle.decl_grammar.specs.declared.written.ParamAt.{ParamAt}
use Rattle.decl_grammar.specs.declared.written.Signature.{Signature}
use Rattle.decl_grammar.specs.declared.written.TypeParamAt.{TypeParamAt}
use Rattle.decl_grammar.specs.declared.written.TypeRest.{TypeRest}
use Rattle.decl_grammar.specs.Grammar.{ConstantPart, constant_of, constructor_of, declaration_of, doc_of, field_of, in_dims, method_of, plain_params, plain_type_params, type_lines, member_at}
use Rattle.decl_limits.specs.Children.{own_children, member_children}
use Rattle.decl_children.specs.TypeWalks.{has_constructor}

shows : {A : Type 0} (f : Member-F Member TypeDecl → A) (x : Member-F Member TypeDecl) (m : Member) → roll-Member x ≡ m → f (out-Member m) ≡ f x
shows f x m rolls = ap (λ y. f (out-Member y)) (sym rolls) ∙ ap f (out-roll-Member x)

-- ---- fields

abbrev the_field : Option (List ℕ) → Modifiers → TypeText → Declarator → FieldDecl
the_field doc m of d = record { name = d.name.name; modifiers = m.bits; annotations = m.annotations; doc = doc; of = in_dims d.dims of; constant = d.constant }

pub field-own : (doc : Option (List ℕ)) (m : Modifiers) (of : TypeText) (d : Declarator) → member_children (field_of doc m of d) ≡ 0
field-own doc m of d = shows own_children (Member-F.Field (the_field doc m of d)) (field_of doc m of d).member (member.rolls-Field (the_field doc m of d))

pub fields-construct : (doc : Option (List ℕ)) (m : Modifiers) (of : TypeText) (ds : List Declarator) → has_constructor (map (field_of doc m of) ds) ≡ false
fields-construct doc m of [] = refl
fields-construct doc m of (d ∷ ds) =
    ap (λ (b : Bool). b || has_constructor (map (field_of doc m of) ds)) (shows constructs (Member-F.Field (the_field doc m of d)) (field_of doc m of d).member (member.rolls-Field (the_field doc m of d)))
    ∙ fields-construct doc m of ds

-- ---- methods and constructors

params-length : (ps : List TypeParamAt) (args : List ParamAt) → length (plain_type_params ps) + length (plain_params args) ≡ length ps + length args
params-length ps args = omega (arith, length-map ps (λ (p : TypeParamAt). p.param), length-map args (λ (p : ParamAt). p.param))

abbrev the_method : Option (List ℕ) → Modifiers → List TypeParamAt → TypeText → NameAt → Signature → MethodDecl
the_method doc m ps of n s = record {
  name = n.name;
  modifiers = m.bits;
  annotations = m.annotations;
  doc = doc;
  parameters = plain_type_params ps;
  result = in_dims s.dims of;
  arguments = plain_params s.params.params;
  varargs = s.params.varargs;
  thrown = s.thrown;
  default = s.default;
}

pub method-own : (doc : Option (List ℕ)) (m : Modifiers) (ps : List TypeParamAt) (of : TypeText) (n : NameAt) (s : Signature) → member_children (method_of doc m ps of n s) ≡ length ps + length s.params.params
method-own doc m ps of n s =
    shows own_children (Member-F.Method (the_method doc m ps of n s)) (method_of doc m ps of n s).member (member.rolls-Method (the_method doc m ps of n s)) ∙ params-length ps s.params.params

pub method-constructs : (doc : Option (List ℕ)) (m : Modifiers) (ps : List TypeParamAt) (of : TypeText) (n : NameAt) (s : Signature) → has_constructor (method_of doc m ps of n s ∷ []) ≡ false
method-constructs doc m ps of n s =
    ap (λ (b : Bool). b || false) (shows constructs (Member-F.Method (the_method doc m ps of n s)) (method_of doc m ps of n s).member (member.rolls-Method (the_method doc m ps of n s)))

abbrev the_constructor : Option (List ℕ) → Modifiers → List TypeParamAt → Signature → ConstructorDecl
the_constructor doc m ps s = record {
  modifiers = m.bits;
  annotations = m.annotations;
  doc = doc;
  parameters = plain_type_params ps;
  arguments = plain_params s.params.params;
  varargs = s.params.varargs;
  thrown = s.thrown;
}

pub constructor-own : (doc : Option (List ℕ)) (m : Modifiers) (line : ℕ) (ps : List TypeParamAt) (s : Signature) → member_children (constructor_of doc m line ps s) ≡ length ps + length s.params.params
constructor-own doc m line ps s =
    shows own_children (Member-F.Constructor (the_constructor doc m ps s)) (constructor_of doc m line ps s).member (member.rolls-Constructor (the_constructor doc m ps s)) ∙ params-length ps s.params.params

pub constructor-constructs : (doc : Option (List ℕ)) (m : Modifiers) (line : ℕ) (ps : List TypeParamAt) (s : Signature) → has_constructor (constructor_of doc m line ps s ∷ []) ≡ true
constructor-constructs doc m line ps s =
    ap (λ (b : Bool). b || false) (shows constructs (Member-F.Constructor (the_constructor doc m ps s)) (constructor_of doc m line ps s).member (member.rolls-Constructor (the_constructor doc m ps s)))

-- ---- types and constants

pub nested-own : (doc : Option (List ℕ)) (m : Modifiers) (rest : TypeRest) → member_children (member_at (member.Nested (declaration_of doc m rest)) (type_lines rest)) ≡ 0
nested-own doc m rest = shows own_children (Member-F.Nested (declaration_of doc m rest)) (member.Nested (declaration_of doc m rest)) (member.rolls-Nested (declaration_of doc m rest))

pub nested-constructs : (doc : Option (List ℕ)) (m : Modifiers) (rest : TypeRest) → has_constructor (member_at (member.Nested (declaration_of doc m rest)) (type_lines rest) ∷ []) ≡ false
nested-constructs doc m rest =
    ap (λ (b : Bool). b || false) (shows constructs (Member-F.Nested (declaration_of doc m rest)) (member.Nested (declaration_of doc m rest)) (member.rolls-Nested (declaration_of doc m rest)))

abbrev the_constant : Option (List ℕ) × ConstantPart → ConstantDecl
the_constant x = record { name = x.1.1.0.name; annotations = x.1.0; doc = doc_of x.0; body = x.1.1.1 }

pub constant-constructs : (x : Option (List ℕ) × ConstantPart) (ms : List MemberAt) → has_constructor (constant_of x ∷ ms) ≡ has_constructor ms
constant-constructs x ms = ap (λ (b : Bool). b || has_constructor ms) (shows constructs (Member-F.Constant (the_constant x)) (constant_of x).member (member.rolls-Constant (the_constant x)))
