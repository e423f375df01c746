-- What a member gives is legal, from what stands behind its modifiers: its fields, its method or its constructor.
use Rattle.std.proofs.Common.{◌≡◌, ◌+◌, ◌≤◌, ℕ, zero, suc, Bool, true, List, [], ◌∷◌, ◌++◌, length, map, Option, refl, sym, ap, ◌∙◌, arith}
use Rattle.std.specs.List.{list_all}
use Rattle.std.proofs.lemmas.Bool.{lt-ltb, le-leb}
use Rattle.std.proofs.lemmas.List.{length-map}
use Rattle.apt_base.specs.Forms.{is_name, all_fit, fits_if_some}
use Rattle.decl_tree.specs.Legal.{is_legal_type, is_legal_value, is_legal_annotation, is_legal_type_param, is_legal_param, is_legal_field, is_legal_method, is_legal_constructor, member_fits, inside_declaration}
use Rattle.decl_tree.specs.declared.declaration.Member.{Member, roll-Member, out-Member, out-roll-Member}
use Rattle.decl_tree.specs.declared.declaration.Member.TheOpen.{Member-F}
use Rattle.decl_tree.specs.declared.declaration.Member.TheVariants as member
use Rattle.decl_tree.specs.declared.declaration.TypeDecl.{TypeDecl}
use Rattle.decl_tree.specs.declared.member.ConstructorDecl.{ConstructorDecl}
use Rattle.decl_tree.specs.declared.member.FieldDecl.{FieldDecl}
use Rattle.decl_tree.specs.declared.member.MethodDecl.{MethodDecl}
use Rattle.decl_tree.specs.declared.annotation.AnnotationText.{AnnotationText}
use Rattle.apt_base.specs.declared.around.Around.{Around}
use Rattle.apt_base.specs.Limits.{max_children}
use Rattle.decl_tree.specs.declared.type_text.TypeText.{TypeText, out-TypeText}
use Rattle.decl_grammar.specs.declared.symbol.Symbol.{Symbol}
use Rattle.decl_grammar.specs.declared.written.Declarator.{Declarator}
use Rattle.decl_grammar.specs.declared.written.MemberAt.{MemberAt}
use Rattle.decl_grammar.specs.declared.written.Modifiers.{Modifiers}
use Rattle.decl_grammar.specs.declared.written.NameAt.{NameAt}
use Rattle.decl_grammar.specs.declared.written.ParamAt.{ParamAt}
use Rattle.decl_grammar.specs.declared.written.Signature.{Signature}
use Rattle.decl_grammar.specs.declared.written.TypeParamAt.{TypeParamAt}
use Rattle.decl_grammar.specs.declared.written.Unmodified.{Unmodified}
use Rattle.decl_grammar.specs.declared.written.Unmodified.TheVariants as unmodified
use Rattle.decl_grammar.specs.Grammar.{in_dims, plain_type_params, plain_params, field_of, method_of, constructor_of, members_with}
use Rattle.decl_grammar.proofs.OneToken.{both}
use Rattle.decl_limits.specs.Children.{member_children}
use Rattle.decl_limits.proofs.FewMembers.{own-is}
use Rattle.decl_limits.proofs.LegalTexts.{and-true}
use Rattle.decl_limits.proofs.LegalRooms.{fit-up, annotation-up}
use Rattle.decl_limits.proofs.LegalTypes.{TypeFits, type-of-legal, type-legal}
use Rattle.decl_limits.proofs.LegalRows.{declarator_fits}
use Rattle.decl_limits.proofs.LegalParams.{Modified}
use Rattle.decl_limits.proofs.LegalMembers.{UnmodifiedFits}

-- ---- what is said of members

-- a member of a type whose canonical name has this many bytes, in a declaration with this much room
abbrev pub member_test : ℕ → ℕ → MemberAt → Bool
member_test room start x = member_fits room (inside_declaration room (start + 1)) (out-Member x.member)

-- a member that is given alone has a child list that is short enough
abbrev pub SingleFew : List MemberAt → Type 0
SingleFew ms = (m : MemberAt) → ms ≡ m ∷ [] → member_children m ≤ max_children

-- modifiers are read where one less may be open
abbrev pub below : ℕ → ℕ
below zero = zero
below (suc room) = room

annotations-up : (room : ℕ) (xs : List AnnotationText) → all_fit (is_legal_annotation (below room)) xs ≡ true → all_fit (is_legal_annotation room) xs ≡ true
annotations-up zero xs e = e
annotations-up (suc room) xs e = fit-up (is_legal_annotation room) (is_legal_annotation (suc room)) (annotation-up room) xs e

modified-up : (room : ℕ) (m : Modifiers) → Modified (below room) m → Modified room m
modified-up room m p = (p.0, annotations-up room m.annotations p.1)

pub test-is : (room start : ℕ) (y : Member-F Member TypeDecl) (x : MemberAt) → roll-Member y ≡ x.member → member_fits room (inside_declaration room (start + 1)) y ≡ true → member_test room start x ≡ true
test-is room start y x rolls fit =
    ap (λ m. member_fits room (inside_declaration room (start + 1)) (out-Member m)) (sym rolls) ∙ (ap (member_fits room (inside_declaration room (start + 1))) (out-roll-Member y) ∙ fit)

pub mapped-all : {A B : Type 0} (fits : B → Bool) (k : A → B) (xs : List A) → list_all (λ x. fits (k x)) xs ≡ true → list_all fits (map k xs) ≡ true
mapped-all fits k [] e = refl
mapped-all fits k (x ∷ xs) e = let z = both (fits (k x)) (list_all (λ y. fits (k y)) xs) e in and-true z.0 (mapped-all fits k xs z.1)

-- a list of so few items
pub few-fit : {A B : Type 0} (fits : B → Bool) (k : A → B) (xs : List A) → length xs ≤ max_children → list_all (λ x. fits (k x)) xs ≡ true → all_fit fits (map k xs) ≡ true
few-fit fits k xs few e = and-true (lt-ltb _ _ (omega (arith, few, length-map xs k))) (mapped-all fits k xs e)

-- ---- fields

in-dims-legal : (room : ℕ) (ds : List Around) (of : TypeText) → TypeFits room of → is_legal_type room (in_dims ds of) ≡ true
in-dims-legal room ds of fit = type-legal room (in_dims ds of) (type-of-legal room (out-TypeText of).base (ds ++ (out-TypeText of).around) fit)

field-legal : (room start : ℕ) (doc : Option (List ℕ)) (m : Modifiers) (of : TypeText) (d : Declarator) → fits_if_some is_name doc ≡ true → Modified room m → TypeFits room of → declarator_fits room d ≡ true → member_test room start (field_of doc m of d) ≡ true
unfolding is_legal_field
field-legal room start doc m of d p q r e =
    let z = both (is_name d.name.name) (fits_if_some (is_legal_value room) d.constant) e in
    let field : FieldDecl = record { name = d.name.name; modifiers = m.bits; annotations = m.annotations; doc = doc; of = in_dims d.dims of; constant = d.constant } in
    test-is room start (Member-F.Field field) (field_of doc m of d) (member.rolls-Field field)
    (and-true (and-true (and-true (and-true (and-true z.0 q.0) q.1) p) (in-dims-legal room d.dims of r)) z.1)

fields-legal : (room start : ℕ) (doc : Option (List ℕ)) (m : Modifiers) (of : TypeText) (ds : List Declarator) → fits_if_some is_name doc ≡ true → Modified room m → TypeFits room of → list_all (declarator_fits room) ds ≡ true
    → list_all (member_test room start) (map (field_of doc m of) ds) ≡ true
fields-legal room start doc m of [] p q r e = refl
fields-legal room start doc m of (d ∷ ds) p q r e =
    let z = both (declarator_fits room d) (list_all (declarator_fits room) ds) e in
    and-true (field-legal room start doc m of d p q r z.0) (fields-legal room start doc m of ds p q r z.1)

-- ---- methods and constructors

method-legal : (room start : ℕ) (doc : Option (List ℕ)) (m : Modifiers) (ps : List TypeParamAt) (of : TypeText) (n : NameAt) (s : Signature) (ts : List Symbol) → fits_if_some is_name doc ≡ true → Modified room m
    → UnmodifiedFits room ts (unmodified.Method ps of n s) → member_children (method_of doc m ps of n s) ≤ max_children → member_test room start (method_of doc m ps of n s) ≡ true
unfolding is_legal_method
method-legal room start doc m ps of n s ts p q u few =
    let method : MethodDecl = record {
      name = n.name;
      modifiers = m.bits;
      annotations = m.annotations;
      doc = doc;
      parameters = plain_type_params ps;
      result = in_dims s.dims of;
      arguments = plain_params s.params.params;
      varargs = s.params.varargs;
      thrown = s.thrown;
      default = s.default;
    } in
    let own = own-is (Member-F.Method method) (method_of doc m ps of n s).member (member.rolls-Method method) in
    let params_few : length ps ≤ max_children = omega (arith, own, few, length-map ps (λ (x : TypeParamAt). x.param), length-map s.params.params (λ (x : ParamAt). x.param)) in
    let arguments_few : length s.params.params ≤ max_children = omega (arith, own, few, length-map ps (λ (x : TypeParamAt). x.param), length-map s.params.params (λ (x : ParamAt). x.param)) in
    let params_fit = few-fit (is_legal_type_param room) (λ (x : TypeParamAt). x.param) ps params_few u.0 in
    let arguments_fit = few-fit (is_legal_param room) (λ (x : ParamAt). x.param) s.params.params arguments_few u.1.1.1.0 in
    let begun = and-true (and-true (and-true (and-true u.1.1.0 q.0) q.1) p) params_fit in
    let middle = and-true (and-true (and-true begun (in-dims-legal room s.dims of u.1.0)) arguments_fit) refl in
    test-is room start (Member-F.Method method) (method_of doc m ps of n s) (member.rolls-Method method)
    (and-true (and-true (and-true middle u.1.1.1.1.0) u.1.1.1.1.1) (le-leb (length (plain_type_params ps) + length (plain_params s.params.params)) max_children (omega (arith, own, few))))

constructor-legal : (room start : ℕ) (doc : Option (List ℕ)) (m : Modifiers) (line : ℕ) (ps : List TypeParamAt) (s : Signature) (ts : List Symbol) → fits_if_some is_name doc ≡ true → Modified room m
    → UnmodifiedFits room ts (unmodified.Constructor line ps s) → member_children (constructor_of doc m line ps s) ≤ max_children → member_test room start (constructor_of doc m line ps s) ≡ true
unfolding is_legal_constructor
constructor-legal room start doc m line ps s ts p q u few =
    let constructor : ConstructorDecl = record {
      modifiers = m.bits;
      annotations = m.annotations;
      doc = doc;
      parameters = plain_type_params ps;
      arguments = plain_params s.params.params;
      varargs = s.params.varargs;
      thrown = s.thrown;
    } in
    let own = own-is (Member-F.Constructor constructor) (constructor_of doc m line ps s).member (member.rolls-Constructor constructor) in
    let params_few : length ps ≤ max_children = omega (arith, own, few, length-map ps (λ (x : TypeParamAt). x.param), length-map s.params.params (λ (x : ParamAt). x.param)) in
    let arguments_few : length s.params.params ≤ max_children = omega (arith, own, few, length-map ps (λ (x : TypeParamAt). x.param), length-map s.params.params (λ (x : ParamAt). x.param)) in
    let params_fit = few-fit (is_legal_type_param room) (λ (x : TypeParamAt). x.param) ps params_few u.0 in
    let arguments_fit = few-fit (is_legal_param room) (λ (x : ParamAt). x.param) s.params.params arguments_few u.1.0 in
    test-is room start (Member-F.Constructor constructor) (constructor_of doc m line ps s) (member.rolls-Constructor constructor)
    (and-true (and-true (and-true (and-true (and-true (and-true (and-true q.0 q.1) p) params_fit) arguments_fit) refl) u.1.1.0)
    (le-leb (length (plain_type_params ps) + length (plain_params s.params.params)) max_children (omega (arith, own, few))))

-- ---- all that is no type

pub items-legal : (room start : ℕ) (doc : Option (List ℕ)) (m : Modifiers) (u : Unmodified) (ts : List Symbol) → fits_if_some is_name doc ≡ true → Modified (below room) m → UnmodifiedFits room ts u → SingleFew (members_with doc m u)
    → list_all (member_test room start) (members_with doc m u) ≡ true
items-legal room start doc m unmodified.Nothing ts p q fit few = refl
items-legal room start doc m (unmodified.Fields of ds) ts p q fit few = fields-legal room start doc m of ds p (modified-up room m q) fit.0 fit.1
items-legal room start doc m (unmodified.Method ps of n s) ts p q fit few =
    and-true (method-legal room start doc m ps of n s ts p (modified-up room m q) fit (few (method_of doc m ps of n s) refl)) refl
items-legal room start doc m (unmodified.Constructor line ps s) ts p q fit few =
    and-true (constructor-legal room start doc m line ps s ts p (modified-up room m q) fit (few (constructor_of doc m line ps s) refl)) refl
items-legal room start doc m (unmodified.Nested rest) ts p q fit few = absurd fit
