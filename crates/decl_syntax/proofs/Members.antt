-- The readers of members read their spellings.
use Rattle.std.proofs.Common.{◌≡◌, ℕ, Bool, true, false, ◌&&◌, List, ◌++◌, refl}
use Rattle.decl_tree.specs.declared.member.MethodDecl.{MethodDecl}
use Rattle.decl_syntax.specs.declared.member_reading.Heading.{Heading}
use Rattle.decl_syntax.specs.declared.member_reading.Signature.{Signature}
use Rattle.decl_syntax.specs.declared.member_reading.ConstructorHeading.{ConstructorHeading}
use Rattle.apt_base.specs.Forms.{name_form, u16_form, list_form, opt_form, is_name, all_fit, fits_if_some}
use Rattle.decl_syntax.specs.Shape.{type_form, annotation_form, type_param_form, param_form, field_form, method_form, constructor_form, constant_form}
use Rattle.decl_tree.specs.Legal.{is_modifiers, is_legal_type, is_legal_annotation, is_legal_type_param, is_legal_param, is_legal_field, is_legal_method, is_legal_constructor, is_legal_constant}
use Rattle.decl_syntax.specs.Reading.{modifiers_next, type_param_of, type_param_next, param_of, param_next, heading_of, heading_next, signature_of, signature_next, constructor_heading_of, constructor_heading_next, field_of, field_next, method_of, method_is_small, method_next, constructor_of, constructor_is_small, constructor_next, constant_of, constant_next}
use Rattle.std.proofs.lemmas.Bool.{ltb-true, lt-ltb}
use Rattle.std.proofs.Common.{ltb, arith}
use Rattle.decl_syntax.proofs.Types.{Reads-type_next}
use Rattle.decl_syntax.proofs.Values.{Reads-value_next, Reads-annotation_next}
use Rattle.apt_base.proofs.Readers.{Reads, Reads-text, Reads-u16, Reads-bool, and_reads, opt_reads, list_reads, check_reads, map_reads, same_reads}

-- a number of twelve bits is one of sixteen
smaller : (n : ℕ) → (ltb n 65536 && ltb n 4096) ≡ ltb n 4096
smaller n = small_at (ltb n 4096) refl
  where
    none : (b : Bool) → (b && false) ≡ false
    none true = refl
    none false = refl

    small_at : (b : Bool) → ltb n 4096 ≡ b → (ltb n 65536 && ltb n 4096) ≡ ltb n 4096
    small_at true e = rw (lt-ltb n 65536 (omega (arith, ltb-true n 4096 e))) refl
    small_at false e = rw e (none (ltb n 65536))

pub Reads-modifiers : Reads modifiers_next u16_form is_modifiers
Reads-modifiers = same_reads u16_form is_modifiers (λ n. refl) smaller (check_reads is_modifiers Reads-u16)

pub Reads-type_param : (room : ℕ) → Reads (type_param_next room) type_param_form (is_legal_type_param room)
unfolding type_param_next type_param_form is_legal_type_param
Reads-type_param room =
    same_reads type_param_form (is_legal_type_param room) (λ p. refl) (λ p. refl)
    (map_reads type_param_of (λ p. ((p.name, p.annotations), p.bounds)) (λ p. refl) (λ x. refl)
    (and_reads (and_reads Reads-text (list_reads (Reads-annotation_next room))) (list_reads (Reads-type_next room))))

pub Reads-param : (room : ℕ) → Reads (param_next room) param_form (is_legal_param room)
unfolding param_next param_form is_legal_param
Reads-param room =
    same_reads param_form (is_legal_param room) (λ p. refl) (λ p. refl)
    (map_reads param_of (λ p. (((p.name, p.modifiers), p.annotations), p.of)) (λ p. refl) (λ x. refl)
    (and_reads (and_reads (and_reads Reads-text Reads-modifiers) (list_reads (Reads-annotation_next room))) (Reads-type_next room)))

-- how a field or a method begins
abbrev heading_form : Heading → List ℕ
heading_form h = name_form h.name ++ u16_form h.modifiers ++ list_form annotation_form h.annotations ++ opt_form name_form h.doc

abbrev heading_fits : ℕ → Heading → Bool
heading_fits room h = is_name h.name && is_modifiers h.modifiers && all_fit (is_legal_annotation room) h.annotations && fits_if_some is_name h.doc

Reads-heading : (room : ℕ) → Reads (heading_next room) heading_form (heading_fits room)
unfolding heading_next
Reads-heading room =
    map_reads heading_of (λ h. (((h.name, h.modifiers), h.annotations), h.doc)) (λ h. refl) (λ x. refl)
    (and_reads (and_reads (and_reads Reads-text Reads-modifiers) (list_reads (Reads-annotation_next room))) (opt_reads Reads-text))

pub Reads-field : (room : ℕ) → Reads (field_next room) field_form (is_legal_field room)
unfolding field_next field_form is_legal_field
Reads-field room =
    same_reads field_form (is_legal_field room) (λ f. refl) (λ f. refl)
    (map_reads field_of (λ f. ((record { name = f.name; modifiers = f.modifiers; annotations = f.annotations; doc = f.doc }, f.of), f.constant)) (λ f. refl) (λ x. refl)
    (and_reads (and_reads (Reads-heading room) (Reads-type_next room)) (opt_reads (Reads-value_next room))))

abbrev signature_form : Signature → List ℕ
signature_form s = heading_form s.heading ++ list_form type_param_form s.parameters ++ type_form s.result

abbrev signature_fits : ℕ → Signature → Bool
signature_fits room s = heading_fits room s.heading && all_fit (is_legal_type_param room) s.parameters && is_legal_type room s.result

Reads-signature : (room : ℕ) → Reads (signature_next room) signature_form (signature_fits room)
unfolding signature_next
Reads-signature room =
    map_reads signature_of (λ s. ((s.heading, s.parameters), s.result)) (λ s. refl) (λ x. refl)
    (and_reads (and_reads (Reads-heading room) (list_reads (Reads-type_param room))) (Reads-type_next room))

abbrev signature_in : MethodDecl → Signature
signature_in m = record { heading = record { name = m.name; modifiers = m.modifiers; annotations = m.annotations; doc = m.doc }; parameters = m.parameters; result = m.result }

pub Reads-method : (room : ℕ) → Reads (method_next room) method_form (is_legal_method room)
unfolding method_next method_form is_legal_method
Reads-method room =
    same_reads method_form (is_legal_method room) (λ m. refl) (λ m. refl)
    (check_reads method_is_small
    (map_reads method_of (λ m. ((((signature_in m, m.arguments), m.varargs), m.thrown), m.default)) (λ m. refl) (λ x. refl)
    (and_reads (and_reads (and_reads (and_reads (Reads-signature room) (list_reads (Reads-param room))) Reads-bool) (list_reads (Reads-type_next room))) (opt_reads (Reads-value_next room)))))

abbrev constructor_heading_form : ConstructorHeading → List ℕ
constructor_heading_form h = u16_form h.modifiers ++ list_form annotation_form h.annotations ++ opt_form name_form h.doc ++ list_form type_param_form h.parameters

abbrev constructor_heading_fits : ℕ → ConstructorHeading → Bool
constructor_heading_fits room h = is_modifiers h.modifiers && all_fit (is_legal_annotation room) h.annotations && fits_if_some is_name h.doc && all_fit (is_legal_type_param room) h.parameters

Reads-constructor_heading : (room : ℕ) → Reads (constructor_heading_next room) constructor_heading_form (constructor_heading_fits room)
unfolding constructor_heading_next
Reads-constructor_heading room =
    map_reads constructor_heading_of (λ h. (((h.modifiers, h.annotations), h.doc), h.parameters)) (λ h. refl) (λ x. refl)
    (and_reads (and_reads (and_reads Reads-modifiers (list_reads (Reads-annotation_next room))) (opt_reads Reads-text)) (list_reads (Reads-type_param room)))

pub Reads-constructor : (room : ℕ) → Reads (constructor_next room) constructor_form (is_legal_constructor room)
unfolding constructor_next constructor_form is_legal_constructor
Reads-constructor room =
    same_reads constructor_form (is_legal_constructor room) (λ c. refl) (λ c. refl)
    (check_reads constructor_is_small
    (map_reads constructor_of (λ c. (((record { modifiers = c.modifiers; annotations = c.annotations; doc = c.doc; parameters = c.parameters }, c.arguments), c.varargs), c.thrown)) (λ c. refl) (λ x. refl)
    (and_reads (and_reads (and_reads (Reads-constructor_heading room) (list_reads (Reads-param room))) Reads-bool) (list_reads (Reads-type_next room)))))

pub Reads-constant : (room : ℕ) → Reads (constant_next room) constant_form (is_legal_constant room)
unfolding constant_next constant_form is_legal_constant
Reads-constant room =
    same_reads constant_form (is_legal_constant room) (λ c. refl) (λ c. refl)
    (map_reads constant_of (λ c. (((c.name, c.annotations), c.doc), c.body)) (λ c. refl) (λ x. refl)
    (and_reads (and_reads (and_reads Reads-text (list_reads (Reads-annotation_next room))) (opt_reads Reads-text)) Reads-bool))
