-- Annotations and declarations of types are equal where their parts are.
use Rattle.std.proofs.Common.{◌≡◌, ◌↔◌, IsTrue, ℕ, Bool, List, Option, sym, ap, ◌∙◌}
use Rattle.decl_tree.specs.declared.type_text.TypeText.{TypeText}
use Rattle.decl_tree.specs.declared.annotation.AnnotationText.{AnnotationText, roll-AnnotationText, out-AnnotationText, roll-out-AnnotationText}
use Rattle.decl_tree.specs.declared.annotation.ElementValuePair.{ElementValuePair}
use Rattle.decl_tree.specs.declared.member.TypeParam.{TypeParam}
use Rattle.decl_tree.specs.declared.declaration.TypeKind.{TypeKind}
use Rattle.decl_tree.specs.declared.declaration.Member.{Member}
use Rattle.decl_tree.specs.declared.declaration.TypeDecl.{TypeDecl, roll-TypeDecl, out-TypeDecl, roll-out-TypeDecl}

-- ---- annotations

annotation_of : List ℕ → List ElementValuePair → AnnotationText
annotation_of name values = roll-AnnotationText (record { name = name; values = values })

annotation_from : (a b : AnnotationText) → (out-AnnotationText a).name ≡ (out-AnnotationText b).name → (out-AnnotationText a).values ≡ (out-AnnotationText b).values → a ≡ b
unfolding annotation_of
annotation_from a b name values =
    sym (roll-out-AnnotationText a)
    ∙ ap (λ (x : List ℕ). annotation_of x (out-AnnotationText a).values) name
    ∙ ap (λ (x : List ElementValuePair). annotation_of (out-AnnotationText b).name x) values
    ∙ roll-out-AnnotationText b

-- by the values, once the names are equal
pub annotation_by_values : (a b : AnnotationText) (r : Bool) → (out-AnnotationText a).name ≡ (out-AnnotationText b).name
    → (IsTrue r ↔ (out-AnnotationText a).values ≡ (out-AnnotationText b).values) → IsTrue r ↔ a ≡ b
annotation_by_values a b r name values = (λ h. annotation_from a b name (values.0 h), λ same. values.1 (ap (λ (x : AnnotationText). (out-AnnotationText x).values) same))

-- ---- declarations of types

declaration_of : TypeKind → List ℕ → ℕ → List AnnotationText → Option (List ℕ) → List TypeParam → Option TypeText → List TypeText → List Member → TypeDecl
declaration_of kind name modifiers annotations doc parameters superclass interfaces members =
    roll-TypeDecl (record {
      kind = kind;
      name = name;
      modifiers = modifiers;
      annotations = annotations;
      doc = doc;
      parameters = parameters;
      superclass = superclass;
      interfaces = interfaces;
      members = members;
    })

declaration_from : (d e : TypeDecl) → (out-TypeDecl d).kind ≡ (out-TypeDecl e).kind → (out-TypeDecl d).name ≡ (out-TypeDecl e).name
    → (out-TypeDecl d).modifiers ≡ (out-TypeDecl e).modifiers → (out-TypeDecl d).annotations ≡ (out-TypeDecl e).annotations
    → (out-TypeDecl d).doc ≡ (out-TypeDecl e).doc → (out-TypeDecl d).parameters ≡ (out-TypeDecl e).parameters
    → (out-TypeDecl d).superclass ≡ (out-TypeDecl e).superclass → (out-TypeDecl d).interfaces ≡ (out-TypeDecl e).interfaces
    → (out-TypeDecl d).members ≡ (out-TypeDecl e).members → d ≡ e
unfolding declaration_of
declaration_from d e kind name modifiers annotations doc parameters superclass interfaces members =
    let o = out-TypeDecl d in
    let p = out-TypeDecl e in
    sym (roll-out-TypeDecl d)
    ∙ ap (λ (x : TypeKind). declaration_of x o.name o.modifiers o.annotations o.doc o.parameters o.superclass o.interfaces o.members) kind
    ∙ ap (λ (x : List ℕ). declaration_of p.kind x o.modifiers o.annotations o.doc o.parameters o.superclass o.interfaces o.members) name
    ∙ ap (λ (x : ℕ). declaration_of p.kind p.name x o.annotations o.doc o.parameters o.superclass o.interfaces o.members) modifiers
    ∙ ap (λ (x : List AnnotationText). declaration_of p.kind p.name p.modifiers x o.doc o.parameters o.superclass o.interfaces o.members) annotations
    ∙ ap (λ (x : Option (List ℕ)). declaration_of p.kind p.name p.modifiers p.annotations x o.parameters o.superclass o.interfaces o.members) doc
    ∙ ap (λ (x : List TypeParam). declaration_of p.kind p.name p.modifiers p.annotations p.doc x o.superclass o.interfaces o.members) parameters
    ∙ ap (λ (x : Option TypeText). declaration_of p.kind p.name p.modifiers p.annotations p.doc p.parameters x o.interfaces o.members) superclass
    ∙ ap (λ (x : List TypeText). declaration_of p.kind p.name p.modifiers p.annotations p.doc p.parameters p.superclass x o.members) interfaces
    ∙ ap (λ (x : List Member). declaration_of p.kind p.name p.modifiers p.annotations p.doc p.parameters p.superclass p.interfaces x) members
    ∙ roll-out-TypeDecl e

-- by the members, once all else is equal
pub declaration_by_members : (d e : TypeDecl) (r : Bool) → (out-TypeDecl d).kind ≡ (out-TypeDecl e).kind → (out-TypeDecl d).name ≡ (out-TypeDecl e).name
    → (out-TypeDecl d).modifiers ≡ (out-TypeDecl e).modifiers → (out-TypeDecl d).annotations ≡ (out-TypeDecl e).annotations
    → (out-TypeDecl d).doc ≡ (out-TypeDecl e).doc → (out-TypeDecl d).parameters ≡ (out-TypeDecl e).parameters
    → (out-TypeDecl d).superclass ≡ (out-TypeDecl e).superclass → (out-TypeDecl d).interfaces ≡ (out-TypeDecl e).interfaces
    → (IsTrue r ↔ (out-TypeDecl d).members ≡ (out-TypeDecl e).members) → IsTrue r ↔ d ≡ e
declaration_by_members d e r kind name modifiers annotations doc parameters superclass interfaces members = (
  λ h. declaration_from d e kind name modifiers annotations doc parameters superclass interfaces (members.0 h),
  λ same. members.1 (ap (λ (x : TypeDecl). (out-TypeDecl x).members) same),
)
