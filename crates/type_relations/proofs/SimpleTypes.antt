-- What a text means has no executable as its base.
use Rattle.std.proofs.Common.{◌≡◌, ◌<◌, ◌-◌, ℕ, zero, suc, Result, Ok, Err, IfOk, arith, List, [], ◌∷◌, ◌++◌, ◌||◌, map, codes, Option, None, Some, is_some, if◌then◌else◌, false, refl, sym, ap, subst, ◌∙◌}
use Rattle.apt_base.specs.declared.element.ElementRef.{ElementRef}
use Rattle.decl_tree.specs.declared.declaration.TypeDecl.{TypeDecl}
use Rattle.decl_tree.specs.declared.type_text.PrimitiveKind.{PrimitiveKind}
use Rattle.decl_tree.specs.declared.type_text.PrimitiveKind.TheVariants as primitive
use Rattle.decl_tree.specs.declared.type_text.NamedPart.{NamedPart}
use Rattle.decl_tree.specs.declared.type_text.TypeText.{TypeText, out-TypeText, roll-out-TypeText}
use Rattle.decl_tree.specs.declared.type_text.BaseType.{BaseType, out-BaseType, roll-BaseType, roll-out-BaseType}
use Rattle.decl_tree.specs.declared.type_text.BaseType.TheOpen.{BaseType-F}
use Rattle.element_table.specs.declared.part.Part.{Part}
use Rattle.element_table.specs.TypeTable.{TypeTable, part_of}
use Rattle.element_table.specs.TableElements.{node_at}
use Rattle.type_mirror.specs.declared.mirror.PrimitiveKind.{PrimitiveKind as Kind}
use Rattle.type_mirror.specs.declared.mirror.PrimitiveKind.TheVariants as kind
use Rattle.apt_base.specs.declared.around.Around.{Around}
use Rattle.type_mirror.specs.declared.mirror.Mirror.{Mirror, out-Mirror, out-roll-Mirror}
use Rattle.type_mirror.specs.declared.mirror.BaseMirror.{BaseMirror, roll-BaseMirror, out-BaseMirror, out-roll-BaseMirror}
use Rattle.type_mirror.specs.declared.mirror.BaseMirror.TheVariants as base
use Rattle.type_mirror.specs.declared.mirror.BaseMirror.TheOpen.{BaseMirror-F}
use Rattle.type_mirror.specs.declared.mirror.DeclaredMirror.{DeclaredMirror}
use Rattle.type_mirror.specs.Parts.{plain, wrapped}
use Rattle.type_layers.proofs.LayerLaws.{MirrorLayer}
use Rattle.name_resolve.specs.Finds.{Finds, One, Nothing, Several}
use Rattle.name_resolve.specs.Meaning.{tops_of}
use Rattle.name_resolve.specs.Mirrors.{Look, Meant, MeantPart, look_at, meant, base_meant, part_meant, primitive_base, found_mirror, element_mirror, named_mirror, parts_mirror, or_none, type_meaning, ref_of}
use Rattle.name_resolve.specs.Ways.{type_at}
use Rattle.name_resolve.proofs.MirrorsLemmas.{base-rolls, text-rolls}
use Rattle.type_resolve.specs.Scopes.{scope_in, or_stub}
use Rattle.type_relations.specs.Erasure.{BaseLayer, is_executable, IsSimple, erasure, variable_erasure}
use Rattle.type_relations.specs.Named.{named_in, meaning_in, first_bound, first_of, written_bounds}

-- a type text that is opened
abbrev BaseText : Type 0
BaseText = BaseType-F BaseType NamedPart TypeText

-- ---- a mirror that is made

opened : (x : BaseLayer) (b : BaseMirror) → roll-BaseMirror x ≡ b → is_executable x ≡ false → IsSimple (plain b)
opened x b e h =
    ap (λ (o : MirrorLayer). is_executable (out-BaseMirror o.base)) (out-roll-Mirror (record { around = []; base = b }))
    ∙ ap (λ (c : BaseMirror). is_executable (out-BaseMirror c)) (sym e)
    ∙ ap is_executable (out-roll-BaseMirror x)
    ∙ h

wrapped_simple : (around : List Around) (m : Mirror) → IsSimple m → IsSimple (wrapped around m)
wrapped_simple around m h =
    ap (λ (o : MirrorLayer). is_executable (out-BaseMirror o.base)) (out-roll-Mirror (record { around = around ++ (out-Mirror m).around; base = (out-Mirror m).base })) ∙ h

error_simple : (text : List ℕ) → IsSimple (plain (base.Error text))
error_simple text = opened (BaseMirror-F.Error text) (base.Error text) (base.rolls-Error text) refl

class_simple : (d : DeclaredMirror) → IsSimple (plain (base.Declared d))
class_simple d = opened (BaseMirror-F.Declared d) (base.Declared d) (base.rolls-Declared d) refl

variable_simple : (at : ElementRef) → IsSimple (plain (base.Variable at))
variable_simple at = opened (BaseMirror-F.Variable at) (base.Variable at) (base.rolls-Variable at) refl

kind_simple : (kind : Kind) → IsSimple (plain (base.Primitive kind))
kind_simple kind = opened (BaseMirror-F.Primitive kind) (base.Primitive kind) (base.rolls-Primitive kind) refl

primitive_simple : (kind : PrimitiveKind) → IsSimple (plain (primitive_base kind))
primitive_simple primitive.Boolean = kind_simple kind.Boolean
primitive_simple primitive.Byte = kind_simple kind.Byte
primitive_simple primitive.Short = kind_simple kind.Short
primitive_simple primitive.Int = kind_simple kind.Int
primitive_simple primitive.Long = kind_simple kind.Long
primitive_simple primitive.Char = kind_simple kind.Char
primitive_simple primitive.Float = kind_simple kind.Float
primitive_simple primitive.Double = kind_simple kind.Double
primitive_simple primitive.Void = opened BaseMirror-F.Void base.Void base.rolls-Void refl

-- ---- what names mean

element_simple : (d : Option TypeDecl) (at : ElementRef) (enclosing : Option Mirror) (arguments : List Mirror) → IsSimple (element_mirror d at enclosing arguments)
element_simple None at enclosing arguments = variable_simple at
element_simple (Some d) at enclosing arguments = class_simple _

found_simple : (finds : Finds) (text : List ℕ) (enclosing : Option Mirror) (arguments : List Mirror) → IsSimple (found_mirror finds text enclosing arguments)
found_simple Nothing text enclosing arguments = error_simple text
found_simple (One f) text enclosing arguments = element_simple (type_at f.unit f.path) (ref_of f) enclosing arguments
found_simple Several text enclosing arguments = error_simple text

module _ (look : Look) where
  named_simple : (parts : List MeantPart) (names : List (List ℕ)) (text : List ℕ) (enclosing : Option Mirror) (part : MeantPart) → IsSimple (named_mirror look names text enclosing part parts)
  named_simple [] names text enclosing part = found_simple (look.whole (names ++ part.name ∷ [])) (text ++ part.text) enclosing (or_none part.arguments)
  named_simple (next ∷ more) names text enclosing part =
      let here = found_mirror (look.front (names ++ part.name ∷ [])) (text ++ part.text) enclosing (or_none part.arguments) in
      named_simple more (names ++ part.name ∷ []) (text ++ part.text ++ codes ".") (if is_some enclosing || is_some part.arguments then Some here else None) next

  parts_simple : (parts : List MeantPart) → IsSimple (parts_mirror look parts)
  parts_simple [] = error_simple []
  parts_simple (part ∷ parts) = named_simple parts [] [] None part

  base_simple : (x : BaseText) → IsSimple (base_meant look (roll-BaseType x)).mirror
  base_simple (BaseType-F.Primitive kind) = subst IsSimple (sym (ap (λ (m : Meant). m.mirror) (base-rolls look (BaseType-F.Primitive kind)))) (primitive_simple kind)
  base_simple (BaseType-F.Named parts) =
      subst IsSimple (sym (ap (λ (m : Meant). m.mirror) (base-rolls look (BaseType-F.Named parts)))) (parts_simple (map (part_meant look) parts))
  base_simple BaseType-F.Wildcard =
      subst IsSimple (sym (ap (λ (m : Meant). m.mirror) (base-rolls look BaseType-F.Wildcard))) (opened BaseMirror-F.Wildcard base.Wildcard base.rolls-Wildcard refl)

  text_simple : (text : TypeText) → IsSimple (meant look text).mirror
  text_simple text =
      let o = out-TypeText text in
      subst (λ (t : TypeText). IsSimple (meant look t).mirror) (roll-out-TypeText text)
      (subst IsSimple (sym (ap (λ (m : Meant). m.mirror) (text-rolls look o)))
      (wrapped_simple o.around (base_meant look o.base).mirror
      (subst (λ (b : BaseType). IsSimple (base_meant look b).mirror) (roll-out-BaseType o.base) (base_simple (out-BaseType o.base)))))

-- ---- bounds

named-simple : (table : TypeTable) (part : Part) (name : List ℕ) → IsSimple (named_in table part name)
unfolding named_in
named-simple table part name = found_simple (tops_of table part name) name None []

meaning-simple : (table : TypeTable) (at : ElementRef) (text : TypeText) → IsSimple (meaning_in table at text)
unfolding type_meaning
meaning-simple table at text = text_simple (look_at table (scope_in table at)) text

first-simple : (table : TypeTable) (at : ElementRef) (texts : List TypeText) → IsSimple (first_of table at texts)
first-simple table at [] = named-simple table (or_stub (part_of table at.unit)) (codes "java.lang.Object")
first-simple table at (text ∷ texts) = meaning-simple table at text

pub bound-simple : (table : TypeTable) (at : ElementRef) (m : Mirror) → m ≡ first_bound table at → IsSimple m
unfolding first_bound
bound-simple table at m e = subst IsSimple (sym e) (first-simple table at (written_bounds (node_at table at)))

-- ---- variables

-- with no step
pub variable-zero : (table : TypeTable) (n : ℕ) (at : ElementRef) → n ≡ 0 → None ≡ variable_erasure table n at
unfolding variable_erasure
variable-zero table zero at e = refl
variable-zero table (suc n) at e = absurd (omega (arith, e))

-- by the erasure of the bound with a step less
pub variable-gives : {E : Type 0} (table : TypeTable) (at : ElementRef) (r : Result (Option Mirror) E) (n : ℕ) (m : Mirror)
    → 0 < n → m ≡ first_bound table at → IfOk r (λ e. e ≡ erasure table (n - 1) m) → IfOk r (λ e. e ≡ variable_erasure table n at)
unfolding variable_erasure erasure
variable-gives table at (Err fault) n m p e h = tt
variable-gives table at (Ok o) zero m p e h = absurd (omega (arith, p))
variable-gives table at (Ok o) (suc n) m p e h =
    let less : suc n - 1 ≡ n = omega arith in
    h ∙ ap (λ (k : ℕ). erasure table k m) less ∙ ap (erasure table n) e

pub ruleset simple = (bound-simple, variable-zero, variable-gives)
