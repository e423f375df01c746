-- What is asked of assignable types, part by part.
use Rattle.std.proofs.Common.{◌≡◌, ℕ, Option, None, Some, option_map, sym, ap, ap₂, ◌∙◌}
use Rattle.element_table.specs.TypeTable.{TypeTable}
use Rattle.type_mirror.specs.declared.mirror.Mirror.{Mirror}
use Rattle.type_mirror.specs.declared.mirror.BaseMirror.TheVariants as base
use Rattle.type_mirror.specs.declared.mirror.PrimitiveKind.{PrimitiveKind}
use Rattle.type_mirror.specs.Parts.{plain}
use Rattle.type_layers.specs.Layers.{Primitive, mirror_of}
use Rattle.type_levels.specs.Answers.{either}
use Rattle.type_levels.specs.declared.answer.Answer.{Answer}
use Rattle.type_levels.specs.declared.answer.Answer.TheVariants.{Yes, Open, No}
use Rattle.type_relations.specs.Boxed.{box_of, boxed, boxed_kind, primitive_of, unboxed}
use Rattle.type_relations.specs.Erasure.{erasure}
use Rattle.type_subtypes.specs.Assignable.{assignable, converted, otherwise, reaches_erased, reaches_raw}
use Rattle.type_subtypes.specs.Subtypes.{subtype}

module _ (table : TypeTable) (n : ℕ) (a b : Mirror) where
  by_box : Option PrimitiveKind → Answer
  by_box kind = converted table n (option_map (box_of table) kind) b

  by_primitive : Option PrimitiveKind → Answer
  by_primitive kind = converted table n (option_map (λ (k : PrimitiveKind). mirror_of (Primitive k)) kind) b

  by_erasure : Option Mirror → Answer
  by_erasure erased = reaches_erased table n a erased

  pub boxed-none : primitive_of a ≡ None → No ≡ converted table n (boxed table a) b
  unfolding converted boxed by_box
  boxed-none e = sym (ap by_box e)

  pub boxed-some : (kind : PrimitiveKind) (r : Answer) → primitive_of a ≡ Some kind → r ≡ subtype table n (box_of table kind) b → r ≡ converted table n (boxed table a) b
  unfolding converted boxed by_box
  boxed-some kind r e is = is ∙ sym (ap by_box e)

  pub unboxed-none : boxed_kind table a ≡ None → No ≡ converted table n (unboxed table a) b
  unfolding converted unboxed by_primitive
  unboxed-none e = sym (ap by_primitive e)

  pub unboxed-some : (kind : PrimitiveKind) (r : Answer) → boxed_kind table a ≡ Some kind → r ≡ subtype table n (plain (base.Primitive kind)) b → r ≡ converted table n (unboxed table a) b
  unfolding converted unboxed by_primitive mirror_of
  unboxed-some kind r e is = is ∙ sym (ap by_primitive e)

  pub erased-open : erasure table n b ≡ None → Open ≡ reaches_erased table n a (erasure table n b)
  unfolding reaches_erased by_erasure
  erased-open e = sym (ap by_erasure e)

  pub erased-reached : (m : Mirror) (r : Answer) → erasure table n b ≡ Some m → r ≡ reaches_raw table n a m → r ≡ reaches_erased table n a (erasure table n b)
  unfolding reaches_erased by_erasure
  erased-reached m r e is = is ∙ sym (ap by_erasure e)

  pub otherwise-is : (x y z r : Answer) → x ≡ converted table n (boxed table a) b → y ≡ converted table n (unboxed table a) b → z ≡ reaches_erased table n a (erasure table n b)
      → r ≡ either x (either y z) → r ≡ otherwise table n a b
  unfolding otherwise
  otherwise-is x y z r e f g is = is ∙ ap₂ (λ (s t : Answer). either s t) e (ap₂ (λ (s t : Answer). either s t) f g)

  pub assignable-first : subtype table n a b ≡ Yes → Yes ≡ assignable table n a b
  unfolding assignable
  assignable-first e = sym (ap (λ (x : Answer). either x (otherwise table n a b)) e)

  pub assignable-rest : (x y r : Answer) → x ≡ subtype table n a b → y ≡ otherwise table n a b → r ≡ either x y → r ≡ assignable table n a b
  unfolding assignable
  assignable-rest x y r e f is = is ∙ ap₂ (λ (s t : Answer). either s t) e f

pub ruleset converting = (
  boxed-none,
  boxed-some,
  unboxed-none,
  unboxed-some,
  erased-open,
  erased-reached,
  otherwise-is,
  assignable-first,
  assignable-rest,
)
