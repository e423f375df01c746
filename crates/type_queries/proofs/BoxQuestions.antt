-- What the questions on boxes come to, by what the type is.
use Rattle.std.proofs.Common.{◌≡◌, Bool, true, false, is_some, Option, None, Some, option_map, ap, ◌∙◌}
use Rattle.element_table.specs.TypeTable.{TypeTable}
use Rattle.type_mirror.specs.declared.mirror.PrimitiveKind.{PrimitiveKind}
use Rattle.type_mirror.specs.declared.mirror.Mirror.{Mirror}
use Rattle.type_mirror.specs.declared.mirror.BaseMirror.TheVariants as base
use Rattle.type_mirror.specs.Parts.{plain}
use Rattle.type_layers.specs.Layers.{Primitive, mirror_of}
use Rattle.type_relations.specs.Boxed.{box_of, primitive_of, boxed, boxed_kind, unboxed}
use Rattle.type_queries.specs.Questions.{boxed_question, unboxed_question}
use Rattle.type_queries.specs.Verdicts.{Verdict, NoSuch, WrongKind, Given, value, judged, are_there}

abbrev by_value : Bool → Option Mirror → Verdict Mirror
by_value there o = judged there (is_some o) (value o)

module _ (table : TypeTable) (m : Mirror) where
  by_box : Bool → Option PrimitiveKind → Verdict Mirror
  by_box there k = by_value there (option_map (box_of table) k)

  by_primitive : Bool → Option PrimitiveKind → Verdict Mirror
  by_primitive there k = by_value there (option_map (λ (kind : PrimitiveKind). mirror_of (Primitive kind)) k)

  pub boxed-lost : are_there table m ≡ false → boxed_question table m ≡ NoSuch
  unfolding boxed_question boxed by_box
  boxed-lost e = ap (λ (there : Bool). by_box there (primitive_of m)) e

  pub boxed-other : are_there table m ≡ true → primitive_of m ≡ None → boxed_question table m ≡ WrongKind
  unfolding boxed_question boxed by_box
  boxed-other e h = ap (λ (there : Bool). by_box there (primitive_of m)) e ∙ ap (by_box true) h

  pub boxed-given : (kind : PrimitiveKind) → are_there table m ≡ true → primitive_of m ≡ Some kind → boxed_question table m ≡ Given (box_of table kind)
  unfolding boxed_question boxed by_box
  boxed-given kind e h = ap (λ (there : Bool). by_box there (primitive_of m)) e ∙ ap (by_box true) h

  pub unboxed-lost : are_there table m ≡ false → unboxed_question table m ≡ NoSuch
  unfolding unboxed_question unboxed by_primitive
  unboxed-lost e = ap (λ (there : Bool). by_primitive there (boxed_kind table m)) e

  pub unboxed-other : are_there table m ≡ true → boxed_kind table m ≡ None → unboxed_question table m ≡ WrongKind
  unfolding unboxed_question unboxed by_primitive
  unboxed-other e h = ap (λ (there : Bool). by_primitive there (boxed_kind table m)) e ∙ ap (by_primitive true) h

  pub unboxed-given : (kind : PrimitiveKind) → are_there table m ≡ true → boxed_kind table m ≡ Some kind → unboxed_question table m ≡ Given (plain (base.Primitive kind))
  unfolding unboxed_question unboxed by_primitive mirror_of
  unboxed-given kind e h = ap (λ (there : Bool). by_primitive there (boxed_kind table m)) e ∙ ap (by_primitive true) h

pub ruleset boxes = (
  boxed-lost,
  boxed-other,
  boxed-given,
  unboxed-lost,
  unboxed-other,
  unboxed-given,
)
