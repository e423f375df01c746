-- The constant that a name is, through one name more.
use Rattle.std.proofs.Common.{◌≡◌, ◌<◌, ◌-◌, ℕ, zero, suc, List, Option, None, refl, ap, ◌∙◌, arith}
use Rattle.apt_base.specs.Identifiers.{parts}
use Rattle.element_table.specs.TypeTable.{TypeTable}
use Rattle.type_mirror.specs.declared.value.Value.{Value}
use Rattle.name_resolve.specs.Finds.{Find, Finds}
use Rattle.expression_names.specs.Fields.{field_meaning}
use Rattle.annotation_values.specs.Values.{value_of_finds, constant_within, meanings_within}

module _ (table : TypeTable) (f : Find) (text : List ℕ) where
  pub constant-zero : (names : ℕ) → names ≡ 0 → constant_within table names f text ≡ None
  unfolding constant_within
  constant-zero zero e = refl
  constant-zero (suc names) e = absurd (omega arith)

  more : (names : ℕ)
      → value_of_finds (meanings_within table names) (field_meaning table f (parts text))
      ≡ constant_within table (suc names) f text
  unfolding constant_within
  more names = refl

  pub constant-more : (names : ℕ) (finds : Finds) (v : Option Value) → 0 < names
      → finds ≡ field_meaning table f (parts text)
      → v ≡ value_of_finds (meanings_within table (names - 1)) finds → v ≡ constant_within table names f text
  constant-more names finds v some e is =
      let same : suc (names - 1) ≡ names = omega arith in
      is ∙ ap (value_of_finds (meanings_within table (names - 1))) e ∙ more (names - 1)
      ∙ ap (λ k. constant_within table k f text) same

pub ruleset by_names = (constant-zero, constant-more)
