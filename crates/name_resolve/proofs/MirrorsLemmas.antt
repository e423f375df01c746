-- What a type text means, by what it is made of.
use Rattle.std.proofs.Common.{◌≡◌}
use Rattle.decl_tree.specs.declared.type_text.TypeText.{TypeText, roll-TypeText}
use Rattle.decl_tree.specs.declared.type_text.BaseType.{BaseType, roll-BaseType}
use Rattle.decl_tree.specs.declared.type_text.NamedPart.{NamedPart, roll-NamedPart}
use Rattle.decl_tree.specs.declared.type_text.BaseType.TheOpen.{BaseType-F, NamedPart-F, TypeText-F}
use Rattle.decl_tree.specs.declared.type_text.BaseType.TheFolds.{map-BaseType, map-NamedPart, map-TypeText, fold-roll-BaseType, fold-roll-NamedPart, fold-roll-TypeText}
use Rattle.name_resolve.specs.Mirrors as means
use Rattle.name_resolve.specs.Mirrors.{Meant, MeantPart, Look, meant, base_meant, part_meant}

module _ (look : Look) where
  pub base-rolls : (x : BaseType-F BaseType NamedPart TypeText) → base_meant look (roll-BaseType x)
      ≡ means.base_step look (map-BaseType BaseType NamedPart TypeText Meant MeantPart Meant (base_meant look) (part_meant look) (meant look) x)
  unfolding meant base_meant part_meant
  base-rolls x = fold-roll-BaseType Meant MeantPart Meant (means.base_step look) means.part_step means.type_step x

  pub part-rolls : (x : NamedPart-F BaseType NamedPart TypeText) → part_meant look (roll-NamedPart x)
      ≡ means.part_step (map-NamedPart BaseType NamedPart TypeText Meant MeantPart Meant (base_meant look) (part_meant look) (meant look) x)
  unfolding meant base_meant part_meant
  part-rolls x = fold-roll-NamedPart Meant MeantPart Meant (means.base_step look) means.part_step means.type_step x

  pub text-rolls : (x : TypeText-F BaseType NamedPart TypeText) → meant look (roll-TypeText x)
      ≡ means.type_step (map-TypeText BaseType NamedPart TypeText Meant MeantPart Meant (base_meant look) (part_meant look) (meant look) x)
  unfolding meant base_meant part_meant
  text-rolls x = fold-roll-TypeText Meant MeantPart Meant (means.base_step look) means.part_step means.type_step x
