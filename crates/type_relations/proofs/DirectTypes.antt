-- The direct supertypes of a type around whose base nothing stands.
use Rattle.std.proofs.Common.{◌≡◌, List, [], ◌∷◌, Result, Ok, Err, IfOk, sym, ap, ◌∙◌}
use Rattle.type_mirror.specs.declared.mirror.Mirror.{Mirror}
use Rattle.type_mirror.specs.declared.mirror.BaseMirror.{BaseMirror, out-BaseMirror, roll-BaseMirror, roll-out-BaseMirror}
use Rattle.type_mirror.specs.declared.mirror.BaseMirror.TheVariants as base
use Rattle.type_mirror.specs.declared.mirror.BaseMirror.TheOpen.{BaseMirror-F}
use Rattle.type_mirror.specs.declared.mirror.DeclaredMirror.{DeclaredMirror}
use Rattle.type_mirror.specs.Parts.{plain}
use Rattle.element_table.specs.TypeTable.{TypeTable}
use Rattle.type_layers.specs.Layers.{layer_in, base_layer}
use Rattle.type_relations.specs.Direct.{declared_direct, of_layer}

-- of a class type
pub declared-is : (table : TypeTable) (b : BaseMirror) (d : DeclaredMirror) → out-BaseMirror b ≡ BaseMirror-F.Declared d → declared_direct table d ≡ of_layer table (plain b) (layer_in [] b)
declared-is table b d e =
    ap (λ (c : BaseMirror). of_layer table (plain c) (base_layer (BaseMirror-F.Declared d))) (sym (base.rolls-Declared d) ∙ ap roll-BaseMirror (sym e) ∙ roll-out-BaseMirror b)
    ∙ ap (λ (x : BaseMirror-F BaseMirror DeclaredMirror _ Mirror). of_layer table (plain b) (base_layer x)) (sym e)

pub ruleset based = (declared-is)

-- ---- what all arrays have

pub three-are : {E : Type 0} (r : Result (List Mirror) E) (a b c x y z : Mirror) → a ≡ x → b ≡ y → c ≡ z → IfOk r (λ list. list ≡ a ∷ b ∷ c ∷ []) → IfOk r (λ list. list ≡ x ∷ y ∷ z ∷ [])
three-are (Err fault) a b c x y z e f g h = tt
three-are (Ok list) a b c x y z e f g h =
    h ∙ ap (λ (m : Mirror). m ∷ b ∷ c ∷ []) e ∙ ap (λ (m : Mirror). x ∷ m ∷ c ∷ []) f ∙ ap (λ (m : Mirror). x ∷ y ∷ m ∷ []) g
