-- What two types decide by themselves, by the nodes of their numbers.
use Rattle.std.proofs.Common.{◌≡◌, ℕ, Bool, true, false, ◌&&◌, List, Option, None, Some, option_map, refl, sym, ap, ap₂, ◌∙◌, if◌then◌else◌}
use Rattle.apt_base.specs.Elements.{same_element}
use Rattle.apt_base.specs.declared.element.ElementRef.{ElementRef}
use Rattle.type_mirror.specs.declared.mirror.Mirror.{Mirror}
use Rattle.type_layers.specs.Layers.{Layer, layer}
use Rattle.type_layers.specs.Same.{same}
use Rattle.type_levels.specs.Numbered.{Stands}
use Rattle.type_levels.specs.Steps as steps
use Rattle.type_levels.specs.declared.answer.Answer.TheVariants.{Yes}
use Rattle.type_levels.specs.declared.question.Next.{Next}
use Rattle.type_levels.specs.declared.question.Next.TheVariants as next_by
use Rattle.type_numbers.specs.Nodes.{layer_of}
use Rattle.type_numbers.specs.Numbers.{at, with_types}
use Rattle.type_numbers.specs.declared.node.Node.{Node}
use Rattle.type_numbers.specs.declared.node.Node.TheVariants as node
use Rattle.type_subtypes.specs.Numbers.{MayStand, numbered, by_arguments, by_nodes}
use Rattle.type_subtypes.specs.Subtypes.{by_layers, decided, has_null, same_enclosing, yes_if}
use Rattle.type_subtypes.proofs.SameNumbers.{null-mapped}

module _ (asks : Mirror → Mirror → steps.Next Mirror) (types : List Mirror) where
  none_is : (o : Option (steps.Next Mirror)) → o ≡ None → MayStand (numbered asks types) None o
  none_is o e = record { known = tt; next = sym e }

  yes_is : (o : Option (steps.Next Mirror)) → o ≡ Some (steps.Decided Yes) → MayStand (numbered asks types) (Some (next_by.Decided Yes)) o
  yes_is o e = record { known = (tt, tt); next = sym e }

  -- ---- two class types

  abbrev of_classes : Bool → Bool → List ℕ → List ℕ → Option (steps.Next Mirror)
  of_classes s t as' bs = if s && t then Some (by_arguments types as' bs) else None

  classes : (one other : Node) (e : ElementRef) (o : Option ℕ) (as' : List ℕ) (e' : ElementRef) (o' : Option ℕ) (bs : List ℕ)
      → one ≡ node.Declared e o as' → other ≡ node.Declared e' o' bs
      → by_nodes types one other ≡ of_classes (same_element e e') (same_enclosing (option_map (at types) o) (option_map (at types) o')) as' bs
  classes one other e o as' e' o' bs is is' = ap₂ (λ (x y : Node). by_nodes types x y) is is'

  pub other-element : (one other : Node) (e : ElementRef) (o : Option ℕ) (as' : List ℕ) (e' : ElementRef) (o' : Option ℕ) (bs : List ℕ) (s : Bool)
      → one ≡ node.Declared e o as' → other ≡ node.Declared e' o' bs → s ≡ same_element e e' → s ≡ false
      → MayStand (numbered asks types) None (by_nodes types one other)
  other-element one other e o as' e' o' bs s is is' h f =
      none_is (by_nodes types one other)
      (classes one other e o as' e' o' bs is is'
      ∙ ap (λ (t : Bool). of_classes t (same_enclosing (option_map (at types) o) (option_map (at types) o')) as' bs) (sym h ∙ f))

  pub other-enclosing : (one other : Node) (e : ElementRef) (o : Option ℕ) (as' : List ℕ) (e' : ElementRef) (o' : Option ℕ) (bs : List ℕ) (s t : Bool)
      → one ≡ node.Declared e o as' → other ≡ node.Declared e' o' bs → s ≡ same_element e e' → s ≡ true
      → t ≡ same_enclosing (option_map (at types) o) (option_map (at types) o') → t ≡ false
      → MayStand (numbered asks types) None (by_nodes types one other)
  other-enclosing one other e o as' e' o' bs s t is is' h f k g =
      none_is (by_nodes types one other)
      (classes one other e o as' e' o' bs is is' ∙ ap₂ (λ (x y : Bool). of_classes x y as' bs) (sym h ∙ f) (sym k ∙ g))

  pub by-class-arguments : (one other : Node) (e : ElementRef) (o : Option ℕ) (as' : List ℕ) (e' : ElementRef) (o' : Option ℕ) (bs : List ℕ) (s t : Bool) (asked : Next)
      → one ≡ node.Declared e o as' → other ≡ node.Declared e' o' bs → s ≡ same_element e e' → s ≡ true
      → t ≡ same_enclosing (option_map (at types) o) (option_map (at types) o') → t ≡ true → Stands (numbered asks types) asked (by_arguments types as' bs)
      → MayStand (numbered asks types) (Some asked) (by_nodes types one other)
  by-class-arguments one other e o as' e' o' bs s t asked is is' h f k g stands = record {
    known = (stands.known, tt);
    next =
        ap (λ (x : steps.Next Mirror). Some x) stands.next
        ∙ sym (classes one other e o as' e' o' bs is is' ∙ ap₂ (λ (x y : Bool). of_classes x y as' bs) (sym h ∙ f) (sym k ∙ g));
  }

  -- ---- what is no class type

  abbrev IsNoClass : Node → Type 0
  IsNoClass n = (e : ElementRef) (o : Option ℕ) (as' : List ℕ) → n ≡ node.Declared e o as' → ⊥

  no_class : (e : ElementRef) (o : Option ℕ) (as' : List ℕ) (n : Node) → IsNoClass n → by_nodes types (node.Declared e o as') n ≡ None
  no_class e o as' (node.Declared e' o' bs) denied = absurd (denied e' o' bs refl)
  no_class e o as' (node.Primitive kind) denied = refl
  no_class e o as' (node.Error text) denied = refl
  no_class e o as' (node.Variable element) denied = refl
  no_class e o as' (node.Array item) denied = refl
  no_class e o as' node.Unbounded denied = refl
  no_class e o as' (node.Extends bound) denied = refl
  no_class e o as' (node.Super bound) denied = refl
  no_class e o as' (node.Executable variables parameters outcome thrown) denied = refl
  no_class e o as' node.Nothing denied = refl
  no_class e o as' node.Void denied = refl
  no_class e o as' node.Null denied = refl
  no_class e o as' (node.Package name) denied = refl

  pub second-no-class : (one other : Node) (e : ElementRef) (o : Option ℕ) (as' : List ℕ) → one ≡ node.Declared e o as' → IsNoClass other
      → MayStand (numbered asks types) None (by_nodes types one other)
  second-no-class one other e o as' is denied =
      none_is (by_nodes types one other) (ap (λ (x : Node). by_nodes types x other) is ∙ no_class e o as' other denied)

  -- ---- null

  null_decides : (one other : Node) (t : Bool) → one ≡ node.Null → t ≡ has_null (layer_of other) → by_nodes types one other ≡ yes_if t
  null_decides one other t is h =
      ap (λ (x : Node). by_nodes types x other) is ∙ ap (λ (b : Bool). yes_if b) (null-mapped (at types) (layer_of other) ∙ sym h)

  pub null-below : (one other : Node) (t : Bool) → one ≡ node.Null → t ≡ has_null (layer_of other) → t ≡ true
      → MayStand (numbered asks types) (Some (next_by.Decided Yes)) (by_nodes types one other)
  null-below one other t is h e = yes_is (by_nodes types one other) (null_decides one other t is h ∙ ap (λ (b : Bool). yes_if b) e)

  pub null-apart : (one other : Node) (t : Bool) → one ≡ node.Null → t ≡ has_null (layer_of other) → t ≡ false
      → MayStand (numbered asks types) None (by_nodes types one other)
  null-apart one other t is h e = none_is (by_nodes types one other) (null_decides one other t is h ∙ ap (λ (b : Bool). yes_if b) e)

  -- ---- what is neither

  neither : (n other : Node) → IsNoClass n → (n ≡ node.Null → ⊥) → by_nodes types n other ≡ None
  neither (node.Declared e o as') other denied none = absurd (denied e o as' refl)
  neither node.Null other denied none = absurd (none refl)
  neither (node.Primitive kind) other denied none = refl
  neither (node.Error text) other denied none = refl
  neither (node.Variable element) other denied none = refl
  neither (node.Array item) other denied none = refl
  neither node.Unbounded other denied none = refl
  neither (node.Extends bound) other denied none = refl
  neither (node.Super bound) other denied none = refl
  neither (node.Executable variables parameters outcome thrown) other denied none = refl
  neither node.Nothing other denied none = refl
  neither node.Void other denied none = refl
  neither (node.Package name) other denied none = refl

  pub first-neither : (one other : Node) → IsNoClass one → (one ≡ node.Null → ⊥) → MayStand (numbered asks types) None (by_nodes types one other)
  first-neither one other denied none = none_is (by_nodes types one other) (neither one other denied none)

  -- ---- two types

  by_test : Mirror → Mirror → Bool → Option (steps.Next Mirror)
  by_test a b t = if t then Some (steps.Decided Yes) else by_layers (layer a) (layer b)

  pub decided-same : (a b : Mirror) (t : Bool) → t ≡ same a b → t ≡ true → MayStand (numbered asks types) (Some (next_by.Decided Yes)) (decided a b)
  unfolding decided by_test
  decided-same a b t is e = yes_is (decided a b) (ap (by_test a b) (sym is ∙ e))

  pub decided-nodes : (a b : Mirror) (t : Bool) (one other : Node) (o : Option Next) → t ≡ same a b → t ≡ false
      → with_types types (layer_of one) ≡ layer a → with_types types (layer_of other) ≡ layer b
      → MayStand (numbered asks types) o (by_nodes types one other) → MayStand (numbered asks types) o (decided a b)
  unfolding decided by_test
  decided-nodes a b t one other o is e f g s = record {
    known = s.known;
    next = s.next ∙ ap₂ (λ (l k : Layer Mirror). by_layers l k) f g ∙ sym (ap (by_test a b) (sym is ∙ e));
  }

pub ruleset deciding = (other-element, other-enclosing, by-class-arguments, second-no-class, null-below, null-apart, first-neither)
