-- The signatures of two methods by the nodes of their types.
use Rattle.std.proofs.Common.{◌≡◌, ◌<◌, ℕ, Bool, true, false, List, None, refl, sym, ap, ap₂, subst, ◌∙◌}
use Rattle.std.specs.List.{AllByRecursion}
use Rattle.apt_base.specs.declared.element.ElementRef.{ElementRef}
use Rattle.apt_base.specs.Limits.{max_type_steps}
use Rattle.element_table.specs.TypeTable.{TypeTable}
use Rattle.type_mirror.specs.declared.mirror.Mirror.{Mirror}
use Rattle.type_layers.specs.Layers.{Layer, layer, parts_of}
use Rattle.type_levels.specs.Answers.{of_test, either}
use Rattle.type_levels.specs.declared.answer.Answer.{Answer}
use Rattle.type_levels.specs.declared.answer.Answer.TheVariants.{Yes, No}
use Rattle.type_numbers.specs.declared.node.Node.{Node}
use Rattle.type_numbers.specs.declared.node.Node.TheVariants as node
use Rattle.type_numbers.specs.Nodes.{layer_of}
use Rattle.type_numbers.specs.Numbers.{at, IsKnown, AreKnown, Grows, with_types}
use Rattle.type_numbers.proofs.AddedTypes.{executable-split}
use Rattle.type_numbers.proofs.NumberLaws.{grown-types}
use Rattle.type_numbers.proofs.ReplacedSteps.{all_known-below}
use Rattle.type_steps.proofs.LayersOfNumbers.{copy-shows}
use Rattle.type_subtypes.specs.Subsignature.{same_erased, of_executables, executable_in, subsignature}
use Rattle.type_subtypes.proofs.SignatureLaws.{no-one, no-other}
use Rattle.type_overriding.specs.ByNumbers.{renamed_at, erased_at, sign_at, nodes_signature, signature_at}

abbrev NoExecutable : Node → Type 0
NoExecutable n = (variables : List ElementRef) (parameters : List ℕ) (outcome : ℕ) (thrown : List ℕ) → n ≡ node.Executable variables parameters outcome thrown → ⊥

no_executable : (t : List Mirror) (n : Node) → NoExecutable n → None ≡ executable_in (with_types t (layer_of n))
no_executable t (node.Executable variables parameters outcome thrown) denied = absurd (denied variables parameters outcome thrown refl)
no_executable t (node.Primitive kind) denied = refl
no_executable t (node.Declared element enclosing arguments) denied = refl
no_executable t (node.Error text) denied = refl
no_executable t (node.Variable element) denied = refl
no_executable t (node.Array item) denied = refl
no_executable t node.Unbounded denied = refl
no_executable t (node.Extends bound) denied = refl
no_executable t (node.Super bound) denied = refl
no_executable t node.Nothing denied = refl
no_executable t node.Void denied = refl
no_executable t node.Null denied = refl
no_executable t (node.Package name) denied = refl

-- the numbers of the parameters are known
pub parameters-known : (t : List Mirror) (n : Node) (vs : List ElementRef) (ps ps' : List ℕ) (o : ℕ) (th : List ℕ) → AreKnown t (parts_of (layer_of n))
    → n ≡ node.Executable vs ps o th → ps' ≡ ps → AreKnown t ps'
parameters-known t n vs ps ps' o th known is same = subst (AreKnown t) (sym same) (executable-split (IsKnown t) n vs ps o th is known).0

module _ (table : TypeTable) (t : List Mirror) where
  -- ---- by the parameters

  abbrev by_test : List ℕ → List ℕ → Bool → Answer
  by_test ps qs same = either (of_test same) (erased_at table t ps qs)

  pub parameters-same : (vs : List ElementRef) (ps : List ℕ) (ws : List ElementRef) (qs : List ℕ) (s : Bool) → s ≡ renamed_at t vs ps ws qs → s ≡ true
      → Yes ≡ sign_at table t vs ps ws qs
  parameters-same vs ps ws qs s is e = sym (ap (λ (b : Bool). by_test ps qs b) (sym is ∙ e))

  pub parameters-erased : (t' : List Mirror) (vs : List ElementRef) (ps : List ℕ) (ws : List ElementRef) (qs : List ℕ) (s : Bool) (r : Answer) → s ≡ renamed_at t vs ps ws qs
      → s ≡ false → Grows t t' → AreKnown t ps → AreKnown t qs → r ≡ erased_at table t' ps qs → r ≡ sign_at table t vs ps ws qs
  parameters-erased t' vs ps ws qs s r is e g known known' erased =
      erased
      ∙ ap₂ (λ (ms ns : List Mirror). same_erased table max_type_steps ms ns) (grown-types t t' ps g known) (grown-types t t' qs g known')
      ∙ sym (ap (λ (b : Bool). by_test ps qs b) (sym is ∙ e))

  -- ---- by the nodes

  pub first-other : (one other : Node) → NoExecutable one → No ≡ nodes_signature table t one other
  first-other one other denied = no-one table max_type_steps (with_types t (layer_of one)) (with_types t (layer_of other)) (no_executable t one denied)

  pub second-other : (one other : Node) → NoExecutable other → No ≡ nodes_signature table t one other
  second-other one other denied = no-other table max_type_steps (with_types t (layer_of one)) (with_types t (layer_of other)) (no_executable t other denied)

  pub both-executables : (one other : Node) (vs vs' : List ElementRef) (ps ps' : List ℕ) (o : ℕ) (th : List ℕ) (ws ws' : List ElementRef) (qs qs' : List ℕ) (o' : ℕ) (th' : List ℕ)
      (r : Answer) → one ≡ node.Executable vs ps o th → other ≡ node.Executable ws qs o' th' → vs' ≡ vs → ps' ≡ ps → ws' ≡ ws → qs' ≡ qs
      → r ≡ sign_at table t vs' ps' ws' qs' → r ≡ nodes_signature table t one other
  both-executables one other vs vs' ps ps' o th ws ws' qs qs' o' th' r is is' e f g h signed =
      signed
      ∙ ap₂ (λ (v : List ElementRef) (p : List ℕ). sign_at table t v p ws' qs') e f
      ∙ ap₂ (λ (w : List ElementRef) (q : List ℕ). sign_at table t vs ps w q) g h
      ∙ sym (ap₂ (λ (x y : Node). nodes_signature table t x y) is is')

pub ruleset signing = (parameters-same, parameters-erased, first-other, second-other, both-executables, parameters-known)

-- ---- two types with numbers

-- what a copy of the node holds is known
pub copy-known : (t : List Mirror) (number : ℕ) (n n' : Node) → IsKnown t number → AllByRecursion (λ part. part < number) (parts_of (layer_of n)) → n' ≡ n
    → AreKnown t (parts_of (layer_of n'))
copy-known t number n n' known fall same =
    subst (λ (x : Node). AreKnown t (parts_of (layer_of x))) (sym same) (all_known-below t number (parts_of (layer_of n)) known fall)

pub copies-signature : (table : TypeTable) (t : List Mirror) (one other : ℕ) (n n' k k' : Node) (r : Answer) → with_types t (layer_of n) ≡ layer (at t one) → n' ≡ n
    → with_types t (layer_of k) ≡ layer (at t other) → k' ≡ k → r ≡ nodes_signature table t n' k' → r ≡ signature_at table t one other
unfolding subsignature
copies-signature table t one other n n' k k' r exact same exact' same' is =
    is ∙ ap₂ (λ (x y : Layer Mirror). of_executables table max_type_steps x y) (copy-shows t one n n' same exact) (copy-shows t other k k' same' exact')
