-- No two layers have one key.
use Rattle.std.proofs.Common.{◌≡◌, ℕ, zero, suc, List, [], ◌∷◌, ◌++◌, length, Option, Some, None, refl, sym, ap, ◌∙◌, arith}
use Rattle.std.proofs.lemmas.List.{append_assoc}
use Rattle.std.specs.List.{flat_map}
use Rattle.apt_base.specs.declared.element.ElementRef.{ElementRef}
use Rattle.type_mirror.specs.declared.mirror.PrimitiveKind.{PrimitiveKind}
use Rattle.type_mirror.specs.declared.mirror.PrimitiveKind.TheVariants as kind
use Rattle.type_layers.specs.Layers.{Layer, Primitive, Declared, Error, Variable, Array, Unbounded, Extends, Super, Executable, Nothing, Void, Null, Package}
use Rattle.type_numbers.specs.Keys.{kind_number, counted, element_key, elements_key, optional_key, layer_key}

-- ---- lists of numbers

head_is : (x y : ℕ) (xs ys : List ℕ) → x ∷ xs ≡ y ∷ ys → x ≡ y
head_is x y xs ys h = cc

tail_is : (x y : ℕ) (xs ys : List ℕ) → x ∷ xs ≡ y ∷ ys → xs ≡ ys
tail_is x y xs ys h = cc

-- as many in front
fronts_are : (xs ys r s : List ℕ) → length xs ≡ length ys → xs ++ r ≡ ys ++ s → (xs ≡ ys) × (r ≡ s)
fronts_are [] [] r s e h = (refl, h)
fronts_are [] (y ∷ ys) r s e h = absurd (omega arith)
fronts_are (x ∷ xs) [] r s e h = absurd (omega arith)
fronts_are (x ∷ xs) (y ∷ ys) r s e h =
    let rest = fronts_are xs ys r s (omega arith) (tail_is x y (xs ++ r) (ys ++ s) h) in
    (ap (λ (n : ℕ). n ∷ xs) (head_is x y (xs ++ r) (ys ++ s) h) ∙ ap (λ (l : List ℕ). y ∷ l) rest.0, rest.1)

counted_are : (xs ys r s : List ℕ) → counted xs ++ r ≡ counted ys ++ s → (xs ≡ ys) × (r ≡ s)
counted_are xs ys r s h =
    fronts_are xs ys r s (head_is (length xs) (length ys) (xs ++ r) (ys ++ s) h) (tail_is (length xs) (length ys) (xs ++ r) (ys ++ s) h)

-- the same with nothing behind
counted_is : (xs ys : List ℕ) → counted xs ≡ counted ys → xs ≡ ys
counted_is xs ys h = tail_is (length xs) (length ys) xs ys h

-- ---- what layers are made of

kind_of : ℕ → PrimitiveKind
kind_of zero = kind.Boolean
kind_of (suc zero) = kind.Byte
kind_of (suc (suc zero)) = kind.Short
kind_of (suc (suc (suc zero))) = kind.Int
kind_of (suc (suc (suc (suc zero)))) = kind.Long
kind_of (suc (suc (suc (suc (suc zero))))) = kind.Char
kind_of (suc (suc (suc (suc (suc (suc zero)))))) = kind.Float
kind_of (suc (suc (suc (suc (suc (suc (suc n))))))) = kind.Double

kind_back : (k : PrimitiveKind) → kind_of (kind_number k) ≡ k
unfolding kind_of
kind_back kind.Boolean = refl
kind_back kind.Byte = refl
kind_back kind.Short = refl
kind_back kind.Int = refl
kind_back kind.Long = refl
kind_back kind.Char = refl
kind_back kind.Float = refl
kind_back kind.Double = refl

kind_is : (one other : PrimitiveKind) → kind_number one ≡ kind_number other → one ≡ other
kind_is one other h = sym (kind_back one) ∙ ap kind_of h ∙ kind_back other

element_from : (one other : ElementRef) → one.unit ≡ other.unit → one.path ≡ other.path → one ≡ other
element_from one other unit path =
    let with_unit : List ℕ → ElementRef = λ u. record { unit = u; path = one.path } in
    let with_path : List ℕ → ElementRef = λ p. record { unit = other.unit; path = p } in
    ap with_unit unit ∙ ap with_path path

element_are : (one other : ElementRef) (r s : List ℕ) → element_key one ++ r ≡ element_key other ++ s → (one ≡ other) × (r ≡ s)
element_are one other r s h =
    let units = counted_are one.unit other.unit (counted one.path ++ r) (counted other.path ++ s)
    (sym (append_assoc (counted one.unit) (counted one.path) r) ∙ h ∙ append_assoc (counted other.unit) (counted other.path) s) in
    let paths = counted_are one.path other.path r s units.1 in
    (element_from one other units.0 paths.0, paths.1)

-- no other element has the same key
pub element_is : (one other : ElementRef) → element_key one ≡ element_key other → one ≡ other
element_is one other h =
    let units = counted_are one.unit other.unit (counted one.path) (counted other.path) h in
    element_from one other units.0 (counted_is one.path other.path units.1)

all_are : (ones others : List ElementRef) (r s : List ℕ) → length ones ≡ length others
    → flat_map element_key ones ++ r ≡ flat_map element_key others ++ s → (ones ≡ others) × (r ≡ s)
all_are [] [] r s e h = (refl, h)
all_are [] (other ∷ others) r s e h = absurd (omega arith)
all_are (one ∷ ones) [] r s e h = absurd (omega arith)
all_are (one ∷ ones) (other ∷ others) r s e h =
    let here = element_are one other (flat_map element_key ones ++ r) (flat_map element_key others ++ s)
    (sym (append_assoc (element_key one) (flat_map element_key ones) r) ∙ h ∙ append_assoc (element_key other) (flat_map element_key others) s) in
    let rest = all_are ones others r s (omega arith) here.1 in
    (ap (λ (x : ElementRef). x ∷ ones) here.0 ∙ ap (λ (l : List ElementRef). other ∷ l) rest.0, rest.1)

elements_are : (ones others : List ElementRef) (r s : List ℕ) → elements_key ones ++ r ≡ elements_key others ++ s → (ones ≡ others) × (r ≡ s)
elements_are ones others r s h =
    all_are ones others r s
    (head_is (length ones) (length others) (flat_map element_key ones ++ r) (flat_map element_key others ++ s) h)
    (tail_is (length ones) (length others) (flat_map element_key ones ++ r) (flat_map element_key others ++ s) h)

optional_are : (one other : Option ℕ) (r s : List ℕ) → optional_key one ++ r ≡ optional_key other ++ s → (one ≡ other) × (r ≡ s)
optional_are None None r s h = (refl, tail_is 0 0 r s h)
optional_are None (Some m) r s h = absurd cc
optional_are (Some n) None r s h = absurd cc
optional_are (Some n) (Some m) r s h =
    let rest = tail_is 1 1 (n ∷ r) (m ∷ s) h in
    (ap (λ (x : ℕ). Some x) (head_is n m r s rest), tail_is n m r s rest)

-- ---- layers

declared_is : (at at' : ElementRef) (enclosing enclosing' : Option ℕ) (arguments arguments' : List ℕ)
    → layer_key (Declared at enclosing arguments) ≡ layer_key (Declared at' enclosing' arguments') → Declared at enclosing arguments ≡ Declared at' enclosing' arguments'
declared_is at at' enclosing enclosing' arguments arguments' h =
    let below : (element_key at ++ optional_key enclosing) ++ counted arguments ≡ (element_key at' ++ optional_key enclosing') ++ counted arguments' =
    tail_is 1 1 ((element_key at ++ optional_key enclosing) ++ counted arguments) ((element_key at' ++ optional_key enclosing') ++ counted arguments') h in
    let elements = element_are at at' (optional_key enclosing ++ counted arguments) (optional_key enclosing' ++ counted arguments')
    (sym (append_assoc (element_key at) (optional_key enclosing) (counted arguments)) ∙ below ∙ append_assoc (element_key at') (optional_key enclosing') (counted arguments')) in
    let options = optional_are enclosing enclosing' (counted arguments) (counted arguments') elements.1 in
    ap (λ (x : ElementRef). Declared x enclosing arguments) elements.0
    ∙ ap (λ (x : Option ℕ). Declared at' x arguments) options.0
    ∙ ap (λ (x : List ℕ). Declared at' enclosing' x) (counted_is arguments arguments' options.1)

abbrev lists_key : List ElementRef → List ℕ → List ℕ → List ℕ
lists_key variables parameters thrown = (elements_key variables ++ counted parameters) ++ counted thrown

executable_is : (variables variables' : List ElementRef) (parameters parameters' : List ℕ) (outcome outcome' : ℕ) (thrown thrown' : List ℕ)
    → layer_key (Executable variables parameters outcome thrown) ≡ layer_key (Executable variables' parameters' outcome' thrown')
    → Executable variables parameters outcome thrown ≡ Executable variables' parameters' outcome' thrown'
executable_is variables variables' parameters parameters' outcome outcome' thrown thrown' h =
    let below : outcome ∷ lists_key variables parameters thrown ≡ outcome' ∷ lists_key variables' parameters' thrown' =
    tail_is 8 8 (outcome ∷ lists_key variables parameters thrown) (outcome' ∷ lists_key variables' parameters' thrown') h in
    let outcomes = head_is outcome outcome' (lists_key variables parameters thrown) (lists_key variables' parameters' thrown') below in
    let rest = tail_is outcome outcome' (lists_key variables parameters thrown) (lists_key variables' parameters' thrown') below in
    let elements = elements_are variables variables' (counted parameters ++ counted thrown) (counted parameters' ++ counted thrown')
    (sym (append_assoc (elements_key variables) (counted parameters) (counted thrown)) ∙ rest ∙ append_assoc (elements_key variables') (counted parameters') (counted thrown')) in
    let types = counted_are parameters parameters' (counted thrown) (counted thrown') elements.1 in
    ap (λ (x : List ElementRef). Executable x parameters outcome thrown) elements.0
    ∙ ap (λ (x : List ℕ). Executable variables' x outcome thrown) types.0
    ∙ ap (λ (x : ℕ). Executable variables' parameters' x thrown) outcomes
    ∙ ap (λ (x : List ℕ). Executable variables' parameters' outcome' x) (counted_is thrown thrown' types.1)

pub key-is : (l l' : Layer ℕ) → layer_key l ≡ layer_key l' → l ≡ l'
key-is (Primitive one) (Primitive other) h = ap (λ (k : PrimitiveKind). Primitive k)
    (kind_is one other (head_is (kind_number one) (kind_number other) [] [] (tail_is 0 0 (kind_number one ∷ []) (kind_number other ∷ []) h)))
key-is (Declared at enclosing arguments) (Declared at' enclosing' arguments') h = declared_is at at' enclosing enclosing' arguments arguments' h
key-is (Error one) (Error other) h = ap (λ (t : List ℕ). Error t) (counted_is one other (tail_is 2 2 (counted one) (counted other) h))
key-is (Variable one) (Variable other) h = ap (λ (e : ElementRef). Variable e) (element_is one other (tail_is 3 3 (element_key one) (element_key other) h))
key-is (Array item) (Array other) h = ap (λ (n : ℕ). Array n) (head_is item other [] [] (tail_is 4 4 (item ∷ []) (other ∷ []) h))
key-is Unbounded Unbounded h = refl
key-is (Extends bound) (Extends other) h = ap (λ (n : ℕ). Extends n) (head_is bound other [] [] (tail_is 6 6 (bound ∷ []) (other ∷ []) h))
key-is (Super bound) (Super other) h = ap (λ (n : ℕ). Super n) (head_is bound other [] [] (tail_is 7 7 (bound ∷ []) (other ∷ []) h))
key-is (Executable variables parameters outcome thrown) (Executable variables' parameters' outcome' thrown') h =
    executable_is variables variables' parameters parameters' outcome outcome' thrown thrown' h
key-is Nothing Nothing h = refl
key-is Void Void h = refl
key-is Null Null h = refl
key-is (Package one) (Package other) h = ap (λ (t : List ℕ). Package t) (counted_is one other (tail_is 12 12 (counted one) (counted other) h))
key-is _ _ h = absurd cc
