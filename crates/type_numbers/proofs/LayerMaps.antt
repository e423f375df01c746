-- Layers with something else in the place of each number: what is known of all that a layer holds decides them.
use Rattle.std.proofs.Common.{◌≡◌, ◌<◌, ℕ, zero, suc, List, [], ◌∷◌, ◌++◌, length, get_or, map, Option, Some, None, refl, ap, ◌∙◌, arith}
use Rattle.std.specs.List.{AllByRecursion}
use Rattle.std.specs.Option.{option_map, option_to_list}
use Rattle.apt_base.specs.declared.element.ElementRef.{ElementRef}
use Rattle.type_mirror.specs.declared.mirror.PrimitiveKind.{PrimitiveKind}
use Rattle.type_layers.specs.Layers.{Layer, Primitive, Declared, Error, Variable, Array, Unbounded, Extends, Super, Executable, Nothing, Void, Null, Package, map_layer, parts_of}
use Rattle.type_layers.proofs.LayerLaws.{AllParts}

-- ---- what holds of all parts

pub all_split : {M : Type 0} (P : M → Type 0) (xs ys : List M) → AllByRecursion P (xs ++ ys) → AllByRecursion P xs × AllByRecursion P ys
all_split P [] ys all = (tt, all)
all_split P (x ∷ xs) ys all = let rest = all_split P xs ys all.1 in ((all.0, rest.0), rest.1)

pub all_joined : {M : Type 0} (P : M → Type 0) (xs ys : List M) → AllByRecursion P xs → AllByRecursion P ys → AllByRecursion P (xs ++ ys)
all_joined P [] ys here there = there
all_joined P (x ∷ xs) ys here there = (here.0, all_joined P xs ys here.1 there)

pub all_given : {M : Type 0} (P Q : M → Type 0) (xs : List M) → ((x : M) → P x → Q x) → AllByRecursion P xs → AllByRecursion Q xs
all_given P Q [] gives all = tt
all_given P Q (x ∷ xs) gives all = (gives x all.0, all_given P Q xs gives all.1)

pub all-at : {M : Type 0} (P : M → Type 0) (xs : List M) (i : ℕ) (d : M) → AllByRecursion P xs → i < length xs → P (get_or xs i d)
all-at P [] i d all h = absurd (omega arith)
all-at P (x ∷ xs) zero d all h = all.0
all-at P (x ∷ xs) (suc i) d all h = all-at P xs i d all.1 (omega arith)

pub parts-split : {M : Type 0} (P : M → Type 0) (l : Layer M) → AllByRecursion P (parts_of l) → AllParts P l
parts-split P (Declared at enclosing arguments) all = all_split P (option_to_list enclosing) arguments all
parts-split P (Array item) all = all.0
parts-split P (Extends bound) all = all.0
parts-split P (Super bound) all = all.0
parts-split P (Executable variables parameters outcome thrown) all = all_split P parameters (outcome ∷ thrown) all
parts-split P (Primitive kind) all = tt
parts-split P (Error text) all = tt
parts-split P (Variable at) all = tt
parts-split P Unbounded all = tt
parts-split P Nothing all = tt
parts-split P Void all = tt
parts-split P Null all = tt
parts-split P (Package name) all = tt

-- ---- two functions that agree on all parts

module _ {A B : Type 0} (f g : A → B) where
  abbrev Agree : A → Type 0
  Agree x = f x ≡ g x

  maps_agree : (xs : List A) → AllByRecursion Agree xs → map f xs ≡ map g xs
  maps_agree [] all = refl
  maps_agree (x ∷ xs) all = ap (λ (y : B). y ∷ map f xs) all.0 ∙ ap (λ (ys : List B). g x ∷ ys) (maps_agree xs all.1)

  options_agree : (x : Option A) → AllByRecursion Agree (option_to_list x) → option_map f x ≡ option_map g x
  options_agree None all = refl
  options_agree (Some x) all = ap (λ (y : B). Some y) all.0

  layers_agree : (l : Layer A) → AllParts Agree l → map_layer f l ≡ map_layer g l
  layers_agree (Declared at enclosing arguments) all =
      ap (λ (x : Option B). Declared at x (map f arguments)) (options_agree enclosing all.0)
      ∙ ap (λ (xs : List B). Declared at (option_map g enclosing) xs) (maps_agree arguments all.1)
  layers_agree (Array item) all = ap (λ (x : B). Array x) all
  layers_agree (Extends bound) all = ap (λ (x : B). Extends x) all
  layers_agree (Super bound) all = ap (λ (x : B). Super x) all
  layers_agree (Executable variables parameters outcome thrown) all =
      ap (λ (xs : List B). Executable variables xs (f outcome) (map f thrown)) (maps_agree parameters all.0)
      ∙ ap (λ (x : B). Executable variables (map g parameters) x (map f thrown)) all.1.0
      ∙ ap (λ (xs : List B). Executable variables (map g parameters) (g outcome) xs) (maps_agree thrown all.1.1)
  layers_agree (Primitive kind) all = refl
  layers_agree (Error text) all = refl
  layers_agree (Variable at) all = refl
  layers_agree Unbounded all = refl
  layers_agree Nothing all = refl
  layers_agree Void all = refl
  layers_agree Null all = refl
  layers_agree (Package name) all = refl

  pub map_layer-agree : (l : Layer A) → AllByRecursion (λ x. f x ≡ g x) (parts_of l) → map_layer f l ≡ map_layer g l
  map_layer-agree l all = layers_agree l (parts-split Agree l all)

-- ---- one function that tells apart what is known

module _ {A B : Type 0} (f : A → B) (Known : A → Type 0) (apart : (x y : A) → Known x → Known y → f x ≡ f y → x ≡ y) where
  lists_one : (xs ys : List A) → AllByRecursion Known xs → AllByRecursion Known ys → map f xs ≡ map f ys → xs ≡ ys
  lists_one [] [] all all' h = refl
  lists_one [] (y ∷ ys) all all' h = absurd cc
  lists_one (x ∷ xs) [] all all' h = absurd cc
  lists_one (x ∷ xs) (y ∷ ys) all all' h =
      let here : f x ≡ f y = cc in
      let rest : map f xs ≡ map f ys = cc in
      ap (λ (z : A). z ∷ xs) (apart x y all.0 all'.0 here) ∙ ap (λ (zs : List A). y ∷ zs) (lists_one xs ys all.1 all'.1 rest)

  options_one : (x y : Option A) → AllByRecursion Known (option_to_list x) → AllByRecursion Known (option_to_list y) → option_map f x ≡ option_map f y → x ≡ y
  options_one None None all all' h = refl
  options_one None (Some y) all all' h = absurd cc
  options_one (Some x) None all all' h = absurd cc
  options_one (Some x) (Some y) all all' h =
      let here : f x ≡ f y = cc in
      ap (λ (z : A). Some z) (apart x y all.0 all'.0 here)

  declared_one : (at at' : ElementRef) (enclosing enclosing' : Option A) (arguments arguments' : List A)
      → AllParts Known (Declared at enclosing arguments) → AllParts Known (Declared at' enclosing' arguments')
      → map_layer f (Declared at enclosing arguments) ≡ map_layer f (Declared at' enclosing' arguments')
      → Declared at enclosing arguments ≡ Declared at' enclosing' arguments'
  declared_one at at' enclosing enclosing' arguments arguments' all all' h =
      let elements : at ≡ at' = cc in
      let options : option_map f enclosing ≡ option_map f enclosing' = cc in
      let lists : map f arguments ≡ map f arguments' = cc in
      ap (λ (x : ElementRef). Declared x enclosing arguments) elements
      ∙ ap (λ (x : Option A). Declared at' x arguments) (options_one enclosing enclosing' all.0 all'.0 options)
      ∙ ap (λ (x : List A). Declared at' enclosing' x) (lists_one arguments arguments' all.1 all'.1 lists)

  executable_one : (variables variables' : List ElementRef) (parameters parameters' : List A) (outcome outcome' : A) (thrown thrown' : List A)
      → AllParts Known (Executable variables parameters outcome thrown) → AllParts Known (Executable variables' parameters' outcome' thrown')
      → map_layer f (Executable variables parameters outcome thrown) ≡ map_layer f (Executable variables' parameters' outcome' thrown')
      → Executable variables parameters outcome thrown ≡ Executable variables' parameters' outcome' thrown'
  executable_one variables variables' parameters parameters' outcome outcome' thrown thrown' all all' h =
      let elements : variables ≡ variables' = cc in
      let types : map f parameters ≡ map f parameters' = cc in
      let outcomes : f outcome ≡ f outcome' = cc in
      let lists : map f thrown ≡ map f thrown' = cc in
      ap (λ (x : List ElementRef). Executable x parameters outcome thrown) elements
      ∙ ap (λ (x : List A). Executable variables' x outcome thrown) (lists_one parameters parameters' all.0 all'.0 types)
      ∙ ap (λ (x : A). Executable variables' parameters' x thrown) (apart outcome outcome' all.1.0 all'.1.0 outcomes)
      ∙ ap (λ (x : List A). Executable variables' parameters' outcome' x) (lists_one thrown thrown' all.1.1 all'.1.1 lists)

  layers_one : (l l' : Layer A) → AllParts Known l → AllParts Known l' → map_layer f l ≡ map_layer f l' → l ≡ l'
  layers_one (Primitive one) (Primitive other) all all' h = let kinds : one ≡ other = cc in ap (λ (k : PrimitiveKind). Primitive k) kinds
  layers_one (Declared at enclosing arguments) (Declared at' enclosing' arguments') all all' h = declared_one at at' enclosing enclosing' arguments arguments' all all' h
  layers_one (Error one) (Error other) all all' h = let texts : one ≡ other = cc in ap (λ (t : List ℕ). Error t) texts
  layers_one (Variable one) (Variable other) all all' h = let elements : one ≡ other = cc in ap (λ (e : ElementRef). Variable e) elements
  layers_one (Array item) (Array other) all all' h = let here : f item ≡ f other = cc in ap (λ (x : A). Array x) (apart item other all all' here)
  layers_one Unbounded Unbounded all all' h = refl
  layers_one (Extends bound) (Extends other) all all' h = let here : f bound ≡ f other = cc in ap (λ (x : A). Extends x) (apart bound other all all' here)
  layers_one (Super bound) (Super other) all all' h = let here : f bound ≡ f other = cc in ap (λ (x : A). Super x) (apart bound other all all' here)
  layers_one (Executable variables parameters outcome thrown) (Executable variables' parameters' outcome' thrown') all all' h =
      executable_one variables variables' parameters parameters' outcome outcome' thrown thrown' all all' h
  layers_one Nothing Nothing all all' h = refl
  layers_one Void Void all all' h = refl
  layers_one Null Null all all' h = refl
  layers_one (Package one) (Package other) all all' h = let texts : one ≡ other = cc in ap (λ (t : List ℕ). Package t) texts
  layers_one _ _ all all' h = absurd cc

  pub map_layer-one : (l l' : Layer A) → AllByRecursion Known (parts_of l) → AllByRecursion Known (parts_of l') → map_layer f l ≡ map_layer f l' → l ≡ l'
  map_layer-one l l' all all' h = layers_one l l' (parts-split Known l all) (parts-split Known l' all') h
