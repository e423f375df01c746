-- It is decided whether symbols are crowded.
use Rattle.std.proofs.Common.{◌≡◌, ℕ, zero, suc, ◌+◌, ◌<◌, ◌≤◌, Bool, false, List, [], ◌∷◌, ◌++◌, ◌⊎◌, inl, inr, length, refl, sym, ap, subst, ◌∙◌, length-append, arith}
use Rattle.std.proofs.lemmas.Bool.{false≢true}
use Rattle.apt_base.specs.Limits.{max_children}
use Rattle.decl_tree.specs.declared.declaration.TypeKind.{TypeKind}
use Rattle.decl_tree.specs.declared.declaration.TypeKind.TheVariants as kind
use Rattle.decl_grammar.specs.declared.symbol.Symbol.{Symbol}
use Rattle.decl_grammar.specs.declared.written.MemberAt.{MemberAt}
use Rattle.decl_grammar.specs.declared.written.Modifiers.{Modifiers}
use Rattle.decl_grammar.specs.declared.written.ParamAt.{ParamAt}
use Rattle.decl_grammar.specs.declared.written.TypeRest.{TypeRest}
use Rattle.decl_grammar.specs.Symbols.{operator}
use Rattle.decl_grammar.specs.TokenNames as token
use Rattle.decl_grammar.specs.Form.{Form}
use Rattle.decl_grammar.specs.Rule.{WholeAt}
use Rattle.decl_grammar.specs.Types.{type_param, type_modifiers}
use Rattle.decl_grammar.specs.Grammar.{params_from, first_params, constant, member_form, modified_form, type_rest, ordinary, Ordinary}
use Rattle.decl_grammar.specs.File.{IsPhrase}
use Rattle.decl_grammar.proofs.Heads.{Is-nil}
use Rattle.decl_grammar.proofs.Heights.{full-at}
use Rattle.decl_grammar.proofs.Knot.{IsSound}
use Rattle.decl_grammar.proofs.Law.{ordinary-sound}
use Rattle.decl_limits.specs.Children.{OpensWith, blank, NextItem, NextTypeParam, NextConstant, FurtherParam, NextParam, enum_heading, open_type, generic_name, executable_heading, Then, IsFull, ExecutableFull, member_children, MemberFull, declared_children, TypeFull, FileFull, IsCrowded}
use Rattle.file_answers.proofs.Decided.{Decided, both-decided, or-decided, same-decided, equal-decided, most-decided, less-decided, false-decided, CutWith, cut-decided, HeadWith, head-decided, one-decided, two-decided, meaning-decided, then-decided, opens-decided}
use Rattle.file_answers.proofs.Headings.{method_heading, constructor_heading, heading-split, heading-joined}
use Rattle.file_answers.proofs.ChildForms.{listed, plain-sound, plain-forms, plain-of}

-- ---- one item more

module _ {A : Type 0} (opens : ℕ) (item : Form A) (listed_sound : IsSound (listed item)) (item_sound : IsSound item) (k : ℕ) where
  -- this many items stand before the one that begins at this symbol
  abbrev ItemBegins : List Symbol → Symbol → Type 0
  ItemBegins front next = OpensWith item next × ((xs : List A) × IsPhrase (listed item) front xs × (max_children ≤ k + length xs))

  abbrev ItemBehind : List Symbol → List Symbol → Type 0
  ItemBehind front vs = (next : Symbol) × (vs ≡ next ∷ []) × ItemBegins front next

  abbrev ItemWithin : Symbol → List Symbol → Type 0
  ItemWithin opening us = (opening.sort ≡ operator opens) × CutWith us ItemBehind

  to-item : (ts : List Symbol) → HeadWith ItemWithin ts → IsFull (NextItem opens item) k ts
  to-item ts s =
      let behind = s.3.1.3 in (
        length behind.2.1.0,
        record {
          opening = s.0;
          front = s.3.1.0;
          next = behind.0;
          items = behind.2.1.0;
          parts = s.2 ∙ ap (λ (us : List Symbol). s.0 ∷ us) (s.3.1.2 ∙ ap (λ (vs : List Symbol). s.3.1.0 ++ vs) behind.1);
          is_opening = s.3.0;
          whole = behind.2.1.1;
          begins = behind.2.0;
          count = refl;
        },
        behind.2.1.2,
      )

  from-item : (ts : List Symbol) → IsFull (NextItem opens item) k ts → HeadWith ItemWithin ts
  from-item ts full =
      let f = full.1 in
      (f.opening, f.front ++ f.next ∷ [], f.parts, (f.is_opening, (f.front, f.next ∷ [], refl, (f.next, refl, (f.begins, (f.items, f.whole, subst (λ n. max_children ≤ k + n) f.count full.2))))))

  item-decided : (ts : List Symbol) → Decided (IsFull (NextItem opens item) k ts)
  item-decided ts =
      same-decided (to-item ts) (from-item ts)
      (head-decided ItemWithin (λ opening us. both-decided (equal-decided opening.sort (operator opens))
      (cut-decided us ItemBehind (λ front vs e. one-decided (ItemBegins front)
      (λ next. both-decided (opens-decided item item_sound next) (meaning-decided (listed item) listed_sound (λ xs. max_children ≤ k + length xs) front (λ xs is. most-decided max_children (k + length xs)))) vs))) ts)

-- ---- a parameter more

abbrev Written : Type 0
Written = List ParamAt × Bool

module _ (k : ℕ) where
  -- the last of the parameters so far is not of any number, and there are as many as may be
  abbrev AllBut : Written → Type 0
  AllBut x = (x.1 ≡ false) × (max_children ≤ k + length x.0)

  abbrev ParamBegins : List Symbol → Symbol → Symbol → Type 0
  ParamBegins front comma next = (comma.sort ≡ operator token.comma) × (OpensWith params_from next × ((x : Written) × IsPhrase first_params front x × AllBut x))

  abbrev ParamBehind : List Symbol → List Symbol → Type 0
  ParamBehind front vs = (comma : Symbol) × (next : Symbol) × (vs ≡ comma ∷ next ∷ []) × ParamBegins front comma next

  abbrev ParamWithin : Symbol → List Symbol → Type 0
  ParamWithin opening us = (opening.sort ≡ operator token.open_parenthesis) × CutWith us ParamBehind

  to-further : (ts : List Symbol) → HeadWith ParamWithin ts → IsFull FurtherParam k ts
  to-further ts s =
      let behind = s.3.1.3 in
      let x = behind.3.1.1.0 in (
        length x.0,
        record {
          opening = s.0;
          front = s.3.1.0;
          comma = behind.0;
          next = behind.1;
          items = x.0;
          parts = s.2 ∙ ap (λ (us : List Symbol). s.0 ∷ us) (s.3.1.2 ∙ ap (λ (vs : List Symbol). s.3.1.0 ++ vs) behind.2);
          is_opening = s.3.0;
          is_comma = behind.3.0;
          whole = subst (λ (b : Bool). IsPhrase first_params s.3.1.0 (x.0, b)) behind.3.1.1.2.0 behind.3.1.1.1;
          begins = behind.3.1.0;
          count = refl;
        },
        behind.3.1.1.2.1,
      )

  from-further : (ts : List Symbol) → IsFull FurtherParam k ts → HeadWith ParamWithin ts
  from-further ts full =
      let f = full.1 in (
        f.opening,
        f.front ++ f.comma ∷ f.next ∷ [],
        f.parts,
        (f.is_opening, (f.front, f.comma ∷ f.next ∷ [], refl, (f.comma, f.next, refl, (f.is_comma, (f.begins, ((f.items, false), f.whole, (refl, subst (λ n. max_children ≤ k + n) f.count full.2))))))),
      )

  further-decided : (ts : List Symbol) → Decided (IsFull FurtherParam k ts)
  further-decided ts =
      same-decided (to-further ts) (from-further ts)
      (head-decided ParamWithin (λ opening us. both-decided (equal-decided opening.sort (operator token.open_parenthesis))
      (cut-decided us ParamBehind (λ front vs e. two-decided (ParamBegins front)
      (λ comma next. both-decided (equal-decided comma.sort (operator token.comma))
      (both-decided (opens-decided params_from (plain-sound params_from plain-forms.params_from-plain) next)
      (meaning-decided first_params (plain-sound first_params plain-forms.first_params-plain) AllBut front (λ x is. both-decided (false-decided x.1) (most-decided max_children (k + length x.0)))))) vs))) ts)

-- the first parameter, directly behind the bracket
abbrev FirstThere : ℕ → Symbol → Symbol → Type 0
FirstThere k opening next = (opening.sort ≡ operator token.open_parenthesis) × (OpensWith first_params next × (max_children ≤ k + 0))

abbrev FirstFull : ℕ → List Symbol → Type 0
FirstFull k ts = (opening : Symbol) × (next : Symbol) × (ts ≡ opening ∷ next ∷ []) × FirstThere k opening next

to-param : (k : ℕ) (ts : List Symbol) → FirstFull k ts ⊎ IsFull FurtherParam k ts → IsFull NextParam k ts
to-param k ts (inl f) = (0, inl (f.0, f.1, f.2, f.3.0, f.3.1.0, refl), f.3.1.1)
to-param k ts (inr f) = (f.0, inr f.1, f.2)

from-param : (k : ℕ) (ts : List Symbol) (m : ℕ) → NextParam ts m → max_children ≤ k + m → FirstFull k ts ⊎ IsFull FurtherParam k ts
from-param k ts m (inl f) le = inl (f.0, f.1, f.2, (f.3, (f.4, subst (λ n. max_children ≤ k + n) f.5 le)))
from-param k ts m (inr f) le = inr (m, f, le)

param-decided : (k : ℕ) (ts : List Symbol) → Decided (IsFull NextParam k ts)
param-decided k ts =
    same-decided (to-param k ts) (λ full. from-param k ts full.0 full.1 full.2)
    (or-decided (two-decided (FirstThere k)
    (λ opening next. both-decided (equal-decided opening.sort (operator token.open_parenthesis))
    (both-decided (opens-decided first_params (plain-sound first_params plain-forms.first_params-plain) next) (most-decided max_children (k + 0)))) ts)
    (further-decided k ts))

-- ---- in a method or a constructor

type-param-decided : (ts : List Symbol) → Decided (IsFull NextTypeParam 0 ts)
type-param-decided ts = item-decided 14 type_param (plain-sound (listed type_param) plain-forms.type_param_row-plain) (plain-sound type_param plain-forms.type_param-plain) 0 ts

constant-decided : (ts : List Symbol) → Decided (IsFull NextConstant 0 ts)
constant-decided ts = item-decided 2 constant (plain-sound (listed constant) plain-forms.constant_row-plain) (plain-sound constant plain-forms.constant-plain) 0 ts

abbrev Headed : List Symbol → Type 0
Headed ts = Then method_heading (IsFull NextParam) ts ⊎ Then constructor_heading (IsFull NextParam) ts

to-headed : (ts : List Symbol) → Headed ts → Then executable_heading (IsFull NextParam) ts
to-headed ts (inl t) = (t.0, t.1, t.2, t.3, heading-joined t.0 t.2 (inl t.4), t.5)
to-headed ts (inr t) = (t.0, t.1, t.2, t.3, heading-joined t.0 t.2 (inr t.4), t.5)

from-headed : (ts : List Symbol) → Then executable_heading (IsFull NextParam) ts → Headed ts
from-headed ts t = go (heading-split t.0 t.2 t.4)
  where
    go : IsPhrase method_heading t.0 t.2 ⊎ IsPhrase constructor_heading t.0 t.2 → Headed ts
    go (inl is) = inl (t.0, t.1, t.2, t.3, is, t.5)
    go (inr is) = inr (t.0, t.1, t.2, t.3, is, t.5)

executable-decided : (ts : List Symbol) → Decided (ExecutableFull ts)
executable-decided ts =
    or-decided (type-param-decided ts)
    (same-decided (to-headed ts) (from-headed ts)
    (or-decided (then-decided method_heading (plain-sound method_heading plain-forms.method_heading-plain) (IsFull NextParam) ts (λ us vs k e is. param-decided k vs))
    (then-decided constructor_heading (plain-sound constructor_heading plain-forms.constructor_heading-plain) (IsFull NextParam) ts (λ us vs k e is. param-decided k vs))))

-- ---- a member

-- of one member this holds
abbrev Lone : (MemberAt → Type 0) → List MemberAt → Type 0
Lone P ms = (m : MemberAt) × (ms ≡ m ∷ []) × P m

lone-decided : (P : MemberAt → Type 0) → ((m : MemberAt) → Decided (P m)) → (ms : List MemberAt) → Decided (Lone P ms)
lone-decided P d [] = inr (λ p. absurd (let none : [] ≡ p.0 ∷ [] = p.1 in cc))
lone-decided P d (m ∷ []) = same-decided to from (d m)
  where
    to : P m → Lone P (m ∷ [])
    to p = (m, refl, p)

    head_of : List MemberAt → MemberAt
    head_of [] = m
    head_of (x ∷ xs) = x

    back : (x : MemberAt) → m ∷ [] ≡ x ∷ [] → P x → P m
    back x e p = subst P (sym (ap head_of e)) p

    from : Lone P (m ∷ []) → P m
    from l = back l.0 l.1 l.2
lone-decided P d (m ∷ n ∷ ms) = inr (λ p. absurd (let two : n ∷ ms ≡ [] = ap tail_of p.1 in cc))
  where
    tail_of : List MemberAt → List MemberAt
    tail_of [] = []
    tail_of (x ∷ xs) = xs

module _ (inside : List Symbol → Type 0) (k : TypeKind) (n : ℕ) (ts : List Symbol) (inside_decided : (us vs : List Symbol) → ts ≡ us ++ vs → Decided (inside vs)) where
  abbrev OneMore : Symbol → Type 0
  OneMore t = OpensWith (modified_form k) t × (max_children ≤ n)

  to-begins : (t : Symbol) × (ts ≡ t ∷ []) × OneMore t → (t : Symbol) × (ts ≡ t ∷ []) × OpensWith (modified_form k) t × (max_children ≤ n)
  to-begins p = (p.0, p.1, p.2.0, p.2.1)

  from-begins : (t : Symbol) × (ts ≡ t ∷ []) × OpensWith (modified_form k) t × (max_children ≤ n) → (t : Symbol) × (ts ≡ t ∷ []) × OneMore t
  from-begins p = (p.0, p.1, (p.2, p.3))

  begins-decided : Decided ((t : Symbol) × (ts ≡ t ∷ []) × OpensWith (modified_form k) t × (max_children ≤ n))
  begins-decided = same-decided to-begins from-begins (one-decided OneMore (λ t. both-decided (opens-decided (modified_form k) (plain-sound (modified_form k) (plain-of k).modified_form-plain) t) (most-decided max_children n)) ts)

  fields-decided : Decided ((ms : List MemberAt) × IsPhrase (member_form k) (ts ++ blank (operator token.semicolon) ∷ []) ms × (max_children < n + length ms))
  fields-decided = meaning-decided (member_form k) (plain-sound (member_form k) (plain-of k).member_form-plain) (λ ms. max_children < n + length ms) (ts ++ blank (operator token.semicolon) ∷ []) (λ ms is. less-decided max_children (n + length ms))

  abbrev HasMany : MemberAt → Type 0
  HasMany m = max_children < member_children m

  to-whole : (ms : List MemberAt) × IsPhrase (member_form k) ts ms × Lone HasMany ms → (m : MemberAt) × IsPhrase (member_form k) ts (m ∷ []) × (max_children < member_children m)
  to-whole p = (p.2.0, subst (λ (ms : List MemberAt). IsPhrase (member_form k) ts ms) p.2.1 p.1, p.2.2)

  from-whole : (m : MemberAt) × IsPhrase (member_form k) ts (m ∷ []) × (max_children < member_children m) → (ms : List MemberAt) × IsPhrase (member_form k) ts ms × Lone HasMany ms
  from-whole p = (p.0 ∷ [], p.1, (p.0, refl, p.2))

  whole-decided : Decided ((m : MemberAt) × IsPhrase (member_form k) ts (m ∷ []) × (max_children < member_children m))
  whole-decided =
      same-decided to-whole from-whole
      (meaning-decided (member_form k) (plain-sound (member_form k) (plain-of k).member_form-plain) (Lone HasMany) ts (λ ms is. lone-decided HasMany (λ m. less-decided max_children (member_children m)) ms))

  modified-decided : Decided (Then type_modifiers (λ (m : Modifiers) us. inside us ⊎ ExecutableFull us) ts)
  modified-decided = then-decided type_modifiers (plain-sound type_modifiers plain-forms.type_modifiers-plain) (λ (m : Modifiers) us. inside us ⊎ ExecutableFull us) ts (λ us vs m e is. or-decided (inside_decided us vs e) (executable-decided vs))

  member-decided : Decided (MemberFull inside k n ts)
  member-decided = or-decided begins-decided (or-decided fields-decided (or-decided whole-decided modified-decided))

-- ---- a type

-- a type is full, whatever stands within it
abbrev Full : List Symbol → Type 0
Full ts = (h : ℕ) × TypeFull h ts

-- what makes it so, where this holds of what stands within it
abbrev Ways : (List Symbol → Type 0) → List Symbol → Type 0
Ways inside ts =
    Then generic_name (λ x us. IsFull NextTypeParam 0 us) ts
    ⊎ (Then enum_heading (λ x us. IsFull NextConstant 0 us) ts
    ⊎ (((k : TypeKind) × Then (open_type k) (MemberFull inside k) ts)
    ⊎ ((x : TypeRest) × IsPhrase type_rest ts x × (max_children < declared_children x))))

opened-up : (h : ℕ) (ts : List Symbol) → TypeFull (suc h) ts → Ways (TypeFull h) ts
unfolding TypeFull
opened-up h ts full = full

closed-up : (h : ℕ) (ts : List Symbol) → Ways (TypeFull h) ts → TypeFull (suc h) ts
unfolding TypeFull
closed-up h ts ways = ways

no-height : (ts : List Symbol) → TypeFull zero ts → ⊥
unfolding TypeFull
no-height ts full = full

-- a member that is full by a type within it, and the height of that
lower : (k : TypeKind) (n : ℕ) (ts : List Symbol) → MemberFull Full k n ts → (h : ℕ) × MemberFull (TypeFull h) k n ts
lower k n ts (inl p) = (0, inl p)
lower k n ts (inr (inl p)) = (0, inr (inl p))
lower k n ts (inr (inr (inl p))) = (0, inr (inr (inl p)))
lower k n ts (inr (inr (inr p))) = go p.5
  where
    go : Full p.1 ⊎ ExecutableFull p.1 → (h : ℕ) × MemberFull (TypeFull h) k n ts
    go (inl full) = (full.0, inr (inr (inr (p.0, p.1, p.2, p.3, p.4, inl full.1))))
    go (inr full) = (0, inr (inr (inr (p.0, p.1, p.2, p.3, p.4, inr full))))

lift : (h : ℕ) (k : TypeKind) (n : ℕ) (ts : List Symbol) → MemberFull (TypeFull h) k n ts → MemberFull Full k n ts
lift h k n ts (inl p) = inl p
lift h k n ts (inr (inl p)) = inr (inl p)
lift h k n ts (inr (inr (inl p))) = inr (inr (inl p))
lift h k n ts (inr (inr (inr p))) = go p.5
  where
    go : TypeFull h p.1 ⊎ ExecutableFull p.1 → MemberFull Full k n ts
    go (inl full) = inr (inr (inr (p.0, p.1, p.2, p.3, p.4, inl (h, full))))
    go (inr full) = inr (inr (inr (p.0, p.1, p.2, p.3, p.4, inr full)))

to-full : (ts : List Symbol) → Ways Full ts → Full ts
to-full ts (inl w) = (1, closed-up 0 ts (inl w))
to-full ts (inr (inl w)) = (1, closed-up 0 ts (inr (inl w)))
to-full ts (inr (inr (inl w))) =
    let m = lower w.0 w.1.2 w.1.1 w.1.5 in
    (suc m.0, closed-up m.0 ts (inr (inr (inl (w.0, (w.1.0, w.1.1, w.1.2, w.1.3, w.1.4, m.1))))))
to-full ts (inr (inr (inr w))) = (1, closed-up 0 ts (inr (inr (inr w))))

lifted : (h : ℕ) (ts : List Symbol) → Ways (TypeFull h) ts → Ways Full ts
lifted h ts (inl w) = inl w
lifted h ts (inr (inl w)) = inr (inl w)
lifted h ts (inr (inr (inl w))) = inr (inr (inl (w.0, (w.1.0, w.1.1, w.1.2, w.1.3, w.1.4, lift h w.0 w.1.2 w.1.1 w.1.5))))
lifted h ts (inr (inr (inr w))) = inr (inr (inr w))

from-full : (h : ℕ) (ts : List Symbol) → TypeFull h ts → Ways Full ts
from-full zero ts full = absurd (no-height ts full)
from-full (suc h) ts full = lifted h ts (opened-up h ts full)

-- what holds of some kind of type
kinds-decided : (P : TypeKind → Type 0) → ((k : TypeKind) → Decided (P k)) → Decided ((k : TypeKind) × P k)
kinds-decided P d =
    same-decided to from (or-decided (d kind.Class) (or-decided (d kind.Interface) (or-decided (d kind.AnnotationType) (d kind.Enum))))
  where
    to : P kind.Class ⊎ (P kind.Interface ⊎ (P kind.AnnotationType ⊎ P kind.Enum)) → (k : TypeKind) × P k
    to (inl p) = (kind.Class, p)
    to (inr (inl p)) = (kind.Interface, p)
    to (inr (inr (inl p))) = (kind.AnnotationType, p)
    to (inr (inr (inr p))) = (kind.Enum, p)

    by_kind : (k : TypeKind) → P k → P kind.Class ⊎ (P kind.Interface ⊎ (P kind.AnnotationType ⊎ P kind.Enum))
    by_kind kind.Class p = inl p
    by_kind kind.Interface p = inr (inl p)
    by_kind kind.AnnotationType p = inr (inr (inl p))
    by_kind kind.Enum p = inr (inr (inr p))

    from : (k : TypeKind) × P k → P kind.Class ⊎ (P kind.Interface ⊎ (P kind.AnnotationType ⊎ P kind.Enum))
    from s = by_kind s.0 s.1

-- a type up to its members has a symbol
some-opened : (k : TypeKind) (us : List Symbol) (n : ℕ) → IsPhrase (open_type k) us n → 0 < length us
some-opened k [] n is = absurd (false≢true (sym ((plain-of k).there) ∙ Is-nil (WholeAt is.0) (full-at is.0) (open_type k) [] n refl is.1))
some-opened k (u ∷ us) n is = omega arith

-- what stands within a type is shorter
type-decided : (n : ℕ) (ts : List Symbol) → length ts < n → Decided (Full ts)
type-decided zero ts less = absurd (omega (arith, less))
type-decided (suc n) ts less = same-decided (to-full ts) (λ full. from-full full.0 ts full.1)
    (or-decided (then-decided generic_name (plain-sound generic_name plain-forms.generic_name-plain) (λ x us. IsFull NextTypeParam 0 us) ts (λ us vs x e is. type-param-decided vs))
    (or-decided (then-decided enum_heading (plain-sound enum_heading plain-forms.enum_heading-plain) (λ x us. IsFull NextConstant 0 us) ts
    (λ us vs x e is. constant-decided vs))
    (or-decided (kinds-decided (λ k. Then (open_type k) (MemberFull Full k) ts) (λ k. then-decided (open_type k) (plain-sound (open_type k) (plain-of k).open_type-plain) (MemberFull Full k) ts
    (λ us vs m e is. member-decided Full k m vs (λ xs ys s.
    type-decided n ys (omega (arith, less, ap length e, length-append us vs, ap length s, length-append xs ys, some-opened k us m is))))))
    (meaning-decided type_rest (plain-sound type_rest plain-forms.type_rest-plain) (λ x. max_children < declared_children x) ts (λ x is. less-decided max_children (declared_children x))))))

-- ---- a file

file-decided : (ts : List Symbol) → Decided (FileFull ts)
file-decided ts = then-decided ordinary ordinary-sound (λ (x : Ordinary) us. Then type_modifiers (λ (m : Modifiers) vs. (h : ℕ) × TypeFull h vs) us) ts
    (λ us vs x e is. then-decided type_modifiers (plain-sound type_modifiers plain-forms.type_modifiers-plain) (λ (m : Modifiers) ws. (h : ℕ) × TypeFull h ws) vs (λ xs ys m s has. type-decided (suc (length ys)) ys (omega arith)))

pub crowded-decided : (ts : List Symbol) → Decided (IsCrowded ts)
crowded-decided ts = cut-decided ts (λ us vs. FileFull us) (λ us vs e. file-decided us)
