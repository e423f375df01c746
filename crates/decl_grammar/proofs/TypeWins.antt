-- Of the two readings behind a name the type is the one that counts where it is whole up to its `::`.
use Rattle.std.proofs.Common.{◌≡◌, ℕ, ◌<◌, ◌≤◌, arith, Bool, true, false, cond, List, [], ◌∷◌, ◌++◌, ◌⊎◌, length, length-append, refl, sym, ap, subst, ◌∙◌, append_assoc, inl, inr, ⊎_elim}
use Rattle.std.specs.Prelude.{nat_le}
use Rattle.std.proofs.lemmas.List.{append-nil}
use Rattle.decl_grammar.specs.declared.symbol.Symbol.{Symbol}
use Rattle.decl_grammar.specs.Symbols.{numbers, operator}
use Rattle.decl_grammar.specs.TokenNames as token
use Rattle.decl_grammar.specs.Reading.{starts, Outcome, done, fault, deep, left, ◌>>=◌}
use Rattle.decl_grammar.specs.Form.{Stands, Freedom, Rest, freedom_in, is_value, alone, paired, listed, defaulted, assigned, strict, conditional, anywhere, between, colons, one_of, type_reference, expression_part, expression_rest, Form, Is, Begins, attempted, failed_at, further_of, turned}
use Rattle.decl_grammar.specs.Expressions.{part_symbols, with_symbols, step, two_readings}
use Rattle.decl_grammar.specs.Rule.{read_nest, reads}
use Rattle.decl_grammar.proofs.OneToken.{ok}
use Rattle.decl_grammar.proofs.Heads.{Is-begins}
use Rattle.decl_grammar.proofs.Fronts.{cuts, Begins-front}
use Rattle.decl_grammar.proofs.Told.{Told, told}
use Rattle.decl_grammar.proofs.Rivals.{fair-plain}
use Rattle.decl_grammar.proofs.Attempts.{Passes}
use Rattle.decl_grammar.proofs.Complete.{Comes, complete}
use Rattle.decl_grammar.proofs.Heights.{Whole, Started, full-any, begins-any, fronts-any}
use Rattle.decl_grammar.proofs.OpenBrackets.{leads-same}
use Rattle.decl_grammar.proofs.Effects.{in_brackets, level, closing, Levels}
use Rattle.decl_grammar.proofs.EffectLemmas.{form-levels}
use Rattle.decl_grammar.proofs.Closed.{levels-any}
use Rattle.decl_grammar.proofs.Values.{values-past}
use Rattle.decl_grammar.proofs.RowPasses.{Reached}
use Rattle.decl_grammar.proofs.TypeRivals.{type-split, less-reached, less-past, same-begun, rest-begun, part-itself, type-rivals}
use Rattle.decl_grammar.proofs.RuleFair.{fair}
use Rattle.decl_grammar.proofs.Knot.{IsSound, bounded-at, known-any, inside-any, passes-any}

-- the two readings
abbrev Typed : (s : Stands) → Freedom → Form (Rest s)
Typed s w = step s type_reference w colons

abbrev Compared : (s : Stands) → Freedom → Form (Rest s)
Compared s w = step s (one_of (operator token.less_than ∷ [])) w between

typed-ok : (s : Stands) (w : Freedom) → ok (Typed s (freedom_in s w)) ≡ true
unfolding numbers step part_symbols
typed-ok alone strict = refl
typed-ok alone (conditional n) = refl
typed-ok alone anywhere = refl
typed-ok paired strict = refl
typed-ok paired (conditional n) = refl
typed-ok paired anywhere = refl
typed-ok listed strict = refl
typed-ok listed (conditional n) = refl
typed-ok listed anywhere = refl
typed-ok defaulted strict = refl
typed-ok defaulted (conditional n) = refl
typed-ok defaulted anywhere = refl
typed-ok assigned w = refl

typed-fair : (s : Stands) (w : Freedom) → IsSound (Typed s (freedom_in s w))
unfolding step part_symbols
typed-fair s w = (typed-ok s w, fair-plain Whole Started (Typed s (freedom_in s w)) refl, fair)

pub told-reads : {A : Type 0} (f : Form A) (room : ℕ) (ts : List Symbol) → Told room Whole Started f ts (reads room f ts)
told-reads f room ts = told room Whole Started (read_nest room) (known-any room).told f ts

-- what is known where the type is whole in front of this rest, and the reading behind it fails here
record Fails (s : Stands) (w : Freedom) (room : ℕ) (ts us rest at : List Symbol) : Type 0 where
  parts : ts ≡ us ++ rest
  whole : Whole (expression_part s type_reference) us tt
  fails : reads room (Typed s (freedom_in s w)) ts ≡ fault at
  there : length at ≤ length rest

-- what begins the type and what stands behind it is in front of the fault, and not too deep
front-within : (s : Stands) (w : Freedom) (room : ℕ) (ts us rest at : List Symbol) → Fails s w room ts us rest at → (c vs : List Symbol) (n : ℕ) → ts ≡ c ++ vs → Begins Whole Started (Typed s (freedom_in s w)) c n → (length at ≤ length vs) × (n ≤ room)
front-within s w room ts us rest at f c vs n e b =
    go (reads room (Typed s (freedom_in s w)) ts) f.fails
    (subst (λ (u : List Symbol). Passes room n vs (reads room (Typed s (freedom_in s w)) u)) (sym e) (passes-any (Typed s (freedom_in s w)) (typed-fair s w) room c n vs b))
  where
    go : (o : Outcome (Rest s)) → o ≡ fault at → Passes room n vs o → (length at ≤ length vs) × (n ≤ room)
    go (fault to) z (inl p) = let y : to ≡ at = cc in (subst (λ (u : List Symbol). length u ≤ length vs) y p.0, p.1)
    go (fault to) z (inr p) = absurd (let y = p.1 in cc)
    go (done x to) z p = absurd cc
    go (deep to) z p = absurd cc

typed-there : (s : Stands) (w : Freedom) (us : List Symbol) → Whole (expression_part s type_reference) us tt → Begins Whole Started (Typed s w) us 0
unfolding step
typed-there s w us whole = inr (us, [], us, sym (append-nil us), part-itself s us tt whole, inl (refl, refl))

typed-behind : (us : List Symbol) (r : Symbol) (rs : List Symbol) (n : ℕ) → Whole (expression_part assigned type_reference) us tt → Reached (r ∷ rs) n → Begins Whole Started (Typed assigned anywhere) (us ++ r ∷ rs) n
typed-behind us r rs n whole c = rest-begun (us ++ r ∷ rs) us r rs n refl (part-itself assigned us tt whole) (same-begun c.0 (r ∷ rs) n c.1)

-- a comparison that goes on behind the whole type, in an initialiser
compared-behind : (us : List Symbol) (r : Symbol) (rs : List Symbol) (n : ℕ) → Whole (expression_part assigned type_reference) us tt → Begins Whole Started (Compared assigned anywhere) (us ++ r ∷ rs) n → Begins Whole Started (Typed assigned anywhere) (us ++ r ∷ rs) n
compared-behind us r rs n whole b =
    let t = type-split assigned us tt whole in
    typed-behind us r rs n whole (less-reached t.0 t.1 r rs n t.3 (subst (λ (u : List Symbol). Begins Whole Started (Compared assigned anywhere) (u ++ r ∷ rs) n) t.2 b))

further-first : (at to : List Symbol) → length at ≤ length to → further_of at to ≡ at
further-first at to le = go (nat_le (length at) (length to)) refl
  where
    go : (c : Bool) → nat_le (length at) (length to) ≡ c → cond c at to ≡ at
    go true e = refl
    go false e = absurd (grind (arith, e, le))

-- ---- the other reading fails, and not further on

past-value : (s : Stands) → is_value s ≡ true → (w : Freedom) (us d c : List Symbol) (n : ℕ) → Whole (expression_part s type_reference) us tt → c ≡ us ++ d → Begins Whole Started (Compared s w) c n → ⊥
past-value s e w us d c n whole z b = values-past s e w us d tt n whole (subst (λ (u : List Symbol). Begins Whole Started (Compared s w) u n) z b)

-- what begins the comparison behind the type begins the type's reading too
behind-both : (s : Stands) (w : Freedom) (us d c : List Symbol) (n : ℕ) → Whole (expression_part s type_reference) us tt → c ≡ us ++ d → Begins Whole Started (Compared s (freedom_in s w)) c n → (d ≡ []) ⊎ Begins Whole Started (Typed s (freedom_in s w)) c n
behind-both alone w us d c n whole z b = absurd (past-value alone refl w us d c n whole z b)
behind-both paired w us d c n whole z b = absurd (past-value paired refl w us d c n whole z b)
behind-both listed w us d c n whole z b = absurd (past-value listed refl w us d c n whole z b)
behind-both defaulted w us d c n whole z b = absurd (past-value defaulted refl w us d c n whole z b)
behind-both assigned w us [] c n whole z b = inl refl
behind-both assigned w us (r ∷ rs) c n whole z b =
    inr (subst (λ (u : List Symbol). Begins Whole Started (Typed assigned anywhere) u n) (sym z) (compared-behind us r rs n whole (subst (λ (u : List Symbol). Begins Whole Started (Compared assigned anywhere) u n) z b)))

other-fault : (s : Stands) (w : Freedom) (room : ℕ) (ts us rest at : List Symbol) → Fails s w room ts us rest at → (c to : List Symbol) (n : ℕ) → ts ≡ c ++ to → Begins Whole Started (Compared s (freedom_in s w)) c n → length at ≤ length to
other-fault s w room ts us rest at f c to n e b =
    ⊎_elim
    (λ (p : (d : List Symbol) × (c ≡ us ++ d) × (rest ≡ d ++ to)).
    ⊎_elim
    (λ (z : p.0 ≡ []). omega (arith, f.there, ap length (p.2 ∙ ap (λ (u : List Symbol). u ++ to) z)))
    (λ (q : Begins Whole Started (Typed s (freedom_in s w)) c n). (front-within s w room ts us rest at f c to n e q).0)
    (behind-both s w us p.0 c n f.whole p.1 b))
    (λ (p : (d : List Symbol) × (us ≡ c ++ d) × (to ≡ d ++ rest)). omega (arith, f.there, ap length p.2, length-append p.0 rest))
    (cuts us rest c to (sym f.parts ∙ e))

other-deep : (s : Stands) (w : Freedom) (room : ℕ) (ts us rest at : List Symbol) → Fails s w room ts us rest at → (c vs : List Symbol) (n : ℕ) → ts ≡ c ++ vs → room < n → Begins Whole Started (Compared s (freedom_in s w)) c n → ⊥
other-deep s w room ts us rest at f c vs n e lt b =
    ⊎_elim
    (λ (p : (d : List Symbol) × (c ≡ us ++ d) × (rest ≡ d ++ vs)).
    ⊎_elim
    (λ (z : p.0 ≡ []). begun-both 0 (subst (λ (u : List Symbol). Begins Whole Started (Typed s (freedom_in s w)) u 0) (sym (p.1 ∙ ap (λ (u : List Symbol). us ++ u) z ∙ append-nil us)) (typed-there s (freedom_in s w) us f.whole)))
    (λ (q : Begins Whole Started (Typed s (freedom_in s w)) c n). omega (arith, lt, (front-within s w room ts us rest at f c vs n e q).1))
    (behind-both s w us p.0 c n f.whole p.1 b))
    (λ (p : (d : List Symbol) × (us ≡ c ++ d) × (vs ≡ d ++ rest)).
    let q = Begins-front Whole Started full-any begins-any fronts-any (Typed s (freedom_in s w)) us c p.0 0 p.1 (typed-there s (freedom_in s w) us f.whole) in
    begun-both q.0 q.1)
    (cuts us rest c vs (sym f.parts ∙ e))
  where
    begun-both : (m : ℕ) → Begins Whole Started (Typed s (freedom_in s w)) c m → ⊥
    begun-both m q =
        let k = (type-rivals s w).dominated c m n q b in
        omega (arith, lt, k.1, (front-within s w room ts us rest at f c vs k.0 e k.2).1)

no-list : (k : ℕ) → k ∷ [] ≡ [] → ⊥
no-list k e = cc

-- a whole type is no whole initialiser
not-row : (us : List Symbol) (x : Rest assigned) → Whole (expression_part assigned type_reference) us tt → Is Whole (Compared assigned anywhere) us x → ⊥
unfolding step part_symbols
not-row us x whole is =
    let l : Levels in_brackets level us = levels-any in_brackets (expression_part assigned type_reference) us tt whole in
    let c : Levels in_brackets (closing 67) us = form-levels Whole levels-any in_brackets (Compared assigned anywhere) us x is in
    no-list 67 (leads-same us (67 ∷ []) (67 ∷ []) [] (l 67 [] refl) (c []))

not-whole : (s : Stands) (w : Freedom) (us : List Symbol) (x : Rest s) → Whole (expression_part s type_reference) us tt → Is Whole (Compared s (freedom_in s w)) us x → ⊥
not-whole alone w us x whole is = let b = Is-begins Whole Started full-any begins-any (Compared alone w) us x is in past-value alone refl w us [] us b.0 whole (sym (append-nil us)) b.1
not-whole paired w us x whole is = let b = Is-begins Whole Started full-any begins-any (Compared paired w) us x is in past-value paired refl w us [] us b.0 whole (sym (append-nil us)) b.1
not-whole listed w us x whole is = let b = Is-begins Whole Started full-any begins-any (Compared listed w) us x is in past-value listed refl w us [] us b.0 whole (sym (append-nil us)) b.1
not-whole defaulted w us x whole is = let b = Is-begins Whole Started full-any begins-any (Compared defaulted w) us x is in past-value defaulted refl w us [] us b.0 whole (sym (append-nil us)) b.1
not-whole assigned w us x whole is = not-row us x whole is

-- an initialiser that goes on behind the type and is whole is whole as the type's reading
past-whole : (s : Stands) (w : Freedom) (us : List Symbol) (r : Symbol) (rs : List Symbol) (x : Rest s) → Whole (expression_part s type_reference) us tt → Is Whole (Compared s (freedom_in s w)) (us ++ r ∷ rs) x → (y : Rest s) × Is Whole (Typed s (freedom_in s w)) (us ++ r ∷ rs) y
past-whole alone w us r rs x whole is = let b = Is-begins Whole Started full-any begins-any (Compared alone w) (us ++ r ∷ rs) x is in absurd (past-value alone refl w us (r ∷ rs) (us ++ r ∷ rs) b.0 whole refl b.1)
past-whole paired w us r rs x whole is = let b = Is-begins Whole Started full-any begins-any (Compared paired w) (us ++ r ∷ rs) x is in absurd (past-value paired refl w us (r ∷ rs) (us ++ r ∷ rs) b.0 whole refl b.1)
past-whole listed w us r rs x whole is = let b = Is-begins Whole Started full-any begins-any (Compared listed w) (us ++ r ∷ rs) x is in absurd (past-value listed refl w us (r ∷ rs) (us ++ r ∷ rs) b.0 whole refl b.1)
past-whole defaulted w us r rs x whole is = let b = Is-begins Whole Started full-any begins-any (Compared defaulted w) (us ++ r ∷ rs) x is in absurd (past-value defaulted refl w us (r ∷ rs) (us ++ r ∷ rs) b.0 whole refl b.1)
past-whole assigned w us r rs x whole is = less-past us r rs x whole is

none-starts : (vs : List Symbol) → starts [] vs ≡ false
none-starts [] = refl
none-starts (t ∷ vs) = refl

other-done : (s : Stands) (w : Freedom) (room : ℕ) (ts us rest at : List Symbol) → Fails s w room ts us rest at → (c vs : List Symbol) (x : Rest s) → ts ≡ c ++ vs → Is Whole (Compared s (freedom_in s w)) c x → ⊥
unfolding step part_symbols
other-done s w room ts us rest at f c vs x e is =
    ⊎_elim
    (λ (p : (d : List Symbol) × (c ≡ us ++ d) × (rest ≡ d ++ vs)). behind p.0 p.1)
    (λ (p : (d : List Symbol) × (us ≡ c ++ d) × (vs ≡ d ++ rest)).
    let none : p.0 ≡ [] = (type-rivals s w).other_ends c p.0 x 0 is (subst (λ (u : List Symbol). Begins Whole Started (Typed s (freedom_in s w)) u 0) p.1 (typed-there s (freedom_in s w) us f.whole)) in
    let same : c ≡ us = sym (p.1 ∙ ap (λ (u : List Symbol). c ++ u) none ∙ append-nil c) in
    not-whole s w us x f.whole (subst (λ (u : List Symbol). Is Whole (Compared s (freedom_in s w)) u x) same is))
    (cuts us rest c vs (sym f.parts ∙ e))
  where
    clash : (o : Outcome (Rest s)) (y : Rest s) → o ≡ fault at → Comes y vs o → ⊥
    clash o y z (inl q) = cc
    clash o y z (inr q) = let k = q.1 in cc

    behind : (d : List Symbol) → c ≡ us ++ d → ⊥
    behind [] z = not-whole s w us x f.whole (subst (λ (u : List Symbol). Is Whole (Compared s (freedom_in s w)) u x) (z ∙ append-nil us) is)
    behind (r ∷ rs) z =
        let y = past-whole s w us r rs x f.whole (subst (λ (u : List Symbol). Is Whole (Compared s (freedom_in s w)) u x) z is) in
        let k = complete Whole Whole Started room (read_nest room) (inside-any fair room) (Typed s (freedom_in s w)) (typed-ok s w) (typed-fair s w).1 (us ++ r ∷ rs) y.0 vs (none-starts vs) y.1 in
        clash (reads room (Typed s (freedom_in s w)) ts) y.0 f.fails (subst (λ (u : List Symbol). Comes y.0 vs (reads room (Typed s (freedom_in s w)) u)) (ap (λ (u : List Symbol). u ++ vs) (sym z) ∙ sym e) k)

-- so the place of the fault is that behind the type
other-later : (s : Stands) (w : Freedom) (room : ℕ) (ts us rest at : List Symbol) → Fails s w room ts us rest at → (o : Outcome (Rest s)) → Told room Whole Started (Compared s (freedom_in s w)) ts o → failed_at at o ≡ fault at
other-later s w room ts us rest at f (done x to) t = absurd (other-done s w room ts us rest at f t.0 to x t.1 t.2)
other-later s w room ts us rest at f (fault to) t = ap (λ (u : List Symbol). fault u) (further-first at to (other-fault s w room ts us rest at f t.0 to t.2 t.1 t.3))
other-later s w room ts us rest at f (deep to) t = absurd (other-deep s w room ts us rest at f (t.0 ++ t.1 ∷ []) t.2 t.5 (t.4 ∙ sym (append_assoc t.0 (t.1 ∷ []) t.2)) t.6 t.7)

part-whole : (s : Stands) (us ps : List Symbol) → Is Whole (part_symbols s type_reference) us ps → Whole (expression_part s type_reference) us tt
unfolding part_symbols
part-whole s us ps is = is.1.0

-- ---- the law

-- a reading behind the type
abbrev Behind : (s : Stands) → Freedom → ℕ → List Symbol → List Symbol → Outcome (Rest s)
Behind s w room ps rest = turned (λ y. with_symbols (ps, y)) (read_nest room (expression_rest s w colons) rest)

typed-reads : (s : Stands) (w : Freedom) (room : ℕ) (ts ps rest : List Symbol) → reads room (part_symbols s type_reference) ts ≡ done ps rest → reads room (Typed s w) ts ≡ Behind s w room ps rest
unfolding step
typed-reads s w room ts ps rest e = rw e (joined (read_nest room (expression_rest s w colons) rest))
  where
    joined : (o : Outcome (Rest s)) → ((o >>= λ y after. done (ps, y) after) >>= λ x rest. done (with_symbols x) rest) ≡ turned (λ y. with_symbols (ps, y)) o
    joined (done y after) = refl
    joined (fault at) = refl
    joined (deep at) = refl

behind-within : (s : Stands) (w : Freedom) (room : ℕ) (ps rest at : List Symbol) → Behind s w room ps rest ≡ fault at → length at ≤ length rest
behind-within s w room ps rest at z = go (read_nest room (expression_rest s w colons) rest) (bounded-at room (expression_rest s w colons) rest) z
  where
    go : (o : Outcome (Rest s)) → length (left o) ≤ length rest → turned (λ y. with_symbols (ps, y)) o ≡ fault at → length at ≤ length rest
    go (fault to) le z = let y : to ≡ at = cc in subst (λ (u : List Symbol). length u ≤ length rest) y le
    go (done x to) le z = absurd cc
    go (deep to) le z = absurd cc

-- Where the arguments of a type are read up to the `::` behind it, what is read is what stands behind that.
pub type-wins : (s : Stands) (w : Freedom) (room : ℕ) (ts ps rest : List Symbol) → reads room (part_symbols s type_reference) ts ≡ done ps rest
    → reads room (two_readings s (freedom_in s w)) ts ≡ Behind s (freedom_in s w) room ps rest
unfolding two_readings
type-wins s w room ts ps rest e =
    ap (λ (o : Outcome (Rest s)). attempted o (reads room (Compared s (freedom_in s w)) ts)) (typed-reads s (freedom_in s w) room ts ps rest e)
    ∙ go (Behind s (freedom_in s w) room ps rest) refl
  where
    whole-part : Told room Whole Started (part_symbols s type_reference) ts (done ps rest)
    whole-part = subst (λ (o : Outcome (List Symbol)). Told room Whole Started (part_symbols s type_reference) ts o) e (told-reads (part_symbols s type_reference) room ts)

    later : (at : List Symbol) → Behind s (freedom_in s w) room ps rest ≡ fault at → length at ≤ length rest
    later at z = behind-within s (freedom_in s w) room ps rest at z

    go : (o : Outcome (Rest s)) → Behind s (freedom_in s w) room ps rest ≡ o → attempted o (reads room (Compared s (freedom_in s w)) ts) ≡ o
    go (done x after) z = refl
    go (deep at) z = refl
    go (fault at) z =
        other-later s w room ts whole-part.0 rest at
        (record {
          parts = whole-part.1;
          whole = part-whole s whole-part.0 ps whole-part.2;
          fails = typed-reads s (freedom_in s w) room ts ps rest e ∙ z;
          there = later at z;
        })
        (reads room (Compared s (freedom_in s w)) ts) (told-reads (Compared s (freedom_in s w)) room ts)
