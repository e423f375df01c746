-- What is whole is read where there is room, and what is read is whole.
use Rattle.std.proofs.Common.{◌≡◌, ℕ, suc, ◌*◌, ◌<◌, ◌≤◌, false, List, [], ◌∷◌, ◌++◌, length, ⊎_elim, refl, sym, ap, subst, ◌∙◌, length-append, arith}
use Rattle.std.proofs.lemmas.List.{append-nil}
use Rattle.decl_grammar.specs.declared.symbol.Symbol.{Symbol}
use Rattle.decl_grammar.specs.Reading.{starts, Outcome, done, deep}
use Rattle.decl_grammar.specs.Form.{Nest, Form, nest}
use Rattle.decl_grammar.specs.Rule.{WholeAt, BegunAt, reads, read_nest, read_at}
use Rattle.decl_grammar.specs.File.{IsPhrase}
use Rattle.decl_grammar.proofs.OneToken.{more}
use Rattle.decl_grammar.proofs.Open.{most-open}
use Rattle.decl_grammar.proofs.Told.{Told, told}
use Rattle.decl_grammar.proofs.Complete.{Comes, complete}
use Rattle.decl_grammar.proofs.Fuel.{at-reads}
use Rattle.decl_grammar.proofs.Heights.{full-at, most-at, Whole, Started}
use Rattle.decl_grammar.proofs.Knot.{told-at, comes-at, inside-at, IsSound, sound-plain}
use Rattle.decl_grammar.proofs.RuleFair.{fair}

-- a height at which all that may be read of this many symbols stands
abbrev height_of : List Symbol → ℕ
height_of ts = suc (suc (3 * suc (length ts)))

told-reads : {A : Type 0} (f : Form A) (room : ℕ) (ts : List Symbol) → Told room (WholeAt (height_of ts)) (BegunAt (height_of ts)) f ts (reads room f ts)
told-reads {A} f room ts =
    let n = 3 * suc (length ts) in
    let h = height_of ts in
    subst (λ (o : Outcome A). Told room (WholeAt h) (BegunAt h) f ts o) (sym (at-reads room (length ts) f ts (omega arith)))
    (told room (WholeAt h) (BegunAt h) (read_at n room) (told-at n room) f ts)

-- with room for three forms at each symbol nothing is too deep
never-deep : {A : Type 0} (f : Form A) (room : ℕ) (ts at : List Symbol) → 3 * length ts ≤ room → reads room f ts ≡ deep at → ⊥
never-deep {A} f room ts at fits e =
    let h = height_of ts in
    let p : Told room (WholeAt h) (BegunAt h) f ts (deep at) = subst (λ (o : Outcome A). Told room (WholeAt h) (BegunAt h) f ts o) e (told-reads f room ts) in
    let opened = most-open (WholeAt h) (BegunAt h) (full-at h) (most-at h) f (p.0 ++ p.1 ∷ []) p.5 p.7 in
    omega (arith, opened, p.6, fits, ap length p.4, length-append p.0 (p.1 ∷ []), length-append p.0 (p.1 ∷ p.2))

-- a phrase is read as what it means, where the symbol behind it does not go on with it
pub whole-reads : {A : Type 0} (f : Form A) → IsSound f → (room : ℕ) (us rest : List Symbol) (x : A) → 3 * length (us ++ rest) ≤ room → starts (more f) rest ≡ false → IsPhrase f us x → reads room f (us ++ rest) ≡ done x rest
whole-reads f sound room us rest x fits stops is =
    let c : Comes x rest (reads room f (us ++ rest)) = complete (WholeAt is.0) Whole Started room (read_nest room) (inside-at room is.0 (comes-at sound.2 is.0 room)) f sound.0 sound.1 us x rest stops is.1 in
    ⊎_elim (λ (e : reads room f (us ++ rest) ≡ done x rest). e) (λ (e : (at : List Symbol) × (reads room f (us ++ rest) ≡ deep at) × (length rest < length at)). absurd (never-deep f room (us ++ rest) e.0 fits e.1)) c

-- and what is read is whole
pub read-phrase : {A : Type 0} (f : Form A) (room : ℕ) (ts : List Symbol) (x : A) (rest : List Symbol) → reads room f ts ≡ done x rest → (us : List Symbol) × (ts ≡ us ++ rest) × IsPhrase f us x
read-phrase {A} f room ts x rest e =
    let h = height_of ts in
    let p : Told room (WholeAt h) (BegunAt h) f ts (done x rest) = subst (λ (o : Outcome A). Told room (WholeAt h) (BegunAt h) f ts o) e (told-reads f room ts) in
    (p.0, p.1, (h, p.2))

-- ---- forms that hold themselves, and all symbols

pub nest-sound : (m : Nest) → IsSound (nest m)
nest-sound m = sound-plain fair (nest m) refl refl

none-start : (ks : List ℕ) → starts ks [] ≡ false
none-start ks = refl

pub all-read : {A : Type 0} (f : Form A) → IsSound f → (room : ℕ) (ts : List Symbol) (x : A) → 3 * length ts ≤ room → IsPhrase f ts x → reads room f ts ≡ done x []
all-read f sound room ts x fits is =
    let e = append-nil ts in
    subst (λ (us : List Symbol). reads room f us ≡ done x []) e
    (whole-reads f sound room ts [] x (subst (λ (us : List Symbol). 3 * length us ≤ room) (sym e) fits) (none-start (more f)) is)

pub all-whole : {A : Type 0} (f : Form A) (room : ℕ) (ts : List Symbol) (x : A) → reads room f ts ≡ done x [] → IsPhrase f ts x
all-whole f room ts x e =
    let p = read-phrase f room ts x [] e in
    subst (λ (us : List Symbol). IsPhrase f us x) (sym (p.1 ∙ append-nil p.0)) p.2
