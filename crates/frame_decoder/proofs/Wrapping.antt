-- What stands around a mirror, from the outside in.
use Rattle.std.proofs.Common.{◌≡◌, ℕ, ◌-◌, ◌≤◌, List, [], ◌∷◌, ◌++◌, Option, Some, None, Result, refl, sym, ap, subst, ◌∙◌, append_assoc, append-nil}
use Rattle.apt_base.specs.Fields.{◌>>=◌}
use Rattle.apt_base.specs.Forms.{Reader, mapped}
use Rattle.apt_base.specs.Readings.{Gives}
use Rattle.apt_base.specs.declared.fault.FormFault.{FormFault}
use Rattle.apt_base.specs.declared.around.Around.{Around}
use Rattle.type_mirror.specs.declared.mirror.BaseMirror.{BaseMirror}
use Rattle.type_mirror.specs.declared.mirror.BaseMirror.TheOpen.{Mirror-F}
use Rattle.type_mirror.specs.declared.mirror.Mirror.{Mirror, roll-Mirror, out-Mirror, out-roll-Mirror, roll-out-Mirror}
use Rattle.type_mirror.specs.declared.mirror.DeclaredMirror.{DeclaredMirror}
use Rattle.type_mirror.specs.declared.mirror.ExecutableMirror.{ExecutableMirror}
use Rattle.type_mirror.specs.Parts.{plain, wrapped}
use Rattle.frame_decoder.specs.PartReadings.{around_next, exactly_next, bounded_next, mirror_in, mirror_next}
use Rattle.frame_decoder.proofs.Rooms.{mirror_next-none, mirror_next-more}

abbrev Layer : Type 0
Layer = Mirror-F BaseMirror DeclaredMirror ExecutableMirror Mirror

-- a mirror by its two parts
abbrev made_of : List Around → BaseMirror → Mirror
made_of around base = roll-Mirror (record { around = around; base = base })

wrapped-made : (outer inner : List Around) (base : BaseMirror) → wrapped outer (made_of inner base) ≡ made_of (outer ++ inner) base
wrapped-made outer inner base = ap (λ (o : Layer). made_of (outer ++ o.around) o.base) (out-roll-Mirror (record { around = inner; base = base }))

pub wrapped-plain : (around : List Around) (base : BaseMirror) → made_of around base ≡ wrapped around (plain base)
wrapped-plain around base = ap (λ (all : List Around). made_of all base) (sym (append-nil around)) ∙ sym (wrapped-made around [] base)

wrapped-none : (m : Mirror) → wrapped [] m ≡ m
wrapped-none m = roll-out-Mirror m

wrapped-more : (around : List Around) (next : Around) (m : Mirror) → wrapped (around ++ next ∷ []) m ≡ wrapped around (wrapped (next ∷ []) m)
wrapped-more around next m =
    let parts = out-Mirror m in
    ap (λ (all : List Around). made_of all parts.base) (append_assoc around (next ∷ []) parts.around) ∙ sym (wrapped-made around (next ∷ [] ++ parts.around) parts.base)

-- ---- what is read

abbrev around_read : List Around → Option (Mirror × List ℕ) → Option (Mirror × List ℕ)
around_read around read = ◌>>=◌ {B = Mirror × List ℕ} read (λ m. Some (wrapped around m.0, m.1))

read_none : (read : Option (Mirror × List ℕ)) → around_read [] read ≡ read
read_none None = refl
read_none (Some m) = ap (λ (x : Mirror). Some (x, m.1)) (wrapped-none m.0)

read_more : (around : List Around) (next : Around) (read : Option (Mirror × List ℕ)) → around_read (around ++ next ∷ []) read ≡ around_read around (around_read (next ∷ []) read)
read_more around next None = refl
read_more around next (Some m) = ap (λ (x : Mirror). Some (x, m.1)) (wrapped-more around next m.0)

pub gives_none : (result : Result Mirror FormFault) (around : List Around) (inner : Reader Mirror) (bytes left : List ℕ) → around ≡ [] → Gives result (around_next around inner bytes) left → Gives result (inner bytes) left
gives_none result around inner bytes left none = subst (λ (read : Option (Mirror × List ℕ)). Gives result read left) (ap (λ (a : List Around). around_read a (inner bytes)) none ∙ read_none (inner bytes))

pub gives_more : (result : Result Mirror FormFault) (around all : List Around) (next : Around) (inner : Reader Mirror) (bytes left : List ℕ) → all ≡ around ++ next ∷ [] → Gives result (around_next all inner bytes) left
    → Gives result (around_next around (mapped (wrapped (next ∷ [])) inner) bytes) left
gives_more result around all next inner bytes left is =
    subst (λ (read : Option (Mirror × List ℕ)). Gives result read left) (ap (λ (a : List Around). around_read a (inner bytes)) is ∙ read_more around next (inner bytes))

-- where there is no room nothing is read, and with room what stands next is
pub around_none : (around : List Around) (room : ℕ) (bytes : List ℕ) → room ≡ 0 → around_next around (mirror_next room) bytes ≡ None
around_none around room bytes none = ap (λ (n : ℕ). around_read around (mirror_next n bytes)) none ∙ ap (around_read around) (mirror_next-none bytes)

pub gives_room : (result : Result Mirror FormFault) (around : List Around) (room : ℕ) (bytes left : List ℕ) → 1 ≤ room → Gives result (around_next around (mirror_in (mirror_next (room - 1))) bytes) left → Gives result (around_next around (mirror_next room) bytes) left
gives_room result around room bytes left some = subst (λ (read : Option (Mirror × List ℕ)). Gives result (around_read around read) left) (mirror_next-more room bytes some)

-- behind the number of a bound
read_bound : (around : List Around) (next : Around) (read : Option (Mirror × List ℕ))
    → around_read around (around_read (next ∷ []) read) ≡ ◌>>=◌ {B = Mirror × List ℕ} (◌>>=◌ {B = Mirror × List ℕ} (◌>>=◌ {B = (Unit {0} × Mirror) × List ℕ} read (λ m. Some ((tt, m.0), m.1))) (λ v. Some (wrapped (next ∷ []) v.0.1, v.1))) (λ m. Some (wrapped around m.0, m.1))
read_bound around next None = refl
read_bound around next (Some m) = refl

pub gives_bound : (result : Result Mirror FormFault) (around all : List Around) (next : Around) (inner : Reader Mirror) (old bytes left : List ℕ) → all ≡ around ++ next ∷ [] → exactly_next 1 old ≡ Some (tt, bytes) → Gives result (around_next all inner bytes) left
    → Gives result (around_next around (bounded_next next inner) old) left
gives_bound result around all next inner old bytes left is one gives =
    rw one (subst (λ (read : Option (Mirror × List ℕ)). Gives result read left) (read_bound around next (inner bytes)) (gives_more result around all next inner bytes left is gives))
