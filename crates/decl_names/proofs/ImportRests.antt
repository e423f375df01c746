-- How the names of an import are gathered.
use Rattle.std.proofs.Common.{◌≡◌, ◌<◌, ℕ, Bool, true, false, cond, List, [], ◌∷◌, ◌++◌, length, Option, Some, None, refl, sym, ap, ◌∙◌, subst}
use Rattle.std.specs.Prelude.{option_map}
use Rattle.std.specs.Borrow.{Bor}
use Rattle.decl_tree.specs.declared.compilation.Import.{Import}
use Rattle.decl_tree.specs.declared.compilation.ImportKind.TheVariants as import_kind
use Rattle.decl_grammar.specs.declared.symbol.Symbol.{Symbol}
use Rattle.decl_grammar.specs.declared.fault.ReadFault.{ReadFault}
use Rattle.decl_grammar.specs.declared.fault.ReadFault.TheVariants as faults
use Rattle.decl_grammar.specs.Reading.{starts, Outcome, done, fault, deep, ◌>>=◌, Fails, one_at}
use Rattle.decl_grammar.specs.Form.{names, ImportRest, import_rest, maybe, nest, turned}
use Rattle.decl_grammar.specs.Types.{name}
use Rattle.decl_grammar.specs.Grammar.{no_name, single_or, with_dot, import_as, deeper_import, on_demand, import_step, import_rest_form}
use Rattle.decl_grammar.specs.Rule.{reads, read_nest}
use Rattle.decl_grammar.proofs.Nests.{free-is}
use Rattle.decl_grammar.proofs.Loop.{falls}

abbrev second_of : {A B : Type 0} → A × B → B
second_of x = x.1

abbrev some_name : List ℕ → Option (List ℕ)
some_name n = Some n

-- what is read of the rest behind its first step
abbrev pub import_after : (List Symbol → Outcome (Option ImportRest)) → Outcome (Option (List ℕ)) → Outcome ImportRest
import_after next (done None rest) = done (λ n. import_as import_kind.OnDemand n) rest
import_after next (done (Some m) rest) = next rest >>= λ o a. done (λ n. single_or o (with_dot n m)) a
import_after next (fault at) = fault at
import_after next (deep at) = deep at

abbrev behind_read : {A : Type 0} → Symbol → Outcome A → Outcome A
behind_read t o = turned second_of (o >>= λ y a. done (t, y) a)

step-read : (t : Symbol) (c : Bool) (o : Outcome (List ℕ)) (q : Outcome Symbol) (next : List Symbol → Outcome (Option ImportRest))
    → behind_read t (cond c (turned deeper_import (o >>= λ x r. next r >>= λ y a. done (x, y) a)) (turned on_demand q)) ≡ import_after next (behind_read t (cond c (turned some_name o) (turned no_name q)))
step-read t true (done x r) q next = go (next r)
  where
    go : (p : Outcome (Option ImportRest)) → behind_read t (turned deeper_import (p >>= λ y a. done (x, y) a)) ≡ (p >>= λ o a. done (λ n. single_or o (with_dot n x)) a)
    go (done y a) = refl
    go (fault at) = refl
    go (deep at) = refl
step-read t true (fault at) q next = refl
step-read t true (deep at) q next = refl
step-read t false o (done s r) next = refl
step-read t false o (fault at) next = refl
step-read t false o (deep at) next = refl

rest-read : (s : Outcome Symbol) (c : List Symbol → Bool) (p : List Symbol → Outcome (List ℕ)) (q : List Symbol → Outcome Symbol) (next : List Symbol → Outcome (Option ImportRest))
    → turned second_of (s >>= λ t rest. cond (c rest) (turned deeper_import (p rest >>= λ x r. next r >>= λ y a. done (x, y) a)) (turned on_demand (q rest)) >>= λ y a. done (t, y) a)
    ≡ import_after next (turned second_of (s >>= λ t rest. cond (c rest) (turned some_name (p rest)) (turned no_name (q rest)) >>= λ y a. done (t, y) a))
rest-read (done t rest) c p q next = step-read t (c rest) (p rest) (q rest) next
rest-read (fault at) c p q next = refl
rest-read (deep at) c p q next = refl

pub import-rest-is : (room : ℕ) (ts : List Symbol) → read_nest room import_rest ts ≡ import_after (reads room (maybe (nest import_rest))) (reads room import_step ts)
unfolding import_rest_form import_step name
import-rest-is room ts = free-is import_rest refl room ts ∙ rest-read (one_at (69 ∷ []) ts) (starts names) (reads room name) (one_at (91 ∷ [])) (reads room (maybe (nest import_rest)))

abbrev pub ended_as : List ℕ → Option ImportRest → Import
ended_as t o = single_or o t

abbrev pub applied_to : List ℕ → ImportRest → Import
applied_to t rest = rest t

-- where a dot stands, the rest is read
pub import-opens : (room : ℕ) (t : List ℕ) (ts : List Symbol) → starts (69 ∷ []) ts ≡ true → turned (ended_as t) (reads room (maybe (nest import_rest)) ts) ≡ turned (applied_to t) (read_nest room import_rest ts)
import-opens room t ts s =
    ap (λ (c : Bool). turned (ended_as t) (cond c (read_nest room import_rest ts >>= λ x rest. done (Some x) rest) (done None ts))) s ∙ go (read_nest room import_rest ts)
  where
    go : (o : Outcome ImportRest) → turned (ended_as t) (o >>= λ x rest. done (Some x) rest) ≡ turned (applied_to t) o
    go (done x rest) = refl
    go (fault at) = refl
    go (deep at) = refl

pub import-shut : (room : ℕ) (t : List ℕ) (ts : List Symbol) (total : Outcome Import) → starts (69 ∷ []) ts ≡ false → turned (ended_as t) (reads room (maybe (nest import_rest)) ts) ≡ total → total ≡ done (import_as import_kind.Single t) ts
import-shut room t ts total s so_far =
    sym so_far ∙ ap (λ (c : Bool). turned (ended_as t) (cond c (read_nest room import_rest ts >>= λ x rest. done (Some x) rest) (done None ts))) s

abbrev stepped : List ℕ → (List Symbol → Outcome (Option ImportRest)) → Outcome (Option (List ℕ)) → Outcome Import
stepped t next o = turned (applied_to t) (import_after next o)

-- one name more
pub import-goes : (room : ℕ) (t : List ℕ) (ts : List Symbol) (o : Option (List ℕ)) (m : List ℕ) (after : List Symbol) (total : Outcome Import) → starts (69 ∷ []) ts ≡ true → reads room import_step ts ≡ done o after → o ≡ Some m
    → turned (ended_as t) (reads room (maybe (nest import_rest)) ts) ≡ total → turned (ended_as (with_dot t m)) (reads room (maybe (nest import_rest)) after) ≡ total
import-goes room t ts o m after total s e some so_far =
    regroup (reads room (maybe (nest import_rest)) after)
    ∙ (sym (import-opens room t ts s ∙ (ap (turned (applied_to t)) (import-rest-is room ts) ∙ ap (stepped t (reads room (maybe (nest import_rest)))) (e ∙ ap (λ (y : Option (List ℕ)). done y after) some))) ∙ so_far)
  where
    regroup : (p : Outcome (Option ImportRest)) → turned (ended_as (with_dot t m)) p ≡ turned (applied_to t) (p >>= λ o a. done (λ n. single_or o (with_dot n m)) a)
    regroup (done y a) = refl
    regroup (fault at) = refl
    regroup (deep at) = refl

-- a star
pub import-stars : (room : ℕ) (t : List ℕ) (ts : List Symbol) (o : Option (List ℕ)) (after : List Symbol) (total : Outcome Import) → starts (69 ∷ []) ts ≡ true → reads room import_step ts ≡ done o after → o ≡ None
    → turned (ended_as t) (reads room (maybe (nest import_rest)) ts) ≡ total → total ≡ done (import_as import_kind.OnDemand t) after
import-stars room t ts o after total s e none so_far =
    sym so_far ∙ (import-opens room t ts s ∙ (ap (turned (applied_to t)) (import-rest-is room ts) ∙ ap (stepped t (reads room (maybe (nest import_rest)))) (e ∙ ap (λ (y : Option (List ℕ)). done y after) none)))

pub import-fails : (room : ℕ) (t : List ℕ) (ts : List Symbol) (e : ReadFault) (total : Outcome Import) → starts (69 ∷ []) ts ≡ true → Fails e (reads room import_step ts) → turned (ended_as t) (reads room (maybe (nest import_rest)) ts) ≡ total → Fails e total
import-fails room t ts faults.Memory total s p so_far = tt
import-fails room t ts (faults.Bad n) total s p so_far =
    (p.0, sym so_far ∙ (import-opens room t ts s ∙ (ap (turned (applied_to t)) (import-rest-is room ts) ∙ ap (stepped t (reads room (maybe (nest import_rest)))) p.1)), p.2)
import-fails room t ts (faults.Deep n) total s p so_far =
    (p.0, sym so_far ∙ (import-opens room t ts s ∙ (ap (turned (applied_to t)) (import-rest-is room ts) ∙ ap (stepped t (reads room (maybe (nest import_rest)))) p.1)), p.2)

pub import-smaller : (room : ℕ) (ts : List Symbol) (o : Option (List ℕ)) (after : List Symbol) → reads room import_step ts ≡ done o after → length after < length ts
unfolding import_step
import-smaller room ts o after e = falls room import_step ts o after refl e

-- no dot, no rest
pub import-none : (room : ℕ) (t : List ℕ) (ts : List Symbol) → starts (69 ∷ []) ts ≡ false → turned (applied_to t) (read_nest room import_rest ts) ≡ fault ts
unfolding import_step one_at
import-none room t ts s = ap (turned (applied_to t)) (import-rest-is room ts) ∙ go ts s
  where
    go : (us : List Symbol) → starts (69 ∷ []) us ≡ false → stepped t (reads room (maybe (nest import_rest))) (reads room import_step us) ≡ fault us
    go [] s = refl
    go (u ∷ us) s = rw s refl

-- an optional text, and what is seen of it
pub option_shown : (o p : Option (Bor (List ℕ))) → o ≡ p → option_map (λ (t : Bor (List ℕ)). t.now) o ≡ option_map (λ (t : Bor (List ℕ)). t.now) p
option_shown o p e = ap (option_map (λ (t : Bor (List ℕ)). t.now)) e
