-- Readings without their values: one after another.
use Rattle.std.proofs.Common.{◌≡◌, ℕ, zero, suc, List, [], ◌∷◌, ◌++◌, refl, sym, ap, ◌∙◌}
use Rattle.frame_forms.specs.Scans.{Scan, whole, begun, bad, and_then, mapped, items_scan}
use Rattle.frame_reader.specs.declared.task.Task.{Task}
use Rattle.frame_reader.specs.Rests.{Reading, forgotten, then_read, items_rest, task_rest, tasks_rest}

pub and_then-same : {A B : Type 0} (s : Scan A) (k l : A → List ℕ → Scan B) → ((a : A) (rest : List ℕ) → k a rest ≡ l a rest) → and_then s k ≡ and_then s l
and_then-same (whole a rest) k l e = e a rest
and_then-same begun k l e = refl
and_then-same (bad rest kind) k l e = refl

pub and_then-and_then : {A B C : Type 0} (s : Scan A) (k : A → List ℕ → Scan B) (l : B → List ℕ → Scan C) → and_then (and_then s k) l ≡ and_then s (λ a rest. and_then (k a rest) l)
and_then-and_then (whole a rest) k l = refl
and_then-and_then begun k l = refl
and_then-and_then (bad rest kind) k l = refl

pub and_then-mapped : {A B C : Type 0} (make : A → B) (s : Scan A) (k : B → List ℕ → Scan C) → and_then (mapped make s) k ≡ and_then s (λ a rest. k (make a) rest)
and_then-mapped make (whole a rest) k = refl
and_then-mapped make begun k = refl
and_then-mapped make (bad rest kind) k = refl

pub forgotten-and_then : {A B : Type 0} (s : Scan A) (k : A → List ℕ → Scan B) → forgotten (and_then s k) ≡ and_then s (λ a rest. forgotten (k a rest))
forgotten-and_then (whole a rest) k = refl
forgotten-and_then begun k = refl
forgotten-and_then (bad rest kind) k = refl

pub forgotten-mapped : {A B : Type 0} (make : A → B) (s : Scan A) → forgotten (mapped make s) ≡ forgotten s
forgotten-mapped make (whole a rest) = refl
forgotten-mapped make begun = refl
forgotten-mapped make (bad rest kind) = refl

pub then_read-forgotten : {A : Type 0} (s : Scan A) (next : Reading) → then_read (forgotten s) next ≡ and_then s (λ a rest. next rest)
then_read-forgotten (whole a rest) next = refl
then_read-forgotten begun next = refl
then_read-forgotten (bad rest kind) next = refl

pub then_read-whole : (s : Scan (Unit {0})) → then_read s (λ rest. whole tt rest) ≡ s
then_read-whole (whole a rest) = refl
then_read-whole begun = refl
then_read-whole (bad rest kind) = refl

pub then_read-then_read : (s : Scan (Unit {0})) (first second : Reading) → then_read (then_read s first) second ≡ then_read s (λ rest. then_read (first rest) second)
then_read-then_read s first second = and_then-and_then s (λ done rest. first rest) (λ done rest. second rest)

pub then_read-same : (s : Scan (Unit {0})) (one other : Reading) → ((rest : List ℕ) → one rest ≡ other rest) → then_read s one ≡ then_read s other
then_read-same s one other e = and_then-same s (λ done rest. one rest) (λ done rest. other rest) (λ done rest. e rest)

-- the values of one thing and another, forgotten
pub forgotten-both : {A B : Type 0} (s : Scan A) (t : List ℕ → Scan B) → forgotten (and_then {B = A × B} s (λ v rest. mapped (λ w. (v, w)) (t rest))) ≡ then_read (forgotten s) (λ rest. forgotten (t rest))
forgotten-both (whole a rest) t = forgotten-mapped (λ w. (a, w)) (t rest)
forgotten-both begun t = refl
forgotten-both (bad rest kind) t = refl

-- ---- items

pub forgotten-items : {A : Type 0} (item : List ℕ → Scan A) (before : List A) (count : ℕ) (bytes : List ℕ) → forgotten (items_scan (λ front. item) before count bytes) ≡ items_rest (λ rest. forgotten (item rest)) count bytes
unfolding items_scan items_rest
forgotten-items item before zero bytes = refl
forgotten-items {A} item before (suc count) bytes = go (λ first rest. forgotten-items item (first ∷ before) count rest) (item bytes)
  where
    go : ((first : A) (rest : List ℕ) → forgotten (items_scan (λ front. item) (first ∷ before) count rest) ≡ items_rest (λ rest. forgotten (item rest)) count rest) → (s : Scan A)
        → forgotten (and_then s (λ first rest. mapped (λ (others : List A). first ∷ others) (items_scan (λ front. item) (first ∷ before) count rest))) ≡ then_read (forgotten s) (items_rest (λ rest. forgotten (item rest)) count)
    go others (whole a rest) = forgotten-mapped (λ (others : List A). a ∷ others) (items_scan (λ front. item) (a ∷ before) count rest) ∙ others a rest
    go others begun = refl
    go others (bad rest kind) = refl

pub items_rest-same : (one other : Reading) → ((rest : List ℕ) → one rest ≡ other rest) → (count : ℕ) (bytes : List ℕ) → items_rest one count bytes ≡ items_rest other count bytes
unfolding items_rest
items_rest-same one other e zero bytes = refl
items_rest-same one other e (suc count) bytes = ap (λ (s : Scan (Unit {0})). then_read s (items_rest one count)) (e bytes) ∙ then_read-same (other bytes) (items_rest one count) (items_rest other count) (items_rest-same one other e count)

-- ---- tasks

pub tasks_rest-append : (below above : List Task) (bytes : List ℕ) → tasks_rest (below ++ above) bytes ≡ then_read (tasks_rest above bytes) (tasks_rest below)
unfolding tasks_rest
tasks_rest-append [] above bytes = sym (then_read-whole (tasks_rest above bytes))
tasks_rest-append (task ∷ below) above bytes =
    ap (λ (s : Scan (Unit {0})). then_read s (task_rest task)) (tasks_rest-append below above bytes)
    ∙ then_read-then_read (tasks_rest above bytes) (tasks_rest below) (task_rest task)

pub tasks_rest-one : (task : Task) (bytes : List ℕ) → tasks_rest (task ∷ []) bytes ≡ task_rest task bytes
unfolding tasks_rest
tasks_rest-one task bytes = refl

pub tasks_rest-last : (below : List Task) (task : Task) (bytes : List ℕ) → tasks_rest (below ++ task ∷ []) bytes ≡ then_read (task_rest task bytes) (tasks_rest below)
tasks_rest-last below task bytes = tasks_rest-append below (task ∷ []) bytes ∙ ap (λ (s : Scan (Unit {0})). then_read s (tasks_rest below)) (tasks_rest-one task bytes)
