-- What the parts of a step come to.
use Rattle.std.proofs.Common.{◌≡◌, ℕ, zero, suc, ◌-◌, Bool, true, false, List, [], ◌∷◌, ◌++◌, length, take, drop, slice_get, option_to_list, Option, Some, None, refl, sym, ap, ◌∙◌, subst, append_assoc, arith}
use Rattle.std.specs.Int.{w32, from_be_bytes}
use Rattle.std.specs.FinMap as fin
use Rattle.std.proofs.lemmas.List.{length-append}
use Rattle.frame_forms.specs.declared.bad_kind.BadKind.{BadKind}
use Rattle.frame_forms.specs.Scans.{bad}
use Rattle.frame_reader.specs.declared.node.Node.{Node}
use Rattle.frame_reader.specs.declared.fields.FieldsReader.{FieldsReader}
use Rattle.frame_reader.specs.declared.node.Item.{Item}
use Rattle.frame_reader.specs.declared.node.ListRule.{ListRule}
use Rattle.frame_reader.specs.declared.node.ListRule.TheVariants as rules
use Rattle.frame_reader.specs.declared.task.Begun.{Begun}
use Rattle.frame_reader.specs.declared.task.Gather.{Gather}
use Rattle.frame_reader.specs.declared.task.Taken.{Taken}
use Rattle.frame_reader.specs.declared.task.Taken.TheVariants as takens
use Rattle.frame_reader.specs.declared.task.Task.{Task}
use Rattle.frame_reader.specs.declared.task.TextList.{TextList}
use Rattle.frame_reader.specs.declared.task.TextRule.{TextRule}
use Rattle.frame_reader.specs.declared.task.Then.TheVariants as thens
use Rattle.apt_base.specs.Names.{NameSet, with_name}
use Rattle.frame_reader.specs.Rests.{Reading, number_of, texts_left}
use Rattle.frame_reader.specs.Steps.{Left, node_left, first_kind, head_node, head_room, left_behind, left_tasks, items_task, inner_tasks, behind_task, gather_at, left_of, IsLeft}
use Rattle.frame_reader.specs.Stands.{KeepsTexts, Stands, IsTextEnd}
use Rattle.frame_reader.specs.Follows.{Means, Comes, Follows, Finishes, EndsText, EndsLength, text_rule, list_behind_begin, Starts, BeginsTask, TellsEnd}
use Rattle.frame_reader.proofs.Begins.{get_below}
use Rattle.frame_reader.proofs.Stepping.{drop_after, gathers_on, skips, counts, list_counts, length_on, length_ends, text_ends, one_more_text, listed_begins, value_begins, task_fails, task_goes_on, nothing_left, all_read, gather_left, list_left, task_left}

-- ---- texts that are kept

pub kept_distinct : (rule : ListRule) → rule ≡ rules.DistinctTexts → (text : List ℕ) (earlier earlier' : NameSet) (last : Option (List ℕ)) → earlier' ≡ with_name earlier text
    → (before : List (List ℕ)) → KeepsTexts rule before earlier last → KeepsTexts rule (text ∷ before) earlier' last
kept_distinct rule is text earlier earlier' last e before =
    subst (λ (r : ListRule). KeepsTexts r before earlier last → KeepsTexts r (text ∷ before) earlier' last) (sym is)
    (λ k q. ap (λ (s : NameSet). fin.contains_key s q) e ∙ one_more_text before earlier text q k)

pub kept_patterns : (rule : ListRule) → rule ≡ rules.DistinctPatterns → (text : List ℕ) (earlier earlier' : NameSet) (last : Option (List ℕ)) → earlier' ≡ with_name earlier text
    → (before : List (List ℕ)) → KeepsTexts rule before earlier last → KeepsTexts rule (text ∷ before) earlier' last
kept_patterns rule is text earlier earlier' last e before =
    subst (λ (r : ListRule). KeepsTexts r before earlier last → KeepsTexts r (text ∷ before) earlier' last) (sym is)
    (λ k q. ap (λ (s : NameSet). fin.contains_key s q) e ∙ one_more_text before earlier text q k)

-- ---- the end of gathered bytes

pub skip_finishes : (gather : Gather) (old : FieldsReader) (bytes : List ℕ) (byte : ℕ) → gather.more ≡ 0 → gather.then ≡ thens.Skip
    → (held : List ℕ) → bytes ≡ held ++ byte ∷ [] → (reading : Reading) → Stands (Some gather) old.list old.stack old.earlier old.last held reading
    → Stands None old.list old.stack old.earlier old.last (held ++ byte ∷ []) (λ later. reading (byte ∷ later))
skip_finishes gather old bytes byte more is held split reading s = skips old.earlier old.last held byte reading gather old.list old.stack more is s

worth_of : (gather : Gather) (list : Option TextList) (stack : List Task) (earlier : NameSet) (last : Option (List ℕ)) (held bytes : List ℕ) (byte count : ℕ) (reading : Reading) → bytes ≡ held ++ byte ∷ []
    → Stands (Some gather) list stack earlier last held reading → count ≡ from_be_bytes w32 (drop gather.from bytes) → number_of (drop gather.from held) byte ≡ count
worth_of gather list stack earlier last held bytes byte count reading split s e =
    ap (from_be_bytes w32) (sym (drop_after earlier last held byte reading gather.from s.gathering.have s.gathering.from)) ∙ ap (λ (t : List ℕ). from_be_bytes w32 (drop gather.from t)) (sym split) ∙ sym e

pub length_finishes : (gather : Gather) (rule : TextRule) (count : ℕ) (old new : FieldsReader) (bytes : List ℕ) (byte : ℕ) (taken : Taken) → gather.more ≡ 0 → gather.then ≡ thens.Length rule
    → count ≡ from_be_bytes w32 (drop gather.from bytes) → EndsLength rule count (length bytes) old new taken → Finishes gather old new bytes byte taken
length_finishes gather rule zero old new bytes byte taken more is worth ends = λ held split reading s.
    ends held byte reading s.before (length_ends old.earlier old.last held byte reading gather rule old.list old.stack more is (worth_of gather old.list old.stack old.earlier old.last held bytes byte 0 reading split s worth) s)
length_finishes gather rule (suc fewer) old new bytes byte taken more is worth ends = λ held split reading s.
    let on : Reading = λ later. reading (byte ∷ later) in
    let after = held ++ byte ∷ [] in
    let stands = length_on old.earlier old.last held byte reading gather rule fewer (length bytes) old.list old.stack more is (worth_of gather old.list old.stack old.earlier old.last held bytes byte (suc fewer) reading split s worth) (ap length split) s in
    subst (λ (t : Taken). Comes new held byte reading t) (sym ends.0) (subst (λ (r : FieldsReader). Means r after on) (sym ends.1) stands)

pub text_finishes : (gather : Gather) (rule : TextRule) (old new : FieldsReader) (bytes text : List ℕ) (byte : ℕ) (taken : Taken) → gather.more ≡ 0 → gather.then ≡ thens.Text rule
    → text ≡ drop gather.from bytes → EndsText rule old new text taken → Finishes gather old new bytes byte taken
text_finishes gather rule old new bytes text byte taken more is same ends = λ held split reading s.
    ends held byte reading s.before
    (subst (λ (t : List ℕ). IsTextEnd old.earlier old.last byte reading rule old.list old.stack t s.before) (ap (drop gather.from) (sym split) ∙ sym same)
    (text_ends old.earlier old.last held byte reading gather rule old.list old.stack more is s))

pub items_finish : (gather : Gather) (item : Item) (room count : ℕ) (old new : FieldsReader) (bytes : List ℕ) (byte : ℕ) → gather.more ≡ 0 → gather.then ≡ thens.Count item room
    → count ≡ from_be_bytes w32 (drop gather.from bytes) → new ≡ record old { gather = None; stack = old.stack ++ items_task item room count } → Finishes gather old new bytes byte takens.On
items_finish gather item room count old new bytes byte more is worth e = λ held split reading s.
    subst (λ (r : FieldsReader). Means r (held ++ byte ∷ []) (λ later. reading (byte ∷ later))) (sym e)
    (counts old.earlier old.last held byte reading gather item room count old.list old.stack more is (worth_of gather old.list old.stack old.earlier old.last held bytes byte count reading split s worth) s)

pub texts_finish : (gather : Gather) (rule : ListRule) (count : ℕ) (old new : FieldsReader) (bytes : List ℕ) (byte : ℕ) → gather.more ≡ 0 → gather.then ≡ thens.ListCount rule
    → count ≡ from_be_bytes w32 (drop gather.from bytes) → new ≡ record old { gather = None; list = texts_left rule count; earlier = fin.empty; last = None } → Finishes gather old new bytes byte takens.On
texts_finish gather rule count old new bytes byte more is worth e = λ held split reading s.
    subst (λ (r : FieldsReader). Means r (held ++ byte ∷ []) (λ later. reading (byte ∷ later))) (sym e)
    (list_counts old.earlier old.last held byte reading gather rule count old.list old.stack more is (worth_of gather old.list old.stack old.earlier old.last held bytes byte count reading split s worth) s)

-- ---- the beginning of something

pub gather_goes_on : (gather : Gather) (fewer : ℕ) (old : FieldsReader) (bytes : List ℕ) (byte : ℕ) → gather.more ≡ suc fewer
    → (held : List ℕ) → bytes ≡ held ++ byte ∷ [] → (reading : Reading) → Stands (Some gather) old.list old.stack old.earlier old.last held reading
    → Stands (Some (record { from = gather.from; more = fewer; then = gather.then })) old.list old.stack old.earlier old.last (held ++ byte ∷ []) (λ later. reading (byte ∷ later))
gather_goes_on gather fewer old bytes byte more held split reading s = gathers_on old.earlier old.last held byte reading gather fewer old.list old.stack more s

pub text_starts : (list : TextList) (place byte : ℕ) (old : FieldsReader) → old.gather ≡ None → old.list ≡ Some list
    → (held : List ℕ) → length held ≡ place → (reading : Reading) → Means old held reading
    → Stands (Some (record { from = place; more = 2; then = thens.Length (text_rule list) })) (list_behind_begin list) old.stack old.earlier old.last (held ++ byte ∷ []) (λ later. reading (byte ∷ later))
text_starts list place byte old none is held at reading s =
    subst (λ (p : ℕ). Stands (Some (record { from = p; more = 2; then = thens.Length (text_rule list) })) (list_behind_begin list) old.stack old.earlier old.last (held ++ byte ∷ []) (λ later. reading (byte ∷ later))) at
    (go list.value_next (subst (λ (l : Option TextList). Stands None l old.stack old.earlier old.last held reading) is (subst (λ (g : Option Gather). Stands g old.list old.stack old.earlier old.last held reading) none s)))
  where
    go : (turn : Bool) → Stands None (Some (record { rule = list.rule; value_next = turn; more = list.more })) old.stack old.earlier old.last held reading
        → Stands (Some (record { from = length held; more = 2; then = thens.Length (text_rule (record { rule = list.rule; value_next = turn; more = list.more })) })) (list_behind_begin (record { rule = list.rule; value_next = turn; more = list.more }))
        old.stack old.earlier old.last (held ++ byte ∷ []) (λ later. reading (byte ∷ later))
    go true t = value_begins old.earlier old.last held byte reading list.rule list.more old.stack t
    go false t = listed_begins old.earlier old.last held byte reading list.rule list.more old.stack t

-- the last one of a list
last_at : {A : Type 0} (xs : List A) (n : ℕ) (x : A) → length xs ≡ suc n → slice_get xs n ≡ Some x → xs ≡ take n xs ++ x ∷ []
last_at [] n x len e = absurd (omega (arith, len))
last_at (y ∷ []) zero x len e = let same : y ≡ x = cc in ap (λ (z : _). z ∷ []) same
last_at (y ∷ z ∷ ys) zero x len e = absurd (omega (arith, len))
last_at (y ∷ ys) (suc n) x len e = ap (λ (t : List _). y ∷ t) (last_at ys n x (omega (arith, len)) e)

pub last_task : (xs : List Task) (x : Task) → slice_get xs (length xs - 1) ≡ Some x → xs ≡ take (length xs - 1) xs ++ x ∷ []
last_task [] x e = absurd (cc)
last_task (y ∷ ys) x e = last_at (y ∷ ys) (length (y ∷ ys) - 1) x (omega arith) e

pub no_last : (xs : List Task) → slice_get xs (length xs - 1) ≡ None → xs ≡ []
no_last [] e = refl
no_last (y ∷ ys) e =
    let g = get_below (y ∷ ys) (length (y ∷ ys) - 1) (omega arith) in
    let wrong : Some g.0 ≡ None = sym g.1 ∙ e in
    absurd (cc)

left_none : (x : Option Left) → IsLeft None x → x ≡ None
left_none None is = refl
left_none (Some left) is = absurd is

left_some : (begun : Begun) (x : Option Left) → IsLeft (Some begun) x → x ≡ Some (left_of begun)
left_some begun None is = absurd is
left_some begun (Some left) is = ap (λ (l : Left). Some l) (sym is)

at_task : (task : Task) (old : FieldsReader) (held : List ℕ) (reading : Reading) → slice_get old.stack (length old.stack - 1) ≡ Some task → Stands None None old.stack old.earlier old.last held reading
    → Stands None None (take (length old.stack - 1) old.stack ++ task ∷ []) old.earlier old.last held reading
at_task task old held reading last s = subst (λ (ts : List Task). Stands None None ts old.earlier old.last held reading) (last_task old.stack task last) s

left_at : (task : Task) (node : Node) (room byte : ℕ) → node ≡ head_node task → room ≡ head_room task → node_left (head_room task) (head_node task) byte ≡ node_left room node byte
left_at task node room byte n r = ap (λ (m : Node). node_left (head_room task) m byte) (sym n) ∙ ap (λ (k : ℕ). node_left k node byte) (sym r)

pub task_is_bad : (task : Task) (node : Node) (room byte : ℕ) (kind : BadKind) (old : FieldsReader) (place : ℕ) → slice_get old.stack (length old.stack - 1) ≡ Some task → node ≡ head_node task → room ≡ head_room task
    → IsLeft None (node_left room node byte) → kind ≡ first_kind node
    → (held : List ℕ) → length held ≡ place → (reading : Reading) → Stands None None old.stack old.earlier old.last held reading → old.list ≡ None → (later : List ℕ) → reading (byte ∷ later) ≡ bad (byte ∷ later) kind
task_is_bad task node room byte kind old place last n r is k held at reading s l later =
    task_fails old.earlier old.last held byte reading task (take (length old.stack - 1) old.stack) (left_at task node room byte n r ∙ left_none (node_left room node byte) is) (at_task task old held reading last s) later
    ∙ ap (λ (x : BadKind). bad (byte ∷ later) x) (ap first_kind (sym n) ∙ sym k)

pub task_goes : (task : Task) (node : Node) (room byte place : ℕ) (begun : Begun) (old : FieldsReader) (stack : List Task) (gather : Option Gather) (below above : Option Task)
    → slice_get old.stack (length old.stack - 1) ≡ Some task → node ≡ head_node task → room ≡ head_room task → IsLeft (Some begun) (node_left room node byte)
    → option_to_list below ≡ left_behind task → option_to_list above ≡ behind_task room begun.behind
    → stack ≡ ((take (length old.stack - 1) old.stack ++ option_to_list below) ++ option_to_list above) ++ inner_tasks begun.room begun.inner.now → gather ≡ gather_at place begun.gather
    → (held : List ℕ) → length held ≡ place → (reading : Reading) → Stands None None old.stack old.earlier old.last held reading → old.list ≡ None
    → Stands gather old.list stack old.earlier old.last (held ++ byte ∷ []) (λ later. reading (byte ∷ later))
task_goes task node room byte place begun old stack gather below above last n r is b a st g held at reading s l =
    let front = take (length old.stack - 1) old.stack in
    let after = held ++ byte ∷ [] in
    let on : Reading = λ later. reading (byte ∷ later) in
    let left = left_of begun in
    let goes = task_goes_on old.earlier old.last held byte reading task front left (left_at task node room byte n r ∙ left_some begun (node_left room node byte) is) (at_task task old held reading last s) in
    let stacks : (front ++ left_behind task) ++ left_tasks (head_room task) left ≡ stack =
    ap (λ (k : ℕ). (front ++ left_behind task) ++ left_tasks k left) (sym r)
    ∙ sym (append_assoc (front ++ left_behind task) (behind_task room begun.behind) (inner_tasks begun.room begun.inner.now))
    ∙ ap (λ (t : List Task). ((front ++ t) ++ behind_task room begun.behind) ++ inner_tasks begun.room begun.inner.now) (sym b)
    ∙ ap (λ (t : List Task). ((front ++ option_to_list below) ++ t) ++ inner_tasks begun.room begun.inner.now) (sym a)
    ∙ sym st in
    let gathers : gather_at (length held) begun.gather ≡ gather = ap (λ (p : ℕ). gather_at p begun.gather) at ∙ sym g in
    subst (λ (x : Option TextList). Stands gather x stack old.earlier old.last after on) (sym l)
    (subst (λ (x : Option Gather). Stands x None stack old.earlier old.last after on) gathers
    (subst (λ (ts : List Task). Stands (gather_at (length held) begun.gather) None ts old.earlier old.last after on) stacks goes))

-- a task begins where nothing else was begun
pub task_starts : (task : Task) (place byte : ℕ) (old new : FieldsReader) (taken : Taken) → old.gather ≡ None → old.list ≡ None → BeginsTask task place byte old new taken → Starts place byte old new taken
task_starts task place byte old new taken g l begins held at reading s =
    begins held at reading
    (subst (λ (x : Option TextList). Stands None x old.stack old.earlier old.last held reading) l (subst (λ (x : Option Gather). Stands x old.list old.stack old.earlier old.last held reading) g s)) l

-- ---- the whole step

pub start_follows : (old new : FieldsReader) (bytes : List ℕ) (byte place : ℕ) (taken : Taken) → place ≡ length bytes - 1 → Starts place byte old new taken → Follows old new bytes byte taken
start_follows old new bytes byte place taken at starts held split reading s = starts held (omega (arith, at, ap length split, length-append held (byte ∷ []))) reading s

pub finish_follows : (gather : Gather) (old new : FieldsReader) (bytes : List ℕ) (byte : ℕ) (taken : Taken) → old.gather ≡ Some gather → Finishes gather old new bytes byte taken → Follows old new bytes byte taken
finish_follows gather old new bytes byte taken g finishes held split reading s = finishes held split reading (subst (λ (x : Option Gather). Stands x old.list old.stack old.earlier old.last held reading) g s)

pub nothing_starts : (old : FieldsReader) (place byte : ℕ) → old.gather ≡ None → old.list ≡ None → old.stack ≡ [] → Starts place byte old old takens.Behind
nothing_starts old place byte g l k = λ held at reading s later.
    nothing_left old.earlier old.last held byte reading
    (subst (λ (ts : List Task). Stands None None ts old.earlier old.last held reading) k
    (subst (λ (x : Option TextList). Stands None x old.stack old.earlier old.last held reading) l (subst (λ (x : Option Gather). Stands x old.list old.stack old.earlier old.last held reading) g s)))
    later

-- ---- the end

pub gather_tells : (reader : FieldsReader) (gather : Gather) → reader.gather ≡ Some gather → TellsEnd reader false
gather_tells reader gather g = λ held reading s.
    gather_left reader.earlier reader.last held reading gather reader.list reader.stack (subst (λ (x : Option Gather). Stands x reader.list reader.stack reader.earlier reader.last held reading) g s)

pub list_tells : (reader : FieldsReader) (list : TextList) → reader.gather ≡ None → reader.list ≡ Some list → TellsEnd reader false
list_tells reader list g l = λ held reading s.
    list_left reader.earlier reader.last held reading list reader.stack
    (subst (λ (x : Option TextList). Stands None x reader.stack reader.earlier reader.last held reading) l (subst (λ (x : Option Gather). Stands x reader.list reader.stack reader.earlier reader.last held reading) g s))

alone_is : (reader : FieldsReader) (held : List ℕ) (reading : Reading) → reader.gather ≡ None → reader.list ≡ None → Means reader held reading → Stands None None reader.stack reader.earlier reader.last held reading
alone_is reader held reading g l s =
    subst (λ (x : Option TextList). Stands None x reader.stack reader.earlier reader.last held reading) l (subst (λ (x : Option Gather). Stands x reader.list reader.stack reader.earlier reader.last held reading) g s)

pub task_tells : (reader : FieldsReader) (task : Task) → reader.gather ≡ None → reader.list ≡ None → slice_get reader.stack (length reader.stack - 1) ≡ Some task → TellsEnd reader false
task_tells reader task g l k = λ held reading s.
    task_left reader.earlier reader.last held reading (take (length reader.stack - 1) reader.stack) task (at_task task reader held reading k (alone_is reader held reading g l s))

pub none_tells : (reader : FieldsReader) → reader.gather ≡ None → reader.list ≡ None → slice_get reader.stack (length reader.stack - 1) ≡ None → TellsEnd reader true
none_tells reader g l k = λ held reading s.
    all_read reader.earlier reader.last held reading (subst (λ (ts : List Task). Stands None None ts reader.earlier reader.last held reading) (no_last reader.stack k) (alone_is reader held reading g l s))
