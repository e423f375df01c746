-- What is kept, from byte to byte.
use Rattle.std.proofs.Common.{◌≡◌, ℕ, zero, suc, ◌+◌, Bool, true, false, not, cond, ◌&&◌, ◌||◌, List, [], ◌∷◌, ◌++◌, length, map, reverse, drop, Option, Some, None, refl, sym, ap, ◌∙◌, append-nil, subst, lit<, arith}
use Rattle.std.specs.FinMap as fin
use Rattle.std.specs.List.{list_any}
use Rattle.std.specs.Str.{bytes_eq}
use Rattle.std.proofs.lemmas.List.{drop-append-le, drop_at, length-append, map-append, reverse-append}
use Rattle.apt_base.specs.Fields.{is_text}
use Rattle.frame_forms.specs.declared.bad_kind.BadKind.{BadKind}
use Rattle.frame_forms.specs.declared.bad_kind.BadKind.TheVariants as kinds
use Rattle.frame_forms.specs.Scans.{Scan, whole, begun, bad, and_then, front_scan, judged, run_scan}
use Rattle.frame_forms.proofs.Steady.{number_scan-short}
use Rattle.std.specs.Int.{w32}
use Rattle.frame_reader.specs.declared.node.Item.{Item}
use Rattle.frame_reader.specs.declared.node.ListRule.{ListRule}
use Rattle.frame_reader.specs.declared.node.ListRule.TheVariants as rules
use Rattle.frame_reader.specs.declared.node.Node.{Node}
use Rattle.frame_reader.specs.declared.node.Node.TheVariants as nodes
use Rattle.frame_reader.specs.declared.task.TextRule.{TextRule}
use Rattle.frame_reader.specs.declared.task.TextRule.TheVariants as texts
use Rattle.frame_reader.specs.declared.task.Then.{Then}
use Rattle.frame_reader.specs.declared.task.Then.TheVariants as thens
use Rattle.frame_reader.specs.declared.task.Gather.{Gather}
use Rattle.frame_reader.specs.declared.task.Task.{Task}
use Rattle.frame_reader.specs.declared.task.Task.TheVariants as tasks
use Rattle.frame_reader.specs.declared.task.TextList.{TextList}
use Rattle.frame_reader.specs.Rests.{Reading, forgotten, then_read, node_rest, fields_rest, items_rest, texts_rest, text_rest, value_rest, turn_rest, list_rest, task_rest, tasks_rest, tail_rest, gathered, number_of, judged_rest, plain_fault, pattern_fault, listed_fault, passes, texts_left, behind_text, text_done, text_behind, gather_done, rest_of}
use Rattle.frame_reader.specs.Steps.{Left, node_left, first_kind, behind_rest, behind_task, inner_tasks, left_tasks, items_task, head_node, head_room, left_behind, gather_at}
use Rattle.apt_base.specs.Names.{NameSet, with_name}
use Rattle.frame_reader.specs.Stands.{KeepsTexts, Keeps, is_above, passes_kept, kept_fault, IsNone, IsSized, Begins, IsGathering, Stands, IsTextEnd}
use Rattle.frame_reader.specs.Follows.{EndsPlain}
use Rattle.frame_reader.proofs.Forgetting.{and_then-and_then, then_read-forgotten, then_read-whole, then_read-then_read, then_read-same, tasks_rest-append, tasks_rest-one, tasks_rest-last}
use Rattle.frame_reader.proofs.Gathering.{gathered-same, gathered-slice, then_read-gathered, run_done, run_behind, run_gathered}
use Rattle.frame_reader.proofs.Begins.{gather_start, started, outcome, text_behind-is, node_begins}
use Rattle.apt_base.proofs.NameSets.{contains-empty, contains-with_name}
use Rattle.frame_reader.proofs.Sizes.{GatherFits, LeftFits, node_left-fits, node_rest-none}

-- ---- lists

pub drop_all : {A : Type 0} (xs : List A) → drop (length xs) xs ≡ []
drop_all [] = refl
drop_all (x ∷ xs) = drop_all xs

-- ---- a stack below

-- what is below a list comes behind it
tail_below : (before : List (List ℕ)) (list : Option TextList) (stack : List Task) (bytes : List ℕ) → tail_rest before list stack bytes ≡ then_read (tail_rest before list [] bytes) (tasks_rest stack)
unfolding tasks_rest
tail_below before list stack bytes = ap (λ (s : Scan (Unit {0})). then_read s (tasks_rest stack)) (sym (then_read-whole (list_rest before list bytes)))

judged_below : (o : Option BadKind) (b : ℕ) (one : Reading) (other next : Reading) → ((rest : List ℕ) → one rest ≡ then_read (other rest) next) → (rest : List ℕ) → judged_rest o b one rest ≡ then_read (judged_rest o b other rest) next
judged_below None b one other next e rest = e rest
judged_below (Some kind) b one other next e rest = refl

text_below : (rule : TextRule) (before : List (List ℕ)) (list : Option TextList) (stack : List Task) (text : List ℕ) (b : ℕ) (rest : List ℕ)
    → text_done rule before list stack text b rest ≡ then_read (text_done rule before list [] text b rest) (tasks_rest stack)
text_below texts.Octets before list stack text b rest = tail_below before list stack rest
text_below texts.Plain before list stack text b rest = judged_below (plain_fault text) b (tail_rest before list stack) (tail_rest before list []) (tasks_rest stack) (tail_below before list stack) rest
text_below texts.Listed before None stack text b rest = judged_below (plain_fault text) b (tail_rest before None stack) (tail_rest before None []) (tasks_rest stack) (tail_below before None stack) rest
text_below texts.Listed before (Some list) stack text b rest =
    judged_below (listed_fault list.rule before text) b (tail_rest (text ∷ before) (behind_text list.rule list.more) stack) (tail_rest (text ∷ before) (behind_text list.rule list.more) [])
    (tasks_rest stack) (tail_below (text ∷ before) (behind_text list.rule list.more) stack) rest

behind_below : (rule : TextRule) (before : List (List ℕ)) (list : Option TextList) (stack : List Task) (count b : ℕ) (rest : List ℕ)
    → text_behind rule before list stack count b rest ≡ then_read (text_behind rule before list [] count b rest) (tasks_rest stack)
behind_below rule before list stack zero b rest = text_below rule before list stack [] b rest
behind_below rule before list stack (suc more) b rest =
    gathered-same [] more (λ front last behind. text_done rule before list stack (front ++ last ∷ []) last behind) (λ front last behind. then_read (text_done rule before list [] (front ++ last ∷ []) last behind) (tasks_rest stack))
    (λ front last behind. text_below rule before list stack (front ++ last ∷ []) last behind) rest
    ∙ sym (then_read-gathered [] more (λ front last behind. text_done rule before list [] (front ++ last ∷ []) last behind) (tasks_rest stack) rest)

done_below : (next : Then) (before : List (List ℕ)) (list : Option TextList) (stack : List Task) (front : List ℕ) (b : ℕ) (rest : List ℕ)
    → gather_done next before list stack front b rest ≡ then_read (gather_done next before list [] front b rest) (tasks_rest stack)
done_below thens.Skip before list stack front b rest = tail_below before list stack rest
done_below (thens.Length rule) before list stack front b rest = behind_below rule before list stack (number_of front b) b rest
done_below (thens.Text rule) before list stack front b rest = text_below rule before list stack (front ++ b ∷ []) b rest
done_below (thens.Count item room) before list stack front b rest =
    let s = items_rest (node_rest room (nodes.One item)) (number_of front b) rest in
    then_read-same s (tail_rest before list stack) (λ behind. then_read (tail_rest before list [] behind) (tasks_rest stack)) (tail_below before list stack)
    ∙ sym (then_read-then_read s (tail_rest before list []) (tasks_rest stack))
done_below (thens.ListCount rule) before list stack front b rest =
    let s = texts_rest rule [] (number_of front b) rest in
    then_read-same s (tail_rest before list stack) (λ behind. then_read (tail_rest before list [] behind) (tasks_rest stack)) (tail_below before list stack)
    ∙ sym (then_read-then_read s (tail_rest before list []) (tasks_rest stack))

-- ---- tasks for what is left

inner_rest : (room : ℕ) (fields : List Node) (bytes : List ℕ) → tasks_rest (inner_tasks room fields) bytes ≡ fields_rest room fields bytes
unfolding fields_rest tasks_rest
inner_rest room [] bytes = refl
inner_rest room (node ∷ others) bytes =
    ap (λ (ns : List Node). tasks_rest (map (λ n. tasks.Field n room) ns) bytes) (reverse-append (node ∷ []) others)
    ∙ ap (λ (ts : List Task). tasks_rest ts bytes) (map-append (λ (n : Node). tasks.Field n room) (reverse others) (node ∷ []))
    ∙ tasks_rest-last (inner_tasks room others) (tasks.Field node room) bytes
    ∙ then_read-same (node_rest room node bytes) (tasks_rest (inner_tasks room others)) (fields_rest room others) (inner_rest room others)

behind_rests : (room : ℕ) (behind : Option Node) (bytes : List ℕ) → tasks_rest (behind_task room behind) bytes ≡ behind_rest room behind bytes
unfolding tasks_rest
behind_rests room None bytes = refl
behind_rests room (Some node) bytes = tasks_rest-one (tasks.Field node room) bytes

left_rests : (room : ℕ) (left : Left) (below : List Task) (bytes : List ℕ)
    → tasks_rest (below ++ left_tasks room left) bytes ≡ then_read (then_read (fields_rest left.room left.inner bytes) (behind_rest room left.behind)) (tasks_rest below)
left_rests room left below bytes =
    tasks_rest-append below (left_tasks room left) bytes
    ∙ ap (λ (s : Scan (Unit {0})). then_read s (tasks_rest below))
    (tasks_rest-append (behind_task room left.behind) (inner_tasks left.room left.inner) bytes
    ∙ ap (λ (s : Scan (Unit {0})). then_read s (tasks_rest (behind_task room left.behind))) (inner_rest left.room left.inner bytes)
    ∙ then_read-same (fields_rest left.room left.inner bytes) (tasks_rest (behind_task room left.behind)) (behind_rest room left.behind) (behind_rests room left.behind))

items_rests : (item : Item) (room count : ℕ) (bytes : List ℕ) → tasks_rest (items_task item room count) bytes ≡ items_rest (node_rest room (nodes.One item)) count bytes
unfolding tasks_rest items_rest
items_rests item room zero bytes = refl
items_rests item room (suc more) bytes = refl

module _ (earlier : NameSet) (last : Option (List ℕ)) (held : List ℕ) (b : ℕ) (reading : Reading) where
  abbrev after : List ℕ
  after = held ++ b ∷ []

  abbrev on : Reading
  on later = reading (b ∷ later)

  one_more : length after ≡ suc (length held)
  one_more = omega (arith, length-append held (b ∷ []))

  pub drop_after : (from have : ℕ) → from + have ≡ length held → drop from after ≡ drop from held ++ b ∷ []
  drop_after from have e = drop-append-le from held (b ∷ []) (omega (arith, e))

  -- ---- bytes that are gathered

  pub gathers_on : (gather : Gather) (fewer : ℕ) (list : Option TextList) (stack : List Task) → gather.more ≡ suc fewer
      → Stands (Some gather) list stack earlier last held reading → Stands (Some (record { from = gather.from; more = fewer; then = gather.then })) list stack earlier last after on
  unfolding gathered
  gathers_on gather fewer list stack e s = record {
    before = s.before;
    keeps = s.keeps;
    gathering = record {
      have = suc s.gathering.have;
      from = let f = s.gathering.from in let n = one_more in omega (arith, f, n);
      sized = let same : s.gathering.have + suc gather.more ≡ suc s.gathering.have + suc fewer = omega (arith, e) in
          let P : ℕ → Type 0 = λ n. IsSized gather.then list n in subst P same s.gathering.sized;
    };
    same = λ later.
        s.same (b ∷ later)
        ∙ ap (λ (n : ℕ). gathered (drop gather.from held) n (gather_done gather.then s.before list stack) (b ∷ later)) e
        ∙ ap (λ (f : List ℕ). gathered f fewer (gather_done gather.then s.before list stack) later) (sym (drop_after gather.from s.gathering.have s.gathering.from));
  }

  -- the last one of them
  finished : (gather : Gather) (list : Option TextList) (stack : List Task) → gather.more ≡ 0 → (s : Stands (Some gather) list stack earlier last held reading)
      → (later : List ℕ) → on later ≡ gather_done gather.then s.before list stack (drop gather.from held) b later
  unfolding gathered
  finished gather list stack e s later = s.same (b ∷ later) ∙ ap (λ (n : ℕ). gathered (drop gather.from held) n (gather_done gather.then s.before list stack) (b ∷ later)) e

  finished_by : (gather : Gather) (next : Then) (list : Option TextList) (stack : List Task) → gather.more ≡ 0 → gather.then ≡ next → (s : Stands (Some gather) list stack earlier last held reading)
      → (later : List ℕ) → on later ≡ gather_done next s.before list stack (drop gather.from held) b later
  finished_by gather next list stack e f s later = finished gather list stack e s later ∙ ap (λ (n : Then). gather_done n s.before list stack (drop gather.from held) b later) f

  pub skips : (gather : Gather) (list : Option TextList) (stack : List Task) → gather.more ≡ 0 → gather.then ≡ thens.Skip
      → Stands (Some gather) list stack earlier last held reading → Stands None list stack earlier last after on
  skips gather list stack e f s = record { before = s.before; keeps = s.keeps; gathering = tt; same = finished_by gather thens.Skip list stack e f s }

  pub counts : (gather : Gather) (item : Item) (room count : ℕ) (list : Option TextList) (stack : List Task) → gather.more ≡ 0 → gather.then ≡ thens.Count item room
      → number_of (drop gather.from held) b ≡ count
      → Stands (Some gather) list stack earlier last held reading → Stands None list (stack ++ items_task item room count) earlier last after on
  counts gather item room count list stack e f worth s = go list s (finished_by gather (thens.Count item room) list stack e f s) (subst (λ (n : Then). IsSized n list (s.gathering.have + suc gather.more)) f s.gathering.sized).1
    where
      go : (texts : Option TextList) (t : Stands (Some gather) texts stack earlier last held reading)
          → ((later : List ℕ) → on later ≡ gather_done (thens.Count item room) t.before texts stack (drop gather.from held) b later) → IsNone texts
          → Stands None texts (stack ++ items_task item room count) earlier last after on
      go (Some texts) t same none = absurd none
      go None t same none = record {
        before = t.before;
        keeps = tt;
        gathering = tt;
        same = λ later.
            same later
            ∙ ap (λ (n : ℕ). then_read (items_rest (node_rest room (nodes.One item)) n later) (tasks_rest stack)) worth
            ∙ ap (λ (r : Scan (Unit {0})). then_read r (tasks_rest stack)) (sym (items_rests item room count later))
            ∙ sym (tasks_rest-append stack (items_task item room count) later);
      }

  texts_rests : (rule : ListRule) (before : List (List ℕ)) (count : ℕ) (bytes : List ℕ) → list_rest before (texts_left rule count) bytes ≡ texts_rest rule before count bytes
  unfolding texts_rest
  texts_rests rule before zero bytes = refl
  texts_rests rule before (suc more) bytes = refl

  keeps_none : (rule : ListRule) (count : ℕ) → Keeps (texts_left rule count) [] fin.empty None
  keeps_none rule zero = tt
  keeps_none rules.DistinctTexts (suc more) = λ text. contains-empty text
  keeps_none rules.DistinctPatterns (suc more) = λ text. contains-empty text
  keeps_none rules.AscendingTexts (suc more) = refl
  keeps_none rules.AscendingOptions (suc more) = refl

  pub list_counts : (gather : Gather) (rule : ListRule) (count : ℕ) (list : Option TextList) (stack : List Task) → gather.more ≡ 0 → gather.then ≡ thens.ListCount rule
      → number_of (drop gather.from held) b ≡ count
      → Stands (Some gather) list stack earlier last held reading → Stands None (texts_left rule count) stack fin.empty None after on
  list_counts gather rule count list stack e f worth s = go list s (finished_by gather (thens.ListCount rule) list stack e f s) (subst (λ (n : Then). IsSized n list (s.gathering.have + suc gather.more)) f s.gathering.sized).1
    where
      go : (texts : Option TextList) (t : Stands (Some gather) texts stack earlier last held reading)
          → ((later : List ℕ) → on later ≡ gather_done (thens.ListCount rule) t.before texts stack (drop gather.from held) b later) → IsNone texts
          → Stands None (texts_left rule count) stack fin.empty None after on
      go (Some texts) t same none = absurd none
      go None t same none = record {
        before = [];
        keeps = keeps_none rule count;
        gathering = tt;
        same = λ later.
            same later
            ∙ ap (λ (n : ℕ). then_read (texts_rest rule [] n later) (tasks_rest stack)) worth
            ∙ ap (λ (r : Scan (Unit {0})). then_read r (tasks_rest stack)) (sym (texts_rests rule [] count later));
      }

  pub length_on : (gather : Gather) (rule : TextRule) (more place : ℕ) (list : Option TextList) (stack : List Task) → gather.more ≡ 0 → gather.then ≡ thens.Length rule
      → number_of (drop gather.from held) b ≡ suc more → place ≡ length after
      → Stands (Some gather) list stack earlier last held reading → Stands (Some (record { from = place; more = more; then = thens.Text rule })) list stack earlier last after on
  length_on gather rule more place list stack e f worth at s = record {
    before = s.before;
    keeps = s.keeps;
    gathering = record { have = 0; from = omega (arith, at); sized = tt };
    same = λ later.
        finished_by gather (thens.Length rule) list stack e f s later
        ∙ ap (λ (n : ℕ). text_behind rule s.before list stack n b later) worth
        ∙ ap (λ (t : List ℕ). gathered t more (gather_done (thens.Text rule) s.before list stack) later) (sym (ap (λ (n : ℕ). drop n after) at ∙ drop_all after));
  }

  pub length_ends : (gather : Gather) (rule : TextRule) (list : Option TextList) (stack : List Task) → gather.more ≡ 0 → gather.then ≡ thens.Length rule → number_of (drop gather.from held) b ≡ 0
      → (s : Stands (Some gather) list stack earlier last held reading) → IsTextEnd earlier last b reading rule list stack [] s.before
  length_ends gather rule list stack e f worth s = record {
    keeps = s.keeps;
    same = λ later. finished_by gather (thens.Length rule) list stack e f s later ∙ ap (λ (n : ℕ). text_behind rule s.before list stack n b later) worth;
  }

  pub text_ends : (gather : Gather) (rule : TextRule) (list : Option TextList) (stack : List Task) → gather.more ≡ 0 → gather.then ≡ thens.Text rule
      → (s : Stands (Some gather) list stack earlier last held reading) → IsTextEnd earlier last b reading rule list stack (drop gather.from after) s.before
  text_ends gather rule list stack e f s = record {
    keeps = s.keeps;
    same = λ later.
        finished_by gather (thens.Text rule) list stack e f s later
        ∙ ap (λ (t : List ℕ). text_done rule s.before list stack t b later) (sym (drop_after gather.from s.gathering.have s.gathering.from));
  }

  -- ---- the end of a text

  pub octets_pass : (list : Option TextList) (stack : List Task) (text : List ℕ) (before : List (List ℕ)) → IsTextEnd earlier last b reading texts.Octets list stack text before → Stands None list stack earlier last after on
  octets_pass list stack text before t = record { before = before; keeps = t.keeps; gathering = tt; same = t.same }

  pub plain_passes : (list : Option TextList) (stack : List Task) (text : List ℕ) (before : List (List ℕ)) → plain_fault text ≡ None → IsTextEnd earlier last b reading texts.Plain list stack text before → Stands None list stack earlier last after on
  plain_passes list stack text before e t = record {
    before = before;
    keeps = t.keeps;
    gathering = tt;
    same = λ later. t.same later ∙ ap (λ (o : Option BadKind). judged_rest o b (tail_rest before list stack) later) e;
  }

  pub plain_fails : (list : Option TextList) (stack : List Task) (text : List ℕ) (before : List (List ℕ)) (kind : BadKind) → plain_fault text ≡ Some kind → IsTextEnd earlier last b reading texts.Plain list stack text before → (later : List ℕ) → on later ≡ bad (b ∷ later) kind
  plain_fails list stack text before kind e t later = t.same later ∙ ap (λ (o : Option BadKind). judged_rest o b (tail_rest before list stack) later) e

  -- a text of a list that is not there is any text
  pub listed_alone : (stack : List Task) (text : List ℕ) (before : List (List ℕ)) → IsTextEnd earlier last b reading texts.Listed None stack text before → IsTextEnd earlier last b reading texts.Plain None stack text before
  listed_alone stack text before t = record { keeps = tt; same = t.same }

  not_same : (x y : Bool) → x ≡ y → not x ≡ not y
  not_same x y e = ap not e

  kept_same : (rule : ListRule) (before : List (List ℕ)) (text : List ℕ) → KeepsTexts rule before earlier last → passes_kept rule earlier last text ≡ passes rule before text
  kept_same rules.DistinctTexts before text k = ap not (k text)
  kept_same rules.DistinctPatterns before text k = ap not (k text)
  kept_same rules.AscendingTexts [] text k = ap (λ (o : Option (List ℕ)). is_above o text) k
  kept_same rules.AscendingTexts (t ∷ ts) text k = ap (λ (o : Option (List ℕ)). is_above o text) k
  kept_same rules.AscendingOptions [] text k = ap (λ (o : Option (List ℕ)). is_above o text) k
  kept_same rules.AscendingOptions (t ∷ ts) text k = ap (λ (o : Option (List ℕ)). is_above o text) k

  fault_same : (rule : ListRule) (before : List (List ℕ)) (text : List ℕ) → KeepsTexts rule before earlier last → listed_fault rule before text ≡ kept_fault rule earlier last text
  fault_same rule before text k = ap (λ (x : Bool). cond (is_text text && x) (pattern_fault rule text) (Some kinds.Field)) (sym (kept_same rule before text k))

  pub listed_passes : (list : TextList) (stack : List Task) (text : List ℕ) (before : List (List ℕ)) (earlier' : NameSet) (last' : Option (List ℕ)) → kept_fault list.rule earlier last text ≡ None
      → Keeps (behind_text list.rule list.more) (text ∷ before) earlier' last'
      → IsTextEnd earlier last b reading texts.Listed (Some list) stack text before → Stands None (behind_text list.rule list.more) stack earlier' last' after on
  listed_passes list stack text before earlier' last' e k t = record {
    before = text ∷ before;
    keeps = k;
    gathering = tt;
    same = λ later. t.same later
        ∙ ap (λ (o : Option BadKind). judged_rest o b (tail_rest (text ∷ before) (behind_text list.rule list.more) stack) later) (fault_same list.rule before text t.keeps ∙ e);
  }

  pub listed_fails : (list : TextList) (stack : List Task) (text : List ℕ) (before : List (List ℕ)) (kind : BadKind) → kept_fault list.rule earlier last text ≡ Some kind
      → IsTextEnd earlier last b reading texts.Listed (Some list) stack text before → (later : List ℕ) → on later ≡ bad (b ∷ later) kind
  listed_fails list stack text before kind e t later =
      t.same later ∙ ap (λ (o : Option BadKind). judged_rest o b (tail_rest (text ∷ before) (behind_text list.rule list.more) stack) later) (fault_same list.rule before text t.keeps ∙ e)

  pub plain_ends : (rule : TextRule) (list : Option TextList) (stack : List Task) (text : List ℕ) (before : List (List ℕ)) → EndsPlain rule list → is_text text ≡ true
      → IsTextEnd earlier last b reading rule list stack text before → Stands None list stack earlier last after on
  plain_ends texts.Octets list stack text before p e t = absurd p
  plain_ends texts.Plain list stack text before p e t = plain_passes list stack text before (ap (λ (x : Bool). cond (x && true) None (Some kinds.Field)) e) t
  plain_ends texts.Listed None stack text before p e t = plain_passes None stack text before (ap (λ (x : Bool). cond (x && true) None (Some kinds.Field)) e) (listed_alone stack text before t)
  plain_ends texts.Listed (Some list) stack text before p e t = absurd p

  pub plain_is_bad : (rule : TextRule) (list : Option TextList) (stack : List Task) (text : List ℕ) (before : List (List ℕ)) → EndsPlain rule list → is_text text ≡ false
      → IsTextEnd earlier last b reading rule list stack text before → (later : List ℕ) → on later ≡ bad (b ∷ later) kinds.Field
  plain_is_bad texts.Octets list stack text before p e t = absurd p
  plain_is_bad texts.Plain list stack text before p e t = plain_fails list stack text before kinds.Field (ap (λ (x : Bool). cond (x && true) None (Some kinds.Field)) e) t
  plain_is_bad texts.Listed None stack text before p e t = plain_fails None stack text before kinds.Field (ap (λ (x : Bool). cond (x && true) None (Some kinds.Field)) e) (listed_alone stack text before t)
  plain_is_bad texts.Listed (Some list) stack text before p e t = absurd p

  -- ---- the beginning of a text

  first_step : (more : ℕ) (next : List ℕ → ℕ → Reading) (later : List ℕ) → gathered [] (suc more) next (b ∷ later) ≡ gathered (b ∷ []) more next later
  unfolding gathered
  first_step more next later = refl

  drop_here : drop (length held) after ≡ b ∷ []
  drop_here = drop_at held (b ∷ []) (length held) refl

  -- bytes that begin with this one
  begun_here : (before : List (List ℕ)) (more : ℕ) (next : Then) (list : Option TextList) (stack : List Task) (later : List ℕ)
      → gathered (b ∷ []) more (gather_done next before list stack) later ≡ rest_of before (Some (record { from = length held; more = more; then = next })) list stack after later
  begun_here before more next list stack later = ap (λ (t : List ℕ). gathered t more (gather_done next before list stack) later) (sym drop_here)

  length_here : (rule : TextRule) (list : Option TextList) → Begins (record { from = length held; more = 2; then = thens.Length rule }) list (length after)
  length_here rule list = record { have = 1; from = let n = one_more in omega (arith, n); sized = refl }

  -- the text is read, and then what is to come behind it
  run_and : (rule : TextRule) (before : List (List ℕ)) (list : Option TextList) (stack : List Task) (fault : List ℕ → Option BadKind) (k : List ℕ → Reading)
      → ((text : List ℕ) (c : ℕ) (rest : List ℕ) → run_done fault k text c rest ≡ text_done rule before list stack text c rest)
      → (later : List ℕ) → and_then (run_scan fault (b ∷ later)) k ≡ gathered (b ∷ []) 2 (gather_done (thens.Length rule) before list stack) later
  run_and rule before list stack fault k e later =
      run_gathered fault k (b ∷ later)
      ∙ first_step 2 (λ front c rest. run_behind fault k (number_of front c) c rest) later
      ∙ gathered-same (b ∷ []) 2 (λ front c rest. run_behind fault k (number_of front c) c rest) (gather_done (thens.Length rule) before list stack)
      (λ front c rest. text_behind-is rule before list stack fault k e (number_of front c) c rest) later

  judged-same : (o : Option BadKind) (c : ℕ) (one other : Reading) → ((rest : List ℕ) → one rest ≡ other rest) → (rest : List ℕ) → judged_rest o c one rest ≡ judged_rest o c other rest
  judged-same None c one other e rest = e rest
  judged-same (Some kind) c one other e rest = refl

  text_then : (rule : ListRule) (before : List (List ℕ)) (more : ℕ) (rest : List ℕ) → then_read (value_rest rule rest) (texts_rest rule before more) ≡ list_rest before (behind_text rule more) rest
  text_then rules.DistinctTexts before more rest = sym (texts_rests rules.DistinctTexts before more rest)
  text_then rules.DistinctPatterns before more rest = sym (texts_rests rules.DistinctPatterns before more rest)
  text_then rules.AscendingTexts before more rest = sym (texts_rests rules.AscendingTexts before more rest)
  text_then rules.AscendingOptions before more rest = refl

  -- the next text of a list begins
  pub listed_begins : (rule : ListRule) (more : ℕ) (stack : List Task) → Stands None (Some (record { rule = rule; value_next = false; more = more })) stack earlier last held reading
      → Stands (Some (record { from = length held; more = 2; then = thens.Length texts.Listed })) (Some (record { rule = rule; value_next = false; more = more })) stack earlier last after on
  unfolding texts_rest
  listed_begins rule more stack s = record {
    before = s.before;
    keeps = s.keeps;
    gathering = length_here texts.Listed (Some (record { rule = rule; value_next = false; more = more }));
    same = λ later.
        let list : Option TextList = Some (record { rule = rule; value_next = false; more = more }) in
        let next : List ℕ → Reading = λ text rest. then_read (value_rest rule rest) (texts_rest rule (text ∷ s.before) more) in
        let k : List ℕ → Reading = λ text rest. then_read (next text rest) (tasks_rest stack) in
        s.same (b ∷ later)
        ∙ and_then-and_then (run_scan (listed_fault rule s.before) (b ∷ later)) next (λ done rest. tasks_rest stack rest)
        ∙ run_and texts.Listed s.before list stack (listed_fault rule s.before) k
        (λ text c rest. judged-same (listed_fault rule s.before text) c (k text) (tail_rest (text ∷ s.before) (behind_text rule more) stack)
        (λ behind. ap (λ (r : Scan (Unit {0})). then_read r (tasks_rest stack)) (text_then rule (text ∷ s.before) more behind)) rest) later
        ∙ begun_here s.before 2 (thens.Length texts.Listed) list stack later;
  }

  keeps_left : (rule : ListRule) (more : ℕ) (before : List (List ℕ)) → KeepsTexts rule before earlier last → Keeps (texts_left rule more) before earlier last
  keeps_left rule zero before k = tt
  keeps_left rule (suc more) before k = k

  -- the value of a text begins
  pub value_begins : (rule : ListRule) (more : ℕ) (stack : List Task) → Stands None (Some (record { rule = rule; value_next = true; more = more })) stack earlier last held reading
      → Stands (Some (record { from = length held; more = 2; then = thens.Length texts.Plain })) (texts_left rule more) stack earlier last after on
  value_begins rule more stack s = record {
    before = s.before;
    keeps = keeps_left rule more s.before s.keeps;
    gathering = length_here texts.Plain (texts_left rule more);
    same = λ later.
        let list = texts_left rule more in
        let k : List ℕ → Reading = λ text rest. then_read (texts_rest rule s.before more rest) (tasks_rest stack) in
        s.same (b ∷ later)
        ∙ then_read-then_read (text_rest (b ∷ later)) (texts_rest rule s.before more) (tasks_rest stack)
        ∙ then_read-forgotten (run_scan plain_fault (b ∷ later)) (λ rest. then_read (texts_rest rule s.before more rest) (tasks_rest stack))
        ∙ run_and texts.Plain s.before list stack plain_fault k
        (λ text c rest. judged-same (plain_fault text) c (k text) (tail_rest s.before list stack)
        (λ behind. ap (λ (r : Scan (Unit {0})). then_read r (tasks_rest stack)) (sym (texts_rests rule s.before more behind))) rest) later
        ∙ begun_here s.before 2 (thens.Length texts.Plain) list stack later;
  }

  -- ---- the beginning of a task

  then_read-left : (room : ℕ) (left : Left) (below : List Task) (rest : List ℕ)
      → then_read (then_read (fields_rest left.room left.inner rest) (behind_rest room left.behind)) (tasks_rest below) ≡ tasks_rest (below ++ left_tasks room left) rest
  then_read-left room left below rest = sym (left_rests room left below rest)

  started_on : (before : List (List ℕ)) (room : ℕ) (left : Left) (below : List Task) (later : List ℕ)
      → then_read (started before room b left later) (tasks_rest below) ≡ rest_of before (gather_at (length held) left.gather) None (below ++ left_tasks room left) after later
  started_on before room left below later =
      ap (λ (r : Scan (Unit {0})). then_read r (tasks_rest below)) (then_read-then_read start (fields_rest left.room left.inner) (behind_rest room left.behind))
      ∙ then_read-then_read start (λ rest. then_read (fields_rest left.room left.inner rest) (behind_rest room left.behind)) (tasks_rest below)
      ∙ then_read-same start (λ rest. then_read (then_read (fields_rest left.room left.inner rest) (behind_rest room left.behind)) (tasks_rest below)) (tasks_rest (below ++ left_tasks room left))
      (then_read-left room left below)
      ∙ go left.gather
    where
      start : Scan (Unit {0})
      start = gather_start before b left.gather later

      go : (g : Option (ℕ × Then)) → then_read (gather_start before b g later) (tasks_rest (below ++ left_tasks room left)) ≡ rest_of before (gather_at (length held) g) None (below ++ left_tasks room left) after later
      go None = refl
      go (Some g) =
          then_read-gathered (b ∷ []) g.0 (gather_done g.1 before None []) (tasks_rest (below ++ left_tasks room left)) later
          ∙ gathered-same (b ∷ []) g.0 (λ f c rest. then_read (gather_done g.1 before None [] f c rest) (tasks_rest (below ++ left_tasks room left))) (gather_done g.1 before None (below ++ left_tasks room left))
          (λ f c rest. sym (done_below g.1 before None (below ++ left_tasks room left) f c rest)) later
          ∙ begun_here before g.0 g.1 None (below ++ left_tasks room left) later

  task_head : (task : Task) (below : List Task) (bytes : List ℕ) → tasks_rest (below ++ task ∷ []) bytes ≡ then_read (node_rest (head_room task) (head_node task) bytes) (tasks_rest (below ++ left_behind task))
  unfolding items_rest
  task_head (tasks.Field node room) below bytes = tasks_rest-last below (tasks.Field node room) bytes ∙ ap (λ (ts : List Task). then_read (node_rest room node bytes) (tasks_rest ts)) (sym (append-nil below))
  task_head (tasks.Items item room more) below bytes =
      let r = node_rest room (nodes.One item) in
      tasks_rest-last below (tasks.Items item room more) bytes
      ∙ then_read-then_read (r bytes) (items_rest r more) (tasks_rest below)
      ∙ then_read-same (r bytes) (λ rest. then_read (items_rest r more rest) (tasks_rest below)) (tasks_rest (below ++ items_task item room more))
      (λ rest. ap (λ (s : Scan (Unit {0})). then_read s (tasks_rest below)) (sym (items_rests item room more rest)) ∙ sym (tasks_rest-append below (items_task item room more) rest))

  task_begins : (task : Task) (below : List Task) (s : Stands None None (below ++ task ∷ []) earlier last held reading) (later : List ℕ)
      → on later ≡ then_read (outcome s.before (head_room task) (first_kind (head_node task)) b (node_left (head_room task) (head_node task) b) later) (tasks_rest (below ++ left_behind task))
  task_begins task below s later =
      s.same (b ∷ later)
      ∙ task_head task below (b ∷ later)
      ∙ ap (λ (r : Scan (Unit {0})). then_read r (tasks_rest (below ++ left_behind task))) (node_begins s.before (head_room task) b later (head_node task))

  pub task_fails : (task : Task) (below : List Task) → node_left (head_room task) (head_node task) b ≡ None → Stands None None (below ++ task ∷ []) earlier last held reading
      → (later : List ℕ) → on later ≡ bad (b ∷ later) (first_kind (head_node task))
  task_fails task below e s later =
      task_begins task below s later ∙ ap (λ (o : Option Left). then_read (outcome s.before (head_room task) (first_kind (head_node task)) b o later) (tasks_rest (below ++ left_behind task))) e

  pub task_goes_on : (task : Task) (below : List Task) (left : Left) → node_left (head_room task) (head_node task) b ≡ Some left → Stands None None (below ++ task ∷ []) earlier last held reading
      → Stands (gather_at (length held) left.gather) None ((below ++ left_behind task) ++ left_tasks (head_room task) left) earlier last after on
  task_goes_on task below left e s = record {
    before = s.before;
    keeps = tt;
    gathering = begins left.gather (subst LeftFits e (node_left-fits (head_room task) (head_node task) b));
    same = λ later.
        task_begins task below s later
        ∙ ap (λ (o : Option Left). then_read (outcome s.before (head_room task) (first_kind (head_node task)) b o later) (tasks_rest (below ++ left_behind task))) e
        ∙ started_on s.before (head_room task) left (below ++ left_behind task) later;
  }
    where
      begins : (g : Option (ℕ × Then)) → GatherFits g → IsGathering (gather_at (length held) g) None (length after)
      begins None f = tt
      begins (Some g) f = record { have = 1; from = let n = one_more in omega (arith, n); sized = f }

  pub nothing_left : Stands None None [] earlier last held reading → (later : List ℕ) → on later ≡ whole tt (b ∷ later)
  unfolding tasks_rest
  nothing_left s later = s.same (b ∷ later)

-- ---- many bytes at once

pub gathers_many : (earlier : NameSet) (last : Option (List ℕ)) (held chunk : List ℕ) (reading : Reading) (gather : Gather) (fewer : ℕ) (list : Option TextList) (stack : List Task) → gather.more ≡ length chunk + fewer
    → Stands (Some gather) list stack earlier last held reading → Stands (Some (record { from = gather.from; more = fewer; then = gather.then })) list stack earlier last (held ++ chunk) (λ later. reading (chunk ++ later))
gathers_many earlier last held chunk reading gather fewer list stack e s = record {
  before = s.before;
  keeps = s.keeps;
  gathering = record {
    have = s.gathering.have + length chunk;
    from = let f = s.gathering.from in omega (arith, f, length-append held chunk);
    sized = let same : s.gathering.have + suc gather.more ≡ (s.gathering.have + length chunk) + suc fewer = omega (arith, e) in
        let P : ℕ → Type 0 = λ n. IsSized gather.then list n in subst P same s.gathering.sized;
  };
  same = λ later.
      s.same (chunk ++ later)
      ∙ ap (λ (n : ℕ). gathered (drop gather.from held) n (gather_done gather.then s.before list stack) (chunk ++ later)) e
      ∙ gathered-slice (drop gather.from held) chunk fewer (gather_done gather.then s.before list stack) later
      ∙ ap (λ (f : List ℕ). gathered f fewer (gather_done gather.then s.before list stack) later)
      (sym (drop-append-le gather.from held chunk (let f = s.gathering.from in omega (arith, f))));
}

-- ---- the end of the bytes

module _ (earlier : NameSet) (last : Option (List ℕ)) (held : List ℕ) (reading : Reading) where
  pub all_read : Stands None None [] earlier last held reading → reading [] ≡ whole tt []
  unfolding tasks_rest
  all_read s = s.same []

  pub gather_left : (gather : Gather) (list : Option TextList) (stack : List Task) → Stands (Some gather) list stack earlier last held reading → reading [] ≡ begun
  unfolding gathered
  gather_left gather list stack s = s.same []

  no_run : (fault : List ℕ → Option BadKind) → run_scan fault [] ≡ begun
  unfolding run_scan
  no_run fault = ap (λ (r : Scan ℕ). and_then r (λ count rest. and_then (front_scan count rest) (λ run behind. judged (fault run) run behind (drop (count + 3) [])))) (number_scan-short w32 [] (lit< tt))

  list_none : (before : List (List ℕ)) (list : TextList) → list_rest before (Some list) [] ≡ begun
  unfolding texts_rest
  list_none before list = go list.value_next
    where
      go : (turn : Bool) → turn_rest list.rule before turn list.more [] ≡ begun
      go true = ap (λ (r : Scan (List ℕ)). then_read (forgotten r) (texts_rest list.rule before list.more)) (no_run plain_fault)
      go false = ap (λ (r : Scan (List ℕ)). and_then r (λ text rest. then_read (value_rest list.rule rest) (texts_rest list.rule (text ∷ before) list.more))) (no_run (listed_fault list.rule before))

  pub list_left : (list : TextList) (stack : List Task) → Stands None (Some list) stack earlier last held reading → reading [] ≡ begun
  list_left list stack s = s.same [] ∙ ap (λ (r : Scan (Unit {0})). then_read r (tasks_rest stack)) (list_none s.before list)

  task_none : (task : Task) → task_rest task [] ≡ begun
  unfolding items_rest
  task_none (tasks.Field node room) = node_rest-none room node
  task_none (tasks.Items item room more) = ap (λ (r : Scan (Unit {0})). then_read r (items_rest (node_rest room (nodes.One item)) more)) (node_rest-none room (nodes.One item))

  pub task_left : (below : List Task) (task : Task) → Stands None None (below ++ task ∷ []) earlier last held reading → reading [] ≡ begun
  task_left below task s = s.same [] ∙ tasks_rest-last below task [] ∙ ap (λ (r : Scan (Unit {0})). then_read r (tasks_rest below)) (task_none task)

-- ---- texts that are kept

pub keeps_behind : (rule : ListRule) (more : ℕ) (before : List (List ℕ)) (earlier : NameSet) (last : Option (List ℕ)) → KeepsTexts rule before earlier last → Keeps (behind_text rule more) before earlier last
keeps_behind rules.DistinctTexts zero before earlier last k = tt
keeps_behind rules.DistinctTexts (suc more) before earlier last k = k
keeps_behind rules.DistinctPatterns zero before earlier last k = tt
keeps_behind rules.DistinctPatterns (suc more) before earlier last k = k
keeps_behind rules.AscendingTexts zero before earlier last k = tt
keeps_behind rules.AscendingTexts (suc more) before earlier last k = k
keeps_behind rules.AscendingOptions more before earlier last k = k

-- one text more in the set
pub one_more_text : (before : List (List ℕ)) (earlier : NameSet) (text q : List ℕ) → ((t : List ℕ) → fin.contains_key earlier t ≡ list_any (bytes_eq t) before) → fin.contains_key (with_name earlier text) q ≡ list_any (bytes_eq q) (text ∷ before)
one_more_text before earlier text q k = contains-with_name earlier text q ∙ ap (λ (x : Bool). bytes_eq q text || x) (k q)
