-- Processors of which one said no Hello, so that the children before it are stopped: what is told then.
use Rattle.std.proofs.Common.{◌≡◌, ◌+◌, ℕ, suc, List, [], ◌∷◌, ◌++◌, length, map, take, Option, None, Some, IfSome, IsSomeAnd, refl, sym, ap, subst, ◌∙◌, append-nil, length-append, arith}
use Rattle.std.proofs.Math.Seq.{take-length}
use Rattle.std.proofs.lemmas.List.{length-map}
use Rattle.apt_outside.specs.Child.{Try, Child, Known, State}
use Rattle.wire_frames.specs.declared.frame.Hello.{Hello}
use Rattle.project_units.specs.Refusals.{Stop}
use Rattle.project_units.specs.Plans.{Plan}
use Rattle.round_engine.specs.Run.{Frames, first_sent}
use Rattle.round_engine.specs.Fronts.{FrontsBut}
use Rattle.round_engine.specs.Shown.{IsOutside, IsSent, AreSent, IsSame, AllSame, EachOf, IsOf, Serves, all_sent, sent_at_hello, hellos_sent, ShowsFronts, ShowsNoMore, ShowsBehind, TriesInOrder, StopsAll, AllSayHello, OneSaysNone, StopsAtHello}
use Rattle.round_engine.proofs.ChildrenOfARun.{each-weaker}
use Rattle.round_engine.proofs.FrontsOfFrames.{fronts_exact}
use Rattle.round_engine.proofs.FrontsOfHellos.{sent_to_each, sent_are, each_same}

outside_front : (child : ℕ) (group others : List ℕ) → IsOutside child (group ++ others) → IsOutside child group
outside_front child [] others out = tt
outside_front child (k ∷ group) others out = (out.0, outside_front child group others out.1)

sent_one : (p : Try) (frames : Frames) (x y : Option Child) → IfSome x (λ b. IsSomeAnd y (IsSame b)) → IsSomeAnd x (IsSent p frames) → IsSomeAnd y (IsSent p frames)
sent_one p frames None y same is = absurd is
sent_one p frames (Some b) None same is = absurd same
sent_one p frames (Some b) (Some a) same is = record { name = same.name ∙ is.name; command = same.command ∙ is.command; frames = same.sent ∙ is.frames }

-- what each was sent stays
pub sent_same : (processors : List Try) (sent : List Frames) (group : List ℕ) (old new : Known) → AllSame old new → AreSent processors sent group old → AreSent processors sent group new
sent_same processors [] [] old new same are = tt
sent_same [] [] (k ∷ group) old new same are = absurd are
sent_same (p ∷ later) [] (k ∷ group) old new same are = absurd are
sent_same [] (frames ∷ sent) [] old new same are = absurd are
sent_same (p ∷ later) (frames ∷ sent) [] old new same are = absurd are
sent_same [] (frames ∷ sent) (k ∷ group) old new same are = absurd are
sent_same (p ∷ later) (frames ∷ sent) (k ∷ group) old new same are = (sent_one p frames (old k) (new k) (same k) are.0, sent_same later sent group old new same are.1)

pub sent_count : (processors : List Try) (sent : List Frames) (group : List ℕ) (known : Known) → AreSent processors sent group known → length sent ≡ length group
sent_count processors [] [] known are = refl
sent_count [] [] (k ∷ group) known are = absurd are
sent_count (p ∷ later) [] (k ∷ group) known are = absurd are
sent_count [] (frames ∷ sent) [] known are = absurd are
sent_count (p ∷ later) (frames ∷ sent) [] known are = absurd are
sent_count [] (frames ∷ sent) (k ∷ group) known are = absurd are
sent_count (p ∷ later) (frames ∷ sent) (k ∷ group) known are = ap suc (sent_count later sent group known are.1)

pub tries_nothing : (processors : List Try) (k : State) → TriesInOrder processors k k
tries_nothing processors k = record { count = 0; few = omega arith; tried = sym (append-nil k.tried) }

-- what those of a group were sent stays, which are their processors'
pub all_same : (processors : List Try) (group : List ℕ) (old new : Known) → AllSame old new → EachOf IsOf processors group old → all_sent new group ≡ all_sent old group
all_same processors group old new same each = sent_are processors (all_sent old group) group new (sent_same processors (all_sent old group) group old new same (sent_to_each processors group old each))

-- what is told of processors that all said Hello
pub said_behind : (plan : Plan) (group : List ℕ) (said : List Hello) (old new : State) → AllSayHello plan group said old new → ShowsBehind None plan.processors group (hellos_sent old.says plan) old new
said_behind plan group said old new all =
    let sent : all_sent new.known group ≡ map (first_sent plan) plan.processors = sent_are plan.processors (map (first_sent plan) plan.processors) group new.known all.shown.shown in
    let whole : hellos_sent old.says plan ≡ map (first_sent plan) plan.processors = ap (sent_at_hello plan) all.hellos in
    record {
      others = [];
      shows = subst (λ xs. ShowsFronts None plan.processors xs (hellos_sent old.says plan) old new) (sym (append-nil group)) (record {
        tells = all.shown.tells;
        theirs = each-weaker (Serves new.says) IsOf (λ q c serves. serves.is) plan.processors group new.known all.each;
        fronts = fronts_exact (all_sent new.known group) (hellos_sent old.says plan) (whole ∙ sym sent);
        tries = record {
          count = length plan.processors;
          few = omega (arith, ap length whole, length-map plan.processors (first_sent plan));
          tried = all.tried ∙ ap (λ ps. old.tried ++ ps) (sym (take-length plan.processors));
        };
      });
    }

-- nothing more is told of others
pub shows_stopped : (exempt : Option (List ℕ)) (processors : List Try) (all : List Frames) (group : List ℕ) (k0 k1 k2 : State) → ShowsBehind exempt processors group all k0 k1 → StopsAll group k1 k2 → ShowsNoMore exempt processors all k0 k2
shows_stopped exempt processors all group k0 k1 k2 behind stops =
    let whole : List ℕ = group ++ behind.others in
    let shows = behind.shows in
    record {
      group = whole;
      shows = record {
        tells = record {
          different = shows.tells.different;
          unknown = shows.tells.unknown;
          others = λ child out. stops.attends.others child (outside_front child group behind.others out) ∙ shows.tells.others child out;
        };
        theirs = each_same processors whole k1.known k2.known stops.same shows.theirs;
        fronts = subst (λ sent. FrontsBut exempt processors sent all) (sym (all_same processors whole k1.known k2.known stops.same shows.theirs)) shows.fronts;
        tries = record { count = shows.tries.count; few = shows.tries.few; tried = stops.attends.same_tried ∙ shows.tries.tried };
      };
    }

pub tried_stopped : (processors : List Try) (group : List ℕ) (k0 k1 k2 : State) → TriesInOrder processors k0 k1 → StopsAll group k1 k2 → TriesInOrder processors k0 k2
tried_stopped processors group k0 k1 k2 tries stops = record { count = tries.count; few = tries.few; tried = stops.attends.same_tried ∙ tries.tried }

-- the one behind the group said no Hello
pub stops_at_hello : (plan : Plan) (group : List ℕ) (s : Stop) (k0 k1 k2 : State) → OneSaysNone plan group s k0 k1 → StopsAll group k1 k2 → k2.starts ≡ k1.starts → StopsAtHello plan s k0 k2
stops_at_hello plan group s k0 k1 k2 none stops same =
    let sent : List Frames = map (first_sent plan) (take (length group + 1) plan.processors) in
    let all : List ℕ = group ++ none.child ∷ [] in
    let count : length sent ≡ length group + 1 = sent_count plan.processors sent all k1.known none.shown.shown ∙ length-append group (none.child ∷ []) in
    record {
      sent = sent;
      comes = none.comes;
      shown = (
        all,
        record {
          tells = record {
            different = none.shown.tells.different;
            unknown = none.shown.tells.unknown;
            others = λ child out. stops.attends.others child (outside_front child group (none.child ∷ []) out) ∙ none.shown.tells.others child out;
          };
          shown = sent_same plan.processors sent all k1.known k2.known stops.same none.shown.shown;
        },
      );
      starts = same ∙ none.starts ∙ ap (λ n. k0.starts + n) (sym count);
      tried = stops.attends.same_tried ∙ none.tried ∙ ap (λ n. k0.tried ++ take n plan.processors) (sym count);
    }
