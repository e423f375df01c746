-- What exchanges come from units: each file and each message has one of them as its origin.
use Rattle.std.proofs.Common.{◌≡◌, ℕ, Bool, true, false, ◌&&◌, ◌||◌, List, [], ◌∷◌, ◌++◌, Option, None, Some, refl, sym, subst}
use Rattle.std.specs.List.{list_any, list_all, AllByRecursion}
use Rattle.std.specs.Option.{option_to_list}
use Rattle.std.specs.Str.{bytes_eq}
use Rattle.std.proofs.lemmas.Slice.Eq.{bytes_eq-Decides}
use Rattle.apt_base.specs.declared.element.ElementRef.{ElementRef}
use Rattle.wire_frames.specs.declared.frame.Creation.{Creation}
use Rattle.wire_frames.specs.declared.frame.Creation.TheVariants as creation
use Rattle.wire_frames.specs.declared.frame.Frame.{Frame}
use Rattle.wire_frames.specs.declared.frame.Frame.TheVariants as frame
use Rattle.wire_frames.specs.declared.frame.Message.{Message}
use Rattle.wire_frames.specs.declared.reply.Created.TheVariants as created
use Rattle.wire_frames.specs.declared.reply.Reply.{Reply}
use Rattle.wire_frames.specs.declared.reply.Reply.TheVariants as reply
use Rattle.wire_frames.specs.Limits.{is_too_large}
use Rattle.apt_filer.specs.Origins.{origin_of, file_origin, message_origin}
use Rattle.child_session.specs.declared.request.Request.{Request}
use Rattle.child_session.specs.declared.request.Request.TheVariants.{Ask, Create, Print}
use Rattle.child_session.specs.Replies.{Shown, Exchange, file_by, file_in, message_by, message_in}
use Rattle.child_session.specs.Acts.{files, messages}
use Rattle.local_procs.specs.Plans.{Plan, Ends, Sends, nothing}
use Rattle.local_procs.specs.Kinds.{IsGivenFor, GivesFor}
use Rattle.local_kinds.specs.Kinds.{comes_from, come_from}
use Rattle.local_kinds.proofs.Exchanges.{request_of, reply_by_host, exchanges_by}

some_is : {A : Type 0} (x y : A) → Some x ≡ Some y → x ≡ y
some_is x y e = cc

-- a file or a message comes from one of these units
abbrev pub IsFrom : List (List ℕ) → Request → Type 0
IsFrom units (Ask question) = Unit {0}
IsFrom units (Create creation) = comes_from units (file_origin creation) ≡ true
IsFrom units (Print message) = comes_from units (message_origin message) ≡ true

abbrev pub AreFrom : List (List ℕ) → List Exchange → Type 0
AreFrom units exchanges = AllByRecursion (λ (exchange : Exchange). IsFrom units exchange.request) exchanges

-- a unit is one of these
abbrev pub IsAmong : List (List ℕ) → List ℕ → Type 0
IsAmong units unit = list_any (λ other. bytes_eq other unit) units ≡ true

both_true : (a b : Bool) → a ≡ true → b ≡ true → (a && b) ≡ true
both_true true b is too = too
both_true false b is too = is

module _ (units : List (List ℕ)) where
  file_from : (request : Request) (answer : Reply) (c : Creation) → file_by request answer ≡ Some c → IsFrom units request → comes_from units (file_origin c) ≡ true
  file_from (Create other) (reply.Created created.Accepted) c e is = subst (λ x. comes_from units (file_origin x) ≡ true) (some_is other c e) is
  file_from request answer c e is = absurd cc

  message_from : (request : Request) (answer : Reply) (m : Message) → message_by request answer ≡ Some m → IsFrom units request → comes_from units (message_origin m) ≡ true
  message_from (Print other) reply.Noted m e is = subst (λ x. comes_from units (message_origin x) ≡ true) (some_is other m e) is
  message_from request answer m e is = absurd cc

  all_files : (exchanges : List Exchange) → AreFrom units exchanges → list_all (λ c. comes_from units (file_origin c)) (files exchanges) ≡ true
  all_files [] are = refl
  all_files (exchange ∷ others) are = by (all_files others are.1) (file_in exchange) refl
    where
      by : list_all (λ c. comes_from units (file_origin c)) (files others) ≡ true → (o : Option Creation) → file_in exchange ≡ o
          → list_all (λ c. comes_from units (file_origin c)) (files (exchange ∷ others)) ≡ true
      by rest None is = rw is rest
      by rest (Some c) is = rw is (both_true (comes_from units (file_origin c)) _ (file_from exchange.request exchange.reply c is are.0) rest)

  all_messages : (exchanges : List Exchange) → AreFrom units exchanges → list_all (λ m. comes_from units (message_origin m)) (messages exchanges) ≡ true
  all_messages [] are = refl
  all_messages (exchange ∷ others) are = by (all_messages others are.1) (message_in exchange) refl
    where
      by : list_all (λ m. comes_from units (message_origin m)) (messages others) ≡ true → (o : Option Message) → message_in exchange ≡ o
          → list_all (λ m. comes_from units (message_origin m)) (messages (exchange ∷ others)) ≡ true
      by rest None is = rw is rest
      by rest (Some m) is = rw is (both_true (comes_from units (message_origin m)) _ (message_from exchange.request exchange.reply m is are.0) rest)

  pub all_from : (exchanges : List Exchange) → AreFrom units exchanges → come_from units exchanges ≡ true
  unfolding come_from
  all_from exchanges are = both_true _ _ (all_files exchanges are) (all_messages exchanges are)

  pub from_both : (xs ys : List Exchange) → AreFrom units xs → AreFrom units ys → AreFrom units (xs ++ ys)
  from_both [] ys are too = too
  from_both (x ∷ xs) ys are too = (are.0, from_both xs ys are.1 too)

  -- ---- of a plan for a root

  module _ (root : ElementRef) (among : IsAmong units root.unit) where
    root_from : comes_from units (origin_of (root ∷ [])) ≡ true
    unfolding origin_of
    root_from = among

    frame_from : (f : Frame) → IsGivenFor root f → IsFrom units (request_of f)
    frame_from (frame.Create (creation.Source name content origins)) is = subst (λ os. comes_from units (origin_of os) ≡ true) (sym is) root_from
    frame_from (frame.Message message) is = subst (λ (o : Option ElementRef). comes_from units (origin_of (option_to_list o)) ≡ true) (sym is) root_from
    frame_from (frame.Ask question) is = tt
    frame_from other is = absurd is

    pub plan_from : (shown : Shown) (plan : Plan) → GivesFor root plan → AreFrom units (exchanges_by shown plan)
    unfolding GivesFor exchanges_by
    plan_from shown (Ends kept) gives = tt
    plan_from shown (Sends f go) gives =
        by (plan_from shown (go nothing) (gives.1 nothing)) (plan_from shown (go (reply_by_host shown f)) (gives.1 (reply_by_host shown f))) (is_too_large f) refl
      where
        by : AreFrom units (exchanges_by shown (go nothing)) → AreFrom units (exchanges_by shown (go (reply_by_host shown f)))
            → (b : Bool) → is_too_large f ≡ b → AreFrom units (exchanges_by shown (Sends f go))
        by large small true is = rw is large
        by large small false is = rw is (frame_from f gives.0, small)

-- each unit is one of them
is_itself : (unit : List ℕ) → bytes_eq unit unit ≡ true
is_itself unit = (bytes_eq-Decides unit unit).1 refl

or_true : (a b : Bool) → b ≡ true → (a || b) ≡ true
or_true true b is = refl
or_true false b is = is

kept_among : (other : List ℕ) (units some : List (List ℕ)) → AllByRecursion (IsAmong units) some → AllByRecursion (IsAmong (other ∷ units)) some
kept_among other units [] all = tt
kept_among other units (unit ∷ some) all = (or_true (bytes_eq other unit) _ all.0, kept_among other units some all.1)

first_among : (unit : List ℕ) (units : List (List ℕ)) → IsAmong (unit ∷ units) unit
first_among unit units = rw (is_itself unit) refl

pub are_among : (units : List (List ℕ)) → AllByRecursion (IsAmong units) units
are_among [] = tt
are_among (unit ∷ units) = (first_among unit units, kept_among unit units units (are_among units))
