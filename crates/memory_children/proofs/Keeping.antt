-- How a child in memory keeps what it was sent and what it says.
use Rattle.std.proofs.Common.{Result, ◌-◌, ◌<◌, min, take, IfOk, Vec, String, map, string_bytes, ◌≡◌, ℕ, ◌+◌, ◌≤◌, List, [], ◌∷◌, ◌++◌, length, drop, flat_map, Option, Some, None, Ok, Err, refl, sym, ap, subst, ◌∙◌, append-nil, length-append, arith}
use Rattle.std.specs.Prelude.{IfSome}
use Rattle.std.specs.declared.alloc.Global.{Global}
use Rattle.std.proofs.Math.Seq.{take-append_seam}
use Rattle.std.proofs.lemmas.List.{drop-append-le}
use Rattle.std.proofs.lemmas.Grind.{flat_map-append}
use Rattle.local_procs.specs.declared.local.Local.{Local}
use Rattle.local_procs.specs.Says.{Unbegun}
use Rattle.local_children.specs.Streams.{Session, unbegun, over, after, session_of, says, says_of, says_by, local_in, Stand, open_session}
use Rattle.local_children.specs.Hearing.{stand_of, shown_session, IsOf, HearsAll}
use Rattle.local_children.specs.declared.hearing.Stands.{Stands}
use Rattle.local_children.specs.declared.hearing.Stands.TheVariants as stand
use Rattle.local_children.specs.declared.hearing.Heard.{Heard}
use Rattle.apt_outside.proofs.Window.{window, at_end}
use Rattle.apt_outside.specs.Child.{Try}
use Rattle.memory_children.specs.declared.call.Call.{Call}
use Rattle.memory_children.specs.Kept.{Kept, shown_call, shown_frames, IsCall, said_of, joined, StandsAt, Keeps, Takes, Gives, HearsBehind, HearsMore}
use Rattle.local_children.proofs.Sessions.{after-append, stays_over, prefixed}
use Rattle.local_children.proofs.Served.{with_piece}

-- ---- where it is

shown_written : (written : List ℕ) (stands : Stands) → (shown_session written stands).written ≡ written
shown_written written (stand.Open child) = refl
shown_written written (stand.Over breach) = refl

-- the session of some bytes shows so
stands_by : (local : Local) (bytes written : List ℕ) (stands : Stands) → IsOf local stands → session_of local bytes ≡ shown_session written stands → StandsAt local bytes stands
stands_by local bytes written stands of is =
    let same : says local bytes ≡ written = ap (λ (s : Session). s.written) is ∙ shown_written written stands in
    record { of_local = of; session = is ∙ ap (λ (w : List ℕ). shown_session w stands) (sym same) }

-- from the beginning
pub stands_recalled : (local : Local) (bytes : List ℕ) (child : Stand) (heard : Heard) → child ≡ (local, (Unbegun, [])) → HearsAll child bytes heard → StandsAt local bytes heard.stands
stands_recalled local bytes child heard is hears =
    let begun : HearsAll (local, (Unbegun, [])) bytes heard = subst (λ (c : Stand). HearsAll c bytes heard) is hears in
    stands_by local bytes heard.said.items heard.stands begun.0 begun.1

-- ---- one frame more

said_is : (name : List ℕ) (command sent : List (List ℕ)) (local : Local) → local_in command ≡ Some local → says_of name command sent ≡ says local (joined sent)
said_is name command sent local is = ap (λ (o : Option Local). says_by o sent) is

joined_more : (sent : List (List ℕ)) (frame : List ℕ) → joined (sent ++ frame ∷ []) ≡ joined sent ++ frame
joined_more sent frame = flat_map-append (λ f. f) sent (frame ∷ []) ∙ ap (λ (b : List ℕ). joined sent ++ b) (append-nil frame)

prefixed_shown : (front said : List ℕ) (stands : Stands) → prefixed front (shown_session said stands) ≡ shown_session (front ++ said) stands
prefixed_shown front said (stand.Open child) = refl
prefixed_shown front said (stand.Over breach) = refl

of_same : (local other : Local) (stands : Stands) → other ≡ local → IsOf other stands → IsOf local stands
of_same local other stands is of = subst (λ (l : Local). IsOf l stands) is of

-- the session behind the frame
pub more_heard : (local : Local) (bytes frame : List ℕ) (before : Stands) (heard : Heard) → StandsAt local bytes before → HearsBehind before frame heard → HearsMore local bytes frame heard
more_heard local bytes frame (stand.Open child) heard at hears =
    record {
      of_local = of_same local child.child.local heard.stands at.of_local hears.0;
      session = with_piece local bytes frame (stand_of child).1 (ap (λ (s : Session). s.stands) at.session)
          ∙ ap (prefixed (says local bytes)) (ap (λ (l : Local). after l (open_session [] (stand_of child).1) frame) (sym at.of_local) ∙ hears.1)
          ∙ prefixed_shown (says local bytes) heard.said.items heard.stands;
    }
more_heard local bytes frame (stand.Over breach) heard at hears =
    record {
      of_local = subst (IsOf local) (sym hears.1) tt;
      session = after-append local unbegun bytes frame ∙ stays_over local (session_of local bytes) frame breach (ap (λ (s : Session). s.stands) at.session) ∙ at.session
          ∙ ap (λ (w : List ℕ). over w breach) (sym (append-nil (says local bytes)) ∙ ap (λ (b : List ℕ). says local bytes ++ b) (sym hears.0))
          ∙ ap (shown_session (says local bytes ++ heard.said.items)) (sym hears.1);
    }

module _ (local : Local) (command sent : List (List ℕ)) (bytes said : List ℕ) (taken : ℕ) (known : Option Stands) (keeps : Keeps local command sent bytes said taken known)
    (frame : List ℕ) (heard : Heard) (more : HearsMore local bytes frame heard) where
  more_said : says local (bytes ++ frame) ≡ says local bytes ++ heard.said.items
  more_said = ap (λ (s : Session). s.written) more.session ∙ shown_written (says local bytes ++ heard.said.items) heard.stands

  pub keeps_more : (sent' : List (List ℕ)) (bytes' said' : List ℕ) (known' : Option Stands) → sent' ≡ sent ++ frame ∷ [] → bytes' ≡ bytes ++ frame → said' ≡ said ++ heard.said.items
      → known' ≡ Some heard.stands → Keeps local command sent' bytes' said' taken known'
  keeps_more sent' bytes' said' known' s b d k =
      let longer : length said' ≡ length said + length heard.said.items = ap length d ∙ length-append said heard.said.items in
      record {
        is_local = keeps.is_local;
        is_joined = b ∙ ap (λ (x : List ℕ). x ++ frame) keeps.is_joined ∙ sym (joined_more sent frame) ∙ ap joined (sym s);
        is_said = d ∙ ap (λ (x : List ℕ). x ++ heard.said.items) keeps.is_said ∙ sym more_said ∙ ap (says local) (sym b);
        within = omega (arith, keeps.within, longer);
        stays = subst (λ (o : Option Stands). IfSome o (StandsAt local bytes')) (sym k)
            (subst (λ (x : List ℕ). StandsAt local x heard.stands) (sym b) (stands_by local (bytes ++ frame) (says local bytes ++ heard.said.items) heard.stands more.of_local more.session));
      }

  pub takes_more : (name : List ℕ) (sent' : List (List ℕ)) → sent' ≡ sent ++ frame ∷ []
      → Takes frame (record { name = name; command = command; sent = sent; taken = taken }) (record { name = name; command = command; sent = sent'; taken = taken })
  takes_more name sent' s =
      let old : says_of name command sent ≡ says local bytes = said_is name command sent local keeps.is_local ∙ ap (says local) (sym keeps.is_joined) in
      let new : says_of name command sent' ≡ says_of name command sent ++ heard.said.items =
      ap (says_of name command) s ∙ said_is name command (sent ++ frame ∷ []) local keeps.is_local ∙ ap (says local) (joined_more sent frame ∙ ap (λ (x : List ℕ). x ++ frame) (sym keeps.is_joined)) ∙ more_said
      ∙ ap (λ (x : List ℕ). x ++ heard.said.items) (sym old) in
      let within : taken ≤ length (says_of name command sent) = omega (arith, keeps.within, ap length keeps.is_said, ap length old) in
      record {
        same_name = refl;
        same_command = refl;
        sent = s;
        taken = refl;
        waits = (heard.said.items, new, ap (drop taken) new ∙ drop-append-le taken (says_of name command sent) heard.said.items within);
      }

-- what is not known of where it is
pub keeps_unknown : (local : Local) (command sent : List (List ℕ)) (bytes said : List ℕ) (taken : ℕ) (known : Option Stands) → Keeps local command sent bytes said taken known
    → (sent' : List (List ℕ)) (bytes' said' : List ℕ) (known' : Option Stands) → sent' ≡ sent → bytes' ≡ bytes → said' ≡ said → known' ≡ None → Keeps local command sent' bytes' said' taken known'
keeps_unknown local command sent bytes said taken known keeps sent' bytes' said' known' s b d k = record {
  is_local = keeps.is_local;
  is_joined = b ∙ keeps.is_joined ∙ ap joined (sym s);
  is_said = d ∙ keeps.is_said ∙ ap (says local) (sym b);
  within = omega (arith, keeps.within, ap length d);
  stays = subst (λ (o : Option Stands). IfSome o (StandsAt local bytes')) (sym k) tt;
}

-- a child that was sent nothing
pub keeps_fresh : (local : Local) (command : List (List ℕ)) → local_in command ≡ Some local → Keeps local command [] [] [] 0 None
unfolding after
keeps_fresh local command is = record { is_local = is; is_joined = refl; is_said = refl; within = omega arith; stays = tt }

pub keeps_begun : (local : Local) (name : List ℕ) (words : List (String Global)) (call : Call) → local_in (map string_bytes words) ≡ Some local → IsCall name words call
    → (sent : Vec (Vec ℕ Global) Global) (bytes said : Vec ℕ Global) → sent.items ≡ [] → bytes.items ≡ [] → said.items ≡ []
    → Keeps local (shown_call call).1 (shown_frames sent.items) bytes.items said.items 0 None
keeps_begun local name words call is made sent bytes said s b d =
    subst (λ (fs : List (Vec ℕ Global)). Keeps local (shown_call call).1 (shown_frames fs) bytes.items said.items 0 None) (sym s)
    (subst (λ (x : List ℕ). Keeps local (shown_call call).1 [] x said.items 0 None) (sym b)
    (subst (λ (x : List ℕ). Keeps local (shown_call call).1 [] [] x 0 None) (sym d) (keeps_fresh local (shown_call call).1 (ap local_in (ap (λ (t : Try). t.1) made) ∙ is))))

pub more_heard_by : {E : Type 0} (local : Local) (bytes frame : List ℕ) (before : Stands) (result : Result Heard E) → StandsAt local bytes before → IfOk result (λ heard. HearsBehind before frame heard)
    → IfOk result (HearsMore local bytes frame)
more_heard_by local bytes frame before (Ok heard) at hears = more_heard local bytes frame before heard at hears
more_heard_by local bytes frame before (Err e) at hears = tt

-- ---- what is taken

module _ (local : Local) (name : List ℕ) (command sent : List (List ℕ)) (bytes said : List ℕ) (taken : ℕ) (stands : Option Stands) (keeps : Keeps local command sent bytes said taken stands) where
  -- what it keeps is all that it has said
  said_shown : says_of name command sent ≡ said
  said_shown = said_is name command sent local keeps.is_local ∙ ap (says local) (sym keeps.is_joined) ∙ sym keeps.is_said

  pub keeps_taken : (taken' : ℕ) → taken' ≤ length said → Keeps local command sent bytes said taken' stands
  keeps_taken taken' fits = record { is_local = keeps.is_local; is_joined = keeps.is_joined; is_said = keeps.is_said; within = fits; stays = keeps.stays }

  pub gives_front : (room : List ℕ) (n taken' : ℕ) → n ≤ length room → drop taken said ≡ take n room ++ drop taken' said → (take n room ≡ [] → drop taken said ≡ [])
      → Gives room n (record { name = name; command = command; sent = sent; taken = taken }) (record { name = name; command = command; sent = sent; taken = taken' })
  gives_front room n taken' fits given ended = record {
    rest = refl;
    fits = fits;
    given = subst (λ (s : List ℕ). drop taken s ≡ take n room ++ drop taken' s) (sym said_shown) given;
    ended = subst (λ (s : List ℕ). take n room ≡ [] → drop taken s ≡ []) (sym said_shown) ended;
  }

  -- bytes are copied from where it was taken to, as many as wait or as there is room for
  pub gives_copied : (room copied : List ℕ) (n m taken' : ℕ) → n ≡ min (length room) (length said - taken) → 0 < length room → m ≡ n → length copied ≡ n → copied ≡ take m (drop taken said) → taken' ≡ taken + n
      → Gives (copied ++ drop n room) n (record { name = name; command = command; sent = sent; taken = taken }) (record { name = name; command = command; sent = sent; taken = taken' })
  gives_copied room copied n m taken' least some window_is as_many is next =
      let front : take n (copied ++ drop n room) ≡ copied = ap (λ (k : ℕ). take k (copied ++ drop n room)) (sym as_many) ∙ take-append_seam copied (drop n room) in
      let longer : length (copied ++ drop n room) ≡ length copied + length (drop n room) = length-append copied (drop n room) in
      gives_front (copied ++ drop n room) n taken' (omega (arith, longer, as_many))
      (window taken n m said room copied window_is as_many is ∙ ap (λ (k : ℕ). take n (copied ++ drop n room) ++ drop k said) (sym next))
      (λ none. at_end taken n (length room) said least (sym as_many ∙ ap length (sym front ∙ none)) some)

  -- and the rest waits
  pub keeps_rest : (room : List ℕ) (n taken' : ℕ) → n ≡ min (length room) (length said - taken) → taken' ≡ taken + n → Keeps local command sent bytes said taken' stands
  keeps_rest room n taken' least next = keeps_taken taken' (omega (arith, keeps.within, next, least))
