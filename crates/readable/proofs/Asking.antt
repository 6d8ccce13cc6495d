-- Requests in turn and their replies, one behind the other.
use Rattle.std.proofs.Common.{◌≡◌, ℕ, List, [], ◌∷◌, ◌++◌, map, flat_map, Option, Some, None, Result, Ok, Err, inl, inr, refl, sym, ap, subst, ◌∙◌, append_assoc, append-nil}
use Rattle.std.specs.Prelude.{◌⊎◌, MatchResult}
use Rattle.policy.specs.Policy.{Declared}
use Rattle.world.specs.States.{Joined}
use Rattle.script.specs.declared.command.Command.{Command}
use Rattle.script.specs.declared.fault.RunFault.{RunFault}
use Rattle.script.specs.declared.fault.RunFault.TheVariants.{Script, Watcher}
use Rattle.script.specs.declared.fault.ScriptFault.TheVariants.{OutOfMemory, BadLine, Read, Write}
use Rattle.script.specs.declared.lines.Line.{Line}
use Rattle.script.specs.declared.lines.Line.TheVariants as line
use Rattle.script.specs.declared.watch.Flow.{Flow}
use Rattle.script.specs.Expansions.{does}
use Rattle.script.specs.Runs.{Cut, CutShort, IsCutBy, Served, Telling, Told, Watching, answers_as, by_line, cuts_as, law, names, stands_for}
use Rattle.readable.specs.declared.moves.Move.{Move}
use Rattle.readable.specs.declared.moves.Move.TheVariants as move
use Rattle.readable.specs.declared.flight.Queues.{Queues}
use Rattle.readable.specs.Drains.{Drains, Makes, Story}
use Rattle.readable.specs.Moves.{Made, MadeInTurn, command_of}
use Rattle.readable.specs.Runs.{Answers, Asked, AskedInTurn, Replied, RepliedInPart, RepliedInTurn, Reply, TellingDrains, TellingState, asked_of, by_readable, text_of_replies}

-- ---- requests

asked_more : (later : List Declared) (old mid new : Joined) (asked more : List Asked) →
    AskedInTurn later old asked mid → AskedInTurn later mid more new → AskedInTurn later old (asked ++ more) new
unfolding AskedInTurn
asked_more later old mid new [] more same h = subst (λ start. AskedInTurn later start more new) same h
asked_more later old mid new (first ∷ asked) more h k = (h.0, h.1, asked_more later h.0 mid new asked more h.2 k)

asked_none : (later : List Declared) (world : Joined) → AskedInTurn later world [] world
unfolding AskedInTurn
asked_none later world = refl

asked_same : (later : List Declared) (old new : Joined) → new ≡ old → AskedInTurn later old [] new
unfolding AskedInTurn
asked_same later old new same = same

asked_one : (later : List Declared) (old new : Joined) (command : Command) (told : Told) → does later command old told new →
    AskedInTurn later old (record { command = command; told = told } ∷ []) new
unfolding AskedInTurn
asked_one later old new command told done = (new, done, refl)

-- what a drain asks, no line but `reload` asks otherwise where there are further policies
any_later : (later : List Declared) (asked : Move) (old new : Joined) (told : Told) → does [] (command_of asked) old told new → does later (command_of asked) old told new
unfolding does
any_later later (move.Serve queue) old new told h = h
any_later later (move.Run queue packet) old new told h = h
any_later later (move.Poll queue packet) old new told h = h
any_later later (move.Finish queue packet) old new told h = h

asked_made : (later : List Declared) (old new : Joined) (made : List Made) → MadeInTurn old made new → AskedInTurn later old (map asked_of made) new
unfolding AskedInTurn MadeInTurn
asked_made later old new [] same = same
asked_made later old new (first ∷ made) h = (h.0, any_later later first.asked old h.0 first.told h.1, asked_made later h.0 new made h.2)

-- ---- replies

texts_more : (first more : List Reply) → text_of_replies (first ++ more) ≡ text_of_replies first ++ text_of_replies more
texts_more [] more = refl
texts_more (reply ∷ first) more = ap (λ rest. reply.text ++ rest) (texts_more first more) ∙ sym (append_assoc reply.text (text_of_replies first) (text_of_replies more))

module _ (tells : Telling) (drains : TellingDrains) (states : TellingState) (later : List Declared) where
  in_turn_more : (old mid new : Joined) (first more : List Reply) →
      RepliedInTurn tells drains states later old first mid → RepliedInTurn tells drains states later mid more new → RepliedInTurn tells drains states later old (first ++ more) new
  unfolding RepliedInTurn
  in_turn_more old mid new [] more same h = subst (λ start. RepliedInTurn tells drains states later start more new) same h
  in_turn_more old mid new (reply ∷ first) more h k = (h.0, h.1, h.2, in_turn_more h.0 mid new first more h.3 k)

  in_turn_one : (old new : Joined) (reply : Reply) → AskedInTurn later old reply.asked new →
      Answers tells drains states old reply new → RepliedInTurn tells drains states later old (reply ∷ []) new
  unfolding RepliedInTurn
  in_turn_one old new reply asked answers = (new, asked, answers, refl)

  in_turn_same : (old new : Joined) → new ≡ old → RepliedInTurn tells drains states later old [] new
  unfolding RepliedInTurn
  in_turn_same old new same = same

  -- nothing is asked, and nothing told
  pub replied_none : (old new : Joined) (text : List ℕ) → new ≡ old → text ≡ [] → Replied tells drains states later old text new
  replied_none old new text same none = ([], in_turn_same old new same, none)

  replied_one : (old new : Joined) (reply : Reply) → AskedInTurn later old reply.asked new → Answers tells drains states old reply new → Replied tells drains states later old reply.text new
  replied_one old new reply asked answers = (reply ∷ [], in_turn_one old new reply asked answers, sym (append-nil reply.text))

  pub replied_more : (old mid new : Joined) (text more : List ℕ) →
      Replied tells drains states later old text mid → Replied tells drains states later mid more new → Replied tells drains states later old (text ++ more) new
  replied_more old mid new text more h k = (
    h.0 ++ k.0,
    in_turn_more old mid new h.0 k.0 h.1 k.1,
    ap (λ front. front ++ more) h.2 ∙ ap (λ rest. text_of_replies h.0 ++ rest) k.2 ∙ sym (texts_more h.0 k.0),
  )

  part_more : (old mid new : Joined) (text more : List ℕ) →
      Replied tells drains states later old text mid → RepliedInPart tells drains states later mid more new → RepliedInPart tells drains states later old (text ++ more) new
  part_more old mid new text more h k = (k.0, k.1, replied_more old mid k.0 text more h k.2, k.3)

  -- a line of a script
  answered : (says : Told → Flow → Type 0) (old new : Joined) (stands : Option Line) (reply : List ℕ) (said : Flow) →
      answers_as tells says later old stands reply said new → Replied tells drains states later old reply new
  answered says old new None reply said done = absurd done
  answered says old new (Some line.Quiet) reply said done = replied_none old new reply done.2 done.0
  answered says old new (Some (line.Asks command)) reply said done =
      replied_one old new (record { asked = record { command = command; told = done.0 } ∷ []; text = reply }) (asked_one later old new command done.0 done.1)
      (inl (record { command = command; told = done.0 }, refl, done.2))

  cut_off : (old new : Joined) (stands : Option Line) (last : List ℕ) → cuts_as later old stands last new → RepliedInPart tells drains states later old last new
  cut_off old new None last done = absurd done
  cut_off old new (Some line.Quiet) last done = absurd done
  cut_off old new (Some (line.Asks command)) last done = (
    old,
    record { command = command; told = done.0 } ∷ [],
    replied_none old old last refl done.2,
    asked_one later old new command done.0 done.1,
  )

  -- requests of a drain
  drained : (queues : Queues) (old new : Joined) (story : Story) (text : List ℕ) → Drains queues old story new → drains (names new) story text → Replied tells drains states later old text new
  drained queues old new story text made told =
      replied_one old new (record { asked = map asked_of made.0; text = text }) (asked_made later old new made.0 made.1)
      (inr (inl (queues, made.0, refl, made.2, subst (λ story. drains (names new) story text) made.3 told)))

  -- what there is
  stated : (world : Joined) (text : List ℕ) → states text → Replied tells drains states later world text world
  stated world text told =
      replied_one world world (record { asked = []; text = text }) (asked_none later world) (inr (inr (refl, told)))

  made_unsaid : (old new : Joined) → Makes old new → RepliedInPart tells drains states later old [] new
  made_unsaid old new made = (old, map asked_of made.0, replied_none old old [] refl refl, asked_made later old new made.0 made.1)

  module _ (watcher : Watching) where
    pub served_line : (old new : Joined) (line more before after : List ℕ) (said : Option Flow) →
        Served (law (by_line tells) watcher later) old new line before after said → Served (law (by_readable tells drains states) watcher later) old new more before after said
    unfolding law
    served_line old new line more before after (Some said) served = (served.0, answered watcher.says old new (stands_for later old line) served.0 said served.1, served.2)
    served_line old new line more before after None served = (tt, served.1, served.2)

    pub cut_line : {F : Type 0} (old new : Joined) (line more before after : List ℕ) (fault : RunFault F) →
        Cut (law (by_line tells) watcher later) old new line before after fault → Cut (law (by_readable tells drains states) watcher later) old new more before after fault
    unfolding law
    cut_line old new line more before after (Script OutOfMemory) (last, is, inl same) = (last, is, inl same)
    cut_line old new line more before after (Script OutOfMemory) (last, is, inr cut) = (last, is, inr (cut_off old new (stands_for later old line) last cut))
    cut_line old new line more before after (Script (BadLine bad)) cut = absurd cut
    cut_line old new line more before after (Script Read) cut = absurd cut
    cut_line old new line more before after (Script Write) cut = absurd cut
    cut_line old new line more before after (Watcher fault) cut = (cut.0, cut.1, cut.2, cut_off old new (stands_for later old line) cut.0 cut.3)

    -- whichever line it is
    pub any_line : {F : Type 0} (old new : Joined) (line more before after : List ℕ) (result : Result (Option Flow) (RunFault F)) →
        MatchResult result (Served (law (by_readable tells drains states) watcher later) old new line before after) (Cut (law (by_readable tells drains states) watcher later) old new line before after) →
        MatchResult result (Served (law (by_readable tells drains states) watcher later) old new more before after) (Cut (law (by_readable tells drains states) watcher later) old new more before after)
    unfolding law
    any_line old new line more before after (Ok (Some said)) served = served
    any_line old new line more before after (Ok None) served = served
    any_line old new line more before after (Err (Script OutOfMemory)) cut = cut
    any_line old new line more before after (Err (Script (BadLine bad))) cut = absurd cut
    any_line old new line more before after (Err (Script Read)) cut = absurd cut
    any_line old new line more before after (Err (Script Write)) cut = absurd cut
    any_line old new line more before after (Err (Watcher fault)) cut = cut

    -- one of no form, which asks nothing
    pub refused_line : {F : Type 0} (world : Joined) (line before : List ℕ) (result : Result (Option Flow) (RunFault F)) →
        MatchResult result (λ said. said ≡ None) (λ fault. fault ≡ Script OutOfMemory) →
        MatchResult result (Served (law (by_readable tells drains states) watcher later) world world line before before) (Cut (law (by_readable tells drains states) watcher later) world world line before before)
    unfolding law
    refused_line world line before (Ok said) is =
        subst (λ said. Served (law (by_readable tells drains states) watcher later) world world line before before said) (sym is) (tt, refl, refl)
    refused_line world line before (Err fault) is =
        subst (λ fault. Cut (law (by_readable tells drains states) watcher later) world world line before before fault) (sym is) ([], sym (append-nil before), inl (refl, refl))

    -- a line behind one that was served, or none
    pub served_next : (old mid new : Joined) (line next more before between after : List ℕ) (first said : Flow) →
        Served (law (by_readable tells drains states) watcher later) old mid line before between (Some first) →
        ((said ≡ first) × (new ≡ mid) × (after ≡ between)) ⊎ ((flow : Flow) × Served (law (by_readable tells drains states) watcher later) mid new next between after (Some flow)) →
        Served (law (by_readable tells drains states) watcher later) old new more before after (Some said)
    unfolding law
    served_next old mid new line next more before between after first said one (inl none) = (
      one.0,
      subst (λ world. Replied tells drains states later old one.0 world) (sym none.1) one.1,
      none.2 ∙ one.2,
    )
    served_next old mid new line next more before between after first said one (inr (flow, behind)) = (
      one.0 ++ behind.0,
      replied_more old mid new one.0 behind.0 one.1 behind.1,
      behind.2 ∙ ap (λ front. front ++ behind.0) one.2 ∙ append_assoc before one.0 behind.0,
    )

    pub cut_next : {F : Type 0} (old mid new : Joined) (line next more before between after : List ℕ) (first : Flow) (fault : RunFault F) →
        Served (law (by_readable tells drains states) watcher later) old mid line before between (Some first) →
        Cut (law (by_readable tells drains states) watcher later) mid new next between after fault → Cut (law (by_readable tells drains states) watcher later) old new more before after fault
    unfolding law
    cut_next old mid new line next more before between after first (Script OutOfMemory) one (last, is, inl same) = (
      one.0,
      is ∙ ap (λ last. between ++ last) same.1 ∙ append-nil between ∙ one.2,
      inr (mid, [], one.1, asked_same later mid new same.0),
    )
    cut_next old mid new line next more before between after first (Script OutOfMemory) one (last, is, inr cut) = (
      one.0 ++ last,
      is ∙ ap (λ front. front ++ last) one.2 ∙ append_assoc before one.0 last,
      inr (part_more old mid new one.0 last one.1 cut),
    )
    cut_next old mid new line next more before between after first (Script (BadLine bad)) one cut = absurd cut
    cut_next old mid new line next more before between after first (Script Read) one cut = absurd cut
    cut_next old mid new line next more before between after first (Script Write) one cut = absurd cut
    cut_next old mid new line next more before between after first (Watcher fault) one cut = (
      one.0 ++ cut.0,
      cut.1 ∙ ap (λ front. front ++ cut.0) one.2 ∙ append_assoc before one.0 cut.0,
      cut.2,
      part_more old mid new one.0 cut.0 one.1 cut.3,
    )

    -- ---- a drain

    pub drained_line : (queues : Queues) (old new : Joined) (line before after : List ℕ) (story : Story) (said : Flow) → Drains queues old story new →
        ((text : List ℕ) × drains (names new) story text × (after ≡ before ++ text)) → Served (law (by_readable tells drains states) watcher later) old new line before after (Some said)
    unfolding law
    drained_line queues old new line before after story said made told = (told.0, drained queues old new story told.0 made told.1, told.2)

    pub drained_unsaid : {F : Type 0} (old new : Joined) (line before after : List ℕ) (fault : RunFault F) → Makes old new → after ≡ before → IsCutBy watcher.may_fail fault →
        Cut (law (by_readable tells drains states) watcher later) old new line before after fault
    unfolding law
    drained_unsaid old new line before after (Script OutOfMemory) made same may = ([], same ∙ sym (append-nil before), inr (made_unsaid old new made))
    drained_unsaid old new line before after (Script (BadLine number)) made same may = absurd may
    drained_unsaid old new line before after (Script Read) made same may = absurd may
    drained_unsaid old new line before after (Script Write) made same may = absurd may
    drained_unsaid old new line before after (Watcher fault) made same may = ([], same ∙ sym (append-nil before), may, made_unsaid old new made)

    -- ---- what there is

    pub stated_line : (world : Joined) (line before after : List ℕ) (said : Flow) →
        ((text : List ℕ) × states text × (after ≡ before ++ text)) → Served (law (by_readable tells drains states) watcher later) world world line before after (Some said)
    unfolding law
    stated_line world line before after said told = (told.0, stated world told.0 told.1, told.2)

    -- memory is wanted for it
    pub unsaid_line : {F : Type 0} (world : Joined) (line before after : List ℕ) (fault : RunFault F) → fault ≡ Script OutOfMemory → after ≡ before →
        Cut (law (by_readable tells drains states) watcher later) world world line before after fault
    unfolding law
    unsaid_line world line before after fault is same =
        subst (λ fault. Cut (law (by_readable tells drains states) watcher later) world world line before after fault) (sym is) ([], same ∙ sym (append-nil before), inl (refl, refl))
