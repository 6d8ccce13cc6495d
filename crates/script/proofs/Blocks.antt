-- A run over blocks: what holds between turns and reads, and what it comes to.
use Rattle.std.proofs.Common.{◌≡◌, ℕ, ◌+◌, ◌<◌, ◌≤◌, List, [], ◌∷◌, ◌++◌, length, take, Option, Some, None, Result, Ok, Err, inl, inr, refl, sym, ap, ◌∙◌, subst, append_assoc, append-nil, length-append, arith}
use Rattle.std.specs.Prelude.{Bool, ⊤, ◌⊎◌, MatchResult, IfErr, OnOk}
use Rattle.std.specs.Io.KnownBytes.{Appends, Consumes, Keeps, IsAtEnd}
use Rattle.script.specs.declared.fault.ScriptFault.{ScriptFault}
use Rattle.script.specs.declared.fault.ScriptFault.TheVariants.{OutOfMemory, BadLine, Read, Write}
use Rattle.script.specs.declared.fault.RunFault.{RunFault}
use Rattle.script.specs.declared.fault.RunFault.TheVariants.{Script, Watcher}
use Rattle.script.specs.declared.session.Session.{Session}
use Rattle.script.specs.declared.watch.Flow.{Flow}
use Rattle.script.specs.declared.watch.Flow.TheVariants.{GoOn, Pause, End}
use Rattle.script.specs.Streams.{AppendsBeginning, ReadsBlock}
use Rattle.policy.specs.Policy.{Declared}
use Rattle.world.specs.States.{Joined}
use Rattle.words.specs.Lines.{nonempty_before}
use Rattle.script.specs.Runs.{Answering, Law, Replied, Runs, Said, StopsSaying, Watching, law, lines_from, lines_of}
use Rattle.script.specs.Sessions.{AnsweredEnd, AnsweredLine, Took, TookSome, Paused, Failed, Why, begun, pending, with_further, at_end}
use Rattle.script.specs.Scripts.{EndsIn, EndedAll, FailedBlock, HasCause, IsCaused, Outcome, Replies, RunsScript, TakesTurn, Tells, TookBlock, TookUpTo}
use Rattle.script.proofs.Appending.{appends_more, appends_none}
use Rattle.script.proofs.Running.{kept_begun, lines_end, paused_took, runs_append, runs_one}

pub begins_more : (a b c : Option (List ℕ)) (text more : List ℕ) → Appends a b text → AppendsBeginning b c more → AppendsBeginning a c (text ++ more)
begins_more a b c text more p q = record {
  gained = text ++ q.gained;
  missed = q.missed;
  parts = ap (λ all. text ++ all) q.parts ∙ sym (append_assoc text q.gained q.missed);
  grows = appends_more a b c text q.gained p q.grows;
}

replies_behind : {S : Type 0} (law : Law S) (old mid new : S) (held holds handed : Option (List ℕ)) (done lines : List (List ℕ)) (text : List ℕ) →
    Runs law old done text mid → Appends held holds text → Replies law mid new holds handed lines → Replies law old new held handed (done ++ lines)
replies_behind law old mid new held holds handed done lines text runs given replies = (
  text ++ replies.0,
  runs_append law old mid new done lines text replies.0 runs replies.1,
  appends_more held holds handed text replies.0 given replies.2,
)

parts_behind : (done before after lines all : List (List ℕ)) → all ≡ done ++ lines → lines ≡ before ++ after → all ≡ (done ++ before) ++ after
parts_behind done before after lines all e f = e ∙ ap (λ l. done ++ l) f ∙ sym (append_assoc done before after)

-- lines that were served, and how those behind them ended
pub ends_behind : {S F : Type 0} (law : Law S) (old mid new : S) (held holds handed : Option (List ℕ)) (number first : ℕ) (done lines all : List (List ℕ)) (text : List ℕ) (fault : RunFault F) →
    first ≡ number + length done → all ≡ done ++ lines → Runs law old done text mid → Appends held holds text →
    EndsIn law mid new holds handed first lines fault → EndsIn law old new held handed number all fault
ends_behind law old mid new held holds handed number first done lines all text (Script (BadLine bad)) n e runs given ends = (
  done ++ ends.0,
  ends.1,
  ends.2,
  parts_behind done ends.0 (ends.1 ∷ ends.2) lines all e ends.3,
  omega (arith, ends.4, n, length-append done ends.0),
  ends.5,
  replies_behind law old mid new held holds handed done ends.0 text runs given ends.6,
)
ends_behind law old mid new held holds handed number first done lines all text (Script OutOfMemory) n e runs given ends = (
  done ++ ends.0,
  ends.1,
  ends.2,
  ends.3,
  text ++ ends.4,
  ends.5,
  parts_behind done ends.0 (ends.1 ∷ ends.2) lines all e ends.6,
  runs_append law old mid ends.3 done ends.0 text ends.4 runs ends.7,
  ends.8,
  subst (λ text. Appends held handed text) (sym (append_assoc text ends.4 ends.5)) (appends_more held holds handed text (ends.4 ++ ends.5) given ends.9),
)
ends_behind law old mid new held holds handed number first done lines all text (Script Write) n e runs given ends = (
  done ++ ends.0,
  ends.1,
  ends.2,
  text ++ ends.3,
  ends.4,
  parts_behind done ends.0 ends.1 lines all e ends.5,
  runs_append law old mid ends.2 done ends.0 text ends.3 runs ends.6,
  ends.7,
  subst (λ text. AppendsBeginning held handed text) (sym (append_assoc text ends.3 ends.4)) (begins_more held holds handed text (ends.3 ++ ends.4) given ends.8),
)
ends_behind law old mid new held holds handed number first done lines all text (Script Read) n e runs given ends = absurd ends
ends_behind law old mid new held holds handed number first done lines all text (Watcher fault) n e runs given ends = (
  done ++ ends.0,
  ends.1,
  ends.2,
  ends.3,
  text ++ ends.4,
  ends.5,
  parts_behind done ends.0 (ends.1 ∷ ends.2) lines all e ends.6,
  runs_append law old mid ends.3 done ends.0 text ends.4 runs ends.7,
  ends.8,
  subst (λ text. Appends held handed text) (sym (append_assoc text ends.4 ends.5)) (appends_more held holds handed text (ends.4 ++ ends.5) given ends.9),
)

-- ---- what a session left, once its replies are handed over

ends_why : {S F : Type 0} (law : Law S) (old mid new : S) (held holds : Option (List ℕ)) (number : ℕ) (done lines : List (List ℕ)) (text last : List ℕ) (fault : RunFault F) →
    Runs law old done text mid → Appends held holds (text ++ last) → Why law mid new number done lines last fault → EndsIn law old new held holds number lines fault
ends_why law old mid new held holds number done lines text last (Script (BadLine bad)) runs given why = (
  done,
  why.2.0,
  why.2.1,
  why.2.2,
  why.0,
  why.2.3,
  (
    text,
    subst (λ broker. Runs law old done text broker) (sym why.1) runs,
    subst (λ all. Appends held holds all) (ap (λ last. text ++ last) why.3 ∙ append-nil text) given,
  ),
)
ends_why law old mid new held holds number done lines text last (Script OutOfMemory) runs given why =
    (done, why.0, why.1, mid, text, last, why.2, runs, inl why.3, given)
ends_why law old mid new held holds number done lines text last (Script Read) runs given why = absurd why
ends_why law old mid new held holds number done lines text last (Script Write) runs given why = absurd why
ends_why law old mid new held holds number done lines text last (Watcher fault) runs given why =
    (done, why.0, why.1, mid, text, last, why.2, runs, inr (why.3, why.4), given)

pub failed_handed : {S F : Type 0} (law : Law S) (old new : S) (held holds : Option (List ℕ)) (before after : Session) (lines : List ℕ → List (List ℕ)) (fault : RunFault F) →
    pending before ≡ [] → Failed law old new before after lines fault → Appends held holds (pending after) → FailedBlock law old new held holds before.number lines fault
failed_handed law old new held holds before after lines fault empty failed given = λ more.
    let out : pending after ≡ failed.text ++ failed.last = failed.out ∙ ap (λ front. front ++ (failed.text ++ failed.last)) empty in
    ends_why law old failed.mid new held holds before.number failed.done (lines more) failed.text failed.last fault failed.runs
    (subst (λ text. Appends held holds text) out given) (failed.why more)

-- ---- what it left, where the replies could not all be handed over

stops_none : {S : Type 0} (law : Law S) (broker : S) (lines : List (List ℕ)) → StopsSaying law broker broker lines []
stops_none law broker [] = (refl, refl)
stops_none law broker (line ∷ lines) = inl (inl (refl, refl))

stops_left : {S : Type 0} (law : Law S) (old new : S) (lines : List (List ℕ)) (last : List ℕ) → new ≡ old → last ≡ [] → StopsSaying law old new lines last
stops_left law old new [] last e n = (e, n)
stops_left law old new (line ∷ lines) last e n = inl (inl (e, n))

with_nothing : (held holds : Option (List ℕ)) (text : List ℕ) → AppendsBeginning held holds text → AppendsBeginning held holds (text ++ [])
with_nothing held holds text given = subst (λ text. AppendsBeginning held holds text) (sym (append-nil text)) given

written_why : {S F : Type 0} (law : Law S) (old mid new : S) (held holds : Option (List ℕ)) (number : ℕ) (done lines : List (List ℕ)) (text last : List ℕ) (fault : RunFault F) →
    Runs law old done text mid → AppendsBeginning held holds (text ++ last) → Why law mid new number done lines last fault → EndsIn {F = F} law old new held holds number lines (Script Write)
written_why law old mid new held holds number done lines text last (Script (BadLine bad)) runs given why =
    (done, why.2.0 ∷ why.2.1, mid, text, last, why.2.2, runs, stops_left law mid new (why.2.0 ∷ why.2.1) last why.1 why.3, given)
written_why law old mid new held holds number done lines text last (Script OutOfMemory) runs given why =
    (done, why.0 ∷ why.1, mid, text, last, why.2, runs, inl why.3, given)
written_why law old mid new held holds number done lines text last (Script Read) runs given why = absurd why
written_why law old mid new held holds number done lines text last (Script Write) runs given why = absurd why
written_why law old mid new held holds number done lines text last (Watcher fault) runs given why =
    (done, why.0 ∷ why.1, mid, text, last, why.2, runs, inl (inr why.4), given)

written_took : {S : Type 0} (F : Type 0) (law : Law S) (old new : S) (held holds : Option (List ℕ)) (before after : Session) (bytes : List ℕ) →
    pending before ≡ [] → Took law old new before after bytes → AppendsBeginning held holds (pending after) →
    FailedBlock {F = F} law old new held holds before.number (with_further before bytes) (Script Write)
written_took F law old new held holds before after bytes empty took given = λ more.
    let out : pending after ≡ took.text = took.out ∙ ap (λ front. front ++ took.text) empty in (
      took.done,
      lines_from (begun after) more,
      new,
      took.text,
      [],
      took.lines more,
      took.runs,
      stops_none law new (lines_from (begun after) more),
      with_nothing held holds took.text (subst (λ text. AppendsBeginning held holds text) out given),
    )

written_paused : {S : Type 0} (F : Type 0) (law : Law S) (old new : S) (held holds : Option (List ℕ)) (before after : Session) (bytes rest front : List ℕ) (said : Flow) →
    pending before ≡ [] → bytes ≡ front ++ rest → Paused law old new before after front said → AppendsBeginning held holds (pending after) →
    FailedBlock {F = F} law old new held holds before.number (with_further before bytes) (Script Write)
written_paused F law old new held holds before after bytes rest front said empty parts paused given = λ more.
    let out : pending after ≡ paused.text ++ paused.reply = paused.out ∙ ap (λ front. front ++ (paused.text ++ paused.reply)) empty in (
      paused.done,
      paused.line ∷ lines_from (begun after) (rest ++ more),
      paused.mid,
      paused.text,
      paused.reply,
      ap (λ all. lines_from (begun before) (all ++ more)) parts ∙ ap (lines_from (begun before)) (append_assoc front rest more) ∙ paused.lines (rest ++ more),
      paused.runs,
      inr (said, paused.answered),
      subst (λ text. AppendsBeginning held holds text) out given,
    )

written_some : {S : Type 0} (F : Type 0) (law : Law S) (old new : S) (held holds : Option (List ℕ)) (before after : Session) (bytes rest : List ℕ) (said : Flow) →
    pending before ≡ [] → TookSome law old new before after bytes rest said → AppendsBeginning held holds (pending after) →
    FailedBlock {F = F} law old new held holds before.number (with_further before bytes) (Script Write)
written_some F law old new held holds before after bytes rest GoOn empty took given = written_took F law old new held holds before after bytes empty took.1 given
written_some F law old new held holds before after bytes rest Pause empty took given = written_paused F law old new held holds before after bytes rest took.0 Pause empty took.1 took.2 given
written_some F law old new held holds before after bytes rest End empty took given = written_paused F law old new held holds before after bytes rest took.0 End empty took.1 took.2 given

written_failed : {S F : Type 0} (law : Law S) (old new : S) (held holds : Option (List ℕ)) (before after : Session) (lines : List ℕ → List (List ℕ)) (fault : RunFault F) →
    pending before ≡ [] → Failed law old new before after lines fault → AppendsBeginning held holds (pending after) → FailedBlock {F = F} law old new held holds before.number lines (Script Write)
written_failed law old new held holds before after lines fault empty failed given = λ more.
    let out : pending after ≡ failed.text ++ failed.last = failed.out ∙ ap (λ front. front ++ (failed.text ++ failed.last)) empty in
    written_why law old failed.mid new held holds before.number failed.done (lines more) failed.text failed.last fault failed.runs
    (subst (λ text. AppendsBeginning held holds text) out given) (failed.why more)

pub written_taken : {S : Type 0} (F : Type 0) (law : Law S) (old new : S) (held holds : Option (List ℕ)) (before after : Session) (bytes : List ℕ) {T : Type 0} (said : T → Flow) (left : T → List ℕ) (taken : Result T (RunFault F)) →
    pending before ≡ [] → MatchResult taken (λ t. TookSome law old new before after bytes (left t) (said t)) (Failed law old new before after (with_further before bytes)) →
    AppendsBeginning held holds (pending after) → FailedBlock {F = F} law old new held holds before.number (with_further before bytes) (Script Write)
written_taken F law old new held holds before after bytes said left (Ok t) empty took given = written_some F law old new held holds before after bytes (left t) (said t) empty took given
written_taken F law old new held holds before after bytes said left (Err fault) empty failed given = written_failed law old new held holds before after (with_further before bytes) fault empty failed given

-- ---- a turn

pub took_handed : {S : Type 0} (law : Law S) (old new : S) (held holds : Option (List ℕ)) (before between after : Session) (bytes : List ℕ) →
    pending before ≡ [] → Took law old new before between bytes → Appends held holds (pending between) →
    begun after ≡ begun between → pending after ≡ [] → after.number ≡ between.number → TookBlock law old new held holds before after bytes
took_handed law old new held holds before between after bytes empty took given line none number =
    let out : pending between ≡ took.text = took.out ∙ ap (λ front. front ++ took.text) empty in
    record {
      done = took.done;
      text = took.text;
      lines = λ more. took.lines more ∙ ap (λ line. took.done ++ lines_from line more) (sym line);
      runs = took.runs;
      handed = subst (λ text. Appends held holds text) out given;
      empty = none;
      number = number ∙ took.number;
      few = took.few;
    }

-- lines before those that are left behind a turn
lines_front : (before between : Session) (bytes front rest more : List ℕ) (done : List (List ℕ)) → bytes ≡ front ++ rest →
    ((more : List ℕ) → lines_from (begun before) (front ++ more) ≡ done ++ lines_from (begun between) more) →
    with_further before bytes more ≡ done ++ lines_from (begun between) (rest ++ more)
lines_front before between bytes front rest more done parts lines =
    ap (λ all. lines_from (begun before) (all ++ more)) parts ∙ ap (lines_from (begun before)) (append_assoc front rest more) ∙ lines (rest ++ more)

no_rest : (bytes rest : List ℕ) → rest ≡ [] → bytes ≡ bytes ++ rest
no_rest bytes rest none = sym (ap (λ rest. bytes ++ rest) none ∙ append-nil bytes)

pause_is_no_go_on : Pause ≡ GoOn → ⊥
pause_is_no_go_on e = cc

end_is_no_go_on : End ≡ GoOn → ⊥
end_is_no_go_on e = cc

-- memory was wanted at a turn
pub turn_wants : {S : Type 0} (F : Type 0) (law : Law S) (old mid new : S) (held holds : Option (List ℕ)) (before between : Session) (bytes rest front : List ℕ) (said : Flow) →
    pending before ≡ [] → bytes ≡ front ++ rest → Paused law old mid before between front said → (said ≡ GoOn → ⊥) → new ≡ mid → Appends held holds (pending between) →
    FailedBlock {F = F} law old new held holds before.number (with_further before bytes) (Script OutOfMemory)
turn_wants F law old mid new held holds before between bytes rest front said empty parts paused other same given = λ more.
    let out : pending between ≡ paused.text ++ paused.reply = paused.out ∙ ap (λ front. front ++ (paused.text ++ paused.reply)) empty in (
      paused.done,
      paused.line,
      lines_from (begun between) (rest ++ more),
      paused.mid,
      paused.text,
      paused.reply,
      ap (λ all. lines_from (begun before) (all ++ more)) parts ∙ ap (lines_from (begun before)) (append_assoc front rest more) ∙ paused.lines (rest ++ more),
      paused.runs,
      inr (said, subst (λ world. Said law paused.mid paused.line paused.reply said world) (sym same) paused.answered, other),
      subst (λ text. Appends held holds text) out given,
    )

-- whoever watches ended the run at a turn
pub turn_ends : {S F : Type 0} (law : Law S) (old mid new : S) (held holds : Option (List ℕ)) (before between : Session) (bytes rest front : List ℕ) (said : Flow) (fault : F) →
    pending before ≡ [] → bytes ≡ front ++ rest → Paused law old mid before between front said → (said ≡ GoOn → ⊥) → new ≡ mid → Appends held holds (pending between) →
    FailedBlock law old new held holds before.number (with_further before bytes) (Watcher fault)
turn_ends law old mid new held holds before between bytes rest front said fault empty parts paused other same given = λ more.
    let out : pending between ≡ paused.text ++ paused.reply = paused.out ∙ ap (λ front. front ++ (paused.text ++ paused.reply)) empty in (
      paused.done,
      paused.line,
      lines_from (begun between) (rest ++ more),
      paused.mid,
      paused.text,
      paused.reply,
      ap (λ all. lines_from (begun before) (all ++ more)) parts ∙ ap (lines_from (begun before)) (append_assoc front rest more) ∙ paused.lines (rest ++ more),
      paused.runs,
      inl (said, subst (λ world. Said law paused.mid paused.line paused.reply said world) (sym same) paused.answered, other),
      subst (λ text. Appends held holds text) out given,
    )

up_to : {S : Type 0} (law : Law S) (old new : S) (held holds : Option (List ℕ)) (before between after : Session) (bytes front rest : List ℕ) →
    0 < length front → pending before ≡ [] → bytes ≡ front ++ rest → Took law old new before between front → Appends held holds (pending between) →
    begun after ≡ begun between → pending after ≡ [] → after.number ≡ between.number → TookUpTo law old new held holds before after bytes rest
up_to law old new held holds before between after bytes front rest some empty parts took given line none number = record {
  front = front;
  parts = parts;
  took = took_handed law old new held holds before between after front empty took given line none number;
  some = some;
}

-- ---- over a world, where a turn may rotate the audit

module _ (style : Answering) (watcher : Watching) (later : List Declared) where
  pub turn_passed : (F : Type 0) (old mid new : Joined) (held holds : Option (List ℕ)) (before between after : Session) (bytes rest : List ℕ) (said : Flow) →
      0 < length bytes → pending before ≡ [] → TookSome (law style watcher later) old mid before between bytes rest said →
      Appends held holds (pending between) → begun after ≡ begun between → pending after ≡ [] → after.number ≡ between.number →
      TakesTurn {F = F} watcher.passes mid new said (Ok tt) → TookUpTo (law style watcher later) old new held holds before after bytes rest
  unfolding law
  turn_passed F old mid new held holds before between after bytes rest GoOn some empty took given line none number turn =
      up_to (law style watcher later) old new held holds before between after bytes bytes rest some empty (no_rest bytes rest took.0)
      (subst (λ world. Took (law style watcher later) old world before between bytes) (sym turn) took.1) given line none number
  turn_passed F old mid new held holds before between after bytes rest Pause some empty took given line none number turn =
      up_to (law style watcher later) old new held holds before between after bytes took.0 rest (omega (arith, took.2.few)) empty took.1
      (paused_took (law style watcher later) old mid new before between took.0 Pause took.2 turn.0 turn.1) given line none number
  turn_passed F old mid new held holds before between after bytes rest End some empty took given line none number turn =
      up_to (law style watcher later) old new held holds before between after bytes took.0 rest (omega (arith, took.2.few)) empty took.1
      (paused_took (law style watcher later) old mid new before between took.0 End took.2 turn.0 turn.1) given line none number

  pub turn_failed : {F : Type 0} (old mid new : Joined) (held holds : Option (List ℕ)) (before between : Session) (bytes rest : List ℕ) (said : Flow) (fault : RunFault F) →
      pending before ≡ [] → TookSome (law style watcher later) old mid before between bytes rest said → Appends held holds (pending between) →
      TakesTurn watcher.passes mid new said (Err fault) → FailedBlock (law style watcher later) old new held holds before.number (with_further before bytes) fault
  unfolding law
  turn_failed old mid new held holds before between bytes rest GoOn fault empty took given turn = absurd turn
  turn_failed {F} old mid new held holds before between bytes rest Pause (Script fault) empty took given turn =
      subst (λ fault. FailedBlock {F = F} (law style watcher later) old new held holds before.number (with_further before bytes) (Script fault)) (sym turn.0)
      (turn_wants F (law style watcher later) old mid new held holds before between bytes rest took.0 Pause empty took.1 took.2 pause_is_no_go_on turn.2 given)
  turn_failed {F} old mid new held holds before between bytes rest End (Script fault) empty took given turn =
      subst (λ fault. FailedBlock {F = F} (law style watcher later) old new held holds before.number (with_further before bytes) (Script fault)) (sym turn.0)
      (turn_wants F (law style watcher later) old mid new held holds before between bytes rest took.0 End empty took.1 took.2 end_is_no_go_on turn.2 given)
  turn_failed old mid new held holds before between bytes rest Pause (Watcher fault) empty took given turn =
      turn_ends (law style watcher later) old mid new held holds before between bytes rest took.0 Pause fault empty took.1 took.2 pause_is_no_go_on turn given
  turn_failed old mid new held holds before between bytes rest End (Watcher fault) empty took given turn =
      turn_ends (law style watcher later) old mid new held holds before between bytes rest took.0 End fault empty took.1 took.2 end_is_no_go_on turn given

-- what a session fails with is no fault of the reader or the writer
pub caused_fault : {S F : Type 0} (law : Law S) (old new : S) (before after : Session) (lines : List ℕ → List (List ℕ)) (w v : Bool) (fault : RunFault F) →
    v ≡ w → Failed law old new before after lines fault → IsCaused w v fault
caused_fault law old new before after lines w v (Script OutOfMemory) same failed = same
caused_fault law old new before after lines w v (Script (BadLine number)) same failed = same
caused_fault law old new before after lines w v (Script Read) same failed = absurd (failed.why [])
caused_fault law old new before after lines w v (Script Write) same failed = absurd (failed.why [])
caused_fault law old new before after lines w v (Watcher fault) same failed = same

pub caused_turn : {F : Type 0} (passes : Flow → Type 0) (old new : Joined) (said : Flow) (w v : Bool) (fault : RunFault F) →
    v ≡ w → TakesTurn passes old new said (Err fault) → IsCaused w v fault
caused_turn passes old new GoOn w v fault same turn = absurd turn
caused_turn {F} passes old new Pause w v (Script fault) same turn = subst (λ fault. IsCaused {F = F} w v (Script fault)) (sym turn.0) same
caused_turn {F} passes old new End w v (Script fault) same turn = subst (λ fault. IsCaused {F = F} w v (Script fault)) (sym turn.0) same
caused_turn passes old new Pause w v (Watcher fault) same turn = same
caused_turn passes old new End w v (Watcher fault) same turn = same

pub caused_turned : {F : Type 0} (passes : Flow → Type 0) (old new : Joined) (said : Flow) (w v : Bool) (ended : Result ⊤ (RunFault F)) →
    v ≡ w → TakesTurn passes old new said ended → IfErr ended (IsCaused w v)
caused_turned passes old new said w v (Ok done) same turn = tt
caused_turned passes old new said w v (Err fault) same turn = caused_turn passes old new said w v fault same turn

-- some replies were handed over before
pub caused_behind : {F : Type 0} (w x v : Bool) (fault : RunFault F) → x ≡ w → IsCaused x v fault → IsCaused w v fault
caused_behind w x v (Script OutOfMemory) same caused = caused ∙ same
caused_behind w x v (Script (BadLine number)) same caused = caused ∙ same
caused_behind w x v (Script Write) same caused = caused
caused_behind w x v (Script Read) same caused = absurd caused
caused_behind w x v (Watcher fault) same caused = caused ∙ same

-- a run ended so, whose reader hasn't failed
pub caused_run : {F : Type 0} (r s w x v : Bool) (fault : RunFault F) → s ≡ r → x ≡ w → IsCaused x v fault → HasCause r s w v (Err fault)
caused_run r s w x v (Script OutOfMemory) read same caused = (read, caused ∙ same)
caused_run r s w x v (Script (BadLine number)) read same caused = (read, caused ∙ same)
caused_run r s w x v (Script Write) read same caused = (read, caused)
caused_run r s w x v (Script Read) read same caused = absurd caused
caused_run r s w x v (Watcher fault) read same caused = (read, caused ∙ same)

pub caused_last : {F : Type 0} (r s w x v : Bool) (ended : Result ⊤ (RunFault F)) → s ≡ r → x ≡ w → OnOk ended (v ≡ x) → IfErr ended (IsCaused x v) → HasCause r s w v ended
caused_last r s w x v (Ok done) read same written caused = (read, written ∙ same)
caused_last r s w x v (Err fault) read same written caused = caused_run r s w x v fault read same caused

-- ---- bytes behind bytes

pub block_none : {S : Type 0} (law : Law S) (broker : S) (held : Option (List ℕ)) (session : Session) → pending session ≡ [] →
    TookBlock law broker broker held held session session []
block_none law broker held session empty = record {
  done = [];
  text = [];
  lines = λ more. refl;
  runs = (refl, refl);
  handed = appends_none held;
  empty = empty;
  number = omega arith;
  few = omega arith;
}

pub block_behind : {S : Type 0} (law : Law S) (old mid new : S) (held holds handed : Option (List ℕ)) (before between after : Session) (bytes further : List ℕ) →
    TookBlock law old mid held holds before between bytes → TookBlock law mid new holds handed between after further → TookBlock law old new held handed before after (bytes ++ further)
block_behind law old mid new held holds handed before between after bytes further a b = record {
  done = a.done ++ b.done;
  text = a.text ++ b.text;
  lines = λ more.
      ap (lines_from (begun before)) (append_assoc bytes further more)
      ∙ a.lines (further ++ more) ∙ ap (λ lines. a.done ++ lines) (b.lines more) ∙ sym (append_assoc a.done b.done (lines_from (begun after) more));
  runs = runs_append law old mid new a.done b.done a.text b.text a.runs b.runs;
  handed = appends_more held holds handed a.text b.text a.handed b.handed;
  empty = b.empty;
  number = omega (arith, a.number, b.number, length-append a.done b.done);
  few = omega (arith, a.few, b.few, length-append bytes further, length-append a.done b.done);
}

-- the bytes before those that are left were taken
pub record BlockFront {S : Type 0} (law : Law S) (old new : S) (held holds : Option (List ℕ)) (before after : Session) (bytes rest : List ℕ) : Type 0 where
  pub front : List ℕ
  pub parts : bytes ≡ front ++ rest
  pub took : TookBlock law old new held holds before after front

pub front_begins : {S : Type 0} (law : Law S) (broker : S) (held : Option (List ℕ)) (session : Session) (bytes : List ℕ) → pending session ≡ [] →
    BlockFront law broker broker held held session session bytes bytes
front_begins law broker held session bytes empty = record {
  front = [];
  parts = refl;
  took = block_none law broker held session empty;
}

pub front_some : {S : Type 0} (law : Law S) (old mid new : S) (held holds handed : Option (List ℕ)) (before between after : Session) (bytes rest left : List ℕ) →
    BlockFront law old mid held holds before between bytes rest → TookUpTo law mid new holds handed between after rest left →
    BlockFront law old new held handed before after bytes left
front_some law old mid new held holds handed before between after bytes rest left so some = record {
  front = so.front ++ some.front;
  parts = so.parts ∙ ap (λ rest. so.front ++ rest) some.parts ∙ sym (append_assoc so.front some.front left);
  took = block_behind law old mid new held holds handed before between after so.front some.front so.took some.took;
}

pub front_ends : {S : Type 0} (law : Law S) (old new : S) (held holds : Option (List ℕ)) (before after : Session) (bytes rest : List ℕ) →
    BlockFront law old new held holds before after bytes rest → length rest ≡ 0 → TookBlock law old new held holds before after bytes
front_ends law old new held holds before after bytes [] so none =
    subst (λ bytes. TookBlock law old new held holds before after bytes) (sym (so.parts ∙ append-nil so.front)) so.took
front_ends law old new held holds before after bytes (byte ∷ rest) so none = absurd (omega (arith, none))

pub front_breaks : {S F : Type 0} (law : Law S) (old mid new : S) (held holds handed : Option (List ℕ)) (before between : Session) (bytes rest : List ℕ) (fault : RunFault F) →
    BlockFront law old mid held holds before between bytes rest → FailedBlock law mid new holds handed between.number (with_further between rest) fault →
    FailedBlock law old new held handed before.number (with_further before bytes) fault
front_breaks law old mid new held holds handed before between bytes rest fault so failed = λ more.
    ends_behind law old mid new held holds handed before.number between.number so.took.done (with_further between rest more) (with_further before bytes more) so.took.text fault
    so.took.number (lines_front before between bytes so.front rest more so.took.done so.parts so.took.lines) so.took.runs so.took.handed (failed more)

-- how many bytes are left, and which line is begun
pub front_room : {S : Type 0} (law : Law S) (old new : S) (held holds : Option (List ℕ)) (before after : Session) (bytes rest : List ℕ) →
    BlockFront law old new held holds before after bytes rest → after.number + length rest ≤ before.number + length bytes
front_room law old new held holds before after bytes rest so =
    omega (arith, so.took.number, so.took.few, ap length so.parts, length-append so.front rest)

pub some_less : {S : Type 0} (law : Law S) (old new : S) (held holds : Option (List ℕ)) (before after : Session) (bytes rest : List ℕ) →
    TookUpTo law old new held holds before after bytes rest → length rest < length bytes
some_less law old new held holds before after bytes rest some = omega (arith, some.some, ap length some.parts, length-append some.front rest)

-- ---- the end

none_at_end : (before : Session) → begun before ≡ [] → nonempty_before (begun before) [] ≡ []
none_at_end before none = ap (λ line. nonempty_before line []) none

pub end_written : {S : Type 0} (F : Type 0) (law : Law S) (old new : S) (held holds : Option (List ℕ)) (before after : Session) (said : Flow) →
    pending before ≡ [] → AnsweredEnd law old new before after said → AppendsBeginning held holds (pending after) →
    FailedBlock {F = F} law old new held holds before.number (at_end before) (Script Write)
end_written F law old new held holds before after said empty (inl none) given = λ more. (
  [],
  [],
  old,
  [],
  [],
  none_at_end before none.0,
  (refl, refl),
  (none.1, refl),
  subst (λ text. AppendsBeginning held holds text) (ap pending none.2 ∙ empty) given,
)
end_written F law old new held holds before after said empty (inr one) given = λ more. (
  [],
  begun before ∷ [],
  old,
  [],
  one.1.reply,
  kept_begun (begun before) one.0,
  (refl, refl),
  inr (said, one.1.answered),
  subst (λ text. AppendsBeginning held holds text) (one.1.out ∙ ap (λ front. front ++ one.1.reply) empty) given,
)

pub end_taken : {S : Type 0} (F : Type 0) (law : Law S) (old new : S) (held holds : Option (List ℕ)) (before after : Session) (ended : Result Flow (RunFault F)) →
    pending before ≡ [] → MatchResult ended (AnsweredEnd law old new before after) (Failed law old new before after (at_end before)) → AppendsBeginning held holds (pending after) →
    FailedBlock {F = F} law old new held holds before.number (at_end before) (Script Write)
end_taken F law old new held holds before after (Ok said) empty answered given = end_written F law old new held holds before after said empty answered given
end_taken F law old new held holds before after (Err fault) empty failed given = written_failed law old new held holds before after (at_end before) fault empty failed given

replied_one : {S : Type 0} (law : Law S) (old new : S) (held holds : Option (List ℕ)) (before after : Session) (reply : List ℕ) →
    pending before ≡ [] → 0 < length (begun before) → Replied law old (begun before) reply new → pending after ≡ pending before ++ reply → Appends held holds (pending after) →
    EndedAll law old new held holds before
replied_one law old new held holds before after reply empty some replied out given = (
  reply,
  subst (λ lines. Runs law old lines reply new) (sym (kept_begun (begun before) some)) (runs_one law old new (begun before) reply replied),
  subst (λ text. Appends held holds text) (out ∙ ap (λ front. front ++ reply) empty) given,
)

none_replied : {S : Type 0} (law : Law S) (old new : S) (held holds : Option (List ℕ)) (before after : Session) →
    pending before ≡ [] → begun before ≡ [] → new ≡ old → after ≡ before → Appends held holds (pending after) → EndedAll law old new held holds before
none_replied law old new held holds before after empty none same kept given = (
  [],
  subst (λ lines. Runs law old lines [] new) (sym (none_at_end before none)) (refl, same),
  subst (λ text. Appends held holds text) (ap pending kept ∙ empty) given,
)

-- memory was wanted at the last turn, or whoever watches ended the run there
last_wants : {S : Type 0} (F : Type 0) (law : Law S) (old mid new : S) (held holds : Option (List ℕ)) (before after : Session) (said : Flow) →
    pending before ≡ [] → (0 < length (begun before)) × AnsweredLine law old mid (begun before) before after said → (said ≡ GoOn → ⊥) → new ≡ mid → Appends held holds (pending after) →
    FailedBlock {F = F} law old new held holds before.number (at_end before) (Script OutOfMemory)
last_wants F law old mid new held holds before after said empty one other same given = λ more. (
  [],
  begun before,
  [],
  old,
  [],
  one.1.reply,
  kept_begun (begun before) one.0,
  (refl, refl),
  inr (said, subst (λ world. Said law old (begun before) one.1.reply said world) (sym same) one.1.answered, other),
  subst (λ text. Appends held holds text) (one.1.out ∙ ap (λ front. front ++ one.1.reply) empty) given,
)

last_ends : {S F : Type 0} (law : Law S) (old mid new : S) (held holds : Option (List ℕ)) (before after : Session) (said : Flow) (fault : F) →
    pending before ≡ [] → (0 < length (begun before)) × AnsweredLine law old mid (begun before) before after said → (said ≡ GoOn → ⊥) → new ≡ mid → Appends held holds (pending after) →
    FailedBlock law old new held holds before.number (at_end before) (Watcher fault)
last_ends law old mid new held holds before after said fault empty one other same given = λ more. (
  [],
  begun before,
  [],
  old,
  [],
  one.1.reply,
  kept_begun (begun before) one.0,
  (refl, refl),
  inl (said, subst (λ world. Said law old (begun before) one.1.reply said world) (sym same) one.1.answered, other),
  subst (λ text. Appends held holds text) (one.1.out ∙ ap (λ front. front ++ one.1.reply) empty) given,
)

module _ (style : Answering) (watcher : Watching) (later : List Declared) where
  none_turned : {F : Type 0} (old mid new : Joined) (held holds : Option (List ℕ)) (before after : Session) (said : Flow) (ended : Result ⊤ (RunFault F)) →
      pending before ≡ [] → begun before ≡ [] → mid ≡ old → after ≡ before → said ≡ GoOn → Appends held holds (pending after) → TakesTurn watcher.passes mid new said ended →
      MatchResult ended (λ _. EndedAll (law style watcher later) old new held holds before)
      (FailedBlock (law style watcher later) old new held holds before.number (at_end before))
  none_turned old mid new held holds before after GoOn (Ok done) empty none same kept e given turn =
      none_replied (law style watcher later) old new held holds before after empty none (turn ∙ same) kept given
  none_turned old mid new held holds before after GoOn (Err fault) empty none same kept e given turn = absurd turn
  none_turned old mid new held holds before after Pause ended empty none same kept e given turn = absurd (pause_is_no_go_on e)
  none_turned old mid new held holds before after End ended empty none same kept e given turn = absurd (end_is_no_go_on e)

  one_turned : {F : Type 0} (old mid new : Joined) (held holds : Option (List ℕ)) (before after : Session) (said : Flow) (ended : Result ⊤ (RunFault F)) →
      pending before ≡ [] → (0 < length (begun before)) × AnsweredLine (law style watcher later) old mid (begun before) before after said →
      Appends held holds (pending after) → TakesTurn watcher.passes mid new said ended →
      MatchResult ended (λ _. EndedAll (law style watcher later) old new held holds before)
      (FailedBlock (law style watcher later) old new held holds before.number (at_end before))
  unfolding law
  one_turned old mid new held holds before after GoOn (Ok done) empty one given turn =
      replied_one (law style watcher later) old new held holds before after one.1.reply empty one.0
      (inl (subst (λ world. Said (law style watcher later) old (begun before) one.1.reply GoOn world) (sym turn) one.1.answered)) one.1.out given
  one_turned old mid new held holds before after GoOn (Err fault) empty one given turn = absurd turn
  one_turned old mid new held holds before after Pause (Ok done) empty one given turn =
      replied_one (law style watcher later) old new held holds before after one.1.reply empty one.0
      (inr (mid, Pause, one.1.answered, turn.0, turn.1)) one.1.out given
  one_turned old mid new held holds before after End (Ok done) empty one given turn =
      replied_one (law style watcher later) old new held holds before after one.1.reply empty one.0
      (inr (mid, End, one.1.answered, turn.0, turn.1)) one.1.out given
  one_turned {F} old mid new held holds before after Pause (Err (Script fault)) empty one given turn =
      subst (λ fault. FailedBlock {F = F} (law style watcher later) old new held holds before.number (at_end before) (Script fault)) (sym turn.0)
      (last_wants F (law style watcher later) old mid new held holds before after Pause empty one pause_is_no_go_on turn.2 given)
  one_turned {F} old mid new held holds before after End (Err (Script fault)) empty one given turn =
      subst (λ fault. FailedBlock {F = F} (law style watcher later) old new held holds before.number (at_end before) (Script fault)) (sym turn.0)
      (last_wants F (law style watcher later) old mid new held holds before after End empty one end_is_no_go_on turn.2 given)
  one_turned old mid new held holds before after Pause (Err (Watcher fault)) empty one given turn =
      last_ends (law style watcher later) old mid new held holds before after Pause fault empty one pause_is_no_go_on turn given
  one_turned old mid new held holds before after End (Err (Watcher fault)) empty one given turn =
      last_ends (law style watcher later) old mid new held holds before after End fault empty one end_is_no_go_on turn given

  pub end_turned : {F : Type 0} (old mid new : Joined) (held holds : Option (List ℕ)) (before after : Session) (said : Flow) (ended : Result ⊤ (RunFault F)) →
      pending before ≡ [] → AnsweredEnd (law style watcher later) old mid before after said →
      Appends held holds (pending after) → TakesTurn watcher.passes mid new said ended →
      MatchResult ended (λ _. EndedAll (law style watcher later) old new held holds before)
      (FailedBlock (law style watcher later) old new held holds before.number (at_end before))
  end_turned old mid new held holds before after said ended empty (inl none) given turn =
      none_turned old mid new held holds before after said ended empty none.0 none.1 none.2 none.3 given turn
  end_turned old mid new held holds before after said ended empty (inr one) given turn =
      one_turned old mid new held holds before after said ended empty one given turn

-- ---- between reads: the lines that ended in what was read are done, and their replies were handed over
pub record Going {S : Type 0} (law : Law S) (old new : S) (held holds had left : Option (List ℕ)) (session : Session) : Type 0 where
  pub done : List (List ℕ)
  pub text : List ℕ
  pub read : List ℕ
  pub runs : Runs law old done text new
  pub handed : Appends held holds text
  pub taken : Consumes had left read
  pub lines : (more : List ℕ) → lines_of (read ++ more) ≡ done ++ lines_from (begun session) more
  pub number : session.number ≡ length done + 1

-- what is left to read, where that is told; nothing else
pub rest_of : Option (List ℕ) → List ℕ
rest_of None = []
rest_of (Some bytes) = bytes

tells_rest : (left : Option (List ℕ)) → Tells left (rest_of left)
unfolding rest_of
tells_rest None = tt
tells_rest (Some bytes) = refl

tells_script : (had left : Option (List ℕ)) (read : List ℕ) → Consumes had left read → Tells had (read ++ rest_of left)
unfolding rest_of
tells_script None left read k = tt
tells_script (Some xs) None read k = absurd k
tells_script (Some xs) (Some ys) read k = k

none_left : (left : Option (List ℕ)) → IsAtEnd left → rest_of left ≡ []
unfolding rest_of
none_left None k = refl
none_left (Some xs) k = k

consumes_none : (left : Option (List ℕ)) → Consumes left left []
consumes_none None = tt
consumes_none (Some xs) = refl

consumes_kept : (a b c : Option (List ℕ)) (read : List ℕ) → Consumes a b read → Keeps b c → Consumes a c read
consumes_kept None b c read p q = tt
consumes_kept (Some x) None c read p q = absurd p
consumes_kept (Some x) (Some y) None read p q = absurd q
consumes_kept (Some x) (Some y) (Some z) read p q = p ∙ ap (λ rest. read ++ rest) (sym q)

consumes_more : (a b c : Option (List ℕ)) (read bytes : List ℕ) → Consumes a b read → Consumes b c bytes → Consumes a c (read ++ bytes)
consumes_more None b c read bytes p q = tt
consumes_more (Some x) None c read bytes p q = absurd p
consumes_more (Some x) (Some y) None read bytes p q = absurd q
consumes_more (Some x) (Some y) (Some z) read bytes p q = p ∙ ap (λ rest. read ++ rest) q ∙ sym (append_assoc read bytes z)

pub going_none : {S : Type 0} (law : Law S) (broker : S) (held left : Option (List ℕ)) (session : Session) →
    begun session ≡ [] → session.number ≡ 1 → Going law broker broker held held left left session
going_none law broker held left session line number = record {
  done = [];
  text = [];
  read = [];
  runs = (refl, refl);
  handed = appends_none held;
  taken = consumes_none left;
  lines = λ more. ap (λ line. lines_from line more) (sym line);
  number = number;
}

pub going_kept : {S : Type 0} (law : Law S) (old new : S) (held holds had left kept_left : Option (List ℕ)) (session : Session) →
    Going law old new held holds had left session → Keeps left kept_left → Going law old new held holds had kept_left session
going_kept law old new held holds had left kept_left session so k = record {
  done = so.done;
  text = so.text;
  read = so.read;
  runs = so.runs;
  handed = so.handed;
  taken = consumes_kept had left kept_left so.read so.taken k;
  lines = so.lines;
  number = so.number;
}

-- the lines of what was read, some bytes more, and what follows them
lines_behind : {S : Type 0} (law : Law S) (old mid : S) (held holds had left : Option (List ℕ)) (before : Session) (bytes more : List ℕ) →
    (so : Going law old mid held holds had left before) → lines_of ((so.read ++ bytes) ++ more) ≡ so.done ++ lines_from (begun before) (bytes ++ more)
lines_behind law old mid held holds had left before bytes more so = ap lines_of (append_assoc so.read bytes more) ∙ so.lines (bytes ++ more)

pub going_block : {S : Type 0} (law : Law S) (old mid new : S) (held holds handed had left further : Option (List ℕ)) (before after : Session) (bytes : List ℕ) →
    Going law old mid held holds had left before → Consumes left further bytes → TookBlock law mid new holds handed before after bytes →
    Going law old new held handed had further after
going_block law old mid new held holds handed had left further before after bytes so k took = record {
  done = so.done ++ took.done;
  text = so.text ++ took.text;
  read = so.read ++ bytes;
  runs = runs_append law old mid new so.done took.done so.text took.text so.runs took.runs;
  handed = appends_more held holds handed so.text took.text so.handed took.handed;
  taken = consumes_more had left further so.read bytes so.taken k;
  lines = λ more. lines_behind law old mid held holds had left before bytes more so ∙ ap (λ lines. so.done ++ lines) (took.lines more)
      ∙ sym (append_assoc so.done took.done (lines_from (begun after) more));
  number = omega (arith, took.number, so.number, length-append so.done took.done);
}

-- how lines ended is how a run over them did
outcome_of_lines : {S F : Type 0} (law : Law S) (old new : S) (held holds left : Option (List ℕ)) (script : List ℕ) (fault : RunFault F) →
    EndsIn law old new held holds 1 (lines_of script) fault → Outcome law old new held holds left script (Err fault)
outcome_of_lines law old new held holds left script (Script (BadLine bad)) ends = ends
outcome_of_lines law old new held holds left script (Script OutOfMemory) ends = ends
outcome_of_lines law old new held holds left script (Script Write) ends = ends
outcome_of_lines law old new held holds left script (Script Read) ends = absurd ends
outcome_of_lines law old new held holds left script (Watcher fault) ends = ends

-- bytes were read, and the lines that come of them could not all be served
outcome_failed : {S F : Type 0} (law : Law S) (old mid new : S) (held holds handed had left further : Option (List ℕ)) (before : Session) (bytes : List ℕ) (lines : List ℕ → List (List ℕ)) (fault : RunFault F) →
    Going law old mid held holds had left before → Consumes left further bytes → lines_from (begun before) (bytes ++ rest_of further) ≡ lines (rest_of further) →
    FailedBlock law mid new holds handed before.number lines fault → RunsScript law old new held handed had further (Err fault)
outcome_failed law old mid new held holds handed had left further before bytes lines fault so k e failed = (
  (so.read ++ bytes) ++ rest_of further,
  tells_script had further (so.read ++ bytes) (consumes_more had left further so.read bytes so.taken k),
  outcome_of_lines law old new held handed further ((so.read ++ bytes) ++ rest_of further) fault
      (ends_behind law old mid new held holds handed 1 before.number so.done (lines (rest_of further)) (lines_of ((so.read ++ bytes) ++ rest_of further)) so.text fault
      (so.number ∙ omega arith) (lines_behind law old mid held holds had left before bytes (rest_of further) so ∙ ap (λ lines. so.done ++ lines) e)
      so.runs so.handed (failed (rest_of further))),
)

pub outcome_block : {S F : Type 0} (law : Law S) (old mid new : S) (held holds handed had left further : Option (List ℕ)) (before : Session) (bytes : List ℕ) (fault : RunFault F) →
    Going law old mid held holds had left before → Consumes left further bytes → FailedBlock law mid new holds handed before.number (with_further before bytes) fault →
    RunsScript law old new held handed had further (Err fault)
outcome_block law old mid new held holds handed had left further before bytes fault so k failed =
    outcome_failed law old mid new held holds handed had left further before bytes (with_further before bytes) fault so k refl failed

at_end_lines : (before : Session) (further : Option (List ℕ)) → IsAtEnd further → lines_from (begun before) ([] ++ rest_of further) ≡ at_end before (rest_of further)
at_end_lines before further at = ap (λ rest. lines_from (begun before) rest) (none_left further at) ∙ lines_end (begun before)

pub outcome_last : {S F : Type 0} (law : Law S) (old mid new : S) (held holds handed had left further : Option (List ℕ)) (before : Session) (ended : Result ⊤ (RunFault F)) →
    Going law old mid held holds had left before → Consumes left further [] → IsAtEnd further →
    MatchResult ended (λ _. EndedAll law mid new holds handed before) (FailedBlock law mid new holds handed before.number (at_end before)) →
    RunsScript law old new held handed had further ended
outcome_last law old mid new held holds handed had left further before (Ok done) so k at all =
    let lines : lines_of ((so.read ++ []) ++ rest_of further) ≡ so.done ++ nonempty_before (begun before) [] =
    lines_behind law old mid held holds had left before [] (rest_of further) so ∙ ap (λ lines. so.done ++ lines) (at_end_lines before further at) in (
      (so.read ++ []) ++ rest_of further,
      tells_script had further (so.read ++ []) (consumes_more had left further so.read [] so.taken k),
      (
        at,
        subst (λ lines. Replies law old new held handed lines) (sym lines)
            (replies_behind law old mid new held holds handed so.done (nonempty_before (begun before) []) so.text so.runs so.handed all),
      ),
    )
outcome_last law old mid new held holds handed had left further before (Err fault) so k at failed =
    outcome_failed law old mid new held holds handed had left further before [] (at_end before) fault so k (at_end_lines before further at) failed

-- the reader failed
pub outcome_read : {S : Type 0} (F : Type 0) (law : Law S) (old new : S) (held holds had left : Option (List ℕ)) (session : Session) →
    Going law old new held holds had left session → RunsScript {F = F} law old new held holds had left (Err (Script Read))
outcome_read F law old new held holds had left session so = (
  so.read ++ rest_of left,
  tells_script had left so.read so.taken,
  (so.done, begun session, rest_of left, tells_rest left, so.lines (rest_of left), (so.text, so.runs, so.handed)),
)

-- what a read of some bytes consumed
pub block_of : (old new : Option (List ℕ)) (count : ℕ) (block taken : List ℕ) → ReadsBlock old new (Ok (Some count)) block → taken ≡ take count block → Consumes old new taken
block_of old new count block taken read e = subst (λ bytes. Consumes old new bytes) (sym e) read.1

-- what a read of no byte says
pub at_end_of : (old new : Option (List ℕ)) (count : ℕ) (block : List ℕ) → count ≡ 0 → ReadsBlock old new (Ok (Some count)) block → Consumes old new [] × IsAtEnd new
at_end_of old new count block e read =
    let none : take count block ≡ [] = rw e refl in
    (subst (λ bytes. Consumes old new bytes) none read.1, read.2 e)
