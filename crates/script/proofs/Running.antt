-- Runs over lines and bytes, one more at a time.
use Rattle.std.proofs.Common.{◌≡◌, ℕ, suc, ◌+◌, ◌<◌, ◌≤◌, true, false, List, [], ◌∷◌, ◌++◌, length, Option, Some, None, refl, sym, ap, ◌∙◌, subst, inl, inr, ◌⊎◌, eqb, append_assoc, append-nil, length-append, arith}
use Rattle.std.specs.Prelude.{◌==◌, nat_lt}
use Rattle.std.proofs.lemmas.Bool.Decides.{nat_tests, eqb_tells}
use Rattle.script.specs.declared.fault.ScriptFault.{ScriptFault}
use Rattle.script.specs.declared.fault.ScriptFault.TheVariants.{OutOfMemory, BadLine, Read, Write}
use Rattle.script.specs.declared.fault.RunFault.{RunFault}
use Rattle.script.specs.declared.fault.RunFault.TheVariants.{Script, Watcher}
use Rattle.script.specs.declared.session.Session.{Session}
use Rattle.script.specs.declared.watch.Flow.{Flow}
use Rattle.script.specs.declared.watch.Flow.TheVariants.{GoOn, Pause, End}
use Rattle.words.specs.Lines.{nonempty_before}
use Rattle.script.specs.Runs.{Law, CutShort, IsBad, Runs, Replied, Said, Turns, lines_from}
use Rattle.script.specs.Sessions.{AnsweredEnd, AnsweredLine, Took, TookSome, Paused, Failed, FailedLine, FailedPart, FeedBetween, HasNoFeed, TookPart, WhyPart, Why, at_end, begun, pending, with_further}

pub lines_end : (line : List ℕ) → lines_from line [] ≡ nonempty_before line []
unfolding lines_from
lines_end line = refl

pub lines_feed : (line : List ℕ) (byte : ℕ) (bytes : List ℕ) → byte ≡ 10 → lines_from line (byte ∷ bytes) ≡ line ∷ lines_from [] bytes
unfolding lines_from
lines_feed line byte bytes e = rw e refl

pub lines_byte : (line : List ℕ) (byte : ℕ) (bytes : List ℕ) → (byte ≡ 10 → ⊥) → lines_from line (byte ∷ bytes) ≡ lines_from (line ++ byte ∷ []) bytes
unfolding lines_from
lines_byte line byte bytes e = let other : (byte == 10) ≡ false = grind (arith, nat_tests) in rw other refl

-- a part of a line goes to its begin
pub lines_part : (line part bytes : List ℕ) → HasNoFeed part → lines_from line (part ++ bytes) ≡ lines_from (line ++ part) bytes
lines_part line [] bytes plain = ap (λ begun. lines_from begun bytes) (sym (append-nil line))
lines_part line (byte ∷ part) bytes plain =
    lines_byte line byte (part ++ bytes) (plain 0 (omega arith))
    ∙ lines_part (line ++ byte ∷ []) part bytes (λ place lt. plain (suc place) (omega (arith, lt)))
    ∙ ap (λ begun. lines_from begun bytes) (append_assoc line (byte ∷ []) part)

-- a part of a line, and the line feed behind it, end the line
pub lines_line : (line part bytes : List ℕ) → HasNoFeed part → lines_from line ((part ++ 10 ∷ []) ++ bytes) ≡ (line ++ part) ∷ lines_from [] bytes
lines_line line part bytes plain =
    ap (lines_from line) (append_assoc part (10 ∷ []) bytes) ∙ lines_part line part (10 ∷ bytes) plain ∙ lines_feed (line ++ part) 10 bytes refl

first_at : (line : List ℕ) (byte : ℕ) (bytes : List ℕ) → ((eqb byte 10 ≡ true) × (byte ≡ 10)) ⊎ ((eqb byte 10 ≡ false) × (byte ≡ 10 → ⊥)) →
    (whole : List ℕ) × (further : List (List ℕ)) × (lines_from (line ++ byte ∷ []) bytes ≡ whole ∷ further) × (length (line ++ byte ∷ []) ≤ length whole) →
    (whole : List ℕ) × (further : List (List ℕ)) × (lines_from line (byte ∷ bytes) ≡ whole ∷ further) × (length line ≤ length whole)
first_at line byte bytes (inl feed) more = (line, lines_from [] bytes, lines_feed line byte bytes feed.1, omega arith)
first_at line byte bytes (inr other) more =
    (more.0, more.1, lines_byte line byte bytes other.1 ∙ more.2, omega (arith, more.3, length-append line (byte ∷ [])))

-- the first of the lines is at least as long as its begin
pub first_line : (line bytes : List ℕ) → 0 < length line →
    (whole : List ℕ) × (further : List (List ℕ)) × (lines_from line bytes ≡ whole ∷ further) × (length line ≤ length whole)
first_line [] bytes h = absurd (omega arith)
first_line (first ∷ line) [] h = ((first ∷ line), [], lines_end (first ∷ line), omega arith)
first_line (first ∷ line) (byte ∷ bytes) h = first_at (first ∷ line) byte bytes (eqb_tells byte 10) (first_line ((first ∷ line) ++ byte ∷ []) bytes (omega (arith, length-append line (byte ∷ []))))

pub kept_begun : (line : List ℕ) → 0 < length line → nonempty_before line [] ≡ line ∷ []
kept_begun [] h = absurd (omega arith)
kept_begun (byte ∷ line) h = refl

pub runs_one : {S : Type 0} (law : Law S) (old new : S) (line reply : List ℕ) → Replied law old line reply new → Runs law old (line ∷ []) reply new
runs_one law old new line reply r = (new, reply, [], r, (refl, refl), sym (append-nil reply))

pub runs_append : {S : Type 0} (law : Law S) (old mid new : S) (lines others : List (List ℕ)) (text more : List ℕ) →
    Runs law old lines text mid → Runs law mid others more new → Runs law old (lines ++ others) (text ++ more) new
runs_append law old mid new [] others text more r q =
    let at : Runs law old others more new = subst (λ start. Runs law start others more new) r.1 q in
    subst (λ all. Runs law old others all new) (sym (ap (λ front. front ++ more) r.0)) at
runs_append law old mid new (line ∷ lines) others text more r q =
    (r.0, r.1, r.2 ++ more, r.3, runs_append law r.0 mid new lines others r.2 more r.4 q, ap (λ front. front ++ more) r.5 ∙ append_assoc r.1 r.2 more)

-- a line feed ends a line that is begun, or one that lies whole in what was read, and the run goes on
pub took_line : {S : Type 0} (law : Law S) (old new : S) (before after : Session) (part : List ℕ) → HasNoFeed part →
    AnsweredLine law old new (begun before ++ part) before after GoOn → Took law old new before after (part ++ 10 ∷ [])
took_line law old new before after part plain ended = record {
  done = (begun before ++ part) ∷ [];
  text = ended.reply;
  lines = λ more. lines_line (begun before) part more plain ∙ ap (λ line. (begun before ++ part) ∷ lines_from line more) (sym ended.fresh);
  runs = runs_one law old new (begun before ++ part) ended.reply (inl ended.answered);
  out = ended.out;
  number = ended.number;
  few = omega (arith, length-append part (10 ∷ []));
}

-- the same where something else was said
pub paused_line : {S : Type 0} (law : Law S) (old new : S) (before after : Session) (part : List ℕ) (said : Flow) → HasNoFeed part →
    AnsweredLine law old new (begun before ++ part) before after said → Paused law old new before after (part ++ 10 ∷ []) said
paused_line law old new before after part said plain ended = record {
  done = [];
  text = [];
  mid = old;
  line = begun before ++ part;
  reply = ended.reply;
  lines = λ more. lines_line (begun before) part more plain ∙ ap (λ line. (begun before ++ part) ∷ lines_from line more) (sym ended.fresh);
  runs = (refl, refl);
  answered = ended.answered;
  out = ended.out;
  number = ended.number ∙ omega arith;
  few = omega (arith, length-append part (10 ∷ []));
}

-- behind a turn that lets the run go on, the bytes are taken
pub paused_took : {S : Type 0} (law : Law S) (old mid new : S) (before after : Session) (bytes : List ℕ) (said : Flow) →
    Paused law old mid before after bytes said → law.passes said → Turns law mid new → Took law old new before after bytes
paused_took law old mid new before after bytes said paused passes turns = record {
  done = paused.done ++ paused.line ∷ [];
  text = paused.text ++ paused.reply;
  lines = λ more. paused.lines more ∙ sym (append_assoc paused.done (paused.line ∷ []) (lines_from (begun after) more));
  runs = runs_append law old paused.mid new paused.done (paused.line ∷ []) paused.text paused.reply paused.runs
      (runs_one law paused.mid new paused.line paused.reply (inr (mid, said, paused.answered, passes, turns)));
  out = paused.out;
  number = omega (arith, paused.number, length-append paused.done (paused.line ∷ []));
  few = omega (arith, paused.few, length-append paused.done (paused.line ∷ []));
}

-- the first of some lines is one at which they stop
first_fails : {S F : Type 0} (law : Law S) (old new : S) (before after : Session) (all : List ℕ → List (List ℕ)) (line : List ℕ) (further : List ℕ → List (List ℕ)) (fault : RunFault F) →
    ((more : List ℕ) → all more ≡ line ∷ further more) → FailedLine law old new line before after fault → Failed law old new before after all fault
first_fails law old new before after all line further (Script (BadLine bad)) e failed = record {
  done = [];
  text = [];
  last = [];
  mid = old;
  runs = (refl, refl);
  out = failed.0 ∙ sym (append-nil (pending before));
  why = λ more. (
    failed.1 ∙ omega arith,
    failed.2,
    (line, further more, e more, subst (λ broker. IsBad law broker line) (sym failed.2) failed.3),
    refl,
  );
}
first_fails law old new before after all line further (Script OutOfMemory) e failed = record {
  done = [];
  text = [];
  last = failed.0;
  mid = old;
  runs = (refl, refl);
  out = failed.1;
  why = λ more. (line, further more, e more, failed.2);
}
first_fails law old new before after all line further (Script Read) e failed = absurd failed
first_fails law old new before after all line further (Script Write) e failed = absurd failed
first_fails law old new before after all line further (Watcher fault) e failed = record {
  done = [];
  text = [];
  last = failed.0;
  mid = old;
  runs = (refl, refl);
  out = failed.1;
  why = λ more. (line, further more, e more, failed.2, failed.3);
}

pub failed_line : {S F : Type 0} (law : Law S) (old new : S) (before after : Session) (part : List ℕ) (fault : RunFault F) → HasNoFeed part →
    FailedLine law old new (begun before ++ part) before after fault → Failed law old new before after (with_further before (part ++ 10 ∷ [])) fault
failed_line law old new before after part fault plain failed =
    first_fails law old new before after (with_further before (part ++ 10 ∷ [])) (begun before ++ part) (λ more. lines_from [] more) fault
    (λ more. lines_line (begun before) part more plain) failed

pub failed_last : {S F : Type 0} (law : Law S) (old new : S) (before after : Session) (fault : RunFault F) → 0 < length (begun before) →
    FailedLine law old new (begun before) before after fault → Failed law old new before after (at_end before) fault
failed_last law old new before after fault some failed =
    first_fails law old new before after (at_end before) (begun before) (λ more. []) fault (λ more. kept_begun (begun before) some) failed

-- a part that could not be taken: it makes the line too long, or finds no room
why_part : {S : Type 0} (F : Type 0) (law : Law S) (broker : S) (before : Session) (part more : List ℕ) (fault : ScriptFault) → HasNoFeed part →
    WhyPart before part fault → Why {F = F} law broker broker before.number [] (with_further before part more) [] (Script fault)
why_part F law broker before part more (BadLine bad) plain why =
    let longer : 16384 < length (begun before ++ part) = omega (arith, why.1, length-append (begun before) part) in
    let first = first_line (begun before ++ part) more (omega (arith, longer)) in
    (why.0 ∙ omega arith, refl, (first.0, first.1, lines_part (begun before) part more plain ∙ first.2, inr (omega (arith, longer, first.3))), refl)
why_part F law broker before part more OutOfMemory plain why =
    let first = first_line (begun before ++ part) more (omega (arith, why, length-append (begun before) part)) in
    (first.0, first.1, lines_part (begun before) part more plain ∙ first.2, inl (refl, refl))
why_part F law broker before part more Read plain why = absurd why
why_part F law broker before part more Write plain why = absurd why

pub failed_part : {S : Type 0} (F : Type 0) (law : Law S) (broker : S) (before after : Session) (part : List ℕ) (fault : ScriptFault) → HasNoFeed part →
    FailedPart before after part fault → Failed {F = F} law broker broker before after (with_further before part) (Script fault)
failed_part F law broker before after part fault plain failed = record {
  done = [];
  text = [];
  last = [];
  mid = broker;
  runs = (refl, refl);
  out = failed.0 ∙ sym (append-nil (pending before));
  why = λ more. why_part F law broker before part more fault plain failed.1;
}

-- a part was taken
pub took_part : {S : Type 0} (law : Law S) (broker : S) (before after : Session) (part : List ℕ) → HasNoFeed part →
    TookPart before after part → Took law broker broker before after part
took_part law broker before after part plain took = record {
  done = [];
  text = [];
  lines = λ more. lines_part (begun before) part more plain ∙ ap (λ line. lines_from line more) (sym took.line);
  runs = (refl, refl);
  out = took.out ∙ sym (append-nil (pending before));
  number = took.number ∙ omega arith;
  few = omega arith;
}

-- a line whose last part was taken just before it is served, or could not be
pub ended_part : {S : Type 0} (law : Law S) (old new : S) (before between after : Session) (part : List ℕ) (said : Flow) → TookPart before between part →
    AnsweredLine law old new (begun between) between after said → AnsweredLine law old new (begun before ++ part) before after said
ended_part law old new before between after part said took ended = record {
  reply = ended.reply;
  answered = subst (λ line. Said law old line ended.reply said new) took.line ended.answered;
  out = ended.out ∙ ap (λ front. front ++ ended.reply) took.out;
  fresh = ended.fresh;
  number = ended.number ∙ ap (λ number. number + 1) took.number;
}

pub failed_ended : {S F : Type 0} (law : Law S) (old new : S) (before between after : Session) (part : List ℕ) (fault : RunFault F) → TookPart before between part →
    FailedLine law old new (begun between) between after fault → FailedLine law old new (begun before ++ part) before after fault
failed_ended law old new before between after part (Script (BadLine bad)) took failed = (
  failed.0 ∙ took.out,
  failed.1 ∙ took.number,
  failed.2,
  subst (λ line. IsBad law old line) took.line failed.3,
)
failed_ended law old new before between after part (Script OutOfMemory) took failed = (
  failed.0,
  failed.1 ∙ ap (λ front. front ++ failed.0) took.out,
  subst (λ line. CutShort law.cuts old line failed.0 new) took.line failed.2,
)
failed_ended law old new before between after part (Script Read) took failed = absurd failed
failed_ended law old new before between after part (Script Write) took failed = absurd failed
failed_ended law old new before between after part (Watcher fault) took failed = (
  failed.0,
  failed.1 ∙ ap (λ front. front ++ failed.0) took.out,
  failed.2,
  subst (λ line. law.cuts old line failed.0 new) took.line failed.3,
)

no_length : (bytes : List ℕ) → length bytes ≡ 0 → bytes ≡ []
no_length [] none = refl
no_length (byte ∷ bytes) none = absurd (omega (arith, none))

pub no_begun : (before : Session) → length (begun before) ≡ 0 → begun before ≡ []
no_begun before none = no_length (begun before) none

-- where no line is begun, a part is the line's begin
pub none_begun : (before : Session) (part : List ℕ) → length (begun before) ≡ 0 → part ≡ begun before ++ part
none_begun before part none = ap (λ front. front ++ part) (sym (no_length (begun before) none))

-- no byte
pub took_none : {S : Type 0} (law : Law S) (broker : S) (session : Session) → Took law broker broker session session []
took_none law broker session = record {
  done = [];
  text = [];
  lines = λ more. refl;
  runs = (refl, refl);
  out = sym (append-nil (pending session));
  number = omega arith;
  few = omega arith;
}

-- bytes and further bytes
pub took_behind : {S : Type 0} (law : Law S) (old mid new : S) (before between after : Session) (bytes further : List ℕ) →
    Took law old mid before between bytes → Took law mid new between after further → Took law old new before after (bytes ++ further)
took_behind law old mid new before between after bytes further a b = record {
  done = a.done ++ b.done;
  text = a.text ++ b.text;
  lines = λ more.
      ap (lines_from (begun before)) (append_assoc bytes further more)
      ∙ a.lines (further ++ more) ∙ ap (λ lines. a.done ++ lines) (b.lines more) ∙ sym (append_assoc a.done b.done (lines_from (begun after) more));
  runs = runs_append law old mid new a.done b.done a.text b.text a.runs b.runs;
  out = b.out ∙ ap (λ front. front ++ b.text) a.out ∙ append_assoc (pending before) a.text b.text;
  number = omega (arith, a.number, b.number, length-append a.done b.done);
  few = omega (arith, a.few, b.few, length-append bytes further, length-append a.done b.done);
}

pub paused_behind : {S : Type 0} (law : Law S) (old mid new : S) (before between after : Session) (bytes further : List ℕ) (said : Flow) →
    Took law old mid before between bytes → Paused law mid new between after further said → Paused law old new before after (bytes ++ further) said
paused_behind law old mid new before between after bytes further said a b = record {
  done = a.done ++ b.done;
  text = a.text ++ b.text;
  mid = b.mid;
  line = b.line;
  reply = b.reply;
  lines = λ more.
      ap (lines_from (begun before)) (append_assoc bytes further more)
      ∙ a.lines (further ++ more) ∙ ap (λ lines. a.done ++ lines) (b.lines more) ∙ sym (append_assoc a.done b.done (b.line ∷ lines_from (begun after) more));
  runs = runs_append law old mid b.mid a.done b.done a.text b.text a.runs b.runs;
  answered = b.answered;
  out = b.out ∙ ap (λ front. front ++ (b.text ++ b.reply)) a.out ∙ append_assoc (pending before) a.text (b.text ++ b.reply)
      ∙ ap (λ text. pending before ++ text) (sym (append_assoc a.text b.text b.reply));
  number = omega (arith, a.number, b.number, length-append a.done b.done);
  few = omega (arith, a.few, b.few, length-append bytes further, length-append a.done b.done);
}

pub why_behind : {S F : Type 0} (law : Law S) (mid new : S) (first number : ℕ) (before done lines all : List (List ℕ)) (last : List ℕ) (fault : RunFault F) →
    number ≡ first + length before → all ≡ before ++ lines → Why law mid new number done lines last fault → Why law mid new first (before ++ done) all last fault
why_behind law mid new first number before done lines all last (Script (BadLine bad)) n e why = (
  omega (arith, why.0, n, length-append before done),
  why.1,
  (why.2.0, why.2.1, e ∙ ap (λ further. before ++ further) why.2.2 ∙ sym (append_assoc before done (why.2.0 ∷ why.2.1)), why.2.3),
  why.3,
)
why_behind law mid new first number before done lines all last (Script OutOfMemory) n e why =
    (why.0, why.1, e ∙ ap (λ further. before ++ further) why.2 ∙ sym (append_assoc before done (why.0 ∷ why.1)), why.3)
why_behind law mid new first number before done lines all last (Script Read) n e why = absurd why
why_behind law mid new first number before done lines all last (Script Write) n e why = absurd why
why_behind law mid new first number before done lines all last (Watcher fault) n e why =
    (why.0, why.1, e ∙ ap (λ further. before ++ further) why.2 ∙ sym (append_assoc before done (why.0 ∷ why.1)), why.3, why.4)

-- bytes, and further bytes that could not be taken
pub failed_behind : {S F : Type 0} (law : Law S) (old mid new : S) (before between after : Session) (bytes further : List ℕ) (fault : RunFault F) →
    Took law old mid before between bytes → Failed law mid new between after (with_further between further) fault →
    Failed law old new before after (with_further before (bytes ++ further)) fault
failed_behind law old mid new before between after bytes further fault a b = record {
  done = a.done ++ b.done;
  text = a.text ++ b.text;
  last = b.last;
  mid = b.mid;
  runs = runs_append law old mid b.mid a.done b.done a.text b.text a.runs b.runs;
  out = b.out ∙ ap (λ front. front ++ (b.text ++ b.last)) a.out ∙ append_assoc (pending before) a.text (b.text ++ b.last)
      ∙ ap (λ text. pending before ++ text) (sym (append_assoc a.text b.text b.last));
  why = λ more.
      why_behind law b.mid new before.number between.number a.done b.done (with_further between further more)
      (with_further before (bytes ++ further) more) b.last fault a.number
      (ap (lines_from (begun before)) (append_assoc bytes further more) ∙ a.lines (further ++ more))
      (b.why more);
}

-- bytes that could not be taken, and any behind them
pub failed_front : {S F : Type 0} (law : Law S) (old new : S) (before after : Session) (bytes further : List ℕ) (fault : RunFault F) →
    Failed law old new before after (with_further before bytes) fault → Failed law old new before after (with_further before (bytes ++ further)) fault
failed_front law old new before after bytes further fault failed = record {
  done = failed.done;
  text = failed.text;
  last = failed.last;
  mid = failed.mid;
  runs = failed.runs;
  out = failed.out;
  why = λ more. subst (λ lines. Why law failed.mid new before.number failed.done lines failed.last fault)
      (ap (lines_from (begun before)) (sym (append_assoc bytes further more))) (failed.why (further ++ more));
}

-- the bytes before those that are left were taken
pub record TookFront {S : Type 0} (law : Law S) (old new : S) (before after : Session) (bytes rest : List ℕ) : Type 0 where
  pub front : List ℕ
  pub parts : bytes ≡ front ++ rest
  pub took : Took law old new before after front

pub front_none : {S : Type 0} (law : Law S) (broker : S) (session : Session) (bytes : List ℕ) → TookFront law broker broker session session bytes bytes
front_none law broker session bytes = record {
  front = [];
  parts = refl;
  took = took_none law broker session;
}

pub front_line : {S : Type 0} (law : Law S) (old mid new : S) (before between after : Session) (bytes rest part behind : List ℕ) →
    TookFront law old mid before between bytes rest → FeedBetween rest part behind → AnsweredLine law mid new (begun between ++ part) between after GoOn →
    TookFront law old new before after bytes behind
front_line law old mid new before between after bytes rest part behind so feed answered = record {
  front = so.front ++ (part ++ 10 ∷ []);
  parts = so.parts ∙ ap (λ rest. so.front ++ rest) feed.parts ∙ sym (append_assoc so.front (part ++ 10 ∷ []) behind);
  took = took_behind law old mid new before between after so.front (part ++ 10 ∷ []) so.took (took_line law mid new between after part feed.plain answered);
}

-- up to a line behind which whoever watches has a turn
pub front_paused : {S : Type 0} (law : Law S) (old mid new : S) (before between after : Session) (bytes rest part behind : List ℕ) (said : Flow) →
    TookFront law old mid before between bytes rest → FeedBetween rest part behind → AnsweredLine law mid new (begun between ++ part) between after said →
    (front : List ℕ) × (bytes ≡ front ++ behind) × Paused law old new before after front said
front_paused law old mid new before between after bytes rest part behind said so feed answered = (
  so.front ++ (part ++ 10 ∷ []),
  so.parts ∙ ap (λ rest. so.front ++ rest) feed.parts ∙ sym (append_assoc so.front (part ++ 10 ∷ []) behind),
  paused_behind law old mid new before between after so.front (part ++ 10 ∷ []) said so.took (paused_line law mid new between after part said feed.plain answered),
)

pub some_paused : {S : Type 0} (law : Law S) (old new : S) (before after : Session) (bytes rest : List ℕ) (said : Flow) → (said ≡ GoOn → ⊥) →
    (front : List ℕ) × (bytes ≡ front ++ rest) × Paused law old new before after front said → TookSome law old new before after bytes rest said
some_paused law old new before after bytes rest GoOn other paused = absurd (other refl)
some_paused law old new before after bytes rest Pause other paused = paused
some_paused law old new before after bytes rest End other paused = paused

pub front_failed : {S F : Type 0} (law : Law S) (old mid new : S) (before between after : Session) (bytes rest part behind : List ℕ) (fault : RunFault F) →
    TookFront law old mid before between bytes rest → FeedBetween rest part behind → Failed law mid new between after (with_further between (part ++ 10 ∷ [])) fault →
    Failed law old new before after (with_further before bytes) fault
front_failed law old mid new before between after bytes rest part behind fault so feed failed =
    subst (λ all. Failed law old new before after (with_further before all) fault) (sym (so.parts ∙ ap (λ rest. so.front ++ rest) feed.parts))
    (failed_behind law old mid new before between after so.front ((part ++ 10 ∷ []) ++ behind) fault so.took
    (failed_front law mid new between after (part ++ 10 ∷ []) behind fault failed))

-- the bytes that are left have no line feed
pub front_end : {S : Type 0} (law : Law S) (old new : S) (before between after : Session) (bytes rest : List ℕ) →
    TookFront law old new before between bytes rest → HasNoFeed rest → TookPart between after rest → Took law old new before after bytes
front_end law old new before between after bytes rest so plain took =
    subst (λ all. Took law old new before after all) (sym so.parts)
    (took_behind law old new new before between after so.front rest so.took (took_part law new between after rest plain took))

pub front_stop : {S : Type 0} (F : Type 0) (law : Law S) (old new : S) (before between after : Session) (bytes rest : List ℕ) (fault : ScriptFault) →
    TookFront law old new before between bytes rest → HasNoFeed rest → FailedPart between after rest fault →
    Failed {F = F} law old new before after (with_further before bytes) (Script fault)
front_stop F law old new before between after bytes rest fault so plain failed =
    subst (λ all. Failed {F = F} law old new before after (with_further before all) (Script fault)) (sym so.parts)
    (failed_behind law old new new before between after so.front rest (Script fault) so.took (failed_part F law new between after rest fault plain failed))
