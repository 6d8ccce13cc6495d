-- A journal is read as it was written, and written as it was read.
use Rattle.std.proofs.Common.{◌≡◌, ℕ, zero, suc, ◌+◌, ◌-◌, ◌*◌, ◌<◌, ◌≤◌, Bool, true, false, List, [], ◌∷◌, ◌++◌, length, refl, sym, ap, ◌∙◌, subst, arith, append_assoc}
use Rattle.std.specs.Bool.{⊤}
use Rattle.std.specs.Prelude.{◌==◌, ◌^◌, ◌≢◌, map, Option, Result, Ok, Err, if◌then◌else◌}
use Rattle.std.specs.Option.{unwrap_or}
use Rattle.std.proofs.lemmas.Bool.Decides.{nat_tests}
use Rattle.core_model.specs.declared.call.Call.TheVariants as call
use Rattle.core_model.specs.declared.event.Event.{Event}
use Rattle.core_model.specs.declared.event.Event.TheVariants as event
use Rattle.core_model.specs.declared.entry.Entry.{Entry}
use Rattle.packed_journal.specs.declared.unread.Unread.{Unread}
use Rattle.packed_journal.specs.declared.unread.Unread.TheVariants.{Ended, Wrong}
use Rattle.packed_journal.specs.declared.stepping.Step.{Step}
use Rattle.packed_journal.specs.declared.stepping.Step.TheVariants as step
use Rattle.packed_journal.specs.declared.stepping.Halt.TheVariants as halt
use Rattle.packed_journal.specs.Words.{Word}
use Rattle.packed_journal.specs.Readings.{Read, bytes_of, fit, words_of_list}
use Rattle.packed_journal.specs.Entries.{form_of_entry, kept_policy, read_entry, words_of_effect, words_of_entry, words_of_event, words_of_outcome}
use Rattle.packed_journal.specs.Journals.{Place, added, begins, between, body, digest_of, end_of, forms_of, is_full, is_last, onward, turn_of, with_form}
use Rattle.packed_journal.specs.JournalReadings.{Ending, Stepped, Told, all_fit, and_step, begins_with, rest_behind, behind_step, bytes_of_step, if_entry, if_there, kept, one_more, read_body, read_step, with_step, written}
use Rattle.packed_journal.proofs.NumberLaws.{apart_is, both_first, both_second, is_same, same_is}
use Rattle.packed_journal.proofs.Forms.{WrittenSo}
use Rattle.packed_journal.proofs.EntryForms.{entry_back, entry_tells, words_of_read}
use Rattle.packed_journal.proofs.Blocks.{body_end, body_more}

-- ---- bytes that must stand there

pub behind_back : (wanted rest : List ℕ) → rest_behind wanted (wanted ++ rest) ≡ Ok rest
unfolding rest_behind
behind_back [] rest = refl
behind_back (byte ∷ wanted) rest =
    let same : (byte == byte) ≡ true = same_is byte byte refl in
    rw same (behind_back wanted rest)

abbrev pub Stood : List ℕ → List ℕ → Result (List ℕ) Unread → Type 0
Stood wanted bytes (Err why) = ⊤
Stood wanted bytes (Ok rest) = bytes ≡ wanted ++ rest

pub behind_tells : (wanted bytes : List ℕ) → Stood wanted bytes (rest_behind wanted bytes)
unfolding rest_behind
behind_tells [] bytes = refl
behind_tells (byte ∷ wanted) [] = tt
behind_tells (byte ∷ wanted) (other ∷ bytes) = by_byte (behind_tells wanted bytes) (byte == other) refl
  where
    more : byte ≡ other → (read : Result (List ℕ) Unread) → Stood wanted bytes read → Stood (byte ∷ wanted) (other ∷ bytes) read
    more e (Err why) t = tt
    more e (Ok rest) t = ap (λ b. b ∷ bytes) (sym e) ∙ ap (λ all. byte ∷ all) t

    by_byte : Stood wanted bytes (rest_behind wanted bytes) → (same : Bool) → (byte == other) ≡ same → Stood (byte ∷ wanted) (other ∷ bytes) (if same then rest_behind wanted bytes else Err (Wrong (length (other ∷ bytes))))
    by_byte t true h = more (is_same byte other h) (rest_behind wanted bytes) t
    by_byte t false h = tt

-- what a walk byte by byte finds
pub stood : (wanted bytes : List ℕ) → length wanted ≡ 0 → Ok bytes ≡ rest_behind wanted bytes
unfolding rest_behind
stood [] bytes e = refl
stood (byte ∷ wanted) bytes e = absurd (omega (arith, e))

pub cut_within : (wanted bytes more : List ℕ) (byte : ℕ) → wanted ≡ byte ∷ more → length bytes ≡ 0 → Err Ended ≡ rest_behind wanted bytes
unfolding rest_behind
cut_within wanted [] more byte w e = sym (ap (λ all. rest_behind all []) w)
cut_within wanted (other ∷ bytes) more byte w e = absurd (omega (arith, e))

pub same_byte : (wanted bytes more rest : List ℕ) (byte other : ℕ) (read : Result (List ℕ) Unread) → wanted ≡ byte ∷ more → bytes ≡ other ∷ rest → byte ≡ other → read ≡ rest_behind more rest → read ≡ rest_behind wanted bytes
unfolding rest_behind
same_byte wanted bytes more rest byte other read w b e r =
    let same : (byte == other) ≡ true = same_is byte other e in
    rw (w, b, same) r

pub other_byte : (wanted bytes more rest : List ℕ) (byte other : ℕ) → wanted ≡ byte ∷ more → bytes ≡ other ∷ rest → byte ≢ other → Err (Wrong (length bytes)) ≡ rest_behind wanted bytes
unfolding rest_behind
other_byte wanted bytes more rest byte other w b e =
    let apart : (byte == other) ≡ false = apart_is byte other e in
    rw (w, b, apart) refl

-- ---- steps

-- no entry begins with a mark
event_unmarked : (happened : Event) (policy : List ℕ) (others : List Word) (rest : List ℕ) → begins_with 0 (bytes_of (words_of_event happened policy ++ others) ++ rest) ≡ false
event_unmarked (event.Open client agent size) policy others rest = refl
event_unmarked (event.Take queue packet bytes) policy others rest = refl
event_unmarked (event.Call (call.Grant client on rights)) policy others rest = refl
event_unmarked (event.Call (call.Revoke client on rights)) policy others rest = refl
event_unmarked (event.Call (call.Stop queue)) policy others rest = refl
event_unmarked (event.Call (call.Close queue)) policy others rest = refl
event_unmarked (event.Call (call.RunNext queue packet)) policy others rest = refl
event_unmarked (event.Call (call.Poll queue packet)) policy others rest = refl
event_unmarked (event.Call (call.Finish queue packet)) policy others rest = refl
event_unmarked (event.Call (call.HostWrite client address bytes)) policy others rest = refl
event_unmarked (event.Call (call.ChangeSignal client signal operation)) policy others rest = refl
event_unmarked (event.Reload rows) policy others rest = refl

pub entry_unmarked : (entry : Entry) (policy rest : List ℕ) → begins_with 0 (form_of_entry entry policy ++ rest) ≡ false
entry_unmarked entry policy rest = event_unmarked entry.event policy _ rest

plain_step : (place : Place) (bytes : List ℕ) → is_full place ≡ false → begins_with 0 bytes ≡ false → is_last place ≡ false → read_step place bytes ≡ if_entry (read_entry bytes)
plain_step place bytes full plain last = rw (full, plain, last) refl

-- what was written of a step is read so
pub entry_step : (place : Place) (entry : Entry) (policy rest : List ℕ) → is_full place ≡ false → is_last place ≡ false → fit (words_of_entry entry policy) ≡ true →
    read_step place (form_of_entry entry policy ++ rest) ≡ Ok (step.Entry entry (kept_policy entry.event policy), rest)
entry_step place entry policy rest full last fits_ =
    plain_step place (form_of_entry entry policy ++ rest) full (entry_unmarked entry policy rest) last ∙ ap if_entry (entry_back entry policy rest fits_)

pub block_step : (place : Place) (rest : List ℕ) → is_full place ≡ true → read_step place (turn_of place ++ rest) ≡ Ok (step.Block, rest)
block_step place rest full = rw full (ap (if_there step.Block) (behind_back (turn_of place) rest))

pub end_step : (place : Place) (rest : List ℕ) → is_full place ≡ false → read_step place (end_of place ++ rest) ≡ Ok (step.End, rest)
end_step place rest full = rw full (ap (if_there step.End) (behind_back (end_of place) rest))

-- what is read as a step was written so, and only a full block turns
abbrev May : Place → Step → Type 0
May place (step.Entry entry policy) = is_full place ≡ false
May place step.Block = is_full place ≡ true
May place step.End = is_full place ≡ false

abbrev pub StepTold : Place → List ℕ → Stepped → Type 0
StepTold place bytes (Err why) = ⊤
StepTold place bytes (Ok read) = (bytes ≡ bytes_of_step place read.0 ++ read.1) × May place read.0

there_tells : (place : Place) (bytes wanted : List ℕ) (one : Step) (read : Result (List ℕ) Unread) → bytes_of_step place one ≡ wanted → May place one → Stood wanted bytes read →
    StepTold place bytes (if_there one read)
there_tells place bytes wanted one (Ok rest) e m t = (t ∙ ap (λ front. front ++ rest) (sym e), m)
there_tells place bytes wanted one (Err Ended) e m t = tt
there_tells place bytes wanted one (Err (Wrong left)) e m t = tt

entry_step_tells : (place : Place) (bytes : List ℕ) (read : Read Told) → is_full place ≡ false → WrittenSo words_of_read bytes read → StepTold place bytes (if_entry read)
entry_step_tells place bytes (Ok read) full t = (t, full)
entry_step_tells place bytes (Err Ended) full t = tt
entry_step_tells place bytes (Err (Wrong left)) full t = tt

pub step_tells : (place : Place) (bytes : List ℕ) → StepTold place bytes (read_step place bytes)
step_tells place bytes = by_full (is_full place) refl
  where
    by_last : is_full place ≡ false → (last : Bool) → StepTold place bytes (if last then Err (halt.Entry (length bytes)) else if_entry (read_entry bytes))
    by_last full true = tt
    by_last full false = entry_step_tells place bytes (read_entry bytes) full (entry_tells bytes)

    by_mark : is_full place ≡ false → (marked : Bool) →
        StepTold place bytes (if marked then if_there step.End (rest_behind (end_of place) bytes) else if is_last place then Err (halt.Entry (length bytes)) else if_entry (read_entry bytes))
    by_mark full true = there_tells place bytes (end_of place) step.End (rest_behind (end_of place) bytes) refl full (behind_tells (end_of place) bytes)
    by_mark full false = by_last full (is_last place)

    by_full : (full : Bool) → is_full place ≡ full →
        StepTold place bytes (if full then if_there step.Block (rest_behind (turn_of place) bytes) else if begins_with 0 bytes then if_there step.End (rest_behind (end_of place) bytes)
        else if is_last place then Err (halt.Entry (length bytes)) else if_entry (read_entry bytes))
    by_full true full = there_tells place bytes (turn_of place) step.Block (rest_behind (turn_of place) bytes) refl full (behind_tells (turn_of place) bytes)
    by_full false full = by_mark full (begins_with 0 bytes)

pub step_told : (place : Place) (bytes : List ℕ) (one : Step) (rest : List ℕ) → read_step place bytes ≡ Ok (one, rest) → (bytes ≡ bytes_of_step place one ++ rest) × May place one
step_told place bytes one rest e = subst (StepTold place bytes) e (step_tells place bytes)

-- ---- the whole, as it was read

pub step_of_body : (more : ℕ) (place : Place) (bytes : List ℕ) →
    read_body (suc more) place bytes ≡ and_step (read_step place bytes) (λ one rest. with_step one rest (read_body more (behind_step place one) rest))
unfolding read_body
step_of_body more place bytes = refl

pub no_steps : (place : Place) (bytes : List ℕ) → read_body zero place bytes ≡ Err halt.Cut
unfolding read_body
no_steps place bytes = refl

-- the forms of entries that were read
abbrev pub forms_read : List Told → List (List ℕ)
forms_read entries = forms_of (map written entries)

abbrev BodyTold : Place → List ℕ → Ending → Type 0
BodyTold place bytes (Err why) = ⊤
BodyTold place bytes (Ok read) = bytes ≡ (between place ++ body (onward place) (forms_read read.0)) ++ read.1

pub body_tells : (more : ℕ) (place : Place) (bytes : List ℕ) → BodyTold place bytes (read_body more place bytes)
body_tells zero place bytes = rw (no_steps place bytes) tt
body_tells (suc more) place bytes = rw (step_of_body more place bytes) (by_step (λ p b. body_tells more p b) (read_step place bytes) (step_tells place bytes))
  where
    entry_more : (entry : Entry) (policy : Option (List ℕ)) (rest : List ℕ) (read : Ending) → is_full place ≡ false → bytes ≡ form_of_entry entry (unwrap_or policy []) ++ rest →
        BodyTold (with_form place (form_of_entry entry (unwrap_or policy []))) rest read → BodyTold place bytes (one_more (entry, policy) read)
    entry_more entry policy rest (Err why) full e t = tt
    entry_more entry policy rest (Ok read) full e t =
        let form : List ℕ = form_of_entry entry (unwrap_or policy []) in
        let behind_it : Place = with_form place form in
        e ∙ ap (λ all. form ++ all) t
        ∙ ap (λ all. form ++ all) (append_assoc (between behind_it) (body (onward behind_it) (forms_read read.0)) read.1)
        ∙ sym (append_assoc form (between behind_it) (body (onward behind_it) (forms_read read.0) ++ read.1))
        ∙ sym (append_assoc (added place form) (body (onward behind_it) (forms_read read.0)) read.1)
        ∙ ap (λ all. all ++ read.1) (sym (body_more place form (forms_read read.0)))
        ∙ rw full refl

    turn_more : (rest : List ℕ) (read : Ending) → is_full place ≡ true → bytes ≡ turn_of place ++ rest → BodyTold (begins (digest_of place) place.number) rest read → BodyTold place bytes read
    turn_more rest (Err why) full e t = tt
    turn_more rest (Ok read) full e t =
        e ∙ ap (λ all. turn_of place ++ all) t
        ∙ sym (append_assoc (turn_of place) (body (begins (digest_of place) place.number) (forms_read read.0)) read.1)
        ∙ rw full refl

    end_more : (rest : List ℕ) → is_full place ≡ false → bytes ≡ end_of place ++ rest → BodyTold place bytes (Ok ([], rest))
    end_more rest full e = e ∙ ap (λ all. all ++ rest) (sym (body_end place)) ∙ rw full refl

    of_step : ((p : Place) (b : List ℕ) → BodyTold p b (read_body more p b)) → (one : Step) (rest : List ℕ) → bytes ≡ bytes_of_step place one ++ rest → May place one →
        BodyTold place bytes (with_step one rest (read_body more (behind_step place one) rest))
    of_step go (step.Entry entry policy) rest e m =
        entry_more entry policy rest (read_body more (with_form place (form_of_entry entry (unwrap_or policy []))) rest) m e
        (go (with_form place (form_of_entry entry (unwrap_or policy []))) rest)
    of_step go step.Block rest e m = turn_more rest (read_body more (begins (digest_of place) place.number) rest) m e (go (begins (digest_of place) place.number) rest)
    of_step go step.End rest e m = end_more rest m e

    by_step : ((p : Place) (b : List ℕ) → BodyTold p b (read_body more p b)) → (read : Stepped) → StepTold place bytes read →
        BodyTold place bytes (and_step read (λ one rest. with_step one rest (read_body more (behind_step place one) rest)))
    by_step go (Err why) t = tt
    by_step go (Ok read) t = of_step go read.0 read.1 t.0 t.1

pub body_told : (more : ℕ) (place : Place) (bytes : List ℕ) (entries : List Told) (rest : List ℕ) → is_full place ≡ false → read_body more place bytes ≡ Ok (entries, rest) →
    bytes ≡ body place (forms_read entries) ++ rest
body_told more place bytes entries rest full e = subst (BodyTold place bytes) e (body_tells more place bytes) ∙ rw full refl

-- ---- the whole, as it was written

pub kept_form : (entry : Entry) (policy : List ℕ) → form_of_entry entry (unwrap_or (kept_policy entry.event policy) []) ≡ form_of_entry entry policy
kept_form entry policy = ap (λ words. bytes_of (words ++ (words_of_outcome entry.outcome ++ words_of_list words_of_effect entry.effects))) (of_event entry.event)
  where
    of_event : (happened : Event) → words_of_event happened (unwrap_or (kept_policy happened policy) []) ≡ words_of_event happened policy
    of_event (event.Open client agent size) = refl
    of_event (event.Take queue packet bytes) = refl
    of_event (event.Call made) = refl
    of_event (event.Reload rows) = refl

pub not_last : (number : ℕ) (place : Place) → place.number ≡ number → number < 2 ^ 64 - 2 → is_last place ≡ false
not_last number place e h = grind (arith, nat_tests)

-- one step, of bytes that are told so
pub one_step : (more : ℕ) (place : Place) (bytes as_told : List ℕ) (one : Step) (rest : List ℕ) → bytes ≡ as_told → read_step place as_told ≡ Ok (one, rest) →
    read_body (suc more) place bytes ≡ with_step one rest (read_body more (behind_step place one) rest)
one_step more place bytes as_told one rest e s =
    ap (read_body (suc more) place) e ∙ step_of_body more place as_told
    ∙ ap (λ read. and_step read (λ one rest. with_step one rest (read_body more (behind_step place one) rest))) s

-- what is read of these entries from any place, with steps enough
abbrev ReadsBack : List (Entry × List ℕ) → List ℕ → Type 0
ReadsBack entries rest =
    (place : Place) (more : ℕ) → is_full place ≡ false → place.number + length entries ≤ 2 ^ 64 - 2 → 2 * length entries < more →
    read_body more place (body place (forms_of entries) ++ rest) ≡ Ok (map kept entries, rest)

-- behind an entry: where its block is full, that block's end first
tail_back : (place : Place) (entries : List (Entry × List ℕ)) (rest : List ℕ) (more : ℕ) → ReadsBack entries rest → place.number + length entries ≤ 2 ^ 64 - 2 → 2 * length entries + 1 < more →
    read_body more place (between place ++ (body (onward place) (forms_of entries) ++ rest)) ≡ Ok (map kept entries, rest)
tail_back place entries rest zero go few enough = absurd (omega (arith, enough))
tail_back place entries rest (suc more) go few enough = by_full (is_full place) refl
  where
    turned : is_full place ≡ true →
        read_body (suc more) place (turn_of place ++ (body (begins (digest_of place) place.number) (forms_of entries) ++ rest)) ≡ Ok (map kept entries, rest)
    turned h =
        one_step more place (turn_of place ++ (body (begins (digest_of place) place.number) (forms_of entries) ++ rest))
        (turn_of place ++ (body (begins (digest_of place) place.number) (forms_of entries) ++ rest)) step.Block (body (begins (digest_of place) place.number) (forms_of entries) ++ rest)
        refl (block_step place (body (begins (digest_of place) place.number) (forms_of entries) ++ rest) h)
        ∙ go (begins (digest_of place) place.number) more refl few (omega (arith, enough))

    by_full : (full : Bool) → is_full place ≡ full → read_body (suc more) place (between place ++ (body (onward place) (forms_of entries) ++ rest)) ≡ Ok (map kept entries, rest)
    by_full true h = rw h (turned h)
    by_full false h = rw h (go place (suc more) h few (omega (arith, enough)))

-- an entry, and those behind it
entry_more_back : (place : Place) (entry : Entry) (policy : List ℕ) (entries : List (Entry × List ℕ)) (rest : List ℕ) (more : ℕ) → ReadsBack entries rest → is_full place ≡ false →
    fit (words_of_entry entry policy) ≡ true → place.number + suc (length entries) ≤ 2 ^ 64 - 2 → 2 * suc (length entries) < suc more →
    read_body (suc more) place (body place (form_of_entry entry policy ∷ forms_of entries) ++ rest) ≡ Ok ((entry, kept_policy entry.event policy) ∷ map kept entries, rest)
entry_more_back place entry policy entries rest more go full fits_ few enough =
    let form : List ℕ = form_of_entry entry policy in
    let next : Place = with_form place form in
    let others : List ℕ = between next ++ (body (onward next) (forms_of entries) ++ rest) in
    let as_told : body place (form ∷ forms_of entries) ++ rest ≡ form ++ others =
    ap (λ all. all ++ rest) (body_more place form (forms_of entries))
    ∙ append_assoc (added place form) (body (onward next) (forms_of entries)) rest
    ∙ append_assoc form (between next) (body (onward next) (forms_of entries) ++ rest) in
    one_step more place (body place (form ∷ forms_of entries) ++ rest) (form ++ others) (step.Entry entry (kept_policy entry.event policy)) others as_told
    (entry_step place entry policy others full (not_last place.number place refl (omega (arith, few))) fits_)
    ∙ ap (λ f. one_more (entry, kept_policy entry.event policy) (read_body more (with_form place f) others)) (kept_form entry policy)
    ∙ ap (one_more (entry, kept_policy entry.event policy)) (tail_back next entries rest more go (omega (arith, few)) (omega (arith, enough)))

pub body_back : (entries : List (Entry × List ℕ)) (rest : List ℕ) → all_fit entries ≡ true → ReadsBack entries rest
body_back [] rest fits_ place zero full few enough = absurd (omega (arith, enough))
body_back [] rest fits_ place (suc more) full few enough =
    one_step more place (body place [] ++ rest) (end_of place ++ rest) step.End rest (ap (λ all. all ++ rest) (body_end place)) (end_step place rest full)
body_back (told ∷ entries) rest fits_ place zero full few enough = absurd (omega (arith, enough))
body_back (told ∷ entries) rest fits_ place (suc more) full few enough =
    entry_more_back place told.0 told.1 entries rest more (body_back entries rest (both_second (fit (words_of_entry told.0 told.1)) (all_fit entries) fits_)) full
    (both_first (fit (words_of_entry told.0 told.1)) (all_fit entries) fits_) few enough
