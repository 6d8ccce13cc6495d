-- How often the requests of a drain came to what (own).
use Rattle.std.specs.Prelude.{ℕ, ◌+◌, ◌-◌, ◌^◌, nat_lt, List, [], ◌∷◌, ◌++◌, codes, decimal, if◌then◌else◌}
use Rattle.core_model.specs.declared.outcome.Outcome.{Outcome}
use Rattle.core_model.specs.declared.outcome.Outcome.TheVariants as outcome
use Rattle.core_model.specs.declared.outcome.Polled.{Polled}
use Rattle.core_model.specs.declared.outcome.Polled.TheVariants as polled
use Rattle.core_model.specs.declared.outcome.Taken.{Taken}
use Rattle.core_model.specs.declared.outcome.Taken.TheVariants as taken
use Rattle.core_model.specs.declared.outcome.Worked.{Worked}
use Rattle.core_model.specs.declared.outcome.Worked.TheVariants as worked
use Rattle.readable.specs.declared.moves.Came.{Came}
use Rattle.readable.specs.declared.moves.Came.TheVariants as came
use Rattle.readable.specs.declared.tally.Tally.{Tally}
use Rattle.readable.specs.Moves.{Made, came_of}

-- a count of 64 bits and one more, up to the greatest
abbrev pub one_more : ℕ → ℕ
one_more count = if nat_lt count 18446744073709551615 then count + 1 else count

-- nothing was asked yet
abbrev pub none_yet : Tally
none_yet = record { launched = 0; denied = 0; ran = 0; faulted = 0; ready = 0; failed = 0; finished = 0 }

-- with what became of a packet that was handed over
abbrev pub with_taken : Tally → Taken → Tally
with_taken t taken.Launched = record { launched = one_more t.launched; denied = t.denied; ran = t.ran; faulted = t.faulted; ready = t.ready; failed = t.failed; finished = t.finished }
with_taken t (taken.Denied error) = record { launched = t.launched; denied = one_more t.denied; ran = t.ran; faulted = t.faulted; ready = t.ready; failed = t.failed; finished = t.finished }
with_taken t (taken.Waiting cause) = t

-- with what became of a group
abbrev pub with_worked : Tally → Worked → Tally
with_worked t (worked.Ran group left) = record { launched = t.launched; denied = t.denied; ran = one_more t.ran; faulted = t.faulted; ready = t.ready; failed = t.failed; finished = t.finished }
with_worked t (worked.Faulted error) = record { launched = t.launched; denied = t.denied; ran = t.ran; faulted = one_more t.faulted; ready = t.ready; failed = t.failed; finished = t.finished }
with_worked t worked.Done = t

-- with what a poll found
abbrev pub with_polled : Tally → Polled → Tally
with_polled t (polled.Pending seen) = t
with_polled t (polled.Ready seen) = record { launched = t.launched; denied = t.denied; ran = t.ran; faulted = t.faulted; ready = one_more t.ready; failed = t.failed; finished = t.finished }
with_polled t (polled.Failed error) = record { launched = t.launched; denied = t.denied; ran = t.ran; faulted = t.faulted; ready = t.ready; failed = one_more t.failed; finished = t.finished }

-- with what an event came to: of a drain's requests a finish alone is accepted
abbrev pub with_outcome : Tally → Outcome → Tally
with_outcome t outcome.Accepted = record { launched = t.launched; denied = t.denied; ran = t.ran; faulted = t.faulted; ready = t.ready; failed = t.failed; finished = one_more t.finished }
with_outcome t (outcome.Worked worked) = with_worked t worked
with_outcome t (outcome.Polled polled) = with_polled t polled
with_outcome t _ = t

-- with what a request came to
abbrev pub with_came : Tally → Came → Tally
with_came t (came.Taken packet taken) = with_taken t taken
with_came t (came.Outcome outcome) = with_outcome t outcome
with_came t came.Nothing = t
with_came t (came.Refused why) = t

-- with what requests in turn came to
unfoldable pub tallied : Tally → List Made → Tally
tallied t [] = t
tallied t (made ∷ later) = tallied (with_came t (came_of made.told)) later

-- ---- how the counts are told

-- what became of packets, of groups, of barrier packets, and how many were finished
abbrev pub text_of_taken : Tally → List ℕ
text_of_taken t = codes " launched " ++ decimal t.launched ++ codes " denied " ++ decimal t.denied

abbrev pub text_of_worked : Tally → List ℕ
text_of_worked t = codes " ran " ++ decimal t.ran ++ codes " faulted " ++ decimal t.faulted

abbrev pub text_of_polled : Tally → List ℕ
text_of_polled t = codes " ready " ++ decimal t.ready ++ codes " failed " ++ decimal t.failed ++ codes " finished " ++ decimal t.finished

unfoldable pub text_of_tally : Tally → List ℕ
text_of_tally t = codes "drained" ++ text_of_taken t ++ text_of_worked t ++ text_of_polled t
