-- How often something may come (own): at most so many times in a window of time.
use Rattle.std.specs.Prelude.{ℕ, suc, ◌-◌, ◌^◌, nat_lt, nat_le, Bool, if◌then◌else◌}
use Rattle.session.specs.declared.pace.Pace.{Pace}

-- a window is open for its length from its begin on (and where the clock went back)
abbrev pub is_open : ℕ → ℕ → Pace → Bool
is_open length now pace = nat_lt (now - pace.begun) length

-- one more, as far as 64 bits count
abbrev pub one_more : ℕ → ℕ
one_more count = if nat_lt (suc count) (2 ^ 64) then suc count else count

-- what comes is one more of an open window; else a window begins with it
abbrev pub pace_after : ℕ → ℕ → Pace → Pace
pace_after length now pace = if is_open length now pace then record { begun = pace.begun; count = one_more pace.count } else record { begun = now; count = 1 }

-- no more came in the window than may
abbrev pub keeps_pace : ℕ → Pace → Bool
keeps_pace most pace = nat_le pace.count most
