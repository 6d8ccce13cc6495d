-- What a page is drawn by (own): which entries, how far from each other, and how many lanes and rows they need.
use Rattle.std.specs.Prelude.{ℕ, ◌+◌, ◌-◌, ◌*◌, ◌/◌, true, false, nat_lt, List, [], length, take, if◌then◌else◌}
use Rattle.core_model.specs.declared.entry.Entry.{Entry}
use Rattle.core_model.specs.declared.origin.Origin.{Origin}
use Rattle.picture.specs.declared.element.Span.{Span}
use Rattle.picture.specs.declared.element.Frame.{Frame}
use Rattle.picture.specs.declared.frame.TheConstants.{MOST_DRAWN, ROOM, WIDEST, NARROWEST, BEHIND, THREE, SIX, ALL}
use Rattle.picture.specs.Lanes.{lanes_from, lanes_in, lanes_of}
use Rattle.picture.specs.Reading.{greater}
use Rattle.picture.specs.Seats.{seats_of}

-- the lesser of two numbers
abbrev pub lesser : ℕ → ℕ → ℕ
lesser a b = if nat_lt a b then a else b

-- the entries up to the last that is asked for, behind so many
abbrev pub asked_of : ℕ → Span → List Entry → List Entry
asked_of before span entries = take (span.last - before) entries

-- how many of so many entries aren't drawn: those before the first that is asked for, and those before the last 20,000; the last is drawn
abbrev pub skipped_of : ℕ → ℕ → Span → ℕ
skipped_of before count span = lesser (count - 1) (greater (span.first - 1 - before) (count - MOST_DRAWN))

-- how far so many entries are from each other: so that they fill the room, between two bounds
abbrev pub step_of : ℕ → ℕ
step_of count = lesser WIDEST (greater NARROWEST (ROOM / (count + 1)))

-- how many places of a band stand behind its first, where entries are so far from each other: as many as there is room for
abbrev pub more_of : ℕ → ℕ
more_of step = lesser BEHIND (ROOM / step - 1)

-- how much room a number on the axis wants, by how many digits it has
abbrev pub room_of_number : ℕ → ℕ
room_of_number number = if nat_lt number 1000 then THREE else if nat_lt number 1000000 then SIX else ALL

-- of how many entries between two numbers none has its own, by how far they are from each other and by the room that a number wants
abbrev pub bare_for : ℕ → ℕ → ℕ
bare_for step room =
    if nat_lt room step then 0
    else if nat_lt room (step * 5) then 4
    else if nat_lt room (step * 10) then 9
    else 19

-- what the layer behind is drawn by, of these entries
abbrev pub frame_of : Origin → List Entry → Span → Frame
frame_of origin entries span = record {
  is_behind = true;
  before = origin.before;
  skipped = skipped_of origin.before (length entries) span;
  lanes = lanes_in (skipped_of origin.before (length entries) span) 0
      (lanes_of (lanes_from origin.queues) (seats_of [] origin.packets)) (seats_of [] origin.packets) entries;
  step = step_of (length entries - skipped_of origin.before (length entries) span);
  more = more_of (step_of (length entries - skipped_of origin.before (length entries) span));
  bare = bare_for
      (step_of (length entries - skipped_of origin.before (length entries) span)) (room_of_number (origin.before + length entries));
}

-- what the layer before it is drawn by
abbrev pub front_of : Frame → Frame
front_of frame = record frame { is_behind = false }
