-- What is drawn, as text of SVG (Scalable Vector Graphics 1.1; the measures are own).
use Rattle.std.specs.Prelude.{ℕ, ◌+◌, ◌-◌, ◌*◌, ◌/◌, ◌%◌, ◌==◌, ◌&&◌, ◌||◌, not, Bool, true, false, nat_le, nat_lt, List, [], ◌++◌, codes, decimal, length, Option, Some, None, slice_get, zero, suc, if◌then◌else◌}
use Rattle.std.specs.Option.{option_map_or}
use Rattle.policy.specs.Policy.{Declared}
use Rattle.core_model.specs.declared.entry.Effect.{Effect}
use Rattle.picture.specs.declared.element.Ending.{Ending}
use Rattle.picture.specs.declared.element.Ending.TheVariants as ending
use Rattle.picture.specs.declared.element.Sign.{Sign}
use Rattle.picture.specs.declared.element.Sign.TheVariants as sign
use Rattle.picture.specs.declared.element.Spot.{Spot}
use Rattle.picture.specs.declared.element.Element.{Element}
use Rattle.picture.specs.declared.element.Frame.{Frame}
use Rattle.picture.specs.declared.element.Lane.{Lane}
use Rattle.picture.specs.declared.places.TheConstants.{MARGIN, LEAD, EDGE, BANDS, AXIS, HOSTS, LANES, HEAD, ROW, GAP, BAR, DROP, TICK, MARK, THIN, LETTER}
use Rattle.picture.specs.declared.shapes.TheConstants.{BEFORE_RANGE, BEHIND_RANGE, NO_RANGE}
use Rattle.picture.specs.Escaping.{escaped}
use Rattle.picture.specs.Lanes.{place_of}
use Rattle.picture.specs.Words.{brief_of, told_of, words_of}

-- how many places of its band stand before an entry's
abbrev pub column_of : Frame → ℕ → ℕ
column_of frame at = (at - frame.skipped) % (frame.more + 1)

-- the band in which an entry stands, from 0 at the top: entries go on from band to band, as letters from line to line
abbrev pub band_of : Frame → ℕ → ℕ
band_of frame at = (at - frame.skipped) / (frame.more + 1)

-- how far to the right so many places are
abbrev pub left_of_column : Frame → ℕ → ℕ
left_of_column frame column = MARGIN + frame.step * column

-- how far to the right an entry's place is
abbrev pub left_of : Frame → ℕ → ℕ
left_of frame at = left_of_column frame (column_of frame at)

-- the lowest row of a queue's lane, by its place among these, from 0
abbrev pub depth_at : List Lane → ℕ → ℕ
depth_at lanes place = option_map_or (λ lane. lane.depth) (slice_get lanes place) 0

-- how high such a lane is: a head, and its rows
abbrev pub height_at : List Lane → ℕ → ℕ
height_at lanes place = HEAD + ROW * (depth_at lanes place + 1)

-- how high so many lanes are, each with the gap below it
unfoldable pub height_of_lanes : List Lane → ℕ → ℕ
height_of_lanes lanes zero = 0
height_of_lanes lanes (suc count) = height_of_lanes lanes count + (height_at lanes count + GAP)

-- how high the lane of a queue is
abbrev pub height_of_lane : Frame → ℕ → ℕ
height_of_lane frame lane = height_at frame.lanes (place_of frame.lanes lane)

-- where a lane of the first band begins; below that of the administrator and of clients stand those of queues
abbrev pub top_of_lane : Frame → ℕ → ℕ
top_of_lane frame lane = if lane == 0 then HOSTS else LANES + height_of_lanes frame.lanes (place_of frame.lanes lane)

-- where the lanes of the first band end
abbrev pub foot_of : Frame → ℕ
foot_of frame = LANES + height_of_lanes frame.lanes (length frame.lanes)

-- how far a band is below the first
abbrev pub shift_of : Frame → ℕ → ℕ
shift_of frame band = band * (foot_of frame - BANDS)

-- whether a lane is on the page
abbrev pub has_lane : Frame → ℕ → Bool
has_lane frame lane = lane == 0 || nat_lt (place_of frame.lanes lane) (length frame.lanes)

-- where a row of a lane of the first band begins
abbrev pub top_of_row : Frame → Spot → ℕ
top_of_row frame spot = top_of_lane frame spot.lane + HEAD + ROW * spot.row

-- how wide a mark is: half a step
abbrev pub width_of_mark : Frame → ℕ
width_of_mark frame = frame.step / 2

-- how wide a tick is
abbrev pub width_of_tick : Frame → ℕ
width_of_tick frame = if nat_lt (width_of_mark frame) THIN then width_of_mark frame else THIN

-- up to where an element reaches: a lane and a bar to their ends, any other nowhere
abbrev pub until_of : Element → Sign → ℕ
until_of e (sign.Lane queue client agent) = e.until
until_of e (sign.Bar packet work ending) = e.until
until_of e _ = e.spot.at

-- in how many bands it stands
abbrev pub pieces_of : Frame → Element → ℕ
pieces_of frame e = band_of frame (until_of e e.sign) - band_of frame e.spot.at + 1

-- whether its piece in a band, counted from its first on, is the last
abbrev pub is_last : Frame → Element → ℕ → Bool
is_last frame e piece = nat_le (band_of frame (until_of e e.sign)) (band_of frame e.spot.at + piece)

-- how many places of the band stand before a piece: the first begins at the element's place, any other with its band
abbrev pub first_of : Frame → Element → ℕ → ℕ
first_of frame e piece = if piece == 0 then column_of frame e.spot.at else 0

-- before which place a piece ends: the last at the element's end, any other with its band
abbrev pub last_of : Frame → Element → ℕ → ℕ
last_of frame e piece = if is_last frame e piece then column_of frame (until_of e e.sign) else frame.more

-- how far it reaches
abbrev pub length_of : Frame → Element → ℕ → ℕ
length_of frame e piece = frame.step * (last_of frame e piece - first_of frame e piece)

-- how wide the end of a bar's piece is: that of its last is a mark's
abbrev pub width_of_end : Frame → Element → ℕ → ℕ
width_of_end frame e piece = if is_last frame e piece then width_of_mark frame else frame.step

-- how wide a piece is
abbrev pub width_of : Frame → Element → ℕ → Sign → ℕ
width_of frame e piece (sign.Lane queue client agent) = length_of frame e piece + frame.step
width_of frame e piece (sign.Bar packet work ending) = length_of frame e piece + width_of_end frame e piece
width_of frame e piece (sign.Group packet group) = width_of_tick frame
width_of frame e piece (sign.Reload allows denies) = width_of_tick frame
width_of frame e piece sign.Stop = width_of_tick frame
width_of frame e piece sign.Close = width_of_tick frame
width_of frame e piece _ = width_of_mark frame

-- whether a sign goes over its lane, or over all lanes, behind the others
abbrev pub is_behind : Sign → Bool
is_behind (sign.Lane queue client agent) = true
is_behind (sign.Reload allows denies) = true
is_behind sign.Stop = true
is_behind sign.Close = true
is_behind _ = false

-- whether it is a tick, in the lower part of a bar
abbrev pub is_tick : Sign → Bool
is_tick (sign.Group packet group) = true
is_tick (sign.Look packet seen) = true
is_tick (sign.Completion packet) = true
is_tick (sign.Fault error) = true
is_tick (sign.Failure error) = true
is_tick _ = false

-- how far below the begin of its row a sign begins
abbrev pub drop_of : Sign → ℕ
drop_of s = if is_tick s then DROP else 0

-- where an element would begin in the first band
abbrev pub top_of : Frame → Element → ℕ
top_of frame e = if is_behind e.sign then top_of_lane frame e.spot.lane else top_of_row frame e.spot + drop_of e.sign

-- how high a sign in a lane is
abbrev pub height_of : Frame → ℕ → Sign → ℕ
height_of frame lane (sign.Lane queue client agent) = height_of_lane frame lane
height_of frame lane sign.Stop = height_of_lane frame lane
height_of frame lane sign.Close = height_of_lane frame lane
height_of frame lane (sign.Reload allows denies) = foot_of frame - (HOSTS + GAP)
height_of frame lane (sign.Bar packet work ending) = BAR
height_of frame lane (sign.Group packet group) = TICK
height_of frame lane (sign.Look packet seen) = TICK
height_of frame lane (sign.Completion packet) = TICK
height_of frame lane (sign.Fault error) = TICK
height_of frame lane (sign.Failure error) = TICK
height_of frame lane _ = MARK

-- how a bar's packet ended
abbrev pub class_of_ending : Ending → List ℕ
class_of_ending ending.Finished = codes "bar finished"
class_of_ending ending.Faulted = codes "bar faulted"
class_of_ending ending.Failed = codes "bar failed"
class_of_ending ending.Stopped = codes "bar stopped"
class_of_ending ending.Open = codes "bar open"

-- the class of a sign, which the page's style has a colour for
abbrev pub class_of : Sign → List ℕ
class_of (sign.Grant client object rights) = codes "grant"
class_of (sign.Revocation client object rights) = codes "revocation"
class_of (sign.Lane queue client agent) = codes "lane"
class_of sign.Stop = codes "stop"
class_of sign.Close = codes "close"
class_of (sign.Bar packet work end) = class_of_ending end
class_of (sign.Denial error) = codes "denial"
class_of (sign.Group packet group) = codes "group"
class_of (sign.Fault error) = codes "fault"
class_of (sign.Failure error) = codes "failure"
class_of (sign.Look packet seen) = codes "look"
class_of (sign.Completion packet) = codes "completion"
class_of (sign.Write client) = codes "write"
class_of (sign.Change client) = codes "change"
class_of (sign.Reload allows denies) = codes "reload"
class_of sign.Nothing = codes "nothing"

-- whether so many letters fit in a piece
abbrev pub is_room : Frame → Element → ℕ → ℕ → Bool
is_room frame e piece letters = not (nat_lt (width_of frame e piece e.sign) (LETTER * letters + THIN + THIN))

-- what stands in a bar's piece: all that is said of it, or its packet's id, or nothing, as there is room
abbrev pub label_of_bar : Frame → Element → ℕ → List ℕ → List ℕ → List ℕ
label_of_bar frame e piece words brief =
    if is_room frame e piece (length words) then words
    else if is_room frame e piece (length brief) then brief
    else []

-- what stands on the page of what is said of an element: of others than these it comes up under the pointer
abbrev pub label_of : Frame → Element → ℕ → List ℕ → List ℕ → Sign → List ℕ
label_of frame e piece words brief (sign.Bar packet work ending) = label_of_bar frame e piece words brief
label_of frame e piece words brief (sign.Lane queue client agent) = words
label_of frame e piece words brief (sign.Denial error) = words
label_of frame e piece words brief (sign.Fault error) = words
label_of frame e piece words brief (sign.Failure error) = words
label_of frame e piece words brief (sign.Reload allows denies) = codes "reload"
label_of frame e piece words brief _ = []

-- where its words begin: on the page's left edge those of a lane, behind its mark those of a denial, a fault or a failure, inside of it others
abbrev pub left_of_words : Frame → Element → ℕ → Sign → ℕ
left_of_words frame e piece (sign.Lane queue client agent) = EDGE
left_of_words frame e piece (sign.Denial error) = left_of frame e.spot.at + width_of_mark frame + THIN
left_of_words frame e piece (sign.Fault error) = left_of frame e.spot.at + width_of_mark frame + THIN
left_of_words frame e piece (sign.Failure error) = left_of frame e.spot.at + width_of_mark frame + THIN
left_of_words frame e piece (sign.Reload allows denies) = left_of frame e.spot.at + width_of_tick frame + 1
left_of_words frame e piece _ = left_of_column frame (first_of frame e piece) + THIN

-- on which line they would stand in the first band
abbrev pub line_of_words : Frame → Element → ℕ
line_of_words frame e = if is_behind e.sign then top_of_lane frame e.spot.lane + MARK else top_of_row frame e.spot + DROP - THIN

-- four numbers of a rectangle
abbrev pub text_of_rectangle : ℕ → ℕ → ℕ → ℕ → List ℕ
text_of_rectangle x y width height =
    codes "<rect x=\"" ++ decimal x ++ codes "\" y=\"" ++ decimal y ++ codes "\" width=\"" ++ decimal width
    ++ codes "\" height=\"" ++ decimal height ++ codes "\"/>"

-- words at a place
abbrev pub text_of_words : ℕ → ℕ → List ℕ → List ℕ
text_of_words x y words = codes "<text x=\"" ++ decimal x ++ codes "\" y=\"" ++ decimal y ++ codes "\">" ++ escaped words ++ codes "</text>"

-- words at a place, if there are some
abbrev pub text_of_some_words : ℕ → ℕ → List ℕ → List ℕ
text_of_some_words x y words = if length words == 0 then [] else text_of_words x y words

-- how far a piece of an element is below the first band
abbrev pub shift_of_piece : Frame → Element → ℕ → ℕ
shift_of_piece frame e piece = shift_of frame (band_of frame e.spot.at + piece)

-- the words of a piece, where they stand on the page
unfoldable pub text_of_label : Frame → Element → List ℕ → List ℕ → ℕ → List ℕ
text_of_label frame e words brief piece =
    text_of_some_words (left_of_words frame e piece e.sign) (shift_of_piece frame e piece + line_of_words frame e)
    (label_of frame e piece words brief e.sign)

-- the rectangle of a piece
unfoldable pub text_of_outline : Frame → Element → ℕ → List ℕ
text_of_outline frame e piece =
    text_of_rectangle (left_of_column frame (first_of frame e piece)) (shift_of_piece frame e piece + top_of frame e)
    (width_of frame e piece e.sign) (height_of frame e.spot.lane e.sign)

-- a piece, with its words
unfoldable pub text_of_piece : Frame → Element → List ℕ → List ℕ → ℕ → List ℕ
text_of_piece frame e words brief piece = text_of_outline frame e piece ++ text_of_label frame e words brief piece

-- the first pieces, so many of them
unfoldable pub text_of_pieces : Frame → Element → List ℕ → List ℕ → ℕ → List ℕ
text_of_pieces frame e words brief zero = []
text_of_pieces frame e words brief (suc count) = text_of_pieces frame e words brief count ++ text_of_piece frame e words brief count

-- the number of the entry at a place, in the whole history
abbrev pub number_of : Frame → ℕ → ℕ
number_of frame at = frame.before + at

-- an entry's number; the place 0 is what the audit begins from
abbrev pub text_of_place : Frame → ℕ → List ℕ
text_of_place frame at = if at == 0 then codes "start" else decimal (number_of frame at)

-- an element's begin: its class, its entry's number, and what is said under the pointer, escaped
unfoldable pub text_of_opening : Frame → Element → List ℕ → List ℕ
text_of_opening frame e told =
    codes "<g class=\"" ++ class_of e.sign ++ codes "\"><title>" ++ text_of_place frame e.spot.at ++ codes " " ++ escaped told ++ codes "</title>"

-- an element with what is said under the pointer, and its piece in each band
unfoldable pub text_with : Frame → Element → List ℕ → List ℕ → List ℕ → List ℕ
text_with frame e told words brief =
    text_of_opening frame e told ++ text_of_pieces frame e words brief (pieces_of frame e) ++ codes "</g>\n"

-- whether a sign is in the layer that is drawn
abbrev pub is_in_layer : Frame → Sign → Bool
is_in_layer frame s = if frame.is_behind then is_behind s else not (is_behind s)

-- whether an element is drawn: it is in the layer, and isn't skipped whole
abbrev pub is_shown : Frame → Element → Bool
is_shown frame e = is_in_layer frame e.sign && (frame.skipped == 0 || nat_lt frame.skipped e.until)

-- an element whose entry made these changes, where it is drawn
abbrev pub text_of_element : Frame → Declared → Element → List Effect → List ℕ
text_of_element frame policy e effects =
    if is_shown frame e then text_with frame e (told_of policy e effects) (words_of policy e.sign) (brief_of e.sign) else []

-- on which line an arrow's end is
abbrev pub line_of : Frame → Spot → ℕ
line_of frame spot = shift_of frame (band_of frame spot.at) + top_of_row frame spot + DROP

-- whether an arrow stays in a band
abbrev pub is_one_band : Frame → Spot → Spot → Bool
is_one_band frame from to = band_of frame from.at == band_of frame to.at

-- where an arrow begins: behind the mark of the entry from which it comes, and where that is in another band at the left of its own
abbrev pub left_of_arrow : Frame → Spot → Spot → ℕ
left_of_arrow frame from to = if is_one_band frame from to then left_of frame from.at + width_of_mark frame else LEAD

-- on which line it begins
abbrev pub line_of_arrow : Frame → Spot → Spot → ℕ
line_of_arrow frame from to = if is_one_band frame from to then line_of frame from else line_of frame to

-- an arrow's line
unfoldable pub text_of_stroke : Frame → Spot → Spot → List ℕ
text_of_stroke frame from to =
    codes "<line x1=\"" ++ decimal (left_of_arrow frame from to) ++ codes "\" y1=\"" ++ decimal (line_of_arrow frame from to)
    ++ codes "\" x2=\"" ++ decimal (left_of frame to.at) ++ codes "\" y2=\"" ++ decimal (line_of frame to) ++ codes "\">"

-- an arrow from one place to another, and under the pointer whence and where
unfoldable pub text_of_line : Frame → Spot → Spot → List ℕ
text_of_line frame from to =
    text_of_stroke frame from to ++ codes "<title>" ++ text_of_place frame to.at ++ codes " saw the 0 of " ++ text_of_place frame from.at
    ++ codes "</title></line>\n"

-- the same, if there is one and it begins in a lane of the page
abbrev pub text_of_arrow : Frame → Option Spot → Spot → List ℕ
text_of_arrow frame None to = []
text_of_arrow frame (Some from) to = if has_lane frame from.lane then text_of_line frame from to else []

-- whether an entry has its number on the axis
abbrev pub is_numbered : Frame → ℕ → Bool
is_numbered frame at = frame.is_behind && nat_lt frame.skipped at && number_of frame at % (frame.bare + 1) == 0

-- an entry's number, on the axis of its band
abbrev pub text_of_number : Frame → ℕ → List ℕ
text_of_number frame at =
    if is_numbered frame at then
    codes "<text class=\"number\" x=\"" ++ decimal (left_of frame at) ++ codes "\" y=\"" ++ decimal (shift_of frame (band_of frame at) + AXIS) ++ codes "\">"
    ++ decimal (frame.before + at) ++ codes "</text>\n"
    else []

-- what stands at the left of a band
unfoldable pub text_of_band : Frame → ℕ → List ℕ
text_of_band frame band =
    text_of_words EDGE (shift_of frame band + AXIS) (codes "entry")
    ++ text_of_words EDGE (shift_of frame band + (HOSTS + HEAD + DROP - THIN)) (codes "administrator, clients") ++ codes "\n"

-- the same of so many bands
unfoldable pub text_of_bands : Frame → ℕ → List ℕ
text_of_bands frame zero = []
text_of_bands frame (suc count) = text_of_bands frame count ++ text_of_band frame count

-- the same of all bands of so many entries
abbrev pub text_of_all_bands : Frame → ℕ → List ℕ
text_of_all_bands frame count = text_of_bands frame (band_of frame count + 1)

-- what stands before the numbers of the entries that are drawn, and behind them
unfoldable pub text_before_range : List ℕ
text_before_range = BEFORE_RANGE.now

unfoldable pub text_behind_range : List ℕ
text_behind_range = BEHIND_RANGE.now

-- two numbers
abbrev pub text_of_numbers : ℕ → ℕ → List ℕ
text_of_numbers first last = decimal first ++ codes " to " ++ decimal last

-- that the entries from one number to another are drawn
unfoldable pub text_of_range : ℕ → ℕ → List ℕ
text_of_range first last = text_before_range ++ text_of_numbers first last ++ text_behind_range

-- that none is drawn
unfoldable pub text_of_no_range : List ℕ
text_of_no_range = NO_RANGE.now

-- which of so many entries are drawn
abbrev pub text_of_shown : Frame → ℕ → List ℕ
text_of_shown frame count =
    if nat_lt frame.skipped count then text_of_range (number_of frame (frame.skipped + 1)) (number_of frame count)
    else text_of_no_range
