-- The file that says who is who, and what each may have: a line `user NUMBER CLIENT`, `token DIGEST CLIENT` or `limit NAME NUMBER` (own).
-- A line without a word, or whose first begins with `#`, says nothing. Lines and columns count from 1, columns in bytes.
use Rattle.std.specs.List.{list_any}
use Rattle.std.specs.Prelude.{◌≡◌, flat_map, ℕ, suc, ◌^◌, ◌==◌, nat_lt, Bool, true, false, ◌&&◌, not, List, [], ◌∷◌, ◌++◌, Option, Some, None, Result, Ok, Err, if◌then◌else◌, bytes_eq, codes, decimal}
use Rattle.session.specs.declared.limits.Limit.{Limit}
use Rattle.session.specs.declared.limits.Limit.TheVariants as limit
use Rattle.session.specs.declared.limits.Limits.{Limits}
use Rattle.session.specs.declared.lines.Word.{Word}
use Rattle.session.specs.declared.lines.Digest.{Digest}
use Rattle.session.specs.declared.who.Place.{Place}
use Rattle.session.specs.declared.who.Kind.{Kind}
use Rattle.session.specs.declared.who.Kind.TheVariants as kind
use Rattle.session.specs.declared.who.Entry.{Entry}
use Rattle.session.specs.declared.who.Entry.TheVariants as entry
use Rattle.session.specs.declared.who.Cause.{Cause}
use Rattle.session.specs.declared.who.Cause.TheVariants as cause
use Rattle.session.specs.declared.who.Fault.{Fault}
use Rattle.session.specs.declared.who.Unread.{Unread}
use Rattle.session.specs.declared.who.Unread.TheVariants as unread
use Rattle.session.specs.Limits.{name_of, with_limit, is_within, limit_of, usual}
use Rattle.session.specs.Lines.{lines, word_from, word_behind, bytes_of_word, decimal_of, digest_of}

-- where a word of a line stands
abbrev pub place_of : ℕ → Word → Place
place_of number word = record { line = number; column = suc word.start; length = word.length }

abbrev pub fault : ℕ → Word → Cause → Fault
fault number word cause = record { place = place_of number word; cause = cause }

-- which kind of line it is, by its first word
abbrev pub kind_of : List ℕ → Option Kind
kind_of word =
    if bytes_eq word (codes "user") then Some kind.User
    else if bytes_eq word (codes "token") then Some kind.Token
    else if bytes_eq word (codes "limit") then Some kind.Limit
    else None

-- the limit of a name
unfoldable pub limit_among : List Limit → List ℕ → Option Limit
limit_among [] word = None
limit_among (first ∷ further) word = if bytes_eq word (name_of first) then Some first else limit_among further word

abbrev pub all_limits : List Limit
all_limits =
    limit.Queues ∷ limit.Mirrors ∷ limit.Sessions ∷ limit.Connects ∷ limit.ConnectTime ∷ limit.Messages ∷ limit.MessageTime ∷ limit.Answers
    ∷ limit.GreetingTime ∷ limit.AuditPlaces ∷ limit.MuteTime ∷ limit.MostMuteTime ∷ []

-- a user of the machine, by a number of 32 bits, and its client
abbrev pub user_by : ℕ → Word → Word → Option ℕ → Result Entry Fault
user_by number key name None = Err (fault number key cause.NoNumber)
user_by number key name (Some user) = if nat_lt user (2 ^ 32) then Ok (entry.User user (place_of number name)) else Err (fault number key cause.NoNumber)

-- a token's digest, and its client
abbrev pub token_by : ℕ → Word → Word → Option Digest → Result Entry Fault
token_by number key name None = Err (fault number key cause.NoDigest)
token_by number key name (Some digest) = Ok (entry.Token digest (place_of number name))

-- a limit, and a number within its bounds
abbrev pub bound_by : ℕ → Word → Limit → Option ℕ → Result Entry Fault
bound_by number value of None = Err (fault number value cause.NoNumber)
bound_by number value of (Some n) = if is_within of n then Ok (entry.Limit of n) else Err (fault number value (cause.OutOfBounds of))

abbrev pub limit_by : ℕ → List ℕ → Word → Word → Option Limit → Result Entry Fault
limit_by number line key value None = Err (fault number key cause.UnknownLimit)
limit_by number line key value (Some of) = bound_by number value of (decimal_of (bytes_of_word line value))

abbrev pub entry_of : ℕ → List ℕ → Kind → Word → Word → Result Entry Fault
entry_of number line kind.User key name = user_by number key name (decimal_of (bytes_of_word line key))
entry_of number line kind.Token key name = token_by number key name (digest_of (bytes_of_word line key))
entry_of number line kind.Limit key value = limit_by number line key value (limit_among all_limits (bytes_of_word line key))

-- a line of a kind has three words
abbrev pub three_words : ℕ → List ℕ → Kind → Word → Word → Word → Result Entry Fault
three_words number line of second third fourth =
    if third.length == 0 then Err (fault number third cause.Missing)
    else if fourth.length == 0 then entry_of number line of second third
    else Err (fault number fourth cause.TooMuch)

-- two entries of one user, of one token, or of one limit
abbrev pub same_digest : Digest → Digest → Bool
same_digest a b = a.first == b.first && a.second == b.second && a.third == b.third && a.fourth == b.fourth

abbrev pub is_same : Entry → Entry → Bool
is_same (entry.User a p) (entry.User b q) = a == b
is_same (entry.User a p) (entry.Token b q) = false
is_same (entry.User a p) (entry.Limit b q) = false
is_same (entry.Token a p) (entry.User b q) = false
is_same (entry.Token a p) (entry.Token b q) = same_digest a b
is_same (entry.Token a p) (entry.Limit b q) = false
is_same (entry.Limit a p) (entry.User b q) = false
is_same (entry.Limit a p) (entry.Token b q) = false
is_same (entry.Limit a p) (entry.Limit b q) = bytes_eq (name_of a) (name_of b)

abbrev pub is_among : List Entry → Entry → Bool
is_among entries more = list_any (λ entry. is_same entry more) entries

abbrev pub list_of : Option Entry → List Entry
list_of None = []
list_of (Some more) = more ∷ []

-- what is said once more is no entry
abbrev pub said_once : List Entry → ℕ → Word → Result Entry Fault → Result (Option Entry) Fault
said_once entries number key (Err wrong) = Err wrong
said_once entries number key (Ok more) = if is_among entries more then Err (fault number key cause.Twice) else Ok (Some more)

abbrev pub said_by : List Entry → ℕ → List ℕ → Word → Option Kind → Result (Option Entry) Fault
said_by entries number line first None = Err (fault number first cause.UnknownWord)
said_by entries number line first (Some of) =
    let second = word_behind line first in
    let third = word_behind line second in
    said_once entries number second (three_words number line of second third (word_behind line third))

abbrev pub says_nothing : List ℕ → Bool
says_nothing [] = true
says_nothing (byte ∷ bytes) = byte == 35

-- what a line says, behind the entries of those before it
abbrev pub said : List Entry → ℕ → List ℕ → Result (Option Entry) Fault
said entries number line =
    let first = word_from line 0 in
    if says_nothing (bytes_of_word line first) then Ok None else said_by entries number line first (kind_of (bytes_of_word line first))

-- the entries with what a line says
abbrev pub with_said : List Entry → Result (Option Entry) Fault → Result (List Entry) Fault
with_said entries (Err wrong) = Err wrong
with_said entries (Ok more) = Ok (entries ++ list_of more)

-- the entries of lines, or the first fault
unfoldable pub with_lines : List Entry → ℕ → List (List ℕ) → Result (List Entry) Fault
with_lines entries number [] = Ok entries
with_lines entries number (line ∷ further) =
    elim (with_said entries (said entries number line)) [ Err wrong ↦ Err wrong | Ok entries ↦ with_lines entries (suc number) further ]

abbrev pub entries_of : List ℕ → Result (List Entry) Fault
entries_of text = with_lines [] 1 (lines text)

-- a file wasn't read for its first fault, or for want of memory
abbrev pub IsTold : Unread → Result (List Entry) Fault → Type 0
IsTold (unread.Fault wrong) read = read ≡ Err wrong
IsTold unread.NoMemory read = Unit {0}

-- where the client stands that an entry names for a user, or for who has the token of a digest
abbrev pub for_user : ℕ → Entry → Option Place
for_user user (entry.User a place) = if a == user then Some place else None
for_user user (entry.Token a place) = None
for_user user (entry.Limit a n) = None

abbrev pub for_token : Digest → Entry → Option Place
for_token digest (entry.User a place) = None
for_token digest (entry.Token a place) = if same_digest a digest then Some place else None
for_token digest (entry.Limit a n) = None

-- the first place that entries have
unfoldable pub first_of : (Entry → Option Place) → List Entry → Option Place
first_of has [] = None
first_of has (entry ∷ entries) = elim (has entry) [ None ↦ first_of has entries | Some place ↦ Some place ]

-- limits as entries say them
abbrev pub with_entry : Limits → Entry → Limits
with_entry limits (entry.User a place) = limits
with_entry limits (entry.Token a place) = limits
with_entry limits (entry.Limit of n) = with_limit limits of n

unfoldable pub limits_from : Limits → List Entry → Limits
limits_from limits [] = limits
limits_from limits (entry ∷ entries) = limits_from (with_entry limits entry) entries

-- limits as a text that says them
abbrev pub text_of_limit : Limits → Limit → List ℕ
text_of_limit limits of = codes "limit " ++ name_of of ++ codes " " ++ decimal (limit_of limits of) ++ codes "\n"

abbrev pub text_of_limits : Limits → List ℕ
text_of_limits limits = flat_map (text_of_limit limits) all_limits
