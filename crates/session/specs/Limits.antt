-- How much a client, a user or a session may have of what a broker has (own). Times are in microseconds.
use Rattle.std.specs.Prelude.{ℕ, ◌*◌, ◌/◌, ◌==◌, nat_lt, nat_le, Bool, ◌&&◌, ◌||◌, List, codes, if◌then◌else◌}
use Rattle.session.specs.declared.limits.Limit.{Limit}
use Rattle.session.specs.declared.limits.Limit.TheVariants as limit
use Rattle.session.specs.declared.limits.Bounds.{Bounds}
use Rattle.session.specs.declared.limits.Limits.{Limits}

-- a row of the table: what the limit is where nothing is said, the least and the most that may be said
abbrev pub row : ℕ → ℕ → ℕ → Bounds
row usual least most = record { usual = usual; least = least; most = most }

-- the table
abbrev pub row_of : Limit → Bounds
row_of limit.Queues = row 8 1 64
row_of limit.Mirrors = row 67108864 4096 1099511627776
row_of limit.Sessions = row 16 1 1024
row_of limit.Connects = row 20 1 1000000
row_of limit.ConnectTime = row 100000 1 60000000
row_of limit.Messages = row 200 1 1000000
row_of limit.MessageTime = row 10000 1 60000000
row_of limit.Answers = row 1 1 64
row_of limit.GreetingTime = row 2000000 1000 600000000
row_of limit.AuditPlaces = row 4 1 1024
row_of limit.MuteTime = row 1000 1 1000000
row_of limit.MostMuteTime = row 64000 1 60000000

-- what each is called
abbrev pub name_of : Limit → List ℕ
name_of limit.Queues = codes "queues"
name_of limit.Mirrors = codes "mirrors"
name_of limit.Sessions = codes "sessions"
name_of limit.Connects = codes "connects"
name_of limit.ConnectTime = codes "connect_time"
name_of limit.Messages = codes "messages"
name_of limit.MessageTime = codes "message_time"
name_of limit.Answers = codes "answers"
name_of limit.GreetingTime = codes "greeting_time"
name_of limit.AuditPlaces = codes "audit_places"
name_of limit.MuteTime = codes "mute_time"
name_of limit.MostMuteTime = codes "most_mute_time"

-- what is in force of each
abbrev pub limit_of : Limits → Limit → ℕ
limit_of limits limit.Queues = limits.queues
limit_of limits limit.Mirrors = limits.mirrors
limit_of limits limit.Sessions = limits.sessions
limit_of limits limit.Connects = limits.connects
limit_of limits limit.ConnectTime = limits.connect_time
limit_of limits limit.Messages = limits.messages
limit_of limits limit.MessageTime = limits.message_time
limit_of limits limit.Answers = limits.answers
limit_of limits limit.GreetingTime = limits.greeting_time
limit_of limits limit.AuditPlaces = limits.audit_places
limit_of limits limit.MuteTime = limits.mute_time
limit_of limits limit.MostMuteTime = limits.most_mute_time

-- limits with one of them as it is said
abbrev pub with_limit : Limits → Limit → ℕ → Limits
with_limit limits limit.Queues number = record limits { queues = number }
with_limit limits limit.Mirrors number = record limits { mirrors = number }
with_limit limits limit.Sessions number = record limits { sessions = number }
with_limit limits limit.Connects number = record limits { connects = number }
with_limit limits limit.ConnectTime number = record limits { connect_time = number }
with_limit limits limit.Messages number = record limits { messages = number }
with_limit limits limit.MessageTime number = record limits { message_time = number }
with_limit limits limit.Answers number = record limits { answers = number }
with_limit limits limit.GreetingTime number = record limits { greeting_time = number }
with_limit limits limit.AuditPlaces number = record limits { audit_places = number }
with_limit limits limit.MuteTime number = record limits { mute_time = number }
with_limit limits limit.MostMuteTime number = record limits { most_mute_time = number }

-- limits of which nothing is said
abbrev pub usual : Limits
usual = record {
  queues = (row_of limit.Queues).usual;
  mirrors = (row_of limit.Mirrors).usual;
  sessions = (row_of limit.Sessions).usual;
  connects = (row_of limit.Connects).usual;
  connect_time = (row_of limit.ConnectTime).usual;
  messages = (row_of limit.Messages).usual;
  message_time = (row_of limit.MessageTime).usual;
  answers = (row_of limit.Answers).usual;
  greeting_time = (row_of limit.GreetingTime).usual;
  audit_places = (row_of limit.AuditPlaces).usual;
  mute_time = (row_of limit.MuteTime).usual;
  most_mute_time = (row_of limit.MostMuteTime).usual;
}

-- a number that a limit may have
abbrev pub is_within : Limit → ℕ → Bool
is_within of number = nat_le (row_of of).least number && nat_le number (row_of of).most

-- how long a bell is muted behind which nothing was published, where it was muted so long before: never longer than the most
abbrev pub muted_after : Limits → ℕ → ℕ
muted_after limits was =
    if was == 0 then (if nat_lt limits.most_mute_time limits.mute_time then limits.most_mute_time else limits.mute_time)
    else if nat_lt (limits.most_mute_time / 2) was then limits.most_mute_time
    else was * 2

-- a call may be made that enters the audit, where so many entries fit: the last places are administrators'
abbrev pub may_enter : Limits → ℕ → Bool → Bool
may_enter limits room is_administrators = is_administrators || nat_lt limits.audit_places room
