-- What a table of sessions is.
use Rattle.std.specs.Prelude.{vec_capacity}
use Rattle.session.specs.declared.table.Table.{Table}
use Rattle.session.specs.Tables.{State}

abbrev pub seen : Table → State
seen table = record {
  limits = table.limits;
  places = record { sessions = vec_capacity table.sessions; queues = vec_capacity table.queues; mirrors = vec_capacity table.mirrors };
  next = table.next;
  newest = table.newest;
  users = table.users.items;
  sessions = table.sessions.items;
  queues = table.queues.items;
  mirrors = table.mirrors.items;
}
