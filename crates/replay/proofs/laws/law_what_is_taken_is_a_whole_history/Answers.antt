use Rattle.replay.proofs.Replaying.{replayed-more, replayed-none, replayed-stopped}
use Rattle.replay.proofs.laws.law_what_is_taken_is_a_whole_history.Goals as goal

pub returns-clause-opened : goal.returns-clause-opened
returns-clause-opened c policy kernels further replay is same = replayed-none policy kernels further replay is same

pub returns-clause-taken : goal.returns-clause-taken
returns-clause-taken c policy kernels further entries entry old new so_far takes = replayed-more policy kernels further entries entry old new so_far takes

pub returns-clause-stopped : goal.returns-clause-stopped
returns-clause-stopped c policy kernels further entries entry why old new so_far takes = replayed-stopped policy kernels further entries entry old new so_far why takes
