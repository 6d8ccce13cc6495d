use Rattle.client_threads.proofs.Runs.{run_whole, same_declared, same_kernels, same_room}
use Rattle.client_threads.proofs.laws.law_runs_are_whole_histories.Goals as goal

pub returns-clause-whole : goal.returns-clause-whole
returns-clause-whole c = run_whole

pub returns-clause-kernels : goal.returns-clause-kernels
returns-clause-kernels c = same_kernels

pub returns-clause-declared : goal.returns-clause-declared
returns-clause-declared c = same_declared

pub returns-clause-room : goal.returns-clause-room
returns-clause-room c = same_room
