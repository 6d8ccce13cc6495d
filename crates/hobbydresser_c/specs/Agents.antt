-- What an agent takes, as C sees it (own).
use Rattle.std.specs.Prelude.{ℕ, ◌+◌, ◌*◌}
use Rattle.policy.specs.declared.row.Takes.{Takes}
use Rattle.hobbydresser_c.specs.Told.{number_of_test}

-- a bit for each kind of dispatch: 1 for those of kernels, 2 for those of an agent's own functions
abbrev pub takes_told : Takes → ℕ
takes_told takes = number_of_test takes.kernel + 2 * number_of_test takes.agent
