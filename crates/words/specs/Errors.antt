-- What entries tell of an error (own).
use Rattle.std.specs.Prelude.{ℕ, List, ◌++◌}
use Rattle.queue_error.specs.declared.error.QueueError.{QueueError}
use Rattle.queue_error.specs.Texts.{text_of_rule, text_of_end}

-- the rule of an error, and its place where there is one
abbrev pub text_of_broken : QueueError → List ℕ
text_of_broken error = text_of_rule error.rule ++ text_of_end error.place
