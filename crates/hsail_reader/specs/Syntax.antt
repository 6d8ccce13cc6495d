-- The module that a text is, or its first fault (PRM, HSAIL Syntax and Semantics). What spells it stands in
-- `Grammar`.
use Rattle.std.specs.Prelude.{◌≡◌, List, ℕ, nat_lt, if◌then◌else◌, Result, Ok, Err, length}
use Rattle.hsail_reader.specs.Faults.{fault_of, too_long}
use Rattle.hsail_reader.specs.Grammar.{module_text}
use Rattle.hsail_reader.specs.Grammars.{read, ◌>>=◌}
use Rattle.hsail_reader.specs.TextTokens.{PlacedToken}
use Rattle.hsail_reader.specs.Tokens.{tokens_of}
use Rattle.hsail_reader.specs.Nouns.{Module, ReadError, ReadFault, PlacedFlaw}
use Rattle.hsail_reader.specs.declared.fault.ReadError.TheVariants as error
use Rattle.hsail_reader.specs.Limits.{most_text_bytes}

-- the module that some tokens are
unfoldable pub module_at : List PlacedToken → Result Module PlacedFlaw
module_at tokens = read module_text tokens >>= λ m. Ok m.0

-- the module that the tokens of a text are
abbrev pub read_at : List ℕ → Result Module PlacedFlaw
read_at text = tokens_of text >>= module_at

abbrev pub located : List ℕ → Result Module PlacedFlaw → Result Module ReadFault
located text (Ok m) = Ok m
located text (Err r) = Err (fault_of text r)

-- The module that a text is, or its fault: too long, the first place where no lexeme begins, or the
-- first token at which no module goes on.
unfoldable pub reading : List ℕ → Result Module ReadFault
reading text = if nat_lt most_text_bytes (length text) then Err too_long else located text (read_at text)

-- what the reader answers is the reading, unless memory ran out
abbrev pub Answers : Result Module ReadError → Result Module ReadFault → Type 0
Answers (Ok m) read = read ≡ Ok m
Answers (Err error.OutOfMemory) read = Unit {0}
Answers (Err (error.Fault f)) read = read ≡ Err f
