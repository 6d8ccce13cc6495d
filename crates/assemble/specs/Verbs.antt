-- The words that lines begin with (own).
use Rattle.std.specs.Prelude.{ℕ, Bool, true, false, ◌||◌, List, [], ◌∷◌, bytes_eq, if◌then◌else◌}
use Rattle.script.specs.Forms.{FormRow, form_rows}
use Rattle.words.specs.Lines.{Word, words}

-- one of some forms begins with a word
abbrev pub is_among : List FormRow → Word → Bool
is_among [] word = false
is_among (form ∷ forms) word = if bytes_eq word form.name then true else is_among forms word

-- a line of a script may begin with a word
unfoldable pub is_of_script : Word → Bool
is_of_script word = is_among form_rows word

-- words are none, or begin with one that a line of a script may begin with
abbrev pub begins_as_script : List Word → Bool
begins_as_script [] = true
begins_as_script (word ∷ further) = is_of_script word
