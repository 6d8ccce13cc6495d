-- The words of a line (own).
use Rattle.std.specs.Prelude.{ℕ, ◌==◌, Bool, true, false, ◌||◌, List, [], ◌∷◌, ◌++◌, Option, Some, None, option_map, if◌then◌else◌}

-- a word, as its bytes
abbrev pub Word : Type 0
Word = List ℕ

-- a byte that stands between words: a space, a tab or a carriage return
abbrev pub is_blank : ℕ → Bool
is_blank byte = (byte == 32 || byte == 9) || byte == 13

-- a word, if it has a byte, before further words
abbrev pub nonempty_before : Word → List Word → List Word
nonempty_before [] further = further
nonempty_before (byte ∷ word) further = (byte ∷ word) ∷ further

-- the words of bytes that come behind the begin of a word
unfoldable pub words_from : Word → List ℕ → List Word
words_from word [] = nonempty_before word []
words_from word (byte ∷ bytes) = if is_blank byte then nonempty_before word (words_from [] bytes) else words_from (word ++ byte ∷ []) bytes

-- the words of a line
abbrev pub words : List ℕ → List Word
words line = words_from [] line

-- no word
abbrev pub no_words : List Word → Bool
no_words [] = true
no_words (a ∷ further) = false

-- just one word
abbrev pub one_word : List Word → Option Word
one_word [] = None
one_word (a ∷ further) = if no_words further then Some a else None

-- just two words, and so on
abbrev pub two_words : List Word → Option (Word × Word)
two_words [] = None
two_words (a ∷ further) = option_map (λ b. (a, b)) (one_word further)

abbrev pub three_words : List Word → Option (Word × Word × Word)
three_words [] = None
three_words (a ∷ further) = option_map (λ rest. (a, rest.0, rest.1)) (two_words further)

abbrev pub four_words : List Word → Option (Word × Word × Word × Word)
four_words [] = None
four_words (a ∷ further) = option_map (λ rest. (a, rest.0, rest.1, rest.2)) (three_words further)

abbrev pub five_words : List Word → Option (Word × Word × Word × Word × Word)
five_words [] = None
five_words (a ∷ further) = option_map (λ rest. (a, rest.0, rest.1, rest.2, rest.3)) (four_words further)
