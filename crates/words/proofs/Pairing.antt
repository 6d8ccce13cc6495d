-- Bytes, one pair of digits more.
use Rattle.std.proofs.Common.{◌≡◌, ℕ, ◌<◌, List, [], ◌∷◌, ◌++◌, length, Option, Some, None, refl, sym, ap, ◌∙◌, arith, append_assoc, append-nil}
use Rattle.std.specs.Prelude.{option_map, option_and_then, ◌==◌, false}
use Rattle.std.specs.Option.{is_some}
use Rattle.words.specs.Lines.{Word}
use Rattle.words.specs.Bytes.{byte_of, bytes_word}

pub bytes_end : bytes_word [] ≡ Some []
unfolding bytes_word
bytes_end = refl

pub bytes_odd : (high : ℕ) → bytes_word (high ∷ []) ≡ None
unfolding bytes_word
bytes_odd high = refl

pub bytes_step : (high low : ℕ) (word : Word) →
    bytes_word (high ∷ low ∷ word) ≡ option_and_then (λ byte. option_map (λ bytes. byte ∷ bytes) (bytes_word word)) (byte_of high low)
unfolding bytes_word
bytes_step high low word = refl

-- digits without the second of a pair, or a pair that has no value
pub bytes_lone : (rest : Word) (high : ℕ) (further : Word) → rest ≡ high ∷ further → length further ≡ 0 → bytes_word rest ≡ None
bytes_lone rest high [] e h = ap bytes_word e ∙ bytes_odd high
bytes_lone rest high (low ∷ further) e h = absurd (omega arith)

pub bytes_bad : (rest : Word) (high low : ℕ) (further last : Word) → rest ≡ high ∷ further → further ≡ low ∷ last → byte_of high low ≡ None → bytes_word rest ≡ None
bytes_bad rest high low further last e f none =
    ap bytes_word (e ∙ ap (λ bytes. high ∷ bytes) f) ∙ bytes_step high low last
    ∙ ap (option_and_then (λ byte. option_map (λ bytes. byte ∷ bytes) (bytes_word last))) none

pub joined : (read more : List ℕ) (byte : ℕ) (last : Option (List ℕ)) → more ≡ read ++ byte ∷ [] →
    option_map (λ bytes. read ++ bytes) (option_map (λ bytes. byte ∷ bytes) last) ≡ option_map (λ bytes. more ++ bytes) last
joined read more byte None e = refl
joined read more byte (Some last) e = rw e (ap Some (sym (append_assoc read (byte ∷ []) last)))

pub bytes_more : (all : Option (List ℕ)) (read more : List ℕ) (rest : Word) (high low byte : ℕ) (further last : Word) → all ≡ option_map (λ bytes. read ++ bytes) (bytes_word rest) →
    rest ≡ high ∷ further → further ≡ low ∷ last → byte_of high low ≡ Some byte → more ≡ read ++ byte ∷ [] → all ≡ option_map (λ bytes. more ++ bytes) (bytes_word last)
bytes_more all read more rest high low byte further last so e f some is_more =
    let here : bytes_word rest ≡ option_map (λ bytes. byte ∷ bytes) (bytes_word last) =
    ap bytes_word (e ∙ ap (λ bytes. high ∷ bytes) f) ∙ bytes_step high low last
    ∙ ap (option_and_then (λ byte. option_map (λ bytes. byte ∷ bytes) (bytes_word last))) some in
    so ∙ ap (option_map (λ bytes. read ++ bytes)) here ∙ joined read more byte (bytes_word last) is_more

pub bytes_none : (all : Option (List ℕ)) (read : List ℕ) (rest : Word) → all ≡ option_map (λ bytes. read ++ bytes) (bytes_word rest) → bytes_word rest ≡ None → None ≡ all
bytes_none all read rest so none = sym (so ∙ ap (option_map (λ bytes. read ++ bytes)) none)

pub bytes_all : (all : Option (List ℕ)) (read : List ℕ) (rest : Word) → all ≡ option_map (λ bytes. read ++ bytes) (bytes_word rest) → length rest ≡ 0 → Some read ≡ all
bytes_all all read [] so h = sym (so ∙ ap (option_map (λ bytes. read ++ bytes)) bytes_end ∙ ap Some (append-nil read))
bytes_all all read (byte ∷ rest) so h = absurd (omega arith)

-- whether digits are bytes, by what is left of them
is_more : (byte : Option ℕ) (last : Option (List ℕ)) (some : ℕ) → byte ≡ Some some →
    is_some (option_and_then (λ byte. option_map (λ bytes. byte ∷ bytes) last) byte) ≡ is_some last
is_more byte None some e = rw e refl
is_more byte (Some last) some e = rw e refl

pub is_bytes_more : (rest : Word) (high low byte : ℕ) (last : Word) → rest ≡ high ∷ low ∷ last → byte_of high low ≡ Some byte →
    is_some (bytes_word rest) ≡ is_some (bytes_word last)
is_bytes_more rest high low byte last e some =
    ap (λ word. is_some (bytes_word word)) e ∙ ap is_some (bytes_step high low last) ∙ is_more (byte_of high low) (bytes_word last) byte some

pub is_bytes_bad : (rest : Word) (high low : ℕ) (last : Word) → rest ≡ high ∷ low ∷ last → byte_of high low ≡ None → is_some (bytes_word rest) ≡ false
is_bytes_bad rest high low last e none = ap is_some (bytes_bad rest high low (low ∷ last) last e refl none)

pub is_bytes_end : (rest : Word) → length rest < 2 → is_some (bytes_word rest) ≡ (length rest == 0)
is_bytes_end [] few = ap is_some bytes_end
is_bytes_end (high ∷ []) few = ap is_some (bytes_odd high)
is_bytes_end (high ∷ low ∷ rest) few = absurd (omega (arith, few))
