-- The eight words of a packet, as far as they are known.
use Rattle.std.specs.Prelude.{ℕ, Bool, List, [], ◌∷◌, ◌&&◌, nat_le, Option, None, is_some, get_or, drop, map, unwrap_or}
use Rattle.std.specs.List.{list_all}
pub use Rattle.aql_packet.specs.Words.{is_invalid}

-- no word is known
abbrev pub no_words : List (Option ℕ)
no_words = None ∷ None ∷ None ∷ None ∷ None ∷ None ∷ None ∷ None ∷ []

-- word k, if it is known
abbrev pub word : List (Option ℕ) → ℕ → Option ℕ
word words k = get_or words k None

-- whether k is the place of a body word
abbrev pub is_body : ℕ → Bool
is_body k = nat_le 1 k && nat_le k 7

-- whether all seven body words are known
abbrev pub has_body : List (Option ℕ) → Bool
has_body words = list_all is_some (drop 1 words)

-- the words themselves, once all are known
abbrev pub packet_of : List (Option ℕ) → List ℕ
packet_of words = map (λ w. unwrap_or w 0) words
