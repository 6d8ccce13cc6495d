-- A list of regions cut in two: what is read of a part, and what a change of a part is to the whole.
use Rattle.std.proofs.Common.{◌≡◌, ℕ, ◌+◌, ◌-◌, ◌<◌, List, [], ◌++◌, length, get_or, set, sym, ap, ◌∙◌, arith, length-append}
use Rattle.std.proofs.lemmas.List.{get_or_read, get_or_append_left, get_or-append_right, set-append_left, set-append_right}

-- the first region of the second part
pub read_second :
    (regions low high : List (List ℕ)) (cut : ℕ) (bytes : List ℕ) → regions ≡ low ++ high →
    length low ≡ cut → cut < length regions → bytes ≡ get_or high 0 bytes →
    bytes ≡ get_or regions cut []
read_second regions low high cut bytes parts long known read =
    let whole : length regions ≡ length low + length high = ap length parts ∙ length-append low high in
    let some : 0 < length high = omega arith in
    let none : cut - cut ≡ 0 = omega arith in
    get_or_read high 0 bytes some read []
    ∙ ap (λ (n : ℕ). get_or high n []) (sym none)
    ∙ sym (get_or-append_right low high cut cut [] long (omega arith))
    ∙ ap (λ (all : List (List ℕ)). get_or all cut []) (sym parts)

-- a region of the first part
pub read_first :
    (regions low high : List (List ℕ)) (index : ℕ) (bytes : List ℕ) → regions ≡ low ++ high →
    index < length low → bytes ≡ get_or low index bytes → bytes ≡ get_or regions index []
read_first regions low high index bytes parts known read =
    get_or_read low index bytes known read []
    ∙ sym (get_or_append_left low high [] index known)
    ∙ ap (λ (all : List (List ℕ)). get_or all index []) (sym parts)

-- a change of the first region of the second part
pub set_second :
    (regions low high : List (List ℕ)) (cut : ℕ) (left : List ℕ) → regions ≡ low ++ high →
    length low ≡ cut → low ++ set high 0 left ≡ set regions cut left
set_second regions low high cut left parts long =
    let none : cut - cut ≡ 0 = omega arith in
    ap (λ (n : ℕ). low ++ set high n left) (sym none)
    ∙ sym (set-append_right low high cut cut left long (omega arith))
    ∙ ap (λ (all : List (List ℕ)). set all cut left) (sym parts)

-- a change of a region of the first part
pub set_first :
    (regions low high : List (List ℕ)) (index : ℕ) (left : List ℕ) → regions ≡ low ++ high →
    index < length low → set low index left ++ high ≡ set regions index left
set_first regions low high index left parts known =
    sym (set-append_left low high index left known)
    ∙ ap (λ (all : List (List ℕ)). set all index left) (sym parts)
