-- Names among rows: a table's look-ups are those of the definitions, and names and numbers invert each other.
use Rattle.std.proofs.Common.{◌≡◌, ℕ, zero, suc, ◌+◌, ◌-◌, ◌<◌, ◌≤◌, Bool, true, false, cond, not, List, [], ◌∷◌, ◌++◌, map, length, get_or, position, nat_lt, Option, Some, None, option_map, slice_get, String, Global, string_bytes, refl, sym, ap, subst, ◌∙◌, arith, IsUtf8, true≢false, add-one}
use Rattle.std.specs.List.{position_or_len, IsDistinct, AllByRecursion}
use Rattle.std.specs.Borrow.{Bor}
use Rattle.std.specs.Map.{keys_of, lookup}
use Rattle.indexmap.specs.IndexMap.{IndexMap, insert_entry}
use Rattle.indexmap.proofs.CallerLemmas.{insert_entry-new}
use Rattle.std.specs.Map.Iter.{deref_pair}
use Rattle.std.specs.Str.{bytes_eq}
use Rattle.std.specs.String.{string_eq}
use Rattle.std.specs.Option.{option_map_or}
use Rattle.std.proofs.Math.Logic.{∥∥₁_elim}
use Rattle.std.proofs.lemmas.Bool.{false_from_ne_true}
use Rattle.std.proofs.lemmas.Bool.Decides.{nat_tests}
use Rattle.std.proofs.lemmas.List.{length-map}
use Rattle.std.proofs.lemmas.List.Quantifiers.{position-Some}
use Rattle.std.proofs.lemmas.Option.{slice_get-map, slice_get-get_or, slice_get_within, none-some, same_Some}
use Rattle.std.proofs.lemmas.Slice.Eq.{bytes_eq-Decides}
use Rattle.policy.specs.Names.{Name, names, numbered, number_in, AreDistinct}
use Rattle.policy.specs.Table.{named_rows, named_row}

pub position_or_len-map : {X Y : Type 0} (p : Y → Bool) (f : X → Y) (xs : List X) → position_or_len p (map f xs) ≡ position_or_len (λ x. p (f x)) xs
position_or_len-map p f [] = refl
position_or_len-map p f (x ∷ xs) = ap (λ n. cond (not (p (f x))) (1 + n) 0) (position_or_len-map p f xs)

pub position-map : {X Y : Type 0} (p : Y → Bool) (f : X → Y) (xs : List X) → position p (map f xs) ≡ position (λ x. p (f x)) xs
position-map p f xs = rw (position_or_len-map p f xs, length-map xs f)

-- the place of a name among rows is the place of its key among entries
pub position-names : {V : Type 0} (name : Name) (es : List (String Global × V))
    → position (bytes_eq name) (names (named_rows es)) ≡ position (λ k. bytes_eq name (string_bytes k)) (keys_of es)
position-names name es = position-map (bytes_eq name) (λ row. row.0) (named_rows es) ∙ position-map (λ row. bytes_eq name row.0) (λ e. (string_bytes e.0, e.1)) es ∙ sym (position-map (λ k. bytes_eq name (string_bytes k)) (λ e. e.0) es)

same_bytes : (a b : List ℕ) → bytes_eq a b ≡ true → a ≡ b
same_bytes a b h = (bytes_eq-Decides a b).0 h

bytes_self : (a : List ℕ) → bytes_eq a a ≡ true
bytes_self a = (bytes_eq-Decides a a).1 refl

-- a text that isn't UTF-8 is no key
not_key : (name : Name) → (IsUtf8 name → ⊥) → (k : String Global) → bytes_eq name (string_bytes k) ≡ false
not_key name odd k = false_from_ne_true (bytes_eq name (string_bytes k)) (λ e. ∥∥₁_elim k.ok (λ a. absurd a) (λ u. odd (subst IsUtf8 (sym (same_bytes name (string_bytes k) e)) u)))

none_before : {X : Type 0} (p : X → Bool) (xs : List X) → AllByRecursion (λ x. p x ≡ false) xs → position_or_len p xs ≡ length xs
none_before p [] h = refl
none_before p (x ∷ xs) h = rw (h.0, none_before p xs h.1) (omega arith)

all_not : {V : Type 0} (name : Name) → (IsUtf8 name → ⊥) → (es : List (String Global × V)) → AllByRecursion (λ k. bytes_eq name (string_bytes k) ≡ false) (keys_of es)
all_not name odd [] = tt
all_not name odd (e ∷ es) = (not_key name odd e.0, all_not name odd es)

past_end : {X : Type 0} (p : X → Bool) (xs : List X) → position_or_len p xs ≡ length xs → position p xs ≡ None
past_end p xs e = rw e (grind (arith, nat_tests))

-- nor a row's name
pub position-no_text : {V : Type 0} (name : Name) → (IsUtf8 name → ⊥) → (es : List (String Global × V)) → position (λ k. bytes_eq name (string_bytes k)) (keys_of es) ≡ None
position-no_text name odd es = past_end (λ k. bytes_eq name (string_bytes k)) (keys_of es) (none_before (λ k. bytes_eq name (string_bytes k)) (keys_of es) (all_not name odd es))

pub numbered-suc : {X : Type 0} (xs : List X) (i : ℕ) → numbered xs (suc i) ≡ slice_get xs i
numbered-suc xs i = let e : nat_lt 0 (suc i) ≡ true = grind (arith, nat_tests) in rw (e, suc-minus i)
  where
    suc-minus : (n : ℕ) → suc n - 1 ≡ n
    suc-minus n = omega arith

pub numbered-next : {X : Type 0} (xs : List X) (i : ℕ) → numbered xs (i + 1) ≡ slice_get xs i
numbered-next xs i = rw add-one (numbered-suc xs i)

-- the name at the place of a name is that name
pub numbered-number_in : (all : List Name) (name : Name) → 0 < number_in all name → numbered all (number_in all name) ≡ Some name
numbered-number_in all name h = at_place (position (bytes_eq name) all) refl h
  where
    at_place : (r : Option ℕ) → position (bytes_eq name) all ≡ r → 0 < option_map_or (λ i. i + 1) r 0 → numbered all (option_map_or (λ i. i + 1) r 0) ≡ Some name
    at_place None e k = absurd (omega arith)
    at_place (Some i) e k =
        let s = position-Some (bytes_eq name) all i name e in
        numbered-next all i ∙ slice_get-get_or all i name s.0 ∙ ap (λ x. Some x) (sym (same_bytes name (get_or all i name) s.1))

pub numbered_place : (all : List Name) (name : Name) (i : ℕ) → Some i ≡ position (bytes_eq name) all → numbered all (i + 1) ≡ Some name
numbered_place all name i e =
    let s = position-Some (bytes_eq name) all i name (sym e) in
    numbered-next all i ∙ slice_get-get_or all i name s.0 ∙ ap (λ x. Some x) (sym (same_bytes name (get_or all i name) s.1))

others : (x name : Name) (xs : List Name) (i : ℕ) → AllByRecursion (λ y. bytes_eq x y ≡ false) xs → slice_get xs i ≡ Some name → bytes_eq x name ≡ false
others x name [] i a h = absurd (none-some name h)
others x name (y ∷ ys) zero a h = subst (λ z. bytes_eq x z ≡ false) (same_Some y name h) a.0
others x name (y ∷ ys) (suc i) a h = others x name ys i a.1 h

first_place : (all : List Name) → IsDistinct bytes_eq all → (i : ℕ) (name : Name) → slice_get all i ≡ Some name → position_or_len (bytes_eq name) all ≡ i
unfolding IsDistinct
first_place [] d i name h = absurd (none-some name h)
first_place (x ∷ xs) d zero name h = rw (← same_Some x name h, bytes_self x)
first_place (x ∷ xs) d (suc i) name h =
    let differs : bytes_eq name x ≡ false = false_from_ne_true (bytes_eq name x) (λ e. true≢false (sym (subst (λ z. bytes_eq x z ≡ true) (sym (same_bytes name x e)) (bytes_self x)) ∙ others x name xs i d.0 h)) in
    rw (differs, first_place xs d.1 i name h) (omega arith)

-- among distinct names, the number of the name with a number is that number
pub number_in-numbered : (all : List Name) → IsDistinct bytes_eq all → (n : ℕ) (name : Name) → numbered all n ≡ Some name → number_in all name ≡ n
number_in-numbered all d zero name h = absurd (none-some name h)
number_in-numbered all d (suc i) name h =
    let at : slice_get all i ≡ Some name = sym (numbered-suc all i) ∙ h in
    let within = slice_get_within all i name at in
    let e : nat_lt i (length all) ≡ true = grind (arith, nat_tests) in
    rw (first_place all d i name at, e) (omega arith)

apart : {V : Type 0} (k : String Global) (es : List (String Global × V)) → AllByRecursion (λ y. string_eq k y ≡ false) (keys_of es) → AllByRecursion (λ y. bytes_eq (string_bytes k) y ≡ false) (names (named_rows es))
apart k [] a = tt
apart k (e ∷ es) a = (a.0, apart k es a.1)

-- the names of rows are distinct where the keys are
pub distinct_names : {V : Type 0} (es : List (String Global × V)) → IsDistinct string_eq (keys_of es) → IsDistinct bytes_eq (names (named_rows es))
unfolding IsDistinct
distinct_names [] d = tt
distinct_names (e ∷ es) d = (apart e.0 es d.0, distinct_names es d.1)

-- what the map finds for a text is the place of its name
pub found_place : {V : Type 0} (name text : Name) (es : List (String Global × V)) (all : List (Name × V)) (r : Option ℕ)
    → r ≡ position (λ k. bytes_eq text (string_bytes k)) (keys_of es) → text ≡ name → named_rows es ≡ all → r ≡ position (bytes_eq name) (names all)
found_place name text es all r found same view =
    found ∙ sym (position-names text es) ∙ ap (λ n. position (bytes_eq n) (names (named_rows es))) same ∙ ap (λ rows. position (bytes_eq name) (names rows)) view

-- and a text that isn't UTF-8 has no place
pub no_place : {V : Type 0} (name : Name) (es : List (String Global × V)) (all : List (Name × V))
    → (IsUtf8 name → ⊥) → named_rows es ≡ all → None ≡ position (bytes_eq name) (names all)
no_place name es all odd view =
    sym (position-no_text name odd es) ∙ sym (position-names name es) ∙ ap (λ rows. position (bytes_eq name) (names rows)) view

named : {V : Type 0} (o : Option (Bor (String Global) × Bor V)) → option_map named_row o ≡ option_map (λ e. (string_bytes e.0, e.1)) (option_map deref_pair o)
named None = refl
named (Some p) = refl

-- the row that the map shows at a place is the one with the next number
pub row_at : {V : Type 0} (es : List (String Global × V)) (all : List (Name × V)) (r : Option (Bor (String Global) × Bor V)) (i n : ℕ)
    → option_map deref_pair r ≡ slice_get es i → i + 1 ≡ n → named_rows es ≡ all → option_map named_row r ≡ numbered all n
row_at es all r i n shown next view =
    named r ∙ ap (option_map (λ e. (string_bytes e.0, e.1))) shown
    ∙ sym (slice_get-map (λ e. (string_bytes e.0, e.1)) es i) ∙ ap (λ rows. slice_get rows i) view
    ∙ sym (numbered-next all i) ∙ ap (numbered all) next

pub numbered-map : {X Y : Type 0} (f : X → Y) (xs : List X) (n : ℕ) → numbered (map f xs) n ≡ option_map f (numbered xs n)
numbered-map f xs zero = refl
numbered-map f xs (suc i) = numbered-suc (map f xs) i ∙ slice_get-map f xs i ∙ ap (option_map f) (sym (numbered-suc xs i))

-- the name of the row with a number is the name with that number
pub name_at : {V : Type 0} (all : List (Name × V)) (n : ℕ) (r : Option (Name × V)) → r ≡ numbered all n → option_map (λ row. row.0) r ≡ numbered (names all) n
name_at all n r found = ap (option_map (λ row. row.0)) found ∙ sym (numbered-map (λ row. row.0) all n)

-- names found among the rows of a map have the number at which they stand
pub number_back : {V : Type 0} (es : List (String Global × V)) (all : List (Name × V)) (n : ℕ) (name : Name)
    → IsDistinct string_eq (keys_of es) → named_rows es ≡ all → Some name ≡ numbered (names all) n → number_in (names all) name ≡ n
number_back es all n name distinct view found =
    number_in-numbered (names all) (subst (λ rows. IsDistinct bytes_eq (names rows)) view (distinct_names es distinct)) n name (sym found)

pub names_apart : {V : Type 0} (es : List (String Global × V)) (all : List (Name × V)) → IsDistinct string_eq (keys_of es) → named_rows es ≡ all → AreDistinct (names all)
names_apart es all distinct view n m name first second =
    sym (number_back es all n name distinct view (sym first)) ∙ number_back es all m name distinct view (sym second)

no_place_none : {V : Type 0} (p : String Global → Bool) (es : List (String Global × V)) → position_or_len p (keys_of es) ≡ length (keys_of es) → lookup p es ≡ None
no_place_none p [] h = refl
no_place_none p (e ∷ es) h = by_test (p e.0) refl (no_place_none p es)
  where
    by_test : (b : Bool) → p e.0 ≡ b → (position_or_len p (keys_of es) ≡ length (keys_of es) → lookup p es ≡ None) → cond b (Some e.1) (lookup p es) ≡ None
    by_test true t more = absurd (let at_first : 0 ≡ suc (length (keys_of es)) = sym (ap (λ b. cond (not b) (1 + position_or_len p (keys_of es)) 0) t) ∙ h in omega arith)
    by_test false f more = more (let next : 1 + position_or_len p (keys_of es) ≡ suc (length (keys_of es)) = sym (ap (λ b. cond (not b) (1 + position_or_len p (keys_of es)) 0) f) ∙ h in omega arith)

place_within : {X : Type 0} (p : X → Bool) (xs : List X) → position_or_len p xs ≤ length xs
place_within p [] = omega arith
place_within p (x ∷ xs) = by_test (p x) (place_within p xs)
  where
    by_test : (b : Bool) → position_or_len p xs ≤ length xs → cond (not b) (1 + position_or_len p xs) 0 ≤ length (x ∷ xs)
    by_test true h = omega arith
    by_test false h = omega arith

no_number : {X : Type 0} (p : X → Bool) (xs : List X) → option_map_or (λ i. i + 1) (position p xs) 0 ≡ 0 → position_or_len p xs ≡ length xs
no_number p xs h = by_test (nat_lt (position_or_len p xs) (length xs)) refl h
  where
    by_test : (b : Bool) → nat_lt (position_or_len p xs) (length xs) ≡ b → option_map_or (λ i. i + 1) (cond b (Some (position_or_len p xs)) None) 0 ≡ 0 → position_or_len p xs ≡ length xs
    by_test true t e = absurd (omega arith)
    by_test false f e = let past : length xs ≤ position_or_len p xs = grind (arith, nat_tests) in omega (arith, place_within p xs)

-- a name without a number is no key
new_key : {V : Type 0} (k : String Global) (es : List (String Global × V)) (all : List (Name × V)) → number_in (names all) (string_bytes k) ≡ 0 → named_rows es ≡ all → lookup (string_eq k) es ≡ None
new_key k es all h view =
    no_place_none (string_eq k) es (no_number (string_eq k) (keys_of es)
    (ap (λ r. option_map_or (λ i. i + 1) r 0) (sym (position-names (string_bytes k) es) ∙ ap (λ rows. position (bytes_eq (string_bytes k)) (names rows)) view) ∙ h))

named_rows-append : {V : Type 0} (es : List (String Global × V)) (k : String Global) (v : V) → named_rows (es ++ (k, v) ∷ []) ≡ named_rows es ++ (string_bytes k, v) ∷ []
named_rows-append [] k v = refl
named_rows-append (e ∷ es) k v = ap (λ rest. (string_bytes e.0, e.1) ∷ rest) (named_rows-append es k v)

-- a row of a new name goes behind the others
pub inserted : {V S : Type 0} (m : IndexMap (String Global) V S) (all : List (Name × V)) (k : String Global) (v : V) (after : List (String Global × V))
    → number_in (names all) (string_bytes k) ≡ 0 → named_rows m.entries ≡ all → after ≡ insert_entry string_eq m.entries k v → named_rows after ≡ all ++ (string_bytes k, v) ∷ []
inserted m all k v after h view e =
    ap named_rows (e ∙ insert_entry-new string_eq m k v (new_key k m.entries all h view)) ∙ named_rows-append m.entries k v ∙ ap (λ rows. rows ++ (string_bytes k, v) ∷ []) view
