-- Runs that grow by one byte behind all others.
use Rattle.std.proofs.Common.{◌≡◌, ◌≢◌, ℕ, zero, suc, ◌+◌, ◌-◌, ◌*◌, ◌<◌, ◌≤◌, Bool, true, false, List, [], ◌∷◌, ◌++◌, length, get_or, refl, sym, ap, ◌∙◌, arith, Option, Some, None, slice_set, subst, ◌/◌, ◌^◌, inl, inr, ◌⊎◌, length-append}
use Rattle.std.specs.Prelude.{slice_get, if◌then◌else◌, ◌==◌, nat_lt}
use Rattle.std.specs.Prelude.{OnOk, Result, Ok, Err}
use Rattle.std.specs.Prelude.{All}
use Rattle.std.specs.List.{AllPairs}
use Rattle.std.proofs.lemmas.List.Elements.{All-nil, All-cons}
use Rattle.std.proofs.lemmas.List.Kept.{AllPairs-cons}
use Rattle.std.proofs.Math.Nat.{add-mul, one-mul}
use Rattle.std.proofs.lemmas.Bool.{cases_lt, lt-ltb, le-ltb}
use Rattle.std.proofs.lemmas.Bool.Decides.{nat_tests}
use Rattle.executor.specs.declared.written_range.WrittenRange.{WrittenRange}
use Rattle.executor.specs.Written.{laid, all_laid, end_of, nothing, AreRuns}
use Rattle.executor.specs.inner.Pages.{in_blocks}
use Rattle.executor.specs.Told.{noted, runs_below, runs_of, with_byte}
use Rattle.executor.specs.inner.Told.{adjoins_last, noted_all, Ascends, Follows, Told, Gathers}
use Rattle.executor.proofs.OnlyRuns.{only_runs}
use Rattle.executor.proofs.Maps.{laid_inside, laid_below, laid_past, laid_same, laid_twice, by_range, at_known, IsSize}

-- a run of its own, and a run with more
abbrev pub alone : ℕ → List ℕ → WrittenRange
alone address bytes = record { address = address; bytes = bytes }

abbrev pub longer : WrittenRange → List ℕ → WrittenRange
longer run bytes = record { address = run.address; bytes = run.bytes ++ bytes }

-- ---- what the code does is `noted_all`
pub noted_apart : (runs : List WrittenRange) (address : ℕ) (bytes : List ℕ) → adjoins_last runs address ≡ false → runs ++ alone address bytes ∷ [] ≡ noted_all runs address bytes
noted_apart [] address bytes e = refl
noted_apart (run ∷ []) address bytes e = rw e refl
noted_apart (run ∷ (next ∷ rest)) address bytes e = ap (λ rs. run ∷ rs) (noted_apart (next ∷ rest) address bytes e)

pub noted_longer : (runs : List WrittenRange) (address : ℕ) (bytes : List ℕ) (place : ℕ) (old : WrittenRange) → place + 1 ≡ length runs → old ≡ get_or runs place old → adjoins_last runs address ≡ true
    → slice_set runs place (longer old bytes) ≡ noted_all runs address bytes
noted_longer [] address bytes place old is was e = absurd (omega arith)
noted_longer (run ∷ []) address bytes zero old is was e = rw (e, was) refl
noted_longer (run ∷ []) address bytes (suc place) old is was e = absurd (omega arith)
noted_longer (run ∷ (next ∷ rest)) address bytes zero old is was e = absurd (omega arith)
noted_longer (run ∷ (next ∷ rest)) address bytes (suc place) old is was e =
    ap (λ rs. run ∷ rs) (noted_longer (next ∷ rest) address bytes place old (omega arith) was e)

pub adjoins_at : (runs : List WrittenRange) (address place : ℕ) (old : WrittenRange) → place + 1 ≡ length runs → old ≡ get_or runs place old → adjoins_last runs address ≡ (end_of old == address)
adjoins_at [] address place old is was = absurd (omega arith)
adjoins_at (run ∷ []) address zero old is was = ap (λ r. end_of r == address) (sym was)
adjoins_at (run ∷ []) address (suc place) old is was = absurd (omega arith)
adjoins_at (run ∷ (next ∷ rest)) address zero old is was = absurd (omega arith)
adjoins_at (run ∷ (next ∷ rest)) address (suc place) old is was = adjoins_at (next ∷ rest) address place old (omega arith) was

same_run : (new old : WrittenRange) (bytes : List ℕ) → new.address ≡ old.address → new.bytes ≡ old.bytes ++ bytes → new ≡ longer old bytes
same_run new old bytes p q = λ i. record { address = p i; bytes = q i }

pub noted_pushed : {T E : Type 0} (r : Result T E) (runs : List WrittenRange) (address : ℕ) (bytes : List ℕ) (place : ℕ) (old new : WrittenRange) → adjoins_last runs address ≡ true
    → place + 1 ≡ length runs → old ≡ get_or runs place old → new.address ≡ old.address → OnOk r (new.bytes ≡ old.bytes ++ bytes)
    → OnOk r (slice_set runs place new ≡ noted_all runs address bytes)
noted_pushed (Err e) runs address bytes place old new adjoins last was p q = tt
noted_pushed (Ok x) runs address bytes place old new adjoins last was p q =
    ap (λ r. slice_set runs place r) (same_run new old bytes p q) ∙ noted_longer runs address bytes place old last was adjoins

-- one byte behind runs
noted_one : (runs : List WrittenRange) (address byte : ℕ) → noted_all runs address (byte ∷ []) ≡ noted runs address byte
noted_one [] address byte = refl
noted_one (run ∷ []) address byte = refl
noted_one (run ∷ (next ∷ rest)) address byte = ap (λ rs. run ∷ rs) (noted_one (next ∷ rest) address byte)

pub has_last : (runs : List WrittenRange) (address : ℕ) → adjoins_last runs address ≡ true → 0 < length runs
has_last [] address e = absurd (grind arith)
has_last (run ∷ runs) address e = omega arith

-- ---- the map of noted runs
-- of ranges that don't meet either may be laid first
laid_swap : (f : ℕ → Option ℕ) (a b : ℕ) (xs ys : List ℕ) (x : ℕ) → b + length ys ≤ a → laid (laid f a xs) b ys x ≡ laid (laid f b ys) a xs x
laid_swap f a b xs ys x apart =
    by_range a (length xs) x
    (λ p. laid_same (laid f a xs) f b ys x (laid_below f a xs x p) ∙ sym (laid_below (laid f b ys) a xs x p))
    (λ p q. laid_past (laid f a xs) b ys x (omega arith) ∙ (laid_inside f a xs x p q ∙ sym (laid_inside (laid f b ys) a xs x p q)))
    (λ p. laid_same (laid f a xs) f b ys x (laid_past f a xs x p) ∙ sym (laid_past (laid f b ys) a xs x p))

by_test : (P : Bool → Type 0) (t : Bool) → (t ≡ true → P true) → (t ≡ false → P false) → P t
by_test P true yes_case no_case = yes_case refl
by_test P false yes_case no_case = no_case refl

pub noted_laid : (runs : List WrittenRange) (a : ℕ) (bytes : List ℕ) (x : ℕ) → Ascends a runs → all_laid (noted_all runs a bytes) x ≡ laid (all_laid runs) a bytes x
noted_laid [] a bytes x up = refl
noted_laid (run ∷ []) a bytes x up =
    by_test (λ t. all_laid (if t then longer run bytes ∷ [] else run ∷ alone a bytes ∷ []) x ≡ laid (laid nothing run.address run.bytes) a bytes x) (end_of run == a)
    (λ e. let is : end_of run ≡ a = grind (arith, nat_tests) in
    sym (laid_twice nothing run.address a run.bytes bytes x (sym is)))
    (λ e. laid_swap nothing a run.address bytes run.bytes x up.1.0)
noted_laid (run ∷ (next ∷ rest)) a bytes x up =
    laid_same (all_laid (noted_all (next ∷ rest) a bytes)) (laid (all_laid (next ∷ rest)) a bytes) run.address run.bytes x (noted_laid (next ∷ rest) a bytes x up.1.1.1)
    ∙ laid_swap (all_laid (next ∷ rest)) a run.address bytes run.bytes x up.1.0

noted_follows : (end a : ℕ) (bytes : List ℕ) (run : WrittenRange) (rest : List WrittenRange) → end < run.address → Follows end (noted_all (run ∷ rest) a bytes)
noted_follows end a bytes run [] h =
    by_test (λ t. Follows end (if t then longer run bytes ∷ [] else run ∷ alone a bytes ∷ [])) (end_of run == a) (λ e. h) (λ e. h)
noted_follows end a bytes run (next ∷ rest) h = h

pub ascends_weaker : (limit more : ℕ) (runs : List WrittenRange) → limit ≤ more → Ascends limit runs → Ascends more runs
ascends_weaker limit more [] le up = tt
ascends_weaker limit more (run ∷ runs) le up =
    let within : end_of run ≤ limit = up.1.0 in
    (up.0, (omega arith, (up.1.1.0, ascends_weaker limit more runs le up.1.1.1)))

pub noted_ascends : (runs : List WrittenRange) (a : ℕ) (bytes : List ℕ) → 0 < length bytes → Ascends a runs → Ascends (a + length bytes) (noted_all runs a bytes)
noted_ascends [] a bytes some up = (some, (omega arith, (tt, tt)))
noted_ascends (run ∷ []) a bytes some up =
    let has : 0 < length run.bytes = up.0 in
    let within : end_of run ≤ a = up.1.0 in
    let long : length (run.bytes ++ bytes) ≡ length run.bytes + length bytes = length-append run.bytes bytes in
    by_test (λ t. Ascends (a + length bytes) (if t then longer run bytes ∷ [] else run ∷ alone a bytes ∷ [])) (end_of run == a)
    (λ e. let is : end_of run ≡ a = grind (arith, nat_tests) in (omega arith, (omega arith, (tt, tt))))
    (λ e. let other : end_of run ≢ a = grind (arith, nat_tests) in (has, (omega arith, (omega arith, (some, (omega arith, (tt, tt)))))))
noted_ascends (run ∷ (next ∷ rest)) a bytes some up =
    let within : end_of run ≤ a = up.1.0 in
    (up.0, (omega arith, (noted_follows (end_of run) a bytes next rest up.1.1.0, noted_ascends (next ∷ rest) a bytes some up.1.1.1)))

-- ---- runs of what a map has below a limit
up_to : (at : ℕ → Option ℕ) (limit x : ℕ) → x < limit → (if nat_lt x limit then at x else None) ≡ at x
up_to at limit x p = rw (lt-ltb x limit p) refl

from_on : (at : ℕ → Option ℕ) (limit x : ℕ) → limit ≤ x → (if nat_lt x limit then at x else None) ≡ None
from_on at limit x p = rw (le-ltb x limit p) refl

pub told_noted : (at : ℕ → Option ℕ) (limit : ℕ) (bytes : List ℕ) (runs : List WrittenRange) → 0 < length bytes
    → ((i : ℕ) → i < length bytes → at (limit + i) ≡ slice_get bytes i) → Told at limit runs → Told at (limit + length bytes) (noted_all runs limit bytes)
told_noted at limit bytes runs some has told = record {
  ascends = noted_ascends runs limit bytes some told.ascends;
  exact = λ x. noted_laid runs limit bytes x told.ascends
      ∙ by_range limit (length bytes) x
      (λ p. laid_below (all_laid runs) limit bytes x p ∙ (told.exact x ∙ (up_to at limit x p ∙ sym (up_to at (limit + length bytes) x (omega arith)))))
      (λ p q. let e : limit + (x - limit) ≡ x = omega arith in
      laid_inside (all_laid runs) limit bytes x p q ∙ (sym (has (x - limit) (omega arith)) ∙ (ap at e ∙ sym (up_to at (limit + length bytes) x q))))
      (λ p. laid_past (all_laid runs) limit bytes x p ∙ (told.exact x ∙ (from_on at limit x (omega arith) ∙ sym (from_on at (limit + length bytes) x p))));
}

pub told_skipped : (at : ℕ → Option ℕ) (limit next : ℕ) (runs : List WrittenRange) → limit ≤ next → ((x : ℕ) → limit ≤ x → x < next → at x ≡ None) → Told at limit runs → Told at next runs
told_skipped at limit next runs le none told = record {
  ascends = ascends_weaker limit next runs le told.ascends;
  exact = λ x. told.exact x ∙ by_limits x (cases_lt x limit) (cases_lt x next);
}
  where
    by_limits : (x : ℕ) → (x < limit) ⊎ (limit ≤ x) → (x < next) ⊎ (next ≤ x) → (if nat_lt x limit then at x else None) ≡ (if nat_lt x next then at x else None)
    by_limits x (inl p) q = up_to at limit x p ∙ sym (up_to at next x (omega arith))
    by_limits x (inr p) (inl q) = from_on at limit x p ∙ (sym (none x p q) ∙ sym (up_to at next x q))
    by_limits x (inr p) (inr q) = from_on at limit x p ∙ sym (from_on at next x q)

pub told_at : (at : ℕ → Option ℕ) (limit other : ℕ) (runs : List WrittenRange) → limit ≡ other → Told at limit runs → Told at other runs
told_at at limit other runs e told = subst (λ n. Told at n runs) e told

-- ---- gathering
pub gathers_none : (base size : ℕ) (part : ℕ → Option ℕ) (runs : List WrittenRange) → Gathers base size part 0 runs runs
gathers_none base size part runs = λ at told agrees. told_at at base (base + 0) runs (omega arith) told

pub gathers_run : (base size place first : ℕ) (bytes : List ℕ) (part : ℕ → Option ℕ) (before runs new : List WrittenRange) → Gathers base size part place before runs
    → place ≤ first → 0 < length bytes → first + length bytes ≤ size → ((x : ℕ) → place ≤ x → x < first → part x ≡ None)
    → ((i : ℕ) → i < length bytes → part (first + i) ≡ slice_get bytes i) → new ≡ noted_all runs (base + first) bytes → Gathers base size part (first + length bytes) before new
gathers_run base size place first bytes part before runs new so_far le some fits lacks has is = λ at told agrees.
    let skipped : Told at (base + first) runs =
    told_skipped at (base + place) (base + first) runs (omega arith)
    (λ x p q.
    let e : x ≡ base + (x - base) = omega arith in
    ap at e ∙ (agrees (x - base) (omega arith) ∙ lacks (x - base) (omega arith) (omega arith)))
    (so_far at told agrees) in
    let more : Told at (base + first + length bytes) (noted_all runs (base + first) bytes) =
    told_noted at (base + first) bytes runs some
    (λ i h.
    let e : base + first + i ≡ base + (first + i) = omega arith in
    ap at e ∙ (agrees (first + i) (omega arith) ∙ has i h))
    skipped in
    told_at at (base + first + length bytes) (base + (first + length bytes)) new (omega arith) (subst (λ rs. Told at (base + first + length bytes) rs) (sym is) more)

pub gathers_gap : (base size place next : ℕ) (part : ℕ → Option ℕ) (before runs : List WrittenRange) → Gathers base size part place before runs → place ≤ next → next ≤ size
    → ((x : ℕ) → place ≤ x → x < next → part x ≡ None) → Gathers base size part next before runs
gathers_gap base size place next part before runs so_far le fits lacks = λ at told agrees.
    told_skipped at (base + place) (base + next) runs (omega arith)
    (λ x p q.
    let e : x ≡ base + (x - base) = omega arith in
    ap at e ∙ (agrees (x - base) (omega arith) ∙ lacks (x - base) (omega arith) (omega arith)))
    (so_far at told agrees)

module _ {Block : Type 0} (byte_of : Block → ℕ → Option ℕ) (size : ℕ) (is : IsSize size) (base whole : ℕ) (block_at : ℕ → Option Block) where
  -- one more block
  pub gathers_block : (index : ℕ) (block : Block) (before runs new : List WrittenRange) → block_at index ≡ Some block → (index + 1) * size ≤ whole
      → Gathers base whole (in_blocks byte_of size block_at) (index * size) before runs → Gathers (base + index * size) size (byte_of block) size runs new
      → Gathers base whole (in_blocks byte_of size block_at) ((index + 1) * size) before new
  gathers_block index block before runs new known fits so_far more = λ at told agrees.
      let split : (index + 1) * size ≡ index * size + size = add-mul index 1 size ∙ ap (λ n. index * size + n) (one-mul size) in
      told_at at (base + index * size + size) (base + (index + 1) * size) new (omega arith)
      (more at (so_far at told agrees)
      (λ x p.
      let sum : base + index * size + x ≡ base + (index * size + x) = omega arith in
      let got : block_at ((index * size + x) / size) ≡ Some block = ap block_at (is.within index x p) ∙ known in
      ap at sum ∙ (agrees (index * size + x) (omega arith)
      ∙ (at_known byte_of size is block_at block (index * size + x) got ∙ ap (byte_of block) (is.place index x p)))))

-- ---- the runs of a whole map
follows_later : (end other : ℕ) (runs : List WrittenRange) → end ≤ other → Follows other runs → Follows end runs
follows_later end other [] le f = tt
follows_later end other (run ∷ runs) le f = omega (arith, f)

all_above : (end limit : ℕ) (runs : List WrittenRange) → Follows end runs → Ascends limit runs → All (λ later. end < later.address) runs
all_above end limit [] f up = All-nil (λ later. end < later.address)
all_above end limit (run ∷ runs) f up =
    let before : end < run.address = f in
    All-cons (λ later. end < later.address) run runs before
    (all_above end limit runs (follows_later end (end_of run) runs (omega arith) up.1.1.0) up.1.1.1)

all_filled : (limit : ℕ) (runs : List WrittenRange) → Ascends limit runs → All (λ run. 0 < length run.bytes) runs
all_filled limit [] up = All-nil (λ run. 0 < length run.bytes)
all_filled limit (run ∷ runs) up = All-cons (λ run. 0 < length run.bytes) run runs up.0 (all_filled limit runs up.1.1.1)

pairs_apart : (limit : ℕ) (runs : List WrittenRange) → Ascends limit runs → AllPairs (λ run later. end_of run < later.address) runs
pairs_apart limit [] up = λ i j d p q. absurd (omega (arith, q))
pairs_apart limit (run ∷ runs) up =
    AllPairs-cons (λ run later. end_of run < later.address) run runs (all_above (end_of run) limit runs up.1.1.0 up.1.1.1) (pairs_apart limit runs up.1.1.1)

pub told_runs : (at : ℕ → Option ℕ) (limit : ℕ) (runs : List WrittenRange) → Told at limit runs → ((x : ℕ) → limit ≤ x → at x ≡ None) → AreRuns at runs
told_runs at limit runs told none =
    let each : (x : ℕ) → all_laid runs x ≡ at x = λ x. told.exact x ∙ within x (cases_lt x limit) in
    record {
      filled = all_filled limit runs told.ascends;
      apart = pairs_apart limit runs told.ascends;
      exact = λ i. λ x. each x i;
    }
  where
    within : (x : ℕ) → (x < limit) ⊎ (limit ≤ x) → (if nat_lt x limit then at x else None) ≡ at x
    within x (inl p) = up_to at limit x p
    within x (inr p) = from_on at limit x p ∙ sym (none x p)

-- a map has one list of runs below a limit
pub told_cut : (at : ℕ → Option ℕ) (limit : ℕ) (runs : List WrittenRange) → Told at limit runs → AreRuns (λ x. if nat_lt x limit then at x else None) runs
told_cut at limit runs told = record {
  filled = all_filled limit runs told.ascends;
  apart = pairs_apart limit runs told.ascends;
  exact = λ i. λ x. told.exact x i;
}

told_only : (at : ℕ → Option ℕ) (limit : ℕ) (runs others : List WrittenRange) → Told at limit runs → Told at limit others → runs ≡ others
told_only at limit runs others one other =
    only_runs (λ x. if nat_lt x limit then at x else None) runs others (told_cut at limit runs one) (told_cut at limit others other)

pub told_nothing : (at : ℕ → Option ℕ) → Told at 0 []
told_nothing at = record { ascends = tt; exact = λ x. sym (from_on at 0 x (omega arith)) }

pub told_below : (at : ℕ → Option ℕ) (limit : ℕ) → Told at limit (runs_below at limit)
unfolding runs_below
told_below at zero = told_nothing at
told_below at (suc limit) = one_more (at limit) refl (told_below at limit)
  where
    one_more : (o : Option ℕ) → at limit ≡ o → Told at limit (runs_below at limit) → Told at (suc limit) (with_byte (runs_below at limit) limit o)
    one_more None is told =
        told_skipped at limit (suc limit) (runs_below at limit) (omega arith) (λ x p q. let e : x ≡ limit = omega arith in ap at e ∙ is) told
    one_more (Some byte) is told = told_at at (limit + 1) (suc limit) (noted (runs_below at limit) limit byte) (omega arith)
        (subst (λ rs. Told at (limit + 1) rs) (noted_one (runs_below at limit) limit byte)
        (told_noted at limit (byte ∷ []) (runs_below at limit) (omega arith) (λ i h. let e : limit + i ≡ limit = omega arith in let z : i ≡ 0 = omega arith in ap at e ∙ (is ∙ ap (slice_get (byte ∷ [])) (sym z))) told))

-- runs that tell a map below a limit tell all of it, where it has nothing from there on
pub told_all : (at : ℕ → Option ℕ) (limit : ℕ) (runs : List WrittenRange) → limit ≤ 2 ^ 64 → ((x : ℕ) → limit ≤ x → at x ≡ None) → Told at limit runs → runs ≡ runs_of at
told_all at limit runs le none told =
    told_only at (2 ^ 64) runs (runs_of at) (told_skipped at limit (2 ^ 64) runs le (λ x p q. none x p) told) (told_below at (2 ^ 64))
