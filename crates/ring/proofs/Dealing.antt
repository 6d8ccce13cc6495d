-- How the passes of a ring that opens are cut off one seat.
use Rattle.std.proofs.Common.{◌≡◌, ℕ, zero, suc, length, get_or, ◌+◌, ◌-◌, ◌<◌, List, [], ◌∷◌, ◌++◌, take, drop, replicate, refl, ap, ◌∙◌, sym, subst, arith}
use Rattle.std.specs.Prelude.{All, ⊤}
use Rattle.atomic_table.specs.Seated.{TableId}
use Rattle.ring_core.specs.declared.part.SeatPart.TheVariants.{Producer}
use Rattle.ring_core.specs.Parts.{new_producer}
use Rattle.ring.specs.declared.share.Numbered.{Numbered}
use Rattle.ring.specs.Shares.{alone, numbered}
use Rattle.ring.specs.Passes.{ProducerSeen, IsProducerPass, as_producer, only_part}
use Rattle.ring.specs.Dealt.{dealt, new_producer_pass}

abbrev ME : Type 0
ME = List Numbered × List (ℕ × ⊤)

-- the parts of the producers from a number on: the first, and those behind it
first_of : (number n m : ℕ) → n ≡ suc m → numbered number (replicate n new_producer) ≡ record { number = number; part = new_producer } ∷ numbered (suc number) (replicate m new_producer)
first_of number n m e = ap (λ k. numbered number (replicate k new_producer)) e

pub first_off : (producers before : ℕ) → before < producers → numbered (before + 1) (replicate (producers - before) new_producer) ≡ record { number = before + 1; part = new_producer } ∷ numbered (before + 1 + 1) (replicate (producers - (before + 1)) new_producer)
first_off producers before lt =
    let e : producers - before ≡ suc (producers - (before + 1)) = omega (arith, lt) in
    let d : suc (before + 1) ≡ before + 1 + 1 = omega arith in
    first_of (before + 1) (producers - before) (producers - (before + 1)) e ∙ ap (λ k. record { number = before + 1; part = new_producer } ∷ numbered k (replicate (producers - (before + 1)) new_producer)) d

pub first_me : (producers before : ℕ) (me one : ME) → before < producers → me ≡ (numbered (before + 1) (replicate (producers - before) new_producer), []) → one ≡ (take 1 me.0, []) → one ≡ (alone (before + 1) new_producer, [])
first_me producers before me one lt e f = f ∙ (λ i. (take 1 (e i).0, [])) ∙ (λ i. (take 1 (first_off producers before lt i), []))

pub rest_me : (producers before : ℕ) (me rest : ME) → before < producers → me ≡ (numbered (before + 1) (replicate (producers - before) new_producer), []) → rest ≡ (drop 1 me.0, me.1) → rest ≡ (numbered (before + 1 + 1) (replicate (producers - (before + 1)) new_producer), [])
rest_me producers before me rest lt e f = f ∙ (λ i. (drop 1 (e i).0, (e i).1)) ∙ (λ i. (drop 1 (first_off producers before lt i), []))

pub new_pass : (number : ℕ) (one : ME) → one ≡ (alone number new_producer, []) → IsProducerPass number 1099511627776 one
new_pass number one e =
    let part : as_producer (only_part one.0) ≡ as_producer new_producer = ap (λ (m : ME). as_producer (only_part m.0)) e in
    record { share = e ∙ (λ i. (alone number (Producer (sym part i)), [])); left = ap (λ u. u.allowance) (sym part) }

pub new_value : (table table' : TableId) (number : ℕ) (one : ME) → one ≡ (alone number new_producer, []) → table' ≡ table → ◌≡◌ {A = ProducerSeen} (record { table = table'; number = number; part = as_producer (only_part one.0) }) (new_producer_pass table number)
new_value table table' number one e t = λ i. record { table = t i; number = number; part = as_producer (only_part (e i).0) }

pub dealt_more : (table : TableId) (n : ℕ) → dealt table (n + 1) ≡ dealt table n ++ new_producer_pass table (n + 1) ∷ []
dealt_more table n =
    let e : suc n ≡ n + 1 = omega arith in
    subst (λ (k : ℕ). dealt table k ≡ dealt table n ++ new_producer_pass table k ∷ []) e refl

-- all passes that are dealt are for the table
all_push : (table : TableId) (xs : List ProducerSeen) (y : ProducerSeen) → All (λ (pass : ProducerSeen). pass.table ≡ table) xs → y.table ≡ table → (k : ℕ) (d : ProducerSeen) → k < length (xs ++ y ∷ []) → (get_or (xs ++ y ∷ []) k d).table ≡ table
all_push table [] y h p zero d lt = p
all_push table [] y h p (suc k) d lt = absurd (omega (arith, lt))
all_push table (x ∷ xs) y h p zero d lt = h 0 d (omega arith)
all_push table (x ∷ xs) y h p (suc k) d lt = all_push table xs y (λ i e l. h (suc i) e (omega (arith, l))) p k d (omega (arith, lt))

pub dealt_all : (table : TableId) (n : ℕ) → All (λ (pass : ProducerSeen). pass.table ≡ table) (dealt table n)
dealt_all table zero = λ k d lt. absurd (omega (arith, lt))
dealt_all table (suc n) = all_push table (dealt table n) (new_producer_pass table (suc n)) (dealt_all table n) refl
