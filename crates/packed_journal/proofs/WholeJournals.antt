-- A whole journal is read as it was written, and written as it was read; and journals that are the same tell the same.
use Rattle.std.proofs.Common.{◌≡◌, ℕ, suc, ◌+◌, ◌-◌, ◌*◌, ◌<◌, ◌≤◌, true, List, [], ◌++◌, length, refl, sym, ap, ◌∙◌, subst, arith, append_assoc}
use Rattle.std.specs.Bool.{⊤}
use Rattle.std.specs.Prelude.{◌^◌, map, Option, Some, None, Ok, Err}
use Rattle.core_model.specs.declared.entry.Entry.{Entry}
use Rattle.packed_journal.specs.declared.heads.Head.{Head}
use Rattle.packed_journal.specs.Readings.{fit}
use Rattle.packed_journal.specs.Journals.{beginning, body, forms_of, journal, opening, words_of_head}
use Rattle.packed_journal.specs.JournalReadings.{Ending, Headed, Told, all_fit, and_body, kept, read_beginning, read_body, read_journal, with_head, written}
use Rattle.packed_journal.proofs.JournalForms.{body_back, body_told, forms_read}
use Rattle.packed_journal.proofs.HeadForms.{beginning_back, beginning_told}

pub journal_back : (head : Head) (entries : List (Entry × List ℕ)) (rest : List ℕ) (steps : ℕ) → fit (words_of_head head) ≡ true → all_fit entries ≡ true →
    length entries ≤ 2 ^ 64 - 2 → 2 * length entries < steps → read_journal steps (journal head entries ++ rest) ≡ Some (head, (map kept entries, rest))
journal_back head entries rest steps f fits_ few enough =
    ap (read_journal steps) (append_assoc (beginning head) (body (opening head) (forms_of entries)) rest)
    ∙ ap (and_body steps) (beginning_back head (body (opening head) (forms_of entries) ++ rest) f)
    ∙ ap (with_head head) (body_back entries rest fits_ (opening head) steps refl (omega (arith, few)) enough)

abbrev JournalTold : List ℕ → Option (Head × (List Told × List ℕ)) → Type 0
JournalTold bytes None = ⊤
JournalTold bytes (Some read) = bytes ≡ journal read.0 (map written read.1.0) ++ read.1.1

pub journal_told : (steps : ℕ) (bytes : List ℕ) (head : Head) (entries : List Told) (rest : List ℕ) → read_journal steps bytes ≡ Some (head, (entries, rest)) →
    bytes ≡ journal head (map written entries) ++ rest
journal_told steps bytes head entries rest e = subst (JournalTold bytes) e (by_head (read_beginning bytes) refl)
  where
    by_body : (head : Head) (more : List ℕ) (read : Ending) → bytes ≡ beginning head ++ more → read_body steps (opening head) more ≡ read → JournalTold bytes (with_head head read)
    by_body head more (Err why) e t = tt
    by_body head more (Ok read) e t =
        e ∙ ap (λ all. beginning head ++ all) (body_told steps (opening head) more read.0 read.1 refl t)
        ∙ sym (append_assoc (beginning head) (body (opening head) (forms_read read.0)) read.1)

    by_head : (read : Headed Head) → read_beginning bytes ≡ read → JournalTold bytes (and_body steps read)
    by_head (Err why) t = tt
    by_head (Ok read) t = by_body read.0 read.1 (read_body steps (opening read.0) read.1) (beginning_told bytes read.0 read.1 t) refl

-- what is read of a journal, or else something
abbrev read_or : Head × List Told → Option (Head × (List Told × List ℕ)) → Head × List Told
read_or other None = other
read_or other (Some read) = (read.0, read.1.0)

pub journals_apart : (one other : Head) (xs ys : List (Entry × List ℕ)) → fit (words_of_head one) ≡ true → fit (words_of_head other) ≡ true → all_fit xs ≡ true → all_fit ys ≡ true →
    length xs ≤ 2 ^ 64 - 2 → length ys ≤ 2 ^ 64 - 2 → journal one xs ≡ journal other ys → (one ≡ other) × (map kept xs ≡ map kept ys)
journals_apart one other xs ys f g fs gs few some same =
    let steps : ℕ = suc (2 * length xs + 2 * length ys) in
    let both_read : ◌≡◌ {A = Option (Head × (List Told × List ℕ))} (Some (one, (map kept xs, []))) (Some (other, (map kept ys, []))) =
    sym (journal_back one xs [] steps f fs few (omega arith)) ∙ ap (λ form. read_journal steps (form ++ [])) same ∙ journal_back other ys [] steps g gs some (omega arith) in
    let parts : ◌≡◌ {A = Head × List Told} (one, map kept xs) (other, map kept ys) = ap (read_or (one, map kept xs)) both_read in
    (ap (λ p. p.0) parts, ap (λ p. p.1) parts)
