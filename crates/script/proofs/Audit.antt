-- Lists of entries, one entry more.
use Rattle.std.proofs.Common.{◌≡◌, ℕ, ◌+◌, ◌<◌, List, [], ◌∷◌, ◌++◌, length, get_or, take, arith, sym, ap, ◌∙◌, append_assoc, append-nil}
use Rattle.std.proofs.lemmas.List.{length-take-le, take_more}
use Rattle.core_model.specs.declared.entry.Entry.{Entry}
use Rattle.policy.specs.Policy.{Declared}
use Rattle.script.specs.Entries.{text_of_entry, text_of_entries}

pub entries_snoc : (policy : Declared) (number : ℕ) (entries : List Entry) (entry : Entry) →
    text_of_entries policy number (entries ++ entry ∷ []) ≡ text_of_entries policy number entries ++ text_of_entry policy (number + length entries) entry
entries_snoc policy number [] entry = let e : number + 0 ≡ number = omega arith in rw e (append-nil _)
entries_snoc policy number (first ∷ entries) entry =
    let e : number + 1 + length entries ≡ number + length (first ∷ entries) = omega arith in
    rw (entries_snoc policy (number + 1) entries entry, e)
    (sym (append_assoc (text_of_entry policy number first) (text_of_entries policy (number + 1) entries) (text_of_entry policy (number + length (first ∷ entries)) entry)))

pub entries_more : (policy : Declared) (entries : List Entry) (i : ℕ) (d : Entry) (start old new : List ℕ) (before number : ℕ) → i < length entries →
    old ≡ start ++ text_of_entries policy (before + 1) (take i entries) → number ≡ before + 1 + i → new ≡ old ++ text_of_entry policy number (get_or entries i d) →
    new ≡ start ++ text_of_entries policy (before + 1) (take (i + 1) entries)
entries_more policy entries i d start old new before number h so n e =
    let len : length (take i entries) ≡ i = length-take-le i entries (omega arith) in
    let num : (before + 1) + length (take i entries) ≡ number = omega arith in
    let snoc = entries_snoc policy (before + 1) (take i entries) (get_or entries i d) in
    rw (take_more entries i d h, snoc, num) (e ∙ ap (λ text. text ++ text_of_entry policy number (get_or entries i d)) so ∙ append_assoc start _ _)
