-- A journal that ends anywhere before its end is read as cut.
use Rattle.std.proofs.Common.{◌≡◌, ℕ, zero, suc, ◌+◌, ◌-◌, ◌<◌, Bool, true, false, List, [], ◌∷◌, ◌++◌, length, refl, sym, ap, ◌∙◌, arith, append-nil, append_assoc, inl, inr}
use Rattle.std.specs.Prelude.{◌==◌, ◌^◌, Err}
use Rattle.core_model.specs.declared.entry.Entry.{Entry}
use Rattle.packed_journal.specs.declared.unread.Unread.TheVariants.{Ended}
use Rattle.packed_journal.specs.declared.stepping.Step.TheVariants as step
use Rattle.packed_journal.specs.declared.stepping.Halt.TheVariants as halt
use Rattle.packed_journal.specs.Readings.{fit}
use Rattle.packed_journal.specs.Entries.{form_of_entry, kept_policy, words_of_entry}
use Rattle.packed_journal.specs.Journals.{Place, begins, between, body, digest_of, end_of, forms_of, is_full, is_last, onward, turn_of, with_form}
use Rattle.packed_journal.specs.JournalReadings.{all_fit, and_step, begins_with, behind_step, if_entry, if_there, one_more, read_body, read_step, rest_behind, with_step}
use Rattle.packed_journal.proofs.NumberLaws.{both_first, both_second, same_is}
use Rattle.packed_journal.proofs.Blocks.{body_end, body_more}
use Rattle.packed_journal.proofs.Fronts.{Parts, no_more, parted, same_first, same_rest}
use Rattle.packed_journal.proofs.EntryFronts.{entry_ends}
use Rattle.packed_journal.proofs.JournalForms.{block_step, entry_step, entry_unmarked, kept_form, no_steps, not_last, one_step, step_of_body}

-- ---- steps

rest_ends : (wanted front more : List ℕ) (b : ℕ) → wanted ≡ front ++ b ∷ more → rest_behind wanted front ≡ Err Ended
unfolding rest_behind
rest_ends [] front more b e = absurd (omega (arith, no_more front more b e))
rest_ends (byte ∷ wanted) [] more b e = refl
rest_ends (byte ∷ wanted) (other ∷ front) more b e =
    let same : (byte == other) ≡ true = same_is byte other (same_first byte other wanted (front ++ b ∷ more) e) in
    rw same (rest_ends wanted front more b (same_rest byte other wanted (front ++ b ∷ more) e))

turn_cut : (place : Place) (front more : List ℕ) (b : ℕ) → is_full place ≡ true → turn_of place ≡ front ++ b ∷ more → read_step place front ≡ Err halt.Cut
turn_cut place front more b full e = rw full (ap (if_there step.Block) (rest_ends (turn_of place) front more b e))

-- of a block's end, nothing is nothing, and else it begins with the mark
end_cut : (place : Place) (front more : List ℕ) (b : ℕ) → is_full place ≡ false → is_last place ≡ false → end_of place ≡ front ++ b ∷ more → read_step place front ≡ Err halt.Cut
end_cut place [] more b full last e = rw (full, last) refl
end_cut place (y ∷ front) more b full last e =
    let first : (y == 0) ≡ true = same_is y 0 (sym (same_first 0 y _ (front ++ b ∷ more) e)) in
    rw (full, first) (ap (if_there step.End) (rest_ends (end_of place) (y ∷ front) more b e))

entry_cut : (place : Place) (entry : Entry) (policy front more : List ℕ) (b : ℕ) → is_full place ≡ false → is_last place ≡ false → fit (words_of_entry entry policy) ≡ true →
    form_of_entry entry policy ≡ front ++ b ∷ more → read_step place front ≡ Err halt.Cut
entry_cut place entry policy [] more b full last f e = rw (full, last) refl
entry_cut place entry policy (y ∷ front) more b full last f e =
    let plain : (y == 0) ≡ false = ap (begins_with 0) (sym e ∙ sym (append-nil (form_of_entry entry policy))) ∙ entry_unmarked entry policy [] in
    rw (full, plain, last) (ap if_entry (entry_ends entry policy f (y ∷ front) more b e))

-- ---- the whole

-- one step that isn't there
no_step : (steps : ℕ) (place : Place) (bytes : List ℕ) → read_step place bytes ≡ Err halt.Cut → read_body steps place bytes ≡ Err halt.Cut
no_step zero place bytes e = no_steps place bytes
no_step (suc steps) place bytes e =
    step_of_body steps place bytes ∙ ap (λ read. and_step read (λ one rest. with_step one rest (read_body steps (behind_step place one) rest))) e

-- from any place these entries are read as cut, wherever the bytes end
abbrev Cuts : List (Entry × List ℕ) → Type 0
Cuts entries =
    (place : Place) (steps : ℕ) (front more : List ℕ) (b : ℕ) → is_full place ≡ false → place.number + length entries < 2 ^ 64 - 2 →
    body place (forms_of entries) ≡ front ++ b ∷ more → read_body steps place front ≡ Err halt.Cut

tail_cut : (place : Place) (entries : List (Entry × List ℕ)) (steps : ℕ) (front more : List ℕ) (b : ℕ) → Cuts entries → place.number + length entries < 2 ^ 64 - 2 →
    between place ++ body (onward place) (forms_of entries) ≡ front ++ b ∷ more → read_body steps place front ≡ Err halt.Cut
tail_cut place entries zero front more b go few e = no_steps place front
tail_cut place entries (suc steps) front more b go few e = by_full (is_full place) refl
  where
    turned : is_full place ≡ true → Parts (turn_of place) (body (begins (digest_of place) place.number) (forms_of entries)) front more b → read_body (suc steps) place front ≡ Err halt.Cut
    turned h (inl q) = no_step (suc steps) place front (turn_cut place front q.0 q.1.0 h q.1.1)
    turned h (inr q) =
        one_step steps place front (turn_of place ++ q.0) step.Block q.0 q.1.0 (block_step place q.0 h)
        ∙ go (begins (digest_of place) place.number) steps q.0 more b refl few q.1.1

    by_full : (full : Bool) → is_full place ≡ full → read_body (suc steps) place front ≡ Err halt.Cut
    by_full true h = turned h (parted (turn_of place) (body (begins (digest_of place) place.number) (forms_of entries)) front more b (turn_is h ∙ e))
      where
        turn_is : is_full place ≡ true → turn_of place ++ body (begins (digest_of place) place.number) (forms_of entries) ≡ between place ++ body (onward place) (forms_of entries)
        turn_is h = rw h refl
    by_full false h = go place (suc steps) front more b h few (goes_is h ∙ e)
      where
        goes_is : is_full place ≡ false → body place (forms_of entries) ≡ between place ++ body (onward place) (forms_of entries)
        goes_is h = rw h refl

entry_more_cut : (place : Place) (entry : Entry) (policy : List ℕ) (entries : List (Entry × List ℕ)) (steps : ℕ) (front more : List ℕ) (b : ℕ) → Cuts entries → is_full place ≡ false →
    fit (words_of_entry entry policy) ≡ true → place.number + suc (length entries) < 2 ^ 64 - 2 →
    body place (form_of_entry entry policy ∷ forms_of entries) ≡ front ++ b ∷ more → read_body steps place front ≡ Err halt.Cut
entry_more_cut place entry policy entries zero front more b go full fits_ few e = no_steps place front
entry_more_cut place entry policy entries (suc steps) front more b go full fits_ few e =
    by_part (parted (form_of_entry entry policy) (between (with_form place (form_of_entry entry policy)) ++ body (onward (with_form place (form_of_entry entry policy))) (forms_of entries)) front more b as_told)
  where
    as_told : (form_of_entry entry policy) ++ (between (with_form place (form_of_entry entry policy)) ++ body (onward (with_form place (form_of_entry entry policy))) (forms_of entries)) ≡ front ++ b ∷ more
    as_told = sym (append_assoc (form_of_entry entry policy) (between (with_form place (form_of_entry entry policy))) (body (onward (with_form place (form_of_entry entry policy))) (forms_of entries))) ∙ sym (body_more place (form_of_entry entry policy) (forms_of entries)) ∙ e

    last : is_last place ≡ false
    last = not_last place.number place refl (omega (arith, few))

    by_part : Parts (form_of_entry entry policy) (between (with_form place (form_of_entry entry policy)) ++ body (onward (with_form place (form_of_entry entry policy))) (forms_of entries)) front more b → read_body (suc steps) place front ≡ Err halt.Cut
    by_part (inl q) = no_step (suc steps) place front (entry_cut place entry policy front q.0 q.1.0 full last fits_ q.1.1)
    by_part (inr q) =
        one_step steps place front ((form_of_entry entry policy) ++ q.0) (step.Entry entry (kept_policy entry.event policy)) q.0 q.1.0 (entry_step place entry policy q.0 full last fits_)
        ∙ ap (λ f. one_more (entry, kept_policy entry.event policy) (read_body steps (with_form place f) q.0)) (kept_form entry policy)
        ∙ ap (one_more (entry, kept_policy entry.event policy)) (tail_cut (with_form place (form_of_entry entry policy)) entries steps q.0 more b go (omega (arith, few)) q.1.1)

pub body_cut : (entries : List (Entry × List ℕ)) → all_fit entries ≡ true → Cuts entries
body_cut [] fits_ place steps front more b full few e =
    no_step steps place front (end_cut place front more b full (not_last place.number place refl (omega (arith, few))) (sym (body_end place) ∙ e))
body_cut (told ∷ entries) fits_ place steps front more b full few e =
    entry_more_cut place told.0 told.1 entries steps front more b (body_cut entries (both_second (fit (words_of_entry told.0 told.1)) (all_fit entries) fits_)) full
    (both_first (fit (words_of_entry told.0 told.1)) (all_fit entries) fits_) few e
