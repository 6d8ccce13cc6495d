-- The text of an entry is read as that entry, and entries of one text are one.
use Rattle.std.proofs.Common.{◌≡◌, true, [], ◌∷◌, map, Some, refl, sym, ap, ◌∙◌, append-nil}
use Rattle.core_model.specs.declared.entry.Entry.{Entry}
use Rattle.journal.specs.Words.{text_of, words_from}
use Rattle.journal.specs.Entries.{fit, text_of_entry, words_of_entry}
use Rattle.journal.specs.Readings.{done, entry_at, entry_in, entry_of}
use Rattle.journal.proofs.WordLaws.{split_as_written}
use Rattle.journal.proofs.EntryLaws.{told, entry_read}

pub entry_read_back : (entry : Entry) → fit (words_of_entry entry) ≡ true → entry_of (text_of_entry entry) ≡ Some entry
entry_read_back entry f =
    let words : words_from [] (text_of_entry entry) ≡ [] ∷ map text_of (words_of_entry entry) = split_as_written [] (words_of_entry entry) refl f in
    let whole : told (words_of_entry entry) [] ≡ map text_of (words_of_entry entry) = append-nil (map text_of (words_of_entry entry)) in
    let read : entry_at (map text_of (words_of_entry entry)) ≡ Some (entry, []) = ap entry_at (sym whole) ∙ entry_read entry [] f in
    ap entry_in words ∙ ap done read

same_found : (one other : Entry) → Some one ≡ Some other → one ≡ other
same_found one other e = cc

pub entries_apart : (one other : Entry) → fit (words_of_entry one) ≡ true → fit (words_of_entry other) ≡ true → text_of_entry one ≡ text_of_entry other → one ≡ other
entries_apart one other f g e = same_found one other (sym (entry_read_back one f) ∙ ap entry_of e ∙ entry_read_back other g)
