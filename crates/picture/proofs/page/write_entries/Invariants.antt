-- The entries so far are drawn: with those that are left, it is the whole.
use Rattle.std.proofs.Common.{◌≡◌, ◌++◌, [], string_bytes, drop}
use Rattle.picture.specs.Pages.{text_of_entries}
use Rattle.picture.proofs.page.write_entries.Given as goal

abbrev pub invariant-drawn : goal.invariant-drawn
invariant-drawn l =
    string_bytes l.out ++ text_of_entries l.frame l.policy l.seats.items l.zeros.items l.index (drop l.index l.entries)
    ≡ string_bytes l.initial.out ++ text_of_entries l.frame l.policy l.initial.seats.items [] 0 l.entries
