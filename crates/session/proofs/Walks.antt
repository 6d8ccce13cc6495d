-- Walks over bytes, lines and entries, one more.
use Rattle.std.proofs.Common.{◌≡◌, ℕ, zero, suc, ◌+◌, ◌<◌, ◌≤◌, Bool, true, false, List, [], ◌∷◌, ◌++◌, length, get_or, take, drop, Option, Some, None, Result, Ok, Err, refl, sym, ap, ◌∙◌, add-one, arith}
use Rattle.std.specs.Prelude.{◌==◌, if◌then◌else◌}
use Rattle.std.proofs.lemmas.Bool.Decides.{nat_tests}
use Rattle.std.proofs.lemmas.List.{take_more, take_all, drop_all}
use Rattle.std.proofs.Math.Seq.{drop-cons}
use Rattle.session.specs.declared.limits.Limits.{Limits}
use Rattle.session.specs.declared.who.Entry.{Entry}
use Rattle.session.specs.declared.who.Place.{Place}
use denote.Ref.{Bor}
use Rattle.session.specs.declared.who.Fault.{Fault}
use Rattle.session.specs.declared.who.Unread.{Unread}
use Rattle.session.specs.declared.who.Unread.TheVariants as unread
use Rattle.session.specs.Lines.{lines_from, lines_behind, before}
use Rattle.session.specs.Who.{first_of, with_entry, limits_from, said, with_said, with_lines, entries_of, IsTold}

-- what is left at a place is its item and what is left behind it
left_at : {X : Type 0} (xs : List X) (i : ℕ) (x : X) → i < length xs → drop i xs ≡ get_or xs i x ∷ drop (i + 1) xs
left_at xs i x h = rw add-one (drop-cons xs i x h)

-- how many bytes come before one that passes
before_step : (ends : ℕ → Bool) (byte : ℕ) (bytes : List ℕ) → before ends (byte ∷ bytes) ≡ (if ends byte then 0 else suc (before ends bytes))
unfolding before
before_step ends byte bytes = refl

before_end : (ends : ℕ → Bool) → before ends [] ≡ 0
unfolding before
before_end ends = refl

pub before_here : (ends : ℕ → Bool) (bytes : List ℕ) (i : ℕ) → i < length bytes → ends (get_or bytes i 0) ≡ true → before ends bytes ≡ i + before ends (drop i bytes) → before ends bytes ≡ i
before_here ends bytes i h passes so_far =
    let here : before ends (drop i bytes) ≡ 0 = ap (before ends) (left_at bytes i 0 h) ∙ before_step ends (get_or bytes i 0) (drop (i + 1) bytes) ∙ (rw passes refl) in
    so_far ∙ (rw here (omega arith))

pub before_more : (ends : ℕ → Bool) (bytes : List ℕ) (i : ℕ) → i < length bytes → ends (get_or bytes i 0) ≡ false → before ends bytes ≡ i + before ends (drop i bytes)
    → before ends bytes ≡ (i + 1) + before ends (drop (i + 1) bytes)
before_more ends bytes i h passes so_far =
    let here : before ends (drop i bytes) ≡ suc (before ends (drop (i + 1) bytes)) =
    ap (before ends) (left_at bytes i 0 h) ∙ before_step ends (get_or bytes i 0) (drop (i + 1) bytes) ∙ (rw passes refl) in
    omega (arith, so_far, here)

pub before_all : (ends : ℕ → Bool) (bytes : List ℕ) (i : ℕ) → length bytes ≤ i → i ≤ length bytes → before ends bytes ≡ i + before ends (drop i bytes) → before ends bytes ≡ length bytes
before_all ends bytes i h k so_far =
    let here : before ends (drop i bytes) ≡ 0 = ap (before ends) (drop_all i bytes h) ∙ before_end ends in omega (arith, so_far, here)

-- lines
lines_end : (line : List ℕ) → lines_from line [] ≡ line ∷ []
unfolding lines_from
lines_end line = refl

at_feed : (line : List ℕ) (byte : ℕ) (bytes : List ℕ) → byte ≡ 10 → lines_from line (byte ∷ bytes) ≡ line ∷ lines_from [] bytes
unfolding lines_from
at_feed line byte bytes e = rw e refl

past_feed : (line : List ℕ) (byte : ℕ) (bytes : List ℕ) → (byte ≡ 10 → ⊥) → lines_from line (byte ∷ bytes) ≡ lines_from (line ++ byte ∷ []) bytes
unfolding lines_from
past_feed line byte bytes e =
    let other : (byte == 10) ≡ false = grind (arith, nat_tests) in rw other refl

lines_feed : (text : List ℕ) (i : ℕ) → i < length text → get_or text i 0 ≡ 10 → lines_from (take i text) (drop i text) ≡ take i text ∷ lines_from [] (drop (i + 1) text)
lines_feed text i h e = ap (lines_from (take i text)) (left_at text i 0 h) ∙ at_feed (take i text) (get_or text i 0) (drop (i + 1) text) e

pub lines_more : (text : List ℕ) (i : ℕ) → i < length text → (get_or text i 0 ≡ 10 → ⊥) → lines_from (take (i + 1) text) (drop (i + 1) text) ≡ lines_from (take i text) (drop i text)
lines_more text i h e =
    rw (take_more text i 0 h) (sym (ap (lines_from (take i text)) (left_at text i 0 h) ∙ past_feed (take i text) (get_or text i 0) (drop (i + 1) text) e))

pub lines_all : (text : List ℕ) (i : ℕ) → length text ≤ i → lines_from (take i text) (drop i text) ≡ text ∷ []
lines_all text i h = rw (take_all i text h, drop_all i text h) (lines_end text)

pub lines_split : (text : List ℕ) (i : ℕ) (line from rest : List ℕ) {all : List (List ℕ)} → i < length text → get_or text i 0 ≡ 10 →
    all ≡ lines_from (take i text) (drop i text) → line ≡ take i text → from ≡ drop i text → rest ≡ drop 1 from → all ≡ line ∷ lines_from [] rest
lines_split text i line from rest h feed e is_line is_from is_rest =
    let behind : rest ≡ drop (i + 1) text = is_rest ∙ ap (drop 1) (is_from ∙ left_at text i 0 h) in
    rw (is_line, behind) (e ∙ lines_feed text i h feed)

-- the first place that entries have
first_step : (has : Entry → Option Place) (entry : Entry) (entries : List Entry) → first_of has (entry ∷ entries) ≡ elim (has entry) [ None ↦ first_of has entries | Some place ↦ Some place ]
unfolding first_of
first_step has entry entries = refl

first_end : (has : Entry → Option Place) → first_of has [] ≡ None
unfolding first_of
first_end has = refl

pub first_here : (has : Entry → Option Place) (entries : List Entry) (i : ℕ) (d : Entry) (place : Place) → i < length entries → has (get_or entries i d) ≡ Some place
    → first_of has (drop i entries) ≡ Some place
first_here has entries i d place h passes =
    ap (first_of has) (left_at entries i d h) ∙ first_step has (get_or entries i d) (drop (i + 1) entries)
    ∙ ap (λ (o : Option Place). elim o [ None ↦ first_of has (drop (i + 1) entries) | Some place ↦ Some place ]) passes

pub first_more : (has : Entry → Option Place) (entries : List Entry) (i : ℕ) (d : Entry) → i < length entries → has (get_or entries i d) ≡ None
    → first_of has (drop i entries) ≡ first_of has (drop (i + 1) entries)
first_more has entries i d h passes =
    ap (first_of has) (left_at entries i d h) ∙ first_step has (get_or entries i d) (drop (i + 1) entries)
    ∙ ap (λ (o : Option Place). elim o [ None ↦ first_of has (drop (i + 1) entries) | Some place ↦ Some place ]) passes

pub first_all : (has : Entry → Option Place) (entries : List Entry) (i : ℕ) → length entries ≤ i → first_of has (drop i entries) ≡ None
first_all has entries i h = ap (first_of has) (drop_all i entries h) ∙ first_end has

-- limits by entries
limits_step : (limits : Limits) (entry : Entry) (entries : List Entry) → limits_from limits (entry ∷ entries) ≡ limits_from (with_entry limits entry) entries
unfolding limits_from
limits_step limits entry entries = refl

limits_end : (limits : Limits) → limits_from limits [] ≡ limits
unfolding limits_from
limits_end limits = refl

pub limits_more : (limits next : Limits) (entries : List Entry) (i : ℕ) (d : Entry) → i < length entries → next ≡ with_entry limits (get_or entries i d)
    → limits_from limits (drop i entries) ≡ limits_from next (drop (i + 1) entries)
limits_more limits next entries i d h is =
    ap (limits_from limits) (left_at entries i d h) ∙ limits_step limits (get_or entries i d) (drop (i + 1) entries)
    ∙ ap (λ (m : Limits). limits_from m (drop (i + 1) entries)) (sym is)

pub limits_all : (limits : Limits) (entries : List Entry) (i : ℕ) → length entries ≤ i → limits_from limits (drop i entries) ≡ limits
limits_all limits entries i h = ap (limits_from limits) (drop_all i entries h) ∙ limits_end limits

-- lines that are read, one more
pub lines_next : (entries more : List Entry) (number : ℕ) (line : List ℕ) (further : List (List ℕ)) → with_said entries (said entries number line) ≡ Ok more
    → with_lines entries number (line ∷ further) ≡ with_lines more (suc number) further
unfolding with_lines
lines_next entries more number line further passes =
    ap (λ (r : Result (List Entry) Fault). elim r [ Err wrong ↦ Err wrong | Ok entries ↦ with_lines entries (suc number) further ]) passes

pub lines_fault : (entries : List Entry) (wrong : Fault) (number : ℕ) (line : List ℕ) (further : List (List ℕ)) → with_said entries (said entries number line) ≡ Err wrong
    → with_lines entries number (line ∷ further) ≡ Err wrong
unfolding with_lines
lines_fault entries wrong number line further fails =
    ap (λ (r : Result (List Entry) Fault). elim r [ Err wrong ↦ Err wrong | Ok entries ↦ with_lines entries (suc number) further ]) fails

pub lines_done : (entries : List Entry) (number : ℕ) → with_lines entries number [] ≡ Ok entries
unfolding with_lines
lines_done entries number = refl

pub told_on : (unread : Unread) (a b : Result (List Entry) Fault) → ((wrong : Fault) → a ≡ Err wrong → b ≡ Err wrong) → IsTold unread a → IsTold unread b
told_on (unread.Fault wrong) a b leads told = leads wrong told
told_on unread.NoMemory a b leads told = tt

pub read_on : (text line : List ℕ) (entries more : List Entry) (number : ℕ) (left : Option (Bor (List ℕ))) (further : Option (Bor (List ℕ)))
    → entries_of text ≡ with_lines entries number (lines_behind left) → lines_behind left ≡ line ∷ lines_behind further → with_said entries (said entries number line) ≡ Ok more
    → entries_of text ≡ with_lines more (number + 1) (lines_behind further)
read_on text line entries more number left further so_far is passes =
    let e : suc number ≡ number + 1 = omega arith in
    so_far ∙ ap (with_lines entries number) is ∙ lines_next entries more number line (lines_behind further) passes ∙ ap (λ n. with_lines more n (lines_behind further)) e

pub read_fault : (text line : List ℕ) (entries : List Entry) (number : ℕ) (unread : Unread) (left : Option (Bor (List ℕ))) (further : Option (Bor (List ℕ)))
    → entries_of text ≡ with_lines entries number (lines_behind left) → lines_behind left ≡ line ∷ lines_behind further → IsTold unread (with_said entries (said entries number line))
    → IsTold unread (entries_of text)
read_fault text line entries number unread left further so_far is told =
    told_on unread (with_said entries (said entries number line)) (entries_of text)
    (λ wrong fails. so_far ∙ ap (with_lines entries number) is ∙ lines_fault entries wrong number line (lines_behind further) fails) told
