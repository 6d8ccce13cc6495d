-- How many queues were ever opened, and whose those are that are open.
use Rattle.std.proofs.Common.{◌≡◌, ℕ, ◌+◌, ◌<◌, ◌≤◌, List, [], ◌∷◌, ◌++◌, Bool, true, false, refl, sym, ap, ◌∙◌, subst, ⊎_elim, arith}
use mathlib.Core.List.{IsPrefix}
use Rattle.std.specs.Prelude.{◌||◌, Some}
use Rattle.std.specs.List.{list_any}
use Rattle.std.proofs.lemmas.List.Folds.{list_any-append}
use Rattle.aql_packet.specs.declared.ids.QueueId.{QueueId}
use Rattle.core_model.specs.History.{History, Openings, Start, begin, beginning}
use Rattle.core_model.specs.Queues.{closes_queue, opening_in, openings, openings_after, owner}
use Rattle.core_model.specs.States.{state_after}
use Rattle.core_model.specs.declared.origin.Opening.{Opening}
use Rattle.core_model.specs.declared.entry.Entry.{Entry}
use Rattle.core_model.specs.declared.event.Event.{Event}
use Rattle.core_model.specs.declared.event.Event.TheVariants.{Open, Take, Reload, Call}
use Rattle.core_model.specs.declared.call.Call.TheVariants.{Grant, Revoke, Stop, Close, RunNext, Poll, Finish, HostWrite, ChangeSignal}
use Rattle.core_model.proofs.Openings.{openings-along, owner-stays}
use Rattle.access_core.specs.Cores.{Core}
use Rattle.client_threads.specs.Opening.{opened_so_far}
use Rattle.client_threads.specs.Sections.{AllFollow, Follows, last_of}

-- the openings behind entries are those of the state behind them
openings_now : (s : Start) (es : List Entry) → openings (state_after s es) [] ≡ openings s es
unfolding openings
openings_now s es = refl

-- ---- how many were opened

same_le : (n : ℕ) → n ≤ n
same_le n = omega arith

one_more_le : (n m : ℕ) → n ≤ m → n ≤ m + 1
one_more_le n m le = omega (arith, le)

pub trans_le : (a b c : ℕ) → a ≤ b → b ≤ c → a ≤ c
trans_le a b c first rest = omega (arith, first, rest)

pub equal_le : (a b n : ℕ) → a ≡ n → b ≡ n → a ≤ b
equal_le a b n one other = omega (arith, one, other)

pub next_positive : (a n : ℕ) → a ≡ n + 1 → 0 < a
next_positive a n is = omega (arith, is)

pub never_behind : (n : ℕ) → n + 1 ≤ n → ⊥
never_behind n le = omega (arith, le)

up_to_after : (n : ℕ) (before : Openings) (event : Event) → n ≤ before.opened → n ≤ (openings_after before event).opened
up_to_after n before (Open _ _ _) le = one_more_le n before.opened le
up_to_after n before (Take _ _ _) le = le
up_to_after n before (Reload _) le = le
up_to_after n before (Call (Grant _ _ _)) le = le
up_to_after n before (Call (Revoke _ _ _)) le = le
up_to_after n before (Call (Stop _)) le = le
up_to_after n before (Call (Close _)) le = le
up_to_after n before (Call (RunNext _ _)) le = le
up_to_after n before (Call (Poll _ _)) le = le
up_to_after n before (Call (Finish _ _)) le = le
up_to_after n before (Call (HostWrite _ _ _)) le = le
up_to_after n before (Call (ChangeSignal _ _ _)) le = le

opened_along : (n : ℕ) (s : Start) (es more : List Entry) → n ≤ (openings s es).opened → n ≤ (openings s (es ++ more)).opened
opened_along n s es more le = openings-along s (λ o. n ≤ o.opened) (up_to_after n) es more le

opened_follows : (a b : History) → Follows a b → opened_so_far a ≤ opened_so_far b
opened_follows a b f =
    ⊎_elim
    (λ (t : (b.origin ≡ a.origin) × IsPrefix a.entries b.entries).
    subst (λ (s : Start). opened_so_far a ≤ (openings s b.entries).opened) (sym (λ i. begin (f.kernels i) (t.0 i)))
    (subst (λ (es : List Entry). opened_so_far a ≤ (openings (beginning a) es).opened) t.1.1 (opened_along (opened_so_far a) (beginning a) a.entries t.1.0 (same_le (opened_so_far a)))))
    (λ (t : beginning b ≡ state_after (beginning a) a.entries).
    subst (λ (s : Start). opened_so_far a ≤ (openings s b.entries).opened) (sym t)
    (opened_along (opened_so_far a) (state_after (beginning a) a.entries) [] b.entries
    (subst (λ (o : Openings). opened_so_far a ≤ o.opened) (sym (openings_now (beginning a) a.entries)) (same_le (opened_so_far a)))))
    f.goes

opened_stays : (old : Core) (left : List Core) → AllFollow old left → opened_so_far old.history ≤ opened_so_far (last_of old left).history
opened_stays old [] all = same_le (opened_so_far old.history)
opened_stays old (c ∷ cs) all =
    trans_le (opened_so_far old.history) (opened_so_far c.history) (opened_so_far (last_of c cs).history) (opened_follows old.history c.history all.0.follows) (opened_stays c cs all.1)

-- queues that were opened in a state that was seen were opened
pub opened_grows : (opened : Core) (known left : List Core) → IsPrefix known left → AllFollow opened left → opened_so_far (last_of opened known).history ≤ opened_so_far (last_of opened left).history
opened_grows opened [] left p all = opened_stays opened left all
opened_grows opened (x ∷ xs) [] p all = absurd (cc (p.1))
opened_grows opened (x ∷ xs) (y ∷ ys) p all =
    let heads : x ≡ y = cc (p.1) in
    subst (λ (z : Core). opened_so_far (last_of z xs).history ≤ opened_so_far (last_of y ys).history) (sym heads) (opened_grows y xs ys (p.0, cc (p.1)) all.1)

-- ---- whose they are

-- whether an entry of some closes a queue
abbrev pub is_closed_by : QueueId → List Entry → Bool
is_closed_by queue es = list_any (λ entry. closes_queue queue entry.event) es

neither : (a b : Bool) → (a || b) ≡ false → (a ≡ false) × (b ≡ false)
neither true b e = absurd cc
neither false b e = (refl, e)

pub open_in_parts : (es more : List Entry) (queue : QueueId) → is_closed_by queue (es ++ more) ≡ false → (is_closed_by queue es ≡ false) × (is_closed_by queue more ≡ false)
open_in_parts es more queue unclosed =
    neither (is_closed_by queue es) (is_closed_by queue more) (sym (list_any-append (λ (entry : Entry). closes_queue queue entry.event) es more) ∙ unclosed)

-- a queue that no entry closes stays its opener's
pub owner_follows : (a b : History) (queue : QueueId) (opening : Opening) → Follows a b → is_closed_by queue b.entries ≡ false → owner (beginning a) a.entries queue ≡ Some opening → owner (beginning b) b.entries queue ≡ Some opening
owner_follows a b queue opening f unclosed is =
    ⊎_elim
    (λ (t : (b.origin ≡ a.origin) × IsPrefix a.entries b.entries).
    let more_open = (open_in_parts a.entries t.1.0 queue (subst (λ (es : List Entry). is_closed_by queue es ≡ false) (sym t.1.1) unclosed)).1 in
    subst (λ (s : Start). owner s b.entries queue ≡ Some opening) (sym (λ i. begin (f.kernels i) (t.0 i)))
    (subst (λ (es : List Entry). owner (beginning a) es queue ≡ Some opening) t.1.1 (owner-stays (beginning a) a.entries t.1.0 queue opening more_open is)))
    (λ (t : beginning b ≡ state_after (beginning a) a.entries).
    subst (λ (s : Start). owner s b.entries queue ≡ Some opening) (sym t)
    (owner-stays (state_after (beginning a) a.entries) [] b.entries queue opening unclosed (ap (λ (o : Openings). opening_in o.queues queue) (openings_now (beginning a) a.entries) ∙ is)))
    f.goes
