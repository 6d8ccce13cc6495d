-- A run of sections is one whole history, and keeps what it was opened with.
use Rattle.std.proofs.Common.{◌≡◌, ◌⊎◌, ℕ, suc, zero, ◌+◌, ◌≤◌, List, [], ◌∷◌, ◌++◌, length, refl, sym, ap, ◌∙◌, subst, ⊎_elim}
use mathlib.Core.List.{IsPrefix}
use Rattle.std.specs.Prelude.{Bool, true, false, ◌==◌, ◌<◌, if◌then◌else◌, Option, Some, None, All}
use Rattle.std.proofs.lemmas.List.{append-nil}
use Rattle.std.proofs.lemmas.Bool.Decides.{nat_tests}
use Rattle.aql_packet.specs.declared.ids.QueueId.{QueueId}
use Rattle.core_model.specs.History.{History, Start, begin, beginning, opening_state}
use Rattle.core_model.specs.Legal.{IsLegal, IsOpening, IsWhole}
use Rattle.core_model.specs.Queues.{owner}
use Rattle.core_model.specs.declared.origin.Opening.{Opening}
use Rattle.core_model.specs.States.{state_after}
use Rattle.core_model.specs.declared.entry.Entry.{Entry}
use Rattle.core_model.proofs.States.{begin-opening, join-end, join-legal, legal-whole, state-now, whole-legal}
use Rattle.access_core.specs.Cores.{Core}
use Rattle.client_threads.specs.Sections.{AllFollow, Follows, IsFirst, gone, last_of, whole}
use Rattle.client_threads.proofs.Numbers.{is_closed_by, open_in_parts, owner_follows}
use Rattle.client_threads.proofs.Sections.{grows, none_out, number_same, same_number}

-- ---- what stays

pub same_kernels : (opened : Core) (left : List Core) → AllFollow opened left → (last_of opened left).history.kernels ≡ opened.history.kernels
same_kernels opened [] all = refl
same_kernels opened (c ∷ cs) all = same_kernels c cs all.1 ∙ all.0.follows.kernels

pub same_declared : (opened : Core) (left : List Core) → AllFollow opened left → (last_of opened left).history.origin.policy ≡ opened.history.origin.policy
same_declared opened [] all = refl
same_declared opened (c ∷ cs) all = same_declared c cs all.1 ∙ all.0.follows.declared

pub same_room : (opened : Core) (left : List Core) → AllFollow opened left → (last_of opened left).history.capacity ≡ opened.history.capacity
same_room opened [] all = refl
same_room opened (c ∷ cs) all = same_room c cs all.1 ∙ all.0.follows.capacity

-- ---- one whole history

-- where the numbers of entries go on, the same is begun from
begun_same : (a b : History) → Follows a b → b.origin.before ≡ a.origin.before → beginning b ≡ beginning a
begun_same a b f same =
    ⊎_elim
    (λ (t : (b.origin ≡ a.origin) × IsPrefix a.entries b.entries). λ i. begin (f.kernels i) (t.0 i))
    (λ (t : beginning b ≡ state_after (beginning a) a.entries). t ∙ (ap (state_after (beginning a)) (none_out a b t same) ∙ state-now (beginning a)))
    f.goes

-- where they don't, all were handed out
begun_behind : (a b : History) → Follows a b → (b.origin.before == a.origin.before) ≡ false → beginning b ≡ state_after (beginning a) a.entries
begun_behind a b f other =
    ⊎_elim
    (λ (t : (b.origin ≡ a.origin) × IsPrefix a.entries b.entries). absurd (let yes = same_number b.origin.before a.origin.before (ap (λ o. o.before) t.0) in let no : true ≡ false = sym yes ∙ other in cc))
    (λ (t : beginning b ≡ state_after (beginning a) a.entries). t)
    f.goes

-- what is known halfway: the entries so far are legal, and the core goes on from the state behind them
record IsHalfway (s : Start) (earlier : List Entry) (core : Core) : Type 0 where
  legal : IsLegal s earlier
  there : beginning core.history ≡ state_after s earlier
  own : IsLegal (beginning core.history) core.history.entries

next_halfway : (s : Start) (earlier : List Entry) (a b : Core) → IsHalfway s earlier a → Follows a.history b.history → IsLegal (beginning b.history) b.history.entries → (same : Bool) → (b.history.origin.before == a.history.origin.before) ≡ same
    → IsHalfway s (earlier ++ (if same then [] else a.history.entries)) b
next_halfway s earlier a b h f legal true is =
    subst (λ (es : List Entry). IsHalfway s es b) (sym (append-nil earlier))
    (record { legal = h.legal; there = begun_same a.history b.history f (number_same b.history.origin.before a.history.origin.before is) ∙ h.there; own = legal })
next_halfway s earlier a b h f legal false is = record {
  legal = join-legal s earlier (beginning a.history) a.history.entries h.legal h.own h.there;
  there = begun_behind a.history b.history f is ∙ join-end s earlier (beginning a.history) a.history.entries h.there;
  own = legal;
}

whole_legal : (s : Start) (earlier : List Entry) (core : Core) (left : List Core) → IsHalfway s earlier core → AllFollow core left → IsLegal s (whole earlier core left)
whole_legal s earlier core [] h all = join-legal s earlier (beginning core.history) core.history.entries h.legal h.own h.there
whole_legal s earlier core (c ∷ cs) h all =
    whole_legal s (earlier ++ gone core c) c cs (next_halfway s earlier core c h all.0.follows all.0.legal (c.history.origin.before == core.history.origin.before) refl) all.1

opening_whole : (h : History) → IsWhole (opening_state h.origin.policy h.kernels) []
opening_whole h = record { opens = refl; legal = tt }

-- a core that is opened has a legal audit, without an entry
first_legal : (opened : Core) → IsFirst opened → IsLegal (beginning opened.history) []
first_legal opened first =
    subst (λ (s : Start). IsLegal s []) (sym (begin-opening opened.history.origin.policy opened.history.kernels opened.history.origin first.origin_is))
    (whole-legal (opening_state opened.history.origin.policy opened.history.kernels) [] (opening_whole opened.history))

pub run_whole : (opened : Core) (left : List Core) → IsFirst opened → AllFollow opened left → IsWhole (beginning opened.history) (whole [] opened left)
run_whole opened left first all =
    let s = beginning opened.history in
    let legal : IsLegal s [] = first_legal opened first in
    legal-whole s (whole [] opened left)
    (whole_legal s [] opened left (record { legal = legal; there = sym (state-now s); own = subst (IsLegal s) (sym first.entries_are) legal }) all)
    first.origin_is.before

-- ---- queues

-- a queue that no entry closes keeps its opening
pub owners_stay : (earlier : List Entry) (old : Core) (left : List Core) (queue : QueueId) (opening : Opening) → AllFollow old left → owner (beginning old.history) old.history.entries queue ≡ Some opening
    → is_closed_by queue (whole earlier old left) ≡ false → owner (beginning (last_of old left).history) (last_of old left).history.entries queue ≡ Some opening
owners_stay earlier old [] queue opening all is unclosed = is
owners_stay earlier old (c ∷ cs) queue opening all is unclosed =
    let now = earlier ++ gone old c in
    let begun : IsPrefix (now ++ c.history.entries) (whole now c cs) = grows now c cs all.1 in
    let among = open_in_parts (now ++ c.history.entries) begun.0 queue (subst (λ (es : List Entry). is_closed_by queue es ≡ false) (sym begun.1) unclosed) in
    let own = open_in_parts now c.history.entries queue among.0 in
    owners_stay now c cs queue opening all.1 (owner_follows old.history c.history queue opening all.0.follows own.1 is) unclosed

pub opening_stays : (old : Core) (left : List Core) (queue : QueueId) (opening : Opening) → AllFollow old left → owner (beginning old.history) old.history.entries queue ≡ Some opening
    → is_closed_by queue (whole [] old left) ≡ false → owner (beginning (last_of old left).history) (last_of old left).history.entries queue ≡ Some opening
opening_stays = owners_stay []
