-- What lanes handed over, and what parts took of it.
use Rattle.std.proofs.Common.{◌≡◌, ℕ, suc, zero, ◌+◌, ◌<◌, ◌≤◌, ◌^◌, true, false, Bool, List, [], ◌∷◌, ◌++◌, length, map, take, refl, ap, ◌∙◌, sym, subst, arith, append_assoc}
use Rattle.std.proofs.lemmas.List.{append-nil, length-append}
use Rattle.std.proofs.Math.Numerals.{add-one}
use Rattle.std.specs.Prelude.{◌↔◌, ◌≢◌, ◌==◌, All, Option, Some, None, cond, option_map, slice_get, slice_index_or, slice_set, ⊤}
use Rattle.atomic_table.specs.Seated.{TableId}
use Rattle.aql_packet.specs.declared.ids.QueueId.{QueueId}
use Rattle.core_model.specs.History.{Part}
use Rattle.core_model.specs.Rotation.{GoOn, LeadTo, entries_in}
use Rattle.core_model.specs.declared.entry.Entry.{Entry}
use Rattle.core_model.specs.declared.origin.Origin.{Origin}
use Rattle.core_model.specs.declared.served.Served.{Served}
use Rattle.client_threads.specs.HandedOver.{AreSettledWith, KeepsAll, handed_over, kept_by, kept_in}
use Rattle.client_threads.specs.Lanes.{LaneSeen}
use Rattle.access_core.specs.Cores.{Core}
use Rattle.client_threads.specs.Rings.{QueueRing}
use Rattle.client_threads.specs.Running.{EachGoesOn, GoesOn, IsLaneOf}
use Rattle.client_threads.specs.Takes.{AllAgree, DiffersAt, IsLeastMismatch, lane_at, served_by, served_in, takes}
use Rattle.client_threads.specs.inner.Partings.{HandedBy}
use Rattle.client_threads.specs.inner.SettledEnds.{EndIn}
use Rattle.client_threads.proofs.Differences.{takes-append}

-- ---- lanes that go on

-- a lane went on, where there is one
Went : Option LaneSeen → Option LaneSeen → Type 0
Went None None = ⊤
Went (Some old) (Some new) = GoesOn old new
Went None (Some new) = ⊥
Went (Some old) None = ⊥

module _ (opened : Core) (board : TableId) (rings : List QueueRing) (queue : ℕ) where
  went : (old new : List LaneSeen) → length new ≡ length old → EachGoesOn opened board rings old new → Went (lane_at queue old) (lane_at queue new)
  unfolding Went
  went [] [] same each = tt
  went [] (y ∷ ys) same each = absurd (omega (arith, same))
  went (x ∷ xs) [] same each = absurd (omega (arith, same))
  went (x ∷ xs) (y ∷ ys) same each =
      let on : GoesOn x y = (each zero x (omega arith)).on in
      let rest : Went (lane_at queue xs) (lane_at queue ys) = went xs ys (omega (arith, same)) (λ k d lt. each (suc k) d (omega (arith, lt))) in
      subst (λ (b : Bool). Went (cond (x.queue.0 == queue) (Some x) (lane_at queue xs)) (cond b (Some y) (lane_at queue ys))) (sym (ap (λ (q : QueueId). q.0 == queue) on.queue))
      (elim (x.queue.0 == queue) as (λ b. Went (cond b (Some x) (lane_at queue xs)) (cond b (Some y) (lane_at queue ys))) [ true ↦ on | false ↦ rest ])

went_settled : (old new : Option LaneSeen) (taken : List Served) → Went old new → served_in old ≡ taken ++ kept_in old → served_in new ≡ taken ++ kept_in new
unfolding Went
went_settled None None taken w h = h
went_settled None (Some new) taken w h = absurd w
went_settled (Some old) None taken w h = absurd w
went_settled (Some old) (Some new) taken w h =
    w.served ∙ ap (λ xs. xs ++ w.more) h ∙ append_assoc taken old.kept w.more ∙ ap (λ xs. taken ++ xs) (sym w.kept)

-- parts that were settled with lanes are still, once these have gone on
pub still_settled : (opened : Core) (board : TableId) (rings : List QueueRing) (old new : List LaneSeen) → length new ≡ length old → EachGoesOn opened board rings old new → (parts : List Part) → AreSettledWith parts old → AreSettledWith parts new
still_settled opened board rings old new same each parts h =
    λ queue. went_settled (lane_at queue old) (lane_at queue new) (takes (entries_in parts) queue) (went opened board rings queue old new same each) (h queue)

-- ---- lanes that keep all

keeps_all_at : (queue : ℕ) (lanes : List LaneSeen) → All KeepsAll lanes → served_by lanes queue ≡ kept_by lanes queue
keeps_all_at queue [] h = refl
keeps_all_at queue (l ∷ ls) h =
    let here : KeepsAll l = h zero l (omega arith) in
    let rest = keeps_all_at queue ls (λ k d lt. h (suc k) d (omega (arith, lt))) in
    elim (l.queue.0 == queue) as (λ b. served_in (cond b (Some l) (lane_at queue ls)) ≡ kept_in (cond b (Some l) (lane_at queue ls))) [ true ↦ sym here | false ↦ rest ]

pub keeps_all_settled : (lanes : List LaneSeen) → All KeepsAll lanes → AreSettledWith [] lanes
keeps_all_settled lanes h = λ queue. keeps_all_at queue lanes h

-- ---- lanes that hand over

handed_at : (queue : ℕ) (lanes : List LaneSeen) → lane_at queue (map handed_over lanes) ≡ option_map handed_over (lane_at queue lanes)
handed_at queue [] = refl
handed_at queue (l ∷ ls) =
    let rest = handed_at queue ls in
    elim (l.queue.0 == queue) as (λ b. cond b (Some (handed_over l)) (lane_at queue (map handed_over ls)) ≡ option_map handed_over (cond b (Some l) (lane_at queue ls))) [ true ↦ refl | false ↦ rest ]

served_still : (found : Option LaneSeen) → served_in (option_map handed_over found) ≡ served_in found
served_still None = refl
served_still (Some lane) = refl

kept_none : (found : Option LaneSeen) → kept_in (option_map handed_over found) ≡ []
kept_none None = refl
kept_none (Some lane) = refl

entries_push : (parts : List Part) (part : Part) → entries_in (parts ++ part ∷ []) ≡ entries_in parts ++ part.entries
entries_push [] part = append-nil part.entries
entries_push (p ∷ ps) part = ap (λ es. p.entries ++ es) (entries_push ps part) ∙ sym (append_assoc p.entries (entries_in ps) part.entries)

pub entries_append : (one two : List Part) → entries_in (one ++ two) ≡ entries_in one ++ entries_in two
entries_append [] two = refl
entries_append (p ∷ ps) two = ap (λ es. p.entries ++ es) (entries_append ps two) ∙ sym (append_assoc p.entries (entries_in ps) (entries_in two))

-- all entries, of settled parts, of those behind them and of an audit
pub all_of : (settled parts : List Part) (entries audit : List Entry) → audit ≡ entries → entries_in settled ++ (entries_in parts ++ audit) ≡ entries_in (settled ++ parts) ++ entries
all_of settled parts entries audit is =
    sym (append_assoc (entries_in settled) (entries_in parts) audit) ∙ ap (λ es. es ++ audit) (sym (entries_append settled parts)) ∙ ap (λ es. entries_in (settled ++ parts) ++ es) is

-- where all that was taken is what was served, lanes that hand over what they keep are settled with one part more
pub settled_more : (parts : List Part) (part : Part) (lanes : List LaneSeen) → AllAgree (entries_in parts ++ part.entries) lanes → AreSettledWith (parts ++ part ∷ []) (map handed_over lanes)
settled_more parts part lanes agree = λ queue.
    let taken = takes (entries_in (parts ++ part ∷ [])) queue in
    ap served_in (handed_at queue lanes) ∙ served_still (lane_at queue lanes) ∙ sym (agree queue) ∙ ap (λ es. takes es queue) (sym (entries_push parts part))
    ∙ sym (ap (λ xs. taken ++ xs) (ap kept_in (handed_at queue lanes) ∙ kept_none (lane_at queue lanes)) ∙ append-nil taken)

-- and are of the broker still
pub still_of : (board : TableId) (rings : List QueueRing) (lanes : List LaneSeen) → All (IsLaneOf board rings) lanes → All (IsLaneOf board rings) (map handed_over lanes)
still_of board rings [] h k d lt = absurd (omega (arith, lt))
still_of board rings (l ∷ ls) h zero d lt = let one : IsLaneOf board rings l = h zero l (omega arith) in record { is = one.is; board_is = one.board_is; stands = one.stands }
still_of board rings (l ∷ ls) h (suc k) d lt = still_of board rings ls (λ j e i. h (suc j) e (omega (arith, i))) k d (omega (arith, lt))

-- lanes of which the first so many have handed over
abbrev pub handed_until : ℕ → List LaneSeen → List LaneSeen
handed_until zero lanes = lanes
handed_until (suc n) [] = []
handed_until (suc n) (l ∷ ls) = handed_over l ∷ handed_until n ls

set_here : (n : ℕ) (lanes : List LaneSeen) (lane : LaneSeen) → n < length lanes → lane ≡ slice_index_or (handed_until n lanes) n lane → slice_set (handed_until n lanes) n (handed_over lane) ≡ handed_until (suc n) lanes
set_here n [] lane lt is = absurd (omega (arith, lt))
set_here zero (l ∷ ls) lane lt is = ap (λ (x : LaneSeen). handed_over x ∷ ls) is
set_here (suc n) (l ∷ ls) lane lt is = ap (λ (xs : List LaneSeen). handed_over l ∷ xs) (set_here n ls lane (omega (arith, lt)) is)

pub handed_next : (all lanes : List LaneSeen) (n : ℕ) (lane new : LaneSeen) → n < length all → lanes ≡ handed_until n all → lane ≡ slice_index_or lanes n lane → new ≡ handed_over lane → slice_set lanes n new ≡ handed_until (n + 1) all
handed_next all lanes n lane new lt are is handed =
    let at : lane ≡ slice_index_or (handed_until n all) n lane = is ∙ ap (λ (xs : List LaneSeen). slice_index_or xs n lane) are in
    ap (λ (xs : List LaneSeen). slice_set xs n new) are ∙ ap (slice_set (handed_until n all) n) handed ∙ set_here n all lane lt at ∙ ap (λ k. handed_until k all) (sym (add-one n))

pub all_handed : (n : ℕ) (lanes : List LaneSeen) → length lanes < suc n → handed_until n lanes ≡ map handed_over lanes
all_handed zero [] lt = refl
all_handed zero (l ∷ ls) lt = absurd (omega (arith, lt))
all_handed (suc n) [] lt = refl
all_handed (suc n) (l ∷ ls) lt = ap (λ (xs : List LaneSeen). handed_over l ∷ xs) (all_handed n ls (omega (arith, lt)))

-- ---- where all that was taken and all that was served differ

pub handed_none : (lanes : List LaneSeen) (queue : ℕ) → lane_at queue lanes ≡ None → HandedBy lanes queue 0
handed_none lanes queue none =
    let kept : length (kept_by lanes queue) ≡ 0 = ap (λ o. length (kept_in o)) none in
    let served : length (served_by lanes queue) ≡ 0 = ap (λ o. length (served_in o)) none in
    (omega (arith, kept, served), omega (arith, served))

pub handed_some : (lanes : List LaneSeen) (queue count : ℕ) (lane : LaneSeen) → lane_at queue lanes ≡ Some lane → count + length lane.kept ≡ length lane.served → length lane.served < 2 ^ 64 → HandedBy lanes queue count
handed_some lanes queue count lane is all few =
    let kept : length (kept_by lanes queue) ≡ length lane.kept = ap (λ o. length (kept_in o)) is in
    let served : length (served_by lanes queue) ≡ length lane.served = ap (λ o. length (served_in o)) is in
    (omega (arith, kept, served, all), omega (arith, served, few))

pub id_fits : (lanes : List LaneSeen) (queue count place : ℕ) → HandedBy lanes queue count → place ≤ length (kept_by lanes queue) → count + place < 2 ^ 64
id_fits lanes queue count place h within =
    let all = h.0 in
    let few = h.1 in
    omega (arith, all, few, within)

shifted : (before us vs : List Served) (n place : ℕ) → n ≡ length before + place → DiffersAt us vs place → DiffersAt (before ++ us) (before ++ vs) n
shifted [] us vs n place is h = let e : place ≡ n = omega (arith, is) in subst (DiffersAt us vs) e h
shifted (b ∷ bs) us vs zero place is h = absurd (omega (arith, is))
shifted (b ∷ bs) us vs (suc n) place is h = let r = shifted bs us vs n place (omega (arith, is)) h in record { below = ap (λ xs. b ∷ xs) r.below; there = r.there }

pub same_in_all : (parts : List Part) (rest : List Entry) (lanes : List LaneSeen) (queue : ℕ) → AreSettledWith parts lanes → takes rest queue ≡ kept_by lanes queue → takes (entries_in parts ++ rest) queue ≡ served_by lanes queue
same_in_all parts rest lanes queue settled same =
    takes-append (entries_in parts) rest queue ∙ ap (λ xs. takes (entries_in parts) queue ++ xs) same ∙ sym (settled queue)

pub none_behind : (parts : List Part) (rest : List Entry) (lanes : List LaneSeen) (last : ℕ) → AreSettledWith parts lanes → ((queue : ℕ) → last < queue → takes rest queue ≡ kept_by lanes queue) → (queue : ℕ) → last < queue → takes (entries_in parts ++ rest) queue ≡ served_by lanes queue
none_behind parts rest lanes last settled none = λ queue lt. same_in_all parts rest lanes queue settled (none queue lt)

pub differs_in_all : (parts : List Part) (rest : List Entry) (lanes : List LaneSeen) (queue count place : ℕ) → AreSettledWith parts lanes → HandedBy lanes queue count → DiffersAt (takes rest queue) (kept_by lanes queue) place
    → DiffersAt (takes (entries_in parts ++ rest) queue) (served_by lanes queue) (count + place)
differs_in_all parts rest lanes queue count place settled handed differs =
    let before = takes (entries_in parts) queue in
    let kept = kept_by lanes queue in
    let whole : length (served_by lanes queue) ≡ length before + length kept = ap length (settled queue) ∙ length-append before kept in
    let all = handed.0 in
    let is : count + place ≡ length before + place = omega (arith, whole, all) in
    subst (λ (xs : List Served). DiffersAt xs (served_by lanes queue) (count + place)) (sym (takes-append (entries_in parts) rest queue))
    (subst (λ (ys : List Served). DiffersAt (before ++ takes rest queue) ys (count + place)) (sym (settled queue)) (shifted before (takes rest queue) kept (count + place) place is differs))

-- ---- where settled parts end

module _ (last : Part) (parts : List Part) (start : Origin) where
  goes_behind : (end : Origin) (earlier : List Part) → GoOn end earlier last.start → GoOn end ((earlier ++ last ∷ []) ++ parts) start ↔ GoOn last.end parts start
  goes_behind end [] same = (λ go. go.1, λ go. (same, go))
  goes_behind end (p ∷ ps) h = let rest = goes_behind p.end ps h.1 in (λ go. rest.0 go.1, λ go. (h.0, rest.1 go))

  leads_behind : (earlier : List Part) → LeadTo earlier last.start → LeadTo ((earlier ++ last ∷ []) ++ parts) start ↔ GoOn last.end parts start
  leads_behind [] none = (λ lead. lead.1, λ go. (none, go))
  leads_behind (p ∷ ps) h = let rest = goes_behind p.end ps h.1 in (λ lead. rest.0 lead.1, λ go. (h.0, rest.1 go))

-- whether others lead on behind settled parts is whether they go on from where the last of these ends
pub leads_on : (settled : List Part) (last : Part) (parts : List Part) (start : Origin) (goes : Bool) → EndIn settled (Some last) → goes ≡ true ↔ GoOn last.end parts start → goes ≡ true ↔ LeadTo (settled ++ parts) start
leads_on settled last parts start goes ended is =
    let both = leads_behind last parts start ended.0 ended.2 in
    subst (λ (ps : List Part). goes ≡ true ↔ LeadTo (ps ++ parts) start) (sym ended.1) (λ yes. both.1 (is.0 yes), λ lead. is.1 (both.0 lead))

pub leads_first : (settled parts : List Part) (start : Origin) (goes : Bool) → EndIn settled None → goes ≡ true ↔ LeadTo parts start → goes ≡ true ↔ LeadTo (settled ++ parts) start
leads_first settled parts start goes none is = subst (λ (ps : List Part). goes ≡ true ↔ LeadTo (ps ++ parts) start) (sym none) is

-- no other part stands between
pub is_next : (settled : List Part) (start origin : Origin) (told : Bool) → told ≡ true → (told ≡ true ↔ LeadTo (settled ++ []) start) → start ≡ origin → LeadTo settled origin
is_next settled start origin told said is same = subst (LeadTo settled) same (subst (λ (ps : List Part). LeadTo ps start) (append-nil settled) (is.0 said))

pub not_next : (settled : List Part) (start origin : Origin) (told : Bool) → told ≡ false → (told ≡ true ↔ LeadTo (settled ++ []) start) → start ≡ origin → LeadTo settled origin → ⊥
not_next settled start origin told said is same lead =
    let leads : told ≡ true = is.1 (subst (λ (ps : List Part). LeadTo ps start) (sym (append-nil settled)) (subst (LeadTo settled) (sym same) lead)) in
    let never : true ≡ false = sym leads ∙ said in
    cc

pub ends_in_more : (parts new : List Part) (part : Part) → LeadTo parts part.start → new ≡ parts ++ part ∷ [] → EndIn new (Some part)
ends_in_more parts new part lead is = (parts, is, lead)

-- ---- a part that is settled

-- it has all that lanes keep
pub settled_so : (settled new : List Part) (part : Part) (entries : List Entry) (lanes seen handed : List LaneSeen) → AllAgree (entries_in settled ++ (entries_in [] ++ entries)) seen → entries ≡ part.entries → seen ≡ lanes
    → new ≡ settled ++ part ∷ [] → handed ≡ map handed_over lanes → AreSettledWith new handed
settled_so settled new part entries lanes seen handed agree are same parts left =
    subst (λ (ps : List Part). AreSettledWith ps handed) (sym parts)
    (subst (AreSettledWith (settled ++ part ∷ [])) (sym left)
    (settled_more settled part lanes (subst (AllAgree (entries_in settled ++ part.entries)) same (subst (λ (es : List Entry). AllAgree (entries_in settled ++ es) seen) are agree))))

-- or it differs
pub least_so : (settled : List Part) (part : Part) (entries : List Entry) (lanes seen : List LaneSeen) (queue id : ℕ) → IsLeastMismatch (entries_in settled ++ (entries_in [] ++ entries)) seen queue id → entries ≡ part.entries → seen ≡ lanes
    → IsLeastMismatch (entries_in settled ++ part.entries) lanes queue id
least_so settled part entries lanes seen queue id least are same =
    subst (λ (ls : List LaneSeen). IsLeastMismatch (entries_in settled ++ part.entries) ls queue id) same (subst (λ (es : List Entry). IsLeastMismatch (entries_in settled ++ es) seen queue id) are least)

pub of_so : (lanes handed : List LaneSeen) → handed ≡ map handed_over lanes → (board : TableId) (rings : List QueueRing) → All (IsLaneOf board rings) lanes → All (IsLaneOf board rings) handed
of_so lanes handed is board rings h = subst (All (IsLaneOf board rings)) (sym is) (still_of board rings lanes h)
