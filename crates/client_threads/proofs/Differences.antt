-- Where two lists differ that begin alike.
use Rattle.std.proofs.Common.{◌≡◌, ℕ, suc, zero, ◌+◌, ◌-◌, ◌<◌, List, [], ◌∷◌, ◌++◌, length, drop, get_or, refl, ap, sym, ◌∙◌, subst, arith, append_assoc}
use Rattle.std.specs.Prelude.{◌≢◌, Some, None, IfOk, Result, Ok, Err, slice_get}
use Rattle.std.specs.List.{cons_option}
use Rattle.std.proofs.lemmas.List.{append-nil, length-append}
use Rattle.std.proofs.lemmas.List.Elements.{filter_map-append}
use Rattle.std.proofs.Math.Numerals.{add-one}
use Rattle.std.proofs.Math.Seq.{drop-cons}
use Rattle.core_model.specs.declared.entry.Entry.{Entry}
use Rattle.core_model.specs.declared.served.Served.{Served}
use Rattle.core_model.specs.History.{Part}
use Rattle.core_model.specs.Rotation.{entries_in}
use Rattle.client_threads.specs.Takes.{DiffersAt, taken_by, takes}
use Rattle.client_threads.specs.inner.Partings.{PartsBefore}

-- ---- entries in turn

takes_at : (entries : List Entry) (i queue : ℕ) (e : Entry) → i < length entries → get_or entries i e ≡ e → takes (drop i entries) queue ≡ cons_option (taken_by queue e.event) (takes (drop (suc i) entries) queue)
takes_at [] i queue e lt is = absurd (omega (arith, lt))
takes_at (x ∷ xs) zero queue e lt is = ap (λ (y : Entry). cons_option (taken_by queue y.event) (takes xs queue)) is
takes_at (x ∷ xs) (suc i) queue e lt is = takes_at xs i queue e (omega (arith, lt)) is

-- so far what was taken is what was served
pub record Reached (entries : List Entry) (queue i : ℕ) (served left : List Served) : Type 0 where
  pub before : List Served
  pub taken : takes entries queue ≡ before ++ takes (drop i entries) queue
  pub served_is : served ≡ before ++ left

pub skip : (entries : List Entry) (queue i : ℕ) (served left : List Served) (e : Entry) → i < length entries → get_or entries i e ≡ e → taken_by queue e.event ≡ None → Reached entries queue i served left → Reached entries queue (i + 1) served left
skip entries queue i served left e lt is none h =
    record {
      before = h.before;
      taken = h.taken ∙ ap (λ xs. h.before ++ xs) (takes_at entries i queue e lt is ∙ ap (λ o. cons_option o (takes (drop (suc i) entries) queue)) none ∙ ap (λ n. takes (drop n entries) queue) (sym (add-one i)));
      served_is = h.served_is;
    }

pub more : (entries : List Entry) (queue i : ℕ) (served left rest : List Served) (e : Entry) (one : Served) → i < length entries → get_or entries i e ≡ e → taken_by queue e.event ≡ Some one → left ≡ one ∷ rest → Reached entries queue i served left → Reached entries queue (i + 1) served rest
more entries queue i served left rest e one lt is some first h =
    record {
      before = h.before ++ one ∷ [];
      taken = h.taken ∙ ap (λ xs. h.before ++ xs) (takes_at entries i queue e lt is ∙ ap (λ o. cons_option o (takes (drop (suc i) entries) queue)) some ∙ ap (λ n. one ∷ takes (drop n entries) queue) (sym (add-one i)))
          ∙ sym (append_assoc h.before (one ∷ []) (takes (drop (i + 1) entries) queue));
      served_is = h.served_is ∙ ap (λ xs. h.before ++ xs) first ∙ sym (append_assoc h.before (one ∷ []) rest);
    }

-- the next packet taken isn't the next served
pub parts_here : (entries : List Entry) (queue i : ℕ) (served left : List Served) (e : Entry) (one : Served) → i < length entries → get_or entries i e ≡ e → taken_by queue e.event ≡ Some one → slice_get left 0 ≢ Some one → Reached entries queue i served left → PartsBefore (takes entries queue) served left
parts_here entries queue i served left e one lt is some other h =
    record {
      alike = h.before;
      one = one;
      more = takes (drop (suc i) entries) queue;
      taken_is = h.taken ∙ ap (λ xs. h.before ++ xs) (takes_at entries i queue e lt is ∙ ap (λ o. cons_option o (takes (drop (suc i) entries) queue)) some);
      served_is = h.served_is;
      other = other;
    }

drop_all : {X : Type 0} (xs : List X) (i : ℕ) → length xs < suc i → drop i xs ≡ []
drop_all [] zero h = refl
drop_all [] (suc i) h = refl
drop_all (x ∷ xs) zero h = absurd (omega (arith, h))
drop_all (x ∷ xs) (suc i) h = drop_all xs i (omega (arith, h))

pub all_alike : (entries : List Entry) (queue i : ℕ) (served left : List Served) → length entries < suc i → Reached entries queue i served left → served ≡ takes entries queue ++ left
all_alike entries queue i served left end h =
    h.served_is ∙ ap (λ xs. xs ++ left) (sym (h.taken ∙ ap (λ es. h.before ++ takes es queue) (drop_all entries i end) ∙ append-nil h.before))

-- ---- lists of entries in turn

pub takes-append : (xs ys : List Entry) (queue : ℕ) → takes (xs ++ ys) queue ≡ takes xs queue ++ takes ys queue
takes-append xs ys queue = filter_map-append (λ entry. taken_by queue entry.event) xs ys

pub same_behind : (xs ys : List Entry) (queue : ℕ) (served mid left : List Served) → served ≡ takes xs queue ++ mid → mid ≡ takes ys queue ++ left → served ≡ takes (xs ++ ys) queue ++ left
same_behind xs ys queue served mid left first second =
    first ∙ ap (λ ss. takes xs queue ++ ss) second ∙ sym (append_assoc (takes xs queue) (takes ys queue) left) ∙ ap (λ ts. ts ++ left) (sym (takes-append xs ys queue))

pub ok_behind : {X E : Type 0} (now : X → List Served) (result : Result X E) (xs ys : List Entry) (queue : ℕ) (served mid : List Served) → served ≡ takes xs queue ++ mid
    → IfOk result (λ left. mid ≡ takes ys queue ++ now left) → IfOk result (λ left. served ≡ takes (xs ++ ys) queue ++ now left)
ok_behind now (Ok left) xs ys queue served mid first second = same_behind xs ys queue served mid (now left) first second
ok_behind now (Err why) xs ys queue served mid first second = tt

pub parts_early : (xs ys : List Entry) (queue : ℕ) (served left : List Served) → PartsBefore (takes xs queue) served left → PartsBefore (takes (xs ++ ys) queue) served left
parts_early xs ys queue served left h =
    record {
      alike = h.alike;
      one = h.one;
      more = h.more ++ takes ys queue;
      taken_is = takes-append xs ys queue ∙ ap (λ ts. ts ++ takes ys queue) h.taken_is ∙ append_assoc h.alike (h.one ∷ h.more) (takes ys queue);
      served_is = h.served_is;
      other = h.other;
    }

pub parts_late : (xs ys : List Entry) (queue : ℕ) (served mid left : List Served) → served ≡ takes xs queue ++ mid → PartsBefore (takes ys queue) mid left → PartsBefore (takes (xs ++ ys) queue) served left
parts_late xs ys queue served mid left first h =
    record {
      alike = takes xs queue ++ h.alike;
      one = h.one;
      more = h.more;
      taken_is = takes-append xs ys queue ∙ ap (λ ts. takes xs queue ++ ts) h.taken_is ∙ sym (append_assoc (takes xs queue) h.alike (h.one ∷ h.more));
      served_is = first ∙ ap (λ ss. takes xs queue ++ ss) h.served_is ∙ sym (append_assoc (takes xs queue) h.alike left);
      other = h.other;
    }

-- ---- parts in turn

-- what all parts say is what these say, and then what those say that are left
pub record Handed (parts : List Part) (queue i : ℕ) (served left : List Served) : Type 0 where
  pub before : List Entry
  pub all : entries_in parts ≡ before ++ entries_in (drop i parts)
  pub served_is : served ≡ takes before queue ++ left

entries_at : (parts : List Part) (i : ℕ) (p : Part) → i < length parts → get_or parts i p ≡ p → entries_in (drop i parts) ≡ p.entries ++ entries_in (drop (suc i) parts)
entries_at parts i p lt is = ap entries_in (drop-cons parts i p lt ∙ ap (λ q. q ∷ drop (suc i) parts) is)

pub part_behind : (parts : List Part) (queue i : ℕ) (served left rest : List Served) (p : Part) → i < length parts → get_or parts i p ≡ p → left ≡ takes p.entries queue ++ rest → Handed parts queue i served left → Handed parts queue (i + 1) served rest
part_behind parts queue i served left rest p lt is same h =
    record {
      before = h.before ++ p.entries;
      all = h.all ∙ ap (λ es. h.before ++ es) (entries_at parts i p lt is ∙ ap (λ n. p.entries ++ entries_in (drop n parts)) (sym (add-one i)))
          ∙ sym (append_assoc h.before p.entries (entries_in (drop (i + 1) parts)));
      served_is = same_behind h.before p.entries queue served left rest h.served_is same;
    }

pub part_parts : (parts : List Part) (queue i : ℕ) (served left rest : List Served) (p : Part) → i < length parts → get_or parts i p ≡ p → PartsBefore (takes p.entries queue) left rest → Handed parts queue i served left → PartsBefore (takes (entries_in parts) queue) served rest
part_parts parts queue i served left rest p lt is other h =
    subst (λ es. PartsBefore (takes es queue) served rest)
    (append_assoc h.before p.entries (entries_in (drop (suc i) parts)) ∙ ap (λ es. h.before ++ es) (sym (entries_at parts i p lt is)) ∙ sym h.all)
    (parts_early (h.before ++ p.entries) (entries_in (drop (suc i) parts)) queue served rest (parts_late h.before p.entries queue served left rest h.served_is other))

pub parts_behind : (parts : List Part) (queue i : ℕ) (served left : List Served) → length parts < suc i → Handed parts queue i served left → served ≡ takes (entries_in parts) queue ++ left
parts_behind parts queue i served left end h =
    h.served_is ∙ ap (λ es. takes es queue ++ left) (sym (h.all ∙ ap (λ ps. h.before ++ entries_in ps) (drop_all parts i end) ∙ append-nil h.before))

-- ---- the place

differs_behind : (before us vs : List Served) → slice_get us 0 ≢ slice_get vs 0 → DiffersAt (before ++ us) (before ++ vs) (length before)
differs_behind [] us vs h = record { below = refl; there = h }
differs_behind (b ∷ bs) us vs h = let r = differs_behind bs us vs h in record { below = ap (λ xs. b ∷ xs) r.below; there = r.there }

place_of : (alike left : List Served) → length (alike ++ left) - length left ≡ length alike
place_of alike left = let both = length-append alike left in omega (arith, both)

differs_left : (taken served alike us left : List Served) → taken ≡ alike ++ us → served ≡ alike ++ left → slice_get us 0 ≢ slice_get left 0 → DiffersAt taken served (length served - length left)
differs_left taken served alike us left taken_is served_is other =
    rw (taken_is, served_is, place_of alike left) (differs_behind alike us left other)

pub differs_there : (taken served left : List Served) → PartsBefore taken served left → DiffersAt taken served (length served - length left)
differs_there taken served left h =
    differs_left taken served h.alike (h.one ∷ h.more) left h.taken_is h.served_is (λ same. h.other (sym same))

not_empty : (left : List Served) → 0 < length left → slice_get {X = Served} [] 0 ≢ slice_get left 0
not_empty [] h = absurd (omega (arith, h))
not_empty (x ∷ xs) h = λ e. absurd (cc)

-- nothing more was taken, but more was served
pub differs_at_end : (taken served left : List Served) → served ≡ taken ++ left → 0 < length left → DiffersAt taken served (length served - length left)
differs_at_end taken served left is some = differs_left taken served taken [] left (sym (append-nil taken)) is (not_empty left some)

pub same_at_end : (taken served left : List Served) → served ≡ taken ++ left → left ≡ [] → taken ≡ served
same_at_end taken served left is none = sym (is ∙ ap (λ ss. taken ++ ss) none ∙ append-nil taken)
