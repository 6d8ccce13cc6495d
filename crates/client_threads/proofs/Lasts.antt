-- Queues behind the last.
use Rattle.std.proofs.Common.{◌≡◌, ℕ, suc, zero, ◌<◌, false, List, [], ◌∷◌, ◌++◌, length, refl, ap, sym, ◌∙◌, arith}
use Rattle.std.proofs.lemmas.Bool.Decides.{nat_tests}
use Rattle.std.specs.Prelude.{Some, None, cond, ◌==◌, Bool}
use Rattle.std.specs.List.{AllWithin, cons_option, find}
use Rattle.std.proofs.lemmas.List.Elements.{filter_map-append}
use Rattle.core_model.specs.History.{Part}
use Rattle.core_model.specs.Rotation.{entries_in}
use Rattle.core_model.specs.declared.entry.Entry.{Entry}
use Rattle.core_model.specs.declared.served.Served.{Served}
use Rattle.client_threads.specs.Lanes.{LaneSeen}
use Rattle.client_threads.specs.HandedOver.{kept_by, kept_in}
use Rattle.client_threads.specs.Takes.{taken_by, takes}

pub none_taken : (entries : List Entry) (queue : ℕ) → AllWithin (λ e. taken_by queue e.event ≡ None) entries 0 (length entries) → takes entries queue ≡ []
none_taken [] queue h = refl
none_taken (e ∷ es) queue h =
    ap (λ o. cons_option o (takes es queue)) (h zero e (omega arith) (omega arith))
    ∙ none_taken es queue (λ k d low lt. h (suc k) d (omega arith) (omega (arith, lt)))

pub none_taken_in : (parts : List Part) (queue : ℕ) → AllWithin (λ p. takes p.entries queue ≡ []) parts 0 (length parts) → takes (entries_in parts) queue ≡ []
none_taken_in [] queue h = refl
none_taken_in (p ∷ ps) queue h =
    filter_map-append (λ entry. taken_by queue entry.event) p.entries (entries_in ps)
    ∙ ap (λ ts. ts ++ takes (entries_in ps) queue) (h zero p (omega arith) (omega arith))
    ∙ none_taken_in ps queue (λ k d low lt. h (suc k) d (omega arith) (omega (arith, lt)))

-- neither taken before, nor taken behind, nor kept
pub none_at_all : (xs ys : List Entry) (queue : ℕ) (served : List Served) → takes xs queue ≡ [] → takes ys queue ≡ [] → served ≡ [] → takes (xs ++ ys) queue ≡ served
none_at_all xs ys queue served first second third =
    filter_map-append (λ entry. taken_by queue entry.event) xs ys ∙ ap (λ ts. ts ++ takes ys queue) first ∙ second ∙ sym third

differs : (a b : ℕ) → a < b → (a == b) ≡ false
differs a b lt = grind (arith, nat_tests)

pub none_kept : (rows : List LaneSeen) (last queue : ℕ) → last < queue → AllWithin (λ l. l.queue.0 < suc last) rows 0 (length rows) → kept_by rows queue ≡ []
none_kept [] last queue lt h = refl
none_kept (r ∷ rs) last queue lt h =
    let here : r.queue.0 < suc last = h zero r (omega arith) (omega arith) in
    let no : (r.queue.0 == queue) ≡ false = differs r.queue.0 queue (omega (arith, here, lt)) in
    ap (λ (b : Bool). kept_in (cond b (Some r) (find (λ lane. lane.queue.0 == queue) rs))) no
    ∙ none_kept rs last queue lt (λ k d low l. h (suc k) d (omega arith) (omega (arith, l)))
