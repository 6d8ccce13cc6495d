-- No entry has a number past all of them.
use Rattle.std.proofs.Common.{◌≡◌, ℕ, ◌+◌, ◌-◌, ◌<◌, ◌≤◌, List, length, sym, ap, ◌∙◌, arith, None}
use Rattle.std.proofs.lemmas.Option.{slice_get_past}
use Rattle.policy.specs.Policy.{numbered}
use Rattle.policy.proofs.NameLemmas.{numbered-next}

pub past_all : {X : Type 0} (items : List X) (number : ℕ) → length items < number → None ≡ numbered items number
past_all items number past =
    let back : number - 1 + 1 ≡ number = omega (arith, past) in let beyond : length items ≤ number - 1 = omega (arith, past) in
    sym (slice_get_past items (number - 1) beyond) ∙ sym (numbered-next items (number - 1)) ∙ ap (λ n. numbered items n) back
