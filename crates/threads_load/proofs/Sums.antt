-- What is counted in two lists of entries.
use Rattle.std.proofs.Common.{◌≡◌, ℕ, ◌+◌, List, ◌++◌, Bool, length, refl, sym, ap, ◌∙◌}
use Rattle.std.specs.Prelude.{count_by, filter, Result, Ok, Err, IfOk}
use Rattle.std.proofs.lemmas.List.{length-append}
use Rattle.std.proofs.lemmas.List.Elements.{filter-append}
use Rattle.std.proofs.lemmas.List.Sums.{length-filter}
use Rattle.core_model.specs.declared.entry.Entry.{Entry}
use Rattle.threads_load.specs.declared.counting.PacketCounts.{PacketCounts}
use Rattle.threads_load.specs.Counts.{is_completion, is_denial, is_launch, packet_counts}

in_both : {X : Type 0} (test : X → Bool) (one other : List X) → count_by test one + count_by test other ≡ count_by test (one ++ other)
in_both test one other =
    rw (← length-filter test one, ← length-filter test other, ← length-filter test (one ++ other), filter-append test one other, length-append (filter test one) (filter test other)) refl

abbrev IsSum : PacketCounts → PacketCounts → PacketCounts → Type 0
IsSum sum one other = (sum.launched ≡ one.launched + other.launched) × (sum.finished ≡ one.finished + other.finished) × (sum.denied ≡ one.denied + other.denied)

same_counts : (one other : PacketCounts) → one.launched ≡ other.launched → one.finished ≡ other.finished → one.denied ≡ other.denied → one ≡ other
same_counts one other p q r = λ i. record { launched = p i; finished = q i; denied = r i }

-- the counts of two lists are those of both in one
pub both_counts : {E : Type 0} (queue : ℕ) (before entries : List Entry) (counts more : PacketCounts) (result : Result PacketCounts E) → counts ≡ packet_counts before queue → more ≡ packet_counts entries queue
    → IfOk result (λ sum. IsSum sum counts more) → IfOk result (λ sum. sum ≡ packet_counts (before ++ entries) queue)
both_counts queue before entries counts more (Err why) one other is = tt
both_counts queue before entries counts more (Ok sum) one other is =
    let launched : counts.launched + more.launched ≡ count_by (is_launch queue) before + count_by (is_launch queue) entries = λ i. (one i).launched + (other i).launched in
    let finished : counts.finished + more.finished ≡ count_by (is_completion queue) before + count_by (is_completion queue) entries = λ i. (one i).finished + (other i).finished in
    let denied : counts.denied + more.denied ≡ count_by (is_denial queue) before + count_by (is_denial queue) entries = λ i. (one i).denied + (other i).denied in
    same_counts sum (packet_counts (before ++ entries) queue)
    (is.0 ∙ launched ∙ in_both (is_launch queue) before entries)
    (is.1 ∙ finished ∙ in_both (is_completion queue) before entries)
    (is.2 ∙ denied ∙ in_both (is_denial queue) before entries)
