-- The digests so far are written behind their count.
use Rattle.std.proofs.Common.{◌≡◌, ◌++◌, ◌∷◌, [], string_bytes, take, length}
use Rattle.std.specs.Prelude.{flat_map}
use Rattle.journal.specs.Words.{Bytes, Number, behind_blanks}
use Rattle.journal.proofs.heads.write_policies.Given as goal

abbrev pub invariant-loop-policy : goal.invariant-loop-policy
invariant-loop-policy l =
    string_bytes l.out
    ≡ string_bytes l.fn.out ++ behind_blanks (Number 64 (length l.policies) ∷ flat_map (λ digest. Bytes digest ∷ []) (take l.policy-index l.policies))
