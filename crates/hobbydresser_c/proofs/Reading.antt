-- What a client reads is as long as it asked.
use Rattle.std.proofs.Common.{◌≡◌, ℕ, List, [], length, Result, Ok, Err, inl, inr, sym, ap, ◌∙◌}
use Rattle.std.specs.Prelude.{IfOk}
use Rattle.std.proofs.lemmas.List.FromFn.{length-map-range_with_len}
use Rattle.aql_packet.specs.declared.ids.ClientId.{ClientId}
use Rattle.aql_packet.specs.declared.ids.Address.{Address}
use Rattle.core_model.specs.declared.answer.Answer.{Answer}
use Rattle.core_model.specs.declared.answer.Answer.TheVariants as answer
use Rattle.core_model.specs.declared.event.Query.TheVariants as query
use Rattle.core_model.specs.declared.refusal.Refusal.{Refusal}
use Rattle.core_model.specs.History.{History, beginning}
use Rattle.core_model.specs.Legal.{RepliesOrLacks}
use Rattle.core_model.specs.Memory.{memory_at}
use Rattle.core_model.proofs.Seeing.{read-told}
use Rattle.policy.specs.Results.{map_ok}

abbrev bytes_in : Answer → List ℕ
bytes_in (answer.Bytes bytes) = bytes
bytes_in _ = []

pub read_long : (history : History) (client : ClientId) (address : Address) (size : ℕ) (reply : Result (List ℕ) Refusal)
    → RepliesOrLacks (query.HostRead client address size) history (map_ok answer.Bytes reply) → IfOk reply (λ bytes. length bytes ≡ size)
read_long history client address size (Err why) told = tt
read_long history client address size (Ok bytes) (inl replies) =
    let told = read-told (beginning history) history.entries client (answer.Bytes bytes) address size (sym replies) in
    ap (λ it. length (bytes_in it)) told.1 ∙ length-map-range_with_len (memory_at (beginning history) history.entries) address.0 size
read_long history client address size (Ok bytes) (inr lacks) = let wanted = lacks.1 in absurd cc
