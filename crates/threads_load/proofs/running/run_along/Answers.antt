use Rattle.std.proofs.Common.{List, [], ◌++◌, subst, sym}
use Rattle.std.specs.Prelude.{All, IfOk, option_to_list}
use Rattle.core_model.specs.History.{Part}
use Rattle.core_model.specs.Legal.{IsLegalPart}
use Rattle.core_model.specs.Rotation.{entries_in}
use Rattle.client_threads.specs.HandedOver.{AreSettledWith}
use Rattle.threads_load.specs.declared.counting.PacketCounts.{PacketCounts}
use Rattle.threads_load.specs.Counts.{AreCounts}
use Rattle.threads_load.specs.Rounds.{parts_of}
use Rattle.threads_load.proofs.Handing.{all_handed, told_handed}
use Rattle.threads_load.proofs.running.run_along.Goals as goal

pub returns-clause-out : goal.returns-clause-out
returns-clause-out g c =
    let rounds = c.run_rounds-lanes in
    let ended = c.end_rounds-out in
    record {
      settled = subst (λ (ps : List Part). AreSettledWith ps rounds.result.0.items) (sym ended.ensures.settled) rounds.ensures.settled;
      legal = all_handed (λ (ps : List Part). All (IsLegalPart g.B.Room.opened.history.kernels) ps) rounds.new.settled ended.result.0.settled rounds.result.1 ended.result.0.left ended.result.1
          ended.ensures.settled ended.ensures.left ended.ensures.none rounds.ensures.parts rounds.ensures.left;
    }

pub returns-clause-counts : goal.returns-clause-counts
returns-clause-counts g c = λ queues are.
    let rounds = c.run_rounds-lanes in
    let ended = c.end_rounds-out in
    let own : AreCounts (entries_in c.none-settled.result) queues c.args.counts.items = subst (λ (ps : List Part). AreCounts (entries_in ps) queues c.args.counts.items) (sym c.none-settled.ensures) are in
    subst (λ (cs : List PacketCounts). IfOk ended.result.1 (λ _. AreCounts (entries_in (parts_of ended.result.0)) queues cs)) (sym ended.ensures.counts)
    (told_handed (λ (ps : List Part). AreCounts (entries_in ps) queues rounds.new.counts.items) rounds.new.settled ended.result.0.settled rounds.result.1 ended.result.0.left ended.result.1
    ended.ensures.settled ended.ensures.left (rounds.ensures.counts queues own))
