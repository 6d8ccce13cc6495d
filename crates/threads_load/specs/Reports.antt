-- What is told of a load, in bytes (own).
use Rattle.std.specs.Prelude.{ℕ, ◌+◌, ◌*◌, ◌==◌, List, [], ◌∷◌, ◌++◌, codes, flat_map, length, Option, Some, None, if◌then◌else◌}
use Rattle.std.specs.Fmt.{decimal}
use Rattle.std.specs.List.{find, range_with_len}
use Rattle.aql_packet.specs.Memory.{region_span}
use Rattle.policy.specs.declared.object.Object.{Object}
use Rattle.policy.specs.declared.object.Object.TheVariants as object
use Rattle.policy.specs.Policy.{Declared}
use Rattle.words.specs.Bytes.{text_of_bytes}
use Rattle.words.specs.Names.{name_of_client, name_of_object}
use Rattle.core_model.specs.History.{Start}
use Rattle.core_model.specs.Memory.{memory_from}
use Rattle.core_model.specs.declared.entry.Entry.{Entry}
use Rattle.threads_load.specs.declared.counting.PacketCounts.{PacketCounts}
use Rattle.threads_load.specs.declared.plan.PlannedQueue.{PlannedQueue}
use Rattle.threads_load.specs.Limits.{number_bytes}
use Rattle.threads_load.specs.declared.report.Ending.{Ending}
use Rattle.threads_load.specs.declared.report.Ending.TheVariants as ending
use Rattle.threads_load.specs.Counts.{counts_at, packet_counts}

-- whose a queue is (own)
abbrev pub text_of_names : Declared → ℕ → PlannedQueue → List ℕ
text_of_names policy queue planned =
    codes "queue " ++ decimal queue ++ codes " client " ++ name_of_client policy planned.client ++ codes " agent " ++ name_of_object policy (object.Agent planned.agent)

-- what was counted of a queue's packets (own)
abbrev pub text_of_counts : PacketCounts → List ℕ
text_of_counts counts =
    codes " launched " ++ decimal counts.launched ++ codes " finished " ++ decimal counts.finished ++ codes " denied " ++ decimal counts.denied ++ 10 ∷ []

-- a queue's line (own)
abbrev pub text_of_queue : Start → List Entry → ℕ → PlannedQueue → List ℕ
text_of_queue start entries queue planned = text_of_names start.policy queue planned ++ text_of_counts (packet_counts entries queue)

-- the lines of planned queues, which are numbered from one on (own)
abbrev pub text_of_queues : Start → List Entry → ℕ → List PlannedQueue → List ℕ
text_of_queues start entries queue [] = []
text_of_queues start entries queue (planned ∷ plan) = text_of_queue start entries queue planned ++ text_of_queues start entries (queue + 1) plan

-- the lines of planned queues by what was counted of them, of which the first stands at a place (own)
abbrev pub text_of_lines : Declared → List PacketCounts → ℕ → List PlannedQueue → List ℕ
text_of_lines policy counts place [] = []
text_of_lines policy counts place (planned ∷ plan) =
    (text_of_names policy (place + 1) planned ++ text_of_counts (counts_at counts place)) ++ text_of_lines policy counts (place + 1) plan

-- the bytes of a region that the load counts in, after these entries (own)
abbrev pub counted_bytes : Start → List Entry → ℕ → List ℕ
counted_bytes start entries region = memory_from start entries (region * region_span) number_bytes

-- a region's line, with these bytes (own)
abbrev pub text_of_region : Declared → ℕ → List ℕ → List ℕ
text_of_region policy region bytes =
    codes "region " ++ decimal region ++ codes " " ++ name_of_object policy (object.Region (record { 0 = region })) ++ codes " " ++ text_of_bytes bytes ++ 10 ∷ []

-- the first planned queue whose packets count in a region (own)
abbrev pub user_of : ℕ → List PlannedQueue → Option PlannedQueue
user_of region plan = find (λ planned. planned.region.0 == region) plan

abbrev pub text_if_some : {X : Type 0} → Option X → List ℕ → List ℕ
text_if_some None text = []
text_if_some (Some x) text = text

-- a region's line, if the load counts in it (own)
abbrev pub text_of_used : Start → List Entry → List PlannedQueue → ℕ → List ℕ
text_of_used start entries plan region = text_if_some (user_of region plan) (text_of_region start.policy region (counted_bytes start entries region))

-- the lines of the regions that the load counts in, in order (own)
abbrev pub text_of_regions : Start → List Entry → List PlannedQueue → List ℕ
text_of_regions start entries plan = flat_map (text_of_used start entries plan) (range_with_len 1 (length start.policy.regions))

-- how the load ended (own)
abbrev pub text_of_ending : Ending → List ℕ
text_of_ending ending.Settled = codes "settled\n"
text_of_ending ending.Unsettled = codes "unsettled\n"
text_of_ending (ending.Mismatch queue packet) = codes "mismatch " ++ decimal queue.0 ++ codes " " ++ decimal packet.0 ++ 10 ∷ []

-- the report of a load, by the entries that were handed out, what the history goes on from behind them, its entries, and the load's
-- plan (own)
abbrev pub text_of_report : Start → List Entry → List Entry → List PlannedQueue → Ending → List ℕ
text_of_report start handed_out entries plan ended =
    text_of_queues start (handed_out ++ entries) 1 plan ++ text_of_regions start entries plan ++ text_of_ending ended
