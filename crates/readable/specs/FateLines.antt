-- How it is told what came of packets in a drain: a line each (own).
use Rattle.std.specs.Prelude.{ℕ, ◌==◌, List, [], ◌++◌, Option, Some, None, flat_map, codes, decimal, if◌then◌else◌}
use Rattle.aql_packet.specs.declared.packet.Packet.{Packet}
use Rattle.aql_packet.specs.declared.packet.Packet.TheVariants as packet
use Rattle.core_model.specs.declared.need.TheConstants.{ADD64, COPY, FILL}
use Rattle.policy.specs.Policy.{Declared}
use Rattle.policy.specs.declared.object.Object.TheVariants as object
use Rattle.queue_error.specs.Texts.{text_of_rule}
use Rattle.words.specs.Names.{name_of_object}
use Rattle.readable.specs.declared.fates.Ending.{Ending}
use Rattle.readable.specs.declared.fates.Ending.TheVariants as ending
use Rattle.readable.specs.declared.fates.Fate.{Fate}

-- what an agent's function is called in readable lines
abbrev pub word_of_function : ℕ → List ℕ
word_of_function function = if function == FILL then codes "fill" else if function == COPY then codes "copy" else if function == ADD64 then codes "add" else []

-- what a packet is: its kernel by name, or the word that begins its readable line
abbrev pub text_of_packet : Declared → Packet → List ℕ
text_of_packet policy (packet.Kernel kernel) = codes " kernel " ++ name_of_object policy (object.Kernel kernel.kernel_object)
text_of_packet policy (packet.Agent agent) = codes " " ++ word_of_function agent.function
text_of_packet policy (packet.BarrierAnd barrier) = codes " all-of"
text_of_packet policy (packet.BarrierOr barrier) = codes " any-of"

abbrev pub text_of_about : Declared → Option Packet → List ℕ
text_of_about policy None = []
text_of_about policy (Some packet) = text_of_packet policy packet

-- how many of its groups ran, if one did
abbrev pub text_of_ran : ℕ → List ℕ
text_of_ran ran = if ran == 0 then [] else codes " ran " ++ decimal ran

-- how it ended, with the rule that it broke
abbrev pub text_of_ending : Ending → List ℕ
text_of_ending ending.Open = []
text_of_ending (ending.Denied rule) = codes " denied " ++ text_of_rule rule
text_of_ending (ending.Faulted rule) = codes " faulted " ++ text_of_rule rule
text_of_ending (ending.Failed rule) = codes " failed " ++ text_of_rule rule
text_of_ending ending.Finished = codes " finished"

-- which packet it is
abbrev pub text_of_name : Fate → List ℕ
text_of_name f = codes "packet " ++ decimal f.queue.0 ++ codes " " ++ decimal f.packet.0

-- how it got on
abbrev pub text_of_course : Fate → List ℕ
text_of_course f = (if f.launched then codes " launched" else []) ++ text_of_ran f.ran ++ (if f.ready then codes " ready" else [])

-- its line
unfoldable pub text_of_fate : Declared → Fate → List ℕ
text_of_fate policy f = text_of_name f ++ text_of_about policy f.about ++ text_of_course f ++ text_of_ending f.ending ++ codes "\n"

-- the lines of packets, in order
abbrev pub text_of_fates : Declared → List Fate → List ℕ
text_of_fates policy fates = flat_map (text_of_fate policy) fates
