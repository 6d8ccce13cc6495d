-- A line that asks for the audit is told it as the answer to the query for it.
use Rattle.std.proofs.Common.{List, Ok, inl, refl}
use Rattle.core_model.specs.History.{beginning}
use Rattle.core_model.specs.Queries.{query_answer}
use Rattle.core_model.specs.declared.answer.Answer.TheVariants as told
use Rattle.core_model.specs.declared.event.Query.TheVariants as query
use Rattle.policy.specs.Policy.{Declared}
use Rattle.world.specs.Actions.{asks}
use Rattle.world.specs.declared.reply.Answer.TheVariants as answer
use Rattle.world.specs.declared.request.Request.TheVariants as request
use Rattle.world.specs.States.{Joined}
use Rattle.script.specs.declared.command.Command.TheVariants as command
use Rattle.script.specs.declared.command.NumberMeaning.TheVariants as meaning
use Rattle.script.specs.declared.command.LineAnswer.TheVariants as line
use Rattle.script.specs.Expansions.{does}
use Rattle.script.specs.Runs.{audit_reply}

-- it is what the line does, and nothing changes
pub audit_told : (later : List Declared) (world : Joined) → does later (command.Ask (request.Query query.Audit)) world (audit_reply world) world
unfolding does asks query_answer
audit_told later world =
    (Ok (answer.Core (told.Audit (beginning world.core).before world.core.entries)), world, inl (refl, refl), (refl, refl))
