-- What each query is answered: a function of the history alone.
use Rattle.std.specs.Prelude.{Bool, List, Result, Ok, Err}
use Rattle.std.specs.List.{list_any}
use Rattle.aql_packet.specs.declared.ids.ClientId.{ClientId}
use Rattle.signals.specs.Values.{meets, value_of}
use Rattle.policy.specs.declared.object.Object.{Object}
use Rattle.policy.specs.declared.object.Object.TheVariants as object
use Rattle.policy.specs.declared.rights.Right.TheVariants as right
use Rattle.policy.specs.declared.rights.Rights.{Rights}
use Rattle.policy.specs.Listing.{all_objects, listing_by}
use Rattle.policy.specs.Rights.{all_rights}
use Rattle.policy.specs.Rules.{count, knows_client}
use Rattle.policy.specs.Policy.{rules_of}
use Rattle.core_model.specs.declared.event.Query.{Query}
use Rattle.core_model.specs.declared.event.Query.TheVariants as query
use Rattle.core_model.specs.declared.answer.Answer.{Answer}
use Rattle.core_model.specs.declared.answer.Answer.TheVariants as answer
use Rattle.core_model.specs.declared.entry.Entry.{Entry}
use Rattle.core_model.specs.declared.refusal.Refusal.{Refusal}
use Rattle.core_model.specs.declared.refusal.Refusal.TheVariants as refusal
use Rattle.core_model.specs.Refusals.{for_some, refuse_unless}
use Rattle.core_model.specs.History.{Start}
use Rattle.core_model.specs.Grants.{in_force, in_force_on_range}
use Rattle.core_model.specs.Memory.{memory_from, signals}
use Rattle.core_model.specs.Queues.{owner, errors}
use Rattle.core_model.specs.Owed.{is_host_size}

-- the reply to a query: an answer, or why it is refused (own)
abbrev pub AnswerOrRefusal : Type 0
AnswerOrRefusal = Result Answer Refusal

-- whether a client has some right in force on an object (own)
abbrev pub has_some_right : Start → List Entry → ClientId → Object → Bool
has_some_right start entries client on = list_any (in_force start entries client on) all_rights

-- the listing of a client: each object on which it has a right in force, with those rights, by kind and number (own)
abbrev pub listing : Start → List Entry → ClientId → List (Object × Rights)
listing start entries client = listing_by (in_force start entries client) (all_objects (count (rules_of start.policy)))

-- what a query is answered after these entries: its refusals in order, then its answer (own)
unfoldable pub query_answer : Start → List Entry → Query → AnswerOrRefusal
query_answer start entries (query.HostRead client address size) =
    refuse_unless (knows_client (rules_of start.policy) client) (Err refusal.UnknownClient)
    (refuse_unless (is_host_size size) (Err refusal.BadSize)
    (refuse_unless (in_force_on_range start entries client right.Read address.0 size) (Err (refusal.Denied right.Read))
    (Ok (answer.Bytes (memory_from start entries address.0 size)))))
query_answer start entries (query.LoadSignal client signal) =
    refuse_unless (knows_client (rules_of start.policy) client) (Err refusal.UnknownClient)
    (refuse_unless (in_force start entries client (object.Signal signal) right.Wait) (Err (refusal.Denied right.Wait))
    (for_some (value_of (signals start entries) signal.0) (Err (refusal.Denied right.Wait)) (λ value. Ok (answer.Value value))))
query_answer start entries (query.TestSignal client signal condition than) =
    refuse_unless (knows_client (rules_of start.policy) client) (Err refusal.UnknownClient)
    (refuse_unless (in_force start entries client (object.Signal signal) right.Wait) (Err (refusal.Denied right.Wait))
    (for_some (value_of (signals start entries) signal.0) (Err (refusal.Denied right.Wait)) (λ value. Ok (answer.Test (meets condition value than)))))
query_answer start entries (query.List client) =
    refuse_unless (knows_client (rules_of start.policy) client) (Err refusal.UnknownClient)
    (Ok (answer.Listing (listing start entries client)))
query_answer start entries (query.Errors queue) =
    for_some (owner start entries queue) (Err refusal.UnknownQueue) (λ opening. Ok (answer.Errors (errors start entries queue)))
query_answer start entries query.Audit = Ok (answer.Audit start.before entries)
