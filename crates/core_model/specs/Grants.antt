-- Which rights are in force: what was granted, and neither revoked since nor taken by other rows.
use Rattle.std.specs.Prelude.{ℕ, List, fold, Bool, ◌&&◌, ◌||◌, not}
use Rattle.aql_packet.specs.declared.ids.ClientId.{ClientId}
use Rattle.policy.specs.declared.object.Object.{Object}
use Rattle.policy.specs.declared.object.Object.TheVariants as object
use Rattle.policy.specs.declared.rights.Right.{Right}
use Rattle.policy.specs.Pairs.{is_one_of}
use Rattle.policy.specs.Policy.{region_lengths}
use Rattle.regions.specs.Memory.{is_within, region_of}
use Rattle.core_model.specs.declared.event.Event.{Event}
use Rattle.core_model.specs.declared.event.Event.TheVariants.{Reload, Call}
use Rattle.core_model.specs.declared.call.Call.TheVariants.{Grant, Revoke}
use Rattle.policy.specs.Rules.{rows_allow}
use Rattle.core_model.specs.declared.entry.Entry.{Entry}
use Rattle.core_model.specs.History.{Start}

-- whether a client's right on an object is in force after an event, by whether it was before (own)
abbrev pub in_force_after : ClientId → Object → Right → Bool → Event → Bool
in_force_after client object right before (Call (Grant c o rights)) = before || is_one_of client object right c o rights
in_force_after client object right before (Call (Revoke c o rights)) = before && not (is_one_of client object right c o rights)
in_force_after client object right before (Reload rows) = before && rows_allow rows client object right
in_force_after client object right before _ = before

-- whether a client's right on an object is in force: it was at the start, or a grant gave it, and no later revocation or reload took it (own)
unfoldable pub in_force : Start → List Entry → ClientId → Object → Right → Bool
in_force start entries client object right = fold (λ before entry. in_force_after client object right before entry.event) (start.in_force client object right) entries

-- whether a range lies whole in one region, and the client's right on that region is in force (own)
abbrev pub in_force_on_range : Start → List Entry → ClientId → Right → ℕ → ℕ → Bool
in_force_on_range start entries client right address size =
    is_within (region_lengths start.policy) address size && in_force start entries client (object.Region (record { 0 = region_of address })) right
