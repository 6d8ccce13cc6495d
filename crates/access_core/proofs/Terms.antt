-- The names that most proofs cite, passed on from one place. Declares nothing.
pub use Rattle.access_core.specs.Cores.{Core, places_of}
pub use Rattle.access_core.specs.Opening.{IsNumber, first_missing, has_entry, is_capacity, is_index, open_fault, program_in, program_of}
pub use Rattle.access_core.specs.declared.access.AccessCore.TheInside.{Inside}
pub use Rattle.access_core.specs.declared.argument_blocks.ArgumentBlock.{ArgumentBlock}
pub use Rattle.access_core.specs.declared.kernel.Kernel.{Kernel}
pub use Rattle.access_core.specs.declared.queue.Queue.{Queue}
pub use Rattle.access_core.specs.inner.ArgumentBlocks.{AreBlocksOf, block_behind, block_of, bytes_or, all_blocks, has_block, is_block, is_given, lists_denied, lists_one, lists_right, name_of, packet_of, rights_for, rights_of}
pub use Rattle.access_core.specs.inner.Cached.{HoldsNone, IsCached, IsEntered, core_of, error_places, history_of, is_full, origin_of, start_of, table_places}
pub use Rattle.access_core.specs.inner.CachedQueue.{AreLaid, IsSound, QueueView, cached_opening, cached_openings, cached_queue, cached_view, place_of, queue_at}
pub use Rattle.access_core.specs.inner.Closing.{IsRoom, flying_in, places_in, release_from, releases_in, without_blocks, without_queue}
pub use Rattle.access_core.specs.inner.Deciding.{IsBlockPlaced, TakesNext, refusal_of}
pub use Rattle.access_core.specs.inner.Given.{LeavesOut, MarksToo, is_listed}
pub use Rattle.access_core.specs.inner.InPlace.{IsChanged, IsFinishedAs, IsFoundAt, IsInPlace, IsSized, RefusedAt, finish_owed, is_placed}
pub use Rattle.access_core.specs.inner.Laying.{LiesWithin}
pub use Rattle.access_core.specs.inner.LiesInRegions.{lies_in_regions}
pub use Rattle.access_core.specs.inner.Numbers.{AscendFrom, IsNotFrom, IsQueueIndex, IsThere, has_number, queue_in}
pub use Rattle.access_core.specs.inner.Polling.{look_owed, polled_as}
pub use Rattle.access_core.specs.inner.QueueChanges.{CanFail, IsAbove, IsFoundOf, changed_if, freed_by, packet_in, places_freed, with_advance, with_denied, with_leaving, with_queue, without_one}
pub use Rattle.access_core.specs.inner.Running.{FaultsAs, IsHolder, fault_owed, lent_if_held, lent_whole, next_result, region_numbered, view_whole}
pub use Rattle.aql_packet.specs.Ids.{same_packet}
pub use Rattle.aql_packet.specs.Memory.{are_region_lengths, covers}
pub use Rattle.aql_packet.specs.Reading.{barrier_bit, decoded}
pub use Rattle.aql_packet.specs.declared.ids.Address.{Address}
pub use Rattle.aql_packet.specs.declared.ids.AgentHandle.{AgentHandle}
pub use Rattle.aql_packet.specs.declared.ids.ClientId.{ClientId}
pub use Rattle.aql_packet.specs.declared.ids.PacketId.{PacketId}
pub use Rattle.aql_packet.specs.declared.ids.QueueId.{QueueId}
pub use Rattle.aql_packet.specs.declared.ids.SignalHandle.{SignalHandle}
pub use Rattle.aql_packet.specs.declared.packet.KernelDispatch.{KernelDispatch}
pub use Rattle.aql_packet.specs.declared.packet.Packet.{Packet}
pub use Rattle.core_model.proofs.Behind.{all, first, found-whole, granted-now, held-flies, launch-whole, same-state}
pub use Rattle.core_model.proofs.Launches.{IsNext-from_owed, launched_by-is}
pub use Rattle.core_model.proofs.Lists.{all-from_list_all, filter-passes, found-all, found-passes}
pub use Rattle.core_model.proofs.Meeting.{entered-owed, refuse_unless-holds}
pub use Rattle.core_model.proofs.More.{arguments-more, errors-more, held-more, flight-more, in_force-more, is_stopped-more, memory_at-more, next_id-more, openings-more, progress-more, signals-more}
pub use Rattle.core_model.specs.Flight.{flight, flight_after_effect, flight_of, in_flight, is_packet, launched_by, progress, progress_after, progress_by, releases, satisfied_by_either}
pub use Rattle.core_model.specs.Grants.{in_force, in_force_after}
pub use Rattle.core_model.specs.Headline.{AllInForce, HoldsInForce, MayReach, MayReachRange, argument_ranges}
pub use Rattle.core_model.specs.History.{HeldRights, History, Start, opening_state}
pub use Rattle.core_model.specs.Holds.{ObjectRight, arguments_after, arguments_if, arguments_of, gives, held, held_after, held_by_arguments, held_by_needs, held_by_pointer, holds_one_of, is_among, is_launch, is_up_to}
pub use Rattle.core_model.specs.Holds.{least_in_flight, own_rights, right_needed, rights_at_launch}
pub use Rattle.core_model.specs.Kernels.{grid_size, group_size, kernel_of, no_kernel, segments_of, wide_arguments}
pub use Rattle.core_model.specs.LaunchRules.{Facts, asks_for_known_work, cause_to_wait, first_failing_rule, has_dimensions, has_segments, has_sizes, is_barrier, kernel_passes}
pub use Rattle.core_model.specs.LaunchRules.{lies_whole}
pub use Rattle.core_model.specs.LaunchRules.{need_is_met}
pub use Rattle.core_model.specs.Legal.{AreReplies, IsLegal, IsServed, Meets, due, entry_of, lacks_room, may_lack_memory, within_room}
pub use Rattle.core_model.specs.Memory.{byte_after, memory_at, memory_from, signals, signals_after}
pub use Rattle.core_model.specs.Needs.{completion_signal, function_of, memory_needs, needs}
pub use Rattle.core_model.specs.Owed.{Owed, answers, completion_of, enters, error_without_place, facts_of, for_packet, group_error, group_owed, old_if_asked, owed, owed_finish}
pub use Rattle.core_model.specs.Owed.{owed_group}
pub use Rattle.core_model.specs.Owed.{owed_poll, owed_verdict, refuses, release_of, releases_of, signal_decrement}
pub use Rattle.core_model.specs.Queries.{AnswerOrRefusal, listing}
pub use Rattle.core_model.specs.Queues.{OpenQueue, Openings, closes_queue, error_of, errors_after, hands_over_packet_of, is_queue, is_stopped_after, next_id, next_id_after, opening_in, openings, openings_after}
pub use Rattle.core_model.specs.Queues.{owner, stops_queue, with_error}
pub use Rattle.core_model.specs.declared.origin.Opening.{Opening}
pub use Rattle.core_model.specs.Refusals.{refuse_unless}
pub use Rattle.core_model.specs.View.{GivenAtLaunch, RegionRights, as_lent, first_address, given_at_launch, group_input, held_region, held_regions, rights_held}
pub use Rattle.core_model.specs.Work.{agent_writes, function_writes, group_count, result_writes, write_of, write_of_run}
pub use Rattle.core_model.specs.declared.entry.Effect.{Effect}
pub use Rattle.core_model.specs.declared.entry.Effect.TheVariants.{Write}
pub use Rattle.core_model.specs.declared.entry.Entry.{Entry}
pub use Rattle.core_model.specs.declared.event.Event.{Event}
pub use Rattle.core_model.specs.declared.event.Event.TheVariants.{Open, Take, Call}
pub use Rattle.core_model.specs.declared.call.Call.TheVariants.{ChangeSignal, Close, Finish, Grant, HostWrite, Poll, Revoke, RunNext, Stop}
pub use Rattle.core_model.specs.declared.event.CoreRequest.{CoreRequest}
pub use Rattle.core_model.specs.declared.flight.InFlight.{InFlight}
pub use Rattle.core_model.specs.declared.flight.Progress.{Progress}
pub use Rattle.core_model.specs.declared.flight.TheConstants.{LAUNCH_PROGRESS}
pub use Rattle.core_model.specs.declared.limits.TheConstants.{MOST_ENTRIES, QUEUES, MOST_IN_FLIGHT}
pub use Rattle.executor.specs.declared.limits.TheConstants.{MOST_SEGMENT_BYTES}
pub use Rattle.core_model.specs.declared.outcome.Outcome.{Outcome}
pub use Rattle.core_model.specs.declared.outcome.Polled.TheVariants.{Failed}
pub use Rattle.core_model.specs.declared.outcome.Taken.TheVariants.{Denied, Launched, Waiting}
pub use Rattle.core_model.specs.declared.outcome.Worked.TheVariants.{Done, Faulted, Ran}
pub use Rattle.core_model.specs.declared.refusal.Refusal.{Refusal}
pub use Rattle.core_model.specs.inner.Entries.{with_entry}
pub use Rattle.executor.specs.Items.{LentRegion, lent_region}
pub use Rattle.executor.specs.Laws.{AreLentAlike, IsLentAlike}
pub use Rattle.executor.specs.Results.{FailsAs, FinishesAs, GroupResult, broke_rule, group_result, wrote}
pub use Rattle.executor.specs.Runs.{GroupInput, IsRunnable, input_of}
pub use Rattle.executor.specs.declared.dispatch.Dispatch.{Dispatch}
pub use Rattle.executor.specs.declared.written_range.WrittenRange.{WrittenRange}
pub use Rattle.executor.specs.declared.held.HeldRegion.{HeldRegion}
pub use Rattle.grants.specs.Holders.{IsFirstTo, IsUpTo}
pub use Rattle.grants.specs.Pairs.{is_named}
pub use Rattle.grants.specs.Ledger.{IsNew, Ledger, RevokeAnswers, are_in_force, grant_due, rules_in}
pub use Rattle.kernel_check.specs.Programs.{Program, group_bytes_of}
pub use Rattle.packet_processor.specs.Holding.{as_rights}
pub use Rattle.packet_processor.specs.Queueing.{IsFoundIn, as_launched, is_place_of, with_progress, without_packet}
pub use Rattle.packet_processor.specs.declared.places.Place.{Place}
pub use Rattle.policy.proofs.NameLemmas.{numbered-map, numbered-next}
pub use Rattle.policy.specs.Object.{same_object}
pub use Rattle.policy.specs.Policy.{Declared, Name, initial_values, numbered, region_lengths, row_of, rules_of}
pub use Rattle.policy.specs.Rights.{all_rights, bit_of, has, rights_that, set_of}
pub use Rattle.policy.specs.Rules.{Rules, are_allowed, knows_client, knows_object}
pub use Rattle.policy.specs.declared.object.Object.{Object}
pub use Rattle.policy.specs.declared.rights.Right.{Right}
pub use Rattle.policy.specs.declared.rights.Right.TheVariants.{Read}
pub use Rattle.policy.specs.declared.rights.Rights.{Rights}
pub use Rattle.queue_error.specs.declared.error.QueueError.{QueueError}
pub use Rattle.queue_error.specs.declared.rule.Rule.{Rule}
pub use Rattle.queue_error.specs.declared.rule.Rule.TheVariants.{B1}
pub use Rattle.regions.proofs.Laws.{IsWithin-from_test, byte_at-zeros, length-bytes_from, length-region_bytes, lengths_of-zeros, slice_get-bytes_from}
pub use Rattle.regions.proofs.Lookups.{region_length-is, unwrap_or-length_of_region}
pub use Rattle.regions.specs.Memory.{IsMemory, IsWithin, IsWritten, byte_at, bytes_from, is_within, lengths_of, lies_in_region, region_length, zeros}
pub use Rattle.sequences.specs.Room.{Roomy}
pub use Rattle.signals.specs.Values.{applied}
pub use Rattle.std.proofs.lemmas.Bool.{and_parts, leb-true, lt-ltb, ltb-false, ltb-true, or_parts, or_right}
pub use Rattle.std.proofs.lemmas.Bool.Decides.{nat_tests}
pub use Rattle.std.proofs.lemmas.List.{append-nil, length-map, length-replicate, map-append, same_lists, take_all}
pub use Rattle.std.proofs.lemmas.List.Elements.{All-cons, All-filter, All-head, All-map, All-nil, All-push, All-set, All-tail, All-weaker, filter-append}
pub use Rattle.std.proofs.lemmas.List.FromFn.{filter_of_map_range_with_len_more, get_or-map-range_with_len, get_or-range_with_len, length-map-range_with_len, length-range_with_len}
pub use Rattle.std.proofs.lemmas.List.Sums.{count_by-le-length, fold-append}
pub use Rattle.std.proofs.lemmas.Option.{get_or_from_slice_get, slice_get-get_or, slice_get_within}
pub use Rattle.std.specs.List.{flat_map, list_all, list_any, range_with_len, zip}
pub use Rattle.std.specs.Option.{unwrap_or}
pub use Rattle.packet_processor.specs.declared.places.FoundPacket.{FoundPacket}
