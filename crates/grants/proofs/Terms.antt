-- The names that most proofs cite, passed on from one place. Declares nothing.
pub use Rattle.aql_packet.specs.declared.ids.ClientId.{ClientId}
pub use Rattle.aql_packet.specs.declared.ids.PacketId.{PacketId}
pub use Rattle.aql_packet.specs.declared.ids.QueueId.{QueueId}
pub use Rattle.bitflags.specs.Sets.{without}
pub use Rattle.grants.specs.Cells.{Table, cell_of, has_right, in_table, item_at, object_count, object_place}
pub use Rattle.grants.specs.Holders.{IsFirstTo, IsUpTo, same_packet}
pub use Rattle.grants.specs.Holds.{is_held, is_hold, is_on}
pub use Rattle.grants.specs.Ledger.{Holds, Ledger, Releases, holds, in_force, is_holder, rules_in}
pub use Rattle.grants.specs.Pairs.{is_named, is_one_of, same_pair}
pub use Rattle.grants.specs.declared.cell.Cell.{Cell}
pub use Rattle.grants.specs.inner.Counts.{IsCounted, SameRights, count_in, count_of, hold_count, holds_of, is_hold_of, one_for_right, replacement}
pub use Rattle.grants.specs.inner.PacketHolds.{have_common_right, hold_of, holds_one, is_of}
pub use Rattle.policy.proofs.PairLemmas.{both, each_right-has, same_pair_is, same_pair_itself}
pub use Rattle.policy.proofs.RightsLemmas.{has-bit, has-or, has-rights_that}
pub use Rattle.policy.specs.Listing.{objects_of_kind}
pub use Rattle.policy.specs.Object.{object_of}
pub use Rattle.policy.specs.Rights.{all_rights, each_right, has, rights_that}
pub use Rattle.policy.specs.Rules.{Rules, count, knows_client, knows_object}
pub use Rattle.policy.specs.declared.object.Object.{Object}
pub use Rattle.policy.specs.declared.object.Object.TheVariants.{Agent}
pub use Rattle.policy.specs.declared.rights.Right.{Right}
pub use Rattle.policy.specs.declared.rights.Rights.{Rights}
pub use Rattle.std.proofs.lemmas.Bool.{false_from_ne_true, leb-true, ltb-true}
pub use Rattle.std.proofs.lemmas.List.{drop_more, map-append, take_all, take_more}
pub use Rattle.std.proofs.lemmas.List.Elements.{filter-append}
pub use Rattle.std.proofs.lemmas.List.Folds.{list_all_at, list_any-append, list_any_more}
pub use Rattle.std.specs.Box.{boxed_slice_items}
pub use Rattle.std.specs.List.{list_all, list_any, range_with_len}
pub use Rattle.std.specs.Option.{is_some}
pub use Rattle.std.specs.Prelude.{nat_le, nat_lt, slice_get, slice_set}
