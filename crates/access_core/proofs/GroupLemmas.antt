-- How many work-groups kernel dispatches have, and what is known of them in flight.
use Rattle.std.proofs.Common.{List, ◌≡◌, ◌<◌, ◌≤◌, ◌^◌, ◌&&◌, true, arith, nat_le}
use Rattle.access_core.proofs.Terms.{Entry, Facts, HoldsInForce, InFlight, IsLegal, IsSized, KernelDispatch, MOST_SEGMENT_BYTES, PacketId, Program, QueueId, Start, and_parts}
use Rattle.access_core.proofs.Terms.{arguments_of}
use Rattle.access_core.proofs.Terms.{asks_for_known_work, facts_of, found-passes, grid_size, group_bytes_of, group_size, has_dimensions, has_segments, has_sizes}
use Rattle.access_core.proofs.Terms.{all, first, found-whole, in_flight, launch-whole, same-state, kernel_passes, leb-true, list_all, ltb-true, nat_tests, need_is_met, needs, numbered, numbered-map, segments_of}
use Rattle.executor.specs.Locations.{count_of, groups_of}
use Rattle.core_model.specs.declared.kernel.KernelSegments.{KernelSegments}
use Rattle.std.proofs.Common.{Option, Some, None, sym, ap, ◌∙◌, subst, refl, false, option_map}
use Rattle.aql_packet.specs.declared.packet.Packet.TheVariants as packet
use Rattle.queue_error.specs.declared.rule.Rule.TheVariants as rule
use Rattle.std.proofs.Common.{Bool, length}
use Rattle.core_model.specs.Holds.{arguments}
use Rattle.access_core.proofs.LaunchLemmas.{block-long}

-- what is known of sizes that may be
pub record AreSizes (d : KernelDispatch) : Type 0 where
  pub some_x : 1 ≤ d.workgroup_size_x
  pub some_y : 1 ≤ d.workgroup_size_y
  pub some_z : 1 ≤ d.workgroup_size_z
  pub grid_x : 1 ≤ d.grid_size_x
  pub grid_y : 1 ≤ d.grid_size_y
  pub grid_z : 1 ≤ d.grid_size_z
  pub fits_x : d.workgroup_size_x ≤ d.grid_size_x
  pub fits_y : d.workgroup_size_y ≤ d.grid_size_y
  pub fits_z : d.workgroup_size_z ≤ d.grid_size_z
  pub few_items : count_of (group_size d) ≤ 1024
  pub few_groups : count_of (groups_of (grid_size d) (group_size d)) < 2 ^ 32

pub groups_fit : (d : KernelDispatch) → has_sizes d ≡ true → AreSizes d
groups_fit d is = record {
  some_x = grind arith;
  some_y = grind arith;
  some_z = grind (arith, nat_tests);
  grid_x = grind arith;
  grid_y = grind arith;
  grid_z = grind (arith, nat_tests);
  fits_x = grind arith;
  fits_y = grind arith;
  fits_z = grind (arith, nat_tests);
  few_items = grind (arith, nat_tests);
  few_groups = ltb-true _ _ (and_parts (has_dimensions d && nat_le (count_of (group_size d)) 1024) _ is).1;
}

-- ---- packets in flight

module _ (start : Start) (es : List Entry) (f : InFlight) (launch-of : HoldsInForce start es f) where
  -- it asks for work that can be done
  asks-known : asks_for_known_work f.packet ≡ true
  asks-known =
      let facts = facts_of start launch-of.launch.before launch-of.launch.opening in
      ap asks_for_known_work (sym launch-of.packet_is)
      ∙ (and_parts (asks_for_known_work launch-of.launch.packet) (list_all (need_is_met facts) (needs rule.L5 facts.agent launch-of.launch.packet))
      (launch-of.launch.allowed.every_rule 4 rule.L5 (omega arith))).0

  -- so a kernel dispatch has sizes that may be
  pub sized-whole : IsSized f.packet
  sized-whole = grind (arith, asks-known)

  -- and segments as it needs them
  pub segmented : (d : KernelDispatch) → f.packet ≡ packet.Kernel d → has_segments (facts_of start launch-of.launch.before launch-of.launch.opening) (packet.Kernel d) ≡ true
  segmented d is =
      let facts = facts_of start launch-of.launch.before launch-of.launch.opening in
      ap (has_segments facts) (sym (launch-of.packet_is ∙ is))
      ∙ (and_parts (has_segments facts launch-of.launch.packet) (list_all (need_is_met facts) (needs rule.L7 facts.agent launch-of.launch.packet))
      (launch-of.launch.allowed.every_rule 6 rule.L7 (omega arith))).0

-- What the executor asks of a kernel dispatch in flight: it names a kernel, whose argument block was copied whole at the launch, and has
-- sizes and segments as they may be.
pub record CanRun (start : Start) (es : List Entry) (queue : QueueId) (id : PacketId) (d : KernelDispatch) : Type 0 where
  pub kernel : Program
  pub kernel_is : numbered start.kernels d.kernel_object.0 ≡ Some kernel
  pub block_long : length (arguments start es queue id) ≡ kernel.argument_bytes
  pub sizes : AreSizes d
  pub segment : group_bytes_of kernel ≤ d.group_segment_size
  pub segment_limit : d.group_segment_size ≤ 65536

module _ (start : Start) (es : List Entry) (queue : QueueId) (id : PacketId) (f : InFlight) (launch-of : HoldsInForce start es f) (found : in_flight start es queue id ≡ Some f) where
  -- its arguments are those of its launch
  arguments-launched : arguments start es queue id ≡ arguments_of start launch-of.launch.before f.packet
  arguments-launched = let same = launch-of.arguments_are in grind (arith, found-passes)

  pub can-run-whole : (d : KernelDispatch) → f.packet ≡ packet.Kernel d → CanRun start es queue id d
  can-run-whole d is = by_kernel (numbered start.kernels d.kernel_object.0) refl
    where
      before : List Entry
      before = launch-of.launch.before

      facts : Facts
      facts = facts_of start before launch-of.launch.opening

      fits : Bool
      fits = kernel_passes facts d (λ kernel. nat_le kernel.group d.group_segment_size)

      passes : (fits ≡ true) × (nat_le d.group_segment_size MOST_SEGMENT_BYTES ≡ true)
      passes = grind (arith, segmented start es f launch-of d is)

      by_kernel : (o : Option Program) → numbered start.kernels d.kernel_object.0 ≡ o → CanRun start es queue id d
      by_kernel None none =
          let unknown : fits ≡ false =
          ap (λ (o : Option KernelSegments). elim o [ None ↦ false | Some kernel ↦ nat_le kernel.group d.group_segment_size ])
          (numbered-map segments_of start.kernels d.kernel_object.0 ∙ ap (option_map segments_of) none) in
          let known = passes.0 in
          absurd cc
      by_kernel (Some kernel) some =
          let limit : d.group_segment_size ≤ MOST_SEGMENT_BYTES = leb-true _ _ passes.1 in
          let sizes : has_sizes d ≡ true = subst IsSized is (sized-whole start es f launch-of) in
          let known : fits ≡ nat_le (group_bytes_of kernel) d.group_segment_size =
          ap (λ (o : Option KernelSegments). elim o [ None ↦ false | Some segments ↦ nat_le segments.group d.group_segment_size ])
          (numbered-map segments_of start.kernels d.kernel_object.0 ∙ ap (option_map segments_of) some) in
          record {
            kernel = kernel;
            kernel_is = some;
            block_long = block-long start before f.packet d is kernel some (arguments start es queue id) arguments-launched;
            sizes = groups_fit d sizes;
            segment = leb-true _ _ (sym known ∙ passes.0);
            segment_limit = omega (arith, limit);
          }

-- so it is with any legal history, by the whole one
pub can-run : (start : Start) (es : List Entry) → IsLegal start es → (queue : QueueId) (id : PacketId) (f : InFlight) → in_flight start es queue id ≡ Some f → (d : KernelDispatch) → f.packet ≡ packet.Kernel d
    → CanRun start es queue id d
can-run start es legal queue id f found d is =
    let can = can-run-whole (first start es legal) (all start es legal) queue id f (launch-whole start es legal queue id f found) (found-whole start es legal queue id f found) d is in
    record {
      kernel = can.kernel;
      kernel_is = can.kernel_is;
      block_long = ap (λ (now : Start). length (now.arguments queue id)) (sym (same-state start es legal)) ∙ can.block_long;
      sizes = can.sizes;
      segment = can.segment;
      segment_limit = can.segment_limit;
    }

pub sized : (start : Start) (es : List Entry) (legal : IsLegal start es) (queue : QueueId) (id : PacketId) (f : InFlight) → in_flight start es queue id ≡ Some f → IsSized f.packet
sized start es legal queue id f found = sized-whole (first start es legal) (all start es legal) f (launch-whole start es legal queue id f found)
