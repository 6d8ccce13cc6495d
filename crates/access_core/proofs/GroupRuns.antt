-- Groups of kernel dispatches in flight: that they can be run, and that what they come to is what the history says.
use Rattle.core_model.specs.History.{beginning}
use Rattle.std.proofs.Common.{◌≡◌, ℕ, ◌<◌, ◌≤◌, List, length, get_or, refl, sym, ◌∙◌, ap, subst, true, Option, Some, None, arith, All, map, option_map, slice_get}
use Rattle.access_core.proofs.Terms.{All-weaker, AreLentAlike, Dispatch, FailsAs, FaultsAs, GroupInput, GroupResult, HeldRegion, History, Inside, IsCached}
use Rattle.access_core.proofs.Terms.{IsInPlace}
use Rattle.access_core.proofs.Terms.{IsLegal, IsNumber, IsRunnable, Kernel, KernelDispatch, LentRegion, PacketId, Place, Program, QueueId, WrittenRange, are_region_lengths}
use Rattle.access_core.proofs.Terms.{granted-now, get_or_from_slice_get, given_at_launch, grid_size, group_bytes_of, group_count, group_input, group_result}
use Rattle.access_core.proofs.Terms.{group_size}
use Rattle.access_core.proofs.Terms.{has_entry, history_of, input_of, is_index, is_within, kernel_of, lent_region, ltb-true, no_kernel, numbered, numbered-map, own_rights}
use Rattle.access_core.proofs.Terms.{program_in, program_of}
use Rattle.access_core.proofs.Terms.{region_lengths, slice_get-get_or, slice_get_within, unwrap_or, view_whole, wrote}
use Rattle.aql_packet.specs.declared.packet.Packet.TheVariants as packet
use Rattle.executor.specs.declared.fault.RunFault.{RunFault}
use Rattle.core_model.proofs.Viewing.{IsWithinGrant, runs-granted}
use Rattle.core_model.specs.Holds.{arguments}
use Rattle.access_core.proofs.GroupLemmas.{CanRun, can-run}
use Rattle.access_core.proofs.KernelLemmas.{views-alike}

-- what is known of all of a list is known of the one of a number
numbered-all : {X : Type 0} (P : X → Type 0) (xs : List X) (n : ℕ) (x : X) → All P xs → numbered xs n ≡ Some x → P x
numbered-all P xs n x all found = grind (arith, get_or_from_slice_get, slice_get_within)

-- the checked kernel at an index
abbrev pub program_at : Kernel → ℕ → Program
program_at k index = get_or k.checked index no_kernel

-- what a group comes to depends on the bytes of regions with READ alone
abbrev pub ReadsWhereItMay : Type 0
ReadsWhereItMay = (input : GroupInput) (others : List LentRegion) → AreLentAlike input.view others → group_result input ≡ group_result (record input { view = others })

-- what is said of a fault is said of what the history says
pub faults-as : (i : GroupInput) (came : GroupResult) → came ≡ group_result i → (why : RunFault) → FailsAs i why → FaultsAs came why
faults-as i came h3 why h5 = grind arith

-- What the executor is asked to run is what a dispatch asks for, with this argument block.
pub record IsAsked (asked : Dispatch) (d : KernelDispatch) (block : List ℕ) : Type 0 where
  pub group_size_is : asked.group_size ≡ group_size d
  pub grid_size_is : asked.grid_size ≡ grid_size d
  pub segment_is : asked.group_segment_size ≡ d.group_segment_size
  pub arguments_are : asked.arguments.now ≡ block

module _ (a : Inside) (kept : IsCached a) (old : History) (seen_as : history_of a ≡ old) (queue : QueueId) (id : PacketId) (place : Place) (found : IsInPlace old queue id place)
    (d : KernelDispatch) (is : place.packet ≡ packet.Kernel d) where
  legal : IsLegal (beginning old) old.entries
  legal = subst (λ (h : History). IsLegal (beginning h) h.entries) seen_as kept.legal

  pub can : CanRun (beginning old) old.entries queue id d
  can = can-run (beginning old) old.entries legal queue id found.flying found.found d (found.packet_is ∙ is)

  kernels-are : (n : ℕ) → numbered (beginning old).kernels n ≡ option_map program_of (numbered a.kernels.items n)
  kernels-are n = ap (λ (h : History). numbered (beginning h).kernels n) (sym seen_as) ∙ numbered-map program_of a.kernels.items n

  -- the kernel that it names is there
  pub kernel-there : IsNumber a.kernels.items d.kernel_object.0
  kernel-there = by_found (numbered a.kernels.items d.kernel_object.0) refl
    where
      by_found : (o : Option Kernel) → numbered a.kernels.items d.kernel_object.0 ≡ o → IsNumber a.kernels.items d.kernel_object.0
      by_found None none =
          let missing : numbered (beginning old).kernels d.kernel_object.0 ≡ None = kernels-are d.kernel_object.0 ∙ ap (option_map program_of) none in
          let known = can.kernel_is in
          absurd cc
      by_found (Some k) some = (k, some)

  module _ (k : Kernel) (at : numbered a.kernels.items d.kernel_object.0 ≡ Some k) where
    pub entry-there : has_entry k ≡ true
    entry-there = numbered-all (λ kernel. has_entry kernel ≡ true) a.kernels.items d.kernel_object.0 k kept.entries at

    module _ (index : ℕ) (index_is : k.entry ≡ Some index) where
      pub index-below : index < length k.checked
      index-below = ltb-true _ _ (subst (λ o. is_index k.checked o ≡ true) index_is entry-there)

      -- and so is its program
      pub program-there : slice_get k.checked index ≡ Some (program_at k index)
      program-there = slice_get-get_or k.checked index no_kernel index-below

      pub program-is : (p : Program) → slice_get k.checked index ≡ Some p → p ≡ kernel_of (beginning old) d
      program-is p here =
          sym (ap (λ o. unwrap_or o no_kernel) (kernels-are d.kernel_object.0 ∙ ap (option_map program_of) at)
          ∙ ap (program_in k.checked) index_is ∙ ap (λ o. unwrap_or o no_kernel) here)

  module _ (asked : Dispatch) (asks : IsAsked asked d (arguments (beginning old) old.entries queue id)) (p : Program) (p_is : p ≡ kernel_of (beginning old) d) (group : ℕ) where
    -- the executor can run it
    pub runnable : group < group_count (packet.Kernel d) → IsRunnable p asked group
    runnable below =
        let kernel : p ≡ can.kernel = p_is ∙ ap (λ o. unwrap_or o no_kernel) can.kernel_is in
        record {
          arguments = ap length asks.arguments_are ∙ can.block_long ∙ ap (λ (k : Program). k.argument_bytes) (sym kernel);
          sizes = record {
            some_x = rw asks.group_size_is can.sizes.some_x;
            some_y = rw asks.group_size_is can.sizes.some_y;
            some_z = rw asks.group_size_is can.sizes.some_z;
            fits_x = rw (asks.group_size_is, asks.grid_size_is) can.sizes.fits_x;
            fits_y = rw (asks.group_size_is, asks.grid_size_is) can.sizes.fits_y;
            fits_z = rw (asks.group_size_is, asks.grid_size_is) can.sizes.fits_z;
            few_items = rw asks.group_size_is can.sizes.few_items;
            few_groups = rw (asks.group_size_is, asks.grid_size_is) can.sizes.few_groups;
          };
          one_of_them = rw (asks.group_size_is, asks.grid_size_is) below;
          segment = subst (λ (n : ℕ). n ≤ asked.group_segment_size) (ap group_bytes_of (sym kernel)) (rw asks.segment_is can.segment);
          segment_limit = rw asks.segment_is can.segment_limit;
        }

    -- what it comes to is what the history says
    pub result-is : ReadsWhereItMay → (view : List HeldRegion) → map lent_region view ≡ view_whole (beginning old) old.entries (own_rights (beginning old) old.entries queue id)
        → group_result (group_input (beginning old) old.entries (given_at_launch (beginning old) old.entries queue id) d group) ≡ group_result (input_of p asked group view)
    result-is law view view_is =
        law (group_input (beginning old) old.entries (given_at_launch (beginning old) old.entries queue id) d group) (view_whole (beginning old) old.entries (own_rights (beginning old) old.entries queue id))
        (views-alike (beginning old) old.entries (own_rights (beginning old) old.entries queue id))
        ∙ (λ i. group_result (record {
          program = sym p_is i;
          group_size = sym asks.group_size_is i;
          grid_size = sym asks.grid_size_is i;
          group_segment_size = sym asks.segment_is i;
          arguments = sym asks.arguments_are i;
          view = sym view_is i;
          group = group;
        }))

  -- each run that it writes lies whole in a region
  pub runs-within : are_region_lengths (region_lengths (beginning old).policy) ≡ true → (group : ℕ) (runs : List WrittenRange)
      → group_result (group_input (beginning old) old.entries (given_at_launch (beginning old) old.entries queue id) d group) ≡ wrote runs
      → All (λ (run : WrittenRange). is_within (region_lengths (beginning old).policy) run.address (length run.bytes) ≡ true) runs
  runs-within fit group runs came =
      let now = granted-now (beginning old) old.entries legal queue id found.flying found.found in
      let client = now.0.client in
      All-weaker (IsWithinGrant (beginning old) old.entries client) (λ (run : WrittenRange). is_within (region_lengths (beginning old).policy) run.address (length run.bytes) ≡ true)
      (λ run within. within.1.lies_whole) runs
      (runs-granted (beginning old) old.entries old.entries client (given_at_launch (beginning old) old.entries queue id) d group fit now.2 runs came)
