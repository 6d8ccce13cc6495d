-- What a packet holds that is launched, by its needs and by its argument block.
use Rattle.std.proofs.Common.{◌≡◌, ℕ, ◌++◌, List, [], map, length, refl, sym, ◌∙◌, ap, Some, None, arith}
use Rattle.access_core.proofs.Terms.{ClientId, Entry, Facts, KernelDispatch, Object, Opening, Packet, Program, Rights, Start, append-nil, arguments_of, as_rights, facts_of, flat_map}
use Rattle.access_core.proofs.Terms.{held_by_arguments, held_by_needs, held_by_pointer, kernel_of, length-map-range_with_len, map-append, memory_at, no_kernel, numbered}
use Rattle.access_core.proofs.Terms.{rights_at_launch}
use Rattle.access_core.proofs.Terms.{unwrap_or, wide_arguments}
use Rattle.aql_packet.specs.declared.packet.Packet.TheVariants as packet

module _ (start : Start) (es : List Entry) where
  -- only kernel dispatches hold anything by arguments
  pub needs-alone : (client : ClientId) (p : Packet) → ((d : KernelDispatch) → p ≡ packet.Kernel d → ⊥) → held_by_arguments start es client p ≡ []
  needs-alone client (packet.Kernel d) other = absurd (other d refl)
  needs-alone client (packet.Agent d) other = refl
  needs-alone client (packet.BarrierAnd b) other = refl
  needs-alone client (packet.BarrierOr b) other = refl

  -- one that names no kernel holds nothing by them
  pub no-arguments : (client : ClientId) (p : Packet) (d : KernelDispatch) → p ≡ packet.Kernel d → numbered start.kernels d.kernel_object.0 ≡ None
      → held_by_arguments start es client p ≡ []
  no-arguments client p d is none = ap (held_by_arguments start es client) is ∙ (rw none refl)

  -- all that a packet holds that holds nothing by arguments
  pub only-needs : (opening : Opening) (p : Packet) (rights : List (Object × Rights)) → rights ≡ map as_rights (held_by_needs opening p)
      → held_by_arguments start es opening.client p ≡ [] → rights ≡ map as_rights (rights_at_launch start es opening p)
  only-needs opening p rights is none =
      let nil : held_by_needs opening p ++ [] ≡ held_by_needs opening p = append-nil _ in
      let all : held_by_needs opening p ≡ rights_at_launch start es opening p = sym nil ∙ ap (λ ys. held_by_needs opening p ++ ys) (sym none) in
      is ∙ ap (map as_rights) all

  -- all that another holds
  pub both-held : (opening : Opening) (p : Packet) (rights pointed all : List (Object × Rights)) → rights ≡ map as_rights (held_by_needs opening p)
      → pointed ≡ map as_rights (held_by_arguments start es opening.client p)
      → all ≡ rights ++ pointed → all ≡ map as_rights (rights_at_launch start es opening p)
  both-held opening p rights pointed all first second is = grind (arith, map-append as_rights (held_by_needs opening p) (held_by_arguments start es opening.client p))

  module _ (p : Packet) (d : KernelDispatch) (is : p ≡ packet.Kernel d) (kernel : Program) (found : numbered start.kernels d.kernel_object.0 ≡ Some kernel) where
    kernel-is : kernel_of start d ≡ kernel
    kernel-is = ap (λ o. unwrap_or o no_kernel) found

    -- its argument block is as long as its kernel's
    pub block-long : (block : List ℕ) → block ≡ arguments_of start es p → length block ≡ kernel.argument_bytes
    block-long block block_is = grind (arith, length-map-range_with_len (memory_at start es) d.kernarg_address.0 (kernel_of start d).argument_bytes)

    -- what it holds by its arguments
    pub pointed-is : (opening : Opening) (facts : Facts) → facts ≡ facts_of start es opening → (offsets block : List ℕ) → offsets ≡ kernel.wide → block ≡ arguments_of start es p
        → map as_rights (flat_map (held_by_pointer facts.in_force facts.lengths) (wide_arguments offsets block)) ≡ map as_rights (held_by_arguments start es opening.client p)
    pointed-is opening facts facts_are offsets block offsets_are block_is =
        (λ i. map as_rights (flat_map (held_by_pointer (facts_are i).in_force (facts_are i).lengths)
        (wide_arguments ((offsets_are ∙ sym (ap (λ (k : Program). k.wide) kernel-is)) i) ((block_is ∙ ap (arguments_of start es) is) i))))
        ∙ ap (λ q. map as_rights (held_by_arguments start es opening.client q)) (sym is)
