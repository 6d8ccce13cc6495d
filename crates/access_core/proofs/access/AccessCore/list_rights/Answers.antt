-- What the packet holds by its needs, and by its arguments.
use Rattle.core_model.specs.History.{beginning}
use Rattle.std.proofs.Common.{◌≡◌, ◌∙◌, ap, sym, Some, None, arith}
use Rattle.access_core.proofs.Terms.{facts_of, numbered}
use Rattle.access_core.specs.inner.Deciding.{opening_of}
use Rattle.access_core.proofs.LaunchLemmas.{block-long, both-held, needs-alone, no-arguments, only-needs, pointed-is}
use Rattle.access_core.proofs.access.AccessCore.list_rights.Goals as goal

pub returns-in_default : goal.returns-in_default
returns-in_default c =
    let h = c.args.self.now.history in
    let launching = c.args.launching.now in
    only-needs (beginning h) h.entries (opening_of launching) launching.asked.packet _ (rw c.requires.empty at (c.in_ok-hold_needs.ensures launching.client))
    (needs-alone (beginning h) h.entries launching.client launching.asked.packet (λ d is. c.in_default.not-Kernel d (c.packet.ensures ∙ is)))

pub returns-in_default-kernel : goal.returns-in_default-kernel
returns-in_default-kernel c =
    let h = c.args.self.now.history in
    let launching = c.args.launching.now in
    let none : numbered (beginning h).kernels c.in-Kernel.dispatch.kernel_object.0 ≡ None = cc c.in_default-kernel.ensures in
    only-needs (beginning h) h.entries (opening_of launching) launching.asked.packet _ (rw c.requires.empty at (c.in_ok-hold_needs.ensures launching.client))
    (no-arguments (beginning h) h.entries launching.client launching.asked.packet c.in-Kernel.dispatch (sym c.packet.ensures ∙ c.in-Kernel.is) none)

pub held_by_arguments-requires : goal.held_by_arguments-requires
held_by_arguments-requires c =
    let h = c.args.self.now.history in
    let launching = c.args.launching.now in
    grind (arith, block-long (beginning h) h.entries launching.asked.packet c.in-Kernel.dispatch (sym c.packet.ensures ∙ c.in-Kernel.is) c.in-Some.program.now)

pub returns : goal.returns
returns c =
    let h = c.args.self.now.history in
    let launching = c.args.launching.now in
    let found : numbered (beginning h).kernels c.in-Kernel.dispatch.kernel_object.0 ≡ Some c.in-Some.program.now = cc c.in-Some.ensures in
    both-held (beginning h) h.entries (opening_of launching) launching.asked.packet _ _ _ (rw c.requires.empty at (c.in_ok-hold_needs.ensures launching.client))
    (c.as_slice.ensures ∙ c.in_ok-pointed.ensures
    ∙ pointed-is (beginning h) h.entries launching.asked.packet c.in-Kernel.dispatch (sym c.packet.ensures ∙ c.in-Kernel.is) c.in-Some.program.now found (opening_of launching) _ (c.facts-facts.ensures ∙ ap (λ agent. facts_of (beginning h) h.entries (record { client = launching.client; agent = agent })) c.agent.ensures)
    _ _ c.wide_arguments.ensures.value c.requires.block)
    c.in_ok-append.ensures
