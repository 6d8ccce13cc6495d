-- The packet is told of at the index that was found, and others as before.
use Rattle.std.proofs.Common.{◌≡◌, ◌∙◌, ◌<◌, Some, ap, arith, subst, sym}
use Rattle.core_model.specs.History.{packet_in}
use Rattle.core_model.specs.declared.origin.PacketOrigin.{PacketOrigin}
use Rattle.access_core.specs.inner.MovingOn.{IsIndexIn}
use Rattle.access_core.proofs.Retelling.{index-inside, others-stay, the-one}
use Rattle.access_core.proofs.access.truncating.told_again.Goals as goal

pub remove-before-requires : goal.remove-before-requires
remove-before-requires c = (
  omega arith,
  index-inside c.args.packets.now c.args.block.now.queue c.args.block.now.packet c.index_in-index.result c.requires.told
      (subst (λ ps. IsIndexIn ps c.args.block.now.queue c.args.block.now.packet c.index_in-index.result) c.as_slice.ensures.items c.index_in-index.ensures) c.requires.found,
)

pub returns-clause-origin : goal.returns-clause-origin
returns-clause-origin c =
    let at = subst (λ ps. IsIndexIn ps c.args.block.now.queue c.args.block.now.packet c.index_in-index.result) c.as_slice.ensures.items c.index_in-index.ensures in
    let is : c.remove-before.result ≡ c.requires.told = the-one c.args.packets.now c.args.block.now.queue c.args.block.now.packet c.index_in-index.result c.requires.told c.remove-before.result at c.requires.found c.remove-before.ensures.item in
    λ i. record {
      flying = c.flying.ensures i;
      progress = c.args.place.now.progress;
      client = (ap (λ (p : PacketOrigin). p.client) is ∙ c.requires.client) i;
      rights = (ap (λ (p : PacketOrigin). p.rights) is ∙ c.requires.rights) i;
      arguments = (ap (λ (p : PacketOrigin). p.arguments) is ∙ c.requires.arguments) i;
    }

pub returns-clause-others : goal.returns-clause-others
returns-clause-others c = λ queue id other.
    let at = subst (λ ps. IsIndexIn ps c.args.block.now.queue c.args.block.now.packet c.index_in-index.result) c.as_slice.ensures.items c.index_in-index.ensures in
    ap (λ ps. packet_in ps queue id) c.remove-before.ensures.rest
    ∙ others-stay c.args.packets.now c.args.block.now.queue c.args.block.now.packet c.index_in-index.result c.requires.told at c.requires.found queue id other
