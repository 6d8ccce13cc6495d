-- A packet in flight has a block, and no other packet has one.
use Rattle.std.proofs.Common.{◌≡◌, List, [], ◌∷◌, refl, sym, ◌∙◌, ap, ◌&&◌, ◌||◌, ◌==◌, map}
use Rattle.access_core.proofs.Terms.{ArgumentBlock, InFlight, PacketId, QueueId, is_block, is_packet, list_any, name_of, packet_of}

pub none-named : (queue : QueueId) (id : PacketId) (fs : List InFlight) (bs : List ArgumentBlock) → map packet_of bs ≡ map name_of fs
    → list_any (is_packet queue id) fs ≡ list_any (is_block queue id) bs
none-named queue id [] [] names = refl
none-named queue id [] (b ∷ bs) names = absurd cc
none-named queue id (f ∷ fs) [] names = absurd cc
none-named queue id (f ∷ fs) (b ∷ bs) names =
    let head : packet_of b ≡ name_of f = cc in
    let rest : map packet_of bs ≡ map name_of fs = cc in
    let named : is_block queue id b ≡ is_packet queue id f = (λ i. (head i).0.0 == queue.0 && (head i).1.0 == id.0) in
    ap (λ x. x || list_any (is_packet queue id) fs) (sym named) ∙ ap (λ x. is_block queue id b || x) (none-named queue id fs bs rest)
