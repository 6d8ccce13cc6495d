-- What a packet in flight was given at its launch: what its block tells is what the history says.
use Rattle.std.proofs.Common.{◌≡◌, ℕ, List, [], ◌∷◌, refl, sym, subst, ◌∙◌, ap, Bool, true, false, ◌&&◌, ◌||◌, ◌==◌, Option, Some, None, arith, find, fold, map, if◌then◌else◌}
use Rattle.std.proofs.lemmas.Bool.{and_parts, eqb-true}
use Rattle.core_model.specs.History.{beginning}
use Rattle.core_model.specs.Holds.{arguments}
use Rattle.core_model.proofs.Apart.{AreApart, apart-legal}
use Rattle.access_core.proofs.HeldRights.{named-listed}
use Rattle.access_core.proofs.Rotated.{none-behind}
use Rattle.access_core.proofs.Terms.{ArgumentBlock, ClientId, History, InFlight, Inside, IsCached, IsHolder, Object, Opening, PacketId, QueueId, Right}
use Rattle.access_core.proofs.Terms.{block_behind, bytes_or, flight, held, history_of, is_block, is_given, is_listed, is_named, is_packet, list_any, name_of, own_rights, owner, packet_of}
use Rattle.access_core.proofs.Terms.{rights_for, rights_of, start_of}

or-none : (b : Bool) → (b || false) ≡ b
or-none b = grind arith

neither : (x y : Bool) → (x || y) ≡ false → (x ≡ false) × (y ≡ false)
neither false y is = (refl, is)
neither true y is = absurd cc

module _ (queue : QueueId) (id : PacketId) where
  -- behind a packet of this name there is no other
  apart-none : (f : InFlight) (fs : List InFlight) → is_packet queue id f ≡ true → list_any (is_packet f.queue f.id) fs ≡ false → list_any (is_packet queue id) fs ≡ false
  apart-none f fs is apart =
      let both = and_parts (f.queue.0 == queue.0) (f.id.0 == id.0) is in
      let same_queue : f.queue ≡ queue = ap (λ n. record { 0 = n }) (eqb-true _ _ both.0) in
      let same_id : f.id ≡ id = ap (λ n. record { 0 = n }) (eqb-true _ _ both.1) in
      (λ i. list_any (is_packet (sym same_queue i) (sym same_id i)) fs) ∙ apart

  -- its bytes are those of the first block of its name
  found-bytes : (a : Inside) → IsCached a → (fs : List InFlight) (bs : List ArgumentBlock) (bytes : List ℕ) → map packet_of bs ≡ map name_of fs → AreApart fs
      → fold (block_behind queue id) bytes bs ≡ bytes_or bytes (find (is_block queue id) bs)
  found-bytes a kept [] [] bytes names apart = refl
  found-bytes a kept [] (b ∷ bs) bytes names apart = absurd cc
  found-bytes a kept (f ∷ fs) [] bytes names apart = absurd cc
  found-bytes a kept (f ∷ fs) (b ∷ bs) bytes names apart =
      let head : packet_of b ≡ name_of f = cc in
      let rest : map packet_of bs ≡ map name_of fs = cc in
      let named : is_block queue id b ≡ is_packet queue id f = (λ i. (head i).0.0 == queue.0 && (head i).1.0 == id.0) in
      by_test rest (found-bytes a kept fs bs bytes rest apart.1) (is_block queue id b) (sym named)
    where
      by_test : map packet_of bs ≡ map name_of fs → fold (block_behind queue id) bytes bs ≡ bytes_or bytes (find (is_block queue id) bs) →
          (x : Bool) → is_packet queue id f ≡ x →
          fold (block_behind queue id) (if x then b.bytes else bytes) bs ≡ bytes_or bytes (if x then Some b else find (is_block queue id) bs)
      by_test rest behind false is = behind
      by_test rest behind true is = none-behind a kept queue id fs bs b.bytes rest (apart-none f fs is apart.0)

  module _ (client : ClientId) (on : Object) (right : Right) where
    -- where no packet has the name, no block lists a right of it
    none-given : (fs : List InFlight) (bs : List ArgumentBlock) → map packet_of bs ≡ map name_of fs → list_any (is_packet queue id) fs ≡ false → is_given bs queue id client on right ≡ false
    none-given [] [] names none = refl
    none-given [] (b ∷ bs) names none = absurd cc
    none-given (f ∷ fs) [] names none = absurd cc
    none-given (f ∷ fs) (b ∷ bs) names none =
        let head : packet_of b ≡ name_of f = cc in
        let rest : map packet_of bs ≡ map name_of fs = cc in
        let other = neither (is_packet queue id f) (list_any (is_packet queue id) fs) none in
        let not_this : is_block queue id b ≡ false = (λ i. (head i).0.0 == queue.0 && (head i).1.0 == id.0) ∙ other.0 in
        ap (λ x. (x && is_named b.rights b.client client on right) || is_given bs queue id client on right) not_this ∙ none-given fs bs rest other.1

    -- a right is given where the first block of the packet's name lists it
    given-found : (fs : List InFlight) (bs : List ArgumentBlock) → map packet_of bs ≡ map name_of fs → AreApart fs
        → is_given bs queue id client on right ≡ is_listed (rights_of bs queue id client) on right
    given-found [] [] names apart = refl
    given-found [] (b ∷ bs) names apart = absurd cc
    given-found (f ∷ fs) [] names apart = absurd cc
    given-found (f ∷ fs) (b ∷ bs) names apart =
        let head : packet_of b ≡ name_of f = cc in
        let rest : map packet_of bs ≡ map name_of fs = cc in
        let named : is_block queue id b ≡ is_packet queue id f = (λ i. (head i).0.0 == queue.0 && (head i).1.0 == id.0) in
        by_test rest (given-found fs bs rest apart.1) (is_block queue id b) (sym named)
      where
        by_test : map packet_of bs ≡ map name_of fs → is_given bs queue id client on right ≡ is_listed (rights_of bs queue id client) on right →
            (x : Bool) → is_packet queue id f ≡ x →
            ((x && is_named b.rights b.client client on right) || is_given bs queue id client on right) ≡ is_listed (rights_for client (if x then Some b else find (is_block queue id) bs)) on right
        by_test rest behind false is = behind
        by_test rest behind true is =
            ap (λ x. is_named b.rights b.client client on right || x) (none-given fs bs rest (apart-none f fs is apart.0))
            ∙ or-none (is_named b.rights b.client client on right)
            ∙ named-listed client on right b

module _ (a : Inside) (kept : IsCached a) (queue : QueueId) (id : PacketId) where
  -- what the block lists is what the packet holds
  listed-are : (opening : Opening) → owner (start_of a) a.audit.items queue ≡ Some opening
      → is_listed (rights_of kept.blocks queue id opening.client) ≡ own_rights (start_of a) a.audit.items queue id
  listed-are opening owned = λ i. λ on. λ right. one on right i
    where
      one : (on : Object) (right : Right) → is_listed (rights_of kept.blocks queue id opening.client) on right ≡ own_rights (start_of a) a.audit.items queue id on right
      one on right =
          sym (given-found queue id opening.client on right (flight (start_of a) a.audit.items) kept.blocks kept.blocks_are (apart-legal (start_of a) a.audit.items kept.legal))
          ∙ kept.held queue id opening.client on right
          ∙ sym (ap (λ (o : Option Opening). elim o [ None ↦ false | Some owning ↦ held (start_of a) a.audit.items queue id owning.client on right ]) owned)

  module _ (old : History) (seen_as : history_of a ≡ old) where
    -- so are the rights that are listed for the client of its queue
    pub own-listed : (client : ClientId) → IsHolder old queue id client → is_listed (rights_of kept.blocks queue id client) ≡ own_rights (beginning old) old.entries queue id
    own-listed client holder =
        let is = subst (λ (h : History). IsHolder h queue id client) (sym seen_as) holder in
        ap (λ (c : ClientId). is_listed (rights_of kept.blocks queue id c)) (sym is.client_is)
        ∙ listed-are is.opening is.owner_is
        ∙ ap (λ (h : History). own_rights (beginning h) h.entries queue id) seen_as

    -- and its bytes are the packet's arguments
    pub own-bytes : bytes_or [] (find (is_block queue id) kept.blocks) ≡ arguments (beginning old) old.entries queue id
    own-bytes =
        sym (found-bytes queue id a kept (flight (start_of a) a.audit.items) kept.blocks [] kept.blocks_are (apart-legal (start_of a) a.audit.items kept.legal))
        ∙ kept.arguments queue id
        ∙ ap (λ (h : History). arguments (beginning h) h.entries queue id) seen_as
