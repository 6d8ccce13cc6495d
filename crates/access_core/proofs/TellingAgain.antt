-- What is told of packets in flight can be told anew: each block names another packet, and what is there is enough.
use Rattle.std.proofs.Common.{◌≡◌, ℕ, ◌⊎◌, inl, inr, Bool, true, false, List, [], ◌∷◌, map, refl, sym, ◌∙◌, ap, subst, arith}
use Rattle.std.specs.List.{Contains, list_any}
use Rattle.std.proofs.lemmas.List.Elements.{All-contains}
use Rattle.aql_packet.specs.Ids.{same_packet}
use Rattle.core_model.specs.declared.flight.InFlight.{InFlight}
use Rattle.core_model.specs.declared.origin.PacketOrigin.{PacketOrigin}
use Rattle.core_model.proofs.Apart.{AreApart, apart-legal}
use Rattle.access_core.specs.declared.fresh.Fresh.{Fresh}
use Rattle.access_core.specs.inner.MovingOn.{MayTell}
use Rattle.access_core.proofs.FewInFlight.{few-in-flight}
use Rattle.access_core.proofs.HeldAfter.{turned-name}
use Rattle.access_core.proofs.Lying.{are-in_order, contains-cases}
use Rattle.access_core.proofs.Rotated.{others-named}
use Rattle.access_core.proofs.Terms.{ArgumentBlock, IsCached, Inside, flight, is_packet, name_of, packet_of, start_of}

-- one that has the name of the first isn't among the others
not-behind : (f : InFlight) (fs : List InFlight) (b : ArgumentBlock) (bs : List ArgumentBlock) → map packet_of (b ∷ bs) ≡ map name_of (f ∷ fs) → list_any (is_packet f.queue f.id) fs ≡ false
    → (other : ArgumentBlock) → Contains bs other → same_packet b.queue b.packet other.queue other.packet ≡ true → ⊥
not-behind f fs b bs names apart other there same =
    let head : packet_of b ≡ name_of f = cc in
    let rest : map packet_of bs ≡ map name_of fs = cc in
    let not_it = All-contains (λ (x : ArgumentBlock). same_packet f.queue f.id x.queue x.packet ≡ false) bs other (others-named f.queue f.id fs bs rest apart) there in
    let turned : same_packet b.queue b.packet other.queue other.packet ≡ same_packet f.queue f.id other.queue other.packet = (λ i. same_packet (head i).0 (head i).1 other.queue other.packet) in
    let lost : true ≡ false = sym same ∙ turned ∙ not_it in
    cc

-- blocks with one name are one
pub names-once : (fs : List InFlight) (bs : List ArgumentBlock) → map packet_of bs ≡ map name_of fs → AreApart fs → (one other : ArgumentBlock) → Contains bs one → Contains bs other
    → same_packet one.queue one.packet other.queue other.packet ≡ true → one ≡ other
names-once [] [] names apart one other there lies same = let none = there.1 in absurd (omega (arith, none))
names-once [] (b ∷ bs) names apart one other there lies same = absurd cc
names-once (f ∷ fs) [] names apart one other there lies same = let none = there.1 in absurd (omega (arith, none))
names-once (f ∷ fs) (b ∷ bs) names apart one other there lies same =
    let rest : map packet_of bs ≡ map name_of fs = cc in
    by_places (λ behind further. names-once fs bs rest apart.1 one other behind further same) (contains-cases b bs one there) (contains-cases b bs other lies)
  where
    by_places : (Contains bs one → Contains bs other → one ≡ other) → (b ≡ one) ⊎ Contains bs one → (b ≡ other) ⊎ Contains bs other → one ≡ other
    by_places more (inl this) (inl that) = sym this ∙ that
    by_places more (inl this) (inr behind) =
        absurd (not-behind f fs b bs names apart.0 other behind (subst (λ (x : ArgumentBlock). same_packet x.queue x.packet other.queue other.packet ≡ true) (sym this) same))
    by_places more (inr behind) (inl that) =
        absurd (not-behind f fs b bs names apart.0 one behind
        (subst (λ (x : ArgumentBlock). same_packet x.queue x.packet one.queue one.packet ≡ true) (sym that) (turned-name other.queue other.packet one.queue one.packet ∙ same)))
    by_places more (inr behind) (inr further) = more behind further

pub may-tell : (a : Inside) (kept : IsCached a) → MayTell a.queues.items a.in_flight_count a.told a.start.packets a.fresh kept.blocks
may-tell a kept = record {
  in_order = are-in_order a kept;
  few = few-in-flight a kept;
  apart = λ one other there lies same.
      ap (λ (b : ArgumentBlock). b.number) (names-once (flight (start_of a) a.audit.items) kept.blocks kept.blocks_are (apart-legal (start_of a) a.audit.items kept.legal) one other there lies same);
  were_told = kept.ready.were_told;
  fit = kept.ready.fit;
  room = kept.ready.room;
}
