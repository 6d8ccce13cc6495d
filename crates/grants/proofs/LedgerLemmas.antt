-- What the calls of grants leave, by the table and the list of holds.
use Rattle.std.proofs.Common.{◌≡◌, ℕ, ◌+◌, ◌≤◌, true, false, List, length, ◌++◌, ◌&&◌, map, filter, not, Option, Some, None, arith}
use Rattle.grants.proofs.Terms.{Cell, ClientId, Holds, IsCounted, IsFirstTo, Ledger, Object, PacketId, QueueId, Releases, Rights, SameRights, Table, all_rights, cell_of, count_of, has}
use Rattle.grants.proofs.Terms.{hold_of, holds_one, is_holder, is_of, is_some, knows_client, knows_object, list_any, nat_lt, rules_in}
use Rattle.grants.specs.declared.hold.Hold.{Hold}
use Rattle.grants.proofs.HoldLemmas.{held-pushed, held-dropped, holder}
use Rattle.grants.proofs.CountLemmas.{unheld}

-- a ledger of these parts
abbrev pub ledger : Table → List Hold → ℕ → Ledger
ledger table list room = record { table = table; list = list; room = room }

module _ (table : Table) (list : List Hold) (room : ℕ) (old : Ledger) (view : ledger table list room ≡ old) where
  -- holds behind the others are what the packet came to hold
  pub held_more : (c : ClientId) (q : QueueId) (p : PacketId) (rights : List (Object × Rights)) (after : Table) (more : List Hold) (left : ℕ)
      → SameRights table after → more ≡ list ++ map (hold_of q p c) rights → Holds old (ledger after more left) c q p rights
  held_more c q p rights after more left same put = grind (arith, held-pushed)

  -- without the packet's holds it holds nothing
  pub released : (q : QueueId) (p : PacketId) (after : Table) (rest : List Hold) (left : ℕ)
      → SameRights table after → rest ≡ filter (λ hold. not (is_of q p hold)) list → room ≤ left
      → length rest + left ≡ length list + room → Releases old (ledger after rest left) q p
  released q p after rest left same dropped more places = grind (arith, held-dropped)

  -- a client and an object that have a cell are declared
  pub declared : (c : ClientId) (o : Object) (found : Option Cell) (cell : Cell) → is_some found ≡ (knows_client table.rules c && knows_object table.rules o) → found ≡ Some cell
      → (knows_client (rules_in old) c ≡ true) × (knows_object (rules_in old) o ≡ true)
  declared c o found cell known is = grind arith

  -- the first of the packets with a hold of one of the rights is the first that holds one of them
  pub holder_first : (c : ClientId) (o : Object) (rights : Rights) (first : Option (QueueId × PacketId)) → IsFirstTo (holds_one list c o rights) first
      → IsFirstTo (is_holder old c o rights) first
  holder_first c o rights first h = grind (arith, holder)

  -- where no hold of one of the rights is counted, no packet holds one of them
  pub none_holds : IsCounted table list → (c : ClientId) (o : Object) (rights : Rights) (cell : Cell) → cell_of table c o ≡ Some cell
      → list_any (λ right. has rights right && nat_lt 0 (count_of cell.held right)) all_rights ≡ false → IsFirstTo (is_holder old c o rights) None
  none_holds counted c o rights cell at none = grind (arith, unheld)
