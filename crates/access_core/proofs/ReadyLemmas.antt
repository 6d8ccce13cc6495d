-- What is there before an audit is emptied stays there, whatever is entered.
use Rattle.std.proofs.Common.{◌≡◌, ℕ, ◌+◌, ◌<◌, ◌≤◌, Bool, true, false, List, [], ◌∷◌, ◌++◌, length, length-append, filter, refl, sym, ◌∙◌, ap, subst, arith, All, nat_le, if◌then◌else◌}
use Rattle.core_model.specs.declared.origin.Origin.{Origin}
use Rattle.core_model.specs.declared.origin.PacketOrigin.{PacketOrigin}
use Rattle.access_core.specs.declared.fresh.Fresh.{Fresh}
use Rattle.access_core.specs.inner.Ready.{AreReady, Fits, HasLists, WasTold, later}
use Rattle.access_core.proofs.Terms.{All-filter, All-nil, All-push, All-weaker, ArgumentBlock, filter-append}

-- ---- how many are left of a list

step-left : {X : Type 0} (x : X) (b : Bool) (some many : List X) → length some ≤ length many → length (if b then x ∷ some else some) ≤ length (x ∷ many)
step-left x true some many fewer = omega (arith, fewer)
step-left x false some many fewer = omega (arith, fewer)

-- of a list no more are left than there are
pub filter-shorter : {X : Type 0} (test : X → Bool) (xs : List X) → length (filter test xs) ≤ length xs
filter-shorter test [] = omega arith
filter-shorter test (x ∷ xs) = step-left x (test x) (filter test xs) xs (filter-shorter test xs)

both-left : {X : Type 0} (x : X) (b : Bool) (some many : List X) → length some ≤ length many → length (if b then x ∷ some else some) ≤ length (if b then x ∷ many else many)
both-left x true some many fewer = omega (arith, fewer)
both-left x false some many fewer = fewer

one-left : {X : Type 0} (x : X) (b : Bool) (some many : List X) → length some ≤ length many → length some ≤ length (if b then x ∷ many else many)
one-left x true some many fewer = omega (arith, fewer)
one-left x false some many fewer = fewer

next-fewer : {X : Type 0} (test before : X → Bool) (x : X) (xs : List X) (b : Bool) → length (filter test (filter before xs)) ≤ length (filter test xs)
    → length (filter test (if b then x ∷ filter before xs else filter before xs)) ≤ length (filter test (x ∷ xs))
next-fewer test before x xs true fewer = both-left x (test x) (filter test (filter before xs)) (filter test xs) fewer
next-fewer test before x xs false fewer = one-left x (test x) (filter test (filter before xs)) (filter test xs) fewer

-- nor are more left of those that are left by a test before
pub filter-fewer : {X : Type 0} (test before : X → Bool) (xs : List X) → length (filter test (filter before xs)) ≤ length (filter test xs)
filter-fewer test before [] = omega arith
filter-fewer test before (x ∷ xs) = next-fewer test before x xs (before x) (filter-fewer test before xs)

-- ---- what is there

module _ (fresh : Fresh) (told : ℕ) (start : Origin) (blocks : List ArgumentBlock) (ready : AreReady fresh told start blocks) where
  -- packets that leave flight want nothing
  pub ready-left : (test : ArgumentBlock → Bool) → AreReady fresh told start (filter test blocks)
  ready-left test =
      let fewer = filter-fewer (λ (b : ArgumentBlock). nat_le told b.number) test blocks in
      let rights = ready.room.0 in
      let bytes = ready.room.1 in
      record {
        before = ready.before;
        were_told = All-filter test (WasTold told start.packets) blocks ready.were_told;
        fit = All-filter test (Fits fresh) blocks ready.fit;
        room = (omega (arith, fewer, rights), omega (arith, fewer, bytes));
      }

  module _ (new : Fresh) (rights : (fresh.rights.lists ≤ new.rights.lists) × (fresh.rights.each ≤ new.rights.each)) (bytes : (fresh.bytes.lists ≤ new.bytes.lists) × (fresh.bytes.each ≤ new.bytes.each)) where
    fit-more : All (Fits new) blocks
    fit-more = All-weaker (Fits fresh) (Fits new) (λ b fit. let one = fit.0 in let two = fit.1 in let more = rights.1 in let further = bytes.1 in (omega (arith, one, more), omega (arith, two, further))) blocks ready.fit

    -- nor does it where more memory is there
    pub ready-more : AreReady new told start blocks
    ready-more =
        let one = ready.room.0 in
        let two = ready.room.1 in
        let more = rights.0 in
        let further = bytes.0 in
        record { before = ready.before; were_told = ready.were_told; fit = fit-more; room = (omega (arith, one, more), omega (arith, two, further)) }

    -- a packet that is launched finds room, where there is some for as many as are in flight then
    pub ready-launched : (block : ArgumentBlock) → told ≤ block.number → Fits new block → HasLists new (length blocks + 1) → AreReady new told start (blocks ++ block ∷ [])
    ready-launched block since fit room =
        let all = filter-shorter (λ (b : ArgumentBlock). nat_le told b.number) (blocks ++ block ∷ []) in
        let longer = length-append blocks (block ∷ []) in
        let one = room.0 in
        let two = room.1 in
        record {
          before = ready.before;
          were_told = All-push (WasTold told start.packets) blocks block ready.were_told (λ less. absurd (omega (arith, less, since)));
          fit = All-push (Fits new) blocks block fit-more fit;
          room = (omega (arith, all, longer, one), omega (arith, all, longer, two));
        }

    -- where a history goes on from a copy, nothing counts as told, and there is room for all
    pub ready-rotated : (next : Origin) → HasLists new (length blocks) → AreReady new 0 next blocks
    ready-rotated next room =
        let all = filter-shorter (λ (b : ArgumentBlock). nat_le 0 b.number) blocks in
        let one = room.0 in
        let two = room.1 in
        record {
          before = omega arith;
          were_told = All-weaker (Fits new) (WasTold 0 next.packets) (λ b fit less. absurd (omega (arith, less))) blocks fit-more;
          fit = fit-more;
          room = (omega (arith, all, one), omega (arith, all, two));
        }

-- no packet wants nothing
pub ready-opened : (fresh : Fresh) (start : Origin) → AreReady fresh 0 start []
ready-opened fresh start = record {
  before = omega arith;
  were_told = All-nil (WasTold 0 start.packets);
  fit = All-nil (Fits fresh);
  room = (omega arith, omega arith);
}
