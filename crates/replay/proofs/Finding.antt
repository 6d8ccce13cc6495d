-- Walks over lists, item by item.
use Rattle.std.proofs.Common.{ℕ, zero, suc, ◌≡◌, ◌≤◌, ◌<◌, ◌+◌, List, [], ◌∷◌, ◌++◌, length, take, drop, get_or, refl, sym, ◌∙◌, ap, subst, arith, Ok, Err}
use Rattle.std.specs.Prelude.{All}
use Rattle.std.specs.List.{Contains}
use Rattle.std.proofs.Math.Numerals.{add-one}
use Rattle.std.proofs.lemmas.List.{length-take-le, take_all}
use Rattle.std.proofs.lemmas.List.Elements.{All-nil, All-push, Contains-get_or}
use Rattle.kernel_check.specs.Programs.{Program}
use Rattle.policy.specs.Policy.{Declared}
use Rattle.policy.specs.declared.rows.PolicyRows.{PolicyRows}
use Rattle.core_model.specs.declared.entry.Entry.{Entry}
use Rattle.replay.specs.declared.stop.Stop.{Stop}
use Rattle.replay.specs.Replays.{HasRows, NoneHasRows, Replayed, Takes}
use Rattle.replay.specs.Verdicts.{IsReplayed, IsStopped}
use Rattle.replay.proofs.Replaying.{replayed-more, replayed-stopped}

take-next : {X : Type 0} (xs : List X) (i : ℕ) (x : X) → i < length xs → get_or xs i x ≡ x → take (suc i) xs ≡ take i xs ++ x ∷ []
take-next [] i x lt is = absurd (omega (arith, lt))
take-next (y ∷ xs) zero x lt is = ap (λ z. z ∷ []) is
take-next (y ∷ xs) (suc i) x lt is = ap (λ zs. y ∷ zs) (take-next xs i x (omega (arith, lt)) is)

take-more : {X : Type 0} (xs : List X) (i : ℕ) (x : X) → i < length xs → get_or xs i x ≡ x → take (i + 1) xs ≡ take i xs ++ x ∷ []
take-more xs i x lt is = ap (λ n. take n xs) (add-one i) ∙ take-next xs i x lt is

parted-at : {X : Type 0} (xs : List X) (i : ℕ) (x : X) → i < length xs → get_or xs i x ≡ x → xs ≡ take i xs ++ x ∷ drop (suc i) xs
parted-at [] i x lt is = absurd (omega (arith, lt))
parted-at (y ∷ xs) zero x lt is = ap (λ z. z ∷ xs) is
parted-at (y ∷ xs) (suc i) x lt is = ap (λ zs. y ∷ zs) (parted-at xs i x (omega (arith, lt)) is)

-- ---- policies

pub none_yet : (declared : Declared) (rows : PolicyRows) (policies : List Declared) → NoneHasRows declared rows (take 0 policies)
none_yet declared rows [] = All-nil (λ (p : Declared). HasRows declared rows p → ⊥)
none_yet declared rows (p ∷ ps) = All-nil (λ (p : Declared). HasRows declared rows p → ⊥)

pub none_more : (declared : Declared) (rows : PolicyRows) (policies : List Declared) (i : ℕ) (policy : Declared) → i < length policies → get_or policies i policy ≡ policy → (HasRows declared rows policy → ⊥)
    → NoneHasRows declared rows (take i policies) → NoneHasRows declared rows (take (i + 1) policies)
none_more declared rows policies i policy lt is out none =
    subst (NoneHasRows declared rows) (sym (take-more policies i policy lt is)) (All-push (λ (p : Declared). HasRows declared rows p → ⊥) (take i policies) policy none out)

pub none_at_all : (declared : Declared) (rows : PolicyRows) (policies : List Declared) (i : ℕ) → length policies ≤ i → NoneHasRows declared rows (take i policies) → NoneHasRows declared rows policies
none_at_all declared rows policies i all none = subst (NoneHasRows declared rows) (take_all i policies all) none

pub is_there : (policies : List Declared) (i : ℕ) (policy : Declared) → i < length policies → get_or policies i policy ≡ policy → Contains policies policy
is_there policies i policy lt is = subst (Contains policies) is (Contains-get_or policies i policy lt)

-- ---- entries

module _ (policy : Declared) (kernels : List Program) (further : List Declared) (entries : List Entry) where
  pub judged_more : (i : ℕ) (entry : Entry) (old new : Replayed) → i < length entries → get_or entries i entry ≡ entry → IsReplayed policy kernels further (take i entries) old → Takes old entry (Ok tt) new
      → IsReplayed policy kernels further (take (i + 1) entries) new
  judged_more i entry old new lt is so_far takes =
      subst (λ (es : List Entry). IsReplayed policy kernels further es new) (sym (take-more entries i entry lt is)) (replayed-more policy kernels further (take i entries) entry old new so_far takes)

  pub judged_stop : (i : ℕ) (entry : Entry) (why : Stop) (old new : Replayed) → i < length entries → get_or entries i entry ≡ entry → IsReplayed policy kernels further (take i entries) old → Takes old entry (Err why) new
      → IsStopped policy kernels further entries i why new
  judged_stop i entry why old new lt is so_far takes = record {
    before = take i entries;
    entry = entry;
    rest = drop (suc i) entries;
    entries_are = parted-at entries i entry lt is;
    place_is = sym (length-take-le i entries (omega (arith, lt)));
    whole = so_far.whole;
    known = so_far.known;
    stops = replayed-stopped policy kernels further (take i entries) entry old new so_far why takes;
    standing = old;
    taken = so_far;
    takes = takes;
  }

  pub judged_all : (i : ℕ) (replay : Replayed) → length entries ≤ i → IsReplayed policy kernels further (take i entries) replay → IsReplayed policy kernels further entries replay
  judged_all i replay all so_far = subst (λ (es : List Entry). IsReplayed policy kernels further es replay) (take_all i entries all) so_far
