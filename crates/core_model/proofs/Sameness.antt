-- When two are the same to begin from, by tests of their parts.
use Rattle.std.proofs.Common.{◌≡◌, Bool, ◌&&◌, List, sym, subst}
use Rattle.std.specs.Prelude.{nat_eq}
use Rattle.std.specs.Bool.{Decides}
use Rattle.std.proofs.lemmas.Bool.Decides.{Decides-and, Decides-eqb, Decides-like}
use Rattle.grants.specs.Ledger.{SameGrants}
use Rattle.core_model.specs.History.{Origin, PacketOrigin, QueueOrigin, policy_in}
use Rattle.core_model.specs.Legal.{SameOrigin}

module _ (one other : Origin) (qs qs' : List QueueOrigin) (ps ps' : List PacketOrigin) (q : qs ≡ one.queues) (q' : qs' ≡ other.queues) (p : ps ≡ one.packets) (p' : ps' ≡ other.packets) where
  abbrev Parts : Type 0
  Parts =
      (((((((policy_in one ≡ policy_in other) × SameGrants one.grants other.grants) × (one.memory ≡ other.memory)) × (one.signals ≡ other.signals)) × (one.opened ≡ other.opened)) × (qs ≡ qs')) × (ps ≡ ps')) × (one.before ≡ other.before)

  whole : Parts → SameOrigin one other
  whole parts = record {
    policy = parts.0.0.0.0.0.0.0;
    granted = λ client on right. sym (parts.0.0.0.0.0.0.1.in_force client on right);
    held = λ queue id client on right. sym (parts.0.0.0.0.0.0.1.held queue id client on right);
    memory = parts.0.0.0.0.0.1;
    signals = parts.0.0.0.0.1;
    opened = parts.0.0.0.1;
    queues = subst (λ xs. xs ≡ other.queues) q (subst (λ xs. qs ≡ xs) q' parts.0.0.1);
    packets = subst (λ xs. xs ≡ other.packets) p (subst (λ xs. ps ≡ xs) p' parts.0.1);
    before = parts.1;
  }

  parted : SameOrigin one other → Parts
  parted same = (
    (
      (
        (
          (
            (
              (
                same.policy,
                record {
                  in_force = λ client on right. sym (same.granted client on right);
                  held = λ queue id client on right. sym (same.held queue id client on right);
                },
              ),
              same.memory,
            ),
            same.signals,
          ),
          same.opened,
        ),
        subst (λ xs. xs ≡ qs') (sym q) (subst (λ xs. one.queues ≡ xs) (sym q') same.queues),
      ),
      subst (λ xs. xs ≡ ps') (sym p) (subst (λ xs. one.packets ≡ xs) (sym p') same.packets),
    ),
    same.before,
  )

  pub same-origin : (a b c d e f : Bool) → Decides a (policy_in one ≡ policy_in other) → Decides b (SameGrants one.grants other.grants) → Decides c (one.memory ≡ other.memory)
      → Decides d (one.signals ≡ other.signals) → Decides e (qs ≡ qs') → Decides f (ps ≡ ps')
      → Decides (((((((a && b) && c) && d) && nat_eq one.opened other.opened) && e) && f) && nat_eq one.before other.before) (SameOrigin one other)
  same-origin a b c d e f da db dc dd de df =
      Decides-like (((((((a && b) && c) && d) && nat_eq one.opened other.opened) && e) && f) && nat_eq one.before other.before) whole parted
      (Decides-and ((((((a && b) && c) && d) && nat_eq one.opened other.opened) && e) && f) (nat_eq one.before other.before)
      (Decides-and (((((a && b) && c) && d) && nat_eq one.opened other.opened) && e) f
      (Decides-and ((((a && b) && c) && d) && nat_eq one.opened other.opened) e
      (Decides-and (((a && b) && c) && d) (nat_eq one.opened other.opened) (Decides-and ((a && b) && c) d (Decides-and (a && b) c (Decides-and a b da db) dc) dd) (Decides-eqb one.opened other.opened)) de) df)
      (Decides-eqb one.before other.before))
