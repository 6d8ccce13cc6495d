-- A client and an object that have a cell are declared; where a count isn't 0 the list of holds names the holder.
use Rattle.std.proofs.Common.{◌∙◌, sym, subst, Some, None}
use Rattle.std.specs.Prelude.{vec_len, vec_capacity, ◌-◌}
use Rattle.grants.proofs.Terms.{IsFirstTo, holds_one}
use Rattle.grants.proofs.LedgerLemmas.{declared, holder_first, none_holds}
use Rattle.grants.proofs.grants.Grants.may_revoke.Goals as goal

pub returns-then-not-is_held : goal.returns-then-not-is_held
returns-then-not-is_held c =
    let room = vec_capacity c.self.inside.holds - vec_len c.self.inside.holds in
    let known = declared c.self.inside.table c.self.inside.holds.items room c.args.self.now c.self.view_is c.args.client c.args.object c.get.result c.in-Some.cell c.get.ensures.declared
    c.in-Some.is in (
      known.0,
      known.1,
      none_holds c.self.inside.table c.self.inside.holds.items room c.args.self.now c.self.view_is c.self.invariant c.args.client c.args.object c.args.rights c.in-Some.cell
          (sym c.get.ensures.cell ∙ c.in-Some.is) (sym c.is_held.ensures ∙ c.if-not-is_held.true),
    )

pub returns-in-Some-first_holder : goal.returns-in-Some-first_holder
returns-in-Some-first_holder c =
    let room = vec_capacity c.self.inside.holds - vec_len c.self.inside.holds in
    let first = Some (c.in-Some-first_holder.queue, c.in-Some-first_holder.packet) in
    let known = declared c.self.inside.table c.self.inside.holds.items room c.args.self.now c.self.view_is c.args.client c.args.object c.get.result c.in-Some.cell c.get.ensures.declared
    c.in-Some.is in (
      known.0,
      known.1,
      holder_first c.self.inside.table c.self.inside.holds.items room c.args.self.now c.self.view_is c.args.client c.args.object c.args.rights first
          (subst (λ hs. IsFirstTo (holds_one hs c.args.client c.args.object c.args.rights) first) c.as_slice.ensures.value c.in-Some-first_holder.ensures),
    )

pub returns-in-None : goal.returns-in-None
returns-in-None c =
    let room = vec_capacity c.self.inside.holds - vec_len c.self.inside.holds in
    let known = declared c.self.inside.table c.self.inside.holds.items room c.args.self.now c.self.view_is c.args.client c.args.object c.get.result c.in-Some.cell c.get.ensures.declared
    c.in-Some.is in (
      known.0,
      known.1,
      holder_first c.self.inside.table c.self.inside.holds.items room c.args.self.now c.self.view_is c.args.client c.args.object c.args.rights None
          (subst (λ hs. IsFirstTo (holds_one hs c.args.client c.args.object c.args.rights) None) c.as_slice.ensures.value c.in-None.ensures),
    )
