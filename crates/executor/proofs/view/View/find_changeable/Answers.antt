use Rattle.std.proofs.Common.{◌≡◌, ◌/◌, ◌%◌, ◌^◌, ◌≤◌, ap, length, rules, slice_get, subst, List, Some}
use Rattle.policy.specs.declared.rights.Right.TheVariants.{Read, Write}
use Rattle.executor.specs.inner.Places.{if_reached}
use Rattle.executor.specs.declared.entry.Entry.{Entry}
use Rattle.executor.proofs.Maps.{get_read}
use Rattle.executor.proofs.ViewLemmas.{changeable_there, nothing_there, unchangeable_there, unreadable_there}
use Rattle.executor.proofs.view.View.find_changeable.Goals as goal

pub returns-in-None : goal.returns-in-None
returns-in-None c =
    let items = c.self.inside.entries.items in
    let past : length items ≤ c.args.address / 2 ^ 32 = search rules in
    ap (λ o. if_reached Write (c.args.address % 2 ^ 32) c.args.size (if_reached Read (c.args.address % 2 ^ 32) c.args.size o)) (nothing_there items c.args.self.now c.self.view_is c.self.invariant c.args.address 0 past)

pub returns-then-end-entry : goal.returns-then-end-entry
returns-then-end-entry c =
    let items = c.self.inside.entries.items in
    let e = c.in-Some.entry.now in
    let lent : c.deref.result.now ≡ items = search rules in
    let at : slice_get items (c.args.address / 2 ^ 32) ≡ Some e =
    subst (λ (es : List Entry). slice_get es (c.args.address / 2 ^ 32) ≡ Some e) lent
    (get_read c.deref.result.now (c.args.address / 2 ^ 32) e c.in-Some.ensures.lookup.1 c.in-Some.ensures.lookup.3.0) in
    ap (if_reached Write (c.args.address % 2 ^ 32) c.args.size) (unreadable_there items c.args.self.now c.self.view_is c.self.invariant c.args.address c.args.size e at c.requires.some c.if-end-entry.true)

pub returns-then-end-entry-2 : goal.returns-then-end-entry-2
returns-then-end-entry-2 c =
    let items = c.self.inside.entries.items in
    let e = c.in-Some.entry.now in
    let lent : c.deref.result.now ≡ items = search rules in
    let at : slice_get items (c.args.address / 2 ^ 32) ≡ Some e =
    subst (λ (es : List Entry). slice_get es (c.args.address / 2 ^ 32) ≡ Some e) lent
    (get_read c.deref.result.now (c.args.address / 2 ^ 32) e c.in-Some.ensures.lookup.1 c.in-Some.ensures.lookup.3.0) in
    changeable_there items c.args.self.now c.self.view_is c.self.invariant c.args.address c.args.size e at c.requires.some c.if-end-entry.false c.if-end-entry-2.true

pub returns-else-end-entry-2 : goal.returns-else-end-entry-2
returns-else-end-entry-2 c =
    let items = c.self.inside.entries.items in
    let e = c.in-Some.entry.now in
    let lent : c.deref.result.now ≡ items = search rules in
    let at : slice_get items (c.args.address / 2 ^ 32) ≡ Some e =
    subst (λ (es : List Entry). slice_get es (c.args.address / 2 ^ 32) ≡ Some e) lent
    (get_read c.deref.result.now (c.args.address / 2 ^ 32) e c.in-Some.ensures.lookup.1 c.in-Some.ensures.lookup.3.0) in
    unchangeable_there items c.args.self.now c.self.view_is c.self.invariant c.args.address c.args.size e at c.requires.some c.if-end-entry.false c.if-end-entry-2.false
