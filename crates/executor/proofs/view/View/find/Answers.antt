use Rattle.std.proofs.Common.{◌≡◌, ◌/◌, ◌%◌, ◌^◌, ◌≤◌, ap, length, rules, slice_get, subst, List, Some}
use Rattle.executor.specs.declared.entry.Entry.{Entry}
use Rattle.executor.proofs.Maps.{get_read}
use Rattle.executor.proofs.ViewLemmas.{long_there, nothing_there, short_there}
use Rattle.executor.proofs.view.View.find.Goals as goal

pub returns-in-None : goal.returns-in-None
returns-in-None c =
    let items = c.self.inside.entries.items in
    let past : length items ≤ c.args.address / 2 ^ 32 = search rules in
    nothing_there items c.args.self.now c.self.view_is c.self.invariant c.args.address 0 past

pub returns-then-address-entry : goal.returns-then-address-entry
returns-then-address-entry c =
    let items = c.self.inside.entries.items in
    let e = c.in-Some.entry.now in
    let lent : c.deref.result.now ≡ items = search rules in
    let at : slice_get items (c.args.address / 2 ^ 32) ≡ Some e =
    subst (λ (es : List Entry). slice_get es (c.args.address / 2 ^ 32) ≡ Some e) lent
    (get_read c.deref.result.now (c.args.address / 2 ^ 32) e c.in-Some.ensures.lookup.1 c.in-Some.ensures.lookup.3.0) in
    long_there items c.args.self.now c.self.view_is c.self.invariant c.args.address 0 e at c.if-address-entry.true

pub returns-else-address-entry : goal.returns-else-address-entry
returns-else-address-entry c =
    let items = c.self.inside.entries.items in
    let e = c.in-Some.entry.now in
    let lent : c.deref.result.now ≡ items = search rules in
    let at : slice_get items (c.args.address / 2 ^ 32) ≡ Some e =
    subst (λ (es : List Entry). slice_get es (c.args.address / 2 ^ 32) ≡ Some e) lent
    (get_read c.deref.result.now (c.args.address / 2 ^ 32) e c.in-Some.ensures.lookup.1 c.in-Some.ensures.lookup.3.0) in
    short_there items c.args.self.now c.self.view_is c.self.invariant c.args.address 0 e at c.if-address-entry.false
