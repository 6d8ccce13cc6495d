-- Each object puts its row behind those of the objects before.
use Rattle.std.proofs.Common.{◌<◌, arith, rules}
use Rattle.grants.proofs.Terms.{count, in_force, rules_in}
use Rattle.grants.proofs.ListingLemmas.{listed-none, listed-more, some-of_kind}
use Rattle.grants.proofs.grants.Grants.list_kind.Goals as goal

pub loop-before-init : goal.loop-before-init
loop-before-init c = listed-none (in_force c.args.self.now c.args.client) c.args.rows.now

pub loop-before-preserved : goal.loop-before-preserved
loop-before-preserved c =
    listed-more (in_force c.args.self.now c.args.client) c.args.kind c.loop-before.before c.args.rows.now c.loop-before.rows c.list_object.new.rows c.loop-before.invariant
    (rw c.of.ensures at c.in_ok-list_object.ensures.rows)

pub returns-in_err-list_object-clause-lacks : goal.returns-in_err-list_object-clause-lacks
returns-in_err-list_object-clause-lacks c =
    let within : c.loop-before.before < count (rules_in c.args.self.now) c.args.kind = search (arith, rules) in
    let some = some-of_kind (in_force c.args.self.now c.args.client) c.args.kind c.loop-before.before _ within (rw c.of.ensures at c.in_err-list_object.ensures.lacks) in
    grind (arith, some)

pub returns-clause-rows : goal.returns-clause-rows
returns-clause-rows = grind arith
