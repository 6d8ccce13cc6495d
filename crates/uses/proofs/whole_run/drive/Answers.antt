-- Each step goes on from where the one before it ended, and the headline is said of the last.
use Rattle.std.proofs.Common.{rules, ◌++◌, [], List, subst}
use Rattle.std.proofs.lemmas.List.{append-nil}
use Rattle.core_model.specs.declared.entry.Entry.{Entry}
use Rattle.core_model.specs.Rotation.{entries_in}
use Rattle.world.specs.Dues.{AreReplies, handed_out}
use Rattle.world.specs.InStep.{IsJoinedBehind}
use Rattle.uses.proofs.whole_run.drive.Goals as goal

pub returns : goal.returns
returns g c = λ policy prior h.
    let go = c.law_each_run_goes_on.ensures in
    let one : AreReplies c.args.world.now c.args.first.items c.in_ok-first.first.items c.run.new.self = search rules in
    let two : AreReplies c.run.new.self c.args.second.items c.in_ok-second.second.items c.run-2.new.self = search rules in
    let behind : List Entry = (prior ++ handed_out c.in_ok-first.first.items) ++ handed_out c.in_ok-second.second.items in
    let asked : IsJoinedBehind policy behind c.run-2.new.self =
    go.joined policy (prior ++ handed_out c.in_ok-first.first.items) _ _ _ _ (go.joined policy prior _ _ _ _ h one) two in
    let sent : IsJoinedBehind policy behind c.submit.new.world =
    subst (λ (es : List Entry). IsJoinedBehind policy es c.submit.new.world) (append-nil behind) (go.reached policy behind [] _ _ asked c.submit.ensures).0 in
    let parts = c.run-3.ensures.0 in
    (parts, c.headline.ensures.headline policy (behind ++ entries_in parts) (go.reached policy behind parts _ _ sent c.run-3.ensures.1).0)
