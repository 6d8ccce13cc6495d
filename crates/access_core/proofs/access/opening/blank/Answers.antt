-- A core in which nothing has happened is as opened.
use Rattle.std.proofs.Common.{refl}
use Rattle.access_core.proofs.Opened.{IsCached-opened, IsOpening-empty, few_places}
use Rattle.access_core.proofs.access.opening.blank.Goals as goal

pub invariant_of-result : goal.invariant_of-result
invariant_of-result c =
    let state = c.requires.untouched.state in
    IsCached-opened _ c.args.start.policy c.requires.begins state.grants state.rules state.memory state.signals c.new-2.ensures.items refl refl refl
    c.requires.untouched.empty
    c.requires.untouched.places (few_places c.args.capacity c.requires.few) c.requires.entries c.requires.untouched.segments

pub returns : goal.returns
returns c = IsOpening-empty c.args.start.policy _ c.requires.begins _ _ _ c.requires.untouched.empty
