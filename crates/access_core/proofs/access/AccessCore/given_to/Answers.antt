-- What its block tells is what the history says.
use Rattle.std.proofs.Common.{List, sym, subst}
use Rattle.access_core.proofs.GivenLemmas.{given-bytes, given-rights, given-there}
use Rattle.access_core.proofs.Seen.{seen}
use Rattle.access_core.proofs.TakeLemmas.{open-of}
use Rattle.access_core.proofs.Terms.{IsThere, Queue}
use Rattle.access_core.proofs.access.AccessCore.given_to.Goals as goal

pub open_index-requires : goal.open_index-requires
open_index-requires c =
    let at = open-of c.self.inside c.self.invariant _ (seen c.self.view_is) c.args.queue c.args.found.packet c.args.place c.requires.found in
    subst (λ (qs : List Queue). IsThere qs c.args.queue) (sym c.as_slice.ensures.value) (at.q, at.found, at.ascending)

pub at-requires : goal.at-requires
at-requires c =
    let there = given-there c.self.inside c.self.invariant _ (seen c.self.view_is) c.args.queue c.args.found c.args.place c.requires.found c.requires.at c.open_index.result c.index-kept.result.now
    (rw c.as_slice.ensures.value at c.open_index.ensures) c.index-kept.ensures in
    there.within

pub returns-clause-rights : goal.returns-clause-rights
returns-clause-rights c =
    given-rights c.self.inside c.self.invariant _ (seen c.self.view_is) c.args.queue c.args.found c.args.place c.requires.found c.requires.at c.open_index.result c.index-kept.result.now
    (rw c.as_slice.ensures.value at c.open_index.ensures) c.index-kept.ensures c.at.result.now c.at.ensures

pub returns-clause-arguments : goal.returns-clause-arguments
returns-clause-arguments c =
    given-bytes c.self.inside c.self.invariant _ (seen c.self.view_is) c.args.queue c.args.found c.args.place c.requires.found c.requires.at c.open_index.result c.index-kept.result.now
    (rw c.as_slice.ensures.value at c.open_index.ensures) c.index-kept.ensures c.at.result.now c.at.ensures
