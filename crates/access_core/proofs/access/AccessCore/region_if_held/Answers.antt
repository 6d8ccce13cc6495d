-- Its bytes are those that the history has there.
use Rattle.core_model.specs.History.{beginning}
use Rattle.std.proofs.Common.{◌≡◌, ◌∙◌, ◌*◌, ◌^◌, ℕ, List, Option, ap, rules, false, ◌==◌}
use Rattle.access_core.proofs.Terms.{History, lengths_of, memory_from, is_listed, region_length, region_lengths, unwrap_or, unwrap_or-length_of_region}
use Rattle.access_core.proofs.Seen.{seen}
use Rattle.access_core.proofs.LendingLemmas.{lent-held, whole-within}
use Rattle.access_core.proofs.WorkReadLemmas.{read-inside}
use Rattle.access_core.proofs.access.AccessCore.region_if_held.Goals as goal

pub returns : goal.returns
returns c =
    let a = c.self.inside in
    let h = c.args.self.now.history in
    let number = c.args.region.0 in
    let lengths = c.self.invariant.lengths ∙ ap (λ (h : History). region_lengths (beginning h).policy) (seen c.self.view_is) in
    let size : c.unwrap_or-length.result ≡ region_length (region_lengths (beginning h).policy) number =
    c.unwrap_or-length.ensures ∙ ap (λ (o : Option ℕ). unwrap_or o 0) c.length.ensures.length
    ∙ unwrap_or-length_of_region (lengths_of a.memory) number ∙ ap (λ (ls : List ℕ). region_length ls number) lengths in
    let some : (c.rights_on-rights.result.0 == 0) ≡ false = search rules in
    lent-held (beginning h) h.entries (is_listed c.args.given.now) number c.rights_on-rights.result c.bytes.result.now
    c.rights_on-rights.ensures some
    (c.bytes.ensures.bytes
    ∙ read-inside a c.self.invariant _ (seen c.self.view_is) c.bytes.ensures.memory (number * 2 ^ 32) c.unwrap_or-length.result
    (whole-within (region_lengths (beginning h).policy) number _ size c.requires)
    ∙ ap (memory_from (beginning h) h.entries (number * 2 ^ 32)) size)
