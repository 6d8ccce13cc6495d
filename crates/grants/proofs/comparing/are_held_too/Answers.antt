use Rattle.std.proofs.Common.{◌∙◌, sym}
use Rattle.grants.proofs.CompareLemmas.{all-held, held-all}
use Rattle.grants.proofs.comparing.are_held_too.Goals as goal

pub returns : goal.returns
returns c = (
  λ e. all-held c.args.other.now c.args.holds.now (sym c.have_holds.ensures ∙ e),
  λ h. c.have_holds.ensures ∙ held-all c.args.other.now c.args.holds.now h,
)
