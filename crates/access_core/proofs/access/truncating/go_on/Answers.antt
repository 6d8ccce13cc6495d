-- The start moves on by the entries.
use Rattle.std.proofs.Common.{◌∙◌, List, subst, sym}
use Rattle.core_model.specs.declared.entry.Entry.{Entry}
use Rattle.access_core.specs.inner.MovingOn.{MayMove, MovesOn}
use Rattle.access_core.proofs.access.truncating.go_on.Goals as goal

pub move_on-requires : goal.move_on-requires
move_on-requires c = subst (λ (es : List Entry). MayMove c.args.start.now es) (sym (c.as_mut_slice.ensures.value ∙ c.into_vec-entries.ensures.items)) c.requires

pub returns-clause-moved : goal.returns-clause-moved
returns-clause-moved c = subst (λ (es : List Entry). MovesOn c.args.start.now es c.move_on.new.start) (c.as_mut_slice.ensures.value ∙ c.into_vec-entries.ensures.items) c.move_on.ensures
