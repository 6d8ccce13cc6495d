-- A write that is refused at once is refused as it is due.
use Rattle.std.proofs.Common.{Err, inl, ap, ◌∙◌}
use Rattle.access_core.specs.Cores.{Core}
use Rattle.hobbydresser_c.proofs.Noting.{core-kept}
use Rattle.hobbydresser_c.proofs.Refusing.{refused_meets_noted}
use Rattle.hobbydresser_c.proofs.host.hd_write.Goals as goal

pub returns-in-Some-clause-met : goal.returns-in-Some-clause-met
returns-in-Some-clause-met c opened =
    inl (
      Err c.in-Some.why,
      inl (refused_meets_noted _ _ _ _ c.in-Some.why
          (ap (λ s. s.core.history) c.session_mut-session.ensures.value ∙ (ap (λ s. s.core.history) c.called.ensures.noted.session_is
          ∙ ap (λ (core : Core). core.history) (core-kept _ _ _)))
          (ap (λ s. s.core.history) c.note_lacking.ensures) c.in-Some.ensures.refused),
      c.of_refusal-status.ensures,
    )
