use Rattle.script.proofs.Writing.{all_begin, kept_all, on_err, on_ok}
use Rattle.script.proofs.run.hand_over.Goals as goal

pub returns-in-Ok-clause-handed : goal.returns-in-Ok-clause-handed
returns-in-Ok-clause-handed g c = on_ok c.flush_once.result (kept_all _ _ _ _ _ c.as_bytes.ensures.value c.in-Ok.ensures.handed c.flush_once.ensures.kept)

pub returns-in-Ok-clause-begun : goal.returns-in-Ok-clause-begun
returns-in-Ok-clause-begun g c = on_err c.flush_once.result (all_begin _ _ _ _ _ c.as_bytes.ensures.value c.in-Ok.ensures.handed c.flush_once.ensures.kept)
