use Rattle.std.specs.Prelude.{⊤}
use Rattle.std.proofs.Common.{refl, arith, ap, ◌∙◌, inl, inr}
use Rattle.std.proofs.lemmas.Result.{err_from_is_err_and}
use Rattle.std.proofs.lemmas.List.{length-take}
use Rattle.script.specs.Runs.{law}
use Rattle.script.proofs.Blocks.{going_none, going_kept, going_block, outcome_block, outcome_last, outcome_read, block_of, at_end_of, caused_last, caused_run}
use Rattle.script.proofs.run.run_watched.Goals as goal

pub loop-init : goal.loop-init
loop-init g c = (
  going_none (law g.L.Style.answering g.V.Watch.watching c.args.later.now) _ _ _ _ c.new-session.ensures.line c.new-session.ensures.number,
  c.new-session.ensures.out,
  omega (arith, c.new-session.ensures.number),
  omega arith,
  refl,
  refl,
)

pub returns-in_err-count-clause-outcome : goal.returns-in_err-count-clause-outcome
returns-in_err-count-clause-outcome g c =
    let p = err_from_is_err_and c.from_residual.result c.from_residual.ensures.1 in
    let l = law g.L.Style.answering g.V.Watch.watching c.args.later.now in
    rw (p.1, p.2, c.in_err-count.ensures.fault)
    (outcome_read ⊤ l _ _ _ _ _ _ _ (going_kept l _ _ _ _ _ _ _ _ c.loop.invariant.0 c.in_err-count.ensures.block))

pub returns-then-count-eq0-clause-outcome : goal.returns-then-count-eq0-clause-outcome
returns-then-count-eq0-clause-outcome g c =
    let l = law g.L.Style.answering g.V.Watch.watching c.args.later.now in
    let read = at_end_of (g.R.Source.remaining c.loop.reader) (g.R.Source.remaining c.read_once.new.reader) c.in-Some.count c.read_once.new.block
    c.if-count-eq0.true (rw c.in-Some.is at c.in_ok-count.ensures.block) in
    outcome_last l _ _ _ _ _ _ _ _ _ _ c.take_last.result c.loop.invariant.0 read.0 read.1 c.take_last.ensures.taken

pub returns-in_err-take_block-clause-outcome : goal.returns-in_err-take_block-clause-outcome
returns-in_err-take_block-clause-outcome g c =
    let p = err_from_is_err_and c.from_residual-in_err-take_block.result c.from_residual-in_err-take_block.ensures.1 in
    let l = law g.L.Style.answering g.V.Watch.watching c.args.later.now in
    rw (p.1, p.2)
    (outcome_block l _ _ _ _ _ _ _ _ _ _ _ _ c.loop.invariant.0
    (block_of _ _ c.in-Some.count _ _ (rw c.in-Some.is at c.in_ok-count.ensures.block) refl) c.in_err-take_block.ensures.taken)

pub loop-preserved : goal.loop-preserved
loop-preserved g c = (
  going_block (law g.L.Style.answering g.V.Watch.watching c.args.later.now) _ _ _ _ _ _ _ _ _ _ _ _ c.loop.invariant.0
      (block_of _ _ c.in-Some.count _ _ (rw c.in-Some.is at c.in_ok-count.ensures.block) refl) c.in_ok-take_block.ensures.taken,
  c.in_ok-take_block.ensures.taken.empty,
  omega (arith, c.in_ok-take_block.ensures.taken.number, c.in_ok-take_block.ensures.taken.few, length-take c.in-Some.count c.read_once.new.block, c.loop.invariant.2, c.read_once.auto.block),
  omega (arith, c.loop-test.true),
  c.in_ok-count.ensures.read ∙ c.loop.invariant.4,
  c.in_ok-take_block.ensures.written ∙ c.loop.invariant.5,
)

pub returns-then-count-eq0-clause-caused : goal.returns-then-count-eq0-clause-caused
returns-then-count-eq0-clause-caused g c =
    caused_last _ _ _ _ _ c.take_last.result (c.in_ok-count.ensures.read ∙ c.loop.invariant.4) c.loop.invariant.5 c.take_last.ensures.written c.take_last.ensures.caused

pub returns-in_err-take_block-clause-caused : goal.returns-in_err-take_block-clause-caused
returns-in_err-take_block-clause-caused g c =
    let p = err_from_is_err_and c.from_residual-in_err-take_block.result c.from_residual-in_err-take_block.ensures.1 in
    rw (p.1, p.2) (caused_run _ _ _ _ _ _ (c.in_ok-count.ensures.read ∙ c.loop.invariant.4) c.loop.invariant.5 c.in_err-take_block.ensures.caused)

pub returns-clause-outcome : goal.returns-clause-outcome
returns-clause-outcome g c =
    let l = law g.L.Style.answering g.V.Watch.watching c.args.later.now in
    outcome_read ⊤ l _ _ _ _ _ _ _ (going_kept l _ _ _ _ _ _ _ _ c.loop.invariant.0 c.give_up.ensures.kept)
