use Rattle.std.proofs.Common.{◌≡◌, ◌+◌, ◌∷◌, [], ◌∙◌, take, get_or, length, slice_set, arith}
use Rattle.std.proofs.lemmas.Grind.{common_steps}
use Rattle.executor.specs.declared.page.Page.{Page}
use Rattle.executor.specs.inner.Pages.{page_byte}
use Rattle.executor.specs.Written.{laid}
use Rattle.executor.proofs.Maps.{laid_same, laid_more, page_set}
use Rattle.executor.proofs.page.Page.store.Goals as goal

pub loop-index-preserved : goal.loop-index-preserved
loop-index-preserved c =
    let page : Page = record { mask = c.loop-index.mask; bytes = c.loop-index.self.bytes } in
    let long : length c.loop-index.self.bytes ≡ 64 = c.loop-index.invariant.0 in
    let still : length (slice_set c.loop-index.self.bytes (c.args.place + c.loop-index.index) (get_or c.args.bytes.now c.loop-index.index 0)) ≡ 64 = grind (arith, common_steps) in (
      still,
      λ x.
          page_set page (c.args.place + c.loop-index.index) (get_or c.args.bytes.now c.loop-index.index 0) (omega arith) (omega arith) x
          ∙ (laid_same (page_byte page) (laid (page_byte c.args.self.now) c.args.place (take c.loop-index.index c.args.bytes.now))
          (c.args.place + c.loop-index.index) (get_or c.args.bytes.now c.loop-index.index 0 ∷ []) x (c.loop-index.invariant.1 x)
          ∙ laid_more (page_byte c.args.self.now) c.args.place c.loop-index.index c.args.bytes.now (omega arith) x),
    )
