-- One request more was served.
use Rattle.std.proofs.Common.{◌≡◌, ◌+◌, ◌++◌, ◌∷◌, [], List, length, length-append, arith, subst, sym}
use Rattle.world.specs.Dues.{AreReplies, Reply}
use Rattle.world.proofs.Replies.{AreReplies-more}
use Rattle.world.proofs.world.World.serve_each.Goals as goal

pub loop-request-preserved : goal.loop-request-preserved
loop-request-preserved c = (
  subst (λ (replies : List Reply). AreReplies c.args.self.now (c.loop-request.yielded ++ c.in-Some.request ∷ []) replies c.serve-reply.new.self) (sym c.push.ensures.items)
      (AreReplies-more c.args.self.now c.loop-request.self c.serve-reply.new.self c.loop-request.yielded c.loop-request.replies.items c.in-Some.request c.serve-reply.result c.loop-request.invariant.0 c.serve-reply.ensures.served),
  (let longer : length (c.loop-request.yielded ++ c.in-Some.request ∷ []) ≡ length c.loop-request.yielded + 1 = length-append c.loop-request.yielded (c.in-Some.request ∷ []) in
      omega (arith, longer, c.push.ensures.room, c.loop-request.invariant.1)),
)
