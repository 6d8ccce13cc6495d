-- One request more was served.
use Rattle.std.proofs.Common.{List, [], ◌∷◌, ◌++◌, refl, subst}
use Rattle.world.specs.declared.request.Request.{Request}
use Rattle.world.specs.States.{Joined}
use Rattle.world.specs.Dues.{AreReplies, IsServed, Reply}

pub AreReplies-more : (old mid new : Joined) (requests : List Request) (replies : List Reply) (asked : Request) (reply : Reply)
    → AreReplies old requests replies mid → IsServed mid asked reply new → AreReplies old (requests ++ asked ∷ []) (replies ++ reply ∷ []) new
AreReplies-more old mid new [] [] asked reply so_far served = (new, subst (λ w. IsServed w asked reply new) so_far served, refl)
AreReplies-more old mid new (r ∷ requests) (p ∷ replies) asked reply so_far served =
    (so_far.0, so_far.1, AreReplies-more so_far.0 mid new requests replies asked reply so_far.2 served)
AreReplies-more old mid new [] (p ∷ replies) asked reply so_far served = absurd so_far
AreReplies-more old mid new (r ∷ requests) [] asked reply so_far served = absurd so_far
