-- What a call leads to, and what a list of calls leads to.
use Rattle.std.proofs.Common.{[], ◌≡◌, Bool, true, ◌||◌, List, ◌∷◌, map, fold, refl, sym, ap, ◌∙◌, true≢false, arith}
use Rattle.grants.proofs.Terms.{ClientId, Ledger, Object, PacketId, QueueId, Right, Rights, both, each_right, holds}
use Rattle.grants.proofs.Terms.{in_force, is_named, is_one_of, list_all, rules_in, same_pair_is}
use Rattle.policy.specs.declared.rows.PolicyRows.{PolicyRows}
use Rattle.policy.specs.Rules.{Rules}
use Rattle.grants.specs.Laws.{Call, LeadsTo, AreMade, last_ledger, in_force_after, holds_after, rows_after, LawOfCalls}
use Rattle.grants.specs.Laws.Call.{Grant, Revoke, Hold, Release, FindBlocked, Reload}

-- ---- one call

step-rules : (call : Call) (old new : Ledger) → LeadsTo old call new → rules_in new ≡ record (rules_in old) { rows = rows_after (rules_in old).rows call }
step-rules (Grant client object rights) old new l = l.1.same_rules
step-rules (Revoke client object rights) old new l = l.1.same_rules
step-rules (Hold client queue packet rights) old new l = l.1.same_rules
step-rules (Release queue packet) old new l = l.same_rules
step-rules (FindBlocked rows) old new l = ap rules_in l
step-rules (Reload rows) old new l = l.1.rules

-- ---- a right that is held is in force

abbrev pub AreHeldInForce : Ledger → Type 0
AreHeldInForce g = (q : QueueId) (p : PacketId) (c : ClientId) (o : Object) (right : Right) → holds g q p c o right ≡ true → in_force g c o right ≡ true

-- a right that a list of rights in force names is in force
named-in_force : (f : Object → Right → Bool) (rights : List (Object × Rights)) (client c : ClientId) (o : Object) (right : Right)
    → list_all (λ named. each_right named.1 (f named.0)) rights ≡ true → is_named rights client c o right ≡ true → (c ≡ client) × (f o right ≡ true)
named-in_force f [] client c o right all named = absurd (true≢false (sym named))
named-in_force f (n ∷ rights) client c o right all named =
    let parts = both _ _ all in
    by_test (is_one_of c o right client n.0 n.1) refl named (named-in_force f rights client c o right parts.1) parts.0
  where
    by_test : (b : Bool) → is_one_of c o right client n.0 n.1 ≡ b → (b || is_named rights client c o right) ≡ true
        → (is_named rights client c o right ≡ true → (c ≡ client) × (f o right ≡ true)) → each_right n.1 (f n.0) ≡ true → (c ≡ client) × (f o right ≡ true)
    by_test b h2 h3 h4 h5 = grind (arith, same_pair_is)

step-sound : (call : Call) (old new : Ledger) → LeadsTo old call new → AreHeldInForce old → AreHeldInForce new
step-sound (Grant client object rights) old new l sound q p c o right h = grind arith
step-sound (Revoke client object rights) old new l sound q p c o right h = grind (arith, both, same_pair_is)
step-sound (Hold client queue packet rights) old new l sound q p c o right h = grind (arith, named-in_force (λ x r. in_force old client x r) rights client c o right l.0)
step-sound (Release queue packet) old new l sound q p c o right h = grind arith
step-sound (FindBlocked rows) old new l sound q p c o right h = grind arith
step-sound (Reload rows) old new l sound q p c o right h = grind arith

-- ---- a list of calls

abbrev calls_of : List (Call × Ledger) → List Call
calls_of steps = map (λ step. step.0) steps

given-by : (steps : List (Call × Ledger)) (old : Ledger) → AreMade old steps → (c : ClientId) (o : Object) (right : Right)
    → in_force (last_ledger old steps) c o right ≡ fold (in_force_after c o right) (in_force old c o right) (calls_of steps)
given-by [] old made c o right = refl
given-by (step ∷ steps) old made c o right = grind (arith, given-by steps step.1 made.1 c o right)

held-by : (steps : List (Call × Ledger)) (old : Ledger) → AreMade old steps → (q : QueueId) (p : PacketId) (c : ClientId) (o : Object) (right : Right)
    → holds (last_ledger old steps) q p c o right ≡ fold (holds_after q p c o right) (holds old q p c o right) (calls_of steps)
held-by [] old made q p c o right = refl
held-by (step ∷ steps) old made q p c o right = grind (arith, held-by steps step.1 made.1 q p c o right)

rules-by : (steps : List (Call × Ledger)) (old : Ledger) → AreMade old steps → rules_in (last_ledger old steps) ≡ record (rules_in old) { rows = fold rows_after (rules_in old).rows (calls_of steps) }
rules-by [] old made = refl
rules-by (step ∷ steps) old made =
    rules-by steps step.1 made.1 ∙ ap (λ (r : Rules). record r { rows = fold rows_after r.rows (calls_of steps) }) (step-rules step.0 old step.1 made.0)

sound-by : (steps : List (Call × Ledger)) (old : Ledger) → AreMade old steps → AreHeldInForce old → AreHeldInForce (last_ledger old steps)
sound-by [] old made sound = sound
sound-by (step ∷ steps) old made sound = sound-by steps step.1 made.1 (step-sound step.0 old step.1 made.0 sound)

pub law_of_calls : LawOfCalls
law_of_calls = grind (arith, given-by, rules-by, held-by, sound-by)
