-- What a packet needs and holds, rule by rule.
use Rattle.std.proofs.Common.{◌≡◌, List, [], ◌∷◌, ◌++◌, refl, ◌∙◌, ap, Bool, Option, arith}
use Rattle.std.specs.Prelude.{◌&&◌, map, option_to_list}
use Rattle.std.specs.List.{list_all, flat_map}
use Rattle.std.proofs.lemmas.List.Folds.{list_all-append}
use Rattle.aql_packet.specs.declared.packet.Packet.{Packet}
use Rattle.policy.specs.declared.object.Object.{Object}
use Rattle.policy.specs.declared.rights.Rights.{Rights}
use Rattle.queue_error.specs.declared.rule.Rule.TheVariants.{L4, L6, L8, L9, L10}
use Rattle.core_model.specs.declared.need.Need.{Need}
use Rattle.core_model.specs.declared.origin.Opening.{Opening}
use Rattle.core_model.specs.Needs.{needs}
use Rattle.core_model.specs.Holds.{ObjectRight, right_needed, held_by_needs}
use Rattle.packet_processor.specs.Holding.{as_rights}

-- a test of what is there among some options is a test of each
pub all-options : {X : Type 0} (p : X → Bool) (os : List (Option X)) → list_all p (flat_map option_to_list os) ≡ list_all (λ o. list_all p (option_to_list o)) os
all-options p [] = refl
all-options p (o ∷ os) = list_all-append p (option_to_list o) (flat_map option_to_list os) ∙ ap (λ b. list_all p (option_to_list o) && b) (all-options p os)

-- what some needs have a packet hold
abbrev pub rights_of : List Need → List (Object × Rights)
rights_of ns = map (λ need. as_rights (right_needed need)) ns

-- what a need has a packet hold, if there is one
abbrev pub held_if_any : Option Need → List (Object × Rights)
held_if_any need = rights_of (option_to_list need)

-- what some have it hold, each of which may be none
abbrev pub all_held : List (Option Need) → List (Object × Rights)
all_held needs = rights_of (flat_map option_to_list needs)

pub all_held-splits : (need : Option Need) (needs : List (Option Need)) → all_held (need ∷ needs) ≡ held_if_any need ++ all_held needs
all_held-splits need needs = grind arith

rights_map : (ns : List Need) (rest : List ObjectRight) → map as_rights (map right_needed ns ++ rest) ≡ rights_of ns ++ map as_rights rest
rights_map [] rest = refl
rights_map (n ∷ ns) rest = ap (λ xs. as_rights (right_needed n) ∷ xs) (rights_map ns rest)

-- what the five rules that ask for rights have a packet hold, put behind each other, is all that it holds
pub held_by_rule : (opening : Opening) (p : Packet) (none a k b c d : List (Object × Rights)) → none ≡ []
    → a ≡ none ++ rights_of (needs L4 opening.agent p) → k ≡ a ++ rights_of (needs L6 opening.agent p) → b ≡ k ++ rights_of (needs L8 opening.agent p)
    → c ≡ b ++ rights_of (needs L9 opening.agent p) → d ≡ c ++ rights_of (needs L10 opening.agent p)
    → d ≡ map as_rights (held_by_needs opening p)
held_by_rule opening p none a k b c d empty first kernel second third fourth = grind (arith, rights_map)

behind : (none r4 r6 r8 r9 r10 : List (Object × Rights)) → ((((none ++ r4) ++ r6) ++ r8) ++ r9) ++ r10 ≡ none ++ ((((r4 ++ r6) ++ r8) ++ r9) ++ r10)
behind [] r4 r6 r8 r9 r10 = refl
behind (x ∷ xs) r4 r6 r8 r9 r10 = ap (λ ys. x ∷ ys) (behind xs r4 r6 r8 r9 r10)

-- so it is behind what stood there before
pub held_behind : (opening : Opening) (p : Packet) (none a k b c d : List (Object × Rights))
    → a ≡ none ++ rights_of (needs L4 opening.agent p) → k ≡ a ++ rights_of (needs L6 opening.agent p) → b ≡ k ++ rights_of (needs L8 opening.agent p)
    → c ≡ b ++ rights_of (needs L9 opening.agent p) → d ≡ c ++ rights_of (needs L10 opening.agent p)
    → d ≡ none ++ map as_rights (held_by_needs opening p)
held_behind opening p none a k b c d first kernel second third fourth =
    let r4 : List (Object × Rights) = rights_of (needs L4 opening.agent p) in
    let r6 : List (Object × Rights) = rights_of (needs L6 opening.agent p) in
    let r8 : List (Object × Rights) = rights_of (needs L8 opening.agent p) in
    let r9 : List (Object × Rights) = rights_of (needs L9 opening.agent p) in
    let r10 : List (Object × Rights) = rights_of (needs L10 opening.agent p) in
    let all : (((r4 ++ r6) ++ r8) ++ r9) ++ r10 ≡ map as_rights (held_by_needs opening p) =
    held_by_rule opening p [] r4 (r4 ++ r6) ((r4 ++ r6) ++ r8) (((r4 ++ r6) ++ r8) ++ r9) ((((r4 ++ r6) ++ r8) ++ r9) ++ r10) refl refl refl refl refl refl in
    let whole : d ≡ ((((none ++ r4) ++ r6) ++ r8) ++ r9) ++ r10 =
    fourth ∙ ap (λ xs. xs ++ r10) (third ∙ ap (λ xs. xs ++ r9) (second ∙ ap (λ xs. xs ++ r8) (kernel ∙ ap (λ xs. xs ++ r6) first))) in
    whole ∙ behind none r4 r6 r8 r9 r10 ∙ ap (λ xs. none ++ xs) all
