-- One more row, in a walk that collects the rights of the rows that cover a client and an object.
use Rattle.std.proofs.Common.{◌≡◌, ℕ, ◌+◌, ◌<◌, Bool, true, false, ◌&&◌, ◌||◌, List, take, get_or, length, bit_or, refl, sym, ap, ◌∙◌}
use Rattle.std.specs.List.{list_any}
use Rattle.std.proofs.lemmas.List.Folds.{list_any_more}
use Rattle.aql_packet.specs.declared.ids.ClientId.{ClientId}
use Rattle.policy.specs.declared.object.Object.{Object}
use Rattle.policy.specs.declared.rights.Right.{Right}
use Rattle.policy.specs.declared.rights.Rights.{Rights}
use Rattle.policy.specs.declared.row.RightsRow.{RightsRow}
use Rattle.policy.specs.Rules.{covers_right, is_for, is_on}
use Rattle.policy.specs.Rights.{has}
use Rattle.policy.proofs.RightsLemmas.{has-or}

module _ (client : ClientId) (object : Object) (right : Right) (rows : List RightsRow) (i : ℕ) (d : RightsRow) (within : i < length rows) (old new : Rights)
    (so_far : has old right ≡ list_any (covers_right client object right) (take i rows)) where
  -- a row that covers them adds its rights
  pub covered_more : (is_for (get_or rows i d).subject client && is_on (get_or rows i d).target object) ≡ true → new.0 ≡ bit_or old.0 (get_or rows i d).rights.0
      → has new right ≡ list_any (covers_right client object right) (take (i + 1) rows)
  covered_more fits added =
      ap (λ n. has (record { 0 = n }) right) added ∙ has-or old (get_or rows i d).rights right
      ∙ ap (λ b. b || has (get_or rows i d).rights right) so_far
      ∙ ap (λ b. list_any (covers_right client object right) (take i rows) || (b && has (get_or rows i d).rights right)) (sym fits)
      ∙ sym (list_any_more (covers_right client object right) rows i d within)

  or-false : (b : Bool) → b ≡ (b || false)
  or-false true = refl
  or-false false = refl

  -- another row adds none
  pub covered_same : (is_for (get_or rows i d).subject client && is_on (get_or rows i d).target object) ≡ false → new ≡ old
      → has new right ≡ list_any (covers_right client object right) (take (i + 1) rows)
  covered_same fits same =
      ap (λ r. has r right) same ∙ so_far ∙ or-false (list_any (covers_right client object right) (take i rows))
      ∙ ap (λ b. list_any (covers_right client object right) (take i rows) || (b && has (get_or rows i d).rights right)) (sym fits)
      ∙ sym (list_any_more (covers_right client object right) rows i d within)
