-- A client's listing, by the grants that are kept.
use Rattle.core_model.specs.History.{beginning}
use Rattle.std.proofs.Common.{◌≡◌, ◌<◌, List, length, true, Ok, arith}
use Rattle.core_model.specs.Queries.{query_answer}
use Rattle.core_model.specs.Asking.{query_may_lack_memory}
use Rattle.access_core.proofs.Terms.{ClientId, History, Inside, IsCached, Object, Rights, history_of, knows_client, listing, rules_of, start_of}
use Rattle.policy.specs.Listing.{all_objects, listing_by}
use Rattle.policy.specs.Rules.{count}
use Rattle.grants.specs.Ledger as ledger
use Rattle.core_model.specs.declared.answer.Answer.TheVariants as answer
use Rattle.core_model.specs.declared.event.Query.TheVariants as query

module _ (a : Inside) (kept : IsCached a) (client : ClientId) where
  listing-is : ledger.listing a.grants client ≡ listing (start_of a) a.audit.items client
  listing-is = λ i. listing_by (λ on right. kept.granted client on right i) (all_objects (count (kept.rules i)))

  -- a client that is declared is told the listing
  pub listing-replied : (old : History) → history_of a ≡ old → (rows : List (Object × Rights)) → rows ≡ ledger.listing a.grants client
      → knows_client (rules_of (beginning old).policy) client ≡ true
      → Ok (answer.Listing rows) ≡ query_answer (beginning old) old.entries (query.List client)
  unfolding query_answer
  listing-replied old seen_as rows are declared = grind (arith, listing-is)

  -- and where memory for it was lacking, it isn't empty
  pub listing-lacked : (old : History) → history_of a ≡ old → 0 < length (ledger.listing a.grants client) → knows_client (rules_of (beginning old).policy) client ≡ true
      → query_may_lack_memory (query_answer (beginning old) old.entries (query.List client)) ≡ true
  unfolding query_answer
  listing-lacked old seen_as some declared = grind (arith, listing-is)
