-- A broker's journal as C sees it (own).
use Rattle.std.specs.Prelude.{ℕ, ◌≡◌, ◌⊎◌, ◌∷◌, Bool, true, false, nat_le, List, length, map}
use Rattle.core_model.specs.History.{beginning}
use Rattle.journal.specs.declared.chain.Chain.{Chain}
use Rattle.journal.specs.declared.chain.Head.{Head}
use Rattle.hobbydresser_c.specs.declared.digests.DigestRecord.{DigestRecord}
use Rattle.hobbydresser_c.specs.declared.journals.ChainRecord.{ChainRecord}
use Rattle.hobbydresser_c.specs.declared.session.Session.{Session}
use Rattle.hobbydresser_c.specs.Buffers.{Fills, Lacks}

-- where a journal stands, and how C sees it
abbrev pub chain_of : ChainRecord → Chain
chain_of told = record { digest = told.digest; number = told.number }

abbrev pub chain_told : Chain → ChainRecord
chain_told chain = record { digest = chain.digest; number = chain.number }

-- the head of a session's journal: as many places as its audit has, how many entries came before, and the digests of the policy that it
-- was opened with and of further ones
abbrev pub head_of : Session → List DigestRecord → Head
head_of session further = record {
  capacity = session.core.history.capacity;
  before = (beginning session.core.history).before;
  policies = session.digest ∷ map (λ it. it.bytes) further;
}

-- where a journal stands after a line that a buffer had room for, and after one that it had not
abbrev pub stands_after : Bool → Chain → ChainRecord → ChainRecord
stands_after true next before = chain_told next
stands_after false next before = before

-- a line was to go into a buffer, and the journal stands after it just where it did
abbrev pub TellsLine : List ℕ → Chain → ℕ → List ℕ → List ℕ → ℕ → ChainRecord → ChainRecord → Type 0
TellsLine line next status before after needed chain_before chain_now =
    Fills line status before after needed × (chain_now ≡ stands_after (nat_le (length line) (length before)) next chain_before)

-- the same, unless memory for the line was wanted
abbrev pub TellsLineOrLacks : List ℕ → Chain → ℕ → List ℕ → List ℕ → ℕ → ℕ → ChainRecord → ChainRecord → Type 0
TellsLineOrLacks line next status before after needed_before needed chain_before chain_now =
    TellsLine line next status before after needed chain_before chain_now
    ⊎ (Lacks status before after needed_before needed × (chain_now ≡ chain_before))
