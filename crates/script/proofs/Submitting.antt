-- Lines of numbers and a packet, by their first words and what is left of them.
use Rattle.std.proofs.Common.{◌≡◌, ℕ, List, [], ◌∷◌, Option, Some, None, refl, sym, ◌∙◌}
use Rattle.std.specs.Prelude.{option_and_then, option_map}
use Rattle.aql_packet.specs.declared.ids.QueueId.{QueueId}
use Rattle.aql_packet.specs.declared.ids.PacketId.{PacketId}
use Rattle.words.specs.Lines.{Word, words, one_word}
use Rattle.words.specs.Numbers.{decimal_word, first_decimal}
use Rattle.words.specs.Packets.{packet_word}
use Rattle.words.proofs.Leading.{none_behind, split_first}
use Rattle.script.specs.declared.command.Command.{Command}
use Rattle.script.specs.declared.command.Command.TheVariants as command
use Rattle.script.specs.Lines.{queue_of, packet_of_queue, submit_row, publish_row}

-- ---- `Q`

queue_by : (last : Option Word) →
    option_and_then {T = Word} {U = QueueId} (λ w. option_map {T = ℕ} {U = QueueId} (λ queue. record { 0 = queue }) (decimal_word w)) last
    ≡ option_map {T = ℕ} {U = QueueId} (λ queue. record { 0 = queue }) (option_and_then {T = Word} {U = ℕ} decimal_word last)
queue_by None = refl
queue_by (Some w) = refl

pub queue_is : (all : List Word) → queue_of all ≡ option_map {T = ℕ} {U = QueueId} (λ queue. record { 0 = queue }) (option_and_then {T = Word} {U = ℕ} decimal_word (one_word all))
queue_is all = queue_by (one_word all)

-- ---- `Q ID`

abbrev pub ids_of : ℕ → ℕ → QueueId × PacketId
ids_of queue packet = (record { 0 = queue }, record { 0 = packet })

packet_by : (q : Word) (last : Option Word) →
    option_and_then {T = Word × Word} {U = QueueId × PacketId} (λ w. option_and_then {T = ℕ} {U = QueueId × PacketId} (λ queue. option_map {T = ℕ} {U = QueueId × PacketId} (ids_of queue) (decimal_word w.1)) (decimal_word w.0))
    (option_map {T = Word} {U = Word × Word} (λ b. (q, b)) last)
    ≡ option_and_then {T = ℕ} {U = QueueId × PacketId} (λ queue. option_map {T = ℕ} {U = QueueId × PacketId} (ids_of queue) (option_and_then {T = Word} {U = ℕ} decimal_word last)) (decimal_word q)
packet_by q None = sym (none_behind (decimal_word q) (λ queue. None) (λ queue. refl))
packet_by q (Some b) = refl

pub packet_is : (all : List Word) → packet_of_queue all
    ≡ option_and_then {T = ℕ × List Word} {U = QueueId × PacketId} (λ first. option_map {T = ℕ} {U = QueueId × PacketId} (ids_of first.0) (option_and_then {T = Word} {U = ℕ} decimal_word (one_word first.1))) (first_decimal all)
packet_is [] = refl
packet_is (q ∷ further) =
    packet_by q (one_word further)
    ∙ sym (split_first (decimal_word q) further (λ first. option_map {T = ℕ} {U = QueueId × PacketId} (ids_of first.0) (option_and_then {T = Word} {U = ℕ} decimal_word (one_word first.1)))
    (λ queue. option_map {T = ℕ} {U = QueueId × PacketId} (ids_of queue) (option_and_then {T = Word} {U = ℕ} decimal_word (one_word further))) (λ queue. refl))

-- ---- `submit Q P H`

abbrev pub submitted : ℕ → ℕ → List ℕ → Command
submitted queue producer packet = command.Submit (record { 0 = queue }) producer packet

-- by the queue, and the words behind it
abbrev pub submit_behind : ℕ → ℕ × List Word → Option Command
submit_behind queue second = option_map {T = List ℕ} {U = Command} (submitted queue second.0) (option_and_then {T = Word} {U = List ℕ} packet_word (one_word second.1))

submit_by : (q p : Word) (last : Option Word) →
    option_and_then {T = Word × Word × Word} {U = Command} (λ w. option_and_then {T = ℕ} {U = Command} (λ queue. option_and_then {T = ℕ} {U = Command} (λ producer. option_map {T = List ℕ} {U = Command} (λ packet.
    command.Submit (record { 0 = queue }) producer packet) (packet_word w.2)) (decimal_word w.1)) (decimal_word w.0))
    (option_map {T = Word × Word} {U = Word × Word × Word} (λ rest. (q, rest.0, rest.1)) (option_map {T = Word} {U = Word × Word} (λ c. (p, c)) last))
    ≡ option_and_then {T = ℕ} {U = Command} (λ queue. option_and_then {T = ℕ} {U = Command} (λ producer. option_map {T = List ℕ} {U = Command} (submitted queue producer)
    (option_and_then {T = Word} {U = List ℕ} packet_word last)) (decimal_word p)) (decimal_word q)
submit_by q p None = sym (none_behind (decimal_word q) _ (λ queue. none_behind (decimal_word p) (λ producer. None) (λ producer. refl)))
submit_by q p (Some d) = refl

-- what a `submit` stands for, by its first number and its second, and the packet that is its last word
pub submit_is : (all : List Word) → submit_row all
    ≡ option_and_then {T = ℕ × List Word} {U = Command} (λ first. option_and_then {T = ℕ × List Word} {U = Command} (submit_behind first.0) (first_decimal first.1)) (first_decimal all)
submit_is [] = refl
submit_is (q ∷ []) = sym (split_first (decimal_word q) [] _ (λ queue. None) (λ queue. refl) ∙ none_behind (decimal_word q) (λ queue. None) (λ queue. refl))
submit_is (q ∷ p ∷ further) =
    submit_by q p (one_word further)
    ∙ sym (split_first (decimal_word q) (p ∷ further) _ _ (λ queue. split_first (decimal_word p) further (submit_behind queue)
    (λ producer. option_map {T = List ℕ} {U = Command} (submitted queue producer) (option_and_then {T = Word} {U = List ℕ} packet_word (one_word further))) (λ producer. refl)))

-- ---- `publish Q P T H`

abbrev pub published : ℕ → ℕ → ℕ → List ℕ → Command
published queue producer ticket packet = command.Publish (record { 0 = queue }) producer (record { 0 = ticket }) packet

-- by the queue and the producer, and the words behind them
abbrev pub publish_behind : ℕ → ℕ → ℕ × List Word → Option Command
publish_behind queue producer third = option_map {T = List ℕ} {U = Command} (published queue producer third.0) (option_and_then {T = Word} {U = List ℕ} packet_word (one_word third.1))

publish_by : (q p t : Word) (last : Option Word) →
    option_and_then {T = Word × Word × Word × Word} {U = Command} (λ w. option_and_then {T = ℕ} {U = Command} (λ queue. option_and_then {T = ℕ} {U = Command} (λ producer. option_and_then {T = ℕ} {U = Command} (λ ticket.
    option_map {T = List ℕ} {U = Command} (λ packet. command.Publish (record { 0 = queue }) producer (record { 0 = ticket }) packet) (packet_word w.3)) (decimal_word w.2)) (decimal_word w.1)) (decimal_word w.0))
    (option_map {T = Word × Word × Word} {U = Word × Word × Word × Word} (λ rest. (q, rest.0, rest.1, rest.2))
    (option_map {T = Word × Word} {U = Word × Word × Word} (λ rest. (p, rest.0, rest.1)) (option_map {T = Word} {U = Word × Word} (λ c. (t, c)) last)))
    ≡ option_and_then {T = ℕ} {U = Command} (λ queue. option_and_then {T = ℕ} {U = Command} (λ producer. option_and_then {T = ℕ} {U = Command} (λ ticket. option_map {T = List ℕ} {U = Command} (published queue producer ticket)
    (option_and_then {T = Word} {U = List ℕ} packet_word last)) (decimal_word t)) (decimal_word p)) (decimal_word q)
publish_by q p t None =
    sym (none_behind (decimal_word q) _ (λ queue. none_behind (decimal_word p) _ (λ producer. none_behind (decimal_word t) (λ ticket. None) (λ ticket. refl))))
publish_by q p t (Some d) = refl

-- what a `publish` stands for, just so
pub publish_is : (all : List Word) → publish_row all
    ≡ option_and_then {T = ℕ × List Word} {U = Command} (λ first. option_and_then {T = ℕ × List Word} {U = Command} (λ second.
    option_and_then {T = ℕ × List Word} {U = Command} (publish_behind first.0 second.0) (first_decimal second.1)) (first_decimal first.1)) (first_decimal all)
publish_is [] = refl
publish_is (q ∷ []) = sym (split_first (decimal_word q) [] _ (λ queue. None) (λ queue. refl) ∙ none_behind (decimal_word q) (λ queue. None) (λ queue. refl))
publish_is (q ∷ p ∷ []) =
    sym (split_first (decimal_word q) (p ∷ []) _ _ (λ queue. split_first (decimal_word p) [] _ (λ producer. None) (λ producer. refl))
    ∙ none_behind (decimal_word q) _ (λ queue. none_behind (decimal_word p) (λ producer. None) (λ producer. refl)))
publish_is (q ∷ p ∷ t ∷ further) =
    publish_by q p t (one_word further)
    ∙ sym (split_first (decimal_word q) (p ∷ t ∷ further) _ _ (λ queue. split_first (decimal_word p) (t ∷ further) _ _ (λ producer. split_first (decimal_word t) further (publish_behind queue producer)
    (λ ticket. option_map {T = List ℕ} {U = Command} (published queue producer ticket) (option_and_then {T = Word} {U = List ℕ} packet_word (one_word further))) (λ ticket. refl))))
