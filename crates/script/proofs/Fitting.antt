-- What a line's row reads are the words of a form, and what is of a form is read.
use Rattle.std.proofs.Common.{◌≡◌, ℕ, Bool, true, false, List, [], ◌∷◌, Option, Some, None, refl, sym, ap, ◌∙◌}
use Rattle.std.specs.Prelude.{ℤ, pos, ◌&&◌, ◌||◌, codes, option_map, option_and_then, bytes_eq, if◌then◌else◌}
use Rattle.std.specs.Option.{is_some, option_or}
use Rattle.aql_packet.specs.declared.ids.QueueId.{QueueId}
use Rattle.aql_packet.specs.declared.ids.PacketId.{PacketId}
use Rattle.policy.specs.Format.{kind_named}
use Rattle.policy.specs.Policy.{Declared}
use Rattle.script.specs.declared.forms.Class.{Class}
use Rattle.script.specs.declared.forms.Class.TheVariants as class
use Rattle.words.specs.Lines.{Word, no_words, one_word, two_words, three_words, four_words, five_words}
use Rattle.words.specs.Numbers.{address_word, decimal_word, signed_word}
use Rattle.words.specs.Bytes.{bytes_word}
use Rattle.script.specs.Operations.{condition_word, operation_of}
use Rattle.words.specs.Packets.{eight_bytes, packet_word}
use Rattle.script.specs.Rights.{rights_word}
use Rattle.script.specs.Forms.{is_of, fits}
use Rattle.script.specs.Lines.{grant_row, revoke_row, queue_row, queue_of, packet_of_queue, reserve_row, room_row, word_row, part_row, publish_row, submit_row, write_row, read_row, plain_operation, cas_operation, signal_row, load_row, test_row, list_row, reload_row, audit_row, rotate_row}

and_true : (a : Bool) → (a && true) ≡ a
and_true true = refl
and_true false = refl

and_false : (a : Bool) → (a && false) ≡ false
and_false true = refl
and_false false = refl

and_swap : (a b : Bool) → (a && b) ≡ (b && a)
and_swap true true = refl
and_swap true false = refl
and_swap false true = refl
and_swap false false = refl

-- whether what there is passes a test
abbrev test : {X : Type 0} → (X → Bool) → Option X → Bool
test p None = false
test p (Some x) = p x

test_map : {X Y : Type 0} (p : Y → Bool) (f : X → Y) (o : Option X) → test p (option_map f o) ≡ test (λ x. p (f x)) o
test_map p f None = refl
test_map p f (Some x) = refl

test_and : {X : Type 0} (b : Bool) (p : X → Bool) (o : Option X) → test (λ x. b && p x) o ≡ (b && test p o)
test_and true p None = refl
test_and true p (Some x) = refl
test_and false p None = refl
test_and false p (Some x) = refl

-- ---- words are as many as classes, and of them

one_fits : (c : Class) (words : List Word) → test (λ w. is_of c w) (one_word words) ≡ fits (c ∷ []) words
one_fits c [] = refl
one_fits c (a ∷ []) = sym (and_true (is_of c a))
one_fits c (a ∷ b ∷ words) = sym (and_false (is_of c a))

two_fits : (c d : Class) (words : List Word) → test (λ w. is_of c w.0 && is_of d w.1) (two_words words) ≡ fits (c ∷ d ∷ []) words
two_fits c d [] = refl
two_fits c d (a ∷ words) =
    test_map (λ w. is_of c w.0 && is_of d w.1) (λ b. (a, b)) (one_word words) ∙ test_and (is_of c a) (λ w. is_of d w) (one_word words)
    ∙ ap (λ b. is_of c a && b) (one_fits d words)

three_fits : (c d e : Class) (words : List Word) →
    test (λ w. is_of c w.0 && (is_of d w.1 && is_of e w.2)) (three_words words) ≡ fits (c ∷ d ∷ e ∷ []) words
three_fits c d e [] = refl
three_fits c d e (a ∷ words) =
    test_map (λ w. is_of c w.0 && (is_of d w.1 && is_of e w.2)) (λ rest. (a, rest.0, rest.1)) (two_words words)
    ∙ test_and (is_of c a) (λ w. is_of d w.0 && is_of e w.1) (two_words words) ∙ ap (λ b. is_of c a && b) (two_fits d e words)

four_fits : (c d e f : Class) (words : List Word) →
    test (λ w. is_of c w.0 && (is_of d w.1 && (is_of e w.2 && is_of f w.3))) (four_words words) ≡ fits (c ∷ d ∷ e ∷ f ∷ []) words
four_fits c d e f [] = refl
four_fits c d e f (a ∷ words) =
    test_map (λ w. is_of c w.0 && (is_of d w.1 && (is_of e w.2 && is_of f w.3))) (λ rest. (a, rest.0, rest.1, rest.2)) (three_words words)
    ∙ test_and (is_of c a) (λ w. is_of d w.0 && (is_of e w.1 && is_of f w.2)) (three_words words)
    ∙ ap (λ b. is_of c a && b) (three_fits d e f words)

five_fits : (c d e f g : Class) (words : List Word) →
    test (λ w. is_of c w.0 && (is_of d w.1 && (is_of e w.2 && (is_of f w.3 && is_of g w.4)))) (five_words words) ≡ fits (c ∷ d ∷ e ∷ f ∷ g ∷ []) words
five_fits c d e f g [] = refl
five_fits c d e f g (a ∷ words) =
    test_map (λ w. is_of c w.0 && (is_of d w.1 && (is_of e w.2 && (is_of f w.3 && is_of g w.4)))) (λ rest. (a, rest.0, rest.1, rest.2, rest.3)) (four_words words)
    ∙ test_and (is_of c a) (λ w. is_of d w.0 && (is_of e w.1 && (is_of f w.2 && is_of g w.3))) (four_words words)
    ∙ ap (λ b. is_of c a && b) (four_fits d e f g words)

-- ---- there is something of some words where each of their parts is something

some_map : {X Y : Type 0} (f : X → Y) (o : Option X) → is_some (option_map f o) ≡ is_some o
some_map f None = refl
some_map f (Some x) = refl

some_then : {X Y : Type 0} (g : X → Option Y) (p : X → Bool) (o : Option X) → ((x : X) → is_some (g x) ≡ p x) → is_some (option_and_then g o) ≡ test p o
some_then g p None same = refl
some_then g p (Some x) same = same x

-- the same where what follows doesn't depend on the part
some_and : {X Y : Type 0} (g : X → Option Y) (b : Bool) (o : Option X) → ((x : X) → is_some (g x) ≡ b) → is_some (option_and_then g o) ≡ (is_some o && b)
some_and g b None same = refl
some_and g b (Some x) same = same x

some_or : {X : Type 0} (o p : Option X) → is_some (option_or o p) ≡ (is_some o || is_some p)
some_or None p = refl
some_or (Some x) p = refl

some_if : {X : Type 0} (b : Bool) (o : Option X) → is_some (if b then o else None) ≡ (b && is_some o)
some_if true o = refl
some_if false o = refl

some_either : {X : Type 0} (b : Bool) (x y : X) (o p : Option X) → is_some o ≡ is_some p → is_some (if b then Some x else o) ≡ is_some (if b then Some y else p)
some_either true x y o p same = refl
some_either false x y o p same = same

any_test : {X : Type 0} (o : Option X) → is_some o ≡ test (λ x. true) o
any_test None = refl
any_test (Some x) = refl

-- whether an operation has a name doesn't depend on its value
any_value : (word : Word) (v u : ℤ) → is_some (operation_of word v) ≡ is_some (operation_of word u)
any_value word v u =
    some_either (bytes_eq word (codes "store")) _ _ _ _
    (some_either (bytes_eq word (codes "add")) _ _ _ _
    (some_either (bytes_eq word (codes "subtract")) _ _ _ _
    (some_either (bytes_eq word (codes "and")) _ _ _ _
    (some_either (bytes_eq word (codes "or")) _ _ _ _
    (some_either (bytes_eq word (codes "xor")) _ _ _ _
    (some_either (bytes_eq word (codes "exchange")) _ _ _ _ refl))))))

-- ---- row by row

queue_fits : (words : List Word) → is_some (queue_of words) ≡ fits (class.Number ∷ []) words
queue_fits words = some_then _ _ (one_word words) (λ w. some_map _ (decimal_word w)) ∙ one_fits class.Number words

packet_fits : (words : List Word) → is_some (packet_of_queue words) ≡ fits (class.Number ∷ class.Number ∷ []) words
packet_fits words =
    some_then _ _ (two_words words) (λ w. some_and _ _ (decimal_word w.0) (λ queue. some_map _ (decimal_word w.1)))
    ∙ two_fits class.Number class.Number words

pub grant_fits : (policy : Declared) (words : List Word) →
    is_some (grant_row policy words) ≡ fits (class.Name ∷ class.Kind ∷ class.Name ∷ class.Rights ∷ []) words
grant_fits policy words =
    some_map _ _ ∙ some_then _ _ (four_words words) (λ w. some_and _ _ (kind_named w.1) (λ kind. some_map _ (rights_word w.3)))
    ∙ four_fits class.Name class.Kind class.Name class.Rights words

pub revoke_fits : (policy : Declared) (words : List Word) →
    is_some (revoke_row policy words) ≡ fits (class.Name ∷ class.Kind ∷ class.Name ∷ class.Rights ∷ []) words
revoke_fits policy words =
    some_map _ _ ∙ some_then _ _ (four_words words) (λ w. some_and _ _ (kind_named w.1) (λ kind. some_map _ (rights_word w.3)))
    ∙ four_fits class.Name class.Kind class.Name class.Rights words

pub open_fits : (policy : Declared) (words : List Word) →
    is_some (queue_row policy words) ≡ fits (class.Name ∷ class.Name ∷ class.Number ∷ class.Number ∷ []) words
open_fits policy words =
    some_then _ _ (four_words words) (λ w. some_and _ _ (decimal_word w.2) (λ size. some_map _ (decimal_word w.3)))
    ∙ four_fits class.Name class.Name class.Number class.Number words

-- a line of a queue's number, and one of a packet's, whatever is made of it
pub of_queue_fits : {X : Type 0} (f : QueueId → X) (words : List Word) → is_some (option_map f (queue_of words)) ≡ fits (class.Number ∷ []) words
of_queue_fits f words = some_map f (queue_of words) ∙ queue_fits words

pub of_packet_fits : {X : Type 0} (f : QueueId × PacketId → X) (words : List Word) →
    is_some (option_map f (packet_of_queue words)) ≡ fits (class.Number ∷ class.Number ∷ []) words
of_packet_fits f words = some_map f (packet_of_queue words) ∙ packet_fits words

pub reserve_fits : (words : List Word) → is_some (reserve_row words) ≡ fits (class.Number ∷ class.Number ∷ []) words
reserve_fits words =
    some_then _ _ (two_words words) (λ w. some_and _ _ (decimal_word w.0) (λ queue. some_map _ (decimal_word w.1)))
    ∙ two_fits class.Number class.Number words

pub part_fits : (words : List Word) → is_some (part_row words) ≡ fits (class.Number ∷ class.Number ∷ []) words
part_fits words =
    some_then _ _ (two_words words) (λ w. some_and _ _ (decimal_word w.0) (λ queue. some_map _ (decimal_word w.1)))
    ∙ two_fits class.Number class.Number words

pub room_fits : (words : List Word) → is_some (room_row words) ≡ fits (class.Number ∷ class.Number ∷ class.Number ∷ []) words
room_fits words =
    some_then _ _ (three_words words) (λ w. some_and _ _ (decimal_word w.0) (λ queue. some_and _ _ (decimal_word w.1) (λ producer. some_map _ (decimal_word w.2))))
    ∙ three_fits class.Number class.Number class.Number words

pub word_fits : (words : List Word) →
    is_some (word_row words) ≡ fits (class.Number ∷ class.Number ∷ class.Number ∷ class.Number ∷ class.Word ∷ []) words
word_fits words =
    some_then _ _ (five_words words) (λ w. some_and _ _ (decimal_word w.0) (λ queue. some_and _ _ (decimal_word w.1) (λ producer.
    some_and _ _ (decimal_word w.2) (λ ticket. some_and _ _ (decimal_word w.3) (λ place. some_map _ (eight_bytes w.4))))))
    ∙ five_fits class.Number class.Number class.Number class.Number class.Word words

pub publish_fits : (words : List Word) →
    is_some (publish_row words) ≡ fits (class.Number ∷ class.Number ∷ class.Number ∷ class.Packet ∷ []) words
publish_fits words =
    some_then _ _ (four_words words) (λ w. some_and _ _ (decimal_word w.0) (λ queue. some_and _ _ (decimal_word w.1) (λ producer.
    some_and _ _ (decimal_word w.2) (λ ticket. some_map _ (packet_word w.3)))))
    ∙ four_fits class.Number class.Number class.Number class.Packet words

pub submit_fits : (words : List Word) → is_some (submit_row words) ≡ fits (class.Number ∷ class.Number ∷ class.Packet ∷ []) words
submit_fits words =
    some_then _ _ (three_words words) (λ w. some_and _ _ (decimal_word w.0) (λ queue. some_and _ _ (decimal_word w.1) (λ producer. some_map _ (packet_word w.2))))
    ∙ three_fits class.Number class.Number class.Packet words

pub write_fits : (policy : Declared) (words : List Word) → is_some (write_row policy words) ≡ fits (class.Name ∷ class.Address ∷ class.Bytes ∷ []) words
write_fits policy words =
    some_then _ _ (three_words words) (λ w. some_and _ _ (address_word w.1) (λ address. some_map _ (bytes_word w.2)))
    ∙ three_fits class.Name class.Address class.Bytes words

pub read_fits : (policy : Declared) (words : List Word) → is_some (read_row policy words) ≡ fits (class.Name ∷ class.Address ∷ class.Number ∷ []) words
read_fits policy words =
    some_then _ _ (three_words words) (λ w. some_and _ _ (address_word w.1) (λ address. some_map _ (decimal_word w.2)))
    ∙ three_fits class.Name class.Address class.Number words

plain_fits : (policy : Declared) (words : List Word) →
    is_some (plain_operation policy words) ≡ fits (class.Name ∷ class.Name ∷ class.Operation ∷ class.Value ∷ []) words
plain_fits policy words =
    some_then _ _ (four_words words) (λ w.
    some_and _ (is_some (operation_of w.2 (pos 0))) (signed_word w.3) (λ v. some_map _ (operation_of w.2 v) ∙ any_value w.2 v (pos 0))
    ∙ and_swap (is_some (signed_word w.3)) (is_some (operation_of w.2 (pos 0))))
    ∙ four_fits class.Name class.Name class.Operation class.Value words

cas_fits : (policy : Declared) (words : List Word) →
    is_some (cas_operation policy words) ≡ fits (class.Name ∷ class.Name ∷ class.Swap ∷ class.Value ∷ class.Value ∷ []) words
cas_fits policy words =
    some_then _ _ (five_words words) (λ w.
    some_if (bytes_eq w.2 (codes "cas")) _ ∙ ap (λ b. bytes_eq w.2 (codes "cas") && b) (some_and _ _ (signed_word w.3) (λ e. some_map _ (signed_word w.4))))
    ∙ five_fits class.Name class.Name class.Swap class.Value class.Value words

either : (a b c d : Bool) → a ≡ c → b ≡ d → (a || b) ≡ (c || d)
either a b c d e f = ap (λ x. x || b) e ∙ ap (λ x. c || x) f

pub signal_fits : (policy : Declared) (words : List Word) →
    is_some (signal_row policy words) ≡ (fits (class.Name ∷ class.Name ∷ class.Operation ∷ class.Value ∷ []) words
    || fits (class.Name ∷ class.Name ∷ class.Swap ∷ class.Value ∷ class.Value ∷ []) words)
signal_fits policy words =
    some_or (plain_operation policy words) (cas_operation policy words) ∙ either _ _ _ _ (plain_fits policy words) (cas_fits policy words)

pub load_fits : (policy : Declared) (words : List Word) → is_some (load_row policy words) ≡ fits (class.Name ∷ class.Name ∷ []) words
load_fits policy words = some_map _ (two_words words) ∙ any_test (two_words words) ∙ two_fits class.Name class.Name words

pub test_fits : (policy : Declared) (words : List Word) →
    is_some (test_row policy words) ≡ fits (class.Name ∷ class.Name ∷ class.Condition ∷ class.Value ∷ []) words
test_fits policy words =
    some_then _ _ (four_words words) (λ w. some_and _ _ (condition_word w.2) (λ condition. some_map _ (signed_word w.3)))
    ∙ four_fits class.Name class.Name class.Condition class.Value words

pub list_fits : (policy : Declared) (words : List Word) → is_some (list_row policy words) ≡ fits (class.Name ∷ []) words
list_fits policy words = some_map _ (one_word words) ∙ any_test (one_word words) ∙ one_fits class.Name words

then_some : {X Y : Type 0} (g : X → Option Y) (o : Option X) → is_some (option_and_then g o) ≡ true → is_some o ≡ true
then_some g None some = some
then_some g (Some x) some = refl

then_test : {X Y : Type 0} (g : X → Option Y) (p : X → Bool) (o : Option X) → ((x : X) → is_some (g x) ≡ true → p x ≡ true) →
    is_some (option_and_then g o) ≡ true → test p o ≡ true
then_test g p None each some = some
then_test g p (Some x) each some = each x some

-- a `reload` is of its form; what is of the form is read where there is a further policy of its number
pub reload_fits : (later : ℕ) (words : List Word) → is_some (reload_row later words) ≡ true → fits (class.Number ∷ []) words ≡ true
reload_fits later words some =
    sym (one_fits class.Number words) ∙ then_test _ (λ w. is_of class.Number w) (one_word words) (λ w. then_some _ (decimal_word w)) some

lone_fits : {X : Type 0} (x : X) (words : List Word) → is_some (if no_words words then Some x else None) ≡ fits [] words
lone_fits x [] = refl
lone_fits x (a ∷ words) = refl

pub audit_fits : (words : List Word) → is_some (audit_row words) ≡ fits [] words
audit_fits words = lone_fits _ words

pub rotate_fits : (words : List Word) → is_some (rotate_row words) ≡ fits [] words
rotate_fits words = lone_fits _ words
