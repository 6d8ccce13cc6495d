-- The forms of lines, a row each: its first word, what that asks, and what its further words stand for (own).
use Rattle.std.specs.Prelude.{pos, Bool, true, false, ◌&&◌, ◌||◌, List, [], ◌∷◌, map, codes, Option, Some, None, bytes_eq, if◌then◌else◌}
use Rattle.std.specs.Option.{is_some}
use Rattle.policy.specs.Format.{kind_named}
use Rattle.script.specs.declared.forms.Class.{Class}
use Rattle.script.specs.declared.forms.Class.TheVariants as class
use Rattle.script.specs.declared.forms.LineForm.{LineForm}
use Rattle.script.specs.declared.forms.Verb.{Verb}
use Rattle.script.specs.declared.forms.Verb.TheVariants as verb
use Rattle.words.specs.Lines.{Word}
use Rattle.words.specs.Numbers.{address_word, decimal_word, signed_word}
use Rattle.words.specs.Bytes.{bytes_word}
use Rattle.script.specs.Operations.{condition_word, operation_of}
use Rattle.words.specs.Packets.{eight_bytes, packet_word}
use Rattle.script.specs.Rights.{rights_word}

-- a form: what its first word asks, that word, and what its further words stand for
pub record FormRow : Type 0 where
  pub verb : Verb
  pub name : Word
  pub classes : List Class

-- a form of the code's table, without what its words are called
abbrev pub form_view : LineForm → FormRow
form_view form = record { verb = form.verb; name = form.name.now; classes = map (λ operand. operand.class) form.operands.now }

abbrev pub form : Verb → Word → List Class → FormRow
form verb name classes = record { verb = verb; name = name; classes = classes }

-- the forms
abbrev pub form_rows : List FormRow
form_rows =
    form verb.Submit (codes "submit") (class.Number ∷ class.Number ∷ class.Packet ∷ [])
    ∷ form verb.Serve (codes "serve") (class.Number ∷ [])
    ∷ form verb.Run (codes "run") (class.Number ∷ class.Number ∷ [])
    ∷ form verb.Finish (codes "finish") (class.Number ∷ class.Number ∷ [])
    ∷ form verb.Publish (codes "publish") (class.Number ∷ class.Number ∷ class.Number ∷ class.Packet ∷ [])
    ∷ form verb.Poll (codes "poll") (class.Number ∷ class.Number ∷ [])
    ∷ form verb.Grant (codes "grant") (class.Name ∷ class.Kind ∷ class.Name ∷ class.Rights ∷ [])
    ∷ form verb.Revoke (codes "revoke") (class.Name ∷ class.Kind ∷ class.Name ∷ class.Rights ∷ [])
    ∷ form verb.Queue (codes "queue") (class.Name ∷ class.Name ∷ class.Number ∷ class.Number ∷ [])
    ∷ form verb.Stop (codes "stop") (class.Number ∷ [])
    ∷ form verb.Close (codes "close") (class.Number ∷ [])
    ∷ form verb.Reserve (codes "reserve") (class.Number ∷ class.Number ∷ [])
    ∷ form verb.Room (codes "room") (class.Number ∷ class.Number ∷ class.Number ∷ [])
    ∷ form verb.Word (codes "word") (class.Number ∷ class.Number ∷ class.Number ∷ class.Number ∷ class.Word ∷ [])
    ∷ form verb.Look (codes "look") (class.Number ∷ [])
    ∷ form verb.Part (codes "part") (class.Number ∷ class.Number ∷ [])
    ∷ form verb.Peek (codes "peek") (class.Number ∷ [])
    ∷ form verb.Take (codes "take") (class.Number ∷ [])
    ∷ form verb.Clear (codes "clear") (class.Number ∷ [])
    ∷ form verb.Advance (codes "advance") (class.Number ∷ [])
    ∷ form verb.Retire (codes "retire") (class.Number ∷ [])
    ∷ form verb.Write (codes "write") (class.Name ∷ class.Address ∷ class.Bytes ∷ [])
    ∷ form verb.Read (codes "read") (class.Name ∷ class.Address ∷ class.Number ∷ [])
    ∷ form verb.Signal (codes "signal") (class.Name ∷ class.Name ∷ class.Operation ∷ class.Value ∷ [])
    ∷ form verb.Signal (codes "signal") (class.Name ∷ class.Name ∷ class.Swap ∷ class.Value ∷ class.Value ∷ [])
    ∷ form verb.Load (codes "load") (class.Name ∷ class.Name ∷ [])
    ∷ form verb.Test (codes "test") (class.Name ∷ class.Name ∷ class.Condition ∷ class.Value ∷ [])
    ∷ form verb.Reload (codes "reload") (class.Number ∷ [])
    ∷ form verb.List (codes "list") (class.Name ∷ [])
    ∷ form verb.Errors (codes "errors") (class.Number ∷ [])
    ∷ form verb.Audit (codes "audit") []
    ∷ form verb.Rotate (codes "rotate") []
    ∷ []

-- the verb of the first of some forms that begins with a word
abbrev pub verb_among : List FormRow → Word → Option Verb
verb_among [] word = None
verb_among (form ∷ forms) word = if bytes_eq word form.name then Some form.verb else verb_among forms word

-- the verb of a word
unfoldable pub verb_of : Word → Option Verb
verb_of word = verb_among form_rows word

-- a word is one that the class stands for; any word may be a name
abbrev pub is_of : Class → Word → Bool
is_of class.Name word = true
is_of class.Kind word = is_some (kind_named word)
is_of class.Rights word = is_some (rights_word word)
is_of class.Number word = is_some (decimal_word word)
is_of class.Address word = is_some (address_word word)
is_of class.Bytes word = is_some (bytes_word word)
is_of class.Packet word = is_some (packet_word word)
is_of class.Word word = is_some (eight_bytes word)
is_of class.Operation word = is_some (operation_of word (pos 0))
is_of class.Swap word = bytes_eq word (codes "cas")
is_of class.Condition word = is_some (condition_word word)
is_of class.Value word = is_some (signed_word word)

-- words are as many as the classes, and each is one of its class
abbrev pub fits : List Class → List Word → Bool
fits [] [] = true
fits (class ∷ classes) (word ∷ words) = is_of class word && fits classes words
fits [] (word ∷ words) = false
fits (class ∷ classes) [] = false

-- words are those of one of some forms: the first word is its name, and the others fit
abbrev pub is_formed : List FormRow → Word → List Word → Bool
is_formed [] name words = false
is_formed (form ∷ forms) name words = (bytes_eq name form.name && fits form.classes words) || is_formed forms name words
