-- What is read of a line is of a form, and what is of a form is read.
use Rattle.std.proofs.Common.{◌≡◌, ℕ, Bool, true, false, List, [], ◌∷◌, Option, Some, None, refl, sym, ap, ◌∙◌, subst}
use Rattle.std.specs.Prelude.{◌&&◌, ◌||◌, codes, bytes_eq, option_map, option_and_then, if◌then◌else◌}
use Rattle.std.specs.Bool.{Decides}
use Rattle.std.specs.Option.{is_some, unwrap_or}
use Rattle.std.proofs.lemmas.Slice.Eq.{bytes_eq-Decides}
use Rattle.policy.specs.Policy.{Declared}
use Rattle.script.specs.declared.command.Command.{Command}
use Rattle.script.specs.declared.forms.Class.TheVariants as class
use Rattle.script.specs.declared.forms.Verb.{Verb}
use Rattle.script.specs.declared.forms.Verb.TheVariants as verb
use Rattle.script.specs.declared.lines.Line.{Line}
use Rattle.words.specs.Lines.{Word}
use Rattle.script.specs.Forms.{FormRow, fits, form_rows, is_formed, verb_among, verb_of}
use Rattle.script.specs.Lines.{asked_by, command_of}
use Rattle.script.proofs.Fitting.{of_queue_fits, of_packet_fits, grant_fits, revoke_fits, open_fits, reserve_fits, part_fits, room_fits, word_fits, publish_fits, submit_fits, write_fits, read_fits, signal_fits, load_fits, test_fits, list_fits, reload_fits, audit_fits, rotate_fits}

-- ---- a verb has its word

abbrev name_of : Verb → Word
name_of verb.Grant = codes "grant"
name_of verb.Revoke = codes "revoke"
name_of verb.Queue = codes "queue"
name_of verb.Stop = codes "stop"
name_of verb.Close = codes "close"
name_of verb.Reserve = codes "reserve"
name_of verb.Room = codes "room"
name_of verb.Word = codes "word"
name_of verb.Publish = codes "publish"
name_of verb.Submit = codes "submit"
name_of verb.Look = codes "look"
name_of verb.Part = codes "part"
name_of verb.Peek = codes "peek"
name_of verb.Take = codes "take"
name_of verb.Clear = codes "clear"
name_of verb.Advance = codes "advance"
name_of verb.Retire = codes "retire"
name_of verb.Serve = codes "serve"
name_of verb.Run = codes "run"
name_of verb.Poll = codes "poll"
name_of verb.Finish = codes "finish"
name_of verb.Write = codes "write"
name_of verb.Read = codes "read"
name_of verb.Signal = codes "signal"
name_of verb.Load = codes "load"
name_of verb.Test = codes "test"
name_of verb.List = codes "list"
name_of verb.Errors = codes "errors"
name_of verb.Audit = codes "audit"
name_of verb.Reload = codes "reload"
name_of verb.Rotate = codes "rotate"

-- each row has its verb's name
abbrev are_named : List FormRow → Bool
are_named [] = true
are_named (row ∷ rows) = bytes_eq row.name (name_of row.verb) && are_named rows

both : (a b : Bool) → (a && b) ≡ true → (a ≡ true) × (b ≡ true)
both true true e = (refl, refl)
both true false e = cc
both false b e = cc

named_here : (name : Word) (row : FormRow) (rest : Option Verb) (v : Verb) (b : Bool) → Decides b (name ≡ row.name) → row.name ≡ name_of row.verb →
    (rest ≡ Some v → name ≡ name_of v) → (if b then Some row.verb else rest) ≡ Some v → name ≡ name_of v
named_here name row rest v true same is more e = same.0 refl ∙ is ∙ ap (λ (o : Option Verb). name_of (unwrap_or o v)) e
named_here name row rest v false other is more e = more e

named : (rows : List FormRow) (name : Word) (v : Verb) → are_named rows ≡ true → verb_among rows name ≡ Some v → name ≡ name_of v
named [] name v all e = cc
named (row ∷ rows) name v all e =
    let here = both (bytes_eq row.name (name_of row.verb)) (are_named rows) all in
    named_here name row (verb_among rows name) v (bytes_eq name row.name) (bytes_eq-Decides name row.name)
    ((bytes_eq-Decides row.name (name_of row.verb)).0 here.0) (named rows name v here.1) e

unformed_here : (b f more : Bool) (v : Verb) (rest : Option Verb) → (rest ≡ None → more ≡ false) → (if b then Some v else rest) ≡ None → ((b && f) || more) ≡ false
unformed_here true f more v rest none e = cc
unformed_here false f more v rest none e = none e

unformed : (rows : List FormRow) (name : Word) (words : List Word) → verb_among rows name ≡ None → is_formed rows name words ≡ false
unformed [] name words e = refl
unformed (row ∷ rows) name words e =
    unformed_here (bytes_eq name row.name) (fits row.classes words) (is_formed rows name words) row.verb (verb_among rows name) (unformed rows name words) e

or_false : (a : Bool) → (a || false) ≡ a
or_false true = refl
or_false false = refl

verb_named : (name : Word) (v : Verb) → verb_of name ≡ Some v → name ≡ name_of v
unfolding verb_of
verb_named name v e = named form_rows name v refl e

no_verb : (name : Word) (words : List Word) → verb_of name ≡ None → is_formed form_rows name words ≡ false
unfolding verb_of
no_verb name words e = unformed form_rows name words e

map_some : {X Y : Type 0} (f : X → Y) (o : Option X) (y : Y) → option_map f o ≡ Some y → is_some o ≡ true
map_some f None y e = cc
map_some f (Some x) y e = refl

-- ---- verb by verb

-- what words are read of, but for the number of a further policy
abbrev is_plain : Verb → Bool
is_plain verb.Reload = false
is_plain _ = true

reads : (policy : Declared) (later : ℕ) (v : Verb) (words : List Word) → is_plain v ≡ true →
    is_some (command_of policy later v words) ≡ is_formed form_rows (name_of v) words
reads policy later verb.Grant words plain = grant_fits policy words ∙ sym (or_false _)
reads policy later verb.Revoke words plain = revoke_fits policy words ∙ sym (or_false _)
reads policy later verb.Queue words plain = open_fits policy words ∙ sym (or_false _)
reads policy later verb.Stop words plain = of_queue_fits _ words ∙ sym (or_false _)
reads policy later verb.Close words plain = of_queue_fits _ words ∙ sym (or_false _)
reads policy later verb.Reserve words plain = reserve_fits words ∙ sym (or_false _)
reads policy later verb.Room words plain = room_fits words ∙ sym (or_false _)
reads policy later verb.Word words plain = word_fits words ∙ sym (or_false _)
reads policy later verb.Publish words plain = publish_fits words ∙ sym (or_false _)
reads policy later verb.Submit words plain = submit_fits words ∙ sym (or_false _)
reads policy later verb.Look words plain = of_queue_fits _ words ∙ sym (or_false _)
reads policy later verb.Part words plain = part_fits words ∙ sym (or_false _)
reads policy later verb.Peek words plain = of_queue_fits _ words ∙ sym (or_false _)
reads policy later verb.Take words plain = of_queue_fits _ words ∙ sym (or_false _)
reads policy later verb.Clear words plain = of_queue_fits _ words ∙ sym (or_false _)
reads policy later verb.Advance words plain = of_queue_fits _ words ∙ sym (or_false _)
reads policy later verb.Retire words plain = of_queue_fits _ words ∙ sym (or_false _)
reads policy later verb.Serve words plain = of_queue_fits _ words ∙ sym (or_false _)
reads policy later verb.Run words plain = of_packet_fits _ words ∙ sym (or_false _)
reads policy later verb.Poll words plain = of_packet_fits _ words ∙ sym (or_false _)
reads policy later verb.Finish words plain = of_packet_fits _ words ∙ sym (or_false _)
reads policy later verb.Write words plain = write_fits policy words ∙ sym (or_false _)
reads policy later verb.Read words plain = read_fits policy words ∙ sym (or_false _)
reads policy later verb.Signal words plain =
    signal_fits policy words
    ∙ ap (λ b. fits (class.Name ∷ class.Name ∷ class.Operation ∷ class.Value ∷ []) words || b) (sym (or_false (fits (class.Name ∷ class.Name ∷ class.Swap ∷ class.Value ∷ class.Value ∷ []) words)))
reads policy later verb.Load words plain = load_fits policy words ∙ sym (or_false _)
reads policy later verb.Test words plain = test_fits policy words ∙ sym (or_false _)
reads policy later verb.List words plain = list_fits policy words ∙ sym (or_false _)
reads policy later verb.Errors words plain = of_queue_fits _ words ∙ sym (or_false _)
reads policy later verb.Audit words plain = audit_fits words ∙ sym (or_false _)
reads policy later verb.Reload words plain = cc
reads policy later verb.Rotate words plain = rotate_fits words ∙ sym (or_false _)

-- a verb is that of `reload`, or no verb of another name is
plain_or : (policy : Declared) (later : ℕ) (v : Verb) (words : List Word) → is_some (command_of policy later v words) ≡ true →
    is_formed form_rows (name_of v) words ≡ true
plain_or policy later verb.Grant words some = sym (reads policy later verb.Grant words refl) ∙ some
plain_or policy later verb.Revoke words some = sym (reads policy later verb.Revoke words refl) ∙ some
plain_or policy later verb.Queue words some = sym (reads policy later verb.Queue words refl) ∙ some
plain_or policy later verb.Stop words some = sym (reads policy later verb.Stop words refl) ∙ some
plain_or policy later verb.Close words some = sym (reads policy later verb.Close words refl) ∙ some
plain_or policy later verb.Reserve words some = sym (reads policy later verb.Reserve words refl) ∙ some
plain_or policy later verb.Room words some = sym (reads policy later verb.Room words refl) ∙ some
plain_or policy later verb.Word words some = sym (reads policy later verb.Word words refl) ∙ some
plain_or policy later verb.Publish words some = sym (reads policy later verb.Publish words refl) ∙ some
plain_or policy later verb.Submit words some = sym (reads policy later verb.Submit words refl) ∙ some
plain_or policy later verb.Look words some = sym (reads policy later verb.Look words refl) ∙ some
plain_or policy later verb.Part words some = sym (reads policy later verb.Part words refl) ∙ some
plain_or policy later verb.Peek words some = sym (reads policy later verb.Peek words refl) ∙ some
plain_or policy later verb.Take words some = sym (reads policy later verb.Take words refl) ∙ some
plain_or policy later verb.Clear words some = sym (reads policy later verb.Clear words refl) ∙ some
plain_or policy later verb.Advance words some = sym (reads policy later verb.Advance words refl) ∙ some
plain_or policy later verb.Retire words some = sym (reads policy later verb.Retire words refl) ∙ some
plain_or policy later verb.Serve words some = sym (reads policy later verb.Serve words refl) ∙ some
plain_or policy later verb.Run words some = sym (reads policy later verb.Run words refl) ∙ some
plain_or policy later verb.Poll words some = sym (reads policy later verb.Poll words refl) ∙ some
plain_or policy later verb.Finish words some = sym (reads policy later verb.Finish words refl) ∙ some
plain_or policy later verb.Write words some = sym (reads policy later verb.Write words refl) ∙ some
plain_or policy later verb.Read words some = sym (reads policy later verb.Read words refl) ∙ some
plain_or policy later verb.Signal words some = sym (reads policy later verb.Signal words refl) ∙ some
plain_or policy later verb.Load words some = sym (reads policy later verb.Load words refl) ∙ some
plain_or policy later verb.Test words some = sym (reads policy later verb.Test words refl) ∙ some
plain_or policy later verb.List words some = sym (reads policy later verb.List words refl) ∙ some
plain_or policy later verb.Errors words some = sym (reads policy later verb.Errors words refl) ∙ some
plain_or policy later verb.Audit words some = sym (reads policy later verb.Audit words refl) ∙ some
plain_or policy later verb.Reload words some = or_false _ ∙ reload_fits later words some
plain_or policy later verb.Rotate words some = sym (reads policy later verb.Rotate words refl) ∙ some

not_reload : (v : Verb) → bytes_eq (name_of v) (codes "reload") ≡ false → is_plain v ≡ true
not_reload verb.Grant other = refl
not_reload verb.Revoke other = refl
not_reload verb.Queue other = refl
not_reload verb.Stop other = refl
not_reload verb.Close other = refl
not_reload verb.Reserve other = refl
not_reload verb.Room other = refl
not_reload verb.Word other = refl
not_reload verb.Publish other = refl
not_reload verb.Submit other = refl
not_reload verb.Look other = refl
not_reload verb.Part other = refl
not_reload verb.Peek other = refl
not_reload verb.Take other = refl
not_reload verb.Clear other = refl
not_reload verb.Advance other = refl
not_reload verb.Retire other = refl
not_reload verb.Serve other = refl
not_reload verb.Run other = refl
not_reload verb.Poll other = refl
not_reload verb.Finish other = refl
not_reload verb.Write other = refl
not_reload verb.Read other = refl
not_reload verb.Signal other = refl
not_reload verb.Load other = refl
not_reload verb.Test other = refl
not_reload verb.List other = refl
not_reload verb.Errors other = refl
not_reload verb.Audit other = refl
not_reload verb.Reload other = cc
not_reload verb.Rotate other = refl

-- ---- lines

formed_by : (policy : Declared) (later : ℕ) (name : Word) (words : List Word) (asked : Line) (f : Command → Line) (v : Option Verb) → verb_of name ≡ v →
    option_map f (option_and_then (λ v. command_of policy later v words) v) ≡ Some asked → is_formed form_rows name words ≡ true
formed_by policy later name words asked f None e is = cc
formed_by policy later name words asked f (Some v) e is =
    subst (λ (n : Word). is_formed form_rows n words ≡ true) (sym (verb_named name v e))
    (plain_or policy later v words (map_some f (command_of policy later v words) asked is))

pub formed : (policy : Declared) (later : ℕ) (name : Word) (words : List Word) (asked : Line) → asked_by policy later (name ∷ words) ≡ Some asked →
    is_formed form_rows name words ≡ true
formed policy later name words asked is = formed_by policy later name words asked _ (verb_of name) refl is

some_map : {X Y : Type 0} (f : X → Y) (o : Option X) → is_some (option_map f o) ≡ is_some o
some_map f None = refl
some_map f (Some x) = refl

read_by : (policy : Declared) (later : ℕ) (name : Word) (words : List Word) (f : Command → Line) (v : Option Verb) → verb_of name ≡ v →
    is_formed form_rows name words ≡ true → bytes_eq name (codes "reload") ≡ false →
    is_some (option_map f (option_and_then (λ v. command_of policy later v words) v)) ≡ true
read_by policy later name words f None e is other = sym (no_verb name words e) ∙ is
read_by policy later name words f (Some v) e is other =
    let named_so = verb_named name v e in
    some_map f (command_of policy later v words)
    ∙ reads policy later v words (not_reload v (subst (λ (n : Word). bytes_eq n (codes "reload") ≡ false) named_so other))
    ∙ subst (λ (n : Word). is_formed form_rows n words ≡ true) named_so is

pub read : (policy : Declared) (later : ℕ) (name : Word) (words : List Word) → is_formed form_rows name words ≡ true →
    bytes_eq name (codes "reload") ≡ false → is_some (asked_by policy later (name ∷ words)) ≡ true
read policy later name words is other = read_by policy later name words _ (verb_of name) refl is other
