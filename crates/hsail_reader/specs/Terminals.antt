-- The single tokens of which kernel text is made, and the flaw where another stands (PRM, HSAIL Syntax and
-- Semantics; the flaws are (own)).
use Rattle.std.specs.Prelude.{◌≡◌, ℕ, ◌<◌, List, [], ◌∷◌, Bool, true, false, ◌==◌, nat_lt, if◌then◌else◌, Option, Some, None}
use Rattle.std.specs.Option.{option_map}
use Rattle.hsail_reader.specs.Grammars.{Grammar, give, token, behind, either}
use Rattle.hsail_reader.specs.TextTokens.{PlacedToken}
use Rattle.hsail_reader.specs.Types.{alignment_bytes}
use Rattle.hsail_reader.specs.WordSpelling.{SpellsWord}
use Rattle.hsail_reader.specs.Words.{word_of, alignment_of}
use Rattle.hsail_reader.specs.Nouns.{Alignment, DataType, Flaw, Header, Opcode, Profile, Register, Rounding, TokenKind, Word}
use Rattle.hsail_reader.specs.declared.fault.Flaw.TheVariants.{Syntax, NotInProfile}
use Rattle.hsail_reader.specs.declared.module.Profile.TheVariants as profiles
use Rattle.hsail_reader.specs.declared.module.Rounding.TheVariants as roundings
use Rattle.hsail_reader.specs.declared.token.Header.TheVariants as headers
use Rattle.hsail_reader.specs.declared.token.TokenKind.TheVariants as kinds
use Rattle.hsail_reader.specs.declared.words.Word.TheVariants as words

-- a g, and behind it what its value asks for
infixl 10 ◌>>=◌
abbrev pub ◌>>=◌ : {A X : Type 0} → Grammar A → (A → Grammar X) → Grammar X
g >>= f = behind g f

-- a g, and behind it an h
infixl 10 ◌>>◌
abbrev pub ◌>>◌ : {A X : Type 0} → Grammar A → Grammar X → Grammar X
g >> h = behind g (λ a. h)

-- what may be absent
abbrev pub optional : Grammar (Unit {0}) → Grammar (Unit {0})
optional g = either g (give tt)

abbrev pub syntax : PlacedToken → Flaw
syntax t = Syntax

-- a token of the kind that a value has
abbrev pub of_kind : {X : Type 0} → (X → TokenKind) → (TokenKind → Option X) → Grammar X
of_kind kind pick = token (λ x t. t.kind ≡ kind x) (λ t. pick t.kind) syntax

abbrev pub found : Bool → Option (Unit {0})
found true = Some tt
found false = None

abbrev pub mark_of : ℕ → TokenKind → Option (Unit {0})
mark_of m (kinds.Mark b) = found (b == m)
mark_of m _ = None

-- a mark, by its byte
abbrev pub mark : ℕ → Grammar (Unit {0})
mark m = of_kind (λ one. kinds.Mark m) (mark_of m)

abbrev pub open_parenthesis : Grammar (Unit {0})
open_parenthesis = mark 40

abbrev pub close_parenthesis : Grammar (Unit {0})
close_parenthesis = mark 41

abbrev pub plus : Grammar (Unit {0})
plus = mark 43

abbrev pub comma : Grammar (Unit {0})
comma = mark 44

abbrev pub minus : Grammar (Unit {0})
minus = mark 45

abbrev pub colon : Grammar (Unit {0})
colon = mark 58

abbrev pub semicolon : Grammar (Unit {0})
semicolon = mark 59

abbrev pub open_bracket : Grammar (Unit {0})
open_bracket = mark 91

abbrev pub close_bracket : Grammar (Unit {0})
close_bracket = mark 93

abbrev pub open_brace : Grammar (Unit {0})
open_brace = mark 123

abbrev pub close_brace : Grammar (Unit {0})
close_brace = mark 125

abbrev pub register_of : TokenKind → Option Register
register_of (kinds.Register r) = Some r
register_of _ = None

abbrev pub register : Grammar Register
register = of_kind kinds.Register register_of

abbrev pub number_of : TokenKind → Option ℕ
number_of (kinds.Number n) = Some n
number_of _ = None

abbrev pub number : Grammar ℕ
number = of_kind kinds.Number number_of

abbrev pub major_of : TokenKind → Option (Unit {0})
major_of (kinds.Number n) = found (n == 1)
major_of _ = None

-- the major version: 1
abbrev pub major : Grammar (Unit {0})
major = of_kind (λ one. kinds.Number 1) major_of

abbrev pub minor_of : TokenKind → Option ℕ
minor_of (kinds.Number n) = if nat_lt n 3 then Some n else None
minor_of _ = None

-- the minor version: 0, 1 or 2
abbrev pub minor : Grammar ℕ
minor = token (λ n t. (t.kind ≡ kinds.Number n) × (n < 3)) (λ t. minor_of t.kind) syntax

abbrev pub profile_header : Profile → Header
profile_header profiles.Base = headers.Base
profile_header profiles.Full = headers.Full

abbrev pub profile_of : TokenKind → Option Profile
profile_of (kinds.Header headers.Base) = Some profiles.Base
profile_of (kinds.Header headers.Full) = Some profiles.Full
profile_of _ = None

-- $base or $full
abbrev pub profile : Grammar Profile
profile = of_kind (λ p. kinds.Header (profile_header p)) profile_of

-- a kind of tokens without a value
abbrev pub same_kind : TokenKind → TokenKind → Option (Unit {0})
same_kind kinds.Global kinds.Global = Some tt
same_kind kinds.Variable kinds.Variable = Some tt
same_kind kinds.Label kinds.Label = Some tt
same_kind (kinds.Header headers.Large) (kinds.Header headers.Large) = Some tt
same_kind _ _ = None

-- $large
abbrev pub large : Grammar (Unit {0})
large = of_kind (λ one. kinds.Header headers.Large) (same_kind (kinds.Header headers.Large))

abbrev pub rounding_header : Rounding → Header
rounding_header roundings.Default = headers.Default
rounding_header roundings.Zero = headers.Zero
rounding_header roundings.Near = headers.Near

abbrev pub rounding_of : TokenKind → Option Rounding
rounding_of (kinds.Header headers.Default) = Some roundings.Default
rounding_of (kinds.Header headers.Zero) = Some roundings.Zero
rounding_of (kinds.Header headers.Near) = Some roundings.Near
rounding_of _ = None

-- $default, $zero or $near
abbrev pub rounding : Grammar Rounding
rounding = of_kind (λ r. kinds.Header (rounding_header r)) rounding_of

-- a token of this kind, by all its bytes
abbrev pub name_of : TokenKind → Grammar (List ℕ)
name_of kind =
    token (λ name t. (t.kind ≡ kind) × (t.text ≡ name)) (λ t. option_map (λ one. t.text) (same_kind kind t.kind)) syntax

-- &name
abbrev pub global : Grammar (List ℕ)
global = name_of kinds.Global

-- %name
abbrev pub variable : Grammar (List ℕ)
variable = name_of kinds.Variable

-- @name
abbrev pub label : Grammar (List ℕ)
label = name_of kinds.Label

abbrev pub word_kind : TokenKind → List ℕ → Option Word
word_kind kinds.Word text = Some (word_of text)
word_kind _ text = None

-- what a token is as a word, if it is one
abbrev pub word_at : PlacedToken → Option Word
word_at t = word_kind t.kind t.text

-- what the first token is as a word, if it is one
abbrev pub first_word : List PlacedToken → Option Word
first_word [] = None
first_word (t ∷ tokens) = word_at t

abbrev pub picked : {X : Type 0} → (Word → Option X) → Option Word → Option X
picked pick None = None
picked pick (Some w) = pick w

-- a word that stands for a value
abbrev pub word : {X : Type 0} → (X → Word) → (Word → Option X) → (PlacedToken → Flaw) → Grammar X
word spelled pick flaw =
    token (λ x t. (t.kind ≡ kinds.Word) × SpellsWord (spelled x) t.text) (λ t. picked pick (word_at t)) flaw

abbrev pub flaw_at_begin : Option Word → Flaw
flaw_at_begin (Some words.Outside) = NotInProfile
flaw_at_begin (Some words.Unknown) = NotInProfile
flaw_at_begin _ = Syntax

-- at the begin of an item, argument or kernel: a word that no row has, or one that a row has elsewhere
abbrev pub at_begin : PlacedToken → Flaw
at_begin t = flaw_at_begin (word_at t)

abbrev pub flaw_behind_align : Option Word → Flaw
flaw_behind_align (Some words.Outside) = NotInProfile
flaw_behind_align _ = Syntax

-- behind align(n): a variable's word with a type outside, or another token
abbrev pub behind_align : PlacedToken → Flaw
behind_align t = flaw_behind_align (word_at t)

-- a word without a value
abbrev pub same_word : Word → Word → Option (Unit {0})
same_word words.Module words.Module = Some tt
same_word words.Prog words.Prog = Some tt
same_word words.Kernel words.Kernel = Some tt
same_word _ _ = None

abbrev pub this_word : Word → (PlacedToken → Flaw) → Grammar (Unit {0})
this_word w flaw = word (λ one. w) (same_word w) flaw

abbrev pub module_word : Grammar (Unit {0})
module_word = this_word words.Module syntax

abbrev pub prog : Grammar (Unit {0})
prog = this_word words.Prog syntax

abbrev pub kernel_word : (PlacedToken → Flaw) → Grammar (Unit {0})
kernel_word flaw = this_word words.Kernel flaw

abbrev pub align_of : Word → Option Alignment
align_of (words.Align n) = alignment_of n
align_of _ = None

-- align(1), align(2), align(4), align(8) or align(16)
abbrev pub align : Grammar Alignment
align = word (λ a. words.Align (alignment_bytes a)) align_of syntax

abbrev pub kernarg_of : Word → Option DataType
kernarg_of (words.Argument kind) = Some kind
kernarg_of _ = None

-- kernarg_T
abbrev pub kernarg : (PlacedToken → Flaw) → Grammar DataType
kernarg flaw = word words.Argument kernarg_of flaw

abbrev pub group_of : Word → Option DataType
group_of (words.GroupVariable kind) = Some kind
group_of _ = None

-- group_T
abbrev pub group : (PlacedToken → Flaw) → Grammar DataType
group flaw = word words.GroupVariable group_of flaw

abbrev pub opcode_of : Word → Option Opcode
opcode_of (words.Instruction code) = Some code
opcode_of _ = None

-- the word of an instruction
abbrev pub opcode : Grammar Opcode
opcode = word words.Instruction opcode_of at_begin
