-- The test of each single token finds just what its relation says.
use Rattle.std.proofs.Common.{◌≡◌, ℕ, ◌<◌, ⊎_elim, List, ◌∷◌, Bool, true, false, ◌==◌, nat_lt, if◌then◌else◌, Option, Some, None, is_some, refl, sym, ap, subst, ◌∙◌}
use Rattle.std.proofs.lemmas.Bool.{lt-ltb, ltb-true}
use Rattle.std.proofs.lemmas.Bool.Decides.{eqb_tells}
use Rattle.std.specs.Option.{option_map}
use Rattle.hsail_reader.specs.Grammars.{Grammar, begun_by}
use Rattle.hsail_reader.specs.Terminals.{of_kind, found, mark_of, mark, register_of, register, number_of, number, major_of, major, minor_of, minor, profile_header, profile_of, profile, large, rounding_header, rounding_of, rounding, same_kind, name_of, word_kind, word_at, picked, word, same_word, this_word, align_of, align, kernarg_of, kernarg, group_of, group, opcode_of, opcode, syntax, at_begin}
use Rattle.hsail_reader.specs.TextTokens.{PlacedToken}
use Rattle.hsail_reader.specs.Types.{alignment_bytes}
use Rattle.hsail_reader.specs.WordSpelling.{SpellsWord, stands_in_modules}
use Rattle.hsail_reader.specs.Words.{word_of, alignment_of}
use Rattle.hsail_reader.specs.Nouns.{Alignment, DataType, Flaw, Opcode, Profile, Register, Rounding, TokenKind, Word, Eight, Four, One, Sixteen, Two}
use Rattle.hsail_reader.specs.declared.module.Profile.TheVariants as profiles
use Rattle.hsail_reader.specs.declared.module.Rounding.TheVariants as roundings
use Rattle.hsail_reader.specs.declared.token.Header.TheVariants as headers
use Rattle.hsail_reader.specs.declared.token.TokenKind.TheVariants as kinds
use Rattle.hsail_reader.specs.declared.words.Word.TheVariants as words
use Rattle.hsail_reader.proofs.Grammars.{Decides}
use Rattle.hsail_reader.proofs.WordSpellings.{word_is_read, word_is_spelled}

-- a single token decides, whatever stands behind
abbrev pub Finds : {X : Type 0} → Grammar X → Type 0
Finds g = Decides g (λ from. Unit {0})

-- a token that the test doesn't find begins nothing
pub unbegun : {X : Type 0} (test : PlacedToken → Option X) (t : PlacedToken) (from rest : List PlacedToken) → from ≡ t ∷ rest →
    test t ≡ None → begun_by test from ≡ false
unbegun test t from rest e none = ap (begun_by test) e ∙ ap is_some none

kind_finds : {X : Type 0} (kind : X → TokenKind) (pick : TokenKind → Option X) → ((x : X) → pick (kind x) ≡ Some x) →
    ((k : TokenKind) (x : X) → pick k ≡ Some x → k ≡ kind x) → Finds (of_kind kind pick)
kind_finds kind pick there back x t = (λ is. ap pick is ∙ there x, back t.kind x)

found_one : (n m : ℕ) (one : Unit {0}) → found (n == m) ≡ Some one → n ≡ m
found_one n m one is = ⊎_elim (λ e. e.1) (λ e. none (n == m) e.0 is) (eqb_tells n m)
  where
    none : (b : Bool) → b ≡ false → found b ≡ Some one → n ≡ m
    none true other is = cc
    none false other is = cc

found_same : (n : ℕ) (one : Unit {0}) → found (n == n) ≡ Some one
found_same n one = ⊎_elim (λ e. ap found e.0) (λ e. absurd (e.1 refl)) (eqb_tells n n)

pub marks : (m : ℕ) → Finds (mark m)
marks m = kind_finds (λ one. kinds.Mark m) (mark_of m) (found_same m) back
  where
    back : (k : TokenKind) (one : Unit {0}) → mark_of m k ≡ Some one → k ≡ kinds.Mark m
    back (kinds.Mark b) one is = ap kinds.Mark (found_one b m one is)
    back _ one is = cc

pub registers : Finds register
registers = kind_finds kinds.Register register_of (λ r. refl) back
  where
    back : (k : TokenKind) (r : Register) → register_of k ≡ Some r → k ≡ kinds.Register r
    back (kinds.Register q) r is = cc
    back _ r is = cc

pub numbers : Finds number
numbers = kind_finds kinds.Number number_of (λ n. refl) back
  where
    back : (k : TokenKind) (n : ℕ) → number_of k ≡ Some n → k ≡ kinds.Number n
    back (kinds.Number m) n is = cc
    back _ n is = cc

pub majors : Finds major
majors = kind_finds (λ one. kinds.Number 1) major_of (λ one. refl) back
  where
    back : (k : TokenKind) (one : Unit {0}) → major_of k ≡ Some one → k ≡ kinds.Number 1
    back (kinds.Number n) one is = ap kinds.Number (found_one n 1 one is)
    back _ one is = cc

minor_there : (n : ℕ) → n < 3 → minor_of (kinds.Number n) ≡ Some n
minor_there n small =
    let e : nat_lt n 3 ≡ true = lt-ltb n 3 small in rw e refl

pub minors : Finds minor
minors n t = (λ is. ap minor_of is.0 ∙ minor_there n is.1, back t.kind)
  where
    below : (b : Bool) (m : ℕ) → nat_lt m 3 ≡ b → (if b then Some m else None) ≡ Some n → (kinds.Number m ≡ kinds.Number n) × (n < 3)
    below true m small is =
        let e : m ≡ n = cc in (ap kinds.Number e, subst (λ n. n < 3) e (ltb-true m 3 small))
    below false m small is = cc

    back : (k : TokenKind) → minor_of k ≡ Some n → (k ≡ kinds.Number n) × (n < 3)
    back (kinds.Number m) is = below (nat_lt m 3) m refl is
    back _ is = cc

pub profiles_found : Finds profile
profiles_found = kind_finds (λ p. kinds.Header (profile_header p)) profile_of there back
  where
    there : (p : Profile) → profile_of (kinds.Header (profile_header p)) ≡ Some p
    there profiles.Base = refl
    there profiles.Full = refl

    back : (k : TokenKind) (p : Profile) → profile_of k ≡ Some p → k ≡ kinds.Header (profile_header p)
    back (kinds.Header headers.Base) profiles.Base is = refl
    back (kinds.Header headers.Base) profiles.Full is = cc
    back (kinds.Header headers.Full) profiles.Base is = cc
    back (kinds.Header headers.Full) profiles.Full is = refl
    back (kinds.Header _) p is = cc
    back _ p is = cc

-- a kind without a value is found, and no other is taken for it
kind_there : (kind k : TokenKind) (one : Unit {0}) → same_kind kind k ≡ Some one → k ≡ kind
kind_there kinds.Global kinds.Global one is = refl
kind_there kinds.Variable kinds.Variable one is = refl
kind_there kinds.Label kinds.Label one is = refl
kind_there (kinds.Header headers.Large) (kinds.Header headers.Large) one is = refl
kind_there _ _ one is = cc

pub large_found : Finds large
large_found = kind_finds (λ one. kinds.Header headers.Large) (same_kind (kinds.Header headers.Large)) (λ one. refl) (kind_there (kinds.Header headers.Large))

pub roundings_found : Finds rounding
roundings_found = kind_finds (λ r. kinds.Header (rounding_header r)) rounding_of there back
  where
    there : (r : Rounding) → rounding_of (kinds.Header (rounding_header r)) ≡ Some r
    there roundings.Default = refl
    there _ = refl

    back : (k : TokenKind) (r : Rounding) → rounding_of k ≡ Some r → k ≡ kinds.Header (rounding_header r)
    back (kinds.Header headers.Default) roundings.Default is = refl
    back (kinds.Header headers.Zero) roundings.Zero is = refl
    back (kinds.Header headers.Near) roundings.Near is = refl
    back (kinds.Header _) r is = cc
    back _ r is = cc

pub names : (kind : TokenKind) → same_kind kind kind ≡ Some tt → Finds (name_of kind)
names kind there name t =
    (λ is. ap (λ k. option_map (λ one. t.text) (same_kind kind k)) is.0 ∙ ap (option_map (λ one. t.text)) there ∙ ap Some is.1, by (same_kind kind t.kind) refl)
  where
    by : (o : Option (Unit {0})) → same_kind kind t.kind ≡ o → option_map (λ one. t.text) o ≡ Some name → (t.kind ≡ kind) × (t.text ≡ name)
    by (Some one) e is = (kind_there kind t.kind one e, cc)
    by None e is = cc

-- what is picked of a token that spells a word
pub word_there : {X : Type 0} (pick : Word → Option X) (w : Word) (t : PlacedToken) → (t.kind ≡ kinds.Word) × SpellsWord w t.text →
    picked pick (word_at t) ≡ pick w
word_there pick w t s = ap (λ k. picked pick (word_kind k t.text)) s.0 ∙ ap pick (word_is_read w t.text s.1)

word_finds : {X : Type 0} (spelled : X → Word) (pick : Word → Option X) (flaw : PlacedToken → Flaw) →
    ((x : X) → pick (spelled x) ≡ Some x) → ((w : Word) (x : X) → pick w ≡ Some x → w ≡ spelled x) →
    ((x : X) → stands_in_modules (spelled x) ≡ true) → Finds (word spelled pick flaw)
word_finds {X} spelled pick flaw there back stands x t =
    (λ is. word_there pick (spelled x) t is ∙ there x, by t.kind t.text)
  where
    by : (k : TokenKind) (text : List ℕ) → picked pick (word_kind k text) ≡ Some x → (k ≡ kinds.Word) × SpellsWord (spelled x) text
    by kinds.Word text is = (refl, word_is_spelled (spelled x) text (back (word_of text) x is) (stands x))
    by _ text is = cc

-- a word without a value is found, and no other is taken for it
same_words : (v w : Word) (one : Unit {0}) → same_word v w ≡ Some one → w ≡ v
same_words words.Module words.Module one is = refl
same_words words.Prog words.Prog one is = refl
same_words words.Kernel words.Kernel one is = refl
same_words _ _ one is = cc

pub these_words : (w : Word) (flaw : PlacedToken → Flaw) → same_word w w ≡ Some tt → stands_in_modules w ≡ true →
    Finds (this_word w flaw)
these_words w flaw there stands = word_finds (λ one. w) (same_word w) flaw (λ one. there) (λ v one is. same_words w v one is) (λ one. stands)

-- the first n of several that is an alignment
first_bytes : (n m : ℕ) (a : Alignment) (other : Option Alignment) (b : Alignment) → alignment_bytes a ≡ m →
    (other ≡ Some b → n ≡ alignment_bytes b) → (if n == m then Some a else other) ≡ Some b → n ≡ alignment_bytes b
first_bytes n m a other b bytes later is =
    ⊎_elim
    (λ e. let same : Some a ≡ Some b = rw e.0 at is in
    let one : a ≡ b = cc in
    e.1 ∙ sym bytes ∙ ap alignment_bytes one)
    (λ e. later (rw e.0 at is))
    (eqb_tells n m)

align_back : (w : Word) (b : Alignment) → align_of w ≡ Some b → w ≡ words.Align (alignment_bytes b)
align_back (words.Align n) b is =
    ap words.Align
    (first_bytes n 1 One _ b refl
    (first_bytes n 2 Two _ b refl
    (first_bytes n 4 Four _ b refl
    (first_bytes n 8 Eight _ b refl
    (first_bytes n 16 Sixteen None b refl (λ none. cc)))))
    is)
align_back _ b is = cc

pub aligns : Finds align
aligns = word_finds (λ a. words.Align (alignment_bytes a)) align_of syntax there align_back (λ a. refl)
  where
    there : (a : Alignment) → alignment_of (alignment_bytes a) ≡ Some a
    there One = refl
    there _ = refl

pub kernargs : (flaw : PlacedToken → Flaw) → Finds (kernarg flaw)
kernargs flaw = word_finds words.Argument kernarg_of flaw (λ kind. refl) back (λ kind. refl)
  where
    back : (w : Word) (kind : DataType) → kernarg_of w ≡ Some kind → w ≡ words.Argument kind
    back (words.Argument k) kind is = cc
    back _ kind is = cc

pub groups : (flaw : PlacedToken → Flaw) → Finds (group flaw)
groups flaw = word_finds words.GroupVariable group_of flaw (λ kind. refl) back (λ kind. refl)
  where
    back : (w : Word) (kind : DataType) → group_of w ≡ Some kind → w ≡ words.GroupVariable kind
    back (words.GroupVariable k) kind is = cc
    back _ kind is = cc

pub opcodes : Finds opcode
opcodes = word_finds words.Instruction opcode_of at_begin (λ code. refl) back (λ code. refl)
  where
    back : (w : Word) (code : Opcode) → opcode_of w ≡ Some code → w ≡ words.Instruction code
    back (words.Instruction c) code is = cc
    back _ code is = cc
