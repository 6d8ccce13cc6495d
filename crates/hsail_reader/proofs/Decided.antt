-- Each line of the grammar decides its choices by the next token.
use Rattle.std.proofs.Common.{◌≡◌, ℕ, ⊎_elim, inl, inr, List, [], ◌∷◌, Bool, true, false, Option, Some, None, refl, sym, ap, subst, ◌∙◌}
use Rattle.std.specs.Option.{option_map}
use Rattle.hsail_reader.specs.Grammar.{signed, constant, source, offset, place, place_inside, index, address_inside, address, operand, next_operand, operation_with, operands, labelled, performed, extent, declared, aligned, plain, unlabelled, item, items, body, alignment, kernarg_flaw, argument, next_argument, some_arguments, signature, kernel_begin, kernel, is_none_left, kernels, fields, module_text}
use Rattle.hsail_reader.specs.Grammars.{Grammar, give, behind, spells, begun_by, begins, read}
use Rattle.hsail_reader.specs.Terminals.{mark_of, number_of, register_of, same_kind, same_word, word_at, picked, align_of, align, group_of, semicolon, open_bracket, close_parenthesis, close_brace, syntax, at_begin, behind_align}
use Rattle.hsail_reader.specs.TextTokens.{PlacedToken}
use Rattle.hsail_reader.specs.WordSpelling.{SpellsWord}
use Rattle.hsail_reader.specs.Nouns.{Alignment, Argument, Constant, DataType, Item, Kernel, Opcode, Operand, Operation, SegmentPlace, Shape, TokenKind, Word}
use Rattle.hsail_reader.specs.declared.token.TokenKind.TheVariants as kinds
use Rattle.hsail_reader.specs.declared.rows.Shape.TheVariants as shapes
use Rattle.hsail_reader.specs.declared.words.Word.TheVariants as words
use Rattle.hsail_reader.proofs.Grammars.{Front, Behind, Next, Takes, Decides, shortens}
use Rattle.hsail_reader.proofs.Loop.{Shortens}
use Rattle.hsail_reader.proofs.Terminals.{unbegun, marks, registers, numbers, majors, minors, profiles_found, large_found, roundings_found, names, these_words, word_there, aligns, kernargs, groups, opcodes}

-- the first token is of this kind
abbrev pub FirstIs : TokenKind → Front
FirstIs k from = (t : PlacedToken) × (rest : List PlacedToken) × (from ≡ t ∷ rest) × (t.kind ≡ k)

-- a token of another kind begins nothing
other_kind : {X : Type 0} (pick : TokenKind → Option X) (k : TokenKind) (from : List PlacedToken) → FirstIs k from → pick k ≡ None →
    begun_by (λ t. pick t.kind) from ≡ false
other_kind pick k from f none = unbegun (λ t. pick t.kind) f.0 from f.1 f.2 (ap pick f.3 ∙ none)

-- nor does it begin a name
no_name : (pick : TokenKind → Option (Unit {0})) (k : TokenKind) (from : List PlacedToken) → FirstIs k from → pick k ≡ None →
    begun_by (λ t. option_map (λ one. t.text) (pick t.kind)) from ≡ false
no_name pick k from f none =
    unbegun (λ t. option_map (λ one. t.text) (pick t.kind)) f.0 from f.1 f.2 (ap (λ k. option_map (λ one. f.0.text) (pick k)) f.3 ∙ ap (option_map (λ one. f.0.text)) none)

signeds : (negative : Bool) (F : Front) → Decides (signed negative) F
unfolding signed
signeds negative F = (numbers, λ n. tt)

signed_first : (negative : Bool) (c : Constant) (from to : List PlacedToken) → spells (signed negative) c from to →
    (n : ℕ) × FirstIs (kinds.Number n) from
unfolding signed
signed_first negative c from to s = (s.0, (s.2.0, s.1, s.2.1, s.2.2))

constants : (F : Front) → Decides constant F
unfolding constant
constants F = (
  (marks 45, λ one. signeds true F),
  (
    (marks 43, λ one. signeds false F),
    signeds false F,
    λ c from to s may. let n = signed_first false c from to s in other_kind (mark_of 43) (kinds.Number n.0) from n.1 refl,
  ),
  λ c from to s may. ⊎_elim
      (λ p. other_kind (mark_of 45) (kinds.Mark 43) from (p.2.0, p.1, p.2.1, p.2.2) refl)
      (λ q. let n = signed_first false c from to q in other_kind (mark_of 45) (kinds.Number n.0) from n.1 refl)
      s,
)

-- a constant begins with no register
constant_first : (c : Constant) (from to : List PlacedToken) → spells constant c from to → begun_by (λ t. register_of t.kind) from ≡ false
unfolding constant
constant_first c from to s =
    ⊎_elim
    (λ p. other_kind register_of (kinds.Mark 45) from (p.2.0, p.1, p.2.1, p.2.2) refl)
    (λ q. ⊎_elim
    (λ p. other_kind register_of (kinds.Mark 43) from (p.2.0, p.1, p.2.1, p.2.2) refl)
    (λ p. let n = signed_first false c from to p in other_kind register_of (kinds.Number n.0) from n.1 refl)
    q)
    s

sources : (F : Front) → Decides source F
unfolding source
sources F = (
  (registers, λ r. tt),
  (constants _, λ c. tt),
  λ x from to s may. constant_first s.0 from s.1 s.2,
)

offsets : (F : Front) → ((to : List PlacedToken) → F to → FirstIs (kinds.Mark 93) to) → Decides offset F
unfolding offset
offsets F law = (
  (marks 45, λ one. signeds true F),
  (
    (marks 43, λ one. signeds false F),
    tt,
    λ c from to s may. other_kind (mark_of 43) (kinds.Mark 93) from (law from (subst F (sym s.0) may)) refl,
  ),
  λ c from to s may. ⊎_elim
      (λ p. other_kind (mark_of 45) (kinds.Mark 43) from (p.2.0, p.1, p.2.1, p.2.2) refl)
      (λ q. other_kind (mark_of 45) (kinds.Mark 93) from (law from (subst F (sym q.0) may)) refl)
      s,
)

places : (F : Front) → ((to : List PlacedToken) → F to → FirstIs (kinds.Mark 93) to) → Decides place F
unfolding place
places F law = (
  (numbers, λ n. tt),
  (registers, λ r. (offsets _ (λ to b. subst (FirstIs (kinds.Mark 93)) (sym b.3.0) (law b.2 b.4)), λ o. tt)),
  λ p from to s may. other_kind number_of (kinds.Register s.0) from (s.2.0, s.1, s.2.1, s.2.2) refl,
)

-- a place begins with no variable
place_first : (p : SegmentPlace) (from to : List PlacedToken) → spells place p from to →
    begun_by (λ t. option_map (λ one. t.text) (same_kind kinds.Variable t.kind)) from ≡ false
unfolding place
place_first p from to s =
    ⊎_elim
    (λ n. no_name (same_kind kinds.Variable) (kinds.Number n.0) from (n.2.0, n.1, n.2.1, n.2.2) refl)
    (λ r. no_name (same_kind kinds.Variable) (kinds.Register r.0) from (r.2.0, r.1, r.2.1, r.2.2) refl)
    s

places_inside : (F : Front) → Decides place_inside F
unfolding place_inside
places_inside F = (places _ (λ to b. (b.3.2.0, b.3.1, b.3.2.1, b.3.2.2)), λ p. (marks 93, λ one. tt))

place_inside_first : (p : SegmentPlace) (from to : List PlacedToken) → spells place_inside p from to →
    begun_by (λ t. option_map (λ one. t.text) (same_kind kinds.Variable t.kind)) from ≡ false
unfolding place_inside
place_inside_first p from to s = place_first s.0 from s.1 s.2

-- what is followed by no opening bracket
abbrev BeforeNoBracket : Front → Type 0
BeforeNoBracket F = (to : List PlacedToken) → F to → begins open_bracket to ≡ false

indices : (x : List ℕ) (F : Front) → BeforeNoBracket F → Decides (index x) F
unfolding index
indices x F law = (
  (marks 91, λ one. (places_inside _, λ p. tt)),
  tt,
  λ a from to s may. subst (λ ts. begins open_bracket ts ≡ false) (sym s.0) (law to may),
)

addresses_inside : (F : Front) → BeforeNoBracket F → Decides address_inside F
unfolding address_inside
addresses_inside F law = (
  (names kinds.Variable refl, λ x. (marks 93, λ one. indices x F law)),
  (places_inside _, λ p. tt),
  λ a from to s may. place_inside_first s.0 from s.1 s.2,
)

addresses : (F : Front) → BeforeNoBracket F → Decides address F
unfolding address
addresses F law = (marks 91, λ one. addresses_inside F law)

-- behind what is given stands what stood behind it
given : {A X : Type 0} (value : A → X) (F : Front) → BeforeNoBracket F → BeforeNoBracket (Behind (λ a. give (value a)) F)
given value F law to b = subst (λ ts. begins open_bracket ts ≡ false) (sym b.3.0) (law b.2 b.4)

-- an operand, before no opening bracket
operand_decides : (s : Shape) (kind : DataType) (F : Front) → BeforeNoBracket F → Decides (operand s kind) F
operand_decides shapes.Absent kind F law = tt
operand_decides (shapes.Target at) kind F law = (registers, λ r. tt)
operand_decides (shapes.Source at) kind F law = (sources _, λ s. tt)
operand_decides (shapes.Address segment) kind F law = (addresses _ (given _ F law), λ a. tt)
operand_decides shapes.Label kind F law = (names kinds.Label refl, λ x. tt)
operand_decides shapes.Dimension kind F law = (numbers, λ n. tt)

next_decides : (s : Shape) (kind : DataType) (F : Front) → BeforeNoBracket F → Decides (next_operand s kind) F
next_decides shapes.Absent kind F law = tt
next_decides s kind F law = (marks 44, λ one. operand_decides s kind F law)

-- a further operand begins with a comma, or stands before no opening bracket
next_first : {A X : Type 0} (s : Shape) (kind : DataType) (f : A → Operand → Grammar X) (F : Front) →
    ((a : A) → BeforeNoBracket (Behind (f a) F)) → BeforeNoBracket (Behind (λ a. behind (next_operand s kind) (f a)) F)
next_first shapes.Absent kind f F law to (a, x, end, (b, between, s, rest), may) =
    subst (λ ts. begins open_bracket ts ≡ false) (sym s.0) (law a between (b, x, end, rest, may))
next_first s kind f F law to (a, x, end, (b, between, (one, front, comma, there), rest), may) =
    other_kind (mark_of 91) (kinds.Mark 44) to (comma.0, front, comma.1, comma.2) refl

-- what stands behind the second operand of a row, and behind its first
abbrev from_fourth : Opcode → Operand → Operand → Operand → Grammar Operation
from_fourth code a b c = behind (next_operand code.operands.3 code.kind) (λ d. give (operation_with code a b c d))

abbrev from_third : Opcode → Operand → Operand → Grammar Operation
from_third code a b = behind (next_operand code.operands.2 code.kind) (from_fourth code a b)

-- the operands of a row, before no opening bracket
operations : (code : Opcode) (F : Front) → BeforeNoBracket F → Decides (operands code) F
unfolding operands
operations code F law =
    let third : (a b : Operand) → BeforeNoBracket (Behind (from_fourth code a b) F) =
    λ a b. next_first code.operands.3 code.kind (λ c d. give (operation_with code a b c d)) F (λ c. given (operation_with code a b c) F law) in
    let second : (a : Operand) → BeforeNoBracket (Behind (from_third code a) F) =
    λ a. next_first code.operands.2 code.kind (from_fourth code a) F (third a) in (
      operand_decides code.operands.0 code.kind _ (next_first code.operands.1 code.kind (from_third code) F second),
      λ a. (
        next_decides code.operands.1 code.kind _ (second a),
        λ b. (
          next_decides code.operands.2 code.kind _ (third a b),
          λ c. (next_decides code.operands.3 code.kind _ (given (operation_with code a b c) F law), λ d. tt),
        ),
      ),
    )

labelleds : (F : Front) → Decides labelled F
unfolding labelled
labelleds F line = (names kinds.Label refl, λ x. (marks 58, λ one. tt))

performeds : (F : Front) → Decides performed F
unfolding performed
performeds F line =
    (opcodes, λ code. (operations code _ (λ to b. other_kind (mark_of 91) (kinds.Mark 59) to (b.3.2.0, b.3.1, b.3.2.1, b.3.2.2) refl), λ x. (marks 59, λ one. tt)))

-- the first token is this word
abbrev WordIs : Word → Front
WordIs w from = (rest : List PlacedToken) × (t : PlacedToken) × (from ≡ t ∷ rest) × (t.kind ≡ kinds.Word) × SpellsWord w t.text

-- what is picked of no such word begins nothing
other_word : {X : Type 0} (pick : Word → Option X) (w : Word) (from : List PlacedToken) → WordIs w from → pick w ≡ None →
    begun_by (λ t. picked pick (word_at t)) from ≡ false
other_word pick w from (rest, t, at, kind, is) none = unbegun (λ t. picked pick (word_at t)) t from rest at (word_there pick w t (kind, is) ∙ none)

any_word : (w : Word) (from : List PlacedToken) → WordIs w from → FirstIs kinds.Word from
any_word w from (rest, t, at, kind, is) = (t, rest, at, kind)

-- an instruction begins with its word
performed_first : (i : Item) (from to : List PlacedToken) → spells performed i from to → (code : Opcode) × WordIs (words.Instruction code) from
unfolding performed
performed_first i from to s = (s.0, (s.1, s.2.0, s.2.1, s.2.2.0, s.2.2.1))

extents : (F : Front) → BeforeNoBracket F → Decides extent F
unfolding extent
extents F law = (
  (marks 91, λ one. (numbers, λ n. (marks 93, λ one. tt))),
  tt,
  λ x from to s may. subst (λ ts. begins open_bracket ts ≡ false) (sym s.0) (law to may),
)

variables : (line : ℕ) (a : Option Alignment) (kind : DataType) (F : Front) → Decides (declared line a kind) F
unfolding declared
variables line a kind F = (
  names kinds.Variable refl,
  λ x. (extents _ (λ to b. other_kind (mark_of 91) (kinds.Mark 59) to (b.3.2.0, b.3.1, b.3.2.1, b.3.2.2) refl), λ n. (marks 59, λ one. tt)),
)

plains : (F : Front) → Decides plain F
unfolding plain
plains F = (
  λ line. (groups at_begin, λ kind. variables line None kind F),
  performeds F,
  λ i from to s may. let p = performed_first i from to s in other_word group_of (words.Instruction p.0) from p.1 refl,
)

-- an item without align(n) begins with another word
plain_first : (i : Item) (from to : List PlacedToken) → spells plain i from to → FirstIs kinds.Word from × (begins align from ≡ false)
unfolding plain
plain_first i from to s =
    ⊎_elim
    (λ v. let is : WordIs (words.GroupVariable v.0) from = (v.1, v.2.0, v.2.1, v.2.2.0, v.2.2.1) in
    (any_word (words.GroupVariable v.0) from is, other_word align_of (words.GroupVariable v.0) from is refl))
    (λ q. let p = performed_first i from to q in
    (any_word (words.Instruction p.0) from p.1, other_word align_of (words.Instruction p.0) from p.1 refl))
    s

unlabelleds : (F : Front) → Decides unlabelled F
unfolding unlabelled aligned
unlabelleds F = (
  λ line. (aligns, λ a. (groups behind_align, λ kind. variables line (Some a) kind F)),
  plains F,
  λ i from to s may. (plain_first i from to s).1,
)

unlabelled_first : (i : Item) (from to : List PlacedToken) → spells unlabelled i from to → FirstIs kinds.Word from
unfolding unlabelled
unlabelled_first i from to s = ⊎_elim (λ p. (p.2.0, p.1, p.2.1, p.2.2.0)) (λ q. (plain_first i from to q).0) s

item_decides : (F : Front) → Decides item F
unfolding item labelled
item_decides F = (
  labelleds F,
  unlabelleds F,
  λ i from to s may. no_name (same_kind kinds.Label) kinds.Word from (unlabelled_first i from to s) refl,
)

item_takes : Takes item
unfolding item labelled unlabelled plain performed
item_takes = (λ line. inl tt, (λ line. inl tt, (λ line. inl tt, λ line. inl tt)))

item_goes_on : (i : Item) (from to : List PlacedToken) → spells item i from to → begins close_brace from ≡ false
unfolding item labelled
item_goes_on i from to s =
    ⊎_elim
    (λ p. other_kind (mark_of 125) kinds.Label from (p.2.0, p.1, p.2.1, p.2.2.0) refl)
    (λ q. other_kind (mark_of 125) kinds.Word from (unlabelled_first i from to q) refl)
    s

items_decide : (F : Front) → Decides items F
unfolding items
items_decide F = (marks 123, λ one. (item_decides _, item_takes, item_goes_on))

-- what isn't followed by another semicolon
abbrev BeforeNoSemicolon : Front → Type 0
BeforeNoSemicolon F = (to : List PlacedToken) → F to → begins semicolon to ≡ false

bodies : (F : Front) → BeforeNoSemicolon F → Decides body F
unfolding body
bodies F law = (
  items_decide _,
  λ xs. (
    marks 125,
    λ one. (
      (marks 59, tt, λ x from to s may. subst (λ ts. begins semicolon ts ≡ false) (sym (s.0 ∙ may.3.0)) (law may.2 may.4)),
      λ one. tt,
    ),
  ),
)

alignments : (F : Front) → ((to : List PlacedToken) → F to → begins align to ≡ false) → Decides alignment F
unfolding alignment
alignments F law = (
  (aligns, λ a. tt),
  tt,
  λ x from to s may. subst (λ ts. begins align ts ≡ false) (sym s.0) (law to may),
)

arguments : (F : Front) → Decides argument F
unfolding argument
arguments F line = (
  alignments _
      (λ to b. let s = b.3 in
      unbegun (λ t. picked align_of (word_at t)) s.2.0 to s.1 s.2.1 (word_there align_of (words.Argument s.0) s.2.0 s.2.2)),
  λ a. (kernargs (kernarg_flaw a), λ kind. (names kinds.Variable refl, λ x. tt)),
)

-- an argument begins with a word
argument_first : (a : Argument) (from to : List PlacedToken) → spells argument a from to → FirstIs kinds.Word from
unfolding argument alignment
argument_first a from to s =
    ⊎_elim
    (λ p. (p.2.0, p.1, p.2.1, p.2.2.0))
    (λ q. let w = s.3 in (w.2.0, w.1, q.0 ∙ w.2.1, w.2.2.0))
    s.2

next_arguments : (F : Front) → Decides next_argument F
unfolding next_argument
next_arguments F = (marks 44, λ one. arguments F)

next_takes : Takes next_argument
unfolding next_argument
next_takes = inl tt

next_goes_on : (a : Argument) (from to : List PlacedToken) → spells next_argument a from to → begins close_parenthesis from ≡ false
unfolding next_argument
next_goes_on a from to s = other_kind (mark_of 41) (kinds.Mark 44) from (s.2.0, s.1, s.2.1, s.2.2) refl

several_arguments : (F : Front) → Decides some_arguments F
unfolding some_arguments
several_arguments F = (arguments _, λ x. ((next_arguments _, next_takes, next_goes_on), λ xs. tt))

several_first : (xs : List Argument) (from to : List PlacedToken) → spells some_arguments xs from to → FirstIs kinds.Word from
unfolding some_arguments
several_first xs from to s = argument_first s.0 from s.1 s.2

signatures : (F : Front) → Decides signature F
unfolding signature
signatures F = (
  marks 40,
  λ one. (
    (marks 41, λ one. tt),
    (several_arguments _, λ xs. (marks 41, λ one. tt)),
    λ xs from to s may. other_kind (mark_of 41) kinds.Word from (several_first s.0 from s.1 s.2) refl,
  ),
)

kernel_begins : (F : Front) → Decides kernel_begin F
unfolding kernel_begin
kernel_begins F = (
  (these_words words.Prog syntax refl refl, λ one. these_words words.Kernel syntax refl refl),
  these_words words.Kernel at_begin refl refl,
  λ x from to s may. unbegun (λ t. picked (same_word words.Prog) (word_at t)) s.0 from to s.1 (word_there (same_word words.Prog) words.Kernel s.0 s.2),
)

kernel_decides : (F : Front) → BeforeNoSemicolon F → Decides kernel F
unfolding kernel
kernel_decides F law line = (
  kernel_begins _,
  λ one. (
    names kinds.Global refl,
    λ x. (
      signatures _,
      λ xs. (bodies _ (λ to b. subst (λ ts. begins semicolon ts ≡ false) (sym b.3.0) (law b.2 b.4)), λ ys. tt),
    ),
  ),
)

kernel_takes : Takes kernel
unfolding kernel kernel_begin
kernel_takes line = inl (inl tt, tt)

-- a kernel begins with a word
kernel_first : (k : Kernel) (from to : List PlacedToken) → spells kernel k from to → FirstIs kinds.Word from
unfolding kernel kernel_begin
kernel_first k from to s =
    ⊎_elim
    (λ p. (p.2.0, p.1, p.2.1, p.2.2.0))
    (λ q. (q.0, s.1, q.1, q.2.0))
    s.2

kernel_goes_on : (k : Kernel) (from to : List PlacedToken) → spells kernel k from to → is_none_left from ≡ false
kernel_goes_on k from to s =
    let f = kernel_first k from to s in ap is_none_left f.2

-- behind a kernel stands another, or nothing
behind_kernel : BeforeNoSemicolon (Next is_none_left kernel)
behind_kernel [] next = refl
behind_kernel (t ∷ tokens) (inl none) = cc
behind_kernel (t ∷ tokens) (inr s) = other_kind (mark_of 59) kinds.Word (t ∷ tokens) (kernel_first s.0 (t ∷ tokens) s.1 s.2) refl

kernels_decide : (F : Front) → Decides kernels F
unfolding kernels
kernels_decide F = (marks 59, λ one. (kernel_decides _ behind_kernel, kernel_takes, kernel_goes_on))

fields_decide : (F : Front) → Decides fields F
unfolding fields
fields_decide F = (
  (marks 58, λ one. majors),
  λ one. (
    (marks 58, λ one. minors),
    λ n. (
      (marks 58, λ one. profiles_found),
      λ p. ((marks 58, λ one. large_found), λ one. ((marks 58, λ one. roundings_found), λ r. tt)),
    ),
  ),
)

pub module_decides : (F : Front) → Decides module_text F
unfolding module_text
module_decides F = (these_words words.Module syntax refl refl, λ one. (names kinds.Global refl, λ x. (fields_decide _, λ f. (kernels_decide _, λ ks. tt))))

-- each of several takes a token at least
pub item_shortens : Shortens (read item)
item_shortens from y is = shortens item (λ to. Unit {0}) (item_decides _) item_takes from y is

pub next_argument_shortens : Shortens (read next_argument)
next_argument_shortens from y is = shortens next_argument (λ to. Unit {0}) (next_arguments _) next_takes from y is

pub kernel_shortens : Shortens (read kernel)
kernel_shortens from y is =
    shortens kernel (Next is_none_left kernel) (kernel_decides _ behind_kernel) kernel_takes from y is
