-- The operations of a module that tokens spell are of rows of the table.
use Rattle.std.proofs.Common.{⊎_elim, List, [], ◌∷◌, ℕ, Option, refl, sym, subst}
use Rattle.std.proofs.lemmas.List.Elements.{All-nil, All-cons}
use Rattle.std.specs.List.{All}
use Rattle.hsail_reader.specs.Grammar.{operand, next_operand, operands, labelled, performed, declared, aligned, plain, unlabelled, item, items, body, kernel, kernels, module_text, IsTextOf}
use Rattle.hsail_reader.specs.Grammars.{each, spells}
use Rattle.hsail_reader.specs.RowOperations.{AreOfRows, HasShape, IsOfRow, IsItemOfRow, IsRowWord}
use Rattle.hsail_reader.specs.TextTokens.{PlacedToken}
use Rattle.hsail_reader.specs.Nouns.{Alignment, DataType, Item, Kernel, Module, Opcode, Operand, Operation, Shape, Shapes}
use Rattle.hsail_reader.specs.declared.rows.Shape.TheVariants as shape
use Rattle.hsail_reader.proofs.RowOperations.{row_word}

-- an operand is as its row has it
operand_shape : (s : Shape) (kind : DataType) (o : Operand) (from to : List PlacedToken) → spells (operand s kind) o from to
    → HasShape s kind o
operand_shape shape.Absent kind o from to (end, same) = subst (HasShape shape.Absent kind) same tt
operand_shape (shape.Target at) kind o from to (r, b, there, (end, same)) = subst (HasShape (shape.Target at) kind) same refl
operand_shape (shape.Source at) kind o from to (x, b, there, (end, same)) = subst (HasShape (shape.Source at) kind) same refl
operand_shape (shape.Address g) kind o from to (a, b, there, (end, same)) =
    subst (HasShape (shape.Address g) kind) same (refl, refl)
operand_shape shape.Label kind o from to (x, b, there, (end, same)) = subst (HasShape shape.Label kind) same tt
operand_shape shape.Dimension kind o from to (n, b, there, (end, same)) = subst (HasShape shape.Dimension kind) same tt

next_shape : (s : Shape) (kind : DataType) (o : Operand) (from to : List PlacedToken) → spells (next_operand s kind) o from to
    → HasShape s kind o
next_shape shape.Absent kind o from to (end, same) = subst (HasShape shape.Absent kind) same tt
next_shape s kind o from to behind = operand_shape s kind o behind.1 to behind.3

-- an operation is of the row of its word
operation_rows : (code : Opcode) (x : Operation) (from to : List PlacedToken) → IsRowWord code → spells (operands code) x from to
    → IsOfRow x
unfolding operands
operation_rows code x from to r (a, f, s, (b, g, t, (c, h, u, (d, i, v, (end, same))))) =
    subst IsOfRow same (record {
      row = r.row;
      listed = r.listed;
      form = r.form;
      modifiers = r.modifiers;
      type = r.type;
      first = subst (λ (o : Shapes). HasShape o.0 code.kind a) (sym r.operands) (operand_shape code.operands.0 code.kind a from f s);
      second = subst (λ (o : Shapes). HasShape o.1 code.kind b) (sym r.operands) (next_shape code.operands.1 code.kind b f g t);
      third = subst (λ (o : Shapes). HasShape o.2 code.kind c) (sym r.operands) (next_shape code.operands.2 code.kind c g h u);
      fourth = subst (λ (o : Shapes). HasShape o.3 code.kind d) (sym r.operands) (next_shape code.operands.3 code.kind d h i v);
    })

declared_rows : (line : ℕ) (a : Option Alignment) (kind : DataType) (i : Item) (from to : List PlacedToken)
    → spells (declared line a kind) i from to → IsItemOfRow i
unfolding declared
declared_rows line a kind i from to (x, b, name, (n, c, extent, (one, d, mark, (end, same)))) = subst IsItemOfRow same tt

performed_rows : (i : Item) (from to : List PlacedToken) → spells performed i from to → IsItemOfRow i
unfolding performed
performed_rows i from to (code, b, word, (x, c, there, (one, d, mark, (end, same)))) =
    subst IsItemOfRow same (operation_rows code x b c (row_word code word.0.text word.2.1) there)

item_rows : (i : Item) (from to : List PlacedToken) → spells item i from to → IsItemOfRow i
unfolding item labelled unlabelled plain aligned
item_rows i from to s =
    ⊎_elim
    (λ l. subst IsItemOfRow l.3.3.1 tt)
    (λ u. ⊎_elim
    (λ a. declared_rows _ _ a.3.0 i a.3.1 to a.3.3)
    (λ p. ⊎_elim (λ g. declared_rows _ _ g.0 i g.1 to g.3) (performed_rows i from to) p)
    u)
    s

-- what each of several is
each_is : {X : Type 0} (spelled : X → List PlacedToken → List PlacedToken → Type 0) (P : X → Type 0)
    → ((x : X) (from to : List PlacedToken) → spelled x from to → P x)
    → (xs : List X) (from to : List PlacedToken) → each spelled xs from to → All P xs
each_is spelled P is [] from to s = All-nil P
each_is spelled P is (x ∷ xs) from to (between, s, later) =
    All-cons P x xs (is x from between s) (each_is spelled P is xs between to later)

-- what a kernel has
abbrev IsKernelOfRows : Kernel → Type 0
IsKernelOfRows k = All IsItemOfRow k.items

body_rows : (xs : List Item) (from to : List PlacedToken) → spells body xs from to → All IsItemOfRow xs
unfolding body items
body_rows xs from to (ys, b, (one, c, mark, (are, stops)), (two, d, close, (three, e, semi, (end, same)))) =
    subst (All IsItemOfRow) same (each_is (spells item) IsItemOfRow item_rows ys c b are)

kernel_rows : (k : Kernel) (from to : List PlacedToken) → spells kernel k from to → IsKernelOfRows k
unfolding kernel
kernel_rows k from to (one, b, begin, (x, c, name, (arguments, d, signature, (xs, e, there, (end, same))))) =
    subst IsKernelOfRows same (body_rows xs d e there)

kernels_rows : (ks : List Kernel) (from to : List PlacedToken) → spells kernels ks from to → All IsKernelOfRows ks
unfolding kernels
kernels_rows ks from to (one, b, mark, (are, stops)) = each_is (spells kernel) IsKernelOfRows kernel_rows ks b to are

module_rows : (m : Module) (from to : List PlacedToken) → spells module_text m from to → AreOfRows m
unfolding module_text
module_rows m from to (one, b, word, (x, c, name, (f, d, fields, (ks, e, there, (end, same))))) =
    subst AreOfRows same (kernels_rows ks d e there)

-- the operations of a module that a text spells are of rows
pub text_rows : (text : List ℕ) (m : Module) → IsTextOf text m → AreOfRows m
unfolding IsTextOf
text_rows text m (fits, (tokens, cut, spelled)) = module_rows m tokens [] spelled
