-- Tables that are copied, and tables that are the same.
use Rattle.std.proofs.Common.{◌≡◌, ℕ, Bool, true, false, ◌&&◌, ◌==◌, List, [], ◌∷◌, map, ℤ, String, Global, string_bytes, refl, sym, ap, subst, ◌∙◌, true≢false}
use Rattle.std.specs.List.{AllZip}
use Rattle.std.specs.Bool.{Decides}
use Rattle.std.specs.Str.{bytes_eq}
use Rattle.std.specs.String.{string_eq}
use Rattle.std.specs.Cmp.Lexicographic.{pointwise, pointwise_decides}
use Rattle.std.proofs.lemmas.Bool.{and_parts, and_from}
use Rattle.std.proofs.lemmas.Slice.Eq.{bytes_eq-Decides}
use Rattle.std.specs.Cmp.{booleans_Decides}
use Rattle.std.specs.Ordering.{int_eq}
use Rattle.std.proofs.Math.Bool.{beq}
use Rattle.policy.specs.declared.row.Takes.{Takes}
use Rattle.std.specs.Prelude.{nat_eq}
use Rattle.std.proofs.lemmas.Bool.Decides.{Decides-eqb, Decides-int_eq}
use Rattle.policy.specs.declared.policy.Policy.TheInside.{Inside}
use Rattle.policy.specs.Declaring.{DeclaresAs}
use Rattle.policy.specs.Inside.{declared_in}
use Rattle.policy.specs.Kernel.{Source}
use Rattle.policy.specs.Limits.{IsWithinLimits}
use Rattle.policy.specs.Policy.{Declared}
use Rattle.policy.specs.Names.{Name, names}
use Rattle.policy.specs.Table.{named_rows}

-- rows whose texts and contents are clones are the same rows
pub copied : {V : Type 0} (D : V → V → Type 0) → ((a b : V) → D a b → b ≡ a) → (es fs : List (String Global × V))
    → AllZip (λ p q. (string_bytes q.0 ≡ string_bytes p.0) × D p.1 q.1) es fs → named_rows fs ≡ named_rows es
copied D exact [] [] a = refl
copied D exact [] (y ∷ ys) a = absurd a
copied D exact (x ∷ xs) [] a = absurd a
copied D exact (x ∷ xs) (y ∷ ys) a = λ i. (a.0.0 i, exact x.1 y.1 a.0.1 i) ∷ copied D exact xs ys a.1 i

module _ {V : Type 0} (E : V → V → Bool) where
  abbrev same_row : Name × V → Name × V → Bool
  same_row p q = bytes_eq p.0 q.0 && E p.1 q.1

  on_rows : (es fs : List (String Global × V)) → pointwise (λ p q. string_eq p.0 q.0 && E p.1 q.1) es fs ≡ pointwise same_row (named_rows es) (named_rows fs)
  on_rows [] [] = refl
  on_rows [] (y ∷ ys) = refl
  on_rows (x ∷ xs) [] = refl
  on_rows (x ∷ xs) (y ∷ ys) = ap (λ b. (string_eq x.0 y.0 && E x.1 y.1) && b) (on_rows xs ys)

  module _ (decides : (a b : V) → Decides (E a b) (a ≡ b)) where
    row_decides : (p q : Name × V) → Decides (same_row p q) (p ≡ q)
    row_decides p q = (
      λ h. let both = and_parts (bytes_eq p.0 q.0) (E p.1 q.1) h in λ i. ((bytes_eq-Decides p.0 q.0).0 both.0 i, (decides p.1 q.1).0 both.1 i),
      λ e. and_from (bytes_eq p.0 q.0) (E p.1 q.1) ((bytes_eq-Decides p.0 q.0).1 (ap (λ r. r.0) e)) ((decides p.1 q.1).1 (ap (λ r. r.1) e)),
    )

    -- two tables are the same where each text and each content is
    pub same_rows : (es fs : List (String Global × V)) (r : Bool) → r ≡ pointwise (λ p q. string_eq p.0 q.0 && E p.1 q.1) es fs → Decides r (named_rows es ≡ named_rows fs)
    same_rows es fs r is = subst (λ b. Decides b (named_rows es ≡ named_rows fs)) (sym (is ∙ on_rows es fs)) (pointwise_decides row_decides (named_rows es) (named_rows fs))

-- rows that hold names alone
units_alike : (u v : Unit {0}) → u ≡ v
units_alike u v = refl

pub same_names : (rows others : List (Name × Unit {0})) → names rows ≡ names others → rows ≡ others
same_names [] [] e = refl
same_names [] (y ∷ ys) e = cc
same_names (x ∷ xs) [] e = cc
same_names (x ∷ xs) (y ∷ ys) e =
    let first : x.0 ≡ y.0 = cc in
    let rest : names xs ≡ names ys = cc in
    λ i. (first i, units_alike x.1 y.1 i) ∷ same_names xs ys rest i

-- tables that are shown as slices, and compared
pub same_tables : {V : Type 0} (E : V → V → Bool) → ((a b : V) → Decides (E a b) (a ≡ b)) → (es fs shown others : List (String Global × V)) (rows other : List (Name × V)) (r : Bool)
    → r ≡ pointwise (λ p q. string_eq p.0 q.0 && E p.1 q.1) shown others → shown ≡ es → others ≡ fs → named_rows es ≡ rows → named_rows fs ≡ other → Decides r (rows ≡ other)
same_tables E decides es fs shown others rows other r is left right one two =
    subst (λ x. Decides r (x ≡ other)) (ap named_rows left ∙ one) (subst (λ x. Decides r (named_rows shown ≡ x)) (ap named_rows right ∙ two) (same_rows E decides shown others r is))

-- ---- policies

-- two facts
pub record Both (P Q : Type 0) : Type 0 where
  pub one : P
  pub two : Q

pub both_decide : {P Q : Type 0} (first second : Bool) → Decides first P → Decides second Q → Decides (first && second) (Both P Q)
both_decide true second d e = (λ t. record { one = d.0 refl; two = e.0 t }, λ b. e.1 b.two)
both_decide false second d e = (λ t. absurd (true≢false (sym t)), λ b. d.1 b.one)

pub numbers_decide : (m n : ℕ) → Decides (nat_eq m n) (m ≡ n)
numbers_decide = Decides-eqb

pub values_decide : (m n : ℤ) → Decides (int_eq m n) (m ≡ n)
values_decide = Decides-int_eq

pub units_decide : (u v : Unit {0}) → Decides true (u ≡ v)
units_decide u v = (λ t. refl, λ e. refl)

pub takes_decide : (s t : Takes) → Decides (beq s.kernel t.kernel && beq s.agent t.agent) (s ≡ t)
takes_decide s t = (
  λ h. let parts = and_parts (beq s.kernel t.kernel) (beq s.agent t.agent) h in λ i. record { kernel = (booleans_Decides s.kernel t.kernel).0 parts.0 i; agent = (booleans_Decides s.agent t.agent).0 parts.1 i },
  λ e. and_from (beq s.kernel t.kernel) (beq s.agent t.agent) ((booleans_Decides s.kernel t.kernel).1 (ap (λ (x : Takes). x.kernel) e)) ((booleans_Decides s.agent t.agent).1 (ap (λ (x : Takes). x.agent) e)),
)

pub sources_decide : (s t : Source) → Decides (bytes_eq s.entry t.entry && bytes_eq s.text t.text) (s ≡ t)
sources_decide s t = (
  λ h. let parts = and_parts (bytes_eq s.entry t.entry) (bytes_eq s.text t.text) h in λ i. record { entry = (bytes_eq-Decides s.entry t.entry).0 parts.0 i; text = (bytes_eq-Decides s.text t.text).0 parts.1 i },
  λ e. and_from (bytes_eq s.entry t.entry) (bytes_eq s.text t.text) ((bytes_eq-Decides s.entry t.entry).1 (ap (λ (x : Source). x.entry) e)) ((bytes_eq-Decides s.text t.text).1 (ap (λ (x : Source). x.text) e)),
)

-- five tables are compared
pub declared_alike : (p q : Inside) (policy other : Declared) → declared_in p ≡ policy → declared_in q ≡ other → (r : Bool)
    → Decides r (Both (Both (Both (Both (p.clients ≡ q.clients) (p.agents ≡ q.agents)) (p.regions ≡ q.regions)) (p.signals ≡ q.signals)) (p.kernels ≡ q.kernels)) → Decides r (DeclaresAs policy other)
declared_alike p q policy other one two r d = subst (λ x. Decides r (DeclaresAs x other)) one (subst (λ x. Decides r (DeclaresAs (declared_in p) x)) two (
  λ t. let all = d.0 t in record { clients = ap names all.one.one.one.one; agents = all.one.one.one.two; regions = all.one.one.two; signals = all.one.two; kernels = all.two },
  λ a. d.1 (record { one = record { one = record { one = record { one = same_names p.clients q.clients a.clients; two = a.agents }; two = a.regions }; two = a.signals }; two = a.kernels }),
))

-- a copy of each part is a copy of the whole
pub copied_within : (p q : Inside) → p.version ≡ q.version → p.clients ≡ q.clients → p.agents ≡ q.agents → p.regions ≡ q.regions → p.signals ≡ q.signals → p.kernels ≡ q.kernels → p.rows ≡ q.rows
    → IsWithinLimits (declared_in q) → IsWithinLimits (declared_in p)
copied_within p q v c a r s k w within =
    let same : declared_in p ≡ declared_in q = λ i. record { version = v i; clients = names (c i); agents = a i; regions = r i; signals = s i; kernels = k i; rows = w i } in
    subst IsWithinLimits (sym same) within
