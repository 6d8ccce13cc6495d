-- What follows of a row of sections.
use Rattle.std.proofs.Common.{◌≡◌, ◌⊎◌, ℕ, zero, suc, ◌+◌, List, [], ◌∷◌, ◌++◌, length, refl, sym, ap, ◌∙◌, subst, ⊎_elim, inl, inr, arith, append_assoc}
use mathlib.Core.List.{IsPrefix}
use Rattle.std.specs.Prelude.{Bool, true, false, ◌==◌, if◌then◌else◌, All}
use Rattle.std.proofs.lemmas.List.{append-nil}
use Rattle.std.proofs.lemmas.Bool.Decides.{nat_tests}
use Rattle.core_model.specs.History.{History, Start, begin, beginning}
use Rattle.core_model.specs.Legal.{IsLegal}
use Rattle.core_model.specs.States.{state_after}
use Rattle.core_model.specs.declared.entry.Entry.{Entry}
use Rattle.core_model.specs.declared.served.Served.{Served}
use Rattle.access_core.specs.Cores.{Core}
use Rattle.client_threads.specs.Boards.{Compared, FrontSeen, with_section}
use Rattle.client_threads.specs.Sections.{AllFollow, Appends, Follows, IsFirst, IsNext, IsSection, Stand, gone, last_of, seen_entries, whole}
use Rattle.client_threads.specs.Takes.{takes}
use Rattle.client_threads.proofs.Differences.{takes-append}
use Rattle.client_threads.proofs.Fronts.{prefix_self, prefix_trans}

-- ---- one section more

pub last_snoc : (opened : Core) (left : List Core) (core : Core) → last_of opened (left ++ core ∷ []) ≡ core
last_snoc opened [] core = refl
last_snoc opened (x ∷ xs) core = last_snoc x xs core

pub all_snoc : (opened : Core) (left : List Core) (core : Core) → AllFollow opened left → IsNext (last_of opened left) core → AllFollow opened (left ++ core ∷ [])
all_snoc opened [] core all next = (next, tt)
all_snoc opened (x ∷ xs) core all next = (all.0, all_snoc x xs core all.1 next)

-- ---- what goes on

pub none_more : (h : History) → h ≡ record h { entries = h.entries ++ [] }
none_more h = λ i. record h { entries = sym (append-nil h.entries) i }

pub appends_self : (h : History) → Appends h h
appends_self h = record { more = []; history = none_more h }

pub appends_trans : (a b c : History) → Appends a b → Appends b c → Appends a c
appends_trans a b c p q = record {
  more = p.more ++ q.more;
  history = q.history ∙ ap (λ (h : History). record h { entries = h.entries ++ q.more }) p.history ∙ ap (λ (es : List Entry). record a { entries = es }) (append_assoc a.entries p.more q.more);
}

pub appends_follow : (a b : History) → Appends a b → Follows a b
appends_follow a b p = record {
  kernels = ap (λ (h : History). h.kernels) p.history;
  capacity = ap (λ (h : History). h.capacity) p.history;
  declared = ap (λ (h : History). h.origin.policy) p.history;
  goes = inl (ap (λ (h : History). h.origin) p.history, (p.more, sym (ap (λ (h : History). h.entries) p.history)));
}

pub follows_self : (h : History) → Follows h h
follows_self h = appends_follow h h (appends_self h)

-- ---- all entries since the opening

nil_by_length : (xs : List Entry) → length xs ≡ 0 → xs ≡ []
nil_by_length [] e = refl
nil_by_length (x ∷ xs) e = absurd (omega (arith, e))

behind : (e xs ys : List Entry) → IsPrefix xs ys → IsPrefix (e ++ xs) (e ++ ys)
behind [] xs ys p = p
behind (x ∷ e) xs ys p = let r = behind e xs ys p in (r.0, ap (λ w. x ∷ w) r.1)

-- where the numbers of entries go on, nothing was handed out that had an entry
pub none_out : (a b : History) → beginning b ≡ state_after (beginning a) a.entries → b.origin.before ≡ a.origin.before → a.entries ≡ []
none_out a b turned same =
    let count : b.origin.before ≡ a.origin.before + length a.entries = ap (λ (s : Start). s.before) turned in
    nil_by_length a.entries (omega (arith, count, same))

pub same_number : (n m : ℕ) → n ≡ m → (n == m) ≡ true
same_number n m e = grind (arith, nat_tests)

pub number_same : (n m : ℕ) → (n == m) ≡ true → n ≡ m
number_same n m e = grind (arith, nat_tests)

step_by : (e : List Entry) (a b : History) → Follows a b → (same : Bool) → (b.origin.before == a.origin.before) ≡ same → IsPrefix (e ++ a.entries) ((e ++ (if same then [] else a.entries)) ++ b.entries)
step_by e a b f false is = (b.entries, refl)
step_by e a b f true is =
    let at : b.origin.before ≡ a.origin.before = number_same b.origin.before a.origin.before is in
    let p : IsPrefix a.entries b.entries = ⊎_elim
    (λ (t : (b.origin ≡ a.origin) × IsPrefix a.entries b.entries). t.1)
    (λ (t : beginning b ≡ state_after (beginning a) a.entries). (b.entries, ap (λ (es : List Entry). es ++ b.entries) (none_out a b t at)))
    f.goes in
    subst (λ (w : List Entry). IsPrefix (e ++ a.entries) (w ++ b.entries)) (sym (append-nil e)) (behind e a.entries b.entries p)

pub step : (e : List Entry) (a b : Core) → Follows a.history b.history → IsPrefix (e ++ a.history.entries) ((e ++ gone a b) ++ b.history.entries)
step e a b f = step_by e a.history b.history f (b.history.origin.before == a.history.origin.before) refl

pub grows : (e : List Entry) (core : Core) (left : List Core) → AllFollow core left → IsPrefix (e ++ core.history.entries) (whole e core left)
grows e core [] all = prefix_self (e ++ core.history.entries)
grows e core (c ∷ cs) all =
    prefix_trans (e ++ core.history.entries) ((e ++ gone core c) ++ c.history.entries) (whole (e ++ gone core c) c cs) (step e core c all.0.follows) (grows (e ++ gone core c) c cs all.1)

-- all entries that were seen begin all
pub whole_begins : (e : List Entry) (core : Core) (seen left : List Core) → IsPrefix seen left → AllFollow core left → IsPrefix (whole e core seen) (whole e core left)
whole_begins e core [] left p all = grows e core left all
whole_begins e core (x ∷ xs) [] p all = absurd (cc (p.1))
whole_begins e core (x ∷ xs) (y ∷ ys) p all =
    let heads : x ≡ y = cc (p.1) in
    subst (λ (z : Core). IsPrefix (whole (e ++ gone core z) z xs) (whole (e ++ gone core y) y ys)) (sym heads) (whole_begins (e ++ gone core y) y xs ys (p.0, cc (p.1)) all.1)

either_nil : (b : Bool) (xs : List Entry) → xs ≡ [] → (if b then [] else xs) ≡ []
either_nil true xs e = refl
either_nil false xs e = e

-- a core is opened with no entry
pub seen_whole : (opened : Core) (left : List Core) → IsFirst opened → seen_entries left ≡ whole [] opened left
seen_whole opened [] first = sym first.entries_are
seen_whole opened (c ∷ cs) first =
    ap (λ (e : List Entry). whole e c cs) (sym (either_nil (c.history.origin.before == opened.history.origin.before) opened.history.entries first.entries_are))

-- entries that are added in the last section are added to all
pub whole_more : (e : List Entry) (core : Core) (left : List Core) (new : Core) (more : List Entry) → new.history ≡ record (last_of core left).history { entries = (last_of core left).history.entries ++ more }
    → whole e core (left ++ new ∷ []) ≡ whole e core left ++ more
whole_more e core [] new more is =
    (λ i. (e ++ (if same_number new.history.origin.before core.history.origin.before (ap (λ (h : History). h.origin.before) is) i then [] else core.history.entries)) ++ (is i).entries)
    ∙ (ap (λ (w : List Entry). w ++ (core.history.entries ++ more)) (append-nil e) ∙ sym (append_assoc e core.history.entries more))
whole_more e core (c ∷ cs) new more is = whole_more (e ++ gone core c) c cs new more is

-- ---- what stands in order

pub stand_prefix : (xs ys zs : List Served) → Stand xs ys → IsPrefix ys zs → Stand xs zs
stand_prefix [] ys zs s p = tt
stand_prefix (x ∷ xs) [] zs s p = absurd s
stand_prefix (x ∷ xs) (y ∷ ys) [] s p = absurd (cc (p.1))
stand_prefix (x ∷ xs) (y ∷ ys) (z ∷ zs) s p =
    let heads : y ≡ z = cc (p.1) in
    let rest : IsPrefix ys zs = (p.0, cc (p.1)) in
    ⊎_elim
    (λ (t : (x ≡ y) × Stand xs ys). inl (t.0 ∙ heads, stand_prefix xs ys zs t.1 rest))
    (λ (t : Stand (x ∷ xs) ys). inr (stand_prefix (x ∷ xs) ys zs t rest))
    s

stand_self : (xs : List Served) → Stand xs xs
stand_self [] = tt
stand_self (x ∷ xs) = inl (refl, stand_self xs)

stand_end : (ys more : List Served) → Stand more (ys ++ more)
stand_end [] more = stand_self more
stand_end (y ∷ ys) [] = tt
stand_end (y ∷ ys) (m ∷ more) = inr (stand_end ys (m ∷ more))

-- with the same behind both it still does
pub stand_more : (xs ys more : List Served) → Stand xs ys → Stand (xs ++ more) (ys ++ more)
stand_more [] ys more s = stand_end ys more
stand_more (x ∷ xs) [] more s = absurd s
stand_more (x ∷ xs) (y ∷ ys) more s =
    ⊎_elim
    (λ (t : (x ≡ y) × Stand xs ys). inl (t.0, stand_more xs ys more t.1))
    (λ (t : Stand (x ∷ xs) ys). inr (stand_more (x ∷ xs) ys more t))
    s

takes_prefix : (xs ys : List Entry) (queue : ℕ) → IsPrefix xs ys → IsPrefix (takes xs queue) (takes ys queue)
takes_prefix xs ys queue p = (takes p.0 queue, sym (takes-append xs p.0 queue) ∙ ap (λ (es : List Entry). takes es queue) p.1)

-- what stands in what was seen stands in all
pub seen_stand : (opened : Core) (served : List Served) (queue : ℕ) (seen left : List Core) → IsFirst opened → Stand served (takes (seen_entries seen) queue) → IsPrefix seen left → AllFollow opened left
    → Stand served (takes (whole [] opened left) queue)
seen_stand opened served queue seen left first s p all =
    stand_prefix served (takes (whole [] opened seen) queue) (takes (whole [] opened left) queue)
    (subst (λ (es : List Entry). Stand served (takes es queue)) (seen_whole opened seen first) s)
    (takes_prefix (whole [] opened seen) (whole [] opened left) queue (whole_begins [] opened seen left p all))

-- and so it does once a section has added entries, with what these took
pub served_stand : (opened : Core) (served : List Served) (queue : ℕ) (seen before : List Core) (core : Core) (more : List Entry) → IsFirst opened → Stand served (takes (seen_entries seen) queue) → IsPrefix seen before → AllFollow opened before
    → core.history ≡ record (last_of opened before).history { entries = (last_of opened before).history.entries ++ more }
    → Stand (served ++ takes more queue) (takes (seen_entries (before ++ core ∷ [])) queue)
served_stand opened served queue seen before core more first s p all is =
    subst (Stand (served ++ takes more queue))
    (sym (ap (λ (es : List Entry). takes es queue) (seen_whole opened (before ++ core ∷ []) first ∙ whole_more [] opened before core more is) ∙ takes-append (whole [] opened before) more queue))
    (stand_more served (takes (whole [] opened before) queue) (takes more queue) (seen_stand opened served queue seen before first s p all))

-- ---- a section

-- what is known of a core that is lent and left makes a section
pub section_of : {Did : Core → Core → Type 0} (opened : Core) (seen new : FrontSeen) (left : List Core) (old core : Core) → IsFirst opened → AllFollow opened left → last_of opened left ≡ old → IsPrefix seen.left left → IsLegal (beginning old.history) old.history.entries
    → IsNext old core → Did old core → new ≡ with_section seen left core → IsSection opened seen new Did
section_of {Did} opened seen new left old core first all last begins legal next did is = record {
  before = left;
  begins = begins;
  first = first;
  all = all;
  legal = subst (λ (k : Core). IsLegal (beginning k.history) k.history.entries) (sym last) legal;
  core = core;
  did = subst (λ (k : Core). Did k core) (sym last) did;
  next = subst (λ (k : Core). IsNext k core) (sym last) next;
  new_is = is;
}

-- ---- two sections

snoc_prefix : (xs ys : List Core) (x y : Core) → IsPrefix (xs ++ x ∷ []) (ys ++ y ∷ []) → (xs ++ x ∷ [] ≡ ys ++ y ∷ []) ⊎ IsPrefix (xs ++ x ∷ []) ys
snoc_prefix [] [] x y p = inl (cc (p.1))
snoc_prefix [] (z ∷ ys) x y p = let h : x ≡ z = cc (p.1) in inr (ys, ap (λ w. w ∷ ys) h)
snoc_prefix (a ∷ xs) [] x y p = absurd (long xs x p.0 (cc (p.1)))
  where
    long : (xs : List Core) (x : Core) (rest : List Core) → (xs ++ x ∷ []) ++ rest ≡ [] → ⊥
    long [] x rest e = cc (e)
    long (b ∷ bs) x rest e = cc (e)
snoc_prefix (a ∷ xs) (z ∷ ys) x y p =
    let h : a ≡ z = cc (p.1) in
    ⊎_elim
    (λ (t : xs ++ x ∷ [] ≡ ys ++ y ∷ []). inl (cc (h, t)))
    (λ (t : IsPrefix (xs ++ x ∷ []) ys). inr (t.0, cc (h, t.1)))
    (snoc_prefix xs ys x y (p.0, cc (p.1)))

-- of two sections one stands wholly before the other
pub in_order : (one two : List Core) (left other : Core) → Compared (one ++ left ∷ []) (two ++ other ∷ []) → (one ++ left ∷ [] ≡ two ++ other ∷ []) ⊎ (IsPrefix (one ++ left ∷ []) two ⊎ IsPrefix (two ++ other ∷ []) one)
in_order one two left other c =
    ⊎_elim
    (λ (p : IsPrefix (one ++ left ∷ []) (two ++ other ∷ [])). ⊎_elim (λ (t : one ++ left ∷ [] ≡ two ++ other ∷ []). inl t) (λ (t : IsPrefix (one ++ left ∷ []) two). inr (inl t)) (snoc_prefix one two left other p))
    (λ (p : IsPrefix (two ++ other ∷ []) (one ++ left ∷ [])). ⊎_elim (λ (t : two ++ other ∷ [] ≡ one ++ left ∷ []). inl (sym t)) (λ (t : IsPrefix (two ++ other ∷ []) one). inr (inr t)) (snoc_prefix two one other left p))
    c
