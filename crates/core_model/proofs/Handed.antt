-- Parts that were handed out, each of which begins where the one before it ends.
use Rattle.std.proofs.Common.{◌≡◌, ℕ, zero, suc, ◌+◌, ◌<◌, List, [], ◌∷◌, ◌++◌, length, drop, get_or, refl, ap, sym, ◌∙◌, subst, arith, append_assoc}
use Rattle.std.specs.Prelude.{◌↔◌, ◌==◌, ◌&&◌, Bool, true, false, All}
use Rattle.std.proofs.lemmas.Bool.{eqb-true}
use Rattle.std.proofs.Math.Numerals.{add-one}
use Rattle.core_model.specs.declared.entry.Entry.{Entry}
use Rattle.core_model.specs.History.{Origin, Part, Start, begin}
use Rattle.core_model.specs.States.{state_after}
use Rattle.core_model.specs.Legal.{IsLegal, IsLegalPart, IsWhole, SameOrigin}
use Rattle.core_model.specs.Rotation.{GoOn, LeadTo, entries_in, first_start}
use Rattle.core_model.proofs.States.{join-end, join-legal, legal-whole, same-begin}
use Rattle.kernel_check.specs.Programs.{Program}

-- ---- the test, part by part

rest_at : (parts : List Part) (i : ℕ) (p : Part) → i < length parts → get_or parts i p ≡ p → drop i parts ≡ p ∷ drop (suc i) parts
rest_at [] i p lt is = absurd (omega (arith, lt))
rest_at (x ∷ xs) zero p lt is = ap (λ y. y ∷ xs) is
rest_at (x ∷ xs) (suc i) p lt is = rest_at xs i p (omega (arith, lt)) is

rest_of_all : (parts : List Part) (i : ℕ) → length parts < suc i → drop i parts ≡ []
rest_of_all [] zero h = refl
rest_of_all [] (suc i) h = refl
rest_of_all (x ∷ xs) zero h = absurd (omega (arith, h))
rest_of_all (x ∷ xs) (suc i) h = rest_of_all xs i (omega (arith, h))

-- whether all go on from an end is whether those that are left do from where the others led
pub record Leads (end : Origin) (parts : List Part) (start : Origin) (reached : Origin) (i : ℕ) : Type 0 where
  pub forth : GoOn end parts start → GoOn reached (drop i parts) start
  pub back : GoOn reached (drop i parts) start → GoOn end parts start

pub next_leads : (end : Origin) (parts : List Part) (start reached : Origin) (i : ℕ) (p : Part) → i < length parts → get_or parts i p ≡ p → SameOrigin p.start reached → Leads end parts start reached i → Leads end parts start p.end (i + 1)
next_leads end parts start reached i p lt is same h =
    let rest = rest_at parts i p lt is in
    let one = add-one i in
    record {
      forth = λ go. subst (λ n. GoOn p.end (drop n parts) start) (sym one) (subst (λ ps. GoOn reached ps start) rest (h.forth go)).1;
      back = λ go. h.back (subst (λ ps. GoOn reached ps start) (sym rest) (same, subst (λ n. GoOn p.end (drop n parts) start) one go));
    }

pub other_breaks : (end : Origin) (parts : List Part) (start reached : Origin) (i : ℕ) (p : Part) → i < length parts → get_or parts i p ≡ p → (SameOrigin p.start reached → ⊥) → Leads end parts start reached i → false ≡ true ↔ GoOn end parts start
other_breaks end parts start reached i p lt is other h =
    (λ no. absurd (cc), λ go. absurd (other (subst (λ ps. GoOn reached ps start) (rest_at parts i p lt is) (h.forth go)).0))

pub last_leads : (end : Origin) (parts : List Part) (start reached : Origin) (i : ℕ) (same : Bool) → length parts < suc i → same ≡ true ↔ SameOrigin start reached → Leads end parts start reached i → same ≡ true ↔ GoOn end parts start
last_leads end parts start reached i same all is h =
    let none = rest_of_all parts i all in
    (λ yes. h.back (subst (λ ps. GoOn reached ps start) (sym none) (is.0 yes)), λ go. is.1 (subst (λ ps. GoOn reached ps start) none (h.forth go)))

pub leads_first : (first : Part) (more : List Part) (start : Origin) (goes : Bool) → goes ≡ true ↔ GoOn first.end more start → ((first.start.before == 0) && goes) ≡ true ↔ LeadTo (first ∷ more) start
leads_first first more start goes is = by_test (first.start.before == 0) refl goes is
  where
    by_test : (none : Bool) → (first.start.before == 0) ≡ none → (goes : Bool) → goes ≡ true ↔ GoOn first.end more start → (none && goes) ≡ true ↔ LeadTo (first ∷ more) start
    by_test true eq goes is = (λ yes. (eqb-true first.start.before 0 eq, is.0 yes), λ lead. is.1 lead.1)
    by_test false eq goes is = (λ no. absurd (cc), λ lead. absurd (let no : (first.start.before == 0) ≡ true = rw (lead.0) refl in cc))

-- ---- the law

go_on-legal : (kernels : List Program) (start : Start) (before : List Entry) (end : Origin) (parts : List Part) (origin : Origin) (entries : List Entry)
    → IsLegal start before → begin kernels end ≡ state_after start before → All (IsLegalPart kernels) parts → GoOn end parts origin → IsLegal (begin kernels origin) entries → IsLegal start (before ++ (entries_in parts ++ entries))
go_on-legal kernels start before end [] origin entries legal there parts same own =
    join-legal start before (begin kernels origin) entries legal own (same-begin kernels origin end same ∙ there)
go_on-legal kernels start before end (p ∷ ps) origin entries legal there parts follow own =
    let first : IsLegalPart kernels p = parts zero p (omega arith) in
    let more : All (IsLegalPart kernels) ps = λ k d lt. parts (suc k) d (omega (arith, lt)) in
    let here : begin kernels p.start ≡ state_after start before = same-begin kernels p.start end follow.0 ∙ there in
    let behind : begin kernels p.end ≡ state_after start (before ++ p.entries) = first.end_is ∙ join-end start before (begin kernels p.start) p.entries here in
    let all = go_on-legal kernels start (before ++ p.entries) p.end ps origin entries (join-legal start before (begin kernels p.start) p.entries legal first.legal here) behind more follow.1 own in
    subst (λ es. IsLegal start es) (append_assoc before p.entries (entries_in ps ++ entries) ∙ ap (λ es. before ++ es) (sym (append_assoc p.entries (entries_in ps) entries))) all

pub lead_to-whole : (kernels : List Program) (parts : List Part) (origin : Origin) (entries : List Entry) → All (IsLegalPart kernels) parts → LeadTo parts origin → IsLegal (begin kernels origin) entries → IsWhole (begin kernels (first_start parts origin)) (entries_in parts ++ entries)
lead_to-whole kernels [] origin entries legal none own = legal-whole (begin kernels origin) entries own none
lead_to-whole kernels (p ∷ ps) origin entries legal lead own =
    let first : IsLegalPart kernels p = legal zero p (omega arith) in
    let more : All (IsLegalPart kernels) ps = λ k d lt. legal (suc k) d (omega (arith, lt)) in
    let all = go_on-legal kernels (begin kernels p.start) p.entries p.end ps origin entries first.legal first.end_is more lead.1 own in
    legal-whole (begin kernels p.start) ((p.entries ++ entries_in ps) ++ entries) (subst (λ es. IsLegal (begin kernels p.start) es) (sym (append_assoc p.entries (entries_in ps) entries)) all) lead.0
