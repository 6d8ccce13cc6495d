-- Each step keeps what slots, tickets and processor have to do with one another.
use Rattle.std.proofs.Common.{◌≡◌, ◌≢◌, ℕ, zero, suc, ◌+◌, ◌*◌, ◌/◌, ◌%◌, ◌<◌, ◌≤◌, Bool, true, false, List, [], ◌∷◌, ◌++◌, length, get_or, set, eqb, refl, ap, ◌∙◌, sym, subst, arith, inl, inr, get_or-set_same, get_or-set_other, length-set}
use Rattle.std.specs.Prelude.{Option, Some, None, is_some, not, if◌then◌else◌, slice_index, unwrap_or}
use Rattle.std.proofs.Math.Nat.{mul-le-mul_left}
use Rattle.std.proofs.lemmas.Bool.Decides.{nat_tests, eqb_tells, leb_tells}
use Rattle.std.proofs.lemmas.Option.{same_Some}
use Rattle.std.proofs.lemmas.List.{get_or_past, get_or_append_left, get_or_push, get_or-map, length_push}
use Rattle.std.proofs.lemmas.List.Sums.{AllPass-from_list_all}
use Rattle.ring_core.specs.declared.ticket.Ticket.{Ticket}
use Rattle.ring_core.specs.Words.{word, no_words, is_body, has_body, packet_of, is_invalid}
use Rattle.ring_core.specs.Tickets.{is_published, shows_room, seeing, writing}
use Rattle.ring_core.specs.Rule.{IsTied}

-- the tickets by id, with another in place of one
abbrev pub with_at : (ℕ → Ticket) → ℕ → Ticket → ℕ → Ticket
with_at tickets id ticket j = if eqb j id then ticket else tickets j

-- what holds of the new ticket and of each other one holds of all
each_at : (P : ℕ → Ticket → Type 0) (tickets : ℕ → Ticket) (id : ℕ) (ticket : Ticket) → P id ticket → ((j : ℕ) → j ≢ id → P j (tickets j)) → (j : ℕ) → P j (with_at tickets id ticket j)
each_at P tickets id ticket new others j =
    elim (eqb_tells j id) [
      | inl h ↦ rw h.0 (subst (λ (k : ℕ). P k ticket) (sym h.1) new)
      | inr h ↦ rw h.0 (others j h.1)
    ]

-- the same of the words of a list
each_word : (P : ℕ → Option ℕ → Type 0) (ws : List (Option ℕ)) (k : ℕ) (w : Option ℕ) → k < length ws → P k w → ((j : ℕ) → j ≢ k → P j (word ws j)) → (j : ℕ) → P j (word (set ws k w) j)
each_word P ws k w lt new others j =
    elim (eqb_tells j k) [
      | inl h ↦ subst (λ (i : ℕ). P i (word (set ws k w) i)) (sym h.1) (subst (λ (o : Option ℕ). P k o) (sym (get_or-set_same ws k w None lt)) new)
      | inr h ↦ subst (λ (o : Option ℕ). P j o) (sym (get_or-set_other ws k j w None h.1)) (others j h.1)
    ]

-- a word that is known
pub some_of : (o : Option ℕ) → is_some o ≡ true → (w : ℕ) × (o ≡ Some w)
some_of None h = absurd (cc)
some_of (Some w) h = (w, refl)

is_some_of : (o : Option ℕ) (w : ℕ) → o ≡ Some w → is_some o ≡ true
is_some_of o w e = rw e refl

known_place : (ws : List (Option ℕ)) (k w : ℕ) → length ws ≡ 8 → word ws k ≡ Some w → k < 8
known_place ws k w eight e =
    elim (leb_tells 8 k) [
      | inl h ↦ let le : length ws ≤ k = omega (arith, h.1) in let n : word ws k ≡ None = get_or_past ws k None le in absurd (cc)
      | inr h ↦ h.1
    ]

pub body_place : (k : ℕ) → is_body k ≡ true → (1 ≤ k) × (k < 8)
body_place k h = grind (arith, nat_tests)

pub body_known : (ws : List (Option ℕ)) (k : ℕ) → length ws ≡ 8 → has_body ws ≡ true → 1 ≤ k → k < 8 → is_some (word ws k) ≡ true
body_known [] k eight h lo hi = absurd (omega arith)
body_known (w ∷ ws) zero eight h lo hi = absurd (omega arith)
body_known (w ∷ ws) (suc k) eight h lo hi = AllPass-from_list_all is_some ws h k None (omega arith)

-- no word of a new ticket is known
pub no_word : (k : ℕ) → word no_words k ≡ None
no_word zero = refl
no_word (suc zero) = refl
no_word (suc (suc zero)) = refl
no_word (suc (suc (suc zero))) = refl
no_word (suc (suc (suc (suc zero)))) = refl
no_word (suc (suc (suc (suc (suc zero))))) = refl
no_word (suc (suc (suc (suc (suc (suc zero)))))) = refl
no_word (suc (suc (suc (suc (suc (suc (suc zero))))))) = refl
no_word (suc (suc (suc (suc (suc (suc (suc (suc k)))))))) = refl

-- what was seen, where it shows room
room_of : (size id : ℕ) (saw : Option ℕ) → shows_room size id saw ≡ true → (r : ℕ) × (saw ≡ Some r) × (id < r + size)
room_of size id None h = absurd (cc)
room_of size id (Some r) h = (r, refl, grind (arith, nat_tests))

-- two ids with one slot that are less than `size` apart are one
quotients : (size a b : ℕ) → a < b → size * a + size ≤ size * b
quotients size a b lt = let le : suc a ≤ b = omega arith in omega (arith, mul-le-mul_left size le)

near : (size i j : ℕ) → 0 < size → i % size ≡ j % size → i < j + size → j < i + size → i ≡ j
near size i j pos same lo hi =
    elim (leb_tells (i / size) (j / size)) [
      | inr h ↦ absurd (omega (arith, quotients size (j / size) (i / size) h.1))
      | inl h ↦ elim (leb_tells (j / size) (i / size)) [
        | inr g ↦ absurd (omega (arith, quotients size (i / size) (j / size) g.1))
        | inl g ↦ let e : i / size ≡ j / size = omega (arith, h.1, g.1) in let m : size * (i / size) ≡ size * (j / size) = ap (λ q. size * q) e in omega arith
      ]
    ]

module _ (size R : ℕ) (slot : ℕ → ℕ → ℕ) (T : ℕ → Ticket) (retired : List (List ℕ)) (collected : List (Option ℕ)) (raising : Bool) (pos : 0 < size) (h : IsTied size R slot T retired collected raising) where
  -- a packet with a word written lies below the read index plus size
  written_room : (id k w : ℕ) → word (T id).words k ≡ Some w → id < R + size
  written_room id k w e =
      let r = room_of size id (T id).saw (h.room id k w e) in
      let le : r.0 ≤ R = h.seen id r.0 r.1 in omega (arith, r.2)

  -- a packet of which a word is collected is published
  pub collected_published : (k w : ℕ) → word collected k ≡ Some w → is_published (T R) ≡ true
  collected_published k w e =
      let u = some_of (word collected 0) (h.begun k w e) in is_some_of _ u.0 (h.collected 0 u.0 u.1)

  -- s2: a ticket sees the read index
  pub tied_seeing : (id : ℕ) → IsTied size R slot (with_at T id (seeing R (T id))) retired collected raising
  tied_seeing id =
      record {
        behind = each_at (λ j t. j < R → is_published t ≡ true) T id (seeing R (T id)) (h.behind id) (λ j ne. h.behind j);
        seen = each_at (λ j t. (r : ℕ) → t.saw ≡ Some r → r ≤ R) T id (seeing R (T id)) (λ r e. let s : R ≡ r = same_Some R r e in omega arith) (λ j ne. h.seen j);
        room = each_at (λ j t. (k w : ℕ) → word t.words k ≡ Some w → shows_room size j t.saw ≡ true) T id (seeing R (T id)) (λ k w e. let lt : id < R + size = written_room id k w e in grind (arith, nat_tests)) (λ j ne. h.room j);
        whole = each_at (λ j t. (k : ℕ) → is_published t ≡ true → k < 8 → is_some (word t.words k) ≡ true) T id (seeing R (T id)) (h.whole id) (λ j ne. h.whole j);
        valid = each_at (λ j t. (w : ℕ) → word t.words 0 ≡ Some w → is_invalid w ≡ false) T id (seeing R (T id)) (h.valid id) (λ j ne. h.valid j);
        header = each_at (λ j t. R ≤ j → j < R + size → (raising ≡ true → j ≢ R) → is_invalid (slot j 0) ≡ not (is_published t)) T id (seeing R (T id)) (h.header id) (λ j ne. h.header j);
        cleared = h.cleared;
        live = each_at (λ j t. (k w : ℕ) → R ≤ j → word t.words k ≡ Some w → (raising ≡ true → j ≡ R → k ≢ 0) → slot j k ≡ w) T id (seeing R (T id)) (h.live id) (λ j ne. h.live j);
        count = h.count;
        retired = each_at (λ j t. (k : ℕ) → j < R → k < 8 → word t.words k ≡ Some (slice_index (get_or retired j []) k)) T id (seeing R (T id)) (h.retired id) (λ j ne. h.retired j);
        collected = λ k w e. each_at (λ j t. j ≡ R → word t.words k ≡ Some w) T id (seeing R (T id)) (λ s. subst (λ (j : ℕ). word (T j).words k ≡ Some w) (sym s) (h.collected k w e)) (λ j ne s. subst (λ (j : ℕ). word (T j).words k ≡ Some w) (sym s) (h.collected k w e)) R refl;
        begun = h.begun;
        complete = h.complete;
        eight = each_at (λ j t. length t.words ≡ 8) T id (seeing R (T id)) (h.eight id) (λ j ne. h.eight j);
        eight_collected = h.eight_collected;
      }

  -- what is known of an open ticket that saw room
  module _ (id : ℕ) (open_id : is_published (T id) ≡ false) (room_id : shows_room size id (T id).saw ≡ true) where
    low : R ≤ id
    low =
        elim (leb_tells R id) [
          | inl g ↦ g.1
          | inr g ↦ let p : is_published (T id) ≡ true = h.behind id g.1 in absurd (cc)
        ]

    high : id < R + size
    high =
        let r = room_of size id (T id).saw room_id in
        let le : r.0 ≤ R = h.seen id r.0 r.1 in omega (arith, r.2)

    -- no other ticket has words in its slot
    alone : (j l v : ℕ) → R ≤ j → word (T j).words l ≡ Some v → j ≢ id → j % size ≡ id % size → ⊥
    alone j l v lo e ne same =
        let hi : j < R + size = written_room j l v e in
        ne (near size j id pos same (omega (arith, low)) (omega (arith, high)))

    -- nothing of it is collected
    uncollected : (l v : ℕ) → word collected l ≡ Some v → id ≢ R
    uncollected l v e s =
        let p : is_published (T R) ≡ true = collected_published l v e in
        let o : is_published (T R) ≡ false = subst (λ (j : ℕ). is_published (T j) ≡ false) s open_id in absurd (cc)

    -- s3: an open ticket that saw room writes body word k
    pub tied_body : (k w : ℕ) (slot' : ℕ → ℕ → ℕ) → is_body k ≡ true → slot' id k ≡ w → ((j l : ℕ) → l < 8 → (j % size ≡ id % size → l ≢ k) → slot' j l ≡ slot j l) → IsTied size R slot' (with_at T id (writing k w (T id))) retired collected raising
    tied_body k w slot' body hit miss =
        let t : Ticket = writing k w (T id) in
        let lo : 1 ≤ k = (body_place k body).0 in
        let hi : k < 8 = (body_place k body).1 in
        let zk : 0 ≢ k = omega arith in
        let within : k < length (T id).words = omega (arith, h.eight id) in
        let head : word t.words 0 ≡ word (T id).words 0 = get_or-set_other (T id).words k 0 (Some w) None zk in
        let same : is_published t ≡ is_published (T id) = ap is_some head in
        record {
          behind = each_at (λ j u. j < R → is_published u ≡ true) T id t (λ lt. same ∙ h.behind id lt) (λ j ne. h.behind j);
          seen = each_at (λ j u. (r : ℕ) → u.saw ≡ Some r → r ≤ R) T id t (h.seen id) (λ j ne. h.seen j);
          room = each_at (λ j u. (l v : ℕ) → word u.words l ≡ Some v → shows_room size j u.saw ≡ true) T id t (λ l v e. room_id) (λ j ne. h.room j);
          whole = each_at (λ j u. (l : ℕ) → is_published u ≡ true → l < 8 → is_some (word u.words l) ≡ true) T id t (λ l p lt. absurd (cc)) (λ j ne. h.whole j);
          valid = each_at (λ j u. (v : ℕ) → word u.words 0 ≡ Some v → is_invalid v ≡ false) T id t (λ v e. h.valid id v (sym head ∙ e)) (λ j ne. h.valid j);
          header = each_at (λ j u. R ≤ j → j < R + size → (raising ≡ true → j ≢ R) → is_invalid (slot' j 0) ≡ not (is_published u)) T id t
              (λ a b x. ap is_invalid (miss id 0 (omega arith) (λ _. zk)) ∙ h.header id a b x ∙ ap not (sym same))
              (λ j ne a b x. ap is_invalid (miss j 0 (omega arith) (λ _. zk)) ∙ h.header j a b x);
          cleared = λ r. miss R 0 (omega arith) (λ _. zk) ∙ h.cleared r;
          live = each_at (λ j u. (l v : ℕ) → R ≤ j → word u.words l ≡ Some v → (raising ≡ true → j ≡ R → l ≢ 0) → slot' j l ≡ v) T id t
              (λ l v a e x.
              elim (eqb_tells l k) [
                | inl g ↦
                    let f : word t.words k ≡ Some v = subst (λ (i : ℕ). word t.words i ≡ Some v) g.1 e in
                    let n : word t.words k ≡ Some w = get_or-set_same (T id).words k (Some w) None within in
                    let q : w ≡ v = same_Some w v (sym n ∙ f) in
                    subst (λ (i : ℕ). slot' id i ≡ v) (sym g.1) (hit ∙ q)
                | inr g ↦
                    let f : word (T id).words l ≡ Some v = sym (get_or-set_other (T id).words k l (Some w) None g.1) ∙ e in
                    miss id l (known_place (T id).words l v (h.eight id) f) (λ _. g.1) ∙ h.live id l v a f x
              ])
              (λ j ne l v a e x. miss j l (known_place (T j).words l v (h.eight j) e) (λ m. absurd (alone j l v a e ne m)) ∙ h.live j l v a e x);
          count = h.count;
          retired = each_at (λ j u. (l : ℕ) → j < R → l < 8 → word u.words l ≡ Some (slice_index (get_or retired j []) l)) T id t (λ l lt _. absurd (omega (arith, low))) (λ j ne. h.retired j);
          collected = λ l v e. each_at (λ j u. j ≡ R → word u.words l ≡ Some v) T id t (λ s. absurd (uncollected l v e s)) (λ j ne s. subst (λ (j : ℕ). word (T j).words l ≡ Some v) (sym s) (h.collected l v e)) R refl;
          begun = h.begun;
          complete = h.complete;
          eight = each_at (λ j u. length u.words ≡ 8) T id t (length-set _ _ _ ∙ h.eight id) (λ j ne. h.eight j);
          eight_collected = h.eight_collected;
        }

    -- s4: an open ticket with its whole body writes the header
    pub tied_header : (w : ℕ) (slot' : ℕ → ℕ → ℕ) → is_invalid w ≡ false → has_body (T id).words ≡ true → slot' id 0 ≡ w → ((j l : ℕ) → l < 8 → (j % size ≡ id % size → l ≢ 0) → slot' j l ≡ slot j l) → IsTied size R slot' (with_at T id (writing 0 w (T id))) retired collected raising
    tied_header w slot' valid_w body hit miss =
        let t : Ticket = writing 0 w (T id) in
        let within : 0 < length (T id).words = omega (arith, h.eight id) in
        let head : word t.words 0 ≡ Some w = get_or-set_same (T id).words 0 (Some w) None within in
        let now : is_published t ≡ true = is_some_of _ w head in
        record {
          behind = each_at (λ j u. j < R → is_published u ≡ true) T id t (λ lt. now) (λ j ne. h.behind j);
          seen = each_at (λ j u. (r : ℕ) → u.saw ≡ Some r → r ≤ R) T id t (h.seen id) (λ j ne. h.seen j);
          room = each_at (λ j u. (l v : ℕ) → word u.words l ≡ Some v → shows_room size j u.saw ≡ true) T id t (λ l v e. room_id) (λ j ne. h.room j);
          whole = each_at (λ j u. (l : ℕ) → is_published u ≡ true → l < 8 → is_some (word u.words l) ≡ true) T id t
              (λ l p lt.
              elim (eqb_tells l 0) [
                | inl g ↦ subst (λ (i : ℕ). is_some (word t.words i) ≡ true) (sym g.1) now
                | inr g ↦
                    let pl : 1 ≤ l = omega (arith, g.1) in
                    let kept : word t.words l ≡ word (T id).words l = get_or-set_other (T id).words 0 l (Some w) None g.1 in
                    ap is_some kept ∙ body_known (T id).words l (h.eight id) body pl lt
              ])
              (λ j ne. h.whole j);
          valid = each_at (λ j u. (v : ℕ) → word u.words 0 ≡ Some v → is_invalid v ≡ false) T id t (λ v e. let q : w ≡ v = same_Some w v (sym head ∙ e) in subst (λ (i : ℕ). is_invalid i ≡ false) q valid_w) (λ j ne. h.valid j);
          header = each_at (λ j u. R ≤ j → j < R + size → (raising ≡ true → j ≢ R) → is_invalid (slot' j 0) ≡ not (is_published u)) T id t
              (λ a b x. ap is_invalid hit ∙ valid_w ∙ sym (ap not now))
              (λ j ne a b x. ap is_invalid (miss j 0 (omega arith) (λ m _. ne (near size j id pos m (omega (arith, low)) (omega (arith, high))))) ∙ h.header j a b x);
          cleared = λ r.
              let u = some_of (word collected 0) (h.complete 0 r (omega arith)) in
              miss R 0 (omega arith) (λ m _. uncollected 0 u.0 u.1 (near size id R pos (sym m) high (omega (arith, low)))) ∙ h.cleared r;
          live = each_at (λ j u. (l v : ℕ) → R ≤ j → word u.words l ≡ Some v → (raising ≡ true → j ≡ R → l ≢ 0) → slot' j l ≡ v) T id t
              (λ l v a e x.
              elim (eqb_tells l 0) [
                | inl g ↦
                    let f : word t.words 0 ≡ Some v = subst (λ (i : ℕ). word t.words i ≡ Some v) g.1 e in
                    let q : w ≡ v = same_Some w v (sym head ∙ f) in
                    subst (λ (i : ℕ). slot' id i ≡ v) (sym g.1) (hit ∙ q)
                | inr g ↦
                    let f : word (T id).words l ≡ Some v = sym (get_or-set_other (T id).words 0 l (Some w) None g.1) ∙ e in
                    miss id l (known_place (T id).words l v (h.eight id) f) (λ _. g.1) ∙ h.live id l v a f x
              ])
              (λ j ne l v a e x. miss j l (known_place (T j).words l v (h.eight j) e) (λ m. absurd (alone j l v a e ne m)) ∙ h.live j l v a e x);
          count = h.count;
          retired = each_at (λ j u. (l : ℕ) → j < R → l < 8 → word u.words l ≡ Some (slice_index (get_or retired j []) l)) T id t (λ l lt _. absurd (omega (arith, low))) (λ j ne. h.retired j);
          collected = λ l v e. each_at (λ j u. j ≡ R → word u.words l ≡ Some v) T id t (λ s. absurd (uncollected l v e s)) (λ j ne s. subst (λ (j : ℕ). word (T j).words l ≡ Some v) (sym s) (h.collected l v e)) R refl;
          begun = h.begun;
          complete = h.complete;
          eight = each_at (λ j u. length u.words ≡ 8) T id t (length-set _ _ _ ∙ h.eight id) (λ j ne. h.eight j);
          eight_collected = h.eight_collected;
        }

  -- s5 and s6: the processor collects word k of the packet at the read index
  tied_collecting : (k w : ℕ) → k < 8 → word (T R).words k ≡ Some w → is_some (word (set collected k (Some w)) 0) ≡ true → IsTied size R slot T retired (set collected k (Some w)) raising
  tied_collecting k w lt e first =
      let within : k < length collected = omega (arith, h.eight_collected) in
      record {
        behind = h.behind;
        seen = h.seen;
        room = h.room;
        whole = h.whole;
        valid = h.valid;
        header = h.header;
        cleared = h.cleared;
        live = h.live;
        count = h.count;
        retired = h.retired;
        collected = λ l v. each_word (λ i o. o ≡ Some v → word (T R).words i ≡ Some v) collected k (Some w) within (λ q. e ∙ q) (λ i ne. h.collected i v) l;
        begun = λ l v _. first;
        complete = λ l r hi. each_word (λ i o. i < 8 → is_some o ≡ true) collected k (Some w) within (λ _. refl) (λ i ne b. h.complete i r b) l hi;
        eight = h.eight;
        eight_collected = length-set _ _ _ ∙ h.eight_collected;
      }

  -- s5: a header that shows a packet
  pub tied_header_read : raising ≡ false → is_invalid (slot R 0) ≡ false → IsTied size R slot T retired (set collected 0 (Some (slot R 0))) raising
  tied_header_read still valid_w =
      let within : 0 < length collected = omega (arith, h.eight_collected) in
      let e : is_invalid (slot R 0) ≡ not (is_published (T R)) = h.header R (omega arith) (omega arith) (λ r. absurd (cc)) in
      let p : is_published (T R) ≡ true = grind arith in
      let u = some_of (word (T R).words 0) p in
      let s : slot R 0 ≡ u.0 = h.live R 0 u.0 (omega arith) u.1 (λ r. absurd (cc)) in
      tied_collecting 0 (slot R 0) (omega arith) (u.1 ∙ ap Some (sym s)) (ap is_some (get_or-set_same collected 0 (Some (slot R 0)) None within))

  -- s6: a body word of a packet that was shown
  pub tied_body_read : (k : ℕ) → is_body k ≡ true → is_some (word collected 0) ≡ true → IsTied size R slot T retired (set collected k (Some (slot R k))) raising
  tied_body_read k body shown =
      let lo : 1 ≤ k = (body_place k body).0 in
      let hi : k < 8 = (body_place k body).1 in
      let zk : 0 ≢ k = omega arith in
      let kz : k ≢ 0 = omega arith in
      let c = some_of (word collected 0) shown in
      let u = some_of (word (T R).words k) (h.whole R k (collected_published 0 c.0 c.1) hi) in
      let s : slot R k ≡ u.0 = h.live R k u.0 (omega arith) u.1 (λ _ _. kz) in
      tied_collecting k (slot R k) hi (u.1 ∙ ap Some (sym s)) (ap is_some (get_or-set_other collected k 0 (Some (slot R k)) None zk) ∙ shown)

  -- s7: the processor clears the header at the read index
  pub tied_clearing : (slot' : ℕ → ℕ → ℕ) → has_body collected ≡ true → slot' R 0 ≡ 1 → ((j l : ℕ) → l < 8 → (j % size ≡ R % size → l ≢ 0) → slot' j l ≡ slot j l) → raising ≡ false → IsTied size R slot' T retired collected true
  tied_clearing slot' body hit miss still =
      record {
        behind = h.behind;
        seen = h.seen;
        room = h.room;
        whole = h.whole;
        valid = h.valid;
        header = λ j a b x. ap is_invalid (miss j 0 (omega arith) (λ m _. x refl (near size j R pos m b (omega arith)))) ∙ h.header j a b (λ r. absurd (cc));
        cleared = λ _. hit;
        live = λ j l v a e x. miss j l (known_place (T j).words l v (h.eight j) e) (λ m. x refl (near size j R pos m (written_room j l v e) (omega arith))) ∙ h.live j l v a e (λ r. absurd (cc));
        count = h.count;
        retired = h.retired;
        collected = h.collected;
        begun = h.begun;
        complete = λ k _ lt.
            elim (eqb_tells k 0) [
              | inl g ↦
                  let u = some_of (word collected 1) (body_known collected 1 h.eight_collected body (omega arith) (omega arith)) in
                  subst (λ (i : ℕ). is_some (word collected i) ≡ true) (sym g.1) (h.begun 1 u.0 u.1)
              | inr g ↦ let lo : 1 ≤ k = omega (arith, g.1) in body_known collected k h.eight_collected body lo lt
            ];
        eight = h.eight;
        eight_collected = h.eight_collected;
      }

  -- s8: the processor raises the read index
  pub tied_raising : raising ≡ true → ((j k : ℕ) → slot (j + size) k ≡ slot j k) → IsTied size (R + 1) slot T (retired ++ packet_of collected ∷ []) no_words false
  tied_raising stands round =
      record {
        behind = λ j lt.
            elim (eqb_tells j R) [
              | inl g ↦ let u = some_of (word collected 0) (h.complete 0 stands (omega arith)) in subst (λ (i : ℕ). is_published (T i) ≡ true) (sym g.1) (collected_published 0 u.0 u.1)
              | inr g ↦ h.behind j (omega (arith, g.1))
            ];
        seen = λ j r e. let le : r ≤ R = h.seen j r e in omega arith;
        room = h.room;
        whole = h.whole;
        valid = h.valid;
        header = λ j a b _.
            elim (leb_tells (R + size) j) [
              | inr g ↦ h.header j (omega arith) g.1 (λ _ s. omega arith)
              | inl g ↦
                  let s : j ≡ R + size = omega (arith, g.1) in
                  let one : slot j 0 ≡ 1 = ap (λ i. slot i 0) s ∙ round R 0 ∙ h.cleared stands in
                  let out : is_published (T j) ≡ false = unpublished j (omega (arith, g.1)) in
                  ap is_invalid one ∙ sym (ap not out)
            ];
        cleared = λ r. absurd (cc);
        live = λ j l v a e x. h.live j l v (omega arith) e (λ _ s. absurd (omega arith));
        count = length_push retired (packet_of collected) ∙ ap (λ n. n + 1) h.count;
        retired = λ j k lt hi.
            elim (eqb_tells j R) [
              | inl g ↦
                  let c = some_of (word collected k) (h.complete k stands hi) in
                  let e : word (T R).words k ≡ Some c.0 = h.collected k c.0 c.1 in
                  let within : k < length collected = omega (arith, h.eight_collected) in
                  let m : slice_index (packet_of collected) k ≡ c.0 = get_or-map (λ w. unwrap_or w 0) collected k None 0 within ∙ ap (λ o. unwrap_or o 0) c.1 in
                  let n : get_or (retired ++ packet_of collected ∷ []) R [] ≡ packet_of collected = get_or_push retired (packet_of collected) [] R h.count in
                  subst (λ (i : ℕ). word (T i).words k ≡ Some (slice_index (get_or (retired ++ packet_of collected ∷ []) i []) k)) (sym g.1) (e ∙ ap Some (sym (ap (λ p. slice_index p k) n ∙ m)))
              | inr g ↦
                  let less : j < R = omega (arith, g.1) in
                  let inside : j < length retired = omega (arith, h.count) in
                  h.retired j k less hi ∙ ap (λ p. Some (slice_index p k)) (sym (get_or_append_left retired (packet_of collected ∷ []) [] j inside))
            ];
        collected = λ k w e. absurd (nothing_known k w e);
        begun = λ k w e. absurd (nothing_known k w e);
        complete = λ k r lt. absurd (cc);
        eight = h.eight;
        eight_collected = refl;
      }
    where
      unpublished : (j : ℕ) → R + size ≤ j → is_published (T j) ≡ false
      unpublished j le =
          elim (is_published (T j)) as (λ b. is_published (T j) ≡ b → is_published (T j) ≡ false) [
            | true ↦ λ e. let u = some_of (word (T j).words 0) e in absurd (omega (arith, written_room j 0 u.0 u.1))
            | false ↦ λ e. e
          ] refl

      nothing_known : (k w : ℕ) → word no_words k ≡ Some w → ⊥
      nothing_known k w e = let n : word no_words k ≡ None = no_word k in cc
