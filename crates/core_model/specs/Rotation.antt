-- How a history is parted, by a rotation, and how parts are joined.
use Rattle.std.specs.Prelude.{◌≡◌, ◌+◌, ℕ, Bool, true, false, nat_lt, List, [], ◌∷◌, length, Result, Ok, Err}
use Rattle.std.specs.List.{flat_map}
use Rattle.policy.specs.Policy.{region_lengths}
use Rattle.regions.specs.Memory.{lengths_of}
use Rattle.core_model.specs.Limits.{most_before}
use Rattle.core_model.specs.declared.entry.Entry.{Entry}
use Rattle.core_model.specs.declared.part.JoinFault.{JoinFault}
use Rattle.core_model.specs.declared.part.JoinFault.TheVariants as fault
use Rattle.core_model.specs.declared.part.NotJoined.{NotJoined}
use Rattle.core_model.specs.declared.refusal.Refusal.{Refusal}
use Rattle.core_model.specs.declared.refusal.Refusal.TheVariants as refusal
use Rattle.core_model.specs.History.{History, Origin, Part, begin, beginning}
use Rattle.core_model.specs.States.{state_after}
use Rattle.core_model.specs.Legal.{IsFollowedBy, SameOrigin, joined}

-- ---- rotations

-- whether more entries would lie before a history's next start than may (own)
abbrev pub lies_too_far : History → Bool
lies_too_far history = nat_lt most_before (history.origin.before + length history.entries)

-- a history was rotated: the part is what it began from, its entries, and what follows from both, in regions as long and under the
-- policy that was declared; the new one begins from the same as that part ends in, with no entry, and with places for as many (own)
pub record IsRotated (old : History) (part : Part) (new : History) : Type 0 where
  pub start_is : part.start ≡ old.origin
  pub entries_are : part.entries ≡ old.entries
  pub end_is : begin old.kernels part.end ≡ state_after (beginning old) old.entries
  pub lengths : lengths_of part.end.memory ≡ region_lengths old.origin.policy
  pub declared : (part.end.policy ≡ old.origin.policy) × (new.origin.policy ≡ old.origin.policy)
  pub goes_on : SameOrigin new.origin part.end
  pub kernels_are : new.kernels ≡ old.kernels
  pub capacity_is : new.capacity ≡ old.capacity
  pub empty : new.entries ≡ []

-- what a rotation is answered: a part; or that memory was wanted; or, just where too many entries would lie before the new start, that the
-- audit is full; refused it leaves all as before (own)
abbrev pub Rotates : History → Result Part Refusal → History → Type 0
Rotates old (Ok part) new = (lies_too_far old ≡ false) × IsRotated old part new
Rotates old (Err refusal.OutOfMemory) new = (lies_too_far old ≡ false) × (new ≡ old)
Rotates old (Err refusal.AuditFull) new = (lies_too_far old ≡ true) × (new ≡ old)
Rotates old (Err _) new = ⊥

-- what emptying an audit is answered whose entries were written down elsewhere: it is a rotation with its part dropped. It takes no
-- memory, so none can be wanted (own)
abbrev pub Truncates : History → Result (Unit {0}) Refusal → History → Type 0
Truncates old (Ok done) new = (part : Part) × Rotates old (Ok part) new
Truncates old (Err refusal.AuditFull) new = Rotates old (Err refusal.AuditFull) new
Truncates old (Err _) new = ⊥

-- ---- joins

-- a refusal's number (own)
abbrev pub number_of_fault : JoinFault → ℕ
number_of_fault fault.OutOfMemory = 0
number_of_fault fault.NotNext = 1

-- why two parts can't be joined: just where the second doesn't begin from what the first ends in, it isn't next (own)
abbrev pub IsUnjoinedFor : JoinFault → Part → Part → Type 0
IsUnjoinedFor fault.OutOfMemory first second = IsFollowedBy first second
IsUnjoinedFor fault.NotNext first second = IsFollowedBy first second → ⊥

-- what joining two parts comes to: both in one, or the two as they were (own)
abbrev pub Joins : Part → Part → Result Part NotJoined → Type 0
Joins first second (Ok both) = IsFollowedBy first second × (both ≡ joined first second)
Joins first second (Err refused) = IsUnjoinedFor refused.why first second × (refused.first ≡ first) × (refused.second ≡ second)

-- ---- all parts that were handed out

-- their entries, in order (own)
abbrev pub entries_in : List Part → List Entry
entries_in parts = flat_map (λ part. part.entries) parts

-- what the first of them begins from; without parts, what a history does (own)
abbrev pub first_start : List Part → Origin → Origin
first_start [] start = start
first_start (part ∷ parts) start = part.start

-- from where something ends go on the parts, each from where the one before it ends, and then what a history begins from (own)
abbrev pub GoOn : Origin → List Part → Origin → Type 0
GoOn end [] start = SameOrigin start end
GoOn end (part ∷ parts) start = SameOrigin part.start end × GoOn part.end parts start

-- parts lead to where a history begins: no entry came before the first of them, and from there they go on; without parts, no entry
-- came before the history (own)
abbrev pub LeadTo : List Part → Origin → Type 0
LeadTo [] start = start.before ≡ 0
LeadTo (part ∷ parts) start = (part.start.before ≡ 0) × GoOn part.end parts start
