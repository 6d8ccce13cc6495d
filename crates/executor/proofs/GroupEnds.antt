-- What a group came to by its turns is what it comes to.
use Rattle.std.proofs.Common.{◌≡◌, ℕ, ◌*◌, ◌≤◌, List, arith, sym, ap, ◌∙◌, subst}
use Rattle.std.proofs.Math.Nat.{min-le_left, mul-le-mul_left, mul-le-mul_right}
use Rattle.executor.specs.Group.{Status, done, faulted, Leads, beginning}
use Rattle.executor.specs.Items.{Contents, Surroundings, blank}
use Rattle.executor.specs.Locations.{count_of}
use Rattle.executor.specs.Results.{FinishesAs, FailsAs, IsOver, after_turns, group_result, most_turns, result_at, wrote}
use Rattle.executor.specs.Runs.{Fails, GroupInput, begun, location_of, surroundings_of}
use Rattle.executor.specs.Told.{runs_of}
use Rattle.executor.specs.Written.{AreRuns}
use Rattle.executor.specs.declared.fault.RunFault.{RunFault}
use Rattle.executor.specs.declared.fault.RunFault.TheVariants as fault
use Rattle.executor.specs.declared.location.Location.{Location}
use Rattle.executor.specs.declared.written_range.WrittenRange.{WrittenRange}
use Rattle.executor.proofs.TurnLemmas.{ends_within, one_end}

module _ (i : GroupInput) (location : Location) (count : ℕ) (first : Contents) (location_is : location ≡ location_of i.group_size i.grid_size i.group)
    (count_is : count ≡ count_of location.current_size) (few : count ≤ 1024) (first_is : first ≡ blank i.group_segment_size) where
  abbrev own : Surroundings
  own = record { arguments = i.arguments; view = i.view; location = location }

  all : count ≡ count_of (surroundings_of i).location.current_size
  all = count_is ∙ ap (λ (l : Location). count_of l.current_size) location_is

  leads_begun : (to : Status) → Leads own i.program (beginning count first) to → Leads (surroundings_of i) i.program (begun i) to
  leads_begun to leads =
      let start : beginning count first ≡ begun i = λ j. beginning (all j) (first_is j) in
      subst (λ (from : Status). Leads (surroundings_of i) i.program from to) start
      (subst (λ (l : Location). Leads (record { arguments = i.arguments; view = i.view; location = l }) i.program (beginning count first) to) location_is leads)

  comes_to : (to : Status) → IsOver to → Leads own i.program (beginning count first) to → group_result i ≡ result_at to
  unfolding group_result
  comes_to to over leads =
      ap result_at (one_end (surroundings_of i) i.program (count_of (surroundings_of i).location.current_size) (blank i.group_segment_size) to (subst (λ n. n ≤ 1024) all few) over (leads_begun to leads))

  pub finished : (m : Contents) (runs : List WrittenRange) → Leads own i.program (beginning count first) (done m) → AreRuns m.written runs → runs ≡ runs_of m.written → FinishesAs i runs
  finished m runs leads are value = ((m, (leads_begun (done m) leads, are)), comes_to (done m) tt leads ∙ ap wrote (sym value))

  pub failed_as : (e : RunFault) → Fails own i.program (beginning count first) e → FailsAs i e
  failed_as fault.OutOfMemory fails = tt
  failed_as (fault.Fault f) fails = (leads_begun (faulted f) fails, comes_to (faulted f) tt fails)

-- no more of a product than of the product of what its factors are at the most
pub product_le : (a b c x y z : ℕ) → a ≤ x → b ≤ y → c ≤ z → a * b * c ≤ x * y * z
product_le a b c x y z p q r =
    let first : a * b ≤ x * b = mul-le-mul_right b p in
    let second : x * b ≤ x * y = mul-le-mul_left x q in
    let third : a * b * c ≤ x * y * c = mul-le-mul_right c (omega (arith, first, second)) in
    let fourth : x * y * c ≤ x * y * z = mul-le-mul_left (x * y) r in
    omega (arith, third, fourth)

-- a group of which whole ones have no more items than may be ends after the most turns
pub comes_to_an_end : (i : GroupInput) → count_of i.group_size ≤ 1024
    → IsOver (after_turns (surroundings_of i) i.program most_turns (begun i))
comes_to_an_end i few =
    let size = i.group_size in
    let now = (location_of size i.grid_size i.group).current_size in
    let fewer : count_of now ≤ count_of size =
    product_le now.x now.y now.z size.x size.y size.z (min-le_left _ _) (min-le_left _ _) (min-le_left _ _) in
    ends_within (surroundings_of i) i.program (count_of now) (blank i.group_segment_size) (omega arith)
