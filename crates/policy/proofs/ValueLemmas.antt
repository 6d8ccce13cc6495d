-- The values of a policy file's keys, seen in the tree and in memory.
use Rattle.std.proofs.Common.{◌≡◌, ℕ, ◌<◌, ◌≤◌, nat_le, length, Bool, true, false, ◌||◌, List, [], ◌∷◌, map, codes, String, Global, string_bytes, Some, None, option_map, Ok, Err, refl, sym, ap, ◌∙◌, arith}
use Rattle.std.specs.List.{list_any, list_all}
use Rattle.std.specs.Map.{keys_of}
use Rattle.std.proofs.lemmas.List.Folds.{list_all-map}
use Rattle.toml.specs.Data.{Data, as_array}
use Rattle.toml.specs.View.{view, items_of, items_view, members_view}
use Rattle.toml.specs.declared.value.Value.{Value}
use Rattle.policy.specs.declared.object.Kind.{Kind}
use Rattle.policy.specs.declared.rights.Rights.{Rights}
use Rattle.policy.specs.declared.fault.PolicyCause.TheVariants.{BadValue, TooMany}
use Rattle.policy.specs.declared.fault.PolicyFault.{PolicyFault}
use Rattle.policy.specs.declared.fault.Section.{Section}
use Rattle.policy.specs.Reading.{fault_of_array}
use Rattle.std.proofs.lemmas.Bool.Decides.{nat_tests}
use Rattle.std.proofs.lemmas.List.{length-map}
use Rattle.policy.specs.Rights.{rights_that, by_right}
use Rattle.policy.specs.Format.{keys_in, is_table, tables_in, elements, items_in, is_text, dispatches_in, names_right, rights_in}

pub list_any-map : {X Y : Type 0} (p : X → Bool) (h : Y → X) (ys : List Y) → list_any p (map h ys) ≡ list_any (λ y. p (h y)) ys
list_any-map p h [] = refl
list_any-map p h (y ∷ ys) = ap (λ b. p (h y) || b) (list_any-map p h ys)

pub elements-items_of : (ds : List Data) → elements (items_of ds) ≡ ds
elements-items_of [] = refl
elements-items_of (d ∷ ds) = ap (λ rest. d ∷ rest) (elements-items_of ds)

-- the keys of a table
pub keys_seen : (es : List (String Global × Value)) → keys_in (members_view es) ≡ map string_bytes (keys_of es)
keys_seen [] = refl
keys_seen (e ∷ es) = ap (λ rest. string_bytes e.0 ∷ rest) (keys_seen es)

-- a table has no key but these
pub only_seen : (known : List ℕ → Bool) (es : List (String Global × Value)) → list_all known (keys_in (members_view es)) ≡ list_all (λ k. known (string_bytes k)) (keys_of es)
only_seen known es = ap (list_all known) (keys_seen es) ∙ list_all-map known string_bytes (keys_of es)

-- the elements of the array that a value is
pub items_seen : (d : Data) (vs : List Value) → Some (items_view vs) ≡ as_array d → Some (map view vs) ≡ items_in d
items_seen d vs h = ap (λ x. Some x) (sym (elements-items_of (map view vs))) ∙ ap (option_map elements) h

module _ (vs : List Value) where
  pub no_dispatches : list_all (λ v. is_text (codes "kernel") (view v) || is_text (codes "agent") (view v)) vs ≡ false → None ≡ dispatches_in (map view vs)
  no_dispatches h = rw (list_all-map (λ d. is_text (codes "kernel") d || is_text (codes "agent") d) view vs, h)

  pub dispatches_seen : (kernel agent : Bool) → list_all (λ v. is_text (codes "kernel") (view v) || is_text (codes "agent") (view v)) vs ≡ true
      → kernel ≡ list_any (λ v. is_text (codes "kernel") (view v)) vs → agent ≡ list_any (λ v. is_text (codes "agent") (view v)) vs
      → Some (record { kernel = kernel; agent = agent }) ≡ dispatches_in (map view vs)
  dispatches_seen kernel agent h k a =
      rw (list_all-map (λ d. is_text (codes "kernel") d || is_text (codes "agent") d) view vs, h, list_any-map (is_text (codes "kernel")) view vs, list_any-map (is_text (codes "agent")) view vs, k, a)

  pub no_rights : (on : Kind) → list_all (λ v. names_right on (view v)) vs ≡ false → None ≡ rights_in on (map view vs)
  no_rights on h = rw (list_all-map (names_right on) view vs, h)

  pub rights_seen : (on : Kind) (rights : Rights) (a b c d e f : Bool) → list_all (λ v. names_right on (view v)) vs ≡ true
      → a ≡ list_any (λ v. is_text (codes "USE") (view v)) vs → b ≡ list_any (λ v. is_text (codes "READ") (view v)) vs
      → c ≡ list_any (λ v. is_text (codes "WRITE") (view v)) vs → d ≡ list_any (λ v. is_text (codes "WAIT") (view v)) vs
      → e ≡ list_any (λ v. is_text (codes "CHANGE") (view v)) vs → f ≡ list_any (λ v. is_text (codes "LAUNCH") (view v)) vs
      → rights ≡ rights_that (by_right a b c d e f) → Some rights ≡ rights_in on (map view vs)
  rights_seen on rights a b c d e f h ha hb hc hd he hf hr =
      rw (
        list_all-map (names_right on) view vs,
        h,
        hr,
        ha,
        hb,
        hc,
        hd,
        he,
        hf,
        list_any-map (is_text (codes "USE")) view vs,
        list_any-map (is_text (codes "READ")) view vs,
        list_any-map (is_text (codes "WRITE")) view vs,
        list_any-map (is_text (codes "WAIT")) view vs,
        list_any-map (is_text (codes "CHANGE")) view vs,
        list_any-map (is_text (codes "LAUNCH")) view vs,
      )

module _ (section : Section) (limit : ℕ) (vs : List Value) where
  pub no_tables : (f : PolicyFault) → list_all (λ v. is_table (view v)) vs ≡ false → f ≡ fault_of_array section BadValue → Err f ≡ tables_in section limit (Some (map view vs))
  no_tables f h e = rw (list_all-map is_table view vs, h, e)

  pub too_many : (f : PolicyFault) → list_all (λ v. is_table (view v)) vs ≡ true → limit < length vs → f ≡ fault_of_array section TooMany → Err f ≡ tables_in section limit (Some (map view vs))
  too_many f h l e = let past : nat_le (length vs) limit ≡ false = grind (arith, nat_tests) in rw (list_all-map is_table view vs, h, length-map vs view, past, e)

  pub all_tables : list_all (λ v. is_table (view v)) vs ≡ true → length vs ≤ limit → Ok (map view vs) ≡ tables_in section limit (Some (map view vs))
  all_tables h l = let within : nat_le (length vs) limit ≡ true = grind (arith, nat_tests) in rw (list_all-map is_table view vs, h, length-map vs view, within)
