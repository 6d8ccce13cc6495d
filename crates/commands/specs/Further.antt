-- The further policies of a run, which its script may hand in (own).
use Rattle.std.specs.Prelude.{ℕ, ◌≡◌, List, [], ◌∷◌, ◌++◌, Result, Ok, Err, ⊤}
use Rattle.policy.specs.Format.{Declares, HasFault}
use Rattle.policy.specs.Policy.{Declared}
use Rattle.policy.specs.declared.fault.PolicyFault.{PolicyFault}
use Rattle.policy.specs.declared.fault.ReadPolicyError.{ReadPolicyError}
use Rattle.policy.specs.declared.fault.ReadPolicyError.TheVariants.{OutOfMemory, Fault}

-- each text declares a policy: these, in the order of the texts
abbrev pub DeclareEach : List (List ℕ) → List Declared → Type 0
DeclareEach [] [] = ⊤
DeclareEach [] (policy ∷ policies) = ⊥
DeclareEach (text ∷ texts) [] = ⊥
DeclareEach (text ∷ texts) (policy ∷ policies) = Declares text policy × DeclareEach texts policies

-- the fault is that of the first text that has one: each before it declares a policy
pub record IsFirstFault (texts : List (List ℕ)) (fault : PolicyFault) : Type 0 where
  pub before : List (List ℕ)
  pub text : List ℕ
  pub after : List (List ℕ)
  pub policies : List Declared
  pub split : texts ≡ before ++ text ∷ after
  pub declare : DeclareEach before policies
  pub refused : HasFault text fault

-- memory was wanted for a text: each before it declares a policy
pub record IsWantedFor (texts : List (List ℕ)) : Type 0 where
  pub before : List (List ℕ)
  pub text : List ℕ
  pub after : List (List ℕ)
  pub policies : List Declared
  pub split : texts ≡ before ++ text ∷ after
  pub declare : DeclareEach before policies

-- why texts aren't read: the first fault, or memory was wanted for one
abbrev pub AreUnread : List (List ℕ) → ReadPolicyError → Type 0
AreUnread texts OutOfMemory = IsWantedFor texts
AreUnread texts (Fault fault) = IsFirstFault texts fault

-- what the reading of texts comes to: what each declares, or why they aren't read
abbrev pub ReadsEach : List (List ℕ) → Result (List Declared) ReadPolicyError → Type 0
ReadsEach texts (Ok policies) = DeclareEach texts policies
ReadsEach texts (Err why) = AreUnread texts why
