-- Texts that are read one by one.
use Rattle.std.proofs.Common.{◌≡◌, ℕ, ◌+◌, ◌<◌, List, [], ◌∷◌, ◌++◌, length, get_or, take, drop, sym, ap, ◌∙◌}
use Rattle.std.proofs.lemmas.List.{drop_more, take-append-drop, take_more}
use Rattle.policy.specs.Format.{Declares, IsRefused}
use Rattle.policy.specs.Policy.{Declared}
use Rattle.policy.specs.declared.fault.ReadPolicyError.{ReadPolicyError}
use Rattle.policy.specs.declared.fault.ReadPolicyError.TheVariants.{OutOfMemory, Fault}
use Rattle.commands.specs.Further.{AreUnread, DeclareEach, IsWantedFor}

-- one text more, with what it declares
declare-more : (texts : List (List ℕ)) (policies : List Declared) (text : List ℕ) (policy : Declared) → DeclareEach texts policies → Declares text policy
    → DeclareEach (texts ++ text ∷ []) (policies ++ policy ∷ [])
declare-more [] [] text policy each declares = (declares, tt)
declare-more [] (p ∷ policies) text policy each declares = absurd each
declare-more (t ∷ texts) [] text policy each declares = absurd each
declare-more (t ∷ texts) (p ∷ policies) text policy each declares = (each.0, declare-more texts policies text policy each.1 declares)

-- the next text declares this
pub declare-next : (texts : List (List ℕ)) (i : ℕ) (d : List ℕ) (policies : List Declared) (policy : Declared) → i < length texts
    → DeclareEach (take i texts) policies → Declares (get_or texts i d) policy → DeclareEach (take (i + 1) texts) (policies ++ policy ∷ [])
declare-next texts i d policies policy below each declares =
    rw (take_more texts i d below) (declare-more (take i texts) policies (get_or texts i d) policy each declares)

-- memory is wanted for the next text
pub wanted-next : (texts : List (List ℕ)) (i : ℕ) (d : List ℕ) (policies : List Declared) → i < length texts → DeclareEach (take i texts) policies → IsWantedFor texts
wanted-next texts i d policies below each = record {
  before = take i texts;
  text = get_or texts i d;
  after = drop (i + 1) texts;
  policies = policies;
  split = sym (take-append-drop i texts) ∙ ap (λ rest. take i texts ++ rest) (drop_more texts i d below);
  declare = each;
}

-- the next text isn't read
pub unread-next : (texts : List (List ℕ)) (i : ℕ) (d : List ℕ) (policies : List Declared) (why : ReadPolicyError) → i < length texts
    → DeclareEach (take i texts) policies → IsRefused (get_or texts i d) why → AreUnread texts why
unread-next texts i d policies OutOfMemory below each refused = wanted-next texts i d policies below each
unread-next texts i d policies (Fault fault) below each refused = record {
  before = take i texts;
  text = get_or texts i d;
  after = drop (i + 1) texts;
  policies = policies;
  split = sym (take-append-drop i texts) ∙ ap (λ rest. take i texts ++ rest) (drop_more texts i d below);
  declare = each;
  refused = refused;
}
