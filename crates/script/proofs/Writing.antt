-- Bytes that a writer takes piece by piece.
use Rattle.std.proofs.Common.{◌≡◌, ℕ, ◌+◌, ◌≤◌, List, [], ◌++◌, length, take, drop, Option, Some, None, sym, ap, ◌∙◌, subst, append-nil, arith}
use Rattle.std.proofs.Math.Seq.{take-add}
use Rattle.std.proofs.lemmas.List.{take-append-drop, length-drop}
use Rattle.std.specs.Io.KnownBytes.{Appends, Keeps}
use Rattle.script.specs.Streams.{AppendsBeginning, Takes}
use Rattle.std.specs.Prelude.{Result, Ok, Err, OnErr, OnOk}
use Rattle.script.proofs.Appending.{appends_more}

-- a piece more
pub pieces_more : (a b c : Option (List ℕ)) (bytes rest : List ℕ) (taken count : ℕ) → taken ≤ length bytes → Appends a b (take taken bytes) → rest ≡ drop taken bytes →
    Takes b c (Some count) rest → (taken + count ≤ length bytes) × Appends a c (take (taken + count) bytes)
pieces_more a b c bytes rest taken count le so is more = (
  omega (arith, le, more.0, ap length is, length-drop taken bytes),
  subst (λ text. Appends a c text) (ap (λ piece. take taken bytes ++ take count piece) is ∙ sym (take-add taken count bytes))
      (appends_more a b c (take taken bytes) (take count rest) so more.1),
)

-- some pieces are a beginning
pub pieces_begin : (a b : Option (List ℕ)) (bytes : List ℕ) (taken : ℕ) → Appends a b (take taken bytes) → AppendsBeginning a b bytes
pieces_begin a b bytes taken so = record {
  gained = take taken bytes;
  missed = drop taken bytes;
  parts = sym (take-append-drop taken bytes);
  grows = so;
}

pub pieces_stop : (a b c : Option (List ℕ)) (bytes rest : List ℕ) (taken : ℕ) → Appends a b (take taken bytes) → Takes b c None rest → AppendsBeginning a c bytes
pieces_stop a b c bytes rest taken so none =
    pieces_begin a c bytes taken (subst (λ text. Appends a c text) (append-nil (take taken bytes)) (appends_more a b c (take taken bytes) [] so none))

-- all bytes, and no more
pub kept_all : (a b c : Option (List ℕ)) (bytes text : List ℕ) → bytes ≡ text → Appends a b bytes → Keeps b c → Appends a c text
kept_all None b c bytes text e so keeps = tt
kept_all (Some x) None c bytes text e so keeps = absurd so
kept_all (Some x) (Some y) None bytes text e so keeps = absurd keeps
kept_all (Some x) (Some y) (Some z) bytes text e so keeps = keeps ∙ so ∙ ap (λ all. x ++ all) e

pub all_begin : (a b c : Option (List ℕ)) (bytes text : List ℕ) → bytes ≡ text → Appends a b bytes → Keeps b c → AppendsBeginning a c text
all_begin a b c bytes text e so keeps = record {
  gained = text;
  missed = [];
  parts = sym (append-nil text);
  grows = kept_all a b c bytes text e so keeps;
}

-- what holds anyway holds after a success, and after a failure
pub on_ok : {X E : Type 0} {P : Type 0} (result : Result X E) → P → OnOk result P
on_ok (Ok x) p = p
on_ok (Err e) p = tt

pub on_err : {X E : Type 0} {P : Type 0} (result : Result X E) → P → OnErr result P
on_err (Ok x) p = tt
on_err (Err e) p = p
