-- What holds of a state holds of the one after a call, whether that is made or not.
use Rattle.std.proofs.Common.{◌≡◌, Bool, true, false, refl}
use Rattle.std.specs.Prelude.{if◌then◌else◌}
use Rattle.session.specs.declared.judging.Verdict.{Verdict}
use Rattle.session.specs.declared.judging.Verdict.TheVariants.{NoRoom}
use Rattle.session.specs.Judging.{is_make}
use Rattle.session.specs.Tables.{State, Outcome, refused, made, where_made, where_room}

either : (P : State → Type 0) (test : Bool) (done left : Outcome) → P left.after → (test ≡ true → P done.after) → P (if test then done else left).after
either P true done left before then_ = then_ refl
either P false done left before then_ = before

pub where_made_keeps : (P : State → Type 0) (verdict : Verdict) (s : State) (done : Outcome) → P s → (is_make verdict ≡ true → P done.after) → P (where_made verdict s done).after
where_made_keeps P verdict s done before then_ = either P (is_make verdict) done (refused verdict s) before then_

pub where_room_keeps : (P : State → Type 0) (has_room : Bool) (s done : State) → P s → P done → P (where_room has_room s done).after
where_room_keeps P has_room s done before then_ = either P has_room (made done) (refused NoRoom s) before (λ h. then_)

pub if_keeps : (P : State → Type 0) (test : Bool) (done left : Outcome) → P left.after → (test ≡ true → P done.after) → P (if test then done else left).after
if_keeps = either
