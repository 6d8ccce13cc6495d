use Rattle.std.proofs.Common.{◌≡◌, ◌-◌, Some, None, refl, sym, ap, ◌∙◌, arith}
use Rattle.packed_journal.specs.Words.{number_in, with_low, seen}
use Rattle.packed_journal.proofs.Written.{read_none, read_end, read_last, read_more}
use Rattle.packed_journal.proofs.numbers.+number_in.Goals as goal

pub returns-then-more-eq0 : goal.returns-then-more-eq0
returns-then-more-eq0 t c = sym (read_none c.args.more c.args.bytes.now c.if-more-eq0.true)

pub returns-in_err-low : goal.returns-in_err-low
returns-in_err-low t c =
    ap seen c.from_residual.ensures ∙ sym (read_end c.args.more c.args.bytes.now (sym c.byte_at.ensures ∙ ap seen c.in_err-low.was))

pub returns-then-low-lt128 : goal.returns-then-low-lt128
returns-then-low-lt128 t c =
    sym (read_last c.args.more c.in_ok-low.low c.args.bytes.now c.in_ok-low.rest.now (omega arith) (sym c.byte_at.ensures ∙ ap seen c.in_ok-low.was)
    (omega arith))

pub returns-in_err-high : goal.returns-in_err-high
returns-in_err-high t c =
    let none : number_in (c.args.more - 1) c.in_ok-low.rest.now ≡ None = sym c.number_in.ensures ∙ ap seen c.in_err-high.was in
    ap seen c.from_residual-in_err-high.ensures
    ∙ sym (read_more c.args.more c.in_ok-low.low c.args.bytes.now c.in_ok-low.rest.now (omega arith) (sym c.byte_at.ensures ∙ ap seen c.in_ok-low.was)
    (omega arith) ∙ rw none refl)

pub returns-in_err-with_low : goal.returns-in_err-with_low
returns-in_err-with_low t c =
    let some : number_in (c.args.more - 1) c.in_ok-low.rest.now ≡ Some (c.in_ok-high.high, c.in_ok-high.rest.now) = sym c.number_in.ensures ∙ ap seen c.in_ok-high.was in
    let none : with_low c.in_ok-low.low c.in_ok-high.high ≡ None = sym c.with_low.ensures ∙ c.in_err-with_low.was in
    ap seen c.from_residual-in_err-with_low.ensures
    ∙ sym (read_more c.args.more c.in_ok-low.low c.args.bytes.now c.in_ok-low.rest.now (omega arith) (sym c.byte_at.ensures ∙ ap seen c.in_ok-low.was)
    (omega arith) ∙ rw some (rw none refl))

pub returns : goal.returns
returns t c =
    let some : number_in (c.args.more - 1) c.in_ok-low.rest.now ≡ Some (c.in_ok-high.high, c.in_ok-high.rest.now) = sym c.number_in.ensures ∙ ap seen c.in_ok-high.was in
    let whole : with_low c.in_ok-low.low c.in_ok-high.high ≡ Some c.in_ok-with_low.field-0 = sym c.with_low.ensures ∙ c.in_ok-with_low.was in
    sym (read_more c.args.more c.in_ok-low.low c.args.bytes.now c.in_ok-low.rest.now (omega arith) (sym c.byte_at.ensures ∙ ap seen c.in_ok-low.was)
    (omega arith) ∙ rw some (rw whole refl))
