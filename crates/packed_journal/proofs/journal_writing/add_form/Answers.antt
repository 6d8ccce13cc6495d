use Rattle.std.proofs.Common.{arith, length-drop}
use Rattle.packed_journal.proofs.journal_writing.add_form.Goals as goal

pub returns-then-filled-lt65536-clause-few : goal.returns-then-filled-lt65536-clause-few
returns-then-filled-lt65536-clause-few c =
    omega (arith, c.add.ensures.filled, length-drop c.args.before c.deref.result.now, c.deref.ensures.len, c.len.ensures, c.if-filled-lt65536.true)
