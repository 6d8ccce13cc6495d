use Rattle.script.proofs.Joining.{lines_are_lines, lines_give_back}
use Rattle.script.proofs.laws.law_lines_give_their_text_back.Goals as goal

pub returns-clause-back : goal.returns-clause-back
returns-clause-back c = λ text. lines_give_back text

pub returns-clause-lines : goal.returns-clause-lines
returns-clause-lines c = λ text. lines_are_lines text
