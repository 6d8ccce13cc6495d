use Rattle.script.proofs.Formed.{formed, read}
use Rattle.script.proofs.laws.law_lines_are_of_forms.Goals as goal

pub returns-clause-formed : goal.returns-clause-formed
returns-clause-formed c = λ policy later name words asked is. formed policy later name words asked is

pub returns-clause-read : goal.returns-clause-read
returns-clause-read c = λ policy later name words is other. read policy later name words is other
