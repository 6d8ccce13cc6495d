-- What a contract sees of a kernel's source.
use Rattle.std.specs.Prelude.{ℕ, List}

-- a kernel's source: the name of its entry in the module, and the module's text
pub record Source : Type 0 where
  pub entry : List ℕ
  pub text : List ℕ
