-- What is drawn of a world (own).
use Rattle.std.specs.Prelude.{ℕ, List}
use Rattle.picture.specs.declared.element.Span.{Span}
use Rattle.picture.specs.Pages.{text_of_page}
use Rattle.world.specs.States.{Joined}

-- the page of what a world's audit tells, of which these entries are asked for
abbrev pub page_of : Joined → Span → List ℕ
page_of world span = text_of_page world.core.origin world.core.entries span
