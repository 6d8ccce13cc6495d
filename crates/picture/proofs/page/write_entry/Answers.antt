-- The element is the entry's.
use Rattle.picture.specs.Pages.{text_of_entry}
use Rattle.picture.proofs.page.write_entry.Goals as goal

pub returns : goal.returns
unfolding text_of_entry
returns c = rw c.element_of-element.ensures at c.write_drawn.ensures
