-- What the code's memory and an item's context hold, as the meaning has them (own).
use Rattle.std.specs.Prelude.{map}
use Rattle.executor.specs.inner.Pages.{byte_at}
use Rattle.executor.specs.declared.item.ItemContext.{ItemContext}
use Rattle.executor.specs.declared.memory.Memory.{Memory}
use Rattle.executor.specs.Items.{Contents, lent_region, Surroundings}

abbrev pub contents : Memory → Contents
contents m = record { group = m.group.items; written = byte_at m.written }

abbrev pub surroundings : ItemContext → Surroundings
surroundings a = record { arguments = a.arguments.now; view = map lent_region a.view.now; location = a.location }
