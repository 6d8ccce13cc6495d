use Rattle.std.proofs.Common.{◌∙◌, sym}
use Rattle.policy.specs.Format.{is_part_of}
use Rattle.policy.proofs.ValueLemmas.{only_seen}
use Rattle.policy.proofs.read.file.has_only_parts.Goals as goal

pub returns : goal.returns
returns c = c.all_known.ensures ∙ sym (only_seen (is_part_of c.args.version) c.args.file.now.entries)
