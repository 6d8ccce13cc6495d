use Rattle.std.proofs.Common.{◌∙◌, sym}
use Rattle.policy.specs.Format.{is_key_of}
use Rattle.policy.proofs.ValueLemmas.{only_seen}
use Rattle.policy.proofs.read.rows.has_only.Goals as goal

pub returns : goal.returns
returns c = c.all_known.ensures ∙ sym (only_seen (is_key_of c.args.known.now) c.args.row.now.entries)
