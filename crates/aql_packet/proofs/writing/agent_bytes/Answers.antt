use Rattle.std.proofs.Common.{◌≡◌, length, refl, rules}
use Rattle.aql_packet.proofs.WritingLemmas.{after}
use Rattle.aql_packet.proofs.LaidLemmas.{agent_puts, agent_is_laid}
use Rattle.aql_packet.proofs.writing.agent_bytes.Goals as goal

pub returns : goal.returns
returns c =
    let count : length c.args.packet.now.arguments ≡ 4 = search rules in
    let bytes : c.put_u64-6.new.bytes ≡ after (agent_puts c.header_number.result c.args.packet.now) =
    rw (c.put_u64-6.ensures.value, c.put_u64-5.ensures.value, c.put_u64-4.ensures.value, c.put_u64-3.ensures.value, c.put_u64-2.ensures.value, c.put_u64.ensures.value, c.put_u16-2.ensures.value, c.put_u16.ensures.value) refl in
    rw bytes (agent_is_laid c.header_number.result c.args.packet.now (c.put_u64-6.ensures.fits, (c.put_u64-5.ensures.fits, (c.put_u64-4.ensures.fits, (c.put_u64-3.ensures.fits, (c.put_u64-2.ensures.fits, (c.put_u64.ensures.fits, (c.put_u16-2.ensures.fits, (c.put_u16.ensures.fits, tt)))))))) c.header_number.ensures count)
