use Rattle.std.proofs.Common.{◌≡◌, length, refl, rules}
use Rattle.aql_packet.proofs.WritingLemmas.{after}
use Rattle.aql_packet.proofs.LaidLemmas.{barrier_puts, barrier_is_laid}
use Rattle.aql_packet.proofs.writing.barrier_bytes.Goals as goal

pub returns : goal.returns
returns c =
    let count : length c.args.packet.now.dependencies ≡ 5 = search rules in
    let bytes : c.put_u64-6.new.bytes ≡ after (barrier_puts c.header_number.result c.args.packet.now) =
    rw (c.put_u64-6.ensures.value, c.put_u64-5.ensures.value, c.put_u64-4.ensures.value, c.put_u64-3.ensures.value, c.put_u64-2.ensures.value, c.put_u64.ensures.value, c.put_u16.ensures.value) refl in
    rw bytes (barrier_is_laid c.header_number.result c.args.kind c.args.packet.now (c.put_u64-6.ensures.fits, (c.put_u64-5.ensures.fits, (c.put_u64-4.ensures.fits, (c.put_u64-3.ensures.fits, (c.put_u64-2.ensures.fits, (c.put_u64.ensures.fits, (c.put_u16.ensures.fits, tt))))))) c.header_number.ensures count)
