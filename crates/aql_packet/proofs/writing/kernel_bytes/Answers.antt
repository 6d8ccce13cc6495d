use Rattle.std.proofs.Common.{◌≡◌, refl}
use Rattle.aql_packet.proofs.WritingLemmas.{after}
use Rattle.aql_packet.proofs.LaidLemmas.{kernel_puts, kernel_is_laid}
use Rattle.aql_packet.proofs.writing.kernel_bytes.Goals as goal

pub returns : goal.returns
returns c =
    let bytes : c.put_u64-3.new.bytes ≡ after (kernel_puts c.header_number.result c.args.packet.now) =
    rw (c.put_u64-3.ensures.value, c.put_u64-2.ensures.value, c.put_u64.ensures.value, c.put_u32-5.ensures.value, c.put_u32-4.ensures.value, c.put_u32-3.ensures.value, c.put_u32-2.ensures.value, c.put_u32.ensures.value, c.put_u16-5.ensures.value, c.put_u16-4.ensures.value, c.put_u16-3.ensures.value, c.put_u16-2.ensures.value, c.put_u16.ensures.value, c.from.ensures) refl in
    rw bytes (kernel_is_laid c.header_number.result c.args.packet.now (c.put_u64-3.ensures.fits, (c.put_u64-2.ensures.fits, (c.put_u64.ensures.fits, (c.put_u32-5.ensures.fits, (c.put_u32-4.ensures.fits, (c.put_u32-3.ensures.fits, (c.put_u32-2.ensures.fits, (c.put_u32.ensures.fits, (c.put_u16-5.ensures.fits, (c.put_u16-4.ensures.fits, (c.put_u16-3.ensures.fits, (rw c.from.ensures at c.put_u16-2.ensures.fits, (c.put_u16.ensures.fits, tt))))))))))))) c.header_number.ensures c.requires)
