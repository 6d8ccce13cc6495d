use Rattle.std.proofs.Common.{◌≡◌, ap, sym, ◌∙◌, ◌/◌, ◌^◌, bit_and, length, rules, arith}
use Rattle.byteorder.specs.Endian.{little_number}
use Rattle.executor.proofs.WordLemmas.{read_none, read_all, rest_at}
use Rattle.executor.proofs.page.Page.read.Goals as goal

pub returns-then-set-eq0 : goal.returns-then-set-eq0
returns-then-set-eq0 c =
    read_none c.args.self.now c.args.place c.args.below.now
    (ap (bit_and (c.args.self.now.mask / 2 ^ c.args.place)) (sym c.ones-all.ensures) ∙ c.if-set-eq0.true)

pub returns-then-set-all : goal.returns-then-set-all
returns-then-set-all c =
    let long : length c.args.self.now.bytes ≡ 64 = search rules in
    c.read.ensures
    ∙ (ap (little_number (length c.args.below.now)) (rest_at c.args.self.now.bytes c.args.place long)
    ∙ read_all c.args.self.now c.args.place c.args.below.now
    (ap (bit_and (c.args.self.now.mask / 2 ^ c.args.place)) (sym c.ones-all.ensures) ∙ (c.if-set-all.true ∙ c.ones-all.ensures))
    (omega arith))
