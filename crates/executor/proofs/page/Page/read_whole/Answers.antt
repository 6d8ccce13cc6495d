use Rattle.std.proofs.Common.{◌≡◌, ap, sym, ◌∙◌, ◌-◌, ◌/◌, ◌^◌, ◌<◌, bit_and, length, rules, arith}
use Rattle.byteorder.specs.Endian.{little_number}
use Rattle.executor.proofs.WordLemmas.{read_whole, rest_at, set_fits, whole_written}
use Rattle.executor.proofs.page.Page.read_whole.Goals as goal

pub read-requires-clause-room : goal.read-requires-clause-room
read-requires-clause-room c =
    let long : length c.args.self.now.bytes ≡ 64 = search rules in
    let small : c.args.self.now.mask < 2 ^ 64 = search rules in
    let set : bit_and (c.args.self.now.mask / 2 ^ c.args.place) (2 ^ c.args.size - 1) ≡ 2 ^ c.args.size - 1 =
    ap (bit_and (c.args.self.now.mask / 2 ^ c.args.place)) (sym c.ones-all.ensures) ∙ (c.if-set-all.true ∙ c.ones-all.ensures) in
    let fits = set_fits c.args.self.now.mask c.args.place c.args.size small c.requires.some set in
    omega (arith, long, fits, ap length (rest_at c.args.self.now.bytes c.args.place long))

pub returns-then-set-all-clause-number : goal.returns-then-set-all-clause-number
returns-then-set-all-clause-number c =
    let long : length c.args.self.now.bytes ≡ 64 = search rules in
    let small : c.args.self.now.mask < 2 ^ 64 = search rules in
    let set : bit_and (c.args.self.now.mask / 2 ^ c.args.place) (2 ^ c.args.size - 1) ≡ 2 ^ c.args.size - 1 =
    ap (bit_and (c.args.self.now.mask / 2 ^ c.args.place)) (sym c.ones-all.ensures) ∙ (c.if-set-all.true ∙ c.ones-all.ensures) in
    let fits = set_fits c.args.self.now.mask c.args.place c.args.size small c.requires.some set in
    read_whole c.args.self.now c.args.place c.args.size c.read.result c.requires.some (omega (arith, long, fits)) set
    (c.read.ensures ∙ ap (little_number c.args.size) (rest_at c.args.self.now.bytes c.args.place long))

pub returns-then-set-all-clause-page : goal.returns-then-set-all-clause-page
returns-then-set-all-clause-page c =
    let small : c.args.self.now.mask < 2 ^ 64 = search rules in
    let set : bit_and (c.args.self.now.mask / 2 ^ c.args.place) (2 ^ c.args.size - 1) ≡ 2 ^ c.args.size - 1 =
    ap (bit_and (c.args.self.now.mask / 2 ^ c.args.place)) (sym c.ones-all.ensures) ∙ (c.if-set-all.true ∙ c.ones-all.ensures) in
    set_fits c.args.self.now.mask c.args.place c.args.size small c.requires.some set

pub returns-then-set-all-clause-written : goal.returns-then-set-all-clause-written
returns-then-set-all-clause-written c =
    let long : length c.args.self.now.bytes ≡ 64 = search rules in
    let small : c.args.self.now.mask < 2 ^ 64 = search rules in
    let set : bit_and (c.args.self.now.mask / 2 ^ c.args.place) (2 ^ c.args.size - 1) ≡ 2 ^ c.args.size - 1 =
    ap (bit_and (c.args.self.now.mask / 2 ^ c.args.place)) (sym c.ones-all.ensures) ∙ (c.if-set-all.true ∙ c.ones-all.ensures) in
    let fits = set_fits c.args.self.now.mask c.args.place c.args.size small c.requires.some set in
    whole_written c.args.self.now c.args.place c.args.size c.read.result c.requires.some (omega (arith, long, fits)) set
