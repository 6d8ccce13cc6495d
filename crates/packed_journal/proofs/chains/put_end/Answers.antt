use Rattle.std.proofs.Common.{List, ℕ, ◌≡◌, ◌++◌, ◌-◌, ap, arith, length, subst, sym, drop, take, ◌∙◌}
use Rattle.sha2.specs.Hashers.{Holds512}
use Rattle.packed_journal.specs.Journals.{mark}
use Rattle.packed_journal.specs.Words.{packed_number}
use Rattle.packed_journal.proofs.Blocks.{digest_is, ended, mark_is}
use Rattle.packed_journal.proofs.chains.put_end.Goals as goal

pub returns-clause-digest : goal.returns-clause-digest
returns-clause-digest c = λ place s.
    let put : c.put_number.new.out.items ≡ c.push_reserved.new.self.items ++ packed_number place.filled = c.put_number.ensures.items ∙ ap (λ n. c.push_reserved.new.self.items ++ packed_number n) s.filled in
    let behind : List ℕ → List ℕ = λ all. take (length all - c.len-before.result) (drop c.len-before.result all) in
    let form : behind c.deref.result.now ≡ mark place =
    ap behind c.deref.ensures.value ∙ mark_is place c.args.out.now.items c.push_reserved.new.self.items c.put_number.new.out.items c.len-before.result (omega (arith, c.len-before.ensures, c.args.out.now.ok.0)) c.push_reserved.ensures.items put in
    c.finalize_reset-digest.ensures.digest (place.told ++ mark place) (subst (λ (f : List ℕ). Holds512 c.update.new.self (place.told ++ f)) form (c.update.ensures place.told s.holds)) ∙ sym (digest_is place)

pub returns-clause-items : goal.returns-clause-items
returns-clause-items c = λ place s.
    let put : c.put_number.new.out.items ≡ c.push_reserved.new.self.items ++ packed_number place.filled = c.put_number.ensures.items ∙ ap (λ n. c.push_reserved.new.self.items ++ packed_number n) s.filled in
    ended place c.args.out.now.items c.push_reserved.new.self.items c.put_number.new.out.items c.put_bytes.new.out.items c.finalize_reset-digest.result c.push_reserved.ensures.items put
    (returns-clause-digest c place s) c.put_bytes.ensures.items
