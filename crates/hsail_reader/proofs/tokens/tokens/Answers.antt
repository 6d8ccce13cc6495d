use Rattle.std.proofs.Common.{sym, ap, length, arith}
use Rattle.std.proofs.lemmas.List.{length-drop}
use Rattle.hsail_reader.specs.Tokens.{token_views, tokens_of}
use Rattle.hsail_reader.proofs.LexemeFronts.{found_takes}
use Rattle.hsail_reader.proofs.TextCut.{goes_on}
use Rattle.hsail_reader.proofs.tokens.tokens.Goals as goal

pub split_at-requires : goal.split_at-requires
split_at-requires c = (found_takes c.loop-rest.rest.now c.in-Some.found (sym c.in-Some.ensures)).1

pub loop-rest-smaller : goal.loop-rest-smaller
loop-rest-smaller c =
    let t = found_takes c.loop-rest.rest.now c.in-Some.found (sym c.in-Some.ensures) in
    omega (arith, t.0, t.1, ap length c.split_at.ensures.back, length-drop c.in-Some.found.length c.loop-rest.rest.now)

pub loop-rest-preserved : goal.loop-rest-preserved
loop-rest-preserved c =
    let found = c.in-Some.found in
    let front = c.split_at.ensures.front in
    let pushed = rw front at c.in_ok-keep.ensures in
    let t = found_takes c.loop-rest.rest.now found (sym c.in-Some.ensures) in
    record {
      reads =
          rw (c.line_behind_bytes-line.ensures.value, front, c.split_at.ensures.back)
          (goes_on (token_views c.loop-rest.tokens.items) (token_views c.keep.new.tokens.items) c.loop-rest.place
          c.loop-rest.line c.loop-rest.rest.now found (tokens_of c.args.text.now) (sym c.in-Some.ensures)
          t.0 t.1 pushed c.loop-rest.invariant.reads);
      place_is = omega (arith, t.1);
      line_is = omega (arith, t.1);
    }
