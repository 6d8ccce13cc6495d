use Rattle.std.proofs.Common.{sym, ◌∙◌, arith}
use Rattle.std.proofs.lemmas.List.{length-map}
use Rattle.std.proofs.lemmas.Result.{err_from_is_err_and}
use Rattle.hsail_reader.specs.Grammar.{is_none_left, kernel, kernels}
use Rattle.hsail_reader.specs.Grammars.{read, all_at}
use Rattle.hsail_reader.specs.Terminals.{semicolon}
use Rattle.hsail_reader.specs.Tokens.{token_view, token_views}
use Rattle.hsail_reader.proofs.Decided.{kernel_shortens}
use Rattle.hsail_reader.proofs.Loop as loop
use Rattle.hsail_reader.proofs.kernel_reading.kernels.Goals as goal

pub kernels-init : goal.kernels-init
unfolding kernels
kernels-init c =
    loop.begins (read semicolon) (all_at is_none_left (read kernel)) c.new-kernels.result.items
    (token_views c.args.tokens.now) (token_views c.in_ok-rest.rest.now) tt c.new-kernels.ensures.items c.in_ok-rest.ensures

pub returns-in_err-kernel : goal.returns-in_err-kernel
returns-in_err-kernel c =
    let p = err_from_is_err_and c.from_residual-in_err-kernel.result c.from_residual-in_err-kernel.ensures.1 in
    rw (p.1, p.2)
    (loop.ends is_none_left (read kernel) kernel_shortens c.in_err-kernel.field-0.0 c.kernels.kernels.items
    (token_views c.kernels.rest.now) (read kernels (token_views c.args.tokens.now)) (sym c.none_left.ensures ∙ c.kernels-test.true)
    c.in_err-kernel.ensures c.kernels.invariant)

pub kernels-preserved : goal.kernels-preserved
kernels-preserved c =
    loop.goes_on is_none_left (read kernel) kernel_shortens c.kernels.kernels.items c.push.new.self.items
    (token_views c.kernels.rest.now) (token_views c.in_ok-kernel.behind.now) c.in_ok-kernel.kernel
    (read kernels (token_views c.args.tokens.now)) c.in_ok-push.ensures.items (sym c.none_left.ensures ∙ c.kernels-test.true)
    c.in_ok-kernel.ensures c.kernels.invariant

pub kernels-smaller : goal.kernels-smaller
kernels-smaller c =
    omega (arith, kernel_shortens (token_views c.kernels.rest.now) _ c.in_ok-kernel.ensures, length-map c.kernels.rest.now token_view, length-map c.in_ok-kernel.behind.now token_view)

pub returns : goal.returns
returns c =
    rw c.from_vec.ensures
    (loop.is_done is_none_left (read kernel) c.kernels.kernels.items (token_views c.kernels.rest.now)
    (read kernels (token_views c.args.tokens.now)) (sym c.none_left.ensures ∙ c.kernels-test.false) c.kernels.invariant)
