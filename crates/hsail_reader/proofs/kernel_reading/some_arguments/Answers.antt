use Rattle.std.proofs.Common.{◌≡◌, ◌∷◌, ◌++◌, [], sym, ◌∙◌, ap, arith}
use Rattle.std.proofs.lemmas.List.{length-map}
use Rattle.std.proofs.lemmas.Result.{err_from_is_err_and}
use Rattle.hsail_reader.specs.Grammar.{argument, next_argument, some_arguments}
use Rattle.hsail_reader.specs.Grammars.{read, all_at, begins}
use Rattle.hsail_reader.specs.Terminals.{close_parenthesis}
use Rattle.hsail_reader.specs.Tokens.{token_view, token_views}
use Rattle.hsail_reader.proofs.Decided.{next_argument_shortens}
use Rattle.hsail_reader.proofs.Loop as loop
use Rattle.hsail_reader.proofs.kernel_reading.some_arguments.Goals as goal

pub arguments-init : goal.arguments-init
unfolding some_arguments
arguments-init c =
    let only : c.push.new.self.items ≡ c.in_ok-first.first ∷ [] =
    c.in_ok-push.ensures.items ∙ ap (λ xs. xs ++ c.in_ok-first.first ∷ []) c.new-arguments.ensures.items in
    loop.begins_behind (read argument) (all_at (begins close_parenthesis) (read next_argument)) c.push.new.self.items
    (token_views c.args.tokens.now) (token_views c.in_ok-first.rest.now) c.in_ok-first.first only c.in_ok-first.ensures

pub returns-in_err-argument : goal.returns-in_err-argument
returns-in_err-argument c =
    let p = err_from_is_err_and c.from_residual-in_err-argument.result c.from_residual-in_err-argument.ensures.1 in
    rw (p.1, p.2)
    (loop.ends (begins close_parenthesis) (read next_argument) next_argument_shortens c.in_err-argument.field-0.0 c.arguments.arguments.items
    (token_views c.arguments.rest.now) (read some_arguments (token_views c.args.tokens.now)) (sym c.has_mark.ensures ∙ c.arguments-test.true)
    c.in_err-argument.ensures c.arguments.invariant)

pub arguments-preserved : goal.arguments-preserved
arguments-preserved c =
    loop.goes_on (begins close_parenthesis) (read next_argument) next_argument_shortens c.arguments.arguments.items c.push-in-arguments.new.self.items
    (token_views c.arguments.rest.now) (token_views c.in_ok-argument.behind.now) c.in_ok-argument.argument
    (read some_arguments (token_views c.args.tokens.now)) c.in_ok-push-2.ensures.items (sym c.has_mark.ensures ∙ c.arguments-test.true)
    c.in_ok-argument.ensures c.arguments.invariant

pub arguments-smaller : goal.arguments-smaller
arguments-smaller c =
    omega (arith, next_argument_shortens (token_views c.arguments.rest.now) _ c.in_ok-argument.ensures, length-map c.arguments.rest.now token_view, length-map c.in_ok-argument.behind.now token_view)

pub returns : goal.returns
returns c =
    rw c.from_vec.ensures
    (loop.is_done (begins close_parenthesis) (read next_argument) c.arguments.arguments.items (token_views c.arguments.rest.now)
    (read some_arguments (token_views c.args.tokens.now)) (sym c.has_mark.ensures ∙ c.arguments-test.false) c.arguments.invariant)
