use Rattle.std.proofs.Common.{sym, ◌∙◌, arith}
use Rattle.std.proofs.lemmas.List.{length-map}
use Rattle.std.proofs.lemmas.Result.{err_from_is_err_and}
use Rattle.hsail_reader.specs.Grammar.{item, items}
use Rattle.hsail_reader.specs.Grammars.{read, all_at, begins}
use Rattle.hsail_reader.specs.Terminals.{close_brace, open_brace}
use Rattle.hsail_reader.specs.Tokens.{token_view, token_views}
use Rattle.hsail_reader.proofs.Decided.{item_shortens}
use Rattle.hsail_reader.proofs.Loop as loop
use Rattle.hsail_reader.proofs.kernel_reading.items.Goals as goal

pub items-init : goal.items-init
unfolding items
items-init c =
    loop.begins (read open_brace) (all_at (begins close_brace) (read item)) c.new-items.result.items
    (token_views c.args.tokens.now) (token_views c.in_ok-rest.rest.now) tt c.new-items.ensures.items c.in_ok-rest.ensures

pub returns-in_err-item : goal.returns-in_err-item
returns-in_err-item c =
    let p = err_from_is_err_and c.from_residual-in_err-item.result c.from_residual-in_err-item.ensures.1 in
    rw (p.1, p.2)
    (loop.ends (begins close_brace) (read item) item_shortens c.in_err-item.field-0.0 c.items.items.items
    (token_views c.items.rest.now) (read items (token_views c.args.tokens.now)) (sym c.has_mark.ensures ∙ c.items-test.true)
    c.in_err-item.ensures c.items.invariant)

pub items-preserved : goal.items-preserved
items-preserved c =
    loop.goes_on (begins close_brace) (read item) item_shortens c.items.items.items c.push.new.self.items
    (token_views c.items.rest.now) (token_views c.in_ok-item.behind.now) c.in_ok-item.item
    (read items (token_views c.args.tokens.now)) c.in_ok-push.ensures.items (sym c.has_mark.ensures ∙ c.items-test.true)
    c.in_ok-item.ensures c.items.invariant

pub items-smaller : goal.items-smaller
items-smaller c =
    omega (arith, item_shortens (token_views c.items.rest.now) _ c.in_ok-item.ensures, length-map c.items.rest.now token_view, length-map c.in_ok-item.behind.now token_view)

pub returns : goal.returns
returns c =
    rw c.from_vec.ensures
    (loop.is_done (begins close_brace) (read item) c.items.items.items (token_views c.items.rest.now)
    (read items (token_views c.args.tokens.now)) (sym c.has_mark.ensures ∙ c.items-test.false) c.items.invariant)
