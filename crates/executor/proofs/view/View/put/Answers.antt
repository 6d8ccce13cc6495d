-- The entries lead to one region more.
use Rattle.std.proofs.Common.{◌≡◌, ◌+◌, ◌-◌, ◌++◌, ◌∷◌, [], ◌<◌, ◌≤◌, ◌∙◌, ap, arith, length, replicate, subst, sym, take, List, All, ℕ}
use Rattle.std.specs.Prelude.{vec_len}
use Rattle.executor.specs.inner.Places.{IsEntry}
use Rattle.executor.specs.declared.held.HeldRegion.{HeldRegion}
use Rattle.executor.proofs.ViewLemmas.{put_held, put_view}
use Rattle.executor.proofs.view.View.put.Goals as goal

pub invariant_of-self-2 : goal.invariant_of-self-2
invariant_of-self-2 c =
    let items = c.self.inside.entries.items in
    let number = c.args.region.handle.0 in
    let own : c.of.result.region.handle.0 ≡ number = ap (λ (r : HeldRegion). r.handle.0) c.of.ensures.region in
    let behind : length items ≤ number =
    c.self.invariant.few number (subst (λ (regions : List HeldRegion). All (λ before. before.handle.0 < number) regions) (sym c.self.view_is) c.requires.behind) in
    let long : vec_len c.self.inside.entries ≡ length items = omega (arith, c.self.inside.entries.ok.0) in
    let resized : c.resize.new.self.items ≡ take (number + 1) items ++ replicate (number + 1 - length items) c.none.result =
    subst (λ (n : ℕ). c.resize.new.self.items ≡ take (number + 1) items ++ replicate (number + 1 - n) c.none.result) long c.in_ok-resize.ensures.items in
    put_view c.none.result c.of.result c.none.ensures.none (omega (arith, own, c.requires.begins)) c.none.ensures.entry items _ number c.self.invariant behind resized
    c.of.ensures.entry own

pub returns-clause-ok : goal.returns-clause-ok
returns-clause-ok c =
    let items = c.self.inside.entries.items in
    let number = c.args.region.handle.0 in
    let own : c.of.result.region.handle.0 ≡ number = ap (λ (r : HeldRegion). r.handle.0) c.of.ensures.region in
    let behind : length items ≤ number =
    c.self.invariant.few number (subst (λ (regions : List HeldRegion). All (λ before. before.handle.0 < number) regions) (sym c.self.view_is) c.requires.behind) in
    let long : vec_len c.self.inside.entries ≡ length items = omega (arith, c.self.inside.entries.ok.0) in
    let resized : c.resize.new.self.items ≡ take (number + 1) items ++ replicate (number + 1 - length items) c.none.result =
    subst (λ (n : ℕ). c.resize.new.self.items ≡ take (number + 1) items ++ replicate (number + 1 - n) c.none.result) long c.in_ok-resize.ensures.items in
    put_held c.none.result c.of.result c.none.ensures.none (omega (arith, own, c.requires.begins)) items _ number behind resized
    ∙ (ap (λ xs. xs ++ c.of.result.region ∷ []) c.self.view_is ∙ ap (λ (r : HeldRegion). c.args.self.now ++ r ∷ []) c.of.ensures.region)
