-- A sight that is shut owns what the sight does, and nothing beside it.
use mathlib.Core.Path.{◌≡◌, refl, sym, ap, ◌∙◌}
use mathlib.Core.List.{List, [], ◌∷◌, ◌++◌}
use seplogic.Ra.Ura.{Ura}
use mir.Val.{Val, vstruct, vcons, vnil, of_list}
use base.Logic.{SProp, ent, emp, id⊢}
use base.Fml.{ftrue, fsep, feq}
use types.Logic.{Logic, sem}
use types.Kit.{Item, ‵, raw, ◌⊛◌, ◌$◌, ◌∵◌, !, qed, by, move, keep, use0, use1, join, split, fsplit, fjoin, fpack, feq_i, done}
use types.Part.{whole, sub, agg}
use types.Run.{no_more, and_then, of_opd, returns, enter}
use types.ByLocal.{alloc_all, pass_all, free_all, look_at, get, sets}
use contract.Monad.{fact, fact_i}
use contract.Running.{tables}
use denote.Exit.{yes}
use denote.RattleType.{RattleType, Valss, flat, owns}
use denote.Laws.{Is}
use denote.Signature.{types_at, plain}
use denote.Steps.{nothing}
use denote.Triple.Entry.{alive}
use denote.Triple.Walked.{Stays, stay_dropped, walk_of, Goes-dropped}
use Rattle.atomic_table.proofs.Walks.{proved, leaves}
use Rattle.atomic_table.proofs.Fields.{token_val, token_told}
use Rattle.access_core.specs.contracts.access.AccessCore as core
use Rattle.client_threads.specs.contracts.board.View as view
use Rattle.client_threads.specs.contracts.board.Sight as sight
use Rattle.client_threads.specs.contracts.board.SharedSight as shared
use Rattle.client_threads.specs.contracts.board.SharedSight.TheInside as inside
use Rattle.client_threads.specs.contracts.board.SharedSight.of.{ended, clauses}
use Rattle.client_threads.specs.contracts.board.SharedSight.of.Key.{name as #self}
use Rattle.client_threads.proofs.board.SharedSight.of.Statement.{statement}
use Rattle.client_threads.proofs.board.SharedSight.of.Code as code

abbrev F : RattleType
F = sight.the_row

abbrev S : RattleType
S = shared.the_row

abbrev sight_val : Val
sight_val = vstruct (vcons token_val vnil)

sight_told : (x : F.Denot) (vs : List Val) → Is F x vs → vs ≡ sight_val ∷ []
sight_told x vs is =
    let its = is.1.0 in
    its.1.0 ∙ ap (λ (ws : List Val). vstruct (of_list (ws ++ [])) ∷ []) (token_told core.the_row view.the_row its.0.0 its.1.1.0.0)

abbrev shared_val : Val
shared_val = vstruct (vcons sight_val vnil)

module _ {M : Type 1} {𝓤 : Ura M} (𝓛 : Logic 𝓤) where
  -- what a sight owns, what is made of it owns
  shared_owns : (x : F.Denot) → ent 𝓤 (sem 𝓛 (F.own_val x (sight_val ∷ []))) (sem 𝓛 (S.own_val x (shared_val ∷ [])))
  shared_owns x =
      let vss : Valss (F ∷ []) = (sight_val ∷ [], tt) in
      let its : inside.the_row.Denot = record { sight = x } in
      let hidden : (i : inside.the_row.Denot) × ((i.sight ≡ x) × Unit {0}) = (its, (refl, tt)) in
      qed 𝓛 (‵ (F.own_val x (sight_val ∷ [])) ∷ []) ∵
      nothing ! $ move ! (1 ∷ 0 ∷ []) $ fjoin ! $ feq_i ! (List Val) (shared_val ∷ []) (shared_val ∷ []) refl $ fjoin ! $ fpack ! (Valss (F ∷ [])) (λ (us : Valss (F ∷ [])). fsep (feq (List Val) (shared_val ∷ []) (vstruct (of_list (flat (F ∷ []) us)) ∷ [])) (owns (F ∷ []) (x, tt) us)) vss $
      nothing ! $ move ! (1 ∷ 0 ∷ []) $ fjoin ! $ use1 𝓛 (‵ (inside.the_row.own_val its (shared_val ∷ []))) (id⊢ 𝓤 _) $
      nothing ! $ move ! (1 ∷ 0 ∷ []) $ fjoin ! $ fpack ! ((i : inside.the_row.Denot) × ((i.sight ≡ x) × Unit {0})) (λ (h : (i : inside.the_row.Denot) × ((i.sight ≡ x) × Unit {0})). fsep (inside.the_row.own_val h.0 (shared_val ∷ [])) ftrue) hidden $ done !

pub of_spec : {M : Type 1} → statement M
of_spec 𝓤 𝓛 𝓜 𝓡 wired =
    let H = 𝓛.H in let 𝓣 = tables 𝓤 H 𝓜 𝓡 𝓡.env in let c = clauses 𝓛 𝓜.mem 𝓡.returns in
    let hs : Stays ended.signature.params ended.kept = (stay_dropped (plain (λ _. F)) yes, tt) in
    proved 𝓛 ended hs c 𝓜 𝓡 (Goes-dropped 𝓛 0 (plain (λ _. F)) yes (λ κs x f. refl), tt) #self code.function (code.unfolded 𝓤 H 𝓜 𝓡 wired)
    (λ κs. ((λ _. sight_val ∷ []), tt)) (λ κs. (sight_told, tt)) (λ κs qs bounds a gh are.
    let y : (walk_of 𝓛 ended hs c).Ghost = ((κs, qs, bounds, a, (sight_val ∷ [], tt)), gh) in let Post : Val → SProp 𝓤 = (walk_of 𝓛 ended hs c).post y in
    qed 𝓛 ((raw (alive 𝓛 ended.signature κs qs) ⊛ ‵ (owns (types_at ended.signature.params κs) a y.0.4)) ∷ ‵ ftrue ∷ []) ∵
    keep ! (0 ∷ []) $ split ! $ move ! (1 ∷ []) $ fsplit ! $ use1 𝓛 (‵ (S.own_val a.0 (shared_val ∷ []))) (shared_owns 𝓛 a.0) $ keep ! (0 ∷ 2 ∷ []) $
    enter ! 𝓣.C 𝓣.Λ code.function (sight_val ∷ []) Post $ alloc_all ! (λ l. pass_all ! refl ((tt, ((tt, tt), tt)), tt) $
    sets ! (of_opd ! (get ! refl)) refl (tt, ((tt, tt), tt)) $ sets ! (agg ! (and_then ! (get ! refl) (no_more !))) refl (tt, (((tt, tt), tt), tt)) $
    use0 𝓛 (raw (fact 𝓤 (a.0 ≡ a.0))) (fact_i 𝓤 (a.0 ≡ a.0) (emp 𝓤) refl) $ nothing ! $ nothing ! $ fjoin ! $
    returns ! (look_at ! 0 refl) $ free_all ! refl $ keep ! (3 ∷ 0 ∷ 2 ∷ 1 ∷ []) $ by ! (leaves 𝓛 ended hs c y shared_val a.0 (tt, tt) (tt, tt))))
