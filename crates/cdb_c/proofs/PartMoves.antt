-- A struct's two fields, moved into another struct: what a box of them owns goes with them.
use mathlib.Core.Path.{refl, sym, subst}
use mathlib.Core.List.{List, [], ◌∷◌, ◌++◌}
use seplogic.Ra.Ura.{Ura}
use mir.Syntax.{Sym, Ty, ty_struct, ty_ptr, tcons, tnil, local, value_local, place, field, assign, aggregate, copy, rv_opd, seq, return, Fn, Callee}
use mir.Val.{Val}
use base.Logic.{SProp, ent, sep}
use base.Fml.{ftrue, fsep}
use prog.Model.{Model}
use prog.Wp.{WpFn, Closed}
use types.Logic.{Logic, sem}
use types.Kit.{‵, raw, ◌⊛◌, ◌$◌, ◌∵◌, !, qed, by, keep, drop, use1, join, split, fsplit, fjoin, suffices, done}
use types.Part.{whole, sub, agg}
use types.Run.{stop, fld, no_more, and_then, of_opd, returns, enter}
use types.ByLocal.{alloc_all, pass_all, free_all, look_at, get, get_in, sets}
use contract.Monad.{fact}
use contract.Running.{Running, tables}
use denote.Exit.{yes, Last}
use denote.RattleType.{RattleType}
use denote.Signature.{plain}
use denote.Steps.{nothing}
use denote.Triple.Clauses.{Ended, Clauses, closing}
use denote.Triple.Spec.{Meets}
use denote.Triple.Walked.{says, Stays, Silent, stay_dropped, walk_of, ends_at, Goes-dropped}
use Rattle.core.proofs.alloc.Calls.{α}
use Rattle.std.proofs.raw_atomic.Walks.{proved_at}
use Rattle.std_alloc.proofs.BoxSteps.Form.{Bx, D, B, word, box_typed}
use Rattle.std_alloc.proofs.BoxSteps.Steps.{box_out, box_in}

-- the code, but for the names of the two structs
abbrev moving : Sym → Sym → Ty → Fn
moving ν μ τ = record {
  lifetimes = 0;
  outlives = [];
  ty_params = [];
  givens = 0;
  params = 1;
  locals = local (ty_struct ν (tcons ty_ptr (tcons τ tnil))) value_local ∷ local (ty_struct μ (tcons ty_ptr (tcons τ tnil))) value_local ∷ local ty_ptr value_local ∷ local τ value_local ∷ local ty_ptr value_local ∷ [];
  body = seq (assign (place 2 []) (rv_opd (copy (place 1 (field 0 ∷ []))))) (seq (assign (place 3 []) (rv_opd (copy (place 1 (field 1 ∷ [])))))
      (seq (assign (place 4 []) (rv_opd (copy (place 2 [])))) (seq (assign (place 0 []) (aggregate (copy (place 4 []) ∷ copy (place 3 []) ∷ []))) return)));
}

module _ {M : Type 1} {𝓤 : Ura M} (𝓛 : Logic 𝓤) (E : Bx) (From To : RattleType) where
  open 𝓛 use {H}

  abbrev Moves : Ended
  Moves = record { signature = record { lifetimes = 0; outlives = []; params = plain (λ _. From) ∷ []; result = plain (λ _. To) }; kept = (yes, tt) }

  abbrev stayed : Stays Moves.signature.params Moves.kept
  stayed = (stay_dropped (plain (λ _. From)) yes, tt)

  abbrev asks : (From.Denot → SProp 𝓤) → (From.Denot → To.Denot → Type 0) → Clauses 𝓤 Moves
  asks needed φ κs a = record { ghost = Unit {0}; requires = λ _. needed a.0; ensures = λ _ r _. fact 𝓤 (φ a.0 r) }

  -- if the one owns what a box owns, and the other what that box owns
  pub moved : Silent 𝓛 0 (plain (λ _. From)) yes → ((x : From.Denot) → Last (From.exit yes) x) → (ν μ : Sym) (needed : From.Denot → SProp 𝓤) (φ : From.Denot → To.Denot → Type 0) (𝓜 : Model 𝓤 H) (𝓡 : Running 𝓤 H 𝓜) (k : Callee)
      → Closed 𝓤 H (tables 𝓤 H 𝓜 𝓡 𝓡.env).C (tables 𝓤 H 𝓜 𝓡 𝓡.env).Λ k (moving ν μ (α E.al))
      → ((x : From.Denot) (vs : List Val) (Q : SProp 𝓤) → ((d : D E) (r : To.Denot) → ((w : Val) → ent 𝓤 (sem 𝓛 ((B E).own_val d (w ∷ []))) (sem 𝓛 (To.own_val r (w ∷ [])))) → φ x r → ent 𝓤 (sem 𝓛 ((B E).own_val d vs)) Q)
      → ent 𝓤 (sep 𝓤 (sem 𝓛 (From.own_val x vs)) (needed x)) Q)
      → Meets 𝓛 Moves.signature ((tables 𝓤 H 𝓜 𝓡 𝓡.env).C k) (closing 𝓛 Moves (asks needed φ))
  moved silent last ν μ needed φ 𝓜 𝓡 k closed parts =
      let c : Clauses 𝓤 Moves = asks needed φ in
      proved_at 𝓛 Moves stayed c 𝓜 𝓡 (Goes-dropped 𝓛 0 (plain (λ _. From)) yes silent, tt) k (moving ν μ (α E.al)) closed (λ z are.
      qed 𝓛 ((‵ ftrue ⊛ ‵ (fsep (From.own_val z.0.3.0 z.0.4.0) ftrue)) ∷ raw (needed z.0.3.0) ∷ []) ∵ split ! $ drop ! $ fsplit ! $ keep ! (0 ∷ 2 ∷ []) $
      by ! (parts z.0.3.0 z.0.4.0 _ (λ d r fits holds.
      qed 𝓛 (‵ ((B E).own_val d z.0.4.0) ∷ []) ∵ box_out E ! d z.0.4.0 (λ b o hv e ws fa. box_in E ! d b o d.value e refl $
      let w = word E hv b o in
      by ! (subst (λ (us : List Val). ent 𝓤 (sem 𝓛 ((B E).own_val d (w ∷ []))) (WpFn 𝓤 H (tables 𝓤 H 𝓜 𝓡 𝓡.env).C (tables 𝓤 H 𝓜 𝓡 𝓡.env).Λ (moving ν μ (α E.al)) (us ++ []) ((walk_of 𝓛 Moves stayed c).post z))) (sym ws)
      (qed 𝓛 (‵ ((B E).own_val d (w ∷ [])) ∷ []) ∵ enter ! _ _ _ (w ∷ []) _ $ alloc_all ! (λ ls. pass_all ! refl (box_typed E hv b o fa, tt) $
      sets ! (of_opd ! (get_in ! (fld ! refl (stop !)) (sub ! 0 refl (whole !)))) refl (tt, tt) $ sets ! (of_opd ! (get_in ! (fld ! refl (stop !)) (sub ! 1 refl (whole !)))) refl fa $
      sets ! (of_opd ! (get ! refl)) refl (tt, tt) $ sets ! (agg ! (and_then ! (get ! refl) (and_then ! (get ! refl) (no_more !)))) refl (box_typed E hv b o fa) $ returns ! (look_at ! 0 refl) $ free_all ! refl $
      use1 𝓛 (‵ (To.own_val r (w ∷ []))) (fits w) $ suffices ! _ (ends_at 𝓛 Moves stayed c z w r (last z.0.3.0, tt) (tt, tt)) $ says ! holds $
      nothing ! $ nothing ! $ fjoin ! $ join ! $ nothing ! $ join ! $ done !)))))))
