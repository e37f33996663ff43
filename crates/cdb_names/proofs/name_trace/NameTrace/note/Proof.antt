-- An empty body. The borrow is opened and closed at another ghost value.
use Rattle.std.proofs.Common.{ℕ, List, [], ◌∷◌, refl}
use seplogic.Ra.Ura.{Ura}
use mir.Syntax.{named}
use mir.Val.{Val, vunit, vptr}
use base.Logic.{emp, via, fst∗, id⊢}
use base.Fml.{ftrue, flft}
use types.Logic.{Logic}
use types.Kit.{‵, ◌⊛◌, ◌$◌, ◌∵◌, !, qed, move, keep, drop, use1, split, join, fsplit, fsplit3, fjoin, fjoin3, feq_i, suffices, frame, done}
use types.Run.{unit_lit, of_opd, returns, enter}
use types.ByLocal.{alloc_all, pass_all, free_all, look_at, sets}
use denote.RattleType.{owns}
use denote.Ref.{MutRef, mut_vals, mut_Tells, ShrRef, shr_vals, shr_Tells}
use denote.Signature.{plain}
use denote.Steps.{opens, closes}
use denote.Triple.Walked.{says, Stays, stay_ref, AllGo, Goes-ref, ends_at}
use Rattle.cdb_names.specs.declared.name_trace.NameTrace.{NameTrace}
use Rattle.cdb_names.specs.contracts.name_trace.NameTrace as T
use Rattle.cdb_names.specs.contracts.name_trace.NameTrace.note as it
use Rattle.std.proofs.raw_atomic.Walks.{proved}
use Rattle.cdb_names.proofs.name_trace.NameTrace.note.Statement as stated
use Rattle.cdb_names.proofs.name_trace.NameTrace.note.Code as code
use denote.Builtin.{u8}
use denote.Exit.{yes}
use denote.Slice.{ShrSlice, slice_val, shr_slice_vals, shr_slice_Tells}
use denote.Triple.Walked.{stay_none_slice, Goes-none_slice, stay_none_ref, Goes-none_ref}
use Rattle.cdb_names.specs.contracts.name_trace.NameCall as K
use Rattle.cdb_store.specs.contracts.trace.Trace as F
use Rattle.std.proofs.Common.{length}

abbrev stayed : Stays (it.ended).signature.params (it.ended).kept
stayed = (stay_ref (0 ∷ []) tt (plain (λ _. T.the_row)), (stay_none_ref (1 ∷ []) tt (plain (λ _. K.the_row)) yes, (stay_none_slice (2 ∷ []) tt (plain (λ _. u8)) yes, (stay_none_slice (3 ∷ []) tt (plain (λ _. u8)) yes, (stay_none_ref (4 ∷ []) tt (plain (λ _. F.the_row)) yes, tt)))))

module _ {M : Type 1} {𝓤 : Ura M} (𝓛 : Logic 𝓤) where
  goes : AllGo 𝓛 5 it.signature.params it.ended.kept stayed
  goes = (Goes-ref 𝓛 5 0 tt (plain (λ _. T.the_row)), (Goes-none_ref 𝓛 5 (1 ∷ []) tt (plain (λ _. K.the_row)) yes, (Goes-none_slice 𝓛 5 (2 ∷ []) tt (plain (λ _. u8)) yes, (Goes-none_slice 𝓛 5 (3 ∷ []) tt (plain (λ _. u8)) yes, (Goes-none_ref 𝓛 5 (4 ∷ []) tt (plain (λ _. F.the_row)) yes, tt)))))

pub note_spec : {M : Type 1} → stated.statement M
note_spec 𝓤 𝓛 𝓜 𝓡 wired =
    let c = it.clauses 𝓛 𝓜.mem 𝓡.returns in
    proved 𝓛 it.ended stayed c 𝓜 𝓡 (goes 𝓛) it.Key.name code.function (code.unfolded 𝓤 𝓛.H 𝓜 𝓡 wired)
    (λ κs. (mut_vals, (shr_vals, (shr_slice_vals, (shr_slice_vals, (shr_vals, tt))))))
    (λ κs. (mut_Tells (named 0) κs.0 T.the_row, (shr_Tells (named 1) κs.1.0 K.the_row, (shr_slice_Tells (named 2) κs.1.1.0 u8, (shr_slice_Tells (named 3) κs.1.1.1.0 u8, (shr_Tells (named 4) κs.1.1.1.1.0 F.the_row, tt))))))
    (λ κs qs bounds a g are.
    let b : ℕ = a.0.ref_ptr.0 in
    let o : ℕ = a.0.ref_ptr.1 in
    let s = a.1.1.0 in
    let t = a.1.1.1.0 in
    let h' : NameTrace = record { marker = a.0.now.marker; events = (a.1.0.now, s.now, t.now, a.1.1.1.1.0.now.events) ∷ a.0.now.events } in
    let at : List Val × (List Val × (List Val × (List Val × (List Val × Unit {0})))) =
    (vptr b o ∷ [], (vptr a.1.0.ref_ptr.0 a.1.0.ref_ptr.1 ∷ [], (slice_val s.ref_ptr (length s.now) ∷ [], (slice_val t.ref_ptr (length t.now) ∷ [], (vptr a.1.1.1.1.0.ref_ptr.0 a.1.1.1.1.0.ref_ptr.1 ∷ [], tt))))) in
    via 𝓤 _ (fst∗ 𝓤 _ (emp 𝓤)) (
    qed 𝓛 ((‵ (flft κs.0 qs.0) ⊛ (‵ (flft κs.1.0 qs.1.0) ⊛ (‵ (flft κs.1.1.0 qs.1.1.0) ⊛ (‵ (flft κs.1.1.1.0 qs.1.1.1.0) ⊛ (‵ (flft κs.1.1.1.1.0 qs.1.1.1.1.0) ⊛ ‵ ftrue)))))
    ∷ ‵ (owns (MutRef (named 0) κs.0 T.the_row ∷ ShrRef (named 1) κs.1.0 K.the_row ∷ ShrSlice (named 2) κs.1.1.0 u8 ∷ ShrSlice (named 3) κs.1.1.1.0 u8 ∷ ShrRef (named 4) κs.1.1.1.1.0 F.the_row ∷ []) a at) ∷ []) ∵ split ! $
    move ! (2 ∷ []) $ fsplit ! $ fsplit3 ! $ drop ! $ move ! (0 ∷ 1 ∷ 3 ∷ []) $ enter ! _ _ _ _ _ $
    alloc_all ! (λ l. pass_all ! refl ((tt, tt), ((tt, tt), ((tt, (tt, (record { fits = are.1.1.0.0.1.0 }, tt))), ((tt, (tt, (record { fits = are.1.1.1.0.0.1.0 }, tt))), ((tt, tt), tt))))) $
    move ! (0 ∷ 1 ∷ 2 ∷ []) $ opens ! tt T.the_row {h = a.0.now} b o (λ vs. sets ! (of_opd ! (unit_lit !)) refl (tt, tt) $
    move ! (1 ∷ []) $ use1 𝓛 (‵ (T.the_row.own_val h' vs)) (id⊢ 𝓤 _) $ move ! (1 ∷ 0 ∷ []) $ closes ! tt T.the_row h' vs b o $
    returns ! (look_at ! 0 refl) $ free_all ! refl $ keep ! (0 ∷ 1 ∷ 2 ∷ 3 ∷ 4 ∷ []) $
    suffices ! _ (ends_at 𝓛 it.ended stayed c ((κs, qs, bounds, a, at), g) vunit tt (h', (tt, (tt, (tt, (tt, tt))))) (tt, (tt, (tt, (tt, (tt, tt)))))) $ says ! refl $
    move ! (2 ∷ 4 ∷ []) $ join ! $ frame ! $ feq_i ! (List Val) (vptr b o ∷ []) (vptr b o ∷ []) refl $ fjoin3 ! $ fjoin ! $
    feq_i ! (List Val) (vunit ∷ []) (vunit ∷ []) refl $ move ! (1 ∷ 0 ∷ []) $ done !))
    ))
