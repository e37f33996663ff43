use Rattle.cdb_tool.proofs.Words.{List, arith, err_from_is_err_and, length, subst, sym, ℕ, ◌<◌, ◌∙◌}
use Rattle.cdb_make.specs.Views.Appending.{AreFirst}
use Rattle.cdb_make.proofs.Bytes.Fitting.{all_whole, records_read}
use Rattle.cdb_tool.proofs.Batches.{appended, appended_stops}
use Rattle.cdb_tool.proofs.runs.put_batches.append_batch.Goals as goal

pub append_whole-requires : goal.append_whole-requires
append_whole-requires g c =
    let w : ℕ = g.L.Width.WORD in
    let bytes : List ℕ = c.records.result.now in
    let h = c.requires.1 in
    let some : 0 < g.L.Width.WORD = omega (arith, g.met.L.Width.four_or_eight) in
    record { whole = subst (λ (n : ℕ). AreFirst w bytes n (length bytes)) (sym h.count) (all_whole w g.L.Width.TOP bytes c.requires.0 some g.met.L.Width.top_is h.fit (c.records.ensures ∙ h.bytes)) }

pub returns-in_err-append_whole-clause-puts : goal.returns-in_err-append_whole-clause-puts
returns-in_err-append_whole-clause-puts g c =
    let p = err_from_is_err_and c.from_residual.result c.from_residual.ensures.1 in
    let some : 0 < g.L.Width.WORD = omega (arith, g.met.L.Width.four_or_eight) in
    let follows = c.append_whole.ensures.follows in
    rw (p.1, p.2) (λ o input now mode items start amid. (
      tt,
      appended_stops {s = g.S.Store} {l = g.L.Width} o input items c.args.batch.now start now c.args.maker.now c.append_whole.new.self mode g.met.L.Width.four_or_eight amid follows.comes follows.limit _ c.in_err-append_whole.field-0.0
          (records_read g.L.Width.WORD g.L.Width.TOP c.records.result.now amid.waiting some g.met.L.Width.top_is amid.holds.fit (c.records.ensures ∙ amid.holds.bytes)) c.in_err-append_whole.ensures.fails,
    ))

pub returns-clause-puts : goal.returns-clause-puts
returns-clause-puts g c = λ o input now mode items start amid.
    let some : 0 < g.L.Width.WORD = omega (arith, g.met.L.Width.four_or_eight) in
    let follows = c.append_whole.ensures.follows in (
      appended {s = g.S.Store} {l = g.L.Width} o input items c.args.batch.now start now c.args.maker.now c.append_whole.new.self mode g.met.L.Width.four_or_eight amid follows.comes follows.limit _ _
          (records_read g.L.Width.WORD g.L.Width.TOP c.records.result.now amid.waiting some g.met.L.Width.top_is amid.holds.fit (c.records.ensures ∙ amid.holds.bytes)) c.in_ok-append_whole.ensures.ok,
      tt,
    )
