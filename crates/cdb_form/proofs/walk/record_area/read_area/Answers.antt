use Rattle.cdb_form.proofs.Words.{arith, err_from_is_err_and}
use Rattle.cdb_form.proofs.RecordReading.RecordAreas.{area_short, area_table, area_read, head_cut, none_short, none_table}
use Rattle.cdb_form.proofs.Files.TableLemmas.{end_told, table_told}
use Rattle.cdb_form.proofs.walk.record_area.read_area.Goals as goal

pub returns-in_err-head-clause-fails : goal.returns-in_err-head-clause-fails
returns-in_err-head-clause-fails g c =
    let p = err_from_is_err_and c.from_residual.result c.from_residual.ensures.1 in
    rw (p.1, p.2) (λ damage.
    let h = c.in_err-head.ensures.fails damage in
    area_short g.L.Width.WORD _ _ c.in_err-head.field-0.0 h.0 h.1.few)

pub returns-clause-area : goal.returns-clause-area
returns-clause-area g c =
    let h = c.in_ok-head.ensures.read in
    let end = end_told g.L.Width.WORD c.record_end-end.result h.bytes c.in_ok-head.head.pointers h.pointers c.record_end-end.ensures in
    area_read g.L.Width.WORD _ _ _ _ h.bytes h.read h.long end c.head_size-place.ensures c.if-end-place.false

pub returns-then-end-place-clause-fails : goal.returns-then-end-place-clause-fails
returns-then-end-place-clause-fails g c = λ damage.
    let h = c.in_ok-head.ensures.read in
    let end = end_told g.L.Width.WORD c.record_end-end.result h.bytes c.in_ok-head.head.pointers h.pointers c.record_end-end.ensures in
    area_table g.L.Width.WORD c.first_table_at.result _ _ h.bytes h.read h.long (omega (arith, end, c.head_size-place.ensures, c.if-end-place.true))
    (table_told g.L.Width.WORD c.record_end-end.result c.first_table_at.result h.bytes c.in_ok-head.head.pointers h.pointers c.first_table_at.ensures end)

pub returns-clause-cut : goal.returns-clause-cut
returns-clause-cut g c =
    let h = c.in_ok-head.ensures.read in
    let end = end_told g.L.Width.WORD c.record_end-end.result h.bytes c.in_ok-head.head.pointers h.pointers c.record_end-end.ensures in
    head_cut g.L.Width.WORD _ _ _ _ h.bytes h.read h.long end c.head_size-place.ensures c.if-end-place.false

pub returns-then-end-place-clause-part : goal.returns-then-end-place-clause-part
returns-then-end-place-clause-part g c =
    let h = c.in_ok-head.ensures.read in
    let end = end_told g.L.Width.WORD c.record_end-end.result h.bytes c.in_ok-head.head.pointers h.pointers c.record_end-end.ensures in
    none_table g.L.Width.WORD _ _ h.bytes h.read h.long (omega (arith, end, c.head_size-place.ensures, c.if-end-place.true))

pub returns-in_err-head-clause-part : goal.returns-in_err-head-clause-part
returns-in_err-head-clause-part g c =
    let p = err_from_is_err_and c.from_residual.result c.from_residual.ensures.1 in
    rw (p.1) (none_short g.L.Width.WORD _ _ c.in_err-head.ensures.loses_fewer)
