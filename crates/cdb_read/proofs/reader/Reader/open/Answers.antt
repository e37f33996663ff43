use Rattle.cdb_read.proofs.Words.{ap, arith, common_steps, head_at, rules, sym, take_at, ◌∙◌}
use Rattle.cdb_form.proofs.RecordReading.RecordAreas.{head_fits}
use Rattle.cdb_read.proofs.Bytes.Heads.{head_known}
use Rattle.cdb_read.proofs.reader.Reader.open.Goals as goal

pub invariant_of-result-clause-known : goal.invariant_of-result-clause-known
invariant_of-result-clause-known g c = λ b image.
    let w = g.L.Width.WORD in
    let f = c.head_size-size.ensures in
    let bytes = c.read_part.new.into in
    let long = c.read_part.auto.into ∙ head_fits w c.head_size-size.result f g.met.L.Width.four_or_eight in
    let is = c.read_head-head.ensures.read ∙ ap (head_at w) (take_at bytes _ c.head_size-size.result (long ∙ sym f)) in
    head_known w bytes _ _ _ b long c.in-Ok.ensures.read (sym is) image

pub returns-in-Err-clause-fails : goal.returns-in-Err-clause-fails
returns-in-Err-clause-fails g c = search rules

pub slice_bounds-read_head-end : goal.slice_bounds-read_head-end
slice_bounds-read_head-end g c = grind (arith, common_steps)

pub read_head-head-requires : goal.read_head-head-requires
read_head-head-requires g c = grind (arith, common_steps)

pub slice_bounds-bytes-end-2 : goal.slice_bounds-bytes-end-2
slice_bounds-bytes-end-2 g c = grind (arith, common_steps)
