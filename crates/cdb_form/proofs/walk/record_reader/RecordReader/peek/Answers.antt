use Rattle.cdb_form.proofs.Words.{IfSome_then, subst}
use Rattle.cdb_form.specs.Views.Prefix.{IsStored, shown_by}
use Rattle.cdb_form.proofs.walk.record_reader.RecordReader.peek.Goals as goal

pub returns-in-At : goal.returns-in-At
returns-in-At g c = IfSome_then c.stored_record.result c.stored_record.ensures (λ f begins. record {
  area = c.in-At.area;
  going = c.in-At.is;
  begins = subst (λ t. IsStored g.L.Width.WORD t f.len (shown_by f)) c.window_within-window.ensures begins;
})
