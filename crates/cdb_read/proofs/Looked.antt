-- Readers and finders that are used one call after another.
use Rattle.cdb_read.proofs.DifferenceWords.{Finder, Ghosts, LooksOn, StaysAt, reads_more, ◌∙◌}
use Rattle.cdb_form.specs.declared.width.Width.{Ghosts as Widths}

pub looks_more : {S L : Type 0} {s : Ghosts S} {l : Widths L} {a b c : Finder S L s l} → LooksOn a b → LooksOn b c → LooksOn a c
looks_more p q = record { reader = q.reader ∙ p.reader; key = q.key ∙ p.key; reads = reads_more p.reads q.reads }

pub stays_more : {S L : Type 0} {s : Ghosts S} {l : Widths L} {a b c : Finder S L s l} → StaysAt a b → StaysAt b c → StaysAt a c
stays_more p q = record { looks = looks_more p.looks q.looks; searching = q.searching ∙ p.searching }
