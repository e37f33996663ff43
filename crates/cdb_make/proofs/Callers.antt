-- What a caller of a maker concludes from what its calls leave.
use Rattle.cdb_make.proofs.Words.{marks_in, Ghosts, KeyValue, List, Maker, ap, arith, file_size, is_gone, length, length-map, mul-le-mul_left, reads_nothing, refl, ℕ, ◌*◌, ◌∙◌, ◌≡◌, ◌≤◌, ◌⊎◌}
use Rattle.cdb_form.specs.declared.width.Width.{Ghosts as Widths}
use Rattle.cdb_make.specs.declared.long.LongRecord.{LongRecord}
use Rattle.cdb_make.specs.Views.Long.{IsPart}
use Rattle.cdb_make.specs.Views.Maker.{Follows, HasGone, Holds, SameCounts, StaysWhole, WhereHonest, count_in, gone_in, limit_of, told_count}
use Rattle.cdb_make.proofs.Appends.{held_size}
use Rattle.cdb_make.proofs.Finishing.{same_left, stays_whole, told_whole, whole_counts}
use Rattle.cdb_make.proofs.Looking.{sees_long}
use Rattle.cdb_make.proofs.Picking.{left_number}
use Rattle.cdb_make.proofs.Rolls.{follows_read}
use Rattle.cdb_make.proofs.Marking.{marks_long}

-- it counts the records that it holds
pub holds_count : {S L : Type 0} {s : Ghosts S} {l : Widths L} (m : Maker S L s l) (rs : List KeyValue) → Holds m rs → WhereHonest (s.image m.store) (told_count m ≡ length rs)
holds_count m rs h = record {
  each = λ b is.
      let held = h.each b is in
      let long = sees_long m.roll held.all b held.sees in
      let many : length (gone_in m) ≡ length held.all = omega (arith, long, length-map (marks_in m.roll) is_gone, (marks_long m.roll)) in
      let count : count_in m ≡ length rs = omega (arith, m.roll.picked.count, left_number (gone_in m) held.all many, long, ap length held.left) in
      (told_whole m h.whole).0 ∙ count;
}

-- and their file keeps its limit
pub holds_fits : {S L : Type 0} {s : Ghosts S} {l : Widths L} (m : Maker S L s l) (rs : List KeyValue) → (l.WORD ≡ 4) ⊎ (l.WORD ≡ 8) → Holds m rs → WhereHonest (s.image m.store) (file_size l.WORD rs ≤ limit_of m)
holds_fits {l = l} m rs wide h = record {
  each = λ b is.
      let few : count_in m ≤ length m.roll.hashes.items = omega arith in
      omega (arith, held_size m rs b wide h is, mul-le-mul_left (4 * l.WORD) few, m.within);
}

-- it comes of itself
pub follows_same : {S L : Type 0} {s : Ghosts S} {l : Widths L} (m : Maker S L s l) → Follows m m
follows_same m = follows_read m m refl refl (reads_nothing m.store m.store refl)

-- a record that was begun and given up left those that it holds, and what it counts
pub part_whole : {S L : Type 0} {s : Ghosts S} {l : Widths L} (first now : Maker S L s l) (key : List ℕ) (vlen : ℕ) (got : List ℕ) (long : LongRecord) → IsPart first now key vlen got long → StaysWhole first now
part_whole first now key vlen got long p = stays_whole first now p.was p.stays

pub part_counts : {S L : Type 0} {s : Ghosts S} {l : Widths L} (first now : Maker S L s l) (key : List ℕ) (vlen : ℕ) (got : List ℕ) (long : LongRecord) → IsPart first now key vlen got long → SameCounts first now
part_counts first now key vlen got long p = whole_counts first now p.was (p.stays.broken ∙ p.was) (same_left first now p.stays.same p.stays.gone) p.follows.limit

-- and none of its records goes
pub part_none : {S L : Type 0} {s : Ghosts S} {l : Widths L} (first now : Maker S L s l) (key : List ℕ) (vlen : ℕ) (got : List ℕ) (long : LongRecord) → IsPart first now key vlen got long → HasGone now → ⊥
part_none first now key vlen got long p gone = omega (arith, gone.1, p.none, ap (λ q. q.count) p.stays.gone)
