use Rattle.cdb_tool.proofs.Words.{List, Maker, OnlyReads, [], length, take, ℕ, ◌≡◌}
use Rattle.std.specs.Prelude.{drop, ◌-◌}
use Rattle.cdb_make.specs.Views.Long.{IsPart}
use Rattle.cdb_tool.proofs.runs.make_base.copy_value.Given as goal

-- the value so far was read and written
abbrev pub invariant-loop-long : goal.invariant-loop-long
invariant-loop-long g l =
    record {
      same : l.records.reader.ghost_name ≡ l.initial.records.reader.ghost_name;
      stays : l.records.walking ≡ l.fn.records.walking;
      reads : OnlyReads g.B.Store l.fn.records.reader.now.store l.records.reader.now.store;
      part : (first : Maker g.row.S.Denot g.row.L.Denot g.S.Store g.L.Width) (key : List ℕ) → IsPart first l.fn.maker key l.fn.value.len [] l.fn.long → (got : List ℕ) × IsPart first l.maker key l.fn.value.len got l.long × ((b : List ℕ) → g.B.Store.image l.records.reader.now.store b → got ≡ take (length got) (drop l.fn.value.place b));
    }

abbrev pub decreases-loop-long : goal.decreases-loop-long
decreases-loop-long g l = l.long.last - l.long.end
