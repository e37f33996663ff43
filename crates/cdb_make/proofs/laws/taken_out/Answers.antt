use Rattle.cdb_make.proofs.Words.{WordPair, ap, arith, head_size, left, lowered, record_size, ℕ, ◌-◌, ◌∙◌, ◌≡◌}
use Rattle.std.specs.Prelude.{List, filter, map}
use Rattle.cdb_form.specs.Format.{entries_from, file_entries, table_entries, in_table}
use Rattle.cdb_form.specs.Views.Pairs.{key_values}
use Rattle.cdb_make.proofs.Lowering.{left_lower}
use Rattle.cdb_make.proofs.laws.taken_out.Goals as goal

pub returns : goal.returns
unfolding table_entries
returns g c =
    let w = g.L.Width.WORD in
    let rs = key_values c.args._records.now in
    let marks = c.args._marks.now in
    let head : head_size w ≡ head_size w - 0 = omega arith in
    let all : file_entries w (left marks rs) ≡ lowered 0 marks (map (record_size w) rs) (file_entries w rs) =
    ap (λ (at : ℕ). entries_from w at (left marks rs)) head ∙ left_lower w 0 (head_size w) marks rs (omega arith) in
    record {
      places = all;
      tables = λ n. ap (λ (es : List WordPair). filter (in_table n) es) all;
    }
