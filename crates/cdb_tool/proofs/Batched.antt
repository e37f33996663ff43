-- The records that wait in a batch, as a file has them.
use Rattle.std.proofs.Common.{◌≡◌, ◌++◌, ◌∷◌, ◌∙◌, ◌+◌, ◌<◌, ◌≤◌, ℕ, List, [], ap, arith, drop, flat_map, length, length-append, subst, sym, take}
use Rattle.std.specs.Prelude.{All, ◌^◌, sum_by}
use Rattle.std.proofs.lemmas.List.{drop-drop, length-take-le, take_at}
use Rattle.std.proofs.lemmas.List.Concat.{flat_map-append}
use Rattle.std.proofs.lemmas.List.Elements.{All-append}
use Rattle.std.proofs.lemmas.List.Sums.{sum_by-cons}
use Rattle.cdb_form.specs.Format.{IsRecord, KeyValue, prefix_record, prefix_size, record_size}
unfoldable use Rattle.cdb_form.specs.Format.{record_bytes}
use Rattle.cdb_form.specs.Laws.Text.{LengthsFit}
use Rattle.cdb_form.proofs.Files.Prefixes.{Begins, prefix_reads}
use Rattle.cdb_form.proofs.Files.Sizes.{length-record_bytes, length-records}
use Rattle.cdb_form.proofs.Files.Standing.{Begins-record_bytes}
use Rattle.cdb_tool.specs.Runs.Batches.{HoldsBatch}
use Rattle.cdb_tool.specs.declared.runs.batch.Batch.{Batch}

-- each record has bytes
few_records : (w : ℕ) (rs : List KeyValue) → 0 < w → length rs ≤ sum_by (record_size w) rs
few_records w [] some = omega arith
few_records w (r ∷ rs) some = omega (arith, sum_by-cons (record_size w) r rs, few_records w rs some)

-- so no more records than bytes are put behind the first `from`
pub few_behind : (w : ℕ) (old new : List ℕ) (from end : ℕ) (rs : List KeyValue) → 0 < w → from ≤ length old → end ≤ length new → take end new ≡ take from old ++ flat_map (record_bytes w) rs → from + length rs ≤ end
few_behind w old new from end rs some first within written =
    let front : length (take from old) ≡ from = length-take-le from old first in
    omega (arith, length-take-le end new within, ap length written, length-append (take from old) (flat_map (record_bytes w) rs), front, length-records w rs, few_records w rs some)

-- ---- the records of a batch

-- more wait behind them
pub batch_more : {L : Type 0} (w top : ℕ) (old new : Batch L) (rs more : List KeyValue) → HoldsBatch w top old rs → take new.held new.bytes.items ≡ take old.held old.bytes.items ++ flat_map (record_bytes w) more → new.count ≡ old.count + length more
    → All IsRecord more → All (LengthsFit top) more → HoldsBatch w top new (rs ++ more)
batch_more w top old new rs more h written count are fit = record {
  bytes = written ∙ ap (λ v. v ++ flat_map (record_bytes w) more) h.bytes ∙ sym (flat_map-append (record_bytes w) rs more);
  count = omega (arith, count, h.count, length-append rs more);
  are = All-append IsRecord rs more h.are are;
  fit = All-append (LengthsFit top) rs more h.fit fit;
}

-- ---- one after the other

-- how the record at a place reads, and what is behind it
pub record NextIs (w place : ℕ) (bytes : List ℕ) (r : KeyValue) (rest : List ℕ) : Type 0 where
  pub is : prefix_record w (drop place bytes) ≡ r
  pub size : prefix_size w (drop place bytes) ≡ record_size w r
  pub fits : prefix_size w (drop place bytes) ≤ length (drop place bytes)
  pub own : take (prefix_size w (drop place bytes)) (drop place bytes) ≡ record_bytes w r
  pub rest_is : drop (place + record_size w r) bytes ≡ rest

pub batch_next : (w top place : ℕ) (bytes : List ℕ) (r : KeyValue) (rest : List ℕ) → top + 1 ≡ 256 ^ w → LengthsFit top r → drop place bytes ≡ record_bytes w r ++ rest → NextIs w place bytes r rest
batch_next w top place bytes r rest top_is fit are =
    let begins = Begins-record_bytes w top r rest top_is (record { first = fit.key; second = fit.value }) in
    let reads = prefix_reads w (drop place bytes) r rest (subst (λ v. Begins w v r rest) (sym are) begins) in
    record {
      is = reads.is;
      size = reads.size;
      fits = omega (arith, reads.size, reads.long);
      own = ap (take (prefix_size w (drop place bytes))) are ∙ take_at (record_bytes w r) rest (prefix_size w (drop place bytes)) (length-record_bytes w r ∙ sym reads.size);
      rest_is = sym (drop-drop (record_size w r) place bytes) ∙ reads.rest_is;
    }
