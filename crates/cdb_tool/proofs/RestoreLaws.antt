-- A dump of a made file is made into the same file.
use Rattle.cdb_tool.proofs.Words.{List, [], ap, arith, file_size, ℕ, ◌*◌, ◌+◌, ◌<◌, ◌^◌, ◌∷◌, ◌≡◌, ◌≤◌, ◌⊎◌}
use Rattle.std.proofs.lemmas.List.Sums.{sum_by-cons}
use Rattle.std.specs.List.{AllByRecursion}
use Rattle.std.specs.Prelude.{sum_by}
use Rattle.cdb_form.specs.Laws.Text.{LengthsFit}
use Rattle.cdb_form.specs.Format.{KeyValue, IsRecord, record_size}
use Rattle.cdb_form.proofs.NativeTexts.TextLaws.{text_reads_back}
use Rattle.cdb_form.proofs.Files.WalkLaws.{walk_of-file_bytes}
use Rattle.cdb_show.specs.Runs.WalkText.{dump_form, walk_text}
use Rattle.cdb_command.specs.declared.style.Style.TheVariants.{Native}
use Rattle.cdb_tool.specs.Laws.{Restores}

-- no length is above the size of the file
lengths_fit : (w room : ℕ) (rs : List KeyValue) → sum_by (λ r. record_size w r + 4 * w) rs ≤ room → AllByRecursion (LengthsFit room) rs
lengths_fit w room [] fits = tt
lengths_fit w room (r ∷ rs) fits =
    let whole = sum_by-cons (λ r. record_size w r + 4 * w) r rs in
    (record { key = omega (arith, whole, fits); value = omega (arith, whole, fits) }, lengths_fit w room rs (omega (arith, whole, fits)))

pub restores : (w top greatest : ℕ) (rs : List KeyValue) → (w ≡ 4) ⊎ (w ≡ 8) → top + 1 ≡ 256 ^ w → greatest ≤ top → greatest < 2 ^ 64 → AllByRecursion IsRecord rs → file_size w rs ≤ greatest → Restores w greatest rs
restores w top greatest rs width top_is within few are fits = record {
  dump = ap (walk_text (dump_form Native)) (walk_of-file_bytes w top rs width top_is (omega arith));
  text = text_reads_back greatest rs [] few are (lengths_fit w greatest rs (omega arith));
}
