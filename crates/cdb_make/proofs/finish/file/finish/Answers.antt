use Rattle.cdb_make.proofs.Words.{IsFinished, List, SameImages, WordPair, ap, arith, common_steps, get_or, get_or-map, kept_same, length, length-map, mul-le-mul_left, roll_entries, roll_tables, rules, slots_within, sum_by, sym, ℕ, ◌*◌, ◌+◌, ◌∙◌, ◌≡◌, ◌≤◌}
use Rattle.cdb_make.proofs.FinishedFile.{kept_then, head_kept, head_then}
use Rattle.cdb_make.proofs.Tables.{counts_at_most, roll_long, tables_sum}
use Rattle.cdb_make.proofs.finish.file.finish.Goals as goal

-- room that is made first changes no image
finished_same : {w end : ℕ} {ls : List (List WordPair)} {i j k : List ℕ → Type 0} → SameImages i j → IsFinished w end ls j k → IsFinished w end ls i k
finished_same same file = record { each = λ b is. let h = file.each b is in (h.0, same.no_other h.0 h.1, h.2) }

pub overflow_mul-pair_size : goal.overflow_mul-pair_size
overflow_mul-pair_size g c =
    let m = c.args.roll.now in
    let w : ℕ = g.L.Width.WORD in
    let n : ℕ = length m.hashes.items in
    let few : c.longest-most.result ≤ n = c.longest-most.ensures.least n (counts_at_most (roll_entries m) c.counts_of-counts.result n (roll_long m) c.counts_of-counts.ensures) in
    let e : c.pair_size.result * (2 * c.longest-most.result) ≡ 4 * w * c.longest-most.result = ap (λ (k : ℕ). k * (2 * c.longest-most.result)) c.pair_size.ensures ∙ omega arith in
    omega (arith, e, mul-le-mul_left (4 * w) few, c.requires.limit, g.met.L.Width.greatest_fits.1)

pub returns-in_err-reserve-clause-kept : goal.returns-in_err-reserve-clause-kept
returns-in_err-reserve-clause-kept g c = kept_same _ _ c.reserve.ensures.images

pub returns-in_err-write_parts-clause-kept : goal.returns-in_err-write_parts-clause-kept
returns-in_err-write_parts-clause-kept g c = kept_then (kept_same _ _ c.reserve.ensures.images) c.write_parts.ensures.kept

pub returns-in_err-reserve-clause-head_last : goal.returns-in_err-reserve-clause-head_last
returns-in_err-reserve-clause-head_last g c = head_kept (kept_same _ _ c.reserve.ensures.images)

pub returns-in_err-write_parts-clause-head_last : goal.returns-in_err-write_parts-clause-head_last
returns-in_err-write_parts-clause-head_last g c = head_then c.reserve.ensures.images c.write_parts.ensures.head_last

pub returns-clause-head_last : goal.returns-clause-head_last
returns-clause-head_last g c = head_then c.reserve.ensures.images c.write_parts.ensures.head_last

pub returns-clause-file : goal.returns-clause-file
returns-clause-file g c = finished_same c.reserve.ensures.images c.in_ok-write_parts.ensures.file

pub returns-clause-kept : goal.returns-clause-kept
returns-clause-kept g c = kept_then (kept_same _ _ c.reserve.ensures.images) c.write_parts.ensures.kept

pub returns-clause-written : goal.returns-clause-written
returns-clause-written g c = search rules

pub returns-clause-inside : goal.returns-clause-inside
returns-clause-inside g c = search rules

pub write_parts-requires-clause-limit : goal.write_parts-requires-clause-limit
write_parts-requires-clause-limit g c =
    let m = c.args.roll.now in
    let e : 2 * c.pair_size-2.result * c.len.result ≡ 4 * g.L.Width.WORD * length m.hashes.items = ap (λ (k : ℕ). 2 * k * c.len.result) c.pair_size-2.ensures ∙ ap (λ (k : ℕ). 2 * (2 * g.L.Width.WORD) * k) c.len.ensures ∙ omega arith in
    omega (arith, e, c.requires.limit)

pub write_parts-requires-clause-last : goal.write_parts-requires-clause-last
write_parts-requires-clause-last g c =
    let m = c.args.roll.now in
    let w : ℕ = g.L.Width.WORD in
    let total : sum_by length (roll_tables m) ≡ c.len.result = tables_sum (roll_entries m) ∙ roll_long m ∙ sym c.len.ensures in
    let e : 2 * c.pair_size-2.result * c.len.result ≡ 4 * w * c.len.result = ap (λ (k : ℕ). 2 * k * c.len.result) c.pair_size-2.ensures ∙ omega arith in
    ap (λ (k : ℕ). m.end + k) (e ∙ ap (λ (k : ℕ). 4 * w * k) (sym total))

pub returns-clause-size : goal.returns-clause-size
returns-clause-size g c = search rules

pub returns-clause-memory_written : goal.returns-clause-memory_written
returns-clause-memory_written g c = grind (arith, common_steps)

pub returns-clause-failed : goal.returns-clause-failed
returns-clause-failed g c = search rules

pub reserve-requires : goal.reserve-requires
reserve-requires g c =
    let m = c.args.roll.now in
    let e : 2 * c.pair_size-2.result * c.len.result ≡ 4 * g.L.Width.WORD * length m.hashes.items = ap (λ (k : ℕ). 2 * k * c.len.result) c.pair_size-2.ensures ∙ ap (λ (k : ℕ). 2 * (2 * g.L.Width.WORD) * k) c.len.ensures ∙ omega arith in
    omega (arith, e, c.requires.limit, g.met.L.Width.greatest_fits.1)

pub returns-clause-room : goal.returns-clause-room
returns-clause-room g c = search rules

pub write_parts-requires-clause-runs : goal.write_parts-requires-clause-runs
write_parts-requires-clause-runs g c =
    let ts : List (List WordPair) = roll_tables c.args.roll.now in
    let counts : List ℕ = c.counts_of-counts.result in
    λ k d lt.
    let here : get_or counts k 0 ≡ length (get_or ts k d) = ap (λ (v : List ℕ). get_or v k 0) c.counts_of-counts.ensures ∙ get_or-map length ts k d 0 lt in
    let long : length counts ≡ length ts = ap length c.counts_of-counts.ensures ∙ length-map ts length in
    let most : get_or counts k 0 ≤ c.longest-most.result = c.longest-most.ensures.most k 0 (omega (arith, long)) in
    omega (arith, most, here, c.in_ok-runs.ensures.len, c.deref_mut-2.ensures.len)

pub returns-clause-memory_size : goal.returns-clause-memory_size
returns-clause-memory_size g c = search rules

pub write_parts-requires-clause-bytes : goal.write_parts-requires-clause-bytes
write_parts-requires-clause-bytes g c = grind (arith, common_steps)

pub overflow_mul-most : goal.overflow_mul-most
overflow_mul-most g c =
    let m = c.args.roll.now in
    let w : ℕ = g.L.Width.WORD in
    let n : ℕ = length m.hashes.items in
    let few : c.longest-most.result ≤ n = c.longest-most.ensures.least n (counts_at_most (roll_entries m) c.counts_of-counts.result n (roll_long m) c.counts_of-counts.ensures) in
    omega (arith, few, slots_within w n g.met.L.Width.four_or_eight, c.requires.limit, g.met.L.Width.greatest_fits.1)

pub returns-clause-memory : goal.returns-clause-memory
returns-clause-memory g c = grind (arith, common_steps)

pub returns-clause-failures : goal.returns-clause-failures
returns-clause-failures g c = grind (arith, common_steps)

pub returns-clause-unwritten : goal.returns-clause-unwritten
returns-clause-unwritten g c = grind (arith, common_steps)

pub returns-clause-memory_failures : goal.returns-clause-memory_failures
returns-clause-memory_failures g c = grind (arith, common_steps)

pub write_parts-requires-clause-lists : goal.write_parts-requires-clause-lists
write_parts-requires-clause-lists g c = grind (arith, common_steps)

pub write_parts-requires-clause-gathers : goal.write_parts-requires-clause-gathers
write_parts-requires-clause-gathers g c = grind (arith, common_steps)

pub slice_bounds-write_parts-end : goal.slice_bounds-write_parts-end
slice_bounds-write_parts-end g c = grind (arith, common_steps)
