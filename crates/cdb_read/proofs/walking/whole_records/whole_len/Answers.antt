use Rattle.std.proofs.Common.{◌≡◌, ℕ, ◌+◌, ◌≤◌, List, Some, None, length, drop, length-drop, sym, ap, ◌∙◌, subst, arith}
use Rattle.std.proofs.lemmas.List.{drop-drop, take_rest}
use Rattle.cdb_form.specs.Format.{prefix_size}
use Rattle.cdb_form.specs.Views.Prefix.{PrefixTells}
use Rattle.cdb_read.proofs.Walked.WalkedLengths.{some_word}
use Rattle.cdb_read.proofs.Walked.AheadRecords.{all_size, size_step, size_end}
use Rattle.cdb_read.proofs.walking.whole_records.whole_len.Goals as goal

pub loop-len-preserved : goal.loop-len-preserved
loop-len-preserved g c =
    let w = g.L.Width.WORD in
    let bytes : List ℕ = c.args.bytes.now in
    let rest : List ℕ = drop c.loop-len.done bytes in
    let told : PrefixTells w rest (Some c.in-Some.len) = subst (λ t. PrefixTells w t (Some c.in-Some.len)) (take_rest bytes c.loop-len.done) c.in-Some.ensures in
    let size : c.in-Some.len ≡ prefix_size w rest = told.0 in
    let fits : c.in-Some.len ≤ length rest = told.1 in
    let left = length-drop c.loop-len.done bytes in
    let so_far = c.loop-len.invariant.so_far in
    let step : all_size w rest ≡ c.in-Some.len + all_size w (drop (c.loop-len.done + c.in-Some.len) bytes) =
    size_step w rest (some_word w g.met.L.Width.four_or_eight) (omega arith)
    ∙ ap (λ n. n + all_size w (drop n rest)) (sym size)
    ∙ ap (λ t. c.in-Some.len + all_size w t) (drop-drop c.in-Some.len c.loop-len.done bytes) in
    record {
      within = omega arith;
      so_far = omega (arith, so_far, step);
    }

pub returns-clause-whole : goal.returns-clause-whole
returns-clause-whole g c =
    let w = g.L.Width.WORD in
    let bytes : List ℕ = c.args.bytes.now in
    let told : PrefixTells w (drop c.loop-len.done bytes) None = subst (λ t. PrefixTells w t None) (take_rest bytes c.loop-len.done) c.in_default.ensures in
    omega (arith, c.loop-len.invariant.so_far, size_end w (drop c.loop-len.done bytes) told)
