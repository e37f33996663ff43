use Rattle.std.proofs.Common.{◌∙◌, ◌+◌, ◌-◌, ◌%◌, ◌^◌, ap, arith, cond, map, w8, replicate, ℕ, List, leb}
use Rattle.std.specs.Prelude.{bit_and}
use Rattle.std.specs.Simd.Lanes.{mask_l, zip2, top}
use Rattle.std.proofs.lemmas.Simd.{bitmask_splat, Each1-zip2, Each2-splat, Each1-all, map-map}
use Rattle.cdb_make.proofs.Words.{is_among, length-map}
use Rattle.std.proofs.lemmas.Nat.{and_mask}
use Rattle.cdb_make.proofs.Gathering.{lanes_are, tests_same}
use Rattle.cdb_make.proofs.finish.gather.of_tables.Goals as goal

pub overflow_cast-tables : goal.overflow_cast-tables
overflow_cast-tables c = Each1-zip2 _ _ c.args.hashes (replicate 16 255) (Each2-splat _ c.args.hashes 16 255 (Each1-all _ (λ (a : ℕ). record { fits = omega (arith, and_mask a 8) }) c.args.hashes))

pub returns : goal.returns
returns c =
    let xs : List ℕ = c.args.hashes in
    let g : ℕ → ℕ = λ x. (bit_and x 255 + (256 - c.args.first)) % 256 in
    ap (λ (v : List ℕ). mask_l (map (top 7) (zip2 (λ (a b : ℕ). cond (leb a b) 255 0) v (replicate 16 c.args.more))) % 2 ^ 64) (lanes_are bit_and (λ a. a) (λ a b. (a + (256 - b)) % 256) xs 16 255 c.args.first c.fits-hashes.0)
    ∙ bitmask_splat w8 leb (map g xs) 16 c.args.more (length-map xs g ∙ c.fits-hashes.0) (omega arith)
    ∙ ap mask_l (map-map (λ (v : ℕ). leb v c.args.more) g xs)
    ∙ ap mask_l (tests_same (λ x. leb (g x) c.args.more) (is_among c.args.first c.args.more) (λ x. ap (λ (v : ℕ). leb ((v + (256 - c.args.first)) % 256) c.args.more) (and_mask x 8)) xs)
