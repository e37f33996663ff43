use Rattle.cdb_form.proofs.Words.{ap, arith, length-map, leb, map, mask_l, replicate, w8, ℕ, ◌%◌, ◌+◌, ◌-◌, ◌^◌, ◌∙◌, ◌≡◌, List, length}
use Rattle.std.proofs.lemmas.Simd.{map-map, mask_l-mod, tops_compared, zip2_splat, zip2_splat_left}
use lib.Lanes.{zip2}
use Rattle.cdb_form.proofs.text.lanes.digit_ends.Goals as goal

pub returns : goal.returns
returns c =
    let xs = c.args.bytes in
    let sub = λ (x y : ℕ). (x + (256 - y)) % 256 in
    let down : List ℕ = zip2 sub xs (replicate 16 48) in
    let is : down ≡ map (λ x. sub x 48) xs = zip2_splat sub xs 16 48 c.fits-bytes.0 in
    let long : length down ≡ 16 = ap length is ∙ length-map xs (λ x. sub x 48) ∙ c.fits-bytes.0 in
    let compared = tops_compared w8 leb (replicate 16 10) down ∙ zip2_splat_left leb 10 16 down long ∙ ap (map (leb 10)) is ∙ map-map (leb 10) (λ x. sub x 48) xs in
    let few = length-map xs (λ x. leb 10 (sub x 48)) in
    ap (λ bits. mask_l bits % 2 ^ 64) compared ∙ mask_l-mod (map (λ x. leb 10 (sub x 48)) xs) 64 (omega (arith, few, c.fits-bytes.0))
