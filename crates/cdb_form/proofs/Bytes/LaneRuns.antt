-- Runs of bytes that are looked at 16 or 32 at once.
use Rattle.cdb_form.proofs.Words.{Kind, List, ap, arith, cases_lt, drop, false, get_or, inl, inr, is_of, length, map, mask_l, may_end, not, prefix_len, sym, take, true, ℕ, ◌+◌, ◌<◌, ◌∙◌, ◌≡◌, ◌≢◌, ◌≤◌}
use Rattle.std.specs.Int.Count.{count_trailing_zeros}
use Rattle.std.proofs.lemmas.Simd.{leading_from_mask_l, length-chunk, run_in_chunk_fails, run_in_chunk_le, trailing_mask_l}
use Rattle.cdb_form.specs.declared.text.kind.Kind.TheVariants.{Blank, InLine, InWord}

-- a byte that ends no run of a kind is of the kind
of_kind : (kind : Kind) (c : ℕ) → may_end kind c ≡ false → is_of kind c ≡ true
of_kind Blank c h = grind arith
of_kind InWord c h = grind arith
of_kind InLine c h = grind arith

-- the bytes of a kind so far
pub record WideRun (kind : Kind) (bytes : List ℕ) (place : ℕ) : Type 0 where
  pub within : place ≤ length bytes
  pub each : (k : ℕ) → k < place → is_of kind (get_or bytes k 0) ≡ true

-- and r more of n
wide_more : (kind : Kind) (bytes : List ℕ) (place n r : ℕ) → WideRun kind bytes place → place + n ≤ length bytes → r ≡ prefix_len (λ c. not (may_end kind c)) (take n (drop place bytes)) → WideRun kind bytes (place + r)
wide_more kind bytes place n r so room counted = record {
  within = omega (arith, room, run_in_chunk_le (may_end kind) bytes place n r 0 room counted);
  each = λ k l. elim (cases_lt k place) [
    | inl before ↦ so.each k before
    | inr from ↦ of_kind kind (get_or bytes k 0) (run_in_chunk_fails (may_end kind) bytes place n r 0 room counted k from l)
  ];
}

-- up to the first of n bytes that may end it
pub wide_stops : (kind : Kind) (bytes : List ℕ) (place n ends : ℕ) → n ≤ 64 → WideRun kind bytes place → place + n ≤ length bytes → ends ≡ mask_l (map (may_end kind) (take n (drop place bytes))) → ends ≢ 0 → WideRun kind bytes (place + count_trailing_zeros 64 ends)
wide_stops kind bytes place n ends few so room is some =
    let lanes = take n (drop place bytes) in
    wide_more kind bytes place n (count_trailing_zeros 64 ends) so room
    (ap (count_trailing_zeros 64) is ∙ trailing_mask_l (may_end kind) 64 lanes (omega (arith, few, length-chunk place n bytes room)) (omega (arith, is, some)))

-- or all n
pub wide_goes_on : (kind : Kind) (bytes : List ℕ) (place n ends : ℕ) → WideRun kind bytes place → place + n ≤ length bytes → ends ≡ mask_l (map (may_end kind) (take n (drop place bytes))) → ends ≡ 0 → WideRun kind bytes (place + n)
wide_goes_on kind bytes place n ends so room is none =
    wide_more kind bytes place n n so room (sym (leading_from_mask_l (may_end kind) (take n (drop place bytes)) (sym is ∙ none) ∙ length-chunk place n bytes room))
