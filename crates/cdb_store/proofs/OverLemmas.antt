-- Images with some bytes written over each of them.
use Rattle.cdb_store.proofs.Words.{AfterRead, AfterWrite, AreApart, AreSized, List, Over, SameImages, [], ap, append_assoc, arith, inl, inr, length, length-append, length-take-le, max, overwrite, part, refl, subst, sym, take, take-take, take_at, ℕ, ◌++◌, ◌+◌, ◌∙◌, ◌≡◌, ◌≤◌}
use Rattle.cdb_store.specs.Lengths.{over_taken}
use Rattle.cdb_store.proofs.Parts.{take-overwrite, drop-overwrite, part_from_take, overwrite-overwrite, overwrite_nothing, part_inside}
use Rattle.cdb_store.proofs.Moves.{same_refl, same_sym, same_trans, write_between}

pub over_nothing : (pos : ℕ) (i : List ℕ → Type 0) → SameImages (Over pos [] i) i
over_nothing pos i = record {
  no_other = λ b is. (b, is, sym (overwrite_nothing pos b));
  none_lost = λ b is. subst i (sym (is.2 ∙ overwrite_nothing pos is.0)) is.1;
}

pub over_same : (pos : ℕ) (bytes : List ℕ) {i j : List ℕ → Type 0} → SameImages i j → SameImages (Over pos bytes i) (Over pos bytes j)
over_same pos bytes s = record {
  no_other = λ b is. (is.0, s.no_other is.0 is.1, is.2);
  none_lost = λ b is. (is.0, s.none_lost is.0 is.1, is.2);
}

pub over_written : {pos : ℕ} {bytes : List ℕ} {i j : List ℕ → Type 0} → AfterWrite pos bytes i j → SameImages (Over pos bytes i) j
over_written {j = j} w = record {
  no_other = w.no_other;
  none_lost = λ b is. subst j (sym is.2) (w.none_lost is.0 is.1);
}

-- what is read beside the bytes written over each image
pub over_read : (pos : ℕ) (buffer : List ℕ) {from size : ℕ} {bytes : List ℕ} {i j : List ℕ → Type 0} → AreApart from (length bytes) pos (length buffer) → pos ≤ size → AreSized size i
    → AfterRead from bytes i j → AfterRead from bytes (Over pos buffer i) (Over pos buffer j)
over_read pos buffer {from = from} {bytes = bytes} {i = i} apart inside sized r =
    let same : (a b : List ℕ) → i a → b ≡ overwrite a pos buffer → part from (length bytes) b ≡ part from (length bytes) a =
    λ a b is e. let l : length a ≡ _ = sized.each a is in elim apart [
      | inl below ↦ part_from_take from (length bytes) (from + length bytes) a b refl (ap (take (from + length bytes)) e ∙ take-overwrite (from + length bytes) pos a buffer below (omega arith))
      | inr above ↦ ap (part from (length bytes)) e ∙ ap (take (length bytes)) (drop-overwrite from pos a buffer above (omega arith))
    ] in
    record {
      no_other = λ b is. (is.0, r.no_other is.0 is.1, is.2);
      read = λ b is. same is.0 b (r.no_other is.0 is.1) is.2 ∙ r.read is.0 is.1;
      none_lost = λ b is h. (is.0, r.none_lost is.0 is.1 (sym (same is.0 b is.1 is.2) ∙ h), is.2);
    }

pub over_more : {pos next size : ℕ} (buffer bytes : List ℕ) {i : List ℕ → Type 0} → next ≡ pos + length buffer → pos ≤ size → AreSized size i
    → AfterWrite next bytes (Over pos buffer i) (Over pos (buffer ++ bytes) i)
over_more {pos = pos} {next = next} buffer bytes {i = i} e inside sized =
    let joined : (a : List ℕ) → i a → overwrite (overwrite a pos buffer) next bytes ≡ overwrite a pos (buffer ++ bytes) =
    λ a is. let l : length a ≡ _ = sized.each a is in
    ap (λ k. overwrite (overwrite a pos buffer) k bytes) e ∙ overwrite-overwrite pos a buffer bytes (omega arith) in
    record {
      no_other = λ b is. (overwrite is.0 pos buffer, (is.0, is.1, refl), is.2 ∙ sym (joined is.0 is.1));
      none_lost = λ z is. (is.0, is.1, ap (λ v. overwrite v next bytes) is.2 ∙ joined is.0 is.1);
    }

taken_more : (len held : ℕ) (items bytes rest more : List ℕ) → held ≤ length items → held + length bytes ≤ len
    → take (held + length bytes) (take len ((take held items ++ (bytes ++ rest)) ++ more)) ≡ take held items ++ bytes
taken_more len held items bytes rest more fits inside =
    let n : ℕ = held + length bytes in
    let front : List ℕ = take held items in
    let l : length (front ++ bytes) ≡ n = length-append front bytes ∙ ap (λ k. k + length bytes) (length-take-le held items fits) in
    take-take n len ((front ++ (bytes ++ rest)) ++ more) inside
    ∙ ap (λ v. take n (v ++ more)) (sym (append_assoc front bytes rest))
    ∙ ap (take n) (append_assoc (front ++ bytes) rest more)
    ∙ take_at (front ++ bytes) (rest ++ more) n l

-- bytes that are put after those that a buffer holds, in a buffer of so many bytes
pub over_put : (len : ℕ) (rest more : List ℕ) {pos next size held n : ℕ} {items now piece bytes : List ℕ} {h i : List ℕ → Type 0} → SameImages h (Over pos (take held items) i) → now ≡ items → piece ≡ bytes
    → n ≡ length bytes → held ≤ length items → held + n ≤ len → next ≡ pos + held → pos ≤ size → AreSized size i
    → AfterWrite next bytes h (Over pos (take (held + n) (take len ((take held now ++ (piece ++ rest)) ++ more))) i)
over_put len rest more {pos = pos} {next = next} {held = held} {n = n} {items = items} {now = now} {piece = piece} {bytes = bytes} {h = h} {i = i} begun same put count fits room here inside sized =
    let joined : take (held + n) (take len ((take held now ++ (piece ++ rest)) ++ more)) ≡ take held items ++ bytes =
    ap (λ (v : List ℕ). take (held + n) (take len ((take held v ++ (piece ++ rest)) ++ more))) same
    ∙ ap (λ (v : List ℕ). take (held + n) (take len ((take held items ++ (v ++ rest)) ++ more))) put
    ∙ ap (λ (k : ℕ). take (held + k) (take len ((take held items ++ (bytes ++ rest)) ++ more))) count
    ∙ taken_more len held items bytes rest more fits (omega arith) in
    let l : length (take held items) ≡ held = length-take-le held items fits in
    let after = Over pos (take held items ++ bytes) i in
    subst (λ (v : List ℕ). AfterWrite next bytes h (Over pos v i)) (sym joined) (write_between begun (over_more (take held items) bytes (omega arith) inside sized) (same_refl after))

pub over_emptied : (pos : ℕ) (bytes : List ℕ) (i : List ℕ → Type 0) → bytes ≡ [] → SameImages (Over pos bytes i) i
over_emptied pos bytes i e = rw e (over_nothing pos i)

pub over_placed : (pos next : ℕ) (bytes : List ℕ) (i : List ℕ → Type 0) → bytes ≡ [] → SameImages (Over pos bytes i) (Over next bytes i)
over_placed pos next bytes i e = same_trans (over_emptied pos bytes i e) (same_sym (over_emptied next bytes i e))

pub sized_taken : {n : ℕ} (pos k : ℕ) (bytes : List ℕ) {i : List ℕ → Type 0} → pos ≤ n → k ≤ length bytes → AreSized n i → AreSized (max n (pos + k)) (Over pos (take k bytes) i)
sized_taken {n = n} pos k bytes {i = i} inside fits sized = record { each = over_taken pos k bytes n i sized.each inside fits }

-- what is read from the bytes written over each image
pub over_inside : (pos d : ℕ) (buffer : List ℕ) {next size : ℕ} {bytes : List ℕ} {i : List ℕ → Type 0} → next ≡ pos + d → d + length bytes ≤ length buffer → pos ≤ size → AreSized size i
    → bytes ≡ part d (length bytes) buffer → AfterRead next bytes (Over pos buffer i) (Over pos buffer i)
over_inside pos d buffer {next = next} {bytes = bytes} here fits inside sized e = record {
  no_other = λ b is. is;
  read = λ b is.
      let l : length is.0 ≡ _ = sized.each is.0 is.1 in
      ap (λ p. part p (length bytes) b) here ∙ ap (part (pos + d) (length bytes)) is.2 ∙ part_inside pos d (length bytes) is.0 buffer (omega arith) fits ∙ sym e;
  none_lost = λ b is _. is;
}
