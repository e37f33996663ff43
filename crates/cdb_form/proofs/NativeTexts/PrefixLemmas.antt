-- What bytes of a native text begin with, part after part.
use Rattle.cdb_form.proofs.Words.{IsNumeral, IsRecord, KeyValue, List, [], ap, append_assoc, arith, codes, drop, get_or, length, length-drop, length-take-le, refl, subst, sym, take, take-add, take_more, ℕ, ◌++◌, ◌+◌, ◌<◌, ◌∙◌, ◌∷◌, ◌≡◌, ◌≤◌}
use Rattle.cdb_form.specs.Views.Prefix.{BeginsWithBody, BeginsWithLengths, BeginsWithRecord}
use Rattle.cdb_form.specs.declared.text.prefix.PrefixLengths.{PrefixLengths}

-- a numeral of n, followed by `stop`, up to a place
pub record BeginsWithNumeral (stop : ℕ) (bytes : List ℕ) (n end : ℕ) : Type 0 where
  pub digits : List ℕ
  pub is : IsNumeral digits n
  pub front : take end bytes ≡ digits ++ stop ∷ []
  pub within : end ≤ length bytes

-- the key and the value with their marks
pub body_prefix : (klen vlen : ℕ) (bytes : List ℕ) → klen + vlen + 3 ≤ length bytes → get_or bytes klen 0 ≡ 45 → get_or bytes (klen + 1) 0 ≡ 62 → get_or bytes (klen + 2 + vlen) 0 ≡ 10 → BeginsWithBody klen vlen bytes
body_prefix klen vlen bytes within dash angle newline =
    let at = klen + 2 + vlen in
    let key = take klen bytes in
    let value = take vlen (drop (klen + 2) bytes) in
    let count : klen + vlen + 3 ≡ at + 1 = omega arith in
    let next : klen + 2 ≡ klen + 1 + 1 = omega arith in
    let one : take (klen + 1) bytes ≡ key ++ 45 ∷ [] = take_more bytes klen 0 (omega arith) ∙ ap (λ c. key ++ c ∷ []) dash in
    let two : take (klen + 2) bytes ≡ key ++ 45 ∷ 62 ∷ [] =
    ap (λ (k : ℕ). take k bytes) next ∙ take_more bytes (klen + 1) 0 (omega arith) ∙ ap (λ c. take (klen + 1) bytes ++ c ∷ []) angle
    ∙ ap (λ t. t ++ 62 ∷ []) one ∙ append_assoc key (45 ∷ []) (62 ∷ []) in
    let both : take at bytes ≡ (key ++ 45 ∷ 62 ∷ []) ++ value = take-add (klen + 2) vlen bytes ∙ ap (λ t. t ++ value) two in
    let last : ((key ++ 45 ∷ 62 ∷ []) ++ value) ++ 10 ∷ [] ≡ key ++ codes "->" ++ value ++ codes "\n" = simp append_assoc refl in
    record {
      front = ap (λ (k : ℕ). take k bytes) count ∙ take_more bytes at 0 (omega arith) ∙ ap (λ c. take at bytes ++ c ∷ []) newline
          ∙ ap (λ t. t ++ 10 ∷ []) both ∙ last;
      within = within;
    }

-- a plus and two numerals
pub lengths_prefix : (greatest : ℕ) (bytes : List ℕ) (kend vend : ℕ) (l : PrefixLengths) → 0 < length bytes → get_or bytes 0 0 ≡ 43 → BeginsWithNumeral 44 (drop 1 bytes) l.klen kend → BeginsWithNumeral 58 (drop (1 + kend) bytes) l.vlen vend
    → l.klen ≤ greatest → l.vlen ≤ greatest → l.end ≡ 1 + kend + vend → BeginsWithLengths greatest bytes l
lengths_prefix greatest bytes kend vend l some plus a b kfits vfits end =
    let one : take 1 bytes ≡ 43 ∷ [] = take_more bytes 0 0 some ∙ ap (λ c. c ∷ []) plus in
    let two : take (1 + kend) bytes ≡ (43 ∷ []) ++ (a.digits ++ 44 ∷ []) = take-add 1 kend bytes ∙ ap (λ t. t ++ take kend (drop 1 bytes)) one ∙ ap (λ t. (43 ∷ []) ++ t) a.front in
    let three : take (1 + kend + vend) bytes ≡ ((43 ∷ []) ++ (a.digits ++ 44 ∷ [])) ++ (b.digits ++ 58 ∷ []) =
    take-add (1 + kend) vend bytes ∙ ap (λ t. t ++ take vend (drop (1 + kend) bytes)) two ∙ ap (λ t. ((43 ∷ []) ++ (a.digits ++ 44 ∷ [])) ++ t) b.front in
    let last : ((43 ∷ []) ++ (a.digits ++ 44 ∷ [])) ++ (b.digits ++ 58 ∷ []) ≡ codes "+" ++ a.digits ++ codes "," ++ b.digits ++ codes ":" = simp append_assoc refl in
    record {
      klen = a.digits;
      vlen = b.digits;
      klen_is = a.is;
      vlen_is = b.is;
      key_fits = kfits;
      value_fits = vfits;
      front = ap (λ (n : ℕ). take n bytes) end ∙ three ∙ last;
      within = omega (arith, end, a.within, b.within, length-drop 1 bytes, length-drop (1 + kend) bytes);
    }

-- the whole record
pub record_prefix : (greatest : ℕ) (bytes : List ℕ) (l : PrefixLengths) (r : KeyValue) → BeginsWithLengths greatest bytes l → BeginsWithBody l.klen l.vlen (drop l.end bytes)
    → r.key ≡ take l.klen (drop l.end bytes) → r.value ≡ take l.vlen (drop (l.klen + 2) (drop l.end bytes)) → IsRecord r → BeginsWithRecord greatest bytes (l.end + (l.klen + l.vlen + 3)) r
record_prefix greatest bytes l r a b key value are =
    let body = drop l.end bytes in
    let behind = length-drop (l.klen + 2) body in
    let klong : l.klen ≡ length r.key = sym (ap length key ∙ length-take-le l.klen body (omega (arith, b.within))) in
    let vlong : l.vlen ≡ length r.value = sym (ap length value ∙ length-take-le l.vlen (drop (l.klen + 2) body) (omega (arith, b.within, behind))) in
    let lengths : codes "+" ++ a.klen ++ codes "," ++ a.vlen ++ codes ":" ≡ 43 ∷ (a.klen ++ 44 ∷ (a.vlen ++ 58 ∷ [])) = simp append_assoc refl in
    let front : take l.end bytes ≡ 43 ∷ (a.klen ++ 44 ∷ (a.vlen ++ 58 ∷ [])) = a.front ∙ lengths in
    let marks : take l.klen body ++ codes "->" ++ take l.vlen (drop (l.klen + 2) body) ++ codes "\n" ≡ take l.klen body ++ 45 ∷ 62 ∷ (take l.vlen (drop (l.klen + 2) body) ++ 10 ∷ []) = simp append_assoc refl in
    let both : take (l.klen + l.vlen + 3) body ≡ take l.klen body ++ 45 ∷ 62 ∷ (take l.vlen (drop (l.klen + 2) body) ++ 10 ∷ []) = b.front ∙ marks in
    let text : take (l.end + (l.klen + l.vlen + 3)) bytes ≡ (43 ∷ (a.klen ++ 44 ∷ (a.vlen ++ 58 ∷ []))) ++ (r.key ++ 45 ∷ 62 ∷ (r.value ++ 10 ∷ [])) =
    take-add l.end (l.klen + l.vlen + 3) bytes ∙ ap (λ t. t ++ take (l.klen + l.vlen + 3) body) front ∙ ap (λ t. (43 ∷ (a.klen ++ 44 ∷ (a.vlen ++ 58 ∷ []))) ++ t) both
    ∙ ap (λ t. (43 ∷ (a.klen ++ 44 ∷ (a.vlen ++ 58 ∷ []))) ++ (t ++ 45 ∷ 62 ∷ (take l.vlen (drop (l.klen + 2) body) ++ 10 ∷ []))) (sym key)
    ∙ ap (λ t. (43 ∷ (a.klen ++ 44 ∷ (a.vlen ++ 58 ∷ []))) ++ (r.key ++ 45 ∷ 62 ∷ (t ++ 10 ∷ []))) (sym value) in
    let last : (43 ∷ (a.klen ++ 44 ∷ (a.vlen ++ 58 ∷ []))) ++ (r.key ++ 45 ∷ 62 ∷ (r.value ++ 10 ∷ []))
    ≡ codes "+" ++ a.klen ++ codes "," ++ a.vlen ++ codes ":" ++ r.key ++ codes "->" ++ r.value ++ codes "\n" = simp append_assoc refl in
    record {
      spells = record {
        klen = a.klen;
        vlen = a.vlen;
        klen_is = subst (IsNumeral a.klen) klong a.klen_is;
        vlen_is = subst (IsNumeral a.vlen) vlong a.vlen_is;
        key_fits = omega (arith, klong, a.key_fits);
        value_fits = omega (arith, vlong, a.value_fits);
        bytes = are;
        text_is = text ∙ last;
      };
      within = omega (arith, a.within, b.within, length-drop l.end bytes);
    }
