-- A buffer that is filled, record after record.
use Rattle.cdb_form.proofs.Words.{IsRecord, KeyValue, List, [], append-nil, append_assoc, ap, arith, drop, drop-drop, flat_map, flat_map-append, is_newline, length, line_records, record_bytes, refl, subst, sym, take, take-add, with_newlines, BeginsWithLine, Lacks, Spells, ℕ, ◌++◌, ◌+◌, ◌<◌, ◌∙◌, ◌∷◌, ◌≡◌, ◌≤◌, All-nil, All-push}
use Rattle.std.proofs.lemmas.List.{length_push}
use Rattle.std.proofs.lemmas.List.Elements.{All-cons}
use Rattle.cdb_form.specs.Laws.Text.{LengthsFit}
use Rattle.cdb_form.specs.Text.Form.{Spelled}
use Rattle.cdb_form.specs.Views.Fill.{BeginsWithEach, Fills, nothing}
use Rattle.cdb_form.specs.Views.MapReader.{ReadLines}
use Rattle.cdb_form.specs.Views.Prefix.{BeginsWithRecord}
use Rattle.cdb_form.specs.declared.text.fill.Filled.{Filled}

-- nothing is filled
pub fills_none : (Come : List KeyValue → Type 0) (w top : ℕ) (old : List ℕ) (from : ℕ) → from ≤ length old → Come [] → Fills Come w top old old from (nothing from)
fills_none Come w top old from within come = record {
  records = [];
  come = come;
  count = refl;
  are = All-nil IsRecord;
  fit = All-nil (LengthsFit top);
  written = sym (append-nil (take from old));
  within = within;
  long = refl;
}

-- what is filled so far
pub record Filling (Begins : List ℕ → ℕ → KeyValue → Type 0) (w top : ℕ) (text old new : List ℕ) (from taken end count : ℕ) : Type 0 where
  pub fills : Fills (λ rs. BeginsWithEach Begins rs text taken) w top old new from (record { taken = taken; held = end; count = count })
  pub within : taken ≤ length text
  pub few : count ≤ taken
  pub from_on : from ≤ end

-- one record more begins the rest
begins_push : (Begins : List ℕ → ℕ → KeyValue → Type 0) (rs : List KeyValue) (text : List ℕ) (n k : ℕ) (r : KeyValue) → BeginsWithEach Begins rs text n → Begins (drop n text) k r → BeginsWithEach Begins (rs ++ r ∷ []) text (n + k)
begins_push Begins [] text n k r so next =
    let at : n ≡ 0 = so in
    (k, 0, subst (λ (m : ℕ). Begins (drop m text) k r) at next, omega (arith, at), refl)
begins_push Begins (q ∷ rs) text n k r (j, more, first, is, so) next =
    let total : n + k ≡ j + (more + k) = omega (arith, is) in
    let rest : drop n text ≡ drop more (drop j text) = ap (λ (m : ℕ). drop m text) is ∙ sym (drop-drop more j text) in
    (j, more + k, first, total, begins_push Begins rs (drop j text) more k r so (subst (λ t. Begins t k r) rest next))

pub filling_more : (Begins : List ℕ → ℕ → KeyValue → Type 0) (w top : ℕ) (text old now new : List ℕ) (from taken end count k taken' end' : ℕ) (r : KeyValue) → Filling Begins w top text old now from taken end count
    → Begins (drop taken text) k r → 0 < k → taken' ≡ taken + k → taken' ≤ length text → IsRecord r → LengthsFit top r → take end' new ≡ take end now ++ record_bytes w r → end ≤ end' → end' ≤ length new → length new ≡ length now
    → Filling Begins w top text old new from taken' end' (count + 1)
filling_more Begins w top text old now new from taken end count k taken' end' r so next some taken_is within is fits written later room long =
    let f = so.fills in
    let rs = f.records in
    let many : count ≡ length rs = f.count in
    let front : take end now ≡ take from old ++ flat_map (record_bytes w) rs = f.written in
    let last : flat_map (record_bytes w) (rs ++ r ∷ []) ≡ flat_map (record_bytes w) rs ++ record_bytes w r = flat_map-append (record_bytes w) rs (r ∷ []) ∙ ap (λ t. flat_map (record_bytes w) rs ++ t) (append-nil (record_bytes w r)) in
    record {
      fills = record {
        records = rs ++ r ∷ [];
        come = subst (λ (n : ℕ). BeginsWithEach Begins (rs ++ r ∷ []) text n) (sym taken_is) (begins_push Begins rs text taken k r f.come next);
        count = omega (arith, many, length_push rs r);
        are = All-push IsRecord rs r f.are is;
        fit = All-push (LengthsFit top) rs r f.fit fits;
        written = written ∙ ap (λ t. t ++ record_bytes w r) front ∙ append_assoc (take from old) (flat_map (record_bytes w) rs) (record_bytes w r) ∙ ap (λ t. take from old ++ t) (sym last);
        within = room;
        long = long ∙ f.long;
      };
      within = within;
      few = omega (arith, so.few, some, taken_is);
      from_on = omega (arith, so.from_on, later);
    }

-- ---- the text that was taken

pub spelled_each : (g : ℕ) (rs : List KeyValue) (text : List ℕ) (n : ℕ) → BeginsWithEach (BeginsWithRecord g) rs text n → Spelled Spells g rs (take n text) []
spelled_each g [] text n so = ap (λ (m : ℕ). take m text) so
spelled_each g (r ∷ rs) text n (k, more, begins, is, so) = (
  take k text,
  take more (drop k text),
  begins.spells,
  ap (λ (m : ℕ). take m text) is ∙ take-add k more text,
  spelled_each g rs (drop k text) more so,
)

pub lines_each : (rs : List KeyValue) (text : List ℕ) (n : ℕ) → BeginsWithEach BeginsWithLine rs text n → ReadLines (take n text) [] rs
lines_each [] text n so = record { lines = []; whole = All-nil (Lacks is_newline); split = ap (λ (m : ℕ). take m text) so; records = refl }
lines_each (r ∷ rs) text n (k, more, begins, is, so) =
    let rest = lines_each rs (drop k text) more so in
    let first : take k text ≡ begins.line ++ 10 ∷ [] = begins.front in
    let others : take more (drop k text) ≡ with_newlines rest.lines ++ [] = rest.split in
    record {
      lines = begins.line ∷ rest.lines;
      whole = All-cons (Lacks is_newline) begins.line rest.lines begins.is.whole rest.whole;
      split = ap (λ (m : ℕ). take m text) is ∙ take-add k more text ∙ ap (λ t. t ++ take more (drop k text)) first ∙ ap (λ t. (begins.line ++ 10 ∷ []) ++ t) others
          ∙ sym (append_assoc (begins.line ++ 10 ∷ []) (with_newlines rest.lines) []);
      records = ap (λ t. t ++ flat_map line_records rest.lines) begins.is.holds ∙ ap (λ t. r ∷ t) rest.records;
    }

-- what comes otherwise is filled just as well
pub fills_as : (Come Comes : List KeyValue → Type 0) (w top : ℕ) (old new : List ℕ) (from : ℕ) (f : Filled) → (fills : Fills Come w top old new from f) → Comes fills.records → Fills Comes w top old new from f
fills_as Come Comes w top old new from f fills comes = record {
  records = fills.records;
  come = comes;
  count = fills.count;
  are = fills.are;
  fit = fills.fit;
  written = fills.written;
  within = fills.within;
  long = fills.long;
}
