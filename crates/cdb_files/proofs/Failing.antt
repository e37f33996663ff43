-- Why the file of some records was not built, or not made, and why no database was opened.
use Rattle.std.proofs.Common.{◌≡◌, ◌+◌, ◌<◌, ◌≤◌, ℕ, inl, inr, List, [], ◌∷◌, ◌++◌, take, drop, refl, sym, ap, ◌∙◌, arith}
use Rattle.std.specs.Prelude.{sum_by}
use Rattle.std.proofs.lemmas.List.{map-append, take-append-drop}
use Rattle.std.proofs.lemmas.List.Sums.{sum_by-append}
use Rattle.cdb_store.specs.Images.{Over, overwrite}
use Rattle.cdb_store.specs.declared.store.Store.{Ghosts}
use Rattle.cdb_form.specs.declared.mode.Mode.TheVariants.{Add}
use Rattle.cdb_form.specs.declared.record.Record.{Record}
use Rattle.cdb_form.specs.declared.width.Width.{Ghosts as Widths}
use Rattle.cdb_form.specs.Format.{file_size, whole_size, KeyValue}
use Rattle.cdb_form.specs.Views.Pairs.{key_value, key_values}
use Rattle.cdb_make.specs.Views.Maker.{FailsPutting, Holds, MakingFault}
use Rattle.cdb_store.specs.declared.make_fault.MakeFault.{MakeFault}
use Rattle.cdb_store.specs.declared.make_fault.MakeFault.TheVariants.{Broken, Lookup, NoMemory, TooBig, Writing}
use Rattle.cdb_make.specs.declared.maker.Maker.{Maker}
use Rattle.cdb_files.specs.FileFault.{of_replace}
use Rattle.cdb_files.specs.Made.{FailsBuilding, IsOfBuilding}
use Rattle.cdb_names.specs.Replacing.{IsOfBuilder}
use Rattle.cdb_names.specs.declared.replace.ReplaceFault.{ReplaceFault}
use Rattle.cdb_names.specs.declared.replace.ReplaceFault.TheVariants as replacing

-- the file of the first records is no longer than that of all
first_fit : (w n : ℕ) (records : List Record) → file_size w (key_values (take n records)) ≤ file_size w (key_values records)
first_fit w n records =
    let all : key_values (take n records) ++ key_values (drop n records) ≡ key_values records = sym (map-append key_value (take n records) (drop n records)) ∙ ap key_values (take-append-drop n records) in
    let sums : sum_by (whole_size w) (key_values (take n records) ++ key_values (drop n records)) ≡ sum_by (whole_size w) (key_values (take n records)) + sum_by (whole_size w) (key_values (drop n records)) =
    sum_by-append (whole_size w) (key_values (take n records)) (key_values (drop n records)) in
    let same : sum_by (whole_size w) (key_values (take n records) ++ key_values (drop n records)) ≡ sum_by (whole_size w) (key_values records) = ap (sum_by (whole_size w)) all in
    omega (arith, sums, same)

-- a record was not put after the first ones
pub puts_fail : {S L : Type 0} {s : Ghosts S} {l : Widths L} (limit before i : ℕ) (records : List Record) (old new : Maker S L s l) (r : KeyValue) (f : MakeFault) → Holds old (key_values (take i records)) → old.limit ≡ limit → s.failures old.store ≡ before
    → key_values (take i records) ++ r ∷ [] ≡ key_values (take (i + 1) records) → FailsPutting old new Add r f → FailsBuilding l.WORD limit records before (s.failures new.store) (s.image new.store) f
puts_fail limit before i records old new r Broken held same later more fails = fails.cause (key_values (take i records)) held
puts_fail limit before i records old new r Lookup held same later more fails = absurd (fails.2 refl)
puts_fail {l = l} limit before i records old new r TooBig held same later more fails = record {
  each = λ b is.
      let big : old.limit < file_size l.WORD (key_values (take i records) ++ r ∷ []) = (fails.1 (key_values (take i records)) held).each b is in
      let first : file_size l.WORD (key_values (take i records) ++ r ∷ []) ≡ file_size l.WORD (key_values (take (i + 1) records)) = ap (file_size l.WORD) more in
      omega (arith, big, first, same, first_fit l.WORD (i + 1) records);
}
puts_fail limit before i records old new r NoMemory held same later more fails = fails.3 ∙ later
puts_fail {s = s} limit before i records old new r Writing held same later more (inl x, would) = let failed : s.failures old.store < s.failures new.store = x.1.failed in omega (arith, later, failed)
puts_fail {s = s} limit before i records old new r Writing held same later more (inr x, would) = let failed : s.failures old.store < s.failures new.store = x.0.failed in omega (arith, later, failed)

-- no maker was made
pub none_made : {S : Type 0} (s : Ghosts S) (w greatest : ℕ) (records : List Record) (old new : S) (f : MakeFault) → MakingFault s.image s.size s.written s.failures old new f → FailsBuilding w greatest records (s.failures old) (s.failures new) (s.image new) f
none_made s w greatest records old new Broken fails = absurd fails
none_made s w greatest records old new Lookup fails = absurd fails
none_made s w greatest records old new TooBig fails = absurd fails
none_made s w greatest records old new NoMemory fails = fails.3
none_made s w greatest records old new Writing fails = fails

-- a store that had failed as often before
pub building_later : (w greatest : ℕ) (records : List Record) (first before after : ℕ) (images : List ℕ → Type 0) (f : MakeFault) → before ≡ first → FailsBuilding w greatest records before after images f → FailsBuilding w greatest records first after images f
building_later w greatest records first before after images Broken later fails = fails
building_later w greatest records first before after images Lookup later fails = absurd fails
building_later w greatest records first before after images TooBig later fails = fails
building_later w greatest records first before after images NoMemory later fails = fails ∙ later
building_later w greatest records first before after images Writing later fails = let failed : before < after = fails in omega (arith, later, failed)

-- the store below a buffer
pub building_below : (w greatest : ℕ) (records : List Record) (before after pos : ℕ) (bytes : List ℕ) (images : List ℕ → Type 0) (f : MakeFault) → FailsBuilding w greatest records before after (Over pos bytes images) f → FailsBuilding w greatest records before after images f
building_below w greatest records before after pos bytes images Broken fails = λ b is. fails (overwrite b pos bytes) (b, is, refl)
building_below w greatest records before after pos bytes images Lookup fails = absurd fails
building_below w greatest records before after pos bytes images TooBig fails = record { each = λ b is. fails.each (overwrite b pos bytes) (b, is, refl) }
building_below w greatest records before after pos bytes images NoMemory fails = fails
building_below w greatest records before after pos bytes images Writing fails = fails

-- ---- the fault of a builder

pub building_fault : (P Q : MakeFault → Type 0) (e : ReplaceFault MakeFault) → ((f : MakeFault) → P f → Q f) → IsOfBuilder P e → IsOfBuilding Q (of_replace e)
building_fault P Q replacing.Open same h = tt
building_fault P Q replacing.NoMemory same h = tt
building_fault P Q replacing.Write same h = tt
building_fault P Q replacing.Rename same h = tt
building_fault P Q (replacing.Build f) same h = same f h
