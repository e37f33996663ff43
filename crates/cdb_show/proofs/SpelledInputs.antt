-- What a reader of spelled items took of an input, whatever bytes agree with it.
use Rattle.cdb_show.proofs.Words.{Consumes, Feed, FromTo, List, Source, TextFault, [], append-nil, arith, budget, codes, drop, from_both, from_kept, from_taken, from_then, from_weaker, length, length-take-le, nothing_taken, refl, subst, sym, take, take-append-drop, ℕ, ◌++◌, ◌+◌, ◌^◌, ◌∷◌, ◌≡◌, ◌≤◌}
use Rattle.cdb_form.specs.Views.FormReader.{IsFaultOf, MeetsFault, ReadsItem}
use Rattle.cdb_form.specs.Text.Form.{Reads, Spelled}
use Rattle.cdb_form.specs.Views.Source.{Takes}
use Rattle.cdb_form.specs.Views.TextFault.{IsSpent}
use Rattle.cdb_form.specs.declared.text.fault.TextFault.TheVariants.{Ended}
use Rattle.cdb_form.proofs.NativeTexts.Spelling.{IsSpelling}
use Rattle.cdb_form.proofs.NativeTexts.WholeForm.{SoFar, so_far_both, so_far_fault, so_far_part}
use Rattle.cdb_show.specs.Runs.Inputs.{HasFaultBehind, HasFaultOf}

-- it took the spelling of these items
abbrev pub GaveSpelled : {R X : Type 0} → (ℕ → List ℕ → X → Type 0) → ℕ → (R → Feed) → Feed → Source R → List X → Type 0
GaveSpelled S g feed start s xs = FromTo start (feed s.reader) (λ text rest. SoFar S g text rest s.taken xs) × (2 ^ 48 ≤ budget s)

-- what is said of a text and of what is left, once bytes were taken
pub from_after : (a b c : Feed) (P Q : List ℕ → List ℕ → Type 0) (bytes : List ℕ) → FromTo a b P → Consumes b c bytes → ((text rest : List ℕ) → P text (bytes ++ rest) → Q text rest) → FromTo a c Q
from_after a b c P Q bytes f taken h = record {
  known = λ k. taken.known (f.known k);
  back = λ k whole rest m.
      let t = f.back k whole (bytes ++ rest) (taken.back (f.known k) whole rest m) in
      (t.0, t.1, h t.0 rest t.2);
}

-- what is said of the text alone is said of it still
pub from_lost : (a b c : Feed) (P : List ℕ → List ℕ → Type 0) (B : List ℕ → Type 0) (bytes : List ℕ) → FromTo a b P → Consumes b c bytes → ((text rest : List ℕ) → P text rest → B text) → FromTo a c (λ text rest. B text)
from_lost a b c P B bytes f lost h = from_after a b c P (λ text rest. B text) bytes f lost (λ text rest so. h text (bytes ++ rest) so)

module _ {R X : Type 0} (S : ℕ → List ℕ → X → Type 0) (g : ℕ) (feed : R → Feed) where
  pub spelled_none : (s : Source R) → s.taken ≡ 0 → s.asks ≡ 2 ^ 48 → GaveSpelled S g feed (feed s.reader) s []
  spelled_none s taken asks = (
    from_kept (feed s.reader) (feed s.reader) (λ text rest. SoFar S g text rest s.taken []) (nothing_taken (feed s.reader))
        (λ text. (refl, omega (arith, taken))),
    omega (arith, taken, asks),
  )

  pub spelled_each : (start : Feed) (s t : Source R) (xs ys : List X) (piece : List ℕ) → GaveSpelled S g feed start s xs → Spelled S g ys piece [] → Takes feed s t piece → budget s ≤ budget t → GaveSpelled S g feed start t (xs ++ ys)
  spelled_each start s t xs ys piece h spelled takes spends = (
    from_after start (feed s.reader) (feed t.reader) (λ text rest. SoFar S g text rest s.taken xs) (λ text rest. SoFar S g text rest t.taken (xs ++ ys)) piece h.0 takes.read
        (λ text rest so. so_far_both S g text piece rest s.taken t.taken xs ys so spelled takes.counted),
    omega (arith, h.1, spends),
  )

  pub spelled_more : (start : Feed) (s t : Source R) (xs : List X) (x : X) → GaveSpelled S g feed start s xs → ReadsItem S g (feed s.reader) (feed t.reader) s.taken t.taken x → budget s ≤ budget t → GaveSpelled S g feed start t (xs ++ x ∷ [])
  spelled_more start s t xs x h r spends =
      spelled_each start s t xs (x ∷ []) r.text h (r.text, [], r.spells, sym (append-nil r.text), refl) (record { read = r.read; counted = r.counted }) spends

  -- after the newline that ends the text
  pub spelled_all : (start : Feed) (s t : Source R) (xs : List X) → GaveSpelled S g feed start s xs → Consumes (feed s.reader) (feed t.reader) (codes "\n") → FromTo start (feed t.reader) (Reads S g xs)
  spelled_all start s t xs h newline = from_after start (feed s.reader) (feed t.reader) (λ text rest. SoFar S g text rest s.taken xs) (Reads S g xs) (codes "\n") h.0 newline (λ text rest so. so.0)

  pub spelled_begins : (start : Feed) (s : Source R) (xs : List X) → GaveSpelled S g feed start s xs → FromTo start (feed s.reader) (λ text rest. (more : List ℕ) × Spelled S g xs text more)
  spelled_begins start s xs h =
      from_weaker start (feed s.reader) (λ text rest. SoFar S g text rest s.taken xs) (λ text rest. (more : List ℕ) × Spelled S g xs text more) h.0 (λ text rest so. (rest, so.0))

  -- ---- a fault

  fault_at : IsSpelling S → (s t : Source R) (xs : List X) (f : TextFault) (bytes text mid rest : List ℕ) → SoFar S g text mid s.taken xs → 2 ^ 48 ≤ budget s → IsFaultOf S g s.taken t.taken mid f → mid ≡ bytes ++ rest
      → t.taken ≡ s.taken + length bytes → IsSpent t.asks f → budget s ≤ budget t + 1001 → HasFaultOf (HasFaultBehind S g text xs f) (λ part. HasFaultBehind S g part xs (Ended (length part))) f text
  fault_at spelling s t xs f bytes text mid rest so enough is split counted spent spends = record {
    of_text = λ of.
        let p = so_far_fault S spelling g text mid s.taken xs f so is.exact (is.no_record of) in
        record { rest = p.0.0; whole = p.0.1; has = p.1 };
    of_reader = λ of.
        let p = so_far_part S spelling g text mid rest bytes s.taken t.taken xs so split counted (is.part of) in
        let to : ℕ = t.taken in
        let short : length (take to text) ≡ to = length-take-le to text p.0 in
        let ends : HasFaultBehind S g (take to text) xs (Ended to) = record { rest = p.1.rest; whole = p.1.whole; has = p.1.has } in
        record {
          part = take to text;
          more = drop to text;
          split = sym (take-append-drop to text);
          amid = subst (λ (n : ℕ). HasFaultBehind S g (take to text) xs (Ended n)) (sym short) ends;
          asked = λ endless. omega (arith, short, spent endless, spends, enough);
        };
  }

  pub spelled_fault : IsSpelling S → (start : Feed) (s t : Source R) (xs : List X) (f : TextFault) → ((whole a b : List ℕ) → (feed s.reader).may whole a → (feed s.reader).may whole b → a ≡ b)
      → GaveSpelled S g feed start s xs → MeetsFault S g feed s t f → FromTo start (feed t.reader) (λ text rest. HasFaultOf (HasFaultBehind S g text xs f) (λ part. HasFaultBehind S g part xs (Ended (length part))) f text)
  spelled_fault spelling start s t xs f one h m =
      let bytes : List ℕ = m.took.bytes in
      let mid = feed s.reader in
      let new = feed t.reader in
      from_weaker start new _ (λ text rest. HasFaultOf (HasFaultBehind S g text xs f) (λ part. HasFaultBehind S g part xs (Ended (length part))) f text)
      (from_then start mid new (λ text rest. SoFar S g text rest s.taken xs) (λ text rest. IsFaultOf S g s.taken t.taken text f × (text ≡ bytes ++ rest)) h.0
      (from_both mid new (λ text rest. IsFaultOf S g s.taken t.taken text f) (λ text rest. text ≡ bytes ++ rest) one m.of (from_taken mid new bytes (λ text rest. text ≡ bytes ++ rest) m.took.read (λ rest. refl))))
      (λ text rest so. fault_at spelling s t xs f bytes text so.0 rest so.1 h.1 so.2.0 so.2.1 m.took.counted m.told.spent m.spends)

  -- it still begins with these items, whatever was taken after them
  pub spelled_past : (start : Feed) (s t : Source R) (xs : List X) (bytes : List ℕ) → GaveSpelled S g feed start s xs → Consumes (feed s.reader) (feed t.reader) bytes → FromTo start (feed t.reader) (λ text rest. (more : List ℕ) × Spelled S g xs text more)
  spelled_past start s t xs bytes h taken =
      from_lost start (feed s.reader) (feed t.reader) (λ text rest. SoFar S g text rest s.taken xs) (λ text. (more : List ℕ) × Spelled S g xs text more) bytes h.0 taken (λ text rest so. (rest, so.0))

  pub spelled_behind : (start : Feed) (s t : Source R) (xs : List X) (f : TextFault) → GaveSpelled S g feed start s xs → MeetsFault S g feed s t f → FromTo start (feed t.reader) (λ text rest. (more : List ℕ) × Spelled S g xs text more)
  spelled_behind start s t xs f h m = spelled_past start s t xs m.took.bytes h m.took.read
