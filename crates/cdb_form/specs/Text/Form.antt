-- A text of some form: spelled items, and then a newline. `spelling greatest text x` says how the form
-- spells an item x whose lengths are at most `greatest`.
use Rattle.std.specs.Char.{digit_value}
use Rattle.std.specs.Prelude.{ℕ, List, ◌+◌, ◌<◌, [], ◌∷◌, ◌++◌, length, take, ◌≤◌, ◌≡◌, ⊤}
use Rattle.std.specs.Prelude.{get_or, codes}
use Rattle.cdb_form.specs.declared.text.fault.TextFault.{TextFault}
use Rattle.cdb_form.specs.declared.text.fault.TextFault.TheVariants.{Syntax, Ended, Large}

-- the text is spelled items, and then the rest
abbrev pub Spelled : {X : Type 0} → (ℕ → List ℕ → X → Type 0) → ℕ → List X → List ℕ → List ℕ
    → Type 0
Spelled spelling greatest [] text rest = text ≡ rest
Spelled spelling greatest (x ∷ xs) text rest =
    (first more : List ℕ) × spelling greatest first x × (text ≡ first ++ more)
    × Spelled spelling greatest xs more rest

-- the text is one of the form, spelled items and a newline, and then the rest
abbrev pub Reads : {X : Type 0} → (ℕ → List ℕ → X → Type 0) → ℕ → List X → List ℕ → List ℕ
    → Type 0
Reads spelling greatest xs text rest = Spelled spelling greatest xs text (codes "\n" ++ rest)

-- no spelled item is at the start of the input
abbrev pub HasNoItem : {X : Type 0} → (ℕ → List ℕ → X → Type 0) → ℕ → List ℕ → Type 0
HasNoItem {X} spelling greatest input =
    (first rest : List ℕ) (x : X) → spelling greatest first x → input ≡ first ++ rest → ⊥

-- the spelled items at the start of the input, all of them, and the rest after them
pub record WholeItems {X : Type 0} (spelling : ℕ → List ℕ → X → Type 0) (greatest : ℕ)
    (input : List ℕ) (xs : List X) (rest : List ℕ) : Type 0 where
  pub spelled : Spelled spelling greatest xs input rest
  pub no_more : HasNoItem spelling greatest rest

-- a prefix of some text of the form
abbrev pub IsPrefix : {X : Type 0} → (ℕ → List ℕ → X → Type 0) → ℕ → List ℕ → Type 0
IsPrefix {X} spelling greatest front =
    (xs : List X) × (more : List ℕ) × Reads spelling greatest xs (front ++ more) []

-- no text of the form is at the start of the input
abbrev pub HasNoText : {X : Type 0} → (ℕ → List ℕ → X → Type 0) → ℕ → List ℕ → Type 0
HasNoText {X} spelling greatest input =
    (xs : List X) (rest : List ℕ) → Reads spelling greatest xs input rest → ⊥

-- p is the length of the longest prefix of a text of the form that the input begins with
pub record LongestPrefix {X : Type 0} (spelling : ℕ → List ℕ → X → Type 0) (greatest : ℕ)
    (input : List ℕ) (p : ℕ) : Type 0 where
  pub within : p ≤ length input
  pub front : IsPrefix spelling greatest (take p input)
  pub longest : (q : ℕ) → p < q → q ≤ length input → IsPrefix spelling greatest (take q input) → ⊥

-- the byte at p is a digit that lifts a length above the bound: under a greater bound the text
-- would go on
abbrev pub LiftsLength : {X : Type 0} → (ℕ → List ℕ → X → Type 0) → ℕ → List ℕ → ℕ → Type 0
LiftsLength spelling greatest input p =
    (digit_value (get_or input p 0) < 10)
    × ((greater : ℕ) × (greatest ≤ greater) × IsPrefix spelling greater (take (p + 1) input))

-- the fault of an input whose first byte is at `from`: the place after its longest prefix
abbrev pub HasFault : {X : Type 0} → (ℕ → List ℕ → X → Type 0) → ℕ → ℕ → List ℕ → TextFault
    → Type 0
HasFault spelling greatest from input (Ended at) =
    HasNoText spelling greatest input × LongestPrefix spelling greatest input (length input)
    × (at ≡ from + length input)
HasFault spelling greatest from input (Large at) =
    (p : ℕ) × HasNoText spelling greatest input × LongestPrefix spelling greatest input p
    × (p < length input) × LiftsLength spelling greatest input p × (at ≡ from + p)
HasFault spelling greatest from input (Syntax at) =
    (p : ℕ) × HasNoText spelling greatest input × LongestPrefix spelling greatest input p
    × (p < length input) × ¬ LiftsLength spelling greatest input p × (at ≡ from + p)
HasFault spelling greatest from input _ = ⊤
