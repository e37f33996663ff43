-- What the rules of a line give is in range, and none of their faults is that its words were refused: step by
-- step, whatever the letter.
use Rattle.std.proofs.Common.{◌≡◌, ◌≢◌, ◌≤◌, ◌==◌, ℕ, zero, suc, arith, Bool, true, false, cond, List, [], ◌∷◌}
use Rattle.std.proofs.Common.{Option, Some, None, Result, Ok, Err, IfOk, IfErr, IfSome, refl, subst, ap}
use Rattle.std.proofs.Common.{◌⊎◌, ◌∙◌, inl, inr, unwrap_or, option_map}
use Rattle.std.proofs.lemmas.Result.{IfOk-at_ok}
use Prim.Native.Char.{code}
use Rattle.std.specs.Prelude.{⊤}
use Rattle.std.specs.Str.{all_ascii_digits}
use Rattle.std.specs.Str.Parse.{digits_value}
use Rattle.cdb_command.specs.Line.{Text, Given}
use Rattle.cdb_command.specs.Asked.{Asked, Gives, asked_in, IsInRange, ◌>>=◌}
use Rattle.cdb_command.specs.Rules.{letters_in, only_letter, no_stray, first_stray, taken_by, options_in}
use Rattle.cdb_command.specs.Rules.{base_refused, is_hyphen, option_refused, value_number, decimal_in}
use Rattle.cdb_command.specs.Rules.{number_in, two_names, one_name, first_name, not_both, lookups_in}
use Rattle.cdb_command.specs.Rules.{key_query_in, query_in, command_in, line_plan}
use Rattle.cdb_command.specs.declared.command.Command.{Command}
use Rattle.cdb_command.specs.declared.rules.letter.Letter.{Letter}
use Rattle.cdb_command.specs.declared.rules.letter.Letter.TheVariants as letter
use Rattle.cdb_command.specs.declared.letters.Flags.{Flags}
use Rattle.cdb_command.specs.Refused.{Refused, refused_in, usage_of}
use Rattle.cdb_command.specs.Refused as refused
use Rattle.cdb_command.specs.declared.usage.Usage.TheVariants.{NoMemory, Words}
use Rattle.cdb_command.specs.declared.word_fault.Lacking.{Lacking}
use Rattle.cdb_command.specs.declared.word_fault.Lacking.TheVariants as lacking
use Rattle.cdb_command.specs.declared.usage.Usage.{Usage}
use Rattle.cdb_command.specs.declared.word_fault.WordFault.{WordFault}
use Rattle.cdb_command.specs.declared.word_fault.WordFault.TheVariants as word

-- what a step gives has the property, and a fault is another than that of refused words
record Keeps {A : Type 0} (P : A → Type 0) (r : Result A Refused) : Type 0 where
  pub given : IfOk r P
  pub never : IfErr r (λ refused. usage_of refused ≢ Words)

of : {A : Type 0} {P : A → Type 0} (x : A) → P x → Keeps P (Ok x)
of x p = record { given = p; never = tt }

fault : {A : Type 0} {P : A → Type 0} (refused : Refused) → usage_of refused ≢ Words
    → Keeps P (Err refused)
fault refused n = record { given = tt; never = n }

then : {A B : Type 0} {Q : A → Type 0} {P : B → Type 0} (r : Result A Refused)
    (next : A → Result B Refused) → Keeps Q r → ((x : A) → Q x → Keeps P (next x))
    → Keeps P (r >>= next)
then (Ok x) next k n = n x k.given
then (Err refused) next k n = fault refused k.never

either : {A : Type 0} {P : A → Type 0} (test : Bool) (x y : Result A Refused)
    → Keeps P x → Keeps P y → Keeps P (cond test x y)
either true x y p q = p
either false x y p q = q

-- whatever is given
abbrev Any : {A : Type 0} → A → Type 0
Any x = ⊤

abbrev Counts : ℕ → Type 0
Counts n = 1 ≤ n

letter_keeps : (letters : List Letter) → Keeps Any (only_letter letters)
letter_keeps [] = fault _ (λ h. cc)
letter_keeps (x ∷ []) = of x tt
letter_keeps (x ∷ y ∷ more) = fault _ (λ h. cc)

base_is : (test : Bool) (base : Text)
    → usage_of (cond test refused.BaseInPlace (refused.BaseBuiltIn base)) ≢ Words
base_is true base = λ h. cc
base_is false base = λ h. cc

option_is : (test : Bool) (option : ℕ) (g : Given)
    → usage_of (cond test (base_refused g) (refused.Option option (code "c"))) ≢ Words
option_is true option g =
    base_is (unwrap_or (option_map is_hyphen g.temporary) false) (unwrap_or g.base [])
option_is false option g = λ h. cc

option_never : (x : Letter) (option : ℕ) (g : Given) → usage_of (option_refused x option g) ≢ Words
option_never letter.Query option g = λ h. cc
option_never letter.Dump option g = λ h. cc
option_never letter.List option g = λ h. cc
option_never letter.Stats option g = λ h. cc
option_never letter.Check option g = λ h. cc
option_never letter.Difference option g = λ h. cc
option_never letter.Create option g = option_is (option == code "b") option g

stray_keeps : (x : Letter) (g : Given) (option : Option ℕ) → Keeps Any (no_stray x g option)
stray_keeps x g None = of tt tt
stray_keeps x g (Some option) = fault _ (option_never x option g)

value_keeps : (text : Text) (n : ℕ) → Keeps Counts (value_number text n)
value_keeps text zero = fault (refused.Number text) (λ h. cc)
value_keeps text (suc n) =
    either _ _ _ (of (suc n) (omega arith)) (fault (refused.Number text) (λ h. cc))

decimal_keeps : (text : Text) → Keeps Counts (decimal_in text)
decimal_keeps text = either (all_ascii_digits text) _ _ (value_keeps text (digits_value 10 text))
    (fault (refused.Number text) (λ h. cc))

number_keeps : (text : Option Text) → Keeps (λ number. IfSome number Counts) (number_in text)
number_keeps None = of None tt
number_keeps (Some text) = then (decimal_in text) _ (decimal_keeps text) (λ n p. of (Some n) p)

two_keep : (one another : Lacking) (names : List Text) → Keeps Any (two_names one another names)
two_keep one another [] = fault _ (λ h. cc)
two_keep one another (x ∷ []) = fault _ (λ h. cc)
two_keep one another (x ∷ y ∷ []) = of (x, y) tt
two_keep one another (x ∷ y ∷ z ∷ more) = fault _ (λ h. cc)

one_keeps : (names : List Text) → Keeps Any (one_name names)
one_keeps [] = of None tt
one_keeps (x ∷ []) = of _ tt
one_keeps (x ∷ y ∷ more) = fault _ (λ h. cc)

first_keeps : (names : List Text) → Keeps Any (first_name names)
first_keeps [] = fault _ (λ h. cc)
first_keeps (x ∷ more) = of (x, more) tt

both_keep : (f : Flags) → Keeps Any (not_both f)
both_keep f = either _ _ _ (fault _ (λ h. cc)) (of tt tt)

query_keeps : (g : Given) (number : Option ℕ) → IfSome number Counts
    → Keeps IsInRange (query_in g number)
query_keeps g number p = either g.flags.inputs (lookups_in g number) (key_query_in g number)
    (then (first_name g.names) _ (first_keeps g.names) (λ names _. of _ p))
    (then (two_names lacking.Database lacking.Key g.names) _
    (two_keep lacking.Database lacking.Key g.names) (λ names _. of _ p))

command_keeps : (x : Letter) (g : Given) (number : Option ℕ) → IfSome number Counts
    → Keeps IsInRange (command_in x g number)
command_keeps letter.Query g number p = query_keeps g number p
command_keeps letter.Dump g number p = then (one_name g.names) _ (one_keeps g.names) (λ n _. of _ tt)
command_keeps letter.List g number p = then (one_name g.names) _ (one_keeps g.names) (λ n _. of _ tt)
command_keeps letter.Stats g number p = then (one_name g.names) _ (one_keeps g.names) (λ n _. of _ tt)
command_keeps letter.Check g number p = then (one_name g.names) _ (one_keeps g.names) (λ n _. of _ tt)
command_keeps letter.Difference g number p =
    then (two_names lacking.Old lacking.New g.names) _ (two_keep lacking.Old lacking.New g.names)
    (λ names _. of _ tt)
command_keeps letter.Create g number p = then (first_name g.names) _ (first_keeps g.names)
    (λ names _. then (not_both g.flags) _ (both_keep g.flags) (λ _ _. of _ refl))

plan_keeps : (g : Given) → Keeps IsInRange (line_plan g)
plan_keeps g =
    either g.flags.help _ _ (of _ tt)
    (either g.flags.version _ _ (of _ tt)
    (then (only_letter (letters_in g.flags)) _ (letter_keeps (letters_in g.flags))
    (λ x _. then (no_stray x g (first_stray (taken_by x g) (options_in g))) _ (stray_keeps x g _)
    (λ _ _. then (number_in g.number) _ (number_keeps g.number)
    (λ number p. command_keeps x g number p)))))

pub gives_in_range : (r : Result Command WordFault) (g : Given)
    → Gives asked_in r (line_plan g) → IfOk r (λ command. IsInRange (asked_in command))
gives_in_range (Ok command) g h = IfOk-at_ok IsInRange h (plan_keeps g).given
gives_in_range (Err fault) g h = tt

pub gives_no_words : (r : Result Command WordFault) (g : Given) → Gives asked_in r (line_plan g)
    → IfErr r (λ f. usage_of (refused_in f) ≢ Words)
gives_no_words (Ok x) g h = tt
gives_no_words (Err f) g h = λ w. elim h [
  | inl n ↦ let m : usage_of (refused_in f) ≡ NoMemory = ap (λ (x : WordFault). usage_of (refused_in x)) n in cc
  | inr p ↦ subst (λ (r : Result Asked Refused). IfErr r (λ refused. usage_of refused ≢ Words)) p (plan_keeps g).never w
]

-- a fault, reported whatever the word
pub gives_usage : (f : WordFault) (why : Usage) (planned : Result Asked Refused)
    → why ≡ usage_of (refused_in f) → (f ≡ word.NoMemory) ⊎ (planned ≡ Err (refused_in f))
    → (why ≡ NoMemory) ⊎ ((r : Refused) × (planned ≡ Err r) × (why ≡ usage_of r))
gives_usage f why planned e (inl n) =
    inl (e ∙ ap (λ (x : WordFault). usage_of (refused_in x)) n)
gives_usage f why planned e (inr p) = inr (refused_in f, p, e)
