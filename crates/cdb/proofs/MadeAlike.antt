-- Creates of the same words that read the same make the same file.
use Rattle.std.proofs.Common.{◌≡◌, ◌∙◌, ℕ, Bool, true, false, List, Option, Some, None, Result, Ok, Err, ap, cond, inl, inr, refl, subst, sym, option_map}
use Rattle.std.proofs.lemmas.Bool.{both_ways, cases_Bool, cond-false, cond-true}
use Rattle.std.proofs.lemmas.Slice.Eq.{bytes_eq-Decides}
use Rattle.std.specs.Prelude.{bytes_eq, ◌||◌}
use Rattle.cdb_command.specs.declared.options.MakeOptions.{MakeOptions}
use Rattle.cdb_show.specs.declared.fault.Fault.{Fault}
use Rattle.cdb_system.specs.Oracle.{Disk, inputs_of, is_standard}
use Rattle.cdb_system.specs.State.{temporary_of}
use Rattle.cdb_tool.specs.Runs.Made.{Made, made_file, made_lines, made_of}
use Rattle.cdb.specs.Contents.{AreAlike, ReadAlike}
use Rattle.cdb.specs.Created.{Created, base_of, create_of, if_based, if_opened, in_place, in_temporary, is_in_place, is_no_name, is_read, on_output, placed, unmade, unopened, with_name}

unmade_alike : (name : List ℕ) (one two : Disk) (fault : Fault) → AreAlike name (unmade one fault) (unmade two fault)
unmade_alike name one two fault = record { result = refl; output = refl; lines = refl; file = λ _. tt }

output_alike : (name : List ℕ) (one two : Disk) (lines file : List ℕ) (result : Result Unit Fault) → is_standard name ≡ true → AreAlike name (on_output one lines file result) (on_output two lines file result)
output_alike name one two lines file (Ok done) standard = record { result = refl; output = refl; lines = refl; file = λ other. absurd (both_ways (is_standard name) other standard) }
output_alike name one two lines file (Err fault) standard = record { result = refl; output = refl; lines = refl; file = λ _. tt }

-- the name has the new file on each disk
same_file : (name file : List ℕ) (one two : Disk) → with_name name (Some file) one name ≡ with_name name (Some file) two name
same_file name file one two =
    let same = (bytes_eq-Decides name name).1 refl in
    cond-true (bytes_eq name name) (Some file) (one name) same ∙ sym (cond-true (bytes_eq name name) (Some file) (two name) same)

in_place_alike : (name : List ℕ) (one two : Disk) (lines file : List ℕ) (result : Result Unit Fault) → AreAlike name (in_place one name lines file result) (in_place two name lines file result)
in_place_alike name one two lines file (Ok done) = record { result = refl; output = refl; lines = refl; file = λ _. same_file name file one two }
in_place_alike name one two lines file (Err fault) = record { result = refl; output = refl; lines = refl; file = λ _. tt }

in_temporary_alike : (name temporary : List ℕ) (one two : Disk) (lines file : List ℕ) (result : Result Unit Fault) → AreAlike name (in_temporary one temporary name lines file result) (in_temporary two temporary name lines file result)
in_temporary_alike name temporary one two lines file (Ok done) = record {
  result = refl;
  output = refl;
  lines = refl;
  file = λ _. ap (λ (held : Option (List ℕ)). cond (bytes_eq name temporary) None held) (same_file name file one two);
}
in_temporary_alike name temporary one two lines file (Err fault) = record { result = refl; output = refl; lines = refl; file = λ _. tt }

-- whatever is decided, it is so of both
chosen_alike : (name : List ℕ) (b : Bool) (one two other_one other_two : Created) → AreAlike name one two → AreAlike name other_one other_two → AreAlike name (cond b one other_one) (cond b two other_two)
chosen_alike name true one two other_one other_two alike other = alike
chosen_alike name false one two other_one other_two alike other = other

-- where the database goes that has a name
abbrev named : ℕ → Disk → (name : List ℕ) → (base : Option (List ℕ)) → (inputs : List (List ℕ)) → (temporary : Option (List ℕ)) → Made → Created
named w disk name base inputs temporary made =
    cond (is_in_place name temporary)
    (cond (is_read name base inputs) (unopened disk) (in_place disk name (made_lines made) (made_file w made) made.result))
    (cond (is_read (temporary_of name temporary) base inputs || is_no_name name) (unopened disk) (in_temporary disk (temporary_of name temporary) name (made_lines made) (made_file w made) made.result))

placed_alike : (w : ℕ) (one two : Disk) (name : List ℕ) (base : Option (List ℕ)) (inputs : List (List ℕ)) (temporary : Option (List ℕ)) (made : Made) → AreAlike name (placed w one name base inputs temporary made) (placed w two name base inputs temporary made)
placed_alike w one two name base inputs temporary made =
    let file = made_file w made in
    let lines = made_lines made in
    let open_one = unmade_alike name one two in
    let refused : AreAlike name (unopened one) (unopened two) = open_one _ in
    let inside = chosen_alike name (is_read name base inputs) _ _ _ _ refused (in_place_alike name one two lines file made.result) in
    let apart = chosen_alike name (is_read (temporary_of name temporary) base inputs || is_no_name name) _ _ _ _ refused (in_temporary_alike name (temporary_of name temporary) one two lines file made.result) in
    let apart_or_inside = chosen_alike name (is_in_place name temporary) _ _ _ _ inside apart in
    elim (cases_Bool (is_standard name)) [
      | inl t ↦
          subst (λ a. AreAlike name a (placed w two name base inputs temporary made)) (sym (cond-true (is_standard name) _ _ t))
          (subst (λ b. AreAlike name (on_output one lines file made.result) b) (sym (cond-true (is_standard name) _ _ t))
          (output_alike name one two lines file made.result t))
      | inr f ↦
          subst (λ a. AreAlike name a (placed w two name base inputs temporary made)) (sym (cond-false (is_standard name) _ _ f))
          (subst (λ b. AreAlike name (named w one name base inputs temporary made) b) (sym (cond-false (is_standard name) _ _ f)) apart_or_inside)
    ]

abbrev created_by : (w g : ℕ) → Disk → (input name : List ℕ) → (base : Option (List ℕ)) → (inputs : List (List ℕ)) → (temporary : Option (List ℕ)) → MakeOptions → Result (Option (List ℕ)) Fault → Option (List (Option (List ℕ))) → Created
created_by w g disk input name base inputs temporary o found files =
    if_based disk found (λ old. if_opened disk (option_map (λ given.
    placed w disk name base inputs temporary (made_of w g o old given input)) files))

read_alike : (w g : ℕ) (one two : Disk) (input name : List ℕ) (base : Option (List ℕ)) (inputs : List (List ℕ)) (temporary : Option (List ℕ)) (o : MakeOptions) (found : Result (Option (List ℕ)) Fault) (files : Option (List (Option (List ℕ))))
    → AreAlike name (created_by w g one input name base inputs temporary o found files) (created_by w g two input name base inputs temporary o found files)
read_alike w g one two input name base inputs temporary o (Err fault) files = unmade_alike name one two fault
read_alike w g one two input name base inputs temporary o (Ok old) None = unmade_alike name one two _
read_alike w g one two input name base inputs temporary o (Ok old) (Some given) = placed_alike w one two name base inputs temporary (made_of w g o old given input)

pub creates_alike : (w g : ℕ) (one two : Disk) (input name : List ℕ) (base : Option (List ℕ)) (inputs : List (List ℕ)) (temporary : Option (List ℕ)) (o : MakeOptions) → ReadAlike w one two base inputs
    → AreAlike name (create_of w g one input name base inputs temporary o) (create_of w g two input name base inputs temporary o)
creates_alike w g one two input name base inputs temporary o alike =
    subst (λ found. AreAlike name (create_of w g one input name base inputs temporary o) (created_by w g two input name base inputs temporary o found (inputs_of two inputs))) alike.bases
    (subst (λ files. AreAlike name (create_of w g one input name base inputs temporary o) (created_by w g two input name base inputs temporary o (base_of w one base) files)) alike.files
    (read_alike w g one two input name base inputs temporary o (base_of w one base) (inputs_of one inputs)))
