-- The numbers that the making calls answer: 0 or more, or minus the number of a fault.
use Rattle.std.specs.Prelude.{ℕ, ℤ, ◌≡◌, Bool, true, false, pos, negsuc, zero, suc, Result, Ok, Err}
use Rattle.std.specs.Prelude.{IfOk, IfErr, ◌==◌, cond}
use Rattle.cdb_form.specs.declared.mode.Mode.{Mode}
use Rattle.cdb_form.specs.declared.mode.Mode.TheVariants.{Add, Warn, Insert, Replace}
use Rattle.cdb_store.specs.declared.make_fault.MakeFault.{MakeFault}
use Rattle.cdb_store.specs.declared.make_fault.MakeFault.TheVariants.{Broken, Lookup, TooBig, NoMemory}
use Rattle.cdb_store.specs.declared.make_fault.MakeFault.TheVariants.{Writing}
use Rattle.cdb_make.specs.declared.answer.Put.{Put}
use Rattle.cdb_make.specs.declared.answer.Put.TheVariants.{Added, AddedAgain, Present, Replaced}

abbrev pub fault_code : MakeFault → ℤ
fault_code Broken = negsuc 0
fault_code Lookup = negsuc 1
fault_code TooBig = negsuc 2
fault_code NoMemory = negsuc 3
fault_code Writing = negsuc 4

-- a call that only succeeds or fails
abbrev pub done_code : Result (Unit {0}) MakeFault → ℤ
done_code (Ok u) = pos 0
done_code (Err f) = fault_code f

-- a put: 1 says that the key was there
abbrev pub put_code : Result Put MakeFault → ℤ
put_code (Ok Added) = pos 0
put_code (Ok AddedAgain) = pos 1
put_code (Ok Present) = pos 1
put_code (Ok (Replaced n)) = pos 1
put_code (Err f) = fault_code f

-- a look: 1 says that the key is there
abbrev pub found_code : Result Bool MakeFault → ℤ
found_code (Ok false) = pos 0
found_code (Ok true) = pos 1
found_code (Err f) = fault_code f

-- a removal: 1 says that there were records
abbrev pub removed_code : Result ℕ MakeFault → ℤ
removed_code (Ok zero) = pos 0
removed_code (Ok (suc n)) = pos 1
removed_code (Err f) = fault_code f

-- an append
abbrev pub appended_code : Result ℕ MakeFault → ℤ
appended_code (Ok n) = pos 0
appended_code (Err f) = fault_code f

-- an export answered the number of a result, which says one thing if it is a success and another
-- if it is a fault
pub record Answers {X : Type 0} (code : Result X MakeFault → ℤ) (answer : ℤ) (P : X → Type 0)
    (F : MakeFault → Type 0) : Type 0 where
  pub of : Result X MakeFault
  pub number : answer ≡ code of
  pub ok : IfOk of P
  pub fails : IfErr of F

-- the mode of a number of cdb.h
abbrev pub mode_of : ℕ → Mode
mode_of n = cond (n == 0) Add (cond (n == 2) Insert (cond (n == 3) Warn Replace))
