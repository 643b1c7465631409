-- What a reader answers: a value, or what is wrong with the form.
use Rattle.std.specs.Prelude.{◌≡◌, ℕ, List, Bool, true, false, Option, Some, None, Result, Ok, Err, ⊤}
use Rattle.cf_json_members.specs.declared.fault.FormFault.{FormFault}
use Rattle.cf_json_members.specs.declared.fault.FormFault.TheVariants.{Fields}
use Rattle.cf_json_members.specs.declared.fault.CallRefused.{CallRefused}
use Rattle.cf_json_members.specs.declared.fault.CallRefused.TheVariants.{Form, NoMemory}

-- goes on with the value; the first fault speaks
infixl 10 ◌>>=◌
abbrev pub ◌>>=◌ : {A B : Type 0} → Result A FormFault → (A → Result B FormFault)
    → Result B FormFault
(Ok a) >>= f = f a
(Err e) >>= f = Err e

-- the answer is this one, or memory was short
abbrev pub Gives : {A : Type 0} → Result A CallRefused → Result A FormFault → Type 0
Gives (Ok a) x = x ≡ Ok a
Gives (Err (Form f)) x = x ≡ Err f
Gives (Err NoMemory) x = ⊤

-- the refusal is this fault, or memory was short
abbrev pub Says : CallRefused → FormFault → Type 0
Says (Form f) x = x ≡ f
Says NoMemory x = ⊤

-- the value that is there, or the fault
abbrev pub or_fault : {A : Type 0} → Option A → FormFault → Result A FormFault
or_fault None f = Err f
or_fault (Some a) f = Ok a

-- a rule, which speaks under the name of a field
abbrev pub must : Bool → List ℕ → Result ⊤ FormFault
must true name = Ok tt
must false name = Err (Fields name)
