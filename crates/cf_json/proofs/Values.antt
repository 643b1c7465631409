-- The value of bytes, by whether they are text.
use Rattle.std.proofs.Common.{◌≡◌, ℕ, List, Bool, true, false, cond, Option, None, refl, ap, ◌∙◌, sym, Result, subst, IsUtf8}
use Rattle.std.specs.Str.{is_utf8}
use Rattle.cf_base.proofs.Common.{IsUtf8-from_is_utf8, is_utf8-from_IsUtf8}
use Rattle.serde_json.specs.Data.{Data}
use Rattle.serde_json.specs.Read.{read}
use Rattle.cf_json_members.specs.declared.fault.FormFault.{FormFault}
use Rattle.cf_json_members.specs.declared.fault.CallRefused.{CallRefused}
use Rattle.cf_json_members.specs.Faults.{Gives}
use Rattle.cf_json.specs.Calls.{value_of}

pub value_of-text : (bytes text : List ℕ) → text ≡ bytes → IsUtf8 bytes → value_of bytes ≡ read text
value_of-text bytes text e u = ap (λ b. cond b (read bytes) None) (is_utf8-from_IsUtf8 bytes u) ∙ ap read (sym e)

by_test : (b : Bool) (o : Option Data) → (b ≡ true → ⊥) → cond b o None ≡ None
by_test true o n = absurd (n refl)
by_test false o n = refl

pub value_of-no_text : (bytes : List ℕ) → ¬ (IsUtf8 bytes) → value_of bytes ≡ None
value_of-no_text bytes n = by_test (is_utf8 bytes) (read bytes) (λ e. n (IsUtf8-from_is_utf8 bytes e))

pub gives_along : {A : Type 0} (r : Result A CallRefused) (x y : Result A FormFault) → x ≡ y → Gives r y → Gives r x
gives_along r x y e g = subst (λ z. Gives r z) (sym e) g
