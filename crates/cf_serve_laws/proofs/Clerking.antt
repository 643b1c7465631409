-- What a clerk wrote is what the hall gave for the call of the request.
use Rattle.std.proofs.Common.{◌≡◌, ◌⊎◌, inl, inr, ℕ, List, [], ◌∷◌, ◌++◌, Some, None, Result, Ok, Err, IfOk, OnOk, OnErr, refl, sym, subst, ap, ◌∙◌}
use Rattle.cf_model.specs.Common.{Call, Body, Done, Refused, Posted, Reply}
use Rattle.cf_calls.specs.declared.reply.Body.TheVariants.{Shown}
use Rattle.cf_calls.specs.declared.reply.Posted.TheVariants as posted
use Rattle.cf_calls.specs.Common.{IsCallInForm}
use Rattle.cf_chart.specs.Common.{Plan}
use Rattle.cf_http.specs.declared.request.Request.{Request}
use Rattle.cf_http.specs.Asking.{Answered, IsAnswerCode}
use Rattle.cf_json_members.specs.declared.fault.CallRefused.{CallRefused}
use Rattle.cf_json_members.specs.declared.fault.CallRefused.TheVariants.{Form}
use Rattle.cf_json_members.specs.declared.fault.FormFault.{FormFault}
use Rattle.cf_json_members.specs.Faults.{Gives}
use Rattle.cf_json_replies.specs.Replies.{IsBrief, IsBriefBody, form_text, text}
use Rattle.cf_hall_names.specs.Lists.{entries_of}
use Rattle.cf_turns.specs.States.{PassState}
use Rattle.cf_serve_laws.specs.Clerks.{asked_by, code_by, code_of, IsWritten, form, called, memory, unread, Passes, AnswersCall}
use Rattle.cf_serve_laws.specs.PassTalks.{Hears, told, lost}
use Rattle.cf_hall_names.specs.Telling.{Tells, Adds as Adding}
use Rattle.cf_serve_laws.proofs.Briefness.{accepted_brief}
use Rattle.cf_hall_names.proofs.Entries.{entries_append}

-- ---- one call

module _ (plan : Plan) (a m : PassState) (c : Call) (in_form : IsCallInForm c) where
  added_brief : (r : Reply) → Adding plan a m c r → IsBriefBody r.body
  added_brief r adds = accepted_brief plan (entries_of adds.before) c r.body adds.entry in_form adds.body (adds.next ∙ (ap entries_of adds.list ∙ entries_append adds.before ((adds.entry, a.number) ∷ [])))

  -- what isn't brief was no accepted change's, so it may be lost
  lost_given : (given : Posted) → Tells plan a m c given → (IsBrief given → ⊥) → Hears plan a c posted.NoMemory m
  lost_given (posted.Reply r) (reads, (replies, inl adds)) long = absurd (long (added_brief r adds))
  lost_given (posted.Reply r) (reads, (replies, inr keeps)) long = lost (posted.Reply r) m (reads, (replies, inr keeps)) keeps.places replies.faults replies.failed
  lost_given posted.NoMemory t long = absurd (long tt)
  lost_given posted.Disk t long = absurd (long tt)

  pub lost_call : {T E : Type 0} (r : Result T E) (given : Posted) → Tells plan a m c given → OnErr r ((given ≡ posted.NoMemory) ⊎ (IsBrief given → ⊥)) → OnErr r (Hears plan a c posted.NoMemory m)
  lost_call (Ok x) given t why = tt
  lost_call (Err e) given t (inl is) = subst (λ (g : Posted). Hears plan a c g m) is (told given m t)
  lost_call (Err e) given t (inr long) = lost_given given t long

module _ (plan : Plan) (a m : PassState) (c : Call) where
  pub answers_call : {E : Type 0} (r : Result ℕ E) (given : Posted) (old new : List ℕ) → Tells plan a m c given
      → IfOk r (λ code. code ≡ code_of given) → IfOk r (λ code. IsWritten given) → IfOk r (λ code. new ≡ old ++ text given) → IfOk r (λ code. AnswersCall plan a m c code old new)
  answers_call (Ok code) given old new t is written put = record { given = given; hears = told given m t; written = written; code_is = is; put = put }
  answers_call (Err e) given old new t is written put = tt

-- ---- one request

body_code_is : (b : Body) → IsAnswerCode (code_by b)
body_code_is (Refused r) = inr (inr (inl refl))
body_code_is (Done made was) = inl refl
body_code_is (Shown s) = inl refl

code_is_answer : (given : Posted) → IsWritten given → IsAnswerCode (code_of given)
code_is_answer (posted.Reply r) w = body_code_is r.body
code_is_answer posted.NoMemory w = absurd w
code_is_answer posted.Disk w = inr (inr (inr refl))

module _ (plan : Plan) (a m : PassState) (request : Request) where
  answered : (c : Call) (code : ℕ) (old new : List ℕ) → asked_by request ≡ Ok c → AnswersCall plan a m c code old new → Answered (Passes plan) a request code m old new
  answered c code old new is s = record {
    body = text s.given;
    put = s.put;
    code_is = subst IsAnswerCode (sym s.code_is) (code_is_answer s.given s.written);
    says = subst (λ n. Passes plan a request (Some (n, text s.given)) m) (sym s.code_is) ((c, s.given) ∷ [], called c s.given is s.written, (m, s.hears, refl));
  }

  pub fault_is : (refused : CallRefused) (f : FormFault) → refused ≡ Form f → Gives (Err refused) (asked_by request) → asked_by request ≡ Err f
  fault_is refused f g gives = subst (λ (x : CallRefused). Gives (Err x) (asked_by request)) g gives

  pub answered_call : {E : Type 0} (r : Result ℕ E) (c : Call) (old middle new : List ℕ) → asked_by request ≡ Ok c → middle ≡ old
      → IfOk r (λ code. AnswersCall plan a m c code middle new) → IfOk r (λ code. Answered (Passes plan) a request code m old new)
  answered_call (Ok code) c old middle new is same s = subst (λ (x : List ℕ). Answered (Passes plan) a request code m x new) same (answered c code middle new is s)
  answered_call (Err e) c old middle new is same s = tt

  pub memory_call : {T E : Type 0} (r : Result T E) (c : Call) → asked_by request ≡ Ok c → OnErr r (Hears plan a c posted.NoMemory m) → OnErr r (Passes plan a request None m)
  memory_call (Ok x) c is h = tt
  memory_call (Err e) c is h = ((c, posted.NoMemory) ∷ [], memory c is, (m, h, refl))

module _ (plan : Plan) (a : PassState) (request : Request) where
  pub unread_is : {T E : Type 0} (r : Result T E) → OnErr r (Passes plan a request None a)
  unread_is (Ok x) = tt
  unread_is (Err e) = ([], unread, refl)

  pub answered_form : {E : Type 0} (r : Result ℕ E) (f : FormFault) (old middle new : List ℕ) → asked_by request ≡ Err f → middle ≡ old
      → IfOk r (λ code. code ≡ 400) → OnOk r (new ≡ middle ++ form_text f) → IfOk r (λ code. Answered (Passes plan) a request code a old new)
  answered_form (Err e) f old middle new is same code put = tt
  answered_form (Ok code) f old middle new is same is_code put = record {
    body = form_text f;
    put = put ∙ ap (λ (x : List ℕ). x ++ form_text f) same;
    code_is = inr (inl is_code);
    says = subst (λ n. Passes plan a request (Some (n, form_text f)) a) (sym is_code) ([], form f is, refl);
  }
