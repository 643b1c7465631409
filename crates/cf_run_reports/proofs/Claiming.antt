-- A run of `claim`.
use Rattle.std.proofs.Common.{◌≡◌, ℕ, List, Option, IsTrue, ap, sym, subst, ◌∙◌}
use Rattle.cf_model.specs.Common.{Day, Entry, IsSoundState}
use Rattle.cf_journal_book.specs.declared.refused.BookRefused.{BookRefused}
use Rattle.cf_journal_book.specs.declared.refused.BookRefused.TheVariants as refused
use Rattle.cf_journal_book.specs.DurableState.{DurableBook}
use Rattle.cf_journal_book.specs.Openings.{OpensBook, OpensNone, Refuses}
use Rattle.cf_journal_book.specs.Recovery.{recovered, RecoversTo}
use Rattle.cf_chart.specs.Common.{Plan}
use Rattle.cf_claims.specs.Texts.{claim_text}
use Rattle.cf_claims.proofs.Kept.{are_kept}
use Rattle.cf_claims.proofs.LegalHistory.{legal_rising}
use Rattle.cf_base_lines.specs.Reads.{IsRead}
use Rattle.cf_grants.specs.Faults.{Checked}
use Rattle.cf_run_reports.specs.Claims.{Claimed, ClaimEnds, ClaimOver, ClaimPrints, ClaimRead, ClaimSays, WithDocument}
use Rattle.cf_run_status.specs.declared.status.Status.{Status}
use Rattle.cf_run_status.specs.declared.status.Status.TheVariants as status
use Rattle.cf_run_status.specs.Devices.{Device}
use Rattle.cf_run_status.specs.Refused.{status_of_refused}
use Rattle.cf_run_status.specs.Unwritten.{IsUnwritten}

-- the lines were printed, or a front of them
pub claim_printed : (text : Checked (List ℕ)) (held held' : Option (List ℕ)) (s : Status) → ClaimPrints text held held' s → ClaimOver text held held' s
claim_printed text held held' status.Ok prints = prints
claim_printed text held held' status.WriteFault prints = prints
claim_printed text held held' status.NoMemory prints = prints.2
claim_printed text held held' _ prints = absurd prints.2

module _ (plan : Plan) (history : List Entry) (grant : ℕ) (on : Day) (desk : ℕ) (left left' held held' : Option (List ℕ)) where
  -- the document was read, and its claim was printed or it is refused
  pub document_read : (bytes : List ℕ) (s : Status) → IsRead 1048577 left left' bytes → ClaimOver (claim_text plan history bytes grant on desk) held held' s
      → ClaimRead plan history grant on desk left left' held held' s
  document_read bytes status.NoMemory read over = over
  document_read bytes status.ReadFault read over = absurd over
  document_read bytes _ read over = record { bytes = bytes; read = read; over = over }

  -- no disk is asked
  pub no_disk_fault : (s : Status) → ClaimRead plan history grant on desk left left' held held' s → s ≡ status.DiskFault → ⊥
  no_disk_fault s reads is = let document : ClaimRead plan history grant on desk left left' held held' status.DiskFault = subst (ClaimRead plan history grant on desk left left' held held') is reads in document.over

module _ {D : Type 0} (device : Device D) (grant : ℕ) (on : Day) (desk : ℕ) (old : D) (left left' held held' : Option (List ℕ)) where
  says : (book : DurableBook D) (s : Status) → (IsTrue device.tells → RecoversTo book.plan book.entries (device.content old)) → IsSoundState (record { plan = book.plan; entries = book.entries })
      → ClaimRead book.plan book.entries grant on desk left left' held held' s → ClaimSays device old grant on desk left left' held held' s
  says book s recovers sound reads = by s reads
    where
      claimed : (t : Status) → WithDocument book.plan book.entries grant on desk left left' held held' t → Claimed device old grant on desk left left' held held' t
      claimed t document = record {
        plan = book.plan;
        history = book.entries;
        recovers = recovers;
        sound = sound;
        kept = λ g. are_kept book.plan g book.entries (legal_rising book.plan book.entries sound.legal);
        document = document;
      }

      by : (t : Status) → ClaimRead book.plan book.entries grant on desk left left' held held' t → ClaimSays device old grant on desk left left' held held' t
      by status.Ok reads = claimed status.Ok reads
      by status.WriteFault reads = claimed status.WriteFault reads
      by (status.GrantRefused fault) reads = claimed (status.GrantRefused fault) reads
      by status.ReadFault reads = reads
      by status.NoMemory reads = reads
      by _ reads = absurd reads.over

  -- the claim of the opened book was printed, or its document is refused
  pub claim_ends : (book : DurableBook D) (new : D) (s : Status) → OpensBook device.tells device.content device.is_image device.moment device.was_image device.faults old book → new ≡ book.disk
      → IsSoundState (record { plan = book.plan; entries = book.entries }) → ClaimRead book.plan book.entries grant on desk left left' held held' s → ClaimEnds device grant on desk old new left left' held held' s
  claim_ends book new s opens same sound reads = (
    subst (λ (d : D). IsUnwritten device old d) (sym same) (record { content = opens.reads; any_moment = opens.any_moment }),
    says book s opens.recovers sound reads,
    λ fine. ap device.faults same ∙ opens.quiet,
  )

  -- no journal was opened
  pub claim_refused : (new : D) (why : BookRefused) → OpensNone device.tells device.content device.is_image device.moment device.was_image device.faults old new why → left' ≡ left → held' ≡ held
      → ClaimEnds device grant on desk old new left left' held held' (status_of_refused why)
  claim_refused new why none input out = (record { content = none.reads; any_moment = none.any_moment }, by_cause why none.refuses, λ fine. none.quiet (λ e. fine (ap status_of_refused e)))
    where
      by_cause : (w : BookRefused) → (IsTrue device.tells → Refuses w (recovered (device.content old))) → ClaimSays device old grant on desk left left' held held' (status_of_refused w)
      by_cause refused.Disk refuses = (input, out)
      by_cause refused.NoMemory refuses = out
      by_cause (refused.NotFounded len byte) refuses = (input, out, refuses)
      by_cause (refused.Damaged offset refusal) refuses = (input, out, refuses)
