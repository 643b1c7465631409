-- How a run ends whose words can't be read, or ask for nothing.
use Rattle.std.proofs.Common.{◌≡◌, ℕ, List, length, take, Option, Some, None, inl, inr, refl, sym, subst, ◌∙◌}
use Rattle.cf_base.proofs.Common.{cases_lt, Consumes-nil}
use Rattle.cf_disk.specs.Moments.{AtEachMoment}
use Rattle.cf_run_words.specs.declared.words.Command.{Command}
use Rattle.cf_run_words.specs.declared.words.Command.TheVariants as command
use Rattle.cf_run_status.specs.declared.status.Status.{Status}
use Rattle.cf_run_status.specs.declared.status.Status.TheVariants as status
use Rattle.cf_run_status.specs.Devices.{Device}
use Rattle.cf_top.specs.DoorKinds.{DoorKind}
use Rattle.cf_top.specs.Runs.{Ends, Outside}
use Rattle.cf_top.specs.Serves.{ServeEnds, ServeSays}

module _ {D R L : Type 0} (device : Device D) (kind : DoorKind R L) where
  -- there was no memory for doors that are to be served: enough of them or not
  pub ends_unprepared : (count links : ℕ) (disk : D) (doors : List R) (held : Option (List ℕ)) → AtEachMoment device.moment device.was_image disk disk (device.is_image disk)
      → ServeEnds device kind count links disk disk doors doors held held status.NoMemory
  ends_unprepared count links disk doors held rest = elim (cases_lt (length doors) count) [
    | inl few ↦ inl (record { few = few; ended = inr refl; doors_stay = refl; out = refl; same_disk = refl })
    | inr enough ↦ inr (record { enough = enough; says = (record { doors_stay = refl; content = λ t. refl; any_moment = rest }, refl); others = refl })
  ]

  -- a run of `serve` reads no chart and no input
  pub serve_reads : (count links : ℕ) (disk disk' : D) (doors doors' : List R) (held held' : Option (List ℕ)) (s : Status) → ServeEnds device kind count links disk disk' doors doors' held held' s → s ≡ status.ReadFault → ⊥
  serve_reads count links disk disk' doors doors' held held' s (inl short) e = elim short.ended [
    | inl bad ↦ (let same : status.BadWords ≡ status.ReadFault = sym bad ∙ e in cc)
    | inr none ↦ (let same : status.NoMemory ≡ status.ReadFault = sym none ∙ e in cc)
  ]
  serve_reads count links disk disk' doors doors' held held' s (inr first) e =
      subst (λ (x : Status). ServeSays device kind links disk disk' (take count doors) (take count doors') held held' x) e first.says

  -- there was no memory to read the words
  pub ends_unread : (c : Option Command) (o : Outside R) (disk : D) → AtEachMoment device.moment device.was_image disk disk (device.is_image disk) → Ends device kind c o o disk disk status.NoMemory
  ends_unread None o disk rest = record { ended = inr refl; same = refl; same_disk = refl }
  ends_unread (Some command.Found) o disk rest = (((refl, record { content = λ t. refl; any_moment = rest }, refl), λ fine. refl), refl, refl)
  ends_unread (Some command.Desk) o disk rest = (record { input = Consumes-nil o.input; out = refl; content = λ t. refl; any_moment = rest }, refl, refl)
  ends_unread (Some (command.Serve port doors links)) o disk rest = (ends_unprepared doors links disk o.doors o.out rest, refl, refl)
  ends_unread (Some (command.Report year statement csv)) o disk rest = ((record { content = λ t. refl; any_moment = rest }, refl, λ fine. refl), refl, refl, refl)
  ends_unread (Some (command.Generate n)) o disk rest = (refl, refl, refl, refl, refl)
  ends_unread (Some (command.Pool month amount desk)) o disk rest = ((record { content = λ t. refl; any_moment = rest }, refl, λ fine. refl), refl, refl, refl)
  ends_unread (Some (command.Claim grant on desk)) o disk rest = ((record { content = λ t. refl; any_moment = rest }, refl, λ fine. refl), refl, refl)
  ends_unread (Some (command.Ship from)) o disk rest = ((record { content = λ t. refl; any_moment = rest }, inl refl, λ fine. refl), refl, refl, refl)
  ends_unread (Some command.Follow) o disk rest = (inl (record { unwritten = record { content = λ t. refl; any_moment = rest }; input = Consumes-nil o.input; out = refl }), refl, refl)
