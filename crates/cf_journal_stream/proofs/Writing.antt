-- Records are written one after another.
use Rattle.std.proofs.Common.{◌≡◌, ◌≢◌, ℕ, ◌+◌, ◌<◌, List, [], ◌∷◌, ◌++◌, length, take, drop, get_or, refl, sym, ◌∙◌, ap, subst, append_assoc, Option}
use Rattle.cf_base.proofs.Common.{Appends-nil, Appends-trans, append-nil, take_more, take-append-drop}
use Rattle.cf_calls.specs.declared.entry.Entry.{Entry}
use Rattle.cf_base_lines.specs.Sinks.{Wrote}
use Rattle.cf_journal.specs.Records.{record_of, records_of}
use Rattle.cf_journal.proofs.RecordLaws.{records_front, records_push}
use Rattle.cf_journal_stream.specs.Readings.{Ships}
use Rattle.cf_journal_stream.specs.declared.shipping.ShipEnd.{ShipEnd}
use Rattle.cf_journal_stream.specs.declared.shipping.ShipEnd.TheVariants as end

pub records_append : (a b : List Entry) → records_of (a ++ b) ≡ records_of a ++ records_of b
unfolding records_of
records_append [] b = refl
records_append (e ∷ a) b = ap (λ (l : List ℕ). 1 ∷ (record_of e ++ l)) (records_append a b) ∙ sym (records_front e a (records_of b))

pub records_more : (es : List Entry) (e : Entry) → records_of (es ++ e ∷ []) ≡ records_of es ++ 1 ∷ record_of e
records_more es e = sym (append-nil (records_of (es ++ e ∷ []))) ∙ records_push es e [] ∙ ap (λ (l : List ℕ). records_of es ++ 1 ∷ l) (append-nil (record_of e))

pub no_records : records_of [] ≡ []
unfolding records_of
no_records = refl

module _ (first : Option (List ℕ)) (head : List ℕ) (es : List Entry) where
  -- the records of so many entries gathered behind the head, and a front of that was written
  abbrev pub WroteTo : ℕ → Option (List ℕ) → List ℕ → Type 0
  WroteTo n held pending = Wrote first held (head ++ records_of (take n es)) pending

  pub wrote_none : WroteTo 0 first head
  wrote_none = record { done = []; joins = ap (λ (l : List ℕ). head ++ l) no_records ∙ append-nil head; put = Appends-nil first }

  -- one record more gathers
  pub wrote_record : (n : ℕ) (held : Option (List ℕ)) (pending more : List ℕ) (e : Entry) → n < length es → e ≡ get_or es n e → more ≡ pending ++ 1 ∷ record_of e → WroteTo n held pending → WroteTo (n + 1) held more
  wrote_record n held pending more e lt is grown w = record {
    done = w.done;
    joins = ap (λ (l : List Entry). head ++ records_of l) (take_more es n e lt ∙ ap (λ (x : Entry). take n es ++ x ∷ []) (sym is)) ∙ ap (λ (l : List ℕ). head ++ l) (records_more (take n es) e)
        ∙ sym (append_assoc head (records_of (take n es)) (1 ∷ record_of e)) ∙ ap (λ (l : List ℕ). l ++ 1 ∷ record_of e) w.joins ∙ append_assoc w.done pending (1 ∷ record_of e) ∙ ap (λ (l : List ℕ). w.done ++ l) (sym grown);
    put = w.put;
  }

  -- some of what gathered is written
  pub wrote_some : (n : ℕ) (held held' : Option (List ℕ)) (pending rest : List ℕ) → Wrote held held' pending rest → WroteTo n held pending → WroteTo n held' rest
  wrote_some n held held' pending rest more w = record {
    done = w.done ++ more.done;
    joins = w.joins ∙ ap (λ (l : List ℕ). w.done ++ l) more.joins ∙ sym (append_assoc w.done more.done rest);
    put = Appends-trans first held held' w.done more.done w.put more.put;
  }

  -- so a front of all is written
  pub wrote_front : (n : ℕ) (held : Option (List ℕ)) (pending : List ℕ) → WroteTo n held pending → (rest : List ℕ) × Wrote first held (head ++ records_of es) rest
  wrote_front n held pending w = (
    pending ++ records_of (drop n es),
    record {
      done = w.done;
      joins = ap (λ (l : List Entry). head ++ records_of l) (sym (take-append-drop n es)) ∙ ap (λ (l : List ℕ). head ++ l) (records_append (take n es) (drop n es)) ∙ sym (append_assoc head (records_of (take n es)) (records_of (drop n es)))
          ∙ ap (λ (l : List ℕ). l ++ records_of (drop n es)) w.joins ∙ append_assoc w.done pending (records_of (drop n es));
      put = w.put;
    },
  )

-- ---- what is behind the records

pub wrote_longer : (first held : Option (List ℕ)) (bytes rest more : List ℕ) → Wrote first held bytes rest → Wrote first held (bytes ++ more) (rest ++ more)
wrote_longer first held bytes rest more w = record { done = w.done; joins = ap (λ (l : List ℕ). l ++ more) w.joins ∙ append_assoc w.done rest more; put = w.put }

pub wrote_on : (first held held' : Option (List ℕ)) (bytes pending rest : List ℕ) → Wrote first held bytes pending → Wrote held held' pending rest → Wrote first held' bytes rest
wrote_on first held held' bytes pending rest w more = record {
  done = w.done ++ more.done;
  joins = w.joins ∙ ap (λ (l : List ℕ). w.done ++ l) more.joins ∙ sym (append_assoc w.done more.done rest);
  put = Appends-trans first held held' w.done more.done w.put more.put;
}

-- a front was written
pub ships_front : (stream : List ℕ) (held held' : Option (List ℕ)) (how : ShipEnd) → how ≢ end.Done → ((rest : List ℕ) × Wrote held held' stream rest) → Ships stream held held' how
ships_front stream held held' end.Done other w = absurd (other refl)
ships_front stream held held' end.WriteFault other w = w
ships_front stream held held' end.NoMemory other w = w

pub front_longer : (head records more : List ℕ) (held held' : Option (List ℕ)) → ((rest : List ℕ) × Wrote held held' (head ++ records) rest) → (rest : List ℕ) × Wrote held held' (head ++ (records ++ more)) rest
front_longer head records more held held' w = (w.0 ++ more, subst (λ (l : List ℕ). Wrote held held' l (w.0 ++ more)) (append_assoc head records more) (wrote_longer held held' (head ++ records) w.0 more w.1))

pub front_on : (head records more : List ℕ) (first held held' : Option (List ℕ)) (pending all : List ℕ) → Wrote first held (head ++ records) pending → all ≡ pending ++ more → ((rest : List ℕ) × Wrote held held' all rest)
    → (rest : List ℕ) × Wrote first held' (head ++ (records ++ more)) rest
front_on head records more first held held' pending all w is then =
    let whole : Wrote first held (head ++ (records ++ more)) all =
    subst (λ (l : List ℕ). Wrote first held (head ++ (records ++ more)) l) (sym is) (subst (λ (l : List ℕ). Wrote first held l (pending ++ more)) (append_assoc head records more) (wrote_longer first held (head ++ records) pending more w)) in
    (then.0, wrote_on first held held' (head ++ (records ++ more)) all then.0 whole then.1)

pub nothing_wrote : (stream : List ℕ) (held : Option (List ℕ)) → (rest : List ℕ) × Wrote held held stream rest
nothing_wrote stream held = (stream, record { done = []; joins = refl; put = Appends-nil held })
