use Rattle.cf_base.proofs.Common.{err_from_is_err_and, get_or-take}
use Rattle.std.proofs.Common.{◌≡◌, ◌+◌, ◌-◌, ℕ, List, length, take, drop, sym, ◌∙◌, ap, subst, arith, Result, Ok, Err, IsOk, is_ok}
use Rattle.cf_calls.specs.declared.entry.Entry.{Entry}
use Rattle.cf_chart.specs.Common.{chart_of}
use Rattle.cf_journal.specs.Frames.{version_by, stated_head, with_chart, frames}
use Rattle.cf_journal.specs.Layout.{IsValid, IsAtRest}
use Rattle.cf_journal.specs.Records.{entries_from, gate_after}
use Rattle.cf_journal.specs.Answers.{EndsAt, GivesEntries}
use Rattle.cf_journal.proofs.RecordLaws.{gate_after-length}
use Rattle.cf_journal.proofs.Whole.{still_thrice, frames_read, whole_at_rest, frames_refused, refuses_whole, refused_records}
use Rattle.cf_journal.proofs.opening.read_journal.Goals as goal

pub returns-in-Err-clause-answer : goal.returns-in-Err-clause-answer
returns-in-Err-clause-answer g c =
    let d = g.D.Disk in
    λ told.
    let bytes = d.content c.args.disk.now in
    let version = c.in_ok-version.version in
    let n = c.in_ok-version.chart_len in
    let chart_is : c.in_ok-bytes.bytes.items ≡ take n (drop 6 bytes) = c.in_ok-bytes.ensures.bytes told ∙ ap (λ (l : List ℕ). take n (drop 6 l)) (c.read_head.ensures.content told) in
    let head : stated_head (length bytes) (take 6 bytes) ≡ Ok (version, n) = ap (λ (k : ℕ). stated_head k (take 6 bytes)) (sym (c.requires told)) ∙ c.in_ok-version.ensures.answer told in
    refuses_whole c.in-Err.e (chart_of c.deref.result.now) (frames bytes) c.in-Err.ensures (λ refused. frames_refused version bytes c.deref.result.now n (c.deref.ensures.value ∙ chart_is) head refused)

pub returns-in_err-gate-clause-answer : goal.returns-in_err-gate-clause-answer
returns-in_err-gate-clause-answer g c =
    let d = g.D.Disk in
    λ told.
    let bytes = d.content c.args.disk.now in
    let version = c.in_ok-version.version in
    let n = c.in_ok-version.chart_len in
    let chart = c.in_ok-bytes.bytes.items in
    let records = c.in_ok-records.records.items in
    let same = c.read_piece.ensures.content told ∙ c.read_head.ensures.content told in
    let chart_is : chart ≡ take n (drop 6 bytes) = c.in_ok-bytes.ensures.bytes told ∙ ap (λ (l : List ℕ). take n (drop 6 l)) (c.read_head.ensures.content told) in
    let records_are : records ≡ take (c.args.len - (6 + n)) (drop (6 + n) bytes) = c.in_ok-records.ensures.bytes told ∙ ap (λ (l : List ℕ). take (c.args.len - (6 + n)) (drop (6 + n) l)) same in
    let head : stated_head (length bytes) (take 6 bytes) ≡ Ok (version, n) = ap (λ (k : ℕ). stated_head k (take 6 bytes)) (sym (c.requires told)) ∙ c.in_ok-version.ensures.answer told in
    let accepted : IsOk (chart_of chart) = ap (λ (l : List ℕ). is_ok (chart_of l)) (sym c.deref.ensures.value) ∙ ap is_ok c.in-Ok.ensures in
    let stands = frames_read version bytes chart records n c.args.len (c.requires told) c.in_ok-version.ensures.within chart_is records_are head accepted in
    let p = err_from_is_err_and c.from_residual-in_err-gate.result c.from_residual-in_err-gate.ensures.1 in
    rw (p.1, p.2) (refused_records c.in_err-gate.field-0.0 version (6 + n) chart records (frames bytes) stands
    (subst (λ (l : List ℕ). GivesEntries (Err c.in_err-gate.field-0.0) version (6 + n) l) c.deref-2.ensures.value c.in_err-gate.ensures.answer))

pub returns-clause-states : goal.returns-clause-states
returns-clause-states g c = ap chart_of (sym c.deref.ensures.value) ∙ c.in-Ok.ensures

pub returns-clause-answer : goal.returns-clause-answer
returns-clause-answer g c =
    let d = g.D.Disk in
    λ told.
    let bytes = d.content c.args.disk.now in
    let version = c.in_ok-version.version in
    let n = c.in_ok-version.chart_len in
    let chart = c.in_ok-bytes.bytes.items in
    let records = c.in_ok-records.records.items in
    let same = c.read_piece.ensures.content told ∙ c.read_head.ensures.content told in
    let chart_is : chart ≡ take n (drop 6 bytes) = c.in_ok-bytes.ensures.bytes told ∙ ap (λ (l : List ℕ). take n (drop 6 l)) (c.read_head.ensures.content told) in
    let records_are : records ≡ take (c.args.len - (6 + n)) (drop (6 + n) bytes) = c.in_ok-records.ensures.bytes told ∙ ap (λ (l : List ℕ). take (c.args.len - (6 + n)) (drop (6 + n) l)) same in
    let head : stated_head (length bytes) (take 6 bytes) ≡ Ok (version, n) = ap (λ (k : ℕ). stated_head k (take 6 bytes)) (sym (c.requires told)) ∙ c.in_ok-version.ensures.answer told in
    let accepted : IsOk (chart_of chart) = ap (λ (l : List ℕ). is_ok (chart_of l)) (sym c.deref.ensures.value) ∙ ap is_ok c.in-Ok.ensures in
    frames_read version bytes chart records n c.args.len (c.requires told) c.in_ok-version.ensures.within chart_is records_are head accepted
    ∙ ap (λ (r : Result (List Entry) ℕ). with_chart chart r) (ap (λ (l : List ℕ). entries_from version 0 (6 + n) l) (sym c.deref-2.ensures.value) ∙ c.in_ok-gate.ensures.answer)

pub returns-clause-settled : goal.returns-clause-settled
returns-clause-settled g c =
    let d = g.D.Disk in
    λ only.
    let version = c.in_ok-version.version in
    let chart = c.in_ok-bytes.bytes.items in
    let entries = c.in_ok-gate.entries.items in
    let ends = c.in_ok-gate.ensures.layout in
    let accepted : IsOk (chart_of chart) = ap (λ (l : List ℕ). is_ok (chart_of l)) (sym c.deref.ensures.value) ∙ ap is_ok c.in-Ok.ensures in
    let size : length chart ≡ c.in_ok-version.chart_len = omega (arith, c.in_ok-bytes.ensures.len, c.in_ok-bytes.bytes.ok.0) in
    let gate_is = gate_after-length (6 + c.in_ok-version.chart_len) entries ends.all in
    record {
      clear = c.at.ensures.clear;
      stands = record {
        gate = omega (arith, c.at.ensures.gate, ends.at, gate_is, ap (λ (k : ℕ). gate_after (6 + k) entries) size);
        count = c.at.ensures.count ∙ c.len.ensures ∙ c.in_ok-gate.entries.ok.0;
      };
      valid = subst (λ (v : ℕ). IsValid v chart entries) (sym c.at.ensures.version) (record { accepted = accepted; records = ends.all; of = ends.of });
      images = λ told image is.
          let bytes = d.content c.args.disk.now in
          let n = c.in_ok-version.chart_len in
          let records = c.in_ok-records.records.items in
          let same = c.read_piece.ensures.content told ∙ c.read_head.ensures.content told in
          let chart_is : chart ≡ take n (drop 6 bytes) = c.in_ok-bytes.ensures.bytes told ∙ ap (λ (l : List ℕ). take n (drop 6 l)) (c.read_head.ensures.content told) in
          let records_are : records ≡ take (c.args.len - (6 + n)) (drop (6 + n) bytes) = c.in_ok-records.ensures.bytes told ∙ ap (λ (l : List ℕ). take (c.args.len - (6 + n)) (drop (6 + n) l)) same in
          let rest = whole_at_rest version bytes chart records n c.args.len (c.requires told) c.in_ok-version.ensures.within chart_is records_are (c.in_ok-version.ensures.version told) (c.in_ok-version.ensures.bytes told) accepted entries c.in_ok-gate.gate (subst (λ (l : List ℕ). EndsAt version (6 + n) l entries c.in_ok-gate.gate) c.deref-2.ensures.value ends) in
          let was = c.read_head.ensures.images image (c.read_piece.ensures.images image (c.read_piece-2.ensures.images image is)) in
          subst (λ (v : ℕ). IsAtRest v chart entries image) (sym c.at.ensures.version) (subst (λ (l : List ℕ). IsAtRest version chart entries l) (sym (only told image was)) rest);
    }

pub returns-clause-version : goal.returns-clause-version
returns-clause-version g c =
    let bytes = g.D.Disk.content c.args.disk.now in
    λ told. c.at.ensures.version ∙ c.in_ok-version.ensures.version told ∙ ap version_by (get_or-take 6 bytes 1 0 (omega arith))

pub returns-in_err-records-clause-any_moment : goal.returns-in_err-records-clause-any_moment
returns-in_err-records-clause-any_moment g c =
    let d = g.D.Disk in
    still_thrice d.moment d.is_image d.was_image g.met.D.Disk.only_now c.args.disk.now c.read_head.new.disk c.read_piece.new.disk c.read_piece-2.new.disk
    c.read_head.ensures.time c.read_head.ensures.images c.read_piece.ensures.time c.read_piece.ensures.images c.read_piece-2.ensures.time c.read_piece-2.ensures.images

pub returns-in_err-gate-clause-any_moment : goal.returns-in_err-gate-clause-any_moment
returns-in_err-gate-clause-any_moment g c =
    let d = g.D.Disk in
    still_thrice d.moment d.is_image d.was_image g.met.D.Disk.only_now c.args.disk.now c.read_head.new.disk c.read_piece.new.disk c.read_piece-2.new.disk
    c.read_head.ensures.time c.read_head.ensures.images c.read_piece.ensures.time c.read_piece.ensures.images c.read_piece-2.ensures.time c.read_piece-2.ensures.images

pub returns-clause-any_moment : goal.returns-clause-any_moment
returns-clause-any_moment g c =
    let d = g.D.Disk in
    still_thrice d.moment d.is_image d.was_image g.met.D.Disk.only_now c.args.disk.now c.read_head.new.disk c.read_piece.new.disk c.read_piece-2.new.disk
    c.read_head.ensures.time c.read_head.ensures.images c.read_piece.ensures.time c.read_piece.ensures.images c.read_piece-2.ensures.time c.read_piece-2.ensures.images
