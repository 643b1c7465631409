use Rattle.std.proofs.Common.{◌≡◌, ◌++◌, ◌∷◌, [], ◌∙◌, ap, arith, inl, refl, sym, subst, length, List, Option, IfSome}
use Rattle.cf_calls.specs.declared.call.Call.TheVariants as call
use Rattle.cf_model.specs.Common.{Entry, Accept, registers_of, made_of, verdict_of}
use Rattle.cf_model.proofs.Common.{accepted_fits, adds_accepted}
use Rattle.cf_journal_book.specs.Books.{IsDoubtAfter}
use Rattle.cf_journal_book.specs.Settling.{entry_by}
use Rattle.cf_journal_book.specs.Snapshots.{doubt_of}
use Rattle.cf_journal_book.proofs.Accepting.{value_adds, written_near}
use Rattle.cf_journal_book.proofs.Keeping.{kept_same, kept_failed, kept_added}
use Rattle.cf_journal_book.proofs.Recovering.{still_near, kept_count}
use Rattle.cf_journal_book.proofs.Replies.{memory_answers, failed_answers, accepted_answers}
use Rattle.cf_journal_book.proofs.archive.Archive.accept.Goals as goal

pub prepare-requires-clause-tables : goal.prepare-requires-clause-tables
prepare-requires-clause-tables g c = rw (← c.self.view_is) at c.requires.tables

pub invariant_of-self : goal.invariant_of-self
invariant_of-self g c =
    let b = c.self.inside in
    kept_same g.D.Disk.tells g.D.Disk.is_image b.rest.plan c.prepare.new.rest.plan b.rest.entries c.prepare.new.rest.entries b.journal c.prepare.new.journal b.disk b.chart.value.items (doubt_of b.doubt)
    c.prepare.ensures.plan c.prepare.ensures.entries c.prepare.ensures.place c.self.invariant

pub returns-in_default-clause-reply : goal.returns-in_default-clause-reply
returns-in_default-clause-reply g c =
    let b = c.self.inside in
    let p = c.prepare.ensures.plan in
    let h = c.prepare.ensures.entries in
    rw (← c.self.view_is) (memory_answers (record { plan = b.rest.plan; entries = b.rest.entries; doubt = doubt_of b.doubt; faults = g.D.Disk.faults b.disk }) (call.Change c.args.change) _
    (λ i. record { plan = p i; entries = h i; doubt = doubt_of b.doubt; faults = g.D.Disk.faults b.disk }))

pub returns-in_default-clause-any_moment : goal.returns-in_default-clause-any_moment
returns-in_default-clause-any_moment g c =
    let b = c.self.inside in
    let d = g.D.Disk in
    rw (← c.self.view_is) (still_near d.tells d.is_image d.moment d.was_image g.met.D.Disk.only_now b.rest.plan b.rest.entries b.journal b.disk b.chart.value.items (doubt_of b.doubt) _ c.self.invariant (λ e is. inl is))

pub write-requires-clause-few : goal.write-requires-clause-few
write-requires-clause-few g c =
    let b = c.self.inside in
    let said : verdict_of b.rest.plan b.rest.entries c.args.change ≡ Accept c.args.drawn = rw (← c.self.view_is) at c.requires.accepted in
    let few = accepted_fits b.rest.plan b.rest.entries (entry_by c.args.change c.args.drawn) (adds_accepted b.rest.plan b.rest.entries c.args.change c.args.drawn c.requires.form said) in
    let count = kept_count g.D.Disk.tells g.D.Disk.is_image b.rest.plan b.rest.entries b.journal b.disk b.chart.value.items (doubt_of b.doubt) c.self.invariant in
    omega (arith, c.prepare.ensures.place.count, count, few)

pub invariant_of-self-in_default-write : goal.invariant_of-self-in_default-write
invariant_of-self-in_default-write g c =
    let b = c.self.inside in
    let said : verdict_of b.rest.plan b.rest.entries c.args.change ≡ Accept c.args.drawn = rw (← c.self.view_is) at c.requires.accepted in
    kept_failed g.D.Disk.tells g.D.Disk.is_image b.rest.plan c.prepare.new.rest.plan b.rest.entries c.prepare.new.rest.entries b.journal c.prepare.new.journal c.write.new.journal b.disk c.write.new.disk
    b.chart.value.items (doubt_of b.doubt) (doubt_of c.write.new.doubt) c.in-Some.entry.value c.prepare.ensures.plan c.prepare.ensures.entries c.prepare.ensures.place
    (value_adds b.rest.plan b.rest.entries c.args.change c.args.drawn c.in-Some.entry.value c.requires.form said c.in-Some.ensures.entry) c.in_default-write.ensures.err c.in_default-write.ensures.which c.self.invariant

pub returns-in_default-write-clause-reply : goal.returns-in_default-write-clause-reply
returns-in_default-write-clause-reply g c =
    let b = c.self.inside in
    let said : verdict_of b.rest.plan b.rest.entries c.args.change ≡ Accept c.args.drawn = rw (← c.self.view_is) at c.requires.accepted in
    rw (← c.self.view_is) (failed_answers (record { plan = b.rest.plan; entries = b.rest.entries; doubt = doubt_of b.doubt; faults = g.D.Disk.faults b.disk }) c.args.change c.args.drawn _ said
    c.prepare.ensures.plan c.prepare.ensures.entries c.in_default-write.ensures.cause.failed
    (subst (λ (e : Entry). IsDoubtAfter (doubt_of b.doubt) e (doubt_of c.write.new.doubt)) c.in-Some.ensures.entry c.in_default-write.ensures.which))

pub returns-in_default-write-clause-any_moment : goal.returns-in_default-write-clause-any_moment
returns-in_default-write-clause-any_moment g c =
    let b = c.self.inside in
    let d = g.D.Disk in
    let said : verdict_of b.rest.plan b.rest.entries c.args.change ≡ Accept c.args.drawn = rw (← c.self.view_is) at c.requires.accepted in
    rw (← c.self.view_is) (written_near d.tells d.is_image d.moment d.was_image b.rest.plan b.rest.entries b.journal c.prepare.new.journal b.disk c.write.new.disk b.chart.value.items (doubt_of b.doubt) (d.faults b.disk)
    c.args.change c.args.drawn c.in-Some.entry.value c.self.invariant c.prepare.ensures.place c.requires.form said c.in-Some.ensures.entry c.write.ensures.any_moment)

pub invariant_of-self-2 : goal.invariant_of-self-2
invariant_of-self-2 g c =
    let b = c.self.inside in
    let e = entry_by c.args.change c.args.drawn in
    let said : verdict_of b.rest.plan b.rest.entries c.args.change ≡ Accept c.args.drawn = rw (← c.self.view_is) at c.requires.accepted in
    let added : c.apply_rest-made.new.rest.entries ≡ c.prepare.new.rest.entries ++ e ∷ [] =
    subst (λ (o : Option Entry). IfSome o (λ x. c.apply_rest-made.new.rest.entries ≡ c.prepare.new.rest.entries ++ x ∷ [])) c.in-Some.ensures.ready c.apply_rest-made.ensures.entries in
    let now : c.apply_rest-made.new.rest.entries ≡ b.rest.entries ++ c.in-Some.entry.value ∷ [] = added ∙ ap (λ x. x ++ e ∷ []) c.prepare.ensures.entries ∙ ap (λ x. b.rest.entries ++ x ∷ []) (sym c.in-Some.ensures.entry) in
    kept_added g.D.Disk.tells g.D.Disk.is_image b.rest.plan c.apply_rest-made.new.rest.plan b.rest.entries c.apply_rest-made.new.rest.entries b.journal c.prepare.new.journal c.write.new.journal b.disk c.write.new.disk
    b.chart.value.items (doubt_of b.doubt) (doubt_of c.write.new.doubt) c.in-Some.entry.value (c.apply_rest-made.ensures.plan ∙ c.prepare.ensures.plan) now c.prepare.ensures.place
    (value_adds b.rest.plan b.rest.entries c.args.change c.args.drawn c.in-Some.entry.value c.requires.form said c.in-Some.ensures.entry) c.in-Ok.ensures.ok c.in-Ok.ensures.none c.self.invariant

pub returns-clause-reply : goal.returns-clause-reply
returns-clause-reply g c =
    let b = c.self.inside in
    let e = entry_by c.args.change c.args.drawn in
    let said : verdict_of b.rest.plan b.rest.entries c.args.change ≡ Accept c.args.drawn = rw (← c.self.view_is) at c.requires.accepted in
    let plan = c.prepare.new.rest.plan in
    let h = c.prepare.new.rest.entries in
    let added : c.apply_rest-made.new.rest.entries ≡ h ++ e ∷ [] =
    subst (λ (o : Option Entry). IfSome o (λ x. c.apply_rest-made.new.rest.entries ≡ h ++ x ∷ [])) c.in-Some.ensures.ready c.apply_rest-made.ensures.entries in
    let makes : c.apply_rest-made.result ≡ made_of plan (registers_of plan h) e =
    subst (λ (o : Option Entry). IfSome o (λ x. c.apply_rest-made.result ≡ made_of plan (registers_of plan h) x)) c.in-Some.ensures.ready c.apply_rest-made.ensures.made in
    let made : c.apply_rest-made.result ≡ made_of b.rest.plan (registers_of b.rest.plan b.rest.entries) e =
    makes ∙ (λ i. made_of (c.prepare.ensures.plan i) (registers_of (c.prepare.ensures.plan i) (c.prepare.ensures.entries i)) e) in
    rw (← c.self.view_is) (accepted_answers (record { plan = b.rest.plan; entries = b.rest.entries; doubt = doubt_of b.doubt; faults = g.D.Disk.faults b.disk }) c.args.change c.args.drawn (length c.entries.result.now) c.apply_rest-made.result _ said
    (c.apply_rest-made.ensures.plan ∙ c.prepare.ensures.plan) (added ∙ ap (λ x. x ++ e ∷ []) c.prepare.ensures.entries) c.in-Ok.ensures.none c.in-Ok.ensures.quiet (ap length c.entries.ensures.value) made)

pub returns-clause-any_moment : goal.returns-clause-any_moment
returns-clause-any_moment g c =
    let b = c.self.inside in
    let d = g.D.Disk in
    let said : verdict_of b.rest.plan b.rest.entries c.args.change ≡ Accept c.args.drawn = rw (← c.self.view_is) at c.requires.accepted in
    rw (← c.self.view_is) (written_near d.tells d.is_image d.moment d.was_image b.rest.plan b.rest.entries b.journal c.prepare.new.journal b.disk c.write.new.disk b.chart.value.items (doubt_of b.doubt) (d.faults b.disk)
    c.args.change c.args.drawn c.in-Some.entry.value c.self.invariant c.prepare.ensures.place c.requires.form said c.in-Some.ensures.entry c.write.ensures.any_moment)

pub returns-clause-grows : goal.returns-clause-grows
returns-clause-grows g c =
    let b = c.self.inside in
    let e = entry_by c.args.change c.args.drawn in
    let added : c.apply_rest-made.new.rest.entries ≡ c.prepare.new.rest.entries ++ e ∷ [] =
    subst (λ (o : Option Entry). IfSome o (λ x. c.apply_rest-made.new.rest.entries ≡ c.prepare.new.rest.entries ++ x ∷ [])) c.in-Some.ensures.ready c.apply_rest-made.ensures.entries in
    rw (← c.self.view_is) (e, added ∙ ap (λ (x : List Entry). x ++ e ∷ []) c.prepare.ensures.entries, refl, c.in-Some.ensures.owed)
